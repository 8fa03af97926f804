-- The steps of a run: from "all that is closed at the previous watermark was given" to "all that is closed at this watermark was
-- given".
use Rattle.std.proofs.Common.{◌≡◌, ℕ, ◌+◌, ◌<◌, ◌≤◌, ◌^◌, Bool, cond, List, [], ◌∷◌, ◌++◌, Option, None, Some, IfSome, IfNone, Contains, All, refl, sym, ap, subst, ◌∙◌, arith, le-ltb}
use Rattle.std.proofs.lemmas.List.{append_assoc, append-nil}
use Rattle.std.proofs.lemmas.List.Elements.{All-append}
use Rattle.nav_eph.specs.declared.part.Part.{Part}
use Rattle.periods.specs.declared.key.PeriodId.{PeriodId}
use Rattle.periods.specs.declared.closed.Closed.{Closed}
use Rattle.nav_eph.specs.Values.{IsPartValue}
use Rattle.periods.specs.Verdicts.{closed_place}
use Rattle.periods.specs.PeriodLists.{IsPeriodPrefix, closed_at}
use Rattle.slot_assembly.specs.Standing.{Standing, Stood, Tells, Carries, IsNext, NoneDue, giving, reaching, taking, adding, unchanged, nothing_yet}
use Rattle.slot_assembly.specs.Given.{HasGiven, last_from, flushed}
use Rattle.periods.specs.PeriodsOf.{closed_of, periods_of}
use Rattle.periods.proofs.Surface.{all_values, later_parts, closed_of-later, closed_of-rise, closed_of-all}
use Rattle.slot_assembly.proofs.GivenLemmas.{closed_given, HasGiven-more, HasGiven-rise, given_is, given_prefix, last_from-push}

-- the parts, a watermark and the last period of a list
abbrev pub standing : List Part → ℕ → Option PeriodId → Standing
standing parts watermark last = record { parts = parts; watermark = watermark; last = last }

-- Of the parts, all periods closed at the first watermark were given, and after them some of those closed at the second.
pub record Gives (now : Standing → Type 0) (r w before watermark : ℕ) (parts : List Part) (given : List Closed) : Type 0 where
  pub at_watermark : ℕ
  pub within : at_watermark ≤ watermark
  pub stands : now (standing parts at_watermark (last_from None given))
  pub gave : HasGiven r w (Contains parts) watermark (last_from None given) given
  pub no_less : IsPeriodPrefix (closed_of r w before parts) given

-- the parts that an assembly stands for are values
abbrev pub HasValues : (Standing → Type 0) → Type 0
HasValues now = (at : Standing) → now at → All IsPartValue at.parts

-- before the first call at a watermark
pub gives_start : (now : Standing → Type 0) (r w before watermark : ℕ) (parts : List Part) → HasValues now → before ≤ watermark
    → now (flushed r w parts before) → Gives now r w before watermark parts (closed_of r w before parts)
gives_start now r w before watermark parts values l stands =
    let given = closed_of r w before parts in
    record {
      at_watermark = before;
      within = l;
      stands = stands;
      gave = HasGiven-rise r w (Contains parts) before watermark (last_from None given) given l
          (closed_given r w before parts (all_values parts (values (flushed r w parts before) stands)));
      no_less = ([], sym (append-nil given));
    }

longer_prefix : (xs ys : List Closed) (c : Closed) → IsPeriodPrefix xs ys → IsPeriodPrefix xs (ys ++ c ∷ [])
longer_prefix xs ys c p = (p.0 ++ c ∷ [], ap (λ (l : List Closed). l ++ c ∷ []) p.1 ∙ append_assoc xs p.0 (c ∷ []))

-- after a period was given
pub gives_more : (now new : Standing → Type 0) (r w before watermark : ℕ) (parts : List Part) (given : List Closed) (c : Closed) → HasValues now
    → Tells now (λ at. IsNext r w (Contains at.parts) watermark at.last c) → Carries now new (giving watermark (closed_place c))
    → Gives now r w before watermark parts given → Gives new r w before watermark parts (given ++ c ∷ [])
gives_more now new r w before watermark parts given c values next carries h =
    let at = standing parts h.at_watermark (last_from None given) in
    let e = last_from-push None given c in
    record {
      at_watermark = watermark;
      within = omega arith;
      stands = subst (λ (o : Option PeriodId). new (standing parts watermark o)) (sym e) (carries at h.stands);
      gave = subst (λ (o : Option PeriodId). HasGiven r w (Contains parts) watermark o (given ++ c ∷ [])) (sym e)
          (HasGiven-more r w (Contains parts) watermark (last_from None given) given c (all_values parts (values at h.stands)) (next at h.stands) h.gave);
      no_less = longer_prefix (closed_of r w before parts) given c h.no_less;
    }

-- after memory ran out
pub gives_same : (now new : Standing → Type 0) (r w before watermark : ℕ) (parts : List Part) (given : List Closed)
    → Carries now new unchanged → Gives now r w before watermark parts given → Gives new r w before watermark parts given
gives_same now new r w before watermark parts given carries h = record {
  at_watermark = h.at_watermark;
  within = h.within;
  stands = carries (standing parts h.at_watermark (last_from None given)) h.stands;
  gave = h.gave;
  no_less = h.no_less;
}

-- after the answer `None`
pub gives_all : (now new : Standing → Type 0) (r w before watermark : ℕ) (parts : List Part) (given : List Closed) → HasValues now
    → Tells now (λ at. NoneDue w (Contains at.parts) watermark at.last) → Carries now new (reaching watermark) → Gives now r w before watermark parts given
    → new (flushed r w parts watermark) × (given ≡ closed_of r w watermark parts)
gives_all now new r w before watermark parts given values none carries h =
    let at = standing parts h.at_watermark (last_from None given) in
    let e = given_is r w watermark parts (last_from None given) given (all_values parts (values at h.stands)) (none at h.stands) h.gave in
    (subst (λ (cs : List Closed). new (standing parts watermark (last_from None cs))) e (carries at h.stands), e)

-- for every state
pub gives_prefix : (now : Standing → Type 0) (r w before watermark : ℕ) (parts : List Part) (given : List Closed) → HasValues now
    → Gives now r w before watermark parts given → IsPeriodPrefix given (closed_of r w watermark parts)
gives_prefix now r w before watermark parts given values h =
    let at = standing parts h.at_watermark (last_from None given) in
    given_prefix r w watermark parts (last_from None given) given (all_values parts (values at h.stands)) h.gave

-- an answer for an equal reference week and window
pub next_at : (now : Standing → Type 0) (r s w v watermark : ℕ) (c : Closed) → r ≡ s → w ≡ v
    → Tells now (λ at. IsNext r w (Contains at.parts) watermark at.last c) → Tells now (λ at. IsNext s v (Contains at.parts) watermark at.last c)
next_at now r s w v watermark c e f told =
    subst (λ (x : ℕ). Tells now (λ at. IsNext s x (Contains at.parts) watermark at.last c)) f
    (subst (λ (x : ℕ). Tells now (λ at. IsNext x w (Contains at.parts) watermark at.last c)) e told)

pub none_at : (now : Standing → Type 0) (w v watermark : ℕ) → w ≡ v
    → Tells now (λ at. NoneDue w (Contains at.parts) watermark at.last) → Tells now (λ at. NoneDue v (Contains at.parts) watermark at.last)
none_at now w v watermark f told = subst (λ (x : ℕ). Tells now (λ at. NoneDue x (Contains at.parts) watermark at.last)) f told

-- it still stands for some state at the watermark: after a period given, after memory ran out, after any answer, and after a part
-- taken
pub stood_giving : (now new : Standing → Type 0) (watermark : ℕ) (q : PeriodId) → Stood now (λ at. at.watermark ≤ watermark) → Carries now new (giving watermark q) → Stood new (λ at. at.watermark ≤ watermark)
stood_giving now new watermark q s carries = (giving watermark q s.0, carries s.0 s.1, omega arith)

pub stood_same : (now new : Standing → Type 0) (watermark : ℕ) → Stood now (λ at. at.watermark ≤ watermark) → Carries now new unchanged → Stood new (λ at. at.watermark ≤ watermark)
stood_same now new watermark s carries = (s.0, carries s.0 s.1, s.2)

pub stood_reaching : (now new : Standing → Type 0) (watermark : ℕ) → Stood now (λ at. at.watermark ≤ watermark) → Carries now new (reaching watermark) → Stood new (λ at. at.watermark ≤ watermark)
stood_reaching now new watermark s carries = (reaching watermark s.0, carries s.0 s.1, omega arith)

pub stood_asked : (now new : Standing → Type 0) (watermark : ℕ) (answer : Option Closed) → Stood now (λ at. at.watermark ≤ watermark)
    → IfSome answer (λ closed. Carries now new (giving watermark (closed_place closed))) → IfNone answer (Carries now new (reaching watermark)) → Stood new (λ at. at.watermark ≤ watermark)
stood_asked now new watermark None s given reached = stood_reaching now new watermark s reached
stood_asked now new watermark (Some c) s given reached = stood_giving now new watermark (closed_place c) s given

pub stood_taking : (now new : Standing → Type 0) (watermark : ℕ) (p : Part) → Stood now (λ at. at.watermark ≤ watermark) → Carries now new (taking p) → Stood new (λ at. at.watermark ≤ watermark)
stood_taking now new watermark p s carries = (taking p s.0, carries s.0 s.1, s.2)

pub stood_adding : (now new : Standing → Type 0) (watermark : ℕ) (ps : List Part) → Stood now (λ at. at.watermark ≤ watermark) → Carries now new (adding ps) → Stood new (λ at. at.watermark ≤ watermark)
stood_adding now new watermark ps s carries = (adding ps s.0, carries s.0 s.1, s.2)

-- parts taken one after another: none, and one more after these
pub adding_none : (now : Standing → Type 0) → Carries now now (adding [])
adding_none now at h = subst (λ (ps : List Part). now (record { parts = ps; watermark = at.watermark; last = at.last })) (sym (append-nil at.parts)) h

pub adding_more : (now middle new : Standing → Type 0) (ps qs : List Part) → Carries now middle (adding ps) → Carries middle new (adding qs) → Carries now new (adding (ps ++ qs))
adding_more now middle new ps qs h k at stands =
    subst (λ (xs : List Part). new (record { parts = xs; watermark = at.watermark; last = at.last })) (append_assoc at.parts ps qs) (k (adding ps at) (h at stands))

-- nothing is closed at the watermark 0
closed_none : (w : ℕ) (xs : List Closed) → closed_at w 0 xs ≡ []
closed_none w [] = refl
closed_none w (x ∷ xs) = subst (λ (b : Bool). cond b (x ∷ closed_at w 0 xs) (closed_at w 0 xs) ≡ []) (sym (le-ltb (x.end + w) 0 (omega arith))) (closed_none w xs)

pub closed_of-none : (r w : ℕ) (parts : List Part) → closed_of r w 0 parts ≡ []
unfolding closed_of
closed_of-none r w parts = closed_none w (periods_of r w parts)

-- further parts: what was given before is still all that is closed
pub flushed_take : (now new : Standing → Type 0) (r w before : ℕ) (parts ps : List Part) → HasValues new → All (λ p. before ≤ p.stamp) ps
    → Carries now new (adding ps) → now (flushed r w parts before)
    → new (flushed r w (parts ++ ps) before) × (closed_of r w before (parts ++ ps) ≡ closed_of r w before parts)
flushed_take now new r w before parts ps values l carries h =
    let k = carries (flushed r w parts before) h in
    let e = closed_of-later r w before parts ps (all_values (parts ++ ps) (values (adding ps (flushed r w parts before)) k)) (later_parts before parts ps l) in
    (subst (λ (cs : List Closed). new (standing (parts ++ ps) before (last_from None cs))) (sym e) k, e)

-- parts that were not taken: what was given is a prefix of what is closed with them
pub prefix_take : (now : Standing → Type 0) (r w before watermark : ℕ) (parts ps : List Part) → HasValues now → All IsPartValue ps → All (λ p. before ≤ p.stamp) ps
    → before ≤ watermark → now (flushed r w parts before) → IsPeriodPrefix (closed_of r w before parts) (closed_of r w watermark (parts ++ ps))
prefix_take now r w before watermark parts ps values v l m h =
    let all = All-append IsPartValue parts ps (values (flushed r w parts before) h) v in
    let same = closed_of-later r w before parts ps (all_values (parts ++ ps) all) (later_parts before parts ps l) in
    subst (λ (cs : List Closed). IsPeriodPrefix cs (closed_of r w watermark (parts ++ ps))) same (closed_of-rise r w before watermark (parts ++ ps) m)

-- at the greatest watermark all is closed
pub closed_of-last : (r w watermark : ℕ) (parts : List Part) → All IsPartValue parts → w < 2 ^ 32 → watermark ≡ 18446744073709551615 → closed_of r w watermark parts ≡ periods_of r w parts
closed_of-last r w watermark parts all l e = closed_of-all r w watermark parts (λ p i. omega (arith, (all_values parts all p i).stamp))

-- before the first part
pub flushed_nothing : (now : Standing → Type 0) (r w : ℕ) → now nothing_yet → now (flushed r w [] 0)
flushed_nothing now r w h = subst (λ (cs : List Closed). now (standing [] 0 (last_from None cs))) (sym (closed_of-none r w [])) h

-- parts of which nothing was given yet
pub flushed_parts : (now : Standing → Type 0) (r w : ℕ) (parts : List Part) → now (standing parts 0 None) → now (flushed r w parts 0)
flushed_parts now r w parts h = subst (λ (cs : List Closed). now (standing parts 0 (last_from None cs))) (sym (closed_of-none r w parts)) h
