-- Writing what is closed: the periods given so far, their texts, and what was counted of them.
use Rattle.std.proofs.Common.{◌≡◌, ℕ, ◌+◌, ◌<◌, ◌≤◌, ◌^◌, List, [], ◌∷◌, ◌++◌, length, refl, sym, ap, subst, ◌∙◌, arith, append_assoc, append-nil, length-append}
use Rattle.std.specs.Prelude.{Option, Contains}
use Rattle.std.specs.Io.KnownBytes.{Appends}
use Rattle.std.proofs.KnownBytes.{Appends-trans}
use Rattle.std.proofs.lemmas.Grind.{flat_map-append}
use Rattle.std.proofs.lemmas.List.Sums.{sum-map, sum_by-cons}
use Rattle.std.specs.List.{sum_by}
use Rattle.nav_eph.specs.declared.part.Part.{Part}
use Rattle.nav_io.specs.Prefix.{AppendsPrefix, IsPrefix}
use Rattle.periods.specs.PeriodLists.{IsPeriodPrefix, item_in, items_in}
use Rattle.periods.specs.PeriodsOf.{closed_of, periods_of}
use Rattle.periods.specs.Verdicts.{closed_place}
use Rattle.periods.specs.declared.closed.Closed.{Closed}
use Rattle.periods.specs.declared.closed.Verdict.{Verdict}
use Rattle.periods.specs.declared.closed.Verdict.TheVariants.{Whole, Partial, Contradicted, NoHealth, Again}
use Rattle.periods.proofs.Surface.{closed_of-prefix}
use Rattle.slot_assembly.specs.Standing.{Standing, Tells, Carries, IsNext, NoneDue, giving, reaching}
use Rattle.slot_assembly.proofs.Surface.{Gives, HasValues, gives_start, gives_more, gives_all, gives_prefix}
use Rattle.streams.specs.declared.target.Target.{Target}
use Rattle.captures.specs.declared.counts.VerdictCounts.{VerdictCounts}
use Rattle.streams.specs.Targets.{period_text}
use Rattle.streams.specs.Times.{times_with}
use Rattle.streams.specs.declared.times.Times.{Times}
use Rattle.streams.proofs.Surface.{times_behind}
use Rattle.captures.specs.Captures.{texts_of, verdicts, is_whole, is_partial, is_contradicted, is_nohealth, is_again}
use Rattle.one_run.specs.Runs.{AppendsBetween}
use Rattle.captures.specs.Flushed.{HasRoom, Flushed, said, said_of, total_said}

-- ---- texts of periods

-- the texts of some periods are a prefix of those of more
pub texts_prefix : (to : Target) (xs ys : List Closed) → IsPeriodPrefix xs ys → IsPrefix (texts_of to xs) (texts_of to ys)
texts_prefix to xs ys (rest, e) = (texts_of to rest, ap (texts_of to) e ∙ flat_map-append (period_text to) xs rest)

-- ---- counts of periods

add_more : (a b c d : ℕ) → d ≡ b + c → (a + b) + c ≡ a + d
add_more a b c d e = omega (arith, e)

verdicts_by : (kind : Verdict → ℕ) (cs : List Closed) → verdicts kind cs ≡ sum_by (λ (x : Closed). kind x.verdict) cs
verdicts_by kind cs = sum-map (λ (x : Closed). kind x.verdict) cs

verdicts_cons : (kind : Verdict → ℕ) (c : Closed) (cs : List Closed) → verdicts kind (c ∷ cs) ≡ kind c.verdict + verdicts kind cs
verdicts_cons kind c cs =
    verdicts_by kind (c ∷ cs) ∙ sum_by-cons (λ (x : Closed). kind x.verdict) c cs ∙ ap (λ n. kind c.verdict + n) (sym (verdicts_by kind cs))

add_comm : (a b : ℕ) → a + b ≡ b + a
add_comm a b = omega arith

verdicts_more : (kind : Verdict → ℕ) (cs : List Closed) (c : Closed) → verdicts kind (cs ++ c ∷ []) ≡ verdicts kind cs + kind c.verdict
verdicts_more kind [] c = verdicts_cons kind c [] ∙ add_comm (kind c.verdict) (verdicts kind [])
verdicts_more kind (x ∷ cs) c =
    verdicts_cons kind x (cs ++ c ∷ []) ∙ sym (add_more (kind x.verdict) (verdicts kind cs) (kind c.verdict) (verdicts kind (cs ++ c ∷ [])) (verdicts_more kind cs c))
    ∙ ap (λ n. n + kind c.verdict) (sym (verdicts_cons kind x cs))

abbrev said_by : ℕ → ℕ → ℕ → ℕ → ℕ → Option Times → VerdictCounts
said_by a b c d e times = record { whole = a; partial = b; contradicted = c; nohealth = d; again = e; times = times }

same_said : (a b c d e f g h i j : ℕ) (times more : Option Times) → a ≡ f → b ≡ g → c ≡ h → d ≡ i → e ≡ j → times ≡ more → said_by a b c d e times ≡ said_by f g h i j more
same_said a b c d e f g h i j times more p q r s t u = rw (p, q, r, s, t, u) refl

-- the times with the item of one period more
closed_times : (times : Option Times) (cs : List Closed) (c : Closed) → times_with times (items_in (cs ++ c ∷ [])) ≡ times_with (times_with times (items_in cs)) (item_in c.verdict)
closed_times times [] c = ap (times_with times) (append-nil (item_in c.verdict))
closed_times times (x ∷ cs) c =
    times_behind times (item_in x.verdict) (items_in (cs ++ c ∷ [])) ∙ closed_times (times_with times (item_in x.verdict)) cs c
    ∙ ap (λ (t : Option Times). times_with t (item_in c.verdict)) (sym (times_behind times (item_in x.verdict) (items_in cs)))

-- one period more
pub said_more : (cs : List Closed) (c : Closed) → said_of (cs ++ c ∷ []) ≡ said (said_of cs) c.verdict
said_more cs c = same_said _ _ _ _ _ _ _ _ _ _ _ _ (verdicts_more is_whole cs c) (verdicts_more is_partial cs c) (verdicts_more is_contradicted cs c) (verdicts_more is_nohealth cs c)
    (verdicts_more is_again cs c) (closed_times _ cs c)

one_verdict : (v : Verdict) → is_whole v + is_partial v + is_contradicted v + is_nohealth v + is_again v ≡ 1
one_verdict (Whole item) = refl
one_verdict Partial = refl
one_verdict Contradicted = refl
one_verdict NoHealth = refl
one_verdict Again = refl

sum_of : (a b c d e f g h i j n m a1 b1 c1 d1 e1 : ℕ) → a + b + c + d + e ≡ 1 → f + g + h + i + j ≡ n → m ≡ n + 1
    → a1 ≡ a + f → b1 ≡ b + g → c1 ≡ c + h → d1 ≡ d + i → e1 ≡ e + j → a1 + b1 + c1 + d1 + e1 ≡ m
sum_of a b c d e f g h i j n m a1 b1 c1 d1 e1 x y z p q r s t = omega arith

-- each period is counted once
pub all_said : (cs : List Closed) → total_said (said_of cs) ≡ length cs
all_said [] = refl
all_said (c ∷ cs) =
    sum_of (is_whole c.verdict) (is_partial c.verdict) (is_contradicted c.verdict) (is_nohealth c.verdict) (is_again c.verdict) (verdicts is_whole cs) (verdicts is_partial cs) (verdicts is_contradicted cs)
    (verdicts is_nohealth cs) (verdicts is_again cs) (length cs) (length (c ∷ cs)) _ _ _ _ _ (one_verdict c.verdict) (all_said cs) (omega arith)
    (verdicts_cons is_whole c cs) (verdicts_cons is_partial c cs) (verdicts_cons is_contradicted c cs) (verdicts_cons is_nohealth c cs) (verdicts_cons is_again c cs)

-- ---- the periods given so far

-- Of the parts all periods closed at the first watermark were given, and then some of those closed at the second; the texts of
-- these were written, and they were counted.
pub record Writes (now : Standing → Type 0) (r w : ℕ) (to : Target) (before watermark : ℕ) (parts : List Part) (start written : Option (List ℕ)) (counted : VerdictCounts) : Type 0 where
  pub given : List Closed
  pub gives : Gives now r w before watermark parts given
  pub text : Appends start written (texts_of to given)
  pub counts : counted ≡ said_of given

pub writes_start : (now : Standing → Type 0) (r w : ℕ) (to : Target) (before watermark : ℕ) (parts : List Part) (start written : Option (List ℕ)) (counted : VerdictCounts)
    → HasValues now → before ≤ watermark → Flushed now r w to parts before start written counted → Writes now r w to before watermark parts start written counted
writes_start now r w to before watermark parts start written counted values l s = record {
  given = closed_of r w before parts;
  gives = gives_start now r w before watermark parts values l s.stands;
  text = s.text;
  counts = s.counts;
}

-- a period was given, written and counted
pub writes_more : (now new : Standing → Type 0) (r w : ℕ) (to : Target) (before watermark : ℕ) (parts : List Part) (start written written_new : Option (List ℕ)) (counted counted_new : VerdictCounts) (c : Closed)
    → HasValues now → Tells now (λ at. IsNext r w (Contains at.parts) watermark at.last c) → Carries now new (giving watermark (closed_place c))
    → Appends written written_new (period_text to c) → counted_new ≡ said counted c.verdict
    → Writes now r w to before watermark parts start written counted → Writes new r w to before watermark parts start written_new counted_new
writes_more now new r w to before watermark parts start written written_new counted counted_new c values next carries out one h = record {
  given = h.given ++ c ∷ [];
  gives = gives_more now new r w before watermark parts h.given c values next carries h.gives;
  text = subst (Appends start written_new) (ap (λ l. texts_of to h.given ++ l) (sym (append-nil (period_text to c))) ∙ sym (flat_map-append (period_text to) h.given (c ∷ [])))
      (Appends-trans start written written_new (texts_of to h.given) (period_text to c) h.text out);
  counts = one ∙ ap (λ s. said s c.verdict) h.counts ∙ sym (said_more h.given c);
}

-- what was written so far
pub writes_some : (now : Standing → Type 0) (r w : ℕ) (to : Target) (before watermark : ℕ) (parts : List Part) (start written : Option (List ℕ)) (counted : VerdictCounts)
    → HasValues now → Writes now r w to before watermark parts start written counted
    → AppendsBetween start written (texts_of to (closed_of r w before parts)) (texts_of to (closed_of r w watermark parts))
writes_some now r w to before watermark parts start written counted values h = record {
  prefix = texts_of to h.given;
  within = texts_prefix to h.given (closed_of r w watermark parts) (gives_prefix now r w before watermark parts h.given values h.gives);
  no_less = texts_prefix to (closed_of r w before parts) h.given h.gives.no_less;
  grew = h.text;
}

-- a write failed at the text of a period
pub writes_part : (now new : Standing → Type 0) (r w : ℕ) (to : Target) (before watermark : ℕ) (parts : List Part) (start written written_new : Option (List ℕ)) (counted : VerdictCounts) (c : Closed)
    → HasValues now → HasValues new → Tells now (λ at. IsNext r w (Contains at.parts) watermark at.last c) → Carries now new (giving watermark (closed_place c))
    → AppendsPrefix written written_new (period_text to c) → Writes now r w to before watermark parts start written counted
    → AppendsBetween start written_new (texts_of to (closed_of r w before parts)) (texts_of to (closed_of r w watermark parts))
writes_part now new r w to before watermark parts start written written_new counted c values values_new next carries (prefix, (behind, whole), out) h =
    let more = gives_more now new r w before watermark parts h.given c values next carries h.gives in
    let within = texts_prefix to (h.given ++ c ∷ []) (closed_of r w watermark parts) (gives_prefix new r w before watermark parts (h.given ++ c ∷ []) values_new more) in
    let less = texts_prefix to (closed_of r w before parts) h.given h.gives.no_less in
    record {
      prefix = texts_of to h.given ++ prefix;
      within = (
        behind ++ within.0,
        within.1
            ∙ ap (λ (l : List ℕ). l ++ within.0) (flat_map-append (period_text to) h.given (c ∷ []) ∙ ap (λ (l : List ℕ). texts_of to h.given ++ l) (append-nil (period_text to c) ∙ whole))
            ∙ ap (λ (l : List ℕ). l ++ within.0) (sym (append_assoc (texts_of to h.given) prefix behind))
            ∙ append_assoc (texts_of to h.given ++ prefix) behind within.0,
      );
      no_less = (less.0 ++ prefix, ap (λ (l : List ℕ). l ++ prefix) less.1 ∙ append_assoc (texts_of to (closed_of r w before parts)) less.0 prefix);
      grew = Appends-trans start written written_new (texts_of to h.given) prefix h.text out;
    }

-- nothing more is closed
pub writes_all : (now new : Standing → Type 0) (r w : ℕ) (to : Target) (before watermark : ℕ) (parts : List Part) (start written : Option (List ℕ)) (counted : VerdictCounts)
    → HasValues now → Tells now (λ at. NoneDue w (Contains at.parts) watermark at.last) → Carries now new (reaching watermark)
    → Writes now r w to before watermark parts start written counted → Flushed new r w to parts watermark start written counted
writes_all now new r w to before watermark parts start written counted values none carries h =
    let all = gives_all now new r w before watermark parts h.given values none carries h.gives in
    record {
      stands = all.0;
      text = subst (λ (cs : List Closed). Appends start written (texts_of to cs)) all.1 h.text;
      counts = h.counts ∙ ap said_of all.1;
    }

-- ---- the counts have room

-- parts of fewer than 2^64 periods, of which those given so far were counted
pub record Counts (now : Standing → Type 0) (r w watermark : ℕ) (counted : VerdictCounts) : Type 0 where
  pub parts : List Part
  pub before : ℕ
  pub few : length (periods_of r w parts) < 2 ^ 64
  pub given : List Closed
  pub gives : Gives now r w before watermark parts given
  pub counts : counted ≡ said_of given

pub counts_start : (now : Standing → Type 0) (r w watermark : ℕ) (counted : VerdictCounts) → HasValues now → HasRoom now r w watermark counted → Counts now r w watermark counted
counts_start now r w watermark counted values room = record {
  parts = room.parts;
  before = room.before;
  few = room.few;
  given = closed_of r w room.before room.parts;
  gives = gives_start now r w room.before watermark room.parts values room.low room.stands;
  counts = room.counts;
}

pub counts_more : (now new : Standing → Type 0) (r w watermark : ℕ) (counted counted_new : VerdictCounts) (c : Closed) → HasValues now
    → Tells now (λ at. IsNext r w (Contains at.parts) watermark at.last c) → Carries now new (giving watermark (closed_place c)) → counted_new ≡ said counted c.verdict
    → Counts now r w watermark counted → Counts new r w watermark counted_new
counts_more now new r w watermark counted counted_new c values next carries one h = record {
  parts = h.parts;
  before = h.before;
  few = h.few;
  given = h.given ++ c ∷ [];
  gives = gives_more now new r w h.before watermark h.parts h.given c values next carries h.gives;
  counts = one ∙ ap (λ s. said s c.verdict) h.counts ∙ sym (said_more h.given c);
}

prefix_length : (xs ys : List Closed) → IsPeriodPrefix xs ys → length xs ≤ length ys
prefix_length xs ys (rest, e) = omega (arith, ap length e, length-append xs rest)

-- a period that is given can be counted
pub counts_one : (now new : Standing → Type 0) (r w watermark : ℕ) (counted : VerdictCounts) (c : Closed) → HasValues now → HasValues new
    → Tells now (λ at. IsNext r w (Contains at.parts) watermark at.last c) → Carries now new (giving watermark (closed_place c))
    → Counts now r w watermark counted → total_said counted + 1 < 2 ^ 64
counts_one now new r w watermark counted c values values_new next carries h =
    let more = gives_more now new r w h.before watermark h.parts h.given c values next carries h.gives in
    let closed = prefix_length (h.given ++ c ∷ []) (closed_of r w watermark h.parts) (gives_prefix new r w h.before watermark h.parts (h.given ++ c ∷ []) values_new more) in
    let all = prefix_length (closed_of r w watermark h.parts) (periods_of r w h.parts) (closed_of-prefix r w watermark h.parts) in
    omega (arith, closed, all, h.few, all_said h.given, ap total_said h.counts, length-append h.given (c ∷ []))
