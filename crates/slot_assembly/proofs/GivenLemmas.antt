-- The periods that a loop has given so far: one more period, a higher watermark, and all closed ones where none is due.
use Rattle.std.proofs.Common.{◌≡◌, ℕ, ◌+◌, ◌<◌, ◌≤◌, ◌⊎◌, inl, inr, List, [], ◌∷◌, ◌++◌, Option, None, Some, Contains, refl, sym, subst, ◌∙◌, arith}
use Rattle.std.specs.List.{AllByRecursion}
use Rattle.std.proofs.lemmas.Bool.{cases_lt}
use Rattle.std.proofs.lemmas.List.Elements.{Contains-append_left, Contains-push, Contains-push_cases}
use Rattle.nav_eph.specs.declared.part.Part.{Part}
use Rattle.periods.proofs.Surface.{In, In-from_contains, contains_from_In}
use Rattle.periods.specs.declared.key.PeriodId.{PeriodId}
use Rattle.periods.specs.declared.closed.Closed.{Closed}
use Rattle.nav_eph.specs.Values.{IsPartValue}
use Rattle.periods.specs.Periods.{IsBefore}
use Rattle.periods.specs.Verdicts.{IsClosed, closed_place}
use Rattle.periods.specs.PeriodLists.{IsAscending, IsPeriodPrefix}
use Rattle.slot_assembly.specs.Standing.{IsAfter, IsNext, NoneDue}
use Rattle.slot_assembly.specs.Given.{GivenBelow, HasGiven, last_from}
use Rattle.periods.specs.PeriodsOf.{closed_of}
use Rattle.periods.proofs.Surface.{cases_place}
use Rattle.periods.proofs.Surface.{AreLater, IsPeriod-was, IsClosed-one}
use Rattle.periods.proofs.Surface.{before_irr, before_trans, All-in, all_of, Precedes}
use Rattle.periods.proofs.Surface.{period_key, closed_of-are, closed_of-only}

-- later than the last period
pub after_trans : (last : Option PeriodId) (a b : PeriodId) → IsAfter last a → IsBefore a b → IsAfter last b
after_trans None a b h l = tt
after_trans (Some x) a b h l = before_trans x a b h l

-- a place that ends after all closed periods
pub after_low : (w watermark : ℕ) (last : Option PeriodId) (q : PeriodId) → GivenBelow w watermark last → watermark ≤ q.end + w → IsAfter last q
after_low w watermark None q g l = tt
after_low w watermark (Some x) q g l = inl (omega arith)

-- the last period of a list
pub last_from-push : (o : Option PeriodId) (cs : List Closed) (c : Closed) → last_from o (cs ++ c ∷ []) ≡ Some (closed_place c)
last_from-push o [] c = refl
last_from-push o (d ∷ ds) c = last_from-push (Some (closed_place d)) ds c

last_below : (w watermark : ℕ) (o : Option PeriodId) (cs : List Closed) → GivenBelow w watermark o → ((c : Closed) → In cs c → c.end + w < watermark) → GivenBelow w watermark (last_from o cs)
last_below w watermark o [] g h = g
last_below w watermark o (c ∷ cs) g h = last_below w watermark (Some (closed_place c)) cs (h c (inl refl)) (λ d i. h d (inr i))

-- what is after the last period is after each
behind_last : (x : Closed) (cs : List Closed) (q : PeriodId) → IsAscending (x ∷ cs) → IsAfter (last_from (Some (closed_place x)) cs) q → (c : Closed) → In (x ∷ cs) c → IsBefore (closed_place c) q
behind_last x [] q h l c (inl e) = subst (λ (z : Closed). IsBefore (closed_place z) q) e l
behind_last x [] q h l c (inr i) = absurd i
behind_last x (y ∷ ys) q h l c (inl e) =
    subst (λ (z : Closed). IsBefore (closed_place z) q) e (before_trans (closed_place x) (closed_place y) q h.0.0 (behind_last y ys q h.1 l y (inl refl)))
behind_last x (y ∷ ys) q h l c (inr i) = behind_last y ys q h.1 l c i

behind_each : (cs : List Closed) (q : PeriodId) → IsAscending cs → IsAfter (last_from None cs) q → (c : Closed) → In cs c → IsBefore (closed_place c) q
behind_each [] q h l c i = absurd i
behind_each (x ∷ cs) q h l c i = behind_last x cs q h l c i

-- at the start: all that is closed was given
pub closed_given : (r w watermark : ℕ) (parts : List Part) → ((p : Part) → Contains parts p → IsPartValue p)
    → HasGiven r w (Contains parts) watermark (last_from None (closed_of r w watermark parts)) (closed_of r w watermark parts)
closed_given r w watermark parts values =
    let cs = closed_of r w watermark parts in
    let h = closed_of-are r w watermark parts values in
    record {
      ascending = h.ascending;
      each = h.each;
      low = h.low;
      below = λ c i q l. behind_each cs q h.ascending l c (In-from_contains cs c i);
      every = λ q hq l. inr (h.every q hq l);
      last_low = last_below w watermark None cs tt (λ c i. h.low c (contains_from_In cs c i));
    }

-- appending to a list
push_all : {X : Type 0} (P : X → Type 0) (xs : List X) (y : X) → AllByRecursion P xs → P y → AllByRecursion P (xs ++ y ∷ [])
push_all P [] y h p = (p, tt)
push_all P (x ∷ xs) y h p = (h.0, push_all P xs y h.1 p)

ascending_push : (cs : List Closed) (c : Closed) → IsAscending cs → ((d : Closed) → In cs d → Precedes d c) → IsAscending (cs ++ c ∷ [])
ascending_push [] c h l = (tt, tt)
ascending_push (d ∷ ds) c h l = (push_all (Precedes d) ds c h.0 (l d (inl refl)), ascending_push ds c h.1 (λ x i. l x (inr i)))

-- one more period
pub HasGiven-more : (r w : ℕ) (parts : Part → Type 0) (watermark : ℕ) (last : Option PeriodId) (given : List Closed) (c : Closed) → ((p : Part) → parts p → IsPartValue p)
    → IsNext r w parts watermark last c → HasGiven r w parts watermark last given → HasGiven r w parts watermark (Some (closed_place c)) (given ++ c ∷ [])
HasGiven-more r w parts watermark last given c values next h = record {
  ascending = ascending_push given c h.ascending (λ d i. h.below d (contains_from_In given d i) (closed_place c) next.due.after);
  each = λ d i. elim (Contains-push_cases given c d i) [ inl o ↦ h.each d o | inr e ↦ subst (IsClosed r w parts) e next.verdict ];
  low = λ d i. elim (Contains-push_cases given c d i) [ inl o ↦ h.low d o | inr e ↦ subst (λ (z : Closed). z.end + w < watermark) e next.due.low ];
  below = λ d i q l. elim (Contains-push_cases given c d i) [
    | inl o ↦ before_trans (closed_place d) (closed_place c) q (h.below d o (closed_place c) next.due.after) l
    | inr e ↦ subst (λ (z : Closed). IsBefore (closed_place z) q) e l
  ];
  every = λ q hq l. elim (h.every q hq l) [
    | inl after ↦ elim (cases_place q (closed_place c) (period_key w parts q values hq) (period_key w parts (closed_place c) values next.due.period)) [
      | inl b ↦ absurd (next.least q (record { period = hq; low = l; after = after }) b)
      | inr o ↦ elim o [
        | inl e ↦ inr (c, Contains-push given c, sym e)
        | inr b ↦ inl b
      ]
    ]
    | inr f ↦ inr (f.0, Contains-append_left given (c ∷ []) f.0 f.1, f.2)
  ];
  last_low = next.due.low;
}

pub below_rise : (w watermark higher : ℕ) (last : Option PeriodId) → watermark ≤ higher → GivenBelow w watermark last → GivenBelow w higher last
below_rise w watermark higher None l g = tt
below_rise w watermark higher (Some x) l g = omega arith

-- a higher watermark
pub HasGiven-rise : (r w : ℕ) (parts : Part → Type 0) (watermark higher : ℕ) (last : Option PeriodId) (given : List Closed) → watermark ≤ higher
    → HasGiven r w parts watermark last given → HasGiven r w parts higher last given
HasGiven-rise r w parts watermark higher last given l h = record {
  ascending = h.ascending;
  each = h.each;
  low = λ c i. omega (arith, h.low c i);
  below = h.below;
  every = λ q hq low. elim (cases_lt (q.end + w) watermark) [
    | inl k ↦ h.every q hq k
    | inr k ↦ inl (after_low w watermark last q h.last_low k)
  ];
  last_low = below_rise w watermark higher last l h.last_low;
}

-- at the end: where none is due, all that is closed was given
pub given_is : (r w watermark : ℕ) (parts : List Part) (last : Option PeriodId) (given : List Closed) → ((p : Part) → Contains parts p → IsPartValue p)
    → NoneDue w (Contains parts) watermark last → HasGiven r w (Contains parts) watermark last given → given ≡ closed_of r w watermark parts
given_is r w watermark parts last given values none h = closed_of-only r w watermark parts given values (record {
  ascending = h.ascending;
  each = h.each;
  low = h.low;
  every = λ q hq l. elim (h.every q hq l) [ inl after ↦ absurd (none q (record { period = hq; low = l; after = after })) | inr f ↦ f ];
})

-- at an error: what was given is a prefix of what is closed
prefix_heads : (x y : Closed) (xs ys : List Closed) → IsAscending (x ∷ xs) → IsAscending (y ∷ ys) → In (y ∷ ys) x → In (x ∷ xs) y ⊎ AllByRecursion (λ d. Precedes d y) (x ∷ xs) → x ≡ y
prefix_heads x y xs ys ax ay (inl e) o = sym e
prefix_heads x y xs ys ax ay (inr i) (inl (inl e)) = e
prefix_heads x y xs ys ax ay (inr i) (inl (inr j)) =
    absurd (before_irr (closed_place x) (before_trans (closed_place x) (closed_place y) (closed_place x) (All-in (Precedes x) xs y ax.0 j) (All-in (Precedes y) ys x ay.0 i)))
prefix_heads x y xs ys ax ay (inr i) (inr b) =
    absurd (before_irr (closed_place x) (before_trans (closed_place x) (closed_place y) (closed_place x) b.0 (All-in (Precedes y) ys x ay.0 i)))

prefix_tail_in : (x y c : Closed) (xs ys : List Closed) → x ≡ y → AllByRecursion (Precedes x) xs → In xs c → In (y ∷ ys) c → In ys c
prefix_tail_in x y c xs ys e h i (inl f) = absurd (before_irr (closed_place c) (subst (λ (z : Closed). IsBefore (closed_place z) (closed_place c)) (e ∙ f) (All-in (Precedes x) xs c h i)))
prefix_tail_in x y c xs ys e h i (inr j) = j

prefix_tail_out : (x y c : Closed) (xs ys : List Closed) → x ≡ y → AllByRecursion (Precedes y) ys → In ys c → In (x ∷ xs) c ⊎ AllByRecursion (λ d. Precedes d c) (x ∷ xs)
    → In xs c ⊎ AllByRecursion (λ d. Precedes d c) xs
prefix_tail_out x y c xs ys e h i (inl (inl f)) =
    absurd (before_irr (closed_place c) (subst (λ (z : Closed). IsBefore (closed_place z) (closed_place c)) (sym e ∙ f) (All-in (Precedes y) ys c h i)))
prefix_tail_out x y c xs ys e h i (inl (inr j)) = inl j
prefix_tail_out x y c xs ys e h i (inr b) = inr b.1

prefix_of : (xs ys : List Closed) → IsAscending xs → IsAscending ys → ((c : Closed) → In xs c → In ys c)
    → ((c : Closed) → In ys c → In xs c ⊎ AllByRecursion (λ d. Precedes d c) xs) → IsPeriodPrefix xs ys
prefix_of [] ys ax ay to from = (ys, refl)
prefix_of (x ∷ xs) [] ax ay to from = absurd (to x (inl refl))
prefix_of (x ∷ xs) (y ∷ ys) ax ay to from =
    let e = prefix_heads x y xs ys ax ay (to x (inl refl)) (from y (inl refl)) in
    let p = prefix_of xs ys ax.1 ay.1 (λ c i. prefix_tail_in x y c xs ys e ax.0 i (to c (inr i))) (λ c i. prefix_tail_out x y c xs ys e ay.0 i (from c (inr i))) in
    (p.0, λ i. sym e i ∷ p.1 i)

pub given_prefix : (r w watermark : ℕ) (parts : List Part) (last : Option PeriodId) (given : List Closed) → ((p : Part) → Contains parts p → IsPartValue p)
    → HasGiven r w (Contains parts) watermark last given → IsPeriodPrefix given (closed_of r w watermark parts)
given_prefix r w watermark parts last given values h =
    let cs = closed_of r w watermark parts in
    let k = closed_of-are r w watermark parts values in
    let one : (c d : Closed) → closed_place c ≡ closed_place d → IsClosed r w (Contains parts) c → IsClosed r w (Contains parts) d → c ≡ d = λ c d e x y. IsClosed-one r w (Contains parts) c d values e x y in
    prefix_of given cs h.ascending k.ascending
    (λ c i.
    let x = h.each c (contains_from_In given c i) in
    let f = k.every (closed_place c) x.period (h.low c (contains_from_In given c i)) in
    subst (In cs) (one f.0 c f.2 (k.each f.0 f.1) x) (In-from_contains cs f.0 f.1))
    (λ c i.
    let j = contains_from_In cs c i in
    let x = k.each c j in
    elim (h.every (closed_place c) x.period (k.low c j)) [
      | inl after ↦ inr (all_of (λ d. Precedes d c) given (λ d l. h.below d (contains_from_In given d l) (closed_place c) after))
      | inr f ↦ inl (subst (In given) (one f.0 c f.2 (h.each f.0 f.1) x) (In-from_contains given f.0 f.1))
    ])

-- later parts, and a period given, make no period due
pub NoneDue-take : (w n watermark : ℕ) (old new : Part → Type 0) (last : Option PeriodId) → AreLater watermark old new → n ≤ watermark → NoneDue w old n last → NoneDue w new n last
NoneDue-take w n watermark old new last l m none = λ q due. none q (record { period = IsPeriod-was w watermark old new q l (omega (arith, due.low)) due.period; low = due.low; after = due.after })

pub NoneDue-give : (w n : ℕ) (parts : Part → Type 0) (last : Option PeriodId) (q : PeriodId) → IsAfter last q → NoneDue w parts n last → NoneDue w parts n (Some q)
NoneDue-give w n parts last q after none = λ z due. none z (record { period = due.period; low = due.low; after = after_trans last q z after due.after })
