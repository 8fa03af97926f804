-- Ascending lists of periods: one list for a set, and those of it that are closed.
use Rattle.std.proofs.Common.{◌≡◌, ℕ, ◌+◌, ◌<◌, ◌≤◌, inl, inr, Bool, true, false, cond, nat_lt, List, [], ◌∷◌, ◌++◌, Contains, filter, refl, sym, ap, subst, ◌∙◌, arith, ltb-true, ltb-false, lt-ltb, le-ltb}
use Rattle.std.specs.List.{AllByRecursion}
use Rattle.std.proofs.lemmas.Bool.{both_ways}
use Rattle.std.proofs.lemmas.List.{append_assoc}
use Rattle.nav_eph.specs.declared.items.NavItem.{NavItem}
use Rattle.nav_eph.specs.declared.part.Part.{Part}
use Rattle.periods.proofs.EndFacts.{In, In-from_contains, contains_from_In}
use Rattle.periods.proofs.EndFacts.{Same}
use Rattle.periods.specs.declared.key.PeriodId.{PeriodId}
use Rattle.periods.specs.declared.closed.Closed.{Closed}
use Rattle.nav_eph.specs.Values.{IsPartValue}
use Rattle.periods.specs.Periods.{IsPeriod, IsBefore, place_numbers}
use Rattle.periods.specs.Verdicts.{IsClosed, closed_place}
use Rattle.periods.specs.PeriodLists.{IsAscending, ArePeriods, AreClosed, closed_at, IsPeriodPrefix, item_in, items_in}
use Rattle.periods.proofs.Orders.{irreflexive, transitive}
use Rattle.periods.proofs.PeriodLemmas.{IsPeriod-same}
use Rattle.periods.proofs.VerdictLemmas.{IsClosed-same, IsClosed-one}
use Rattle.periods.proofs.EndFacts.{same_sym}

pub before_irr : (a : PeriodId) → IsBefore a a → ⊥
before_irr a h = irreflexive (place_numbers a) h

pub before_trans : (a b c : PeriodId) → IsBefore a b → IsBefore b c → IsBefore a c
before_trans a b c h k = transitive (place_numbers a) (place_numbers b) (place_numbers c) h k

-- the first of two places ends no later
pub before_end : (a b : PeriodId) → IsBefore a b → a.end ≤ b.end
before_end a b (inl l) = omega arith
before_end a b (inr e) = omega (arith, e.0)

pub All-in : {X : Type 0} (P : X → Type 0) (xs : List X) (x : X) → AllByRecursion P xs → In xs x → P x
All-in P [] x h i = absurd i
All-in P (y ∷ ys) x h (inl e) = subst P e h.0
All-in P (y ∷ ys) x h (inr i) = All-in P ys x h.1 i

pub all_of : {X : Type 0} (P : X → Type 0) (xs : List X) → ((x : X) → In xs x → P x) → AllByRecursion P xs
all_of P [] h = tt
all_of P (y ∷ ys) h = (h y (inl refl), all_of P ys (λ x i. h x (inr i)))

abbrev pub Precedes : Closed → Closed → Type 0
Precedes c d = IsBefore (closed_place c) (closed_place d)

-- the heads of two ascending lists of the same periods are the same
same_heads : (x y : Closed) (xs ys : List Closed) → IsAscending (x ∷ xs) → IsAscending (y ∷ ys) → In (y ∷ ys) x → In (x ∷ xs) y → x ≡ y
same_heads x y xs ys ax ay (inl e) iy = sym e
same_heads x y xs ys ax ay (inr i) (inl e) = e
same_heads x y xs ys ax ay (inr i) (inr j) =
    absurd (before_irr (closed_place x) (before_trans (closed_place x) (closed_place y) (closed_place x) (All-in (Precedes x) xs y ax.0 j) (All-in (Precedes y) ys x ay.0 i)))

-- the elements after the head of one list are those after the head of the other
tail_in : (x y c : Closed) (xs ys : List Closed) → x ≡ y → AllByRecursion (Precedes x) xs → In xs c → In (y ∷ ys) c → In ys c
tail_in x y c xs ys e h i (inl f) = absurd (before_irr (closed_place c) (subst (λ (z : Closed). IsBefore (closed_place z) (closed_place c)) (e ∙ f) (All-in (Precedes x) xs c h i)))
tail_in x y c xs ys e h i (inr j) = j

pub ascending_one : (xs ys : List Closed) → IsAscending xs → IsAscending ys → ((c : Closed) → In xs c → In ys c) → ((c : Closed) → In ys c → In xs c) → xs ≡ ys
ascending_one [] [] ax ay to from = refl
ascending_one [] (y ∷ ys) ax ay to from = absurd (from y (inl refl))
ascending_one (x ∷ xs) [] ax ay to from = absurd (to x (inl refl))
ascending_one (x ∷ xs) (y ∷ ys) ax ay to from =
    let e = same_heads x y xs ys ax ay (to x (inl refl)) (from y (inl refl)) in
    let rest = ascending_one xs ys ax.1 ay.1 (λ c i. tail_in x y c xs ys e ax.0 i (to c (inr i))) (λ c i. tail_in y x c ys xs (sym e) ay.0 i (from c (inr i))) in
    λ i. e i ∷ rest i

-- two lists of exactly the same periods have the same elements
one_of_kind : (Here : PeriodId → Type 0) (Is : Closed → Type 0) (xs ys : List Closed) → ((c d : Closed) → closed_place c ≡ closed_place d → Is c → Is d → c ≡ d)
    → ((c : Closed) → Contains xs c → Is c × Here (closed_place c)) → ((c : Closed) → Contains ys c → Is c)
    → ((q : PeriodId) → Here q → (d : Closed) × Contains ys d × (closed_place d ≡ q)) → (c : Closed) → In xs c → In ys c
one_of_kind Here Is xs ys one each other every c i =
    let e = each c (contains_from_In xs c i) in
    let d = every (closed_place c) e.1 in
    subst (In ys) (one d.0 c d.2 (other d.0 d.1) e.0) (In-from_contains ys d.0 d.1)

pub ArePeriods-one : (r w : ℕ) (parts : Part → Type 0) (xs ys : List Closed) → ((p : Part) → parts p → IsPartValue p) → ArePeriods r w parts xs → ArePeriods r w parts ys → xs ≡ ys
ArePeriods-one r w parts xs ys values hx hy =
    let one : (c d : Closed) → closed_place c ≡ closed_place d → IsClosed r w parts c → IsClosed r w parts d → c ≡ d = λ c d e h k. IsClosed-one r w parts c d values e h k in
    ascending_one xs ys hx.ascending hy.ascending
    (one_of_kind (IsPeriod w parts) (IsClosed r w parts) xs ys one (λ c i. let k = hx.each c i in (k, k.period)) hy.each hy.every)
    (one_of_kind (IsPeriod w parts) (IsClosed r w parts) ys xs one (λ c i. let k = hy.each c i in (k, k.period)) hx.each hx.every)

-- a period that is closed
abbrev pub IsLow : ℕ → (Part → Type 0) → ℕ → PeriodId → Type 0
IsLow w parts watermark q = IsPeriod w parts q × (q.end + w < watermark)

pub AreClosed-one : (r w : ℕ) (parts : Part → Type 0) (watermark : ℕ) (xs ys : List Closed) → ((p : Part) → parts p → IsPartValue p) → AreClosed r w parts watermark xs → AreClosed r w parts watermark ys → xs ≡ ys
AreClosed-one r w parts watermark xs ys values hx hy =
    let one : (c d : Closed) → closed_place c ≡ closed_place d → IsClosed r w parts c → IsClosed r w parts d → c ≡ d = λ c d e h k. IsClosed-one r w parts c d values e h k in
    ascending_one xs ys hx.ascending hy.ascending
    (one_of_kind (IsLow w parts watermark) (IsClosed r w parts) xs ys one (λ c i. let k = hx.each c i in (k, (k.period, hx.low c i))) hy.each (λ q h. hy.every q h.0 h.1))
    (one_of_kind (IsLow w parts watermark) (IsClosed r w parts) ys xs one (λ c i. let k = hy.each c i in (k, (k.period, hy.low c i))) hx.each (λ q h. hx.every q h.0 h.1))

pub ArePeriods-same : (r w : ℕ) (a b : Part → Type 0) (xs : List Closed) → Same a b → ArePeriods r w a xs → ArePeriods r w b xs
ArePeriods-same r w a b xs s h = record {
  ascending = h.ascending;
  each = λ c i. IsClosed-same r w a b c s (h.each c i);
  every = λ q p. h.every q (IsPeriod-same w b a q (same_sym a b s) p);
}

-- those that pass a test
filter_at : (t : Closed → Bool) (x : Closed) (xs : List Closed) (c : Closed) (b : Bool) → t x ≡ b → ((d : Closed) → In (filter t xs) d → In xs d × (t d ≡ true))
    → In (cond b (x ∷ filter t xs) (filter t xs)) c → In (x ∷ xs) c × (t c ≡ true)
filter_at t x xs c true e ih (inl same) = (inl same, subst (λ (z : Closed). t z ≡ true) same e)
filter_at t x xs c true e ih (inr i) = let p = ih c i in (inr p.0, p.1)
filter_at t x xs c false e ih i = let p = ih c i in (inr p.0, p.1)

pub filter_in : (t : Closed → Bool) (xs : List Closed) (c : Closed) → In (filter t xs) c → In xs c × (t c ≡ true)
filter_in t [] c h = absurd h
filter_in t (x ∷ xs) c h = filter_at t x xs c (t x) refl (λ d i. filter_in t xs d i) h

filter_put : (t : Closed → Bool) (x : Closed) (xs : List Closed) (c : Closed) (b : Bool) → t x ≡ b → t c ≡ true → In (x ∷ xs) c → (In xs c → In (filter t xs) c)
    → In (cond b (x ∷ filter t xs) (filter t xs)) c
filter_put t x xs c true e tc (inl same) ih = inl same
filter_put t x xs c true e tc (inr i) ih = inr (ih i)
filter_put t x xs c false e tc (inl same) ih = absurd (both_ways (t c) (subst (λ (z : Closed). t z ≡ false) same e) tc)
filter_put t x xs c false e tc (inr i) ih = ih i

pub in_filter : (t : Closed → Bool) (xs : List Closed) (c : Closed) → In xs c → t c ≡ true → In (filter t xs) c
in_filter t [] c h tc = absurd h
in_filter t (x ∷ xs) c h tc = filter_put t x xs c (t x) refl tc h (λ i. in_filter t xs c i tc)

filter_keeps : (P : Closed → Type 0) (t : Closed → Bool) (xs : List Closed) → AllByRecursion P xs → AllByRecursion P (filter t xs)
filter_keeps P t xs h = all_of P (filter t xs) (λ x i. All-in P xs x h (filter_in t xs x i).0)

ascending_at : (t : Closed → Bool) (x : Closed) (xs : List Closed) (b : Bool) → AllByRecursion (Precedes x) (filter t xs) → IsAscending (filter t xs)
    → IsAscending (cond b (x ∷ filter t xs) (filter t xs))
ascending_at t x xs true h k = (h, k)
ascending_at t x xs false h k = k

pub filter_ascending : (t : Closed → Bool) (xs : List Closed) → IsAscending xs → IsAscending (filter t xs)
filter_ascending t [] h = tt
filter_ascending t (x ∷ xs) h = ascending_at t x xs (t x) (filter_keeps (Precedes x) t xs h.0) (filter_ascending t xs h.1)

-- those of the periods that are closed at a watermark
pub closed_at-are : (r w : ℕ) (parts : Part → Type 0) (watermark : ℕ) (xs : List Closed) → ArePeriods r w parts xs → AreClosed r w parts watermark (closed_at w watermark xs)
closed_at-are r w parts watermark xs h =
    let t : Closed → Bool = λ c. nat_lt (c.end + w) watermark in
    record {
      ascending = filter_ascending t xs h.ascending;
      each = λ c i. h.each c (contains_from_In xs c (filter_in t xs c (In-from_contains (filter t xs) c i)).0);
      low = λ c i. ltb-true (c.end + w) watermark (filter_in t xs c (In-from_contains (filter t xs) c i)).1;
      every = λ q p l.
          let f = h.every q p in
          (f.0, contains_from_In (filter t xs) f.0 (in_filter t xs f.0 (In-from_contains xs f.0 f.1) (lt-ltb (f.0.end + w) watermark (subst (λ (z : PeriodId). z.end + w < watermark) (sym f.2) l))), f.2);
    }

-- where the first is not closed, none is
none_low : (w watermark : ℕ) (x : Closed) (xs : List Closed) → AllByRecursion (Precedes x) xs → watermark ≤ x.end + w → closed_at w watermark xs ≡ []
none_low w watermark x [] h l = refl
none_low w watermark x (y ∷ ys) h l =
    let high : nat_lt (y.end + w) watermark ≡ false = le-ltb (y.end + w) watermark (omega (arith, before_end (closed_place x) (closed_place y) h.0)) in
    subst (λ (b : Bool). cond b (y ∷ closed_at w watermark ys) (closed_at w watermark ys) ≡ []) (sym high) (none_low w watermark x ys h.1 l)

prefix_more : (x : Closed) (xs ys : List Closed) → IsPeriodPrefix xs ys → IsPeriodPrefix (x ∷ xs) (x ∷ ys)
prefix_more x xs ys p = (p.0, ap (λ (l : List Closed). x ∷ l) p.1)

prefix_at : (w watermark : ℕ) (x : Closed) (xs : List Closed) (b : Bool) → nat_lt (x.end + w) watermark ≡ b → AllByRecursion (Precedes x) xs → IsPeriodPrefix (closed_at w watermark xs) xs
    → IsPeriodPrefix (cond b (x ∷ closed_at w watermark xs) (closed_at w watermark xs)) (x ∷ xs)
prefix_at w watermark x xs true e h p = prefix_more x (closed_at w watermark xs) xs p
prefix_at w watermark x xs false e h p = (x ∷ xs, ap (λ (l : List Closed). l ++ x ∷ xs) (sym (none_low w watermark x xs h (ltb-false (x.end + w) watermark e))))

-- the closed periods are a prefix
pub closed_at-prefix : (w watermark : ℕ) (xs : List Closed) → IsAscending xs → IsPeriodPrefix (closed_at w watermark xs) xs
closed_at-prefix w watermark [] h = ([], refl)
closed_at-prefix w watermark (x ∷ xs) h = prefix_at w watermark x xs (nat_lt (x.end + w) watermark) refl h.0 (closed_at-prefix w watermark xs h.1)

-- two tests, of which the first lets less pass
twice_at : (s t : Closed → Bool) (x : Closed) (xs : List Closed) (b c : Bool) → s x ≡ b → t x ≡ c → (b ≡ true → c ≡ true) → filter s (filter t xs) ≡ filter s xs
    → filter s (cond c (x ∷ filter t xs) (filter t xs)) ≡ cond b (x ∷ filter s xs) (filter s xs)
twice_at s t x xs true true es et l ih = subst (λ (b : Bool). cond b (x ∷ filter s (filter t xs)) (filter s (filter t xs)) ≡ x ∷ filter s xs) (sym es) (ap (λ (l : List Closed). x ∷ l) ih)
twice_at s t x xs true false es et l ih = absurd (both_ways false refl (l refl))
twice_at s t x xs false true es et l ih = subst (λ (b : Bool). cond b (x ∷ filter s (filter t xs)) (filter s (filter t xs)) ≡ filter s xs) (sym es) ih
twice_at s t x xs false false es et l ih = ih

filter_twice : (s t : Closed → Bool) (xs : List Closed) → ((x : Closed) → s x ≡ true → t x ≡ true) → filter s (filter t xs) ≡ filter s xs
filter_twice s t [] l = refl
filter_twice s t (x ∷ xs) l = twice_at s t x xs (s x) (t x) refl refl (l x) (filter_twice s t xs l)

-- a higher watermark adds closed periods at the end
pub closed_at-rise : (w watermark higher : ℕ) (xs : List Closed) → watermark ≤ higher → IsAscending xs → IsPeriodPrefix (closed_at w watermark xs) (closed_at w higher xs)
closed_at-rise w watermark higher xs l h =
    subst (λ (z : List Closed). IsPeriodPrefix z (closed_at w higher xs))
    (filter_twice (λ c. nat_lt (c.end + w) watermark) (λ c. nat_lt (c.end + w) higher) xs (λ x e. lt-ltb (x.end + w) higher (omega (arith, ltb-true (x.end + w) watermark e))))
    (closed_at-prefix w watermark (closed_at w higher xs) (filter_ascending (λ c. nat_lt (c.end + w) higher) xs h))

all_at : (t : Closed → Bool) (x : Closed) (xs : List Closed) (b : Bool) → t x ≡ b → b ≡ true → filter t xs ≡ xs → cond b (x ∷ filter t xs) (filter t xs) ≡ x ∷ xs
all_at t x xs true e f ih = ap (λ (l : List Closed). x ∷ l) ih
all_at t x xs false e f ih = absurd (both_ways false refl f)

pub filter_all : (t : Closed → Bool) (xs : List Closed) → ((x : Closed) → In xs x → t x ≡ true) → filter t xs ≡ xs
filter_all t [] h = refl
filter_all t (x ∷ xs) h = all_at t x xs (t x) refl (h x (inl refl)) (filter_all t xs (λ y i. h y (inr i)))

-- the items of concatenated lists of periods
pub items_append : (xs ys : List Closed) → items_in (xs ++ ys) ≡ items_in xs ++ items_in ys
items_append [] ys = refl
items_append (x ∷ xs) ys = ap (λ (l : List NavItem). item_in x.verdict ++ l) (items_append xs ys) ∙ sym (append_assoc (item_in x.verdict) (items_in xs) (items_in ys))
