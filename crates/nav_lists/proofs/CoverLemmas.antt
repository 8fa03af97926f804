-- The ranges that a set of items covers: existence and uniqueness of their list.
use Rattle.std.proofs.Common.{◌≡◌, ℕ, ◌-◌, ◌<◌, ◌≤◌, ◌==◌, Bool, true, false, cond, List, [], ◌∷◌, ◌⊎◌, ◌↔◌, inl, inr, zero, suc, Option, Some, None, Contains, refl, sym, ap, subst, ◌∙◌, arith}
use Rattle.std.specs.List.{filter_map, fold}
use Rattle.std.specs.List.Sorted.{IsStrictlySortedBy}
use Rattle.std.specs.BTreeSet.{insert_key}
use Rattle.std.specs.Ordering.{match_ordering}
use Rattle.std.specs.declared.cmp.Ordering.{Ordering}
use Rattle.std.specs.declared.cmp.Ordering.TheVariants.{Less, Equal, Greater}
use Rattle.nav_eph.specs.Items.{galileo_toe_moment, gps_toe_moment}
use Rattle.nav_eph.specs.Satellite.{Satellite, IsBefore}
use Rattle.nav_eph.specs.declared.items.NavItem.{NavItem}
use Rattle.nav_eph.specs.declared.items.NavItem.TheVariants.{Gps, Gal, Ion}
use Rattle.nav_lists.specs.declared.range.CoverRange.{CoverRange}
use Rattle.nav_lists.specs.Ranges.{InRange, around, by_place, span_of, half_of, joined_from, joined, AreFilled}
use Rattle.nav_lists.specs.Covering.{CoversSecond, AreCovering, Precedes, Ascend, AreRanges, IsIn, AreCovers, covers_of, spans_of}
use Rattle.nav_lists.proofs.SweepLemmas.{In, Ends, Apart, Rises, Rising, Lies, less_upto, rising_insert, lies_put, lies_back, lies_to, lies_from, formed, not_before_itself, before_through}

-- membership by recursion and by place
in_list : (xs : List CoverRange) (m : CoverRange) → Contains xs m → In m xs
in_list [] m h = absurd (omega (arith, h.1))
in_list (x ∷ xs) m (zero, l, e) = inl (sym e)
in_list (x ∷ xs) m (suc k, l, e) = inr (in_list xs m (k, omega arith, e))

at_place : (xs : List CoverRange) (m : CoverRange) → In m xs → Contains xs m
at_place [] m h = absurd h
at_place (x ∷ xs) m (inl e) = (0, omega arith, sym e)
at_place (x ∷ xs) m (inr h) = let k = at_place xs m h in (suc k.0, omega (arith, k.1), k.2)

is_in : (xs : List CoverRange) (sat : Satellite) (m : ℕ) → Lies xs sat m → IsIn xs sat m
is_in [] sat m h = absurd h
is_in (x ∷ xs) sat m (inl h) = (x, at_place (x ∷ xs) x (inl refl), h)
is_in (x ∷ xs) sat m (inr h) = let k = is_in xs sat m h in (k.0, at_place (x ∷ xs) k.0 (inr (in_list xs k.0 k.1)), k.2)

lies_in : (xs : List CoverRange) (r : CoverRange) (sat : Satellite) (m : ℕ) → In r xs → InRange r sat m → Lies xs sat m
lies_in [] r sat m h k = absurd h
lies_in (x ∷ xs) r sat m (inl e) k = inl (subst (λ (z : CoverRange). InRange z sat m) e k)
lies_in (x ∷ xs) r sat m (inr h) k = inr (lies_in xs r sat m h k)

lies : (xs : List CoverRange) (sat : Satellite) (m : ℕ) → IsIn xs sat m → Lies xs sat m
lies xs sat m h = lies_in xs h.0 sat m (in_list xs h.0 h.1) h.2

-- ---- the form

abbrev Filled : List CoverRange → Type 0
Filled xs = (m : CoverRange) → In m xs → m.from < m.to

ascend : (xs : List CoverRange) → Filled xs → Apart xs → Ascend xs
ascend [] f a = tt
ascend (x ∷ xs) f a = (λ y h. before y (in_list xs y h), ascend xs (λ m h. f m (inr h)) a.1)
  where
    end : (y : CoverRange) → Ends x y → Precedes x y
    end y (inl h) = inl h
    end y (inr h) = let l = f x (inl refl) in inr (h.0, omega (arith, l, h.1))

    before : (y : CoverRange) → In y xs → Precedes x y
    before y h = end y (a.0 y h)

gaps : (xs : List CoverRange) → Filled xs → Apart xs → (a b : CoverRange) → In a xs → In b xs → a.sat ≡ b.sat → a.from < b.from → a.to < b.from
gaps [] f p a b h k e l = absurd h
gaps (x ∷ xs) f p a b (inl h) (inl k) e l = let same : a.from ≡ b.from = ap (λ (r : CoverRange). r.from) (h ∙ sym k) in absurd (omega (arith, same, l))
gaps (x ∷ xs) f p a b (inl h) (inr k) e l = at (p.0 b k)
  where
    at : Ends x b → a.to < b.from
    at (inl i) = absurd (not_before_itself b.sat (subst (λ (s : Satellite). IsBefore s b.sat) (sym (ap (λ (r : CoverRange). r.sat) h) ∙ e) i))
    at (inr i) = let same : a.to ≡ x.to = ap (λ (r : CoverRange). r.to) h in omega (arith, same, i.1)
gaps (x ∷ xs) f p a b (inr h) (inl k) e l = at (p.0 a h)
  where
    at : Ends x a → a.to < b.from
    at (inl i) = absurd (not_before_itself a.sat (subst (λ (s : Satellite). IsBefore s a.sat) (sym (ap (λ (r : CoverRange). r.sat) k) ∙ sym e) i))
    at (inr i) =
        let same : b.from ≡ x.from = ap (λ (r : CoverRange). r.from) k in
        let full : x.from < x.to = f x (inl refl) in
        absurd (omega (arith, same, full, i.1, l))
gaps (x ∷ xs) f p a b (inr h) (inr k) e l = gaps xs (λ m i. f m (inr i)) p.1 a b h k e l

pub are_ranges : (xs : List CoverRange) → Filled xs → Apart xs → AreRanges xs
are_ranges xs f a = record {
  ascending = ascend xs f a;
  filled = λ m h. f m (in_list xs m h);
  apart = λ x y h k e l. gaps xs f a x y (in_list xs x h) (in_list xs y k) e l;
}

pub joined_ranges : (xs : List CoverRange) → Rising xs → AreRanges (joined xs)
joined_ranges [] r = are_ranges [] (λ m h. absurd h) tt
joined_ranges (x ∷ xs) r = let h = formed x xs r.0 r.1 in are_ranges (joined_from x xs) h.filled h.apart

joined_to : (xs : List CoverRange) (sat : Satellite) (m : ℕ) → Lies (joined xs) sat m → Lies xs sat m
joined_to [] sat m h = h
joined_to (x ∷ xs) sat m h = lies_to x xs sat m h

joined_of : (xs : List CoverRange) (sat : Satellite) (m : ℕ) → Rising xs → Lies xs sat m → Lies (joined xs) sat m
joined_of [] sat m r h = h
joined_of (x ∷ xs) sat m r h = lies_from x xs sat m r.1 h

-- the spans of a set ascend
rises_sorted : (x : CoverRange) (xs : List CoverRange) → IsStrictlySortedBy by_place (x ∷ xs) → AreFilled xs → Rises x xs
unfolding IsStrictlySortedBy
rises_sorted x [] s f = tt
rises_sorted x (y ∷ ys) s f = (less_upto x y s.0.0, f.0, rises_sorted y ys s.1 f.1)

pub rising : (xs : List CoverRange) → IsStrictlySortedBy by_place xs → AreFilled xs → Rising xs
rising [] s f = tt
rising (x ∷ xs) s f = (f.0, rises_sorted x xs s f.1)

-- ---- one span more

-- a second in the span of an item, if it has one
abbrev pub IsSpanned : Option CoverRange → Satellite → ℕ → Type 0
IsSpanned None sat m = ⊥
IsSpanned (Some r) sat m = InRange r sat m

pub spanned : (item : NavItem) (sat : Satellite) (m : ℕ) → CoversSecond item sat m → IsSpanned (span_of item) sat m
spanned (Gps e) sat m h = h
spanned (Gal e) sat m h = h
spanned (Ion e) sat m h = h

pub covers_span : (item : NavItem) (sat : Satellite) (m : ℕ) → IsSpanned (span_of item) sat m → CoversSecond item sat m
covers_span (Gps e) sat m h = h
covers_span (Gal e) sat m h = h
covers_span (Ion e) sat m h = h

abbrev pub IsFull : Option CoverRange → Type 0
IsFull None = Unit {0}
IsFull (Some r) = r.from < r.to

half_full : (b : Bool) → 0 < cond b 10800 7200
half_full true = omega arith
half_full false = omega arith

pub span_full : (item : NavItem) → IsFull (span_of item)
span_full (Gps e) = let h : 0 < half_of e.fit = half_full (e.fit == 1) in omega (arith, h)
span_full (Gal e) = omega arith
span_full (Ion e) = tt

pub more_ranges : (xs : List CoverRange) (r : CoverRange) → Rising xs → r.from < r.to → AreRanges (joined (insert_key by_place xs r))
more_ranges xs r h f = joined_ranges (insert_key by_place xs r) (rising_insert xs r h f)

pub more_covered : (xs : List CoverRange) (r : CoverRange) → Rising xs → r.from < r.to → (sat : Satellite) (m : ℕ) → IsIn (joined (insert_key by_place xs r)) sat m ↔ (IsIn (joined xs) sat m ⊎ InRange r sat m)
more_covered xs r h f sat m = (to, from)
  where
    to : IsIn (joined (insert_key by_place xs r)) sat m → IsIn (joined xs) sat m ⊎ InRange r sat m
    to i = elim (lies_back xs r sat m (joined_to (insert_key by_place xs r) sat m (lies (joined (insert_key by_place xs r)) sat m i))) [
      | inl k ↦ inl (is_in (joined xs) sat m (joined_of xs sat m h k))
      | inr k ↦ inr k
    ]

    put : Lies xs sat m ⊎ InRange r sat m → IsIn (joined (insert_key by_place xs r)) sat m
    put k = is_in (joined (insert_key by_place xs r)) sat m (joined_of (insert_key by_place xs r) sat m (rising_insert xs r h f) (lies_put xs r sat m k))

    from : IsIn (joined xs) sat m ⊎ InRange r sat m → IsIn (joined (insert_key by_place xs r)) sat m
    from (inl k) = put (inl (joined_to xs sat m (lies (joined xs) sat m k)))
    from (inr k) = put (inr k)

-- inserting a span that is not empty keeps all spans not empty
pub filled_put : (xs : List CoverRange) (k : CoverRange) → AreFilled xs → k.from < k.to → AreFilled (insert_key by_place xs k)
filled_put [] k f l = (l, tt)
filled_put (x ∷ xs) k f l = at (filled_put xs k f.1 l) (by_place k x)
  where
    at : AreFilled (insert_key by_place xs k) → (o : Ordering) → AreFilled (match_ordering o (k ∷ x ∷ xs) (x ∷ xs) (x ∷ insert_key by_place xs k))
    at g Less = (l, (f.0, f.1))
    at g Equal = f
    at g Greater = (f.0, g)

-- ---- the spans of all items

all_rising : (acc : List CoverRange) (items : List NavItem) → Rising acc → Rising (fold (insert_key by_place) acc (filter_map span_of items))
all_rising acc [] r = r
all_rising acc (Gps e ∷ items) r = all_rising (insert_key by_place acc (around e.sat (gps_toe_moment e) (half_of e.fit))) items (rising_insert acc (around e.sat (gps_toe_moment e) (half_of e.fit)) r (span_full (Gps e)))
all_rising acc (Gal e ∷ items) r = all_rising (insert_key by_place acc (around e.sat (galileo_toe_moment e) 7200)) items (rising_insert acc (around e.sat (galileo_toe_moment e) 7200) r (span_full (Gal e)))
all_rising acc (Ion e ∷ items) r = all_rising acc items r

abbrev Covered : List NavItem → Satellite → ℕ → Type 0
Covered [] sat m = ⊥
Covered (x ∷ xs) sat m = CoversSecond x sat m ⊎ Covered xs sat m

all_to : (acc : List CoverRange) (items : List NavItem) (sat : Satellite) (m : ℕ) → Lies (fold (insert_key by_place) acc (filter_map span_of items)) sat m → Lies acc sat m ⊎ Covered items sat m
all_to acc [] sat m h = inl h
all_to acc (Ion e ∷ items) sat m h = elim (all_to acc items sat m h) [ inl k ↦ inl k | inr k ↦ inr (inr k) ]
all_to acc (Gps e ∷ items) sat m h = elim (all_to (insert_key by_place acc (around e.sat (gps_toe_moment e) (half_of e.fit))) items sat m h) [
  | inl k ↦ elim (lies_back acc (around e.sat (gps_toe_moment e) (half_of e.fit)) sat m k) [ inl i ↦ inl i | inr i ↦ inr (inl i) ]
  | inr k ↦ inr (inr k)
]
all_to acc (Gal e ∷ items) sat m h = elim (all_to (insert_key by_place acc (around e.sat (galileo_toe_moment e) 7200)) items sat m h) [
  | inl k ↦ elim (lies_back acc (around e.sat (galileo_toe_moment e) 7200) sat m k) [ inl i ↦ inl i | inr i ↦ inr (inl i) ]
  | inr k ↦ inr (inr k)
]

all_from : (acc : List CoverRange) (items : List NavItem) (sat : Satellite) (m : ℕ) → Lies acc sat m ⊎ Covered items sat m → Lies (fold (insert_key by_place) acc (filter_map span_of items)) sat m
all_from acc [] sat m (inl h) = h
all_from acc [] sat m (inr h) = absurd h
all_from acc (Ion e ∷ items) sat m (inl h) = all_from acc items sat m (inl h)
all_from acc (Ion e ∷ items) sat m (inr (inl h)) = absurd h
all_from acc (Ion e ∷ items) sat m (inr (inr h)) = all_from acc items sat m (inr h)
all_from acc (Gps e ∷ items) sat m (inl h) = all_from (insert_key by_place acc (around e.sat (gps_toe_moment e) (half_of e.fit))) items sat m (inl (lies_put acc (around e.sat (gps_toe_moment e) (half_of e.fit)) sat m (inl h)))
all_from acc (Gps e ∷ items) sat m (inr (inl h)) = all_from (insert_key by_place acc (around e.sat (gps_toe_moment e) (half_of e.fit))) items sat m (inl (lies_put acc (around e.sat (gps_toe_moment e) (half_of e.fit)) sat m (inr h)))
all_from acc (Gps e ∷ items) sat m (inr (inr h)) = all_from (insert_key by_place acc (around e.sat (gps_toe_moment e) (half_of e.fit))) items sat m (inr h)
all_from acc (Gal e ∷ items) sat m (inl h) = all_from (insert_key by_place acc (around e.sat (galileo_toe_moment e) 7200)) items sat m (inl (lies_put acc (around e.sat (galileo_toe_moment e) 7200) sat m (inl h)))
all_from acc (Gal e ∷ items) sat m (inr (inl h)) = all_from (insert_key by_place acc (around e.sat (galileo_toe_moment e) 7200)) items sat m (inl (lies_put acc (around e.sat (galileo_toe_moment e) 7200) sat m (inr h)))
all_from acc (Gal e ∷ items) sat m (inr (inr h)) = all_from (insert_key by_place acc (around e.sat (galileo_toe_moment e) 7200)) items sat m (inr h)

covered_of : (items : List NavItem) (item : NavItem) (sat : Satellite) (m : ℕ) → Contains items item → CoversSecond item sat m → Covered items sat m
covered_of [] item sat m h k = absurd (omega (arith, h.1))
covered_of (x ∷ xs) item sat m (zero, l, e) k = inl (subst (λ z. CoversSecond z sat m) (sym e) k)
covered_of (x ∷ xs) item sat m (suc n, l, e) k = inr (covered_of xs item sat m (n, omega arith, e) k)

covering_of : (items : List NavItem) (sat : Satellite) (m : ℕ) → Covered items sat m → AreCovering (Contains items) sat m
covering_of [] sat m h = absurd h
covering_of (x ∷ xs) sat m (inl h) = (x, (0, omega arith, refl), h)
covering_of (x ∷ xs) sat m (inr h) = let k = covering_of xs sat m h in (k.0, (suc k.1.0, (let l = k.1.1 in omega (arith, l)), k.1.2), k.2)

pub are_covers : (items : List NavItem) → AreCovers (AreCovering (Contains items)) (covers_of items)
unfolding covers_of
are_covers items = record {
  form = joined_ranges (spans_of items) (all_rising [] items tt);
  covers = covers;
  every = every;
}
  where
    covers : (sat : Satellite) (m : ℕ) → IsIn (joined (spans_of items)) sat m → AreCovering (Contains items) sat m
    covers sat m h = covering_of items sat m (elim (all_to [] items sat m (joined_to (spans_of items) sat m (lies (joined (spans_of items)) sat m h))) [ inl k ↦ absurd k | inr k ↦ k ])

    every : (sat : Satellite) (m : ℕ) → AreCovering (Contains items) sat m → IsIn (joined (spans_of items)) sat m
    every sat m h = is_in (joined (spans_of items)) sat m (joined_of (spans_of items) sat m (all_rising [] items tt) (all_from [] items sat m (inr (covered_of items h.0 sat m h.1 h.2))))

-- ---- uniqueness

-- the order of the list by recursion
abbrev Order : List CoverRange → Type 0
Order [] = Unit {0}
Order (x ∷ xs) = ((y : CoverRange) → In y xs → Precedes x y) × Order xs

ordered : (xs : List CoverRange) → Ascend xs → Order xs
ordered [] a = tt
ordered (x ∷ xs) a = (λ y h. a.0 y (at_place xs y h), ordered xs a.1)

precedes_not : (a b : CoverRange) → a.sat ≡ b.sat → a.from ≡ b.from → Precedes a b → ⊥
precedes_not a b e f (inl h) = not_before_itself b.sat (subst (λ (s : Satellite). IsBefore s b.sat) e h)
precedes_not a b e f (inr h) = omega (arith, f, h.1)

precedes_through : (a b c : CoverRange) → Precedes a b → Precedes b c → Precedes a c
precedes_through a b c (inl h) (inl k) = inl (before_through a.sat b.sat c.sat h k)
precedes_through a b c (inl h) (inr k) = inl (subst (λ (s : Satellite). IsBefore a.sat s) k.0 h)
precedes_through a b c (inr h) (inl k) = inl (subst (λ (s : Satellite). IsBefore s c.sat) (sym h.0) k)
precedes_through a b c (inr h) (inr k) = inr (h.0 ∙ k.0, omega (arith, h.1, k.1))

-- at most one range with each start
one_beginning : (xs : List CoverRange) → Order xs → (a b : CoverRange) → In a xs → In b xs → a.sat ≡ b.sat → a.from ≡ b.from → a ≡ b
one_beginning [] o a b h k e f = absurd h
one_beginning (x ∷ xs) o a b (inl h) (inl k) e f = h ∙ sym k
one_beginning (x ∷ xs) o a b (inl h) (inr k) e f = absurd (precedes_not a b e f (subst (λ (r : CoverRange). Precedes r b) (sym h) (o.0 b k)))
one_beginning (x ∷ xs) o a b (inr h) (inl k) e f = absurd (precedes_not b a (sym e) (sym f) (subst (λ (r : CoverRange). Precedes r a) (sym k) (o.0 a h)))
one_beginning (x ∷ xs) o a b (inr h) (inr k) e f = one_beginning xs o.1 a b h k e f

-- a range of one list starts no earlier than the range of the other that contains its first second
no_sooner : (covered : Satellite → ℕ → Type 0) (xs ys : List CoverRange) → AreCovers covered xs → AreCovers covered ys → (r s : CoverRange) → Contains xs r → Contains ys s → s.sat ≡ r.sat → s.from ≤ r.from → r.from < s.to → r.from ≤ s.from
no_sooner covered xs ys h k r s i j e l u = at (cases s.from r.from)
  where
    cases : (x y : ℕ) → (x < y) ⊎ (y ≤ x)
    cases x y = grind arith

    at : (s.from < r.from) ⊎ (r.from ≤ s.from) → r.from ≤ s.from
    at (inr g) = g
    at (inl g) =
        let m = h.every r.sat (r.from - 1) (k.covers r.sat (r.from - 1) (s, j, (e, omega (arith, g), omega (arith, u)))) in
        let before : m.0.to < r.from = h.form.apart m.0 r m.1 i m.2.0 (let a = m.2.1 in omega (arith, a, g)) in
        let within : r.from - 1 < m.0.to = m.2.2 in
        absurd (omega (arith, before, within))

-- and it ends no later
no_later : (covered : Satellite → ℕ → Type 0) (xs ys : List CoverRange) → AreCovers covered xs → AreCovers covered ys → (r s : CoverRange) → Contains xs r → Contains ys s → s.sat ≡ r.sat → s.from ≡ r.from → r.to ≤ s.to
no_later covered xs ys h k r s i j e f = at (cases s.to r.to)
  where
    cases : (x y : ℕ) → (x < y) ⊎ (y ≤ x)
    cases x y = grind arith

    three : (x y : ℕ) → (x < y) ⊎ ((x ≡ y) ⊎ (y < x))
    three x y = grind arith

    full : s.from < s.to
    full = k.form.filled s j

    more : s.to < r.to → (m : CoverRange) × Contains ys m × InRange m r.sat s.to
    more g = let l = k.form.filled s j in k.every r.sat s.to (h.covers r.sat s.to (r, i, (refl, omega (arith, l, f), g)))

    apart : s.to < r.to → (m : CoverRange) → Contains ys m → InRange m r.sat s.to → (s.from < m.from) ⊎ ((s.from ≡ m.from) ⊎ (m.from < s.from)) → ⊥
    apart g m c n (inl l) = let a : s.to < m.from = k.form.apart s m j c (e ∙ sym n.0) l in let b = n.1 in omega (arith, a, b)
    apart g m c n (inr (inr l)) =
        let a : m.to < s.from = k.form.apart m s c j (n.0 ∙ sym e) l in
        let b = n.2 in
        let d = k.form.filled s j in
        omega (arith, a, b, d)
    apart g m c n (inr (inl l)) =
        let same : s ≡ m = one_beginning ys (ordered ys k.form.ascending) s m (in_list ys s j) (in_list ys m c) (e ∙ sym n.0) l in
        let b : s.to < m.to = n.2 in
        let d : s.to ≡ m.to = ap (λ (z : CoverRange). z.to) same in
        omega (arith, b, d)

    at : (s.to < r.to) ⊎ (r.to ≤ s.to) → r.to ≤ s.to
    at (inr g) = g
    at (inl g) = let m = more g in absurd (apart g m.0 m.1 m.2 (three s.from m.0.from))

of_other : (covered : Satellite → ℕ → Type 0) (xs ys : List CoverRange) → AreCovers covered xs → AreCovers covered ys → (r : CoverRange) → In r xs → In r ys
of_other covered xs ys h k r i =
    let c = at_place xs r i in
    let s = k.every r.sat r.from (h.covers r.sat r.from (r, c, (refl, omega arith, h.form.filled r c))) in
    let e : s.0.sat ≡ r.sat = s.2.0 in
    let low : s.0.from ≤ r.from = s.2.1 in
    let g : r.from ≤ s.0.from = no_sooner covered xs ys h k r s.0 c s.1 e low s.2.2 in
    let f : s.0.from ≡ r.from = omega (arith, g, low) in
    let u : r.to ≤ s.0.to = no_later covered xs ys h k r s.0 c s.1 e f in
    let v : s.0.to ≤ r.to = no_later covered ys xs k h s.0 r s.1 c (sym e) (sym f) in
    let t : s.0.to ≡ r.to = omega (arith, u, v) in
    let same : s.0 ≡ r = λ n. record { sat = e n; from = f n; to = t n } in
    subst (λ (z : CoverRange). In z ys) same (in_list ys s.0 s.1)

-- sorted lists with the same ranges are equal
itself_not : (a : CoverRange) → Precedes a a → ⊥
itself_not a h = precedes_not a a refl refl h

first_is : (x y : CoverRange) (xs ys : List CoverRange) → Order (x ∷ xs) → Order (y ∷ ys) → In x (y ∷ ys) → In y (x ∷ xs) → x ≡ y
first_is x y xs ys s t (inl e) k = e
first_is x y xs ys s t (inr h) (inl e) = sym e
first_is x y xs ys s t (inr h) (inr k) = absurd (itself_not x (precedes_through x y x (s.0 y k) (t.0 x h)))

behind_same : (x y : CoverRange) (xs ys : List CoverRange) → x ≡ y → Order (x ∷ xs) → (m : CoverRange) → In m xs → In m (y ∷ ys) → In m ys
behind_same x y xs ys e s m h (inl i) = absurd (itself_not x (subst (Precedes x) (i ∙ sym e) (s.0 m h)))
behind_same x y xs ys e s m h (inr k) = k

one_list : (xs ys : List CoverRange) → Order xs → Order ys → ((m : CoverRange) → In m xs → In m ys) → ((m : CoverRange) → In m ys → In m xs) → xs ≡ ys
one_list [] [] s t f g = refl
one_list [] (y ∷ ys) s t f g = absurd (g y (inl refl))
one_list (x ∷ xs) [] s t f g = absurd (f x (inl refl))
one_list (x ∷ xs) (y ∷ ys) s t f g =
    let e = first_is x y xs ys s t (f x (inl refl)) (g y (inl refl)) in
    let k = one_list xs ys s.1 t.1 (λ m h. behind_same x y xs ys e s m h (f m (inr h))) (λ m h. behind_same y x ys xs (sym e) t m h (g m (inr h))) in
    λ i. e i ∷ k i

pub one_cover : (covered : Satellite → ℕ → Type 0) (xs ys : List CoverRange) → AreCovers covered xs → AreCovers covered ys → xs ≡ ys
one_cover covered xs ys h k = one_list xs ys (ordered xs h.form.ascending) (ordered ys k.form.ascending) (of_other covered xs ys h k) (of_other covered ys xs k h)

pub covers_only : (items : List NavItem) (xs : List CoverRange) → AreCovers (AreCovering (Contains items)) xs → xs ≡ covers_of items
covers_only items xs h = one_cover (AreCovering (Contains items)) xs (covers_of items) h (are_covers items)

pub covers_set : (some other : List NavItem) → ((i : NavItem) → Contains some i ↔ Contains other i) → covers_of some ≡ covers_of other
covers_set some other s =
    let h = are_covers some in
    covers_only other (covers_of some) (record {
      form = h.form;
      covers = λ sat m i. let k = h.covers sat m i in (k.0, (s k.0).0 k.1, k.2);
      every = λ sat m k. h.every sat m (k.0, (s k.0).1 k.1, k.2);
    })

-- ---- adding an item

pub full_span : (item : NavItem) (r : CoverRange) → span_of item ≡ Some r → r.from < r.to
full_span item r e = subst IsFull e (span_full item)

pub item_ranges : (item : NavItem) (xs new : List CoverRange) (r : CoverRange) → span_of item ≡ Some r → Rising xs → new ≡ insert_key by_place xs r → AreRanges (joined new)
item_ranges item xs new r e h i = subst (λ ys. AreRanges (joined ys)) (sym i) (more_ranges xs r h (full_span item r e))

pub covers_item : (item : NavItem) (v xs new : List CoverRange) (r : CoverRange) → span_of item ≡ Some r → joined xs ≡ v → Rising xs → new ≡ insert_key by_place xs r → (sat : Satellite) (m : ℕ) → IsIn (joined new) sat m ↔ (IsIn v sat m ⊎ CoversSecond item sat m)
covers_item item v xs new r e f h i sat m = (to, from)
  where
    both : IsIn (joined (insert_key by_place xs r)) sat m ↔ (IsIn (joined xs) sat m ⊎ InRange r sat m)
    both = more_covered xs r h (full_span item r e) sat m

    to : IsIn (joined new) sat m → IsIn v sat m ⊎ CoversSecond item sat m
    to k = elim (both.0 (subst (λ ys. IsIn (joined ys) sat m) i k)) [
      | inl n ↦ inl (subst (λ ys. IsIn ys sat m) f n)
      | inr n ↦ inr (covers_span item sat m (subst (λ o. IsSpanned o sat m) (sym e) n))
    ]

    put : IsIn (joined xs) sat m ⊎ InRange r sat m → IsIn (joined new) sat m
    put k = subst (λ ys. IsIn (joined ys) sat m) (sym i) (both.1 k)

    from : IsIn v sat m ⊎ CoversSecond item sat m → IsIn (joined new) sat m
    from (inl k) = put (inl (subst (λ ys. IsIn ys sat m) (sym f) k))
    from (inr k) = put (inr (subst (λ o. IsSpanned o sat m) e (spanned item sat m k)))
