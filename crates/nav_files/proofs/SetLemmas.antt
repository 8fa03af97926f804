-- Sets of items: what they contain, and that two have no difference exactly where they contain the same items.
use Rattle.std.proofs.Common.{◌≡◌, ◌⊎◌, inl, inr, ◌↔◌, ◌||◌, zero, suc, ℤ, pos, Bool, true, false, cond, not, List, [], ◌∷◌, ◌++◌, drop, take, refl, sym, ap, subst, ◌∙◌, arith, Contains}
use Rattle.std.specs.Prelude.{slice_index_or}
use Rattle.std.specs.BTreeMap.{is_at}
use Rattle.std.specs.BTreeSet.{insert_key}
use Rattle.std.specs.Cmp.{IsTotalOrder}
use Rattle.std.specs.Cmp.Lexicographic.{slice_cmp}
use Rattle.std.specs.List.{filter, fold, list_any}
use Rattle.std.specs.Ordering.{int_cmp, is_eq, match_ordering, ordering_then}
use Rattle.std.specs.declared.cmp.Ordering.{Ordering}
use Rattle.std.specs.declared.cmp.Ordering.TheVariants.{Less, Equal, Greater}
use Rattle.std.proofs.lemmas.Cmp.{int_cmp_total, lists_total, on_total, tied_itself}
use Rattle.std.proofs.lemmas.List.{append_cancel_right}
use Rattle.std.proofs.lemmas.Map.Lookups.{exact_signed}
use Rattle.nav_eph.proofs.Surface.{same_item-decides, same_numbers-decides}
use Rattle.nav_eph.specs.Ranks.{rank, whole_rank}
use Rattle.nav_eph.specs.declared.items.NavItem.{NavItem}
use Rattle.nav_eph.specs.declared.items.NavItem.TheVariants.{Gps, Gal, Ion}
use Rattle.nav_files.specs.Differences.{beside, differences, lacking, paired}
use Rattle.nav_files.specs.Numbers.{by_key, by_numbers, numbers_of, set_of}
use Rattle.nav_files.specs.declared.difference.Difference.{Difference}
use Rattle.nav_files.specs.declared.difference.Difference.TheVariants.{OnlyFirst, OnlySecond, Both}

-- ---- equal numbers

nothing : {X P : Type 0} (x : X) (xs : List X) → x ∷ xs ≡ [] → P
nothing {X} {P} x xs e = absurd (no e)
  where
    no : x ∷ xs ≡ [] → ⊥
    no h = cc

other_kind : {P : Type 0} (x y : ℤ) → (x ≡ y → ⊥) → x ≡ y → P
other_kind {P} x y apart e = absurd (apart e)

abbrev kind_in : List ℤ → ℤ
kind_in l = slice_index_or l 2 (pos 0)

-- the numbers of a GPS and of a Galileo ephemeris in the order of `whole_rank`
abbrev gps_whole : List ℤ → List ℤ
gps_whole l = drop 35 l ++ take 33 (drop 2 l)

abbrev gal_whole : List ℤ → List ℤ
gal_whole l = drop 37 l ++ take 35 (drop 2 l)

whole : (a b : NavItem) → numbers_of a ≡ numbers_of b → whole_rank a ≡ whole_rank b
whole (Gps a) (Gps b) e = ap gps_whole e
whole (Gal a) (Gal b) e = ap gal_whole e
whole (Ion a) (Ion b) e =
    ap (λ (l : List ℤ). pos 0 ∷ pos 0 ∷ l) (append_cancel_right (rank (Ion a)) (rank (Ion b)) (pos 0 ∷ pos 0 ∷ []) (ap (drop 2) e))
whole (Gps a) (Gal b) e = other_kind (pos 0) (pos 1) (λ h. cc) (ap kind_in e)
whole (Gps a) (Ion b) e = other_kind (pos 0) (pos 2) (λ h. cc) (ap kind_in e)
whole (Gal a) (Gps b) e = other_kind (pos 1) (pos 0) (λ h. cc) (ap kind_in e)
whole (Gal a) (Ion b) e = other_kind (pos 1) (pos 2) (λ h. cc) (ap kind_in e)
whole (Ion a) (Gps b) e = other_kind (pos 2) (pos 0) (λ h. cc) (ap kind_in e)
whole (Ion a) (Gal b) e = other_kind (pos 2) (pos 1) (λ h. cc) (ap kind_in e)

one_item : (a b : NavItem) → numbers_of a ≡ numbers_of b → a ≡ b
one_item a b e = (same_item-decides a b).0 ((same_numbers-decides (whole_rank a) (whole_rank b)).1 (whole a b e))

-- lists that compare equal are equal
first_tied : (a b : Ordering) → ordering_then a b ≡ Equal → (a ≡ Equal) × (b ≡ Equal)
first_tied Less b e = absurd (no e)
  where
    no : Less ≡ Equal → ⊥
    no h = cc
first_tied Equal b e = (refl, e)
first_tied Greater b e = absurd (no e)
  where
    no : Greater ≡ Equal → ⊥
    no h = cc

same_list : (xs ys : List ℤ) → slice_cmp int_cmp xs ys ≡ Equal → xs ≡ ys
same_list [] [] e = refl
same_list [] (y ∷ ys) e = absurd (no e)
  where
    no : Less ≡ Equal → ⊥
    no h = cc
same_list (x ∷ xs) [] e = absurd (no e)
  where
    no : Greater ≡ Equal → ⊥
    no h = cc
same_list (x ∷ xs) (y ∷ ys) e =
    let t = first_tied (int_cmp x y) (slice_cmp int_cmp xs ys) e in
    let h = exact_signed x y t.0 in
    let k = same_list xs ys t.1 in
    λ i. h i ∷ k i

order : IsTotalOrder by_numbers
order = on_total numbers_of (lists_total int_cmp_total)

exact : (a b : NavItem) → by_numbers a b ≡ Equal → a ≡ b
exact a b e = one_item a b (same_list (numbers_of a) (numbers_of b) e)

-- ---- membership by recursion and by place

abbrev In : NavItem → List NavItem → Type 0
In m [] = ⊥
In m (x ∷ xs) = (m ≡ x) ⊎ In m xs

in_list : (xs : List NavItem) (m : NavItem) → Contains xs m → In m xs
in_list [] m h = absurd (omega (arith, h.1))
in_list (x ∷ xs) m (zero, l, e) = inl (sym e)
in_list (x ∷ xs) m (suc k, l, e) = inr (in_list xs m (k, omega arith, e))

at_place : (xs : List NavItem) (m : NavItem) → In m xs → Contains xs m
at_place [] m h = absurd h
at_place (x ∷ xs) m (inl e) = (0, omega arith, sym e)
at_place (x ∷ xs) m (inr h) = let k = at_place xs m h in (suc k.0, omega (arith, k.1), k.2)

-- ---- the set of items

from_insert : (x : NavItem) (held : List NavItem) (m : NavItem) → In m (insert_key by_numbers held x) → (m ≡ x) ⊎ In m held
from_insert x [] m h = h
from_insert x (y ∷ ys) m h = at (by_numbers x y) (from_insert x ys m) h
  where
    at : (o : Ordering) → (In m (insert_key by_numbers ys x) → (m ≡ x) ⊎ In m ys)
        → In m (match_ordering o (x ∷ y ∷ ys) (y ∷ ys) (y ∷ insert_key by_numbers ys x)) → (m ≡ x) ⊎ In m (y ∷ ys)
    at Less f k = k
    at Equal f k = inr k
    at Greater f (inl e) = inr (inl e)
    at Greater f (inr k) = elim (f k) [ inl e ↦ inl e | inr i ↦ inr (inr i) ]

to_insert : (x : NavItem) (held : List NavItem) (m : NavItem) → (m ≡ x) ⊎ In m held → In m (insert_key by_numbers held x)
to_insert x [] m h = h
to_insert x (y ∷ ys) m h = at (by_numbers x y) refl (to_insert x ys m) h
  where
    at : (o : Ordering) → by_numbers x y ≡ o → ((m ≡ x) ⊎ In m ys → In m (insert_key by_numbers ys x)) → (m ≡ x) ⊎ In m (y ∷ ys)
        → In m (match_ordering o (x ∷ y ∷ ys) (y ∷ ys) (y ∷ insert_key by_numbers ys x))
    at Less e f k = k
    at Equal e f (inl i) = inl (i ∙ exact x y e)
    at Equal e f (inr k) = k
    at Greater e f (inl i) = inr (f (inl i))
    at Greater e f (inr (inl i)) = inl i
    at Greater e f (inr (inr k)) = inr (f (inr k))

from_set : (items held : List NavItem) (m : NavItem) → In m (fold (insert_key by_numbers) held items) → In m held ⊎ In m items
from_set [] held m h = inl h
from_set (x ∷ xs) held m h = elim (from_set xs (insert_key by_numbers held x) m h) [
  | inl k ↦ (elim (from_insert x held m k) [ inl e ↦ inr (inl e) | inr i ↦ inl i ])
  | inr k ↦ inr (inr k)
]

to_set : (items held : List NavItem) (m : NavItem) → In m held ⊎ In m items → In m (fold (insert_key by_numbers) held items)
to_set [] held m (inl h) = h
to_set [] held m (inr h) = absurd h
to_set (x ∷ xs) held m (inl h) = to_set xs (insert_key by_numbers held x) m (inl (to_insert x held m (inr h)))
to_set (x ∷ xs) held m (inr (inl e)) = to_set xs (insert_key by_numbers held x) m (inl (to_insert x held m (inl e)))
to_set (x ∷ xs) held m (inr (inr h)) = to_set xs (insert_key by_numbers held x) m (inr h)

pub set_contains : (items : List NavItem) (m : NavItem) → Contains (set_of items) m ↔ Contains items m
set_contains items m = (
  λ h. at_place items m (none_before (from_set items [] m (in_list (set_of items) m h))),
  λ h. at_place (set_of items) m (to_set items [] m (inr (in_list items m h))),
)
  where
    none_before : In m [] ⊎ In m items → In m items
    none_before (inl k) = absurd k
    none_before (inr k) = k

-- ---- the items that a set lacks

any_in : (m : NavItem) (ys : List NavItem) → list_any (is_at (by_numbers m)) ys ≡ true → In m ys
any_in m [] e = absurd (no e)
  where
    no : false ≡ true → ⊥
    no h = cc
any_in m (y ∷ ys) e = at (by_numbers m y) refl (any_in m ys) e
  where
    at : (o : Ordering) → by_numbers m y ≡ o → (list_any (is_at (by_numbers m)) ys ≡ true → In m ys)
        → (is_eq o || list_any (is_at (by_numbers m)) ys) ≡ true → In m (y ∷ ys)
    at Less i f k = inr (f k)
    at Equal i f k = inl (exact m y i)
    at Greater i f k = inr (f k)

or_true : (b c : Bool) → c ≡ true → (b || c) ≡ true
or_true true c e = refl
or_true false c e = e

in_any : (m : NavItem) (ys : List NavItem) → In m ys → list_any (is_at (by_numbers m)) ys ≡ true
in_any m [] h = absurd h
in_any m (y ∷ ys) (inl e) = ap (λ o. is_eq o || list_any (is_at (by_numbers m)) ys) (ap (by_numbers m) (sym e) ∙ tied_itself order m)
in_any m (y ∷ ys) (inr h) = or_true (is_eq (by_numbers m y)) (list_any (is_at (by_numbers m)) ys) (in_any m ys h)

none_lacking : (xs ys : List NavItem) → lacking xs ys ≡ [] → (m : NavItem) → In m xs → In m ys
none_lacking [] ys e m h = absurd h
none_lacking (x ∷ xs) ys e m h = at (list_any (is_at (by_numbers x)) ys) refl (none_lacking xs ys) e h
  where
    at : (b : Bool) → list_any (is_at (by_numbers x)) ys ≡ b → (lacking xs ys ≡ [] → (i : NavItem) → In i xs → In i ys)
        → cond (not b) (x ∷ lacking xs ys) (lacking xs ys) ≡ [] → In m (x ∷ xs) → In m ys
    at true i f k (inl is) = subst (λ z. In z ys) (sym is) (any_in x ys i)
    at true i f k (inr j) = f k m j
    at false i f k j = nothing x (lacking xs ys) k

all_there : (xs ys : List NavItem) → ((m : NavItem) → In m xs → In m ys) → lacking xs ys ≡ []
all_there [] ys f = refl
all_there (x ∷ xs) ys f =
    ap (λ b. cond (not b) (x ∷ lacking xs ys) (lacking xs ys)) (in_any x ys (f x (inl refl))) ∙ all_there xs ys (λ m h. f m (inr h))

-- ---- no difference

beside_some : {P : Type 0} (x : NavItem) (more : List NavItem → List Difference) (ys : List NavItem) → beside x more ys ≡ [] → P
beside_some x more [] e = nothing _ _ e
beside_some {P} x more (y ∷ ys) e = at (by_key x y) e
  where
    at : (o : Ordering) → match_ordering o (OnlyFirst x ∷ more (y ∷ ys)) (Both x y ∷ more ys) (OnlySecond y ∷ beside x more ys) ≡ [] → P
    at Less k = nothing _ _ k
    at Equal k = nothing _ _ k
    at Greater k = nothing _ _ k

paired_none : (xs ys : List NavItem) → paired xs ys ≡ [] → (xs ≡ []) × (ys ≡ [])
paired_none [] [] e = (refl, refl)
paired_none [] (y ∷ ys) e = nothing _ _ e
paired_none (x ∷ xs) ys e = beside_some x (paired xs) ys e

pub no_difference : (first second : List NavItem)
    → (differences (set_of first) (set_of second) ≡ []) ↔ ((m : NavItem) → Contains first m ↔ Contains second m)
no_difference first second = (from, to)
  where
    across : (some other : List NavItem) → lacking (set_of some) (set_of other) ≡ [] → (m : NavItem) → Contains some m → Contains other m
    across some other e m h =
        (set_contains other m).0 (at_place (set_of other) m (none_lacking (set_of some) (set_of other) e m (in_list (set_of some) m ((set_contains some m).1 h))))

    back : (some other : List NavItem) → ((m : NavItem) → Contains some m → Contains other m) → lacking (set_of some) (set_of other) ≡ []
    back some other f = all_there (set_of some) (set_of other)
        (λ m h. in_list (set_of other) m ((set_contains other m).1 (f m ((set_contains some m).0 (at_place (set_of some) m h)))))

    from : differences (set_of first) (set_of second) ≡ [] → (m : NavItem) → Contains first m ↔ Contains second m
    from e m =
        let none = paired_none (lacking (set_of first) (set_of second)) (lacking (set_of second) (set_of first)) e in
        (across first second none.0 m, across second first none.1 m)

    to : ((m : NavItem) → Contains first m ↔ Contains second m) → differences (set_of first) (set_of second) ≡ []
    to same = λ i. paired (back first second (λ m. (same m).0) i) (back second first (λ m. (same m).1) i)
