-- Inserting an item into a list sorted by rank: the elements of the new list, and that it is sorted.
use Rattle.std.proofs.Common.{◌≡◌, Bool, true, false, cond, List, [], ◌∷◌, inl, inr, ◌⊎◌, refl, sym, ap, subst, ◌∙◌}
use Rattle.std.specs.List.{AllByRecursion}
use Rattle.std.specs.List.Sorted.{IsStrictlySortedBy}
use Rattle.std.specs.Ordering.{match_ordering, ordering_reverse}
use Rattle.std.specs.declared.cmp.Ordering.{Ordering}
use Rattle.std.specs.declared.cmp.Ordering.TheVariants.{Less, Equal, Greater}
use Rattle.std.proofs.lemmas.Cmp.{tied_itself, tied_back, alike_right}
use Rattle.nav_eph.specs.declared.items.NavItem.{NavItem}
use Rattle.nav_lists.specs.Merging.{by_rank, with_item, earlier_of, is_sooner}
use Rattle.nav_eph.specs.Ranks.{sent_of}
use Rattle.nav_lists.proofs.Orders.{order}

-- the item is in the list
abbrev pub In : NavItem → List NavItem → Type 0
In m [] = ⊥
In m (x ∷ xs) = (m ≡ x) ⊎ In m xs

-- each item is below those that follow it
abbrev pub Ascends : List NavItem → Type 0
Ascends [] = Unit {0}
Ascends (x ∷ xs) = ((m : NavItem) → In m xs → by_rank x m ≡ Less) × Ascends xs

all_in : (P : NavItem → Type 0) (xs : List NavItem) → AllByRecursion P xs → (m : NavItem) → In m xs → P m
all_in P [] a m h = absurd h
all_in P (x ∷ xs) a m (inl e) = subst P (sym e) a.0
all_in P (x ∷ xs) a m (inr h) = all_in P xs a.1 m h

all_of : (P : NavItem → Type 0) (xs : List NavItem) → ((m : NavItem) → In m xs → P m) → AllByRecursion P xs
all_of P [] f = tt
all_of P (x ∷ xs) f = (f x (inl refl), all_of P xs (λ m h. f m (inr h)))

pub ascends : (xs : List NavItem) → IsStrictlySortedBy by_rank xs → Ascends xs
unfolding IsStrictlySortedBy
ascends [] s = tt
ascends (x ∷ xs) s = (all_in (λ m. by_rank x m ≡ Less) xs s.0, ascends xs s.1)

pub sorted : (xs : List NavItem) → Ascends xs → IsStrictlySortedBy by_rank xs
unfolding IsStrictlySortedBy
sorted [] s = tt
sorted (x ∷ xs) s = (all_of (λ m. by_rank x m ≡ Less) xs s.0, sorted xs s.1)

pub less_not : {P : Type 0} (o : Ordering) → o ≡ Less → o ≡ Equal → P
less_not {P} o e f = absurd (no (sym e ∙ f))
  where
    no : Less ≡ Equal → ⊥
    no h = cc

pub greater_not : {P : Type 0} (o : Ordering) → o ≡ Greater → o ≡ Equal → P
greater_not {P} o e f = absurd (no (sym e ∙ f))
  where
    no : Greater ≡ Equal → ⊥
    no h = cc

-- the new item comes first
below_all : (x y : NavItem) (ys : List NavItem) → Ascends (y ∷ ys) → by_rank x y ≡ Less → (m : NavItem) → In m (y ∷ ys) → by_rank x m ≡ Less
below_all x y ys s l m (inl e) = ap (by_rank x) e ∙ l
below_all x y ys s l m (inr h) = order.trans x y m l (s.0 m h)

-- the items of the new list
pub data Stood (x : NavItem) (held : List NavItem) (m : NavItem) : Type 0 where
  as_before : In m held → (by_rank x m ≡ Equal → ⊥) → Stood x held m
  chosen : (y : NavItem) → In y held → by_rank x y ≡ Equal → m ≡ earlier_of x y → Stood x held m
  new : m ≡ x → ((y : NavItem) → In y held → by_rank x y ≡ Equal → ⊥) → Stood x held m

one_behind : (x y : NavItem) (ys : List NavItem) (m : NavItem) → (by_rank x y ≡ Equal → ⊥) → Stood x ys m → Stood x (y ∷ ys) m
one_behind x y ys m n (as_before h k) = as_before (inr h) k
one_behind x y ys m n (chosen z h e k) = chosen z (inr h) e k
one_behind x y ys m n (new e k) = new e (none e k)
  where
    none : m ≡ x → ((z : NavItem) → In z ys → by_rank x z ≡ Equal → ⊥) → (z : NavItem) → In z (y ∷ ys) → by_rank x z ≡ Equal → ⊥
    none e k z (inl i) t = n (ap (by_rank x) (sym i) ∙ t)
    none e k z (inr h) t = k z h t

pub stood : (x : NavItem) (held : List NavItem) → Ascends held → (m : NavItem) → In m (with_item held x) → Stood x held m
stood x [] s m (inl e) = new e (λ y h t. h)
stood x [] s m (inr h) = absurd h
stood x (y ∷ ys) s m h = at (stood x ys s.1 m) (by_rank x y) refl h
  where
    at : (In m (with_item ys x) → Stood x ys m) → (o : Ordering) → by_rank x y ≡ o → In m (match_ordering o (x ∷ y ∷ ys) (earlier_of x y ∷ ys) (y ∷ with_item ys x)) → Stood x (y ∷ ys) m
    at f Less e (inl i) = new i (λ z k t. less_not (by_rank x z) (below_all x y ys s e z k) t)
    at f Less e (inr k) = as_before k (λ t. less_not (by_rank x m) (below_all x y ys s e m k) t)
    at f Equal e (inl i) = chosen y (inl refl) e i
    at f Equal e (inr k) = as_before (inr k) (λ t. less_not (by_rank x m) (order.congr x y m e ∙ s.0 m k) t)
    at f Greater e (inl i) = as_before (inl i) (λ t. greater_not (by_rank x y) e (ap (by_rank x) (sym i) ∙ t))
    at f Greater e (inr k) = one_behind x y ys m (λ t. greater_not (by_rank x y) e t) (f k)

-- each item of the old list is in the new one, or the earlier of two alike is
pub still : (x : NavItem) (held : List NavItem) (y : NavItem) → In y held → In y (with_item held x) ⊎ ((by_rank x y ≡ Equal) × In (earlier_of x y) (with_item held x))
still x [] y h = absurd h
still x (z ∷ zs) y h = at (still x zs y) (by_rank x z) refl h
  where
    lift : In y (with_item zs x) ⊎ ((by_rank x y ≡ Equal) × In (earlier_of x y) (with_item zs x)) → In y (z ∷ with_item zs x) ⊎ ((by_rank x y ≡ Equal) × In (earlier_of x y) (z ∷ with_item zs x))
    lift (inl i) = inl (inr i)
    lift (inr i) = inr (i.0, inr i.1)

    at : (In y zs → In y (with_item zs x) ⊎ ((by_rank x y ≡ Equal) × In (earlier_of x y) (with_item zs x))) → (o : Ordering) → by_rank x z ≡ o → In y (z ∷ zs)
        → In y (match_ordering o (x ∷ z ∷ zs) (earlier_of x z ∷ zs) (z ∷ with_item zs x)) ⊎ ((by_rank x y ≡ Equal) × In (earlier_of x y) (match_ordering o (x ∷ z ∷ zs) (earlier_of x z ∷ zs) (z ∷ with_item zs x)))
    at f Less e k = inl (inr k)
    at f Equal e (inl i) = inr (ap (by_rank x) i ∙ e, inl (ap (earlier_of x) i))
    at f Equal e (inr k) = inl (inr k)
    at f Greater e (inl i) = inl (inl i)
    at f Greater e (inr k) = lift (f k)

chosen_tied : (x y : NavItem) → by_rank x y ≡ Equal → by_rank x (earlier_of x y) ≡ Equal
chosen_tied x y e = at (is_sooner (sent_of x) (sent_of y))
  where
    at : (b : Bool) → by_rank x (cond b x y) ≡ Equal
    at true = tied_itself order x
    at false = e

-- an item alike to the new one is in the new list
pub there : (x : NavItem) (held : List NavItem) → (m : NavItem) × In m (with_item held x) × (by_rank x m ≡ Equal)
there x [] = (x, inl refl, tied_itself order x)
there x (y ∷ ys) = at (there x ys) (by_rank x y) refl
  where
    at : (m : NavItem) × In m (with_item ys x) × (by_rank x m ≡ Equal) → (o : Ordering) → by_rank x y ≡ o → (m : NavItem) × In m (match_ordering o (x ∷ y ∷ ys) (earlier_of x y ∷ ys) (y ∷ with_item ys x)) × (by_rank x m ≡ Equal)
    at k Less e = (x, inl refl, tied_itself order x)
    at k Equal e = (earlier_of x y, inl refl, chosen_tied x y e)
    at k Greater e = (k.0, inr k.1, k.2)

-- the new list ascends
above_new : (x y : NavItem) (ys : List NavItem) → Ascends (y ∷ ys) → by_rank y x ≡ Less → (m : NavItem) → Stood x ys m → by_rank y m ≡ Less
above_new x y ys s l m (as_before h k) = s.0 m h
above_new x y ys s l m (chosen z h e k) = ap (by_rank y) k ∙ (sym (alike_right order x (earlier_of x z) y (chosen_tied x z e)) ∙ l)
above_new x y ys s l m (new e k) = ap (by_rank y) e ∙ l

chosen_below : (x y : NavItem) (ys : List NavItem) → Ascends (y ∷ ys) → by_rank x y ≡ Equal → (m : NavItem) → In m ys → by_rank (earlier_of x y) m ≡ Less
chosen_below x y ys s e m h = sym (order.congr x (earlier_of x y) m (chosen_tied x y e)) ∙ (order.congr x y m e ∙ s.0 m h)

pub ascends_more : (x : NavItem) (held : List NavItem) → Ascends held → Ascends (with_item held x)
ascends_more x [] s = (λ m h. absurd h, tt)
ascends_more x (y ∷ ys) s = at (ascends_more x ys s.1) (by_rank x y) refl
  where
    at : Ascends (with_item ys x) → (o : Ordering) → by_rank x y ≡ o → Ascends (match_ordering o (x ∷ y ∷ ys) (earlier_of x y ∷ ys) (y ∷ with_item ys x))
    at f Less e = (below_all x y ys s e, s)
    at f Equal e = (chosen_below x y ys s e, s.1)
    at f Greater e = (λ m h. above_new x y ys s (order.antisymm y x ∙ ap ordering_reverse e) m (stood x ys s.1 m h), f)

-- two sorted lists with the same items are equal
first_is : (x y : NavItem) (xs ys : List NavItem) → Ascends (x ∷ xs) → Ascends (y ∷ ys) → In x (y ∷ ys) → In y (x ∷ xs) → x ≡ y
first_is x y xs ys s t (inl e) k = e
first_is x y xs ys s t (inr h) (inl e) = sym e
first_is x y xs ys s t (inr h) (inr k) = less_not (by_rank x x) (order.trans x y x (s.0 y k) (t.0 x h)) (tied_itself order x)

behind_same : (x y : NavItem) (xs ys : List NavItem) → x ≡ y → Ascends (x ∷ xs) → (m : NavItem) → In m xs → In m (y ∷ ys) → In m ys
behind_same x y xs ys e s m h (inl i) = less_not (by_rank x m) (s.0 m h) (ap (by_rank x) (i ∙ sym e) ∙ tied_itself order x)
behind_same x y xs ys e s m h (inr k) = k

pub one_list : (xs ys : List NavItem) → Ascends xs → Ascends ys → ((m : NavItem) → In m xs → In m ys) → ((m : NavItem) → In m ys → In m xs) → xs ≡ ys
one_list [] [] s t f g = refl
one_list [] (y ∷ ys) s t f g = absurd (g y (inl refl))
one_list (x ∷ xs) [] s t f g = absurd (f x (inl refl))
one_list (x ∷ xs) (y ∷ ys) s t f g =
    let e = first_is x y xs ys s t (f x (inl refl)) (g y (inl refl)) in
    let k = one_list xs ys s.1 t.1 (λ m h. behind_same x y xs ys e s m h (f m (inr h))) (λ m h. behind_same y x ys xs (sym e) t m h (g m (inr h))) in
    λ i. e i ∷ k i

-- two items of a sorted list that compare equal are equal
pub one_tied : (xs : List NavItem) → Ascends xs → (a b : NavItem) → In a xs → In b xs → by_rank a b ≡ Equal → a ≡ b
one_tied [] s a b h k e = absurd h
one_tied (x ∷ xs) s a b (inl i) (inl j) e = i ∙ sym j
one_tied (x ∷ xs) s a b (inl i) (inr k) e = less_not (by_rank a b) (ap (λ z. by_rank z b) i ∙ s.0 b k) e
one_tied (x ∷ xs) s a b (inr h) (inl j) e = less_not (by_rank b a) (ap (λ z. by_rank z a) j ∙ s.0 a h) (tied_back order a b e)
one_tied (x ∷ xs) s a b (inr h) (inr k) e = one_tied xs s.1 a b h k e
