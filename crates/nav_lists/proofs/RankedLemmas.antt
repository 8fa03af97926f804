-- The ranked list of a set of values: inserting one more, existence, uniqueness and laws.
use Rattle.std.proofs.Common.{◌≡◌, Bool, true, false, cond, List, [], ◌∷◌, ◌++◌, inl, inr, ◌⊎◌, ◌↔◌, Contains, suc, zero, refl, sym, ap, subst, ◌∙◌, arith, append_assoc, append-nil}
use Rattle.std.specs.Cmp.{IsTotalOrder}
use Rattle.std.specs.List.{AllByRecursion, fold}
use Rattle.std.specs.List.Sorted.{IsStrictlySortedBy}
use Rattle.std.specs.Ordering.{is_lt, match_ordering, ordering_reverse}
use Rattle.std.specs.declared.cmp.Ordering.{Ordering}
use Rattle.std.specs.declared.cmp.Ordering.TheVariants.{Less, Equal, Greater}
use Rattle.std.proofs.lemmas.Cmp.{tied_itself, tied_back, alike_right}
use Rattle.std.proofs.lemmas.List.Elements.{Contains-append_left, Contains-append_right, Contains-append_cases, Contains-push, Contains-push_cases}
use Rattle.nav_lists.specs.Ranks as ranks

module _ {X : Type 0} (by choice : X → X → Ordering) (order : IsTotalOrder by) (total : IsTotalOrder choice) where
  abbrev first_of : X → X → X
  first_of = ranks.first_of by choice

  abbrev with_value : List X → X → List X
  with_value = ranks.with_value by choice

  abbrev IsFirst : (X → Type 0) → X → Type 0
  IsFirst = ranks.IsFirst by choice

  abbrev IsRankedList : (X → Type 0) → List X → Type 0
  IsRankedList = ranks.IsRankedList by choice

  abbrev AreTold : (X → Type 0) → Type 0
  AreTold = ranks.AreTold by choice

  abbrev ranked_of : List X → List X
  ranked_of = ranks.ranked_of by choice

  -- the value is in the list
  abbrev pub In : X → List X → Type 0
  In m [] = ⊥
  In m (x ∷ xs) = (m ≡ x) ⊎ In m xs

  -- each value is below those that follow it
  abbrev pub Ascends : List X → Type 0
  Ascends [] = Unit {0}
  Ascends (x ∷ xs) = ((m : X) → In m xs → by x m ≡ Less) × Ascends xs

  all_in : (P : X → Type 0) (xs : List X) → AllByRecursion P xs → (m : X) → In m xs → P m
  all_in P [] a m h = absurd h
  all_in P (x ∷ xs) a m (inl e) = subst P (sym e) a.0
  all_in P (x ∷ xs) a m (inr h) = all_in P xs a.1 m h

  all_of : (P : X → Type 0) (xs : List X) → ((m : X) → In m xs → P m) → AllByRecursion P xs
  all_of P [] f = tt
  all_of P (x ∷ xs) f = (f x (inl refl), all_of P xs (λ m h. f m (inr h)))

  pub ascends : (xs : List X) → IsStrictlySortedBy by xs → Ascends xs
  unfolding IsStrictlySortedBy
  ascends [] s = tt
  ascends (x ∷ xs) s = (all_in (λ m. by x m ≡ Less) xs s.0, ascends xs s.1)

  pub sorted : (xs : List X) → Ascends xs → IsStrictlySortedBy by xs
  unfolding IsStrictlySortedBy
  sorted [] s = tt
  sorted (x ∷ xs) s = (all_of (λ m. by x m ≡ Less) xs s.0, sorted xs s.1)

  pub less_not : {P : Type 0} (o : Ordering) → o ≡ Less → o ≡ Equal → P
  less_not {P} o e f = absurd (no (sym e ∙ f))
    where
      no : Less ≡ Equal → ⊥
      no h = cc

  pub greater_not : {P : Type 0} (o : Ordering) → o ≡ Greater → o ≡ Equal → P
  greater_not {P} o e f = absurd (no (sym e ∙ f))
    where
      no : Greater ≡ Equal → ⊥
      no h = cc

  -- the new value comes first
  below_all : (x y : X) (ys : List X) → Ascends (y ∷ ys) → by x y ≡ Less → (m : X) → In m (y ∷ ys) → by x m ≡ Less
  below_all x y ys s l m (inl e) = ap (by x) e ∙ l
  below_all x y ys s l m (inr h) = order.trans x y m l (s.0 m h)

  -- the values of the new list
  pub data Stood (x : X) (held : List X) (m : X) : Type 0 where
    as_before : In m held → (by x m ≡ Equal → ⊥) → Stood x held m
    chosen : (y : X) → In y held → by x y ≡ Equal → m ≡ first_of x y → Stood x held m
    new : m ≡ x → ((y : X) → In y held → by x y ≡ Equal → ⊥) → Stood x held m

  one_behind : (x y : X) (ys : List X) (m : X) → (by x y ≡ Equal → ⊥) → Stood x ys m → Stood x (y ∷ ys) m
  one_behind x y ys m n (as_before h k) = as_before (inr h) k
  one_behind x y ys m n (chosen z h e k) = chosen z (inr h) e k
  one_behind x y ys m n (new e k) = new e (none e k)
    where
      none : m ≡ x → ((z : X) → In z ys → by x z ≡ Equal → ⊥) → (z : X) → In z (y ∷ ys) → by x z ≡ Equal → ⊥
      none e k z (inl i) t = n (ap (by x) (sym i) ∙ t)
      none e k z (inr h) t = k z h t

  pub stood : (x : X) (held : List X) → Ascends held → (m : X) → In m (with_value held x) → Stood x held m
  stood x [] s m (inl e) = new e (λ y h t. h)
  stood x [] s m (inr h) = absurd h
  stood x (y ∷ ys) s m h = at (stood x ys s.1 m) (by x y) refl h
    where
      at : (In m (with_value ys x) → Stood x ys m) → (o : Ordering) → by x y ≡ o → In m (match_ordering o (x ∷ y ∷ ys) (first_of x y ∷ ys) (y ∷ with_value ys x)) → Stood x (y ∷ ys) m
      at f Less e (inl i) = new i (λ z k t. less_not (by x z) (below_all x y ys s e z k) t)
      at f Less e (inr k) = as_before k (λ t. less_not (by x m) (below_all x y ys s e m k) t)
      at f Equal e (inl i) = chosen y (inl refl) e i
      at f Equal e (inr k) = as_before (inr k) (λ t. less_not (by x m) (order.congr x y m e ∙ s.0 m k) t)
      at f Greater e (inl i) = as_before (inl i) (λ t. greater_not (by x y) e (ap (by x) (sym i) ∙ t))
      at f Greater e (inr k) = one_behind x y ys m (λ t. greater_not (by x y) e t) (f k)

  -- each value of the old list is in the new one, or the earlier of two alike is
  pub still : (x : X) (held : List X) (y : X) → In y held → In y (with_value held x) ⊎ ((by x y ≡ Equal) × In (first_of x y) (with_value held x))
  still x [] y h = absurd h
  still x (z ∷ zs) y h = at (still x zs y) (by x z) refl h
    where
      lift : In y (with_value zs x) ⊎ ((by x y ≡ Equal) × In (first_of x y) (with_value zs x)) → In y (z ∷ with_value zs x) ⊎ ((by x y ≡ Equal) × In (first_of x y) (z ∷ with_value zs x))
      lift (inl i) = inl (inr i)
      lift (inr i) = inr (i.0, inr i.1)

      at : (In y zs → In y (with_value zs x) ⊎ ((by x y ≡ Equal) × In (first_of x y) (with_value zs x))) → (o : Ordering) → by x z ≡ o → In y (z ∷ zs)
          → In y (match_ordering o (x ∷ z ∷ zs) (first_of x z ∷ zs) (z ∷ with_value zs x)) ⊎ ((by x y ≡ Equal) × In (first_of x y) (match_ordering o (x ∷ z ∷ zs) (first_of x z ∷ zs) (z ∷ with_value zs x)))
      at f Less e k = inl (inr k)
      at f Equal e (inl i) = inr (ap (by x) i ∙ e, inl (ap (first_of x) i))
      at f Equal e (inr k) = inl (inr k)
      at f Greater e (inl i) = inl (inl i)
      at f Greater e (inr k) = lift (f k)

  chosen_tied : (x y : X) → by x y ≡ Equal → by x (first_of x y) ≡ Equal
  chosen_tied x y e = at (is_lt (choice x y))
    where
      at : (b : Bool) → by x (cond b x y) ≡ Equal
      at true = tied_itself order x
      at false = e

  -- an value alike to the new one is in the new list
  pub there : (x : X) (held : List X) → (m : X) × In m (with_value held x) × (by x m ≡ Equal)
  there x [] = (x, inl refl, tied_itself order x)
  there x (y ∷ ys) = at (there x ys) (by x y) refl
    where
      at : (m : X) × In m (with_value ys x) × (by x m ≡ Equal) → (o : Ordering) → by x y ≡ o → (m : X) × In m (match_ordering o (x ∷ y ∷ ys) (first_of x y ∷ ys) (y ∷ with_value ys x)) × (by x m ≡ Equal)
      at k Less e = (x, inl refl, tied_itself order x)
      at k Equal e = (first_of x y, inl refl, chosen_tied x y e)
      at k Greater e = (k.0, inr k.1, k.2)

  -- the new list ascends
  above_new : (x y : X) (ys : List X) → Ascends (y ∷ ys) → by y x ≡ Less → (m : X) → Stood x ys m → by y m ≡ Less
  above_new x y ys s l m (as_before h k) = s.0 m h
  above_new x y ys s l m (chosen z h e k) = ap (by y) k ∙ (sym (alike_right order x (first_of x z) y (chosen_tied x z e)) ∙ l)
  above_new x y ys s l m (new e k) = ap (by y) e ∙ l

  chosen_below : (x y : X) (ys : List X) → Ascends (y ∷ ys) → by x y ≡ Equal → (m : X) → In m ys → by (first_of x y) m ≡ Less
  chosen_below x y ys s e m h = sym (order.congr x (first_of x y) m (chosen_tied x y e)) ∙ (order.congr x y m e ∙ s.0 m h)

  pub ascends_more : (x : X) (held : List X) → Ascends held → Ascends (with_value held x)
  ascends_more x [] s = (λ m h. absurd h, tt)
  ascends_more x (y ∷ ys) s = at (ascends_more x ys s.1) (by x y) refl
    where
      at : Ascends (with_value ys x) → (o : Ordering) → by x y ≡ o → Ascends (match_ordering o (x ∷ y ∷ ys) (first_of x y ∷ ys) (y ∷ with_value ys x))
      at f Less e = (below_all x y ys s e, s)
      at f Equal e = (chosen_below x y ys s e, s.1)
      at f Greater e = (λ m h. above_new x y ys s (order.antisymm y x ∙ ap ordering_reverse e) m (stood x ys s.1 m h), f)

  -- two sorted lists with the same values are equal
  first_is : (x y : X) (xs ys : List X) → Ascends (x ∷ xs) → Ascends (y ∷ ys) → In x (y ∷ ys) → In y (x ∷ xs) → x ≡ y
  first_is x y xs ys s t (inl e) k = e
  first_is x y xs ys s t (inr h) (inl e) = sym e
  first_is x y xs ys s t (inr h) (inr k) = less_not (by x x) (order.trans x y x (s.0 y k) (t.0 x h)) (tied_itself order x)

  behind_same : (x y : X) (xs ys : List X) → x ≡ y → Ascends (x ∷ xs) → (m : X) → In m xs → In m (y ∷ ys) → In m ys
  behind_same x y xs ys e s m h (inl i) = less_not (by x m) (s.0 m h) (ap (by x) (i ∙ sym e) ∙ tied_itself order x)
  behind_same x y xs ys e s m h (inr k) = k

  pub one_list : (xs ys : List X) → Ascends xs → Ascends ys → ((m : X) → In m xs → In m ys) → ((m : X) → In m ys → In m xs) → xs ≡ ys
  one_list [] [] s t f g = refl
  one_list [] (y ∷ ys) s t f g = absurd (g y (inl refl))
  one_list (x ∷ xs) [] s t f g = absurd (f x (inl refl))
  one_list (x ∷ xs) (y ∷ ys) s t f g =
      let e = first_is x y xs ys s t (f x (inl refl)) (g y (inl refl)) in
      let k = one_list xs ys s.1 t.1 (λ m h. behind_same x y xs ys e s m h (f m (inr h))) (λ m h. behind_same y x ys xs (sym e) t m h (g m (inr h))) in
      λ i. e i ∷ k i

  -- two values of a sorted list that compare equal are equal
  pub one_tied : (xs : List X) → Ascends xs → (a b : X) → In a xs → In b xs → by a b ≡ Equal → a ≡ b
  one_tied [] s a b h k e = absurd h
  one_tied (x ∷ xs) s a b (inl i) (inl j) e = i ∙ sym j
  one_tied (x ∷ xs) s a b (inl i) (inr k) e = less_not (by a b) (ap (λ z. by z b) i ∙ s.0 b k) e
  one_tied (x ∷ xs) s a b (inr h) (inl j) e = less_not (by b a) (ap (λ z. by z a) j ∙ s.0 a h) (tied_back order a b e)
  one_tied (x ∷ xs) s a b (inr h) (inr k) e = one_tied xs s.1 a b h k e

  -- membership by recursion and by place
  in_list : (xs : List X) (m : X) → Contains xs m → In m xs
  in_list [] m h = absurd (omega (arith, h.1))
  in_list (x ∷ xs) m (zero, l, e) = inl (sym e)
  in_list (x ∷ xs) m (suc k, l, e) = inr (in_list xs m (k, omega arith, e))

  at_place : (xs : List X) (m : X) → In m xs → Contains xs m
  at_place [] m h = absurd h
  at_place (x ∷ xs) m (inl e) = (0, omega arith, sym e)
  at_place (x ∷ xs) m (inr h) = let k = at_place xs m h in (suc k.0, omega (arith, k.1), k.2)

  -- ---- choice

  is_less : (o : Ordering) → is_lt o ≡ true → o ≡ Less
  is_less Less e = refl
  is_less Equal e = absurd (cc)
  is_less Greater e = absurd (cc)

  not_less : (o : Ordering) → (o ≡ Less → ⊥) → is_lt o ≡ false
  not_less Less n = absurd (n refl)
  not_less Equal n = refl
  not_less Greater n = refl

  true_not : {P : Type 0} (b : Bool) → b ≡ true → b ≡ false → P
  true_not {P} b e f = absurd (no (sym e ∙ f))
    where
      no : true ≡ false → ⊥
      no h = cc

  not_itself : (x : X) → is_lt (choice x x) ≡ false
  not_itself x = ap is_lt (tied_itself total x)

  -- where b is before c and a is not, a is not before b
  not_before : (a b c : X) → is_lt (choice b c) ≡ true → is_lt (choice a c) ≡ false → is_lt (choice a b) ≡ false
  not_before a b c h k = not_less (choice a b) (λ e. true_not (is_lt (choice a c)) (ap is_lt (total.trans a b c e (is_less (choice b c) h))) k)

  neither : (o p : Ordering) → o ≡ ordering_reverse p → is_lt o ≡ false → is_lt p ≡ false → o ≡ Equal
  neither Less p e h k = absurd (cc)
  neither Equal p e h k = refl
  neither Greater Less e h k = absurd (cc)
  neither Greater Equal e h k = absurd (cc)
  neither Greater Greater e h k = absurd (cc)

  tied_through : (a b c : X) → by a b ≡ Equal → by b c ≡ Equal → by a c ≡ Equal
  tied_through a b c e f = order.congr a b c e ∙ f

  -- ---- one value more

  -- a set with one more value
  abbrev pub With : (X → Type 0) → X → X → Type 0
  With values x i = values i ⊎ (i ≡ x)

  chosen_first : (values : X → Type 0) (x y : X) → by x y ≡ Equal → IsFirst values y → (b : Bool) → is_lt (choice x y) ≡ b → IsFirst (With values x) (cond b x y)
  chosen_first values x y a h true e = record { here = inr refl; first = first }
    where
      first : (other : X) → With values x other → by other x ≡ Equal → is_lt (choice other x) ≡ false
      first other (inl i) k = not_before other x y e (h.first other i (tied_through other x y k a))
      first other (inr i) k = ap (λ z. is_lt (choice z x)) i ∙ not_itself x
  chosen_first values x y a h false e = record { here = inl h.here; first = first }
    where
      first : (other : X) → With values x other → by other y ≡ Equal → is_lt (choice other y) ≡ false
      first other (inl i) k = h.first other i k
      first other (inr i) k = ap (λ z. is_lt (choice z y)) i ∙ e

  each_more : (values : X → Type 0) (held : List X) (x : X) → IsRankedList values held → (m : X) → Stood x held m → IsFirst (With values x) m
  each_more values held x h m (as_before i n) =
      let k = h.each m (at_place held m i) in
      record { here = inl k.here; first = first }
    where
      first : (other : X) → With values x other → by other m ≡ Equal → is_lt (choice other m) ≡ false
      first other (inl j) a = (h.each m (at_place held m i)).first other j a
      first other (inr j) a = absurd (n (ap (λ z. by z m) (sym j) ∙ a))
  each_more values held x h m (chosen y i t e) =
      subst (IsFirst (With values x)) (sym e) (chosen_first values x y t (h.each y (at_place held y i)) (is_lt (choice x y)) refl)
  each_more values held x h m (new e n) = subst (IsFirst (With values x)) (sym e) (record { here = inr refl; first = first })
    where
      first : (other : X) → With values x other → by other x ≡ Equal → is_lt (choice other x) ≡ false
      first other (inl j) a =
          let k = h.every other j in
          absurd (n k.0 (in_list held k.0 k.1) (tied_through x other k.0 (tied_back order other x a) k.2))
      first other (inr j) a = ap (λ z. is_lt (choice z x)) j ∙ not_itself x

  every_more : (values : X → Type 0) (held : List X) (x : X) → IsRankedList values held → (y : X) → With values x y → (m : X) × Contains (with_value held x) m × (by y m ≡ Equal)
  every_more values held x h y (inr e) =
      let k = there x held in
      (k.0, at_place (with_value held x) k.0 k.1, ap (λ z. by z k.0) e ∙ k.2)
  every_more values held x h y (inl i) = at (still x held k.0 (in_list held k.0 k.1))
    where
      k : (m : X) × Contains held m × (by y m ≡ Equal)
      k = h.every y i

      at : In k.0 (with_value held x) ⊎ ((by x k.0 ≡ Equal) × In (first_of x k.0) (with_value held x)) → (m : X) × Contains (with_value held x) m × (by y m ≡ Equal)
      at (inl j) = (k.0, at_place (with_value held x) k.0 j, k.2)
      at (inr j) = (first_of x k.0, at_place (with_value held x) (first_of x k.0) j.1, tied_through y k.0 (first_of x k.0) k.2 (tied_through k.0 x (first_of x k.0) (tied_back order x k.0 j.0) (chosen_tied x k.0 j.0)))

  one_more : (values : X → Type 0) (held : List X) (x : X) → IsRankedList values held → IsRankedList (With values x) (with_value held x)
  one_more values held x h = record {
    ascending = sorted (with_value held x) (ascends_more x held (ascends held h.ascending));
    each = λ m i. each_more values held x h m (stood x held (ascends held h.ascending) m (in_list (with_value held x) m i));
    every = every_more values held x h;
  }

  -- ---- sets

  abbrev pub Same : (X → Type 0) → (X → Type 0) → Type 0
  Same p q = (i : X) → p i ↔ q i

  of_same : (p q : X → Type 0) (xs : List X) → Same p q → IsRankedList p xs → IsRankedList q xs
  of_same p q xs s h = record {
    ascending = h.ascending;
    each = λ m i. record {
      here = (s m).0 (h.each m i).here;
      first = λ other j a. (h.each m i).first other ((s other).1 j) a;
    };
    every = λ y i. h.every y ((s y).1 i);
  }

  with_pushed : (values : List X) (x : X) → Same (With (Contains values) x) (Contains (values ++ x ∷ []))
  with_pushed values x i = (to, from)
    where
      to : With (Contains values) x i → Contains (values ++ x ∷ []) i
      to (inl h) = Contains-append_left values (x ∷ []) i h
      to (inr e) = subst (Contains (values ++ x ∷ [])) (sym e) (Contains-push values x)

      from : Contains (values ++ x ∷ []) i → With (Contains values) x i
      from h = elim (Contains-push_cases values x i h) [ inl k ↦ inl k | inr e ↦ inr (sym e) ]

  pushed : (values held : List X) (x : X) → IsRankedList (Contains values) held → IsRankedList (Contains (values ++ x ∷ [])) (with_value held x)
  pushed values held x h = of_same (With (Contains values) x) (Contains (values ++ x ∷ [])) (with_value held x) (with_pushed values x) (one_more (Contains values) held x h)

  all_more : (values held more : List X) → IsRankedList (Contains values) held → IsRankedList (Contains (values ++ more)) (fold with_value held more)
  all_more values held [] h = subst (λ l. IsRankedList (Contains l) held) (sym (append-nil values)) h
  all_more values held (x ∷ xs) h = subst (λ l. IsRankedList (Contains l) (fold with_value (with_value held x) xs)) (append_assoc values (x ∷ []) xs) (all_more (values ++ x ∷ []) (with_value held x) xs (pushed values held x h))

  pub is_ranked : (values : List X) → IsRankedList (Contains values) (ranked_of values)
  unfolding ranks.ranked_of
  is_ranked values = all_more [] [] values (record {
    ascending = sorted [] tt;
    each = λ m h. absurd (in_list [] m h);
    every = λ y h. absurd (in_list [] y h);
  })

  -- ---- uniqueness

  of_other : (values : X → Type 0) (xs ys : List X) → AreTold values → IsRankedList values xs → IsRankedList values ys → (m : X) → In m xs → In m ys
  of_other values xs ys told h k m i =
      let a = h.each m (at_place xs m i) in
      let n = k.every m a.here in
      let b = k.each n.0 n.1 in
      let tied = neither (choice m n.0) (choice n.0 m) (total.antisymm m n.0) (b.first m a.here n.2) (a.first n.0 b.here (tied_back order m n.0 n.2)) in
      subst (λ z. In z ys) (sym (told m n.0 a.here b.here n.2 tied)) (in_list ys n.0 n.1)

  one_ranked : (values : X → Type 0) (xs ys : List X) → AreTold values → IsRankedList values xs → IsRankedList values ys → xs ≡ ys
  one_ranked values xs ys told h k = one_list xs ys (ascends xs h.ascending) (ascends ys k.ascending) (of_other values xs ys told h k) (of_other values ys xs told k h)

  pub ranked_only : (values xs : List X) → AreTold (Contains values) → IsRankedList (Contains values) xs → xs ≡ ranked_of values
  ranked_only values xs told h = one_ranked (Contains values) xs (ranked_of values) told h (is_ranked values)

  told_same : (p q : X → Type 0) → Same p q → AreTold p → AreTold q
  told_same p q s told x y h k e f = told x y ((s x).1 h) ((s y).1 k) e f

  pub ranked_set : (some other : List X) → AreTold (Contains some) → Same (Contains some) (Contains other) → ranked_of some ≡ ranked_of other
  ranked_set some other told s = ranked_only other (ranked_of some) (told_same (Contains some) (Contains other) s told) (of_same (Contains some) (Contains other) (ranked_of some) s (is_ranked some))

  -- a list that ascends is ranked
  own_ranked : (xs : List X) → Ascends xs → IsRankedList (Contains xs) xs
  own_ranked xs s = record {
    ascending = sorted xs s;
    each = λ m i. record {
      here = i;
      first = λ other j a. ap (λ z. is_lt (choice z m)) (one_tied xs s other m (in_list xs other j) (in_list xs m i) a) ∙ not_itself m;
    };
    every = λ y i. (y, i, tied_itself order y);
  }

  ranked_itself : (xs : List X) → Ascends xs → ranked_of xs ≡ xs
  ranked_itself xs s = sym (ranked_only xs xs (λ x y h k e f. one_tied xs s x y (in_list xs x h) (in_list xs y k) e) (own_ranked xs s))

  fold_behind : (held xs ys : List X) → fold with_value held (xs ++ ys) ≡ fold with_value (fold with_value held xs) ys
  fold_behind held [] ys = refl
  fold_behind held (x ∷ xs) ys = fold_behind (with_value held x) xs ys

  ranked_behind : (xs ys : List X) → ranked_of (xs ++ ys) ≡ fold with_value (ranked_of xs) ys
  unfolding ranks.ranked_of
  ranked_behind xs ys = fold_behind [] xs ys

  pub ranked_again : (some more : List X) → ranked_of (ranked_of some ++ more) ≡ ranked_of (some ++ more)
  ranked_again some more =
      ranked_behind (ranked_of some) more
      ∙ ap (λ held. fold with_value held more) (ranked_itself (ranked_of some) (ascends (ranked_of some) (is_ranked some).ascending))
      ∙ sym (ranked_behind some more)

  -- the ranked list of ranked values and one more
  pub ranked_pushed : (held : List X) (x : X) → Ascends held → ranked_of (held ++ x ∷ []) ≡ with_value held x
  ranked_pushed held x s = ranked_behind held (x ∷ []) ∙ ap (λ l. with_value l x) (ranked_itself held s)
