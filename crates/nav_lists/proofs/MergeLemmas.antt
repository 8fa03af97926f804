-- The merged list of a set of items: existence, uniqueness and laws.
use Rattle.std.proofs.Common.{◌≡◌, ℤ, Bool, true, false, cond, int_lt, List, [], ◌∷◌, ◌++◌, ◌⊎◌, inl, inr, ◌↔◌, Contains, suc, zero, refl, sym, ap, subst, ◌∙◌, arith, append_assoc, append-nil}
use Rattle.std.specs.List.{fold}
use Rattle.std.specs.declared.cmp.Ordering.TheVariants.{Less, Equal, Greater}
use Rattle.std.specs.Ordering.{int_cmp}
use Rattle.std.proofs.lemmas.Cmp.{int_cmp_total, tied_itself}
use Rattle.std.proofs.lemmas.Map.Lookups.{exact_signed}
use Rattle.std.proofs.lemmas.List.Elements.{Contains-append_left, Contains-append_right, Contains-append_cases, Contains-push, Contains-push_cases}
use Rattle.nav_eph.specs.Items.{IsAlike, unsent}
use Rattle.nav_eph.specs.Ranks.{sent_of}
use Rattle.nav_eph.specs.declared.items.NavItem.{NavItem}
use Rattle.nav_eph.specs.declared.items.NavItem.TheVariants.{Gps, Gal, Ion}
use Rattle.nav_eph.specs.declared.items.SentSecond.{SentSecond}
use Rattle.nav_eph.specs.declared.items.SentSecond.TheVariants.{Unknown, At}
use Rattle.nav_lists.specs.Merging.{by_rank, with_item, earlier_of, is_sooner, IsEarliest, IsMerged, merged_of}
use Rattle.nav_lists.proofs.Orders.{tied_alike, alike_tied}
use Rattle.nav_lists.proofs.InsertLemmas.{In, Ascends, ascends, sorted, Stood, as_before, chosen, new, stood, still, there, ascends_more, one_list, one_tied}

-- membership by recursion and by place
pub in_list : (xs : List NavItem) (m : NavItem) → Contains xs m → In m xs
in_list [] m h = absurd (omega (arith, h.1))
in_list (x ∷ xs) m (zero, l, e) = inl (sym e)
in_list (x ∷ xs) m (suc k, l, e) = inr (in_list xs m (k, omega arith, e))

pub at_place : (xs : List NavItem) (m : NavItem) → In m xs → Contains xs m
at_place [] m h = absurd h
at_place (x ∷ xs) m (inl e) = (0, omega arith, sym e)
at_place (x ∷ xs) m (inr h) = let k = at_place xs m h in (suc k.0, omega (arith, k.1), k.2)

-- ---- the order of transmission times

true_not : {P : Type 0} (b : Bool) → b ≡ true → b ≡ false → P
true_not {P} b e f = absurd (no (sym e ∙ f))
  where
    no : true ≡ false → ⊥
    no h = cc

less_of : (s t : ℤ) → int_lt s t ≡ true → int_cmp s t ≡ Less
less_of s t h = ap (λ b. cond b Less (cond (int_lt t s) Greater Equal)) h

not_less : (s t : ℤ) → (int_cmp s t ≡ Less → ⊥) → int_lt s t ≡ false
not_less s t n = at (int_lt s t) refl
  where
    at : (b : Bool) → int_lt s t ≡ b → b ≡ false
    at true e = absurd (n (less_of s t e))
    at false e = refl

equal_not : Equal ≡ Less → ⊥
equal_not h = cc

pub no_sooner_itself : (s : SentSecond) → is_sooner s s ≡ false
no_sooner_itself Unknown = refl
no_sooner_itself (At s) = not_less s s (λ e. equal_not (sym (tied_itself int_cmp_total s) ∙ e))

-- where b is earlier than c and a is not, a is not earlier than b
pub sooner_through : (a b c : SentSecond) → is_sooner b c ≡ true → is_sooner a c ≡ false → is_sooner a b ≡ false
sooner_through Unknown b c h k = refl
sooner_through (At s) Unknown c h k = true_not false h refl
sooner_through (At s) (At t) Unknown h k = true_not true refl k
sooner_through (At s) (At t) (At u) h k = not_less s t (λ e. true_not (int_lt s u) (is_less s u (int_cmp_total.trans s t u e (less_of t u h))) k)
  where
    is_less : (x y : ℤ) → int_cmp x y ≡ Less → int_lt x y ≡ true
    is_less x y e = at (int_lt x y) (int_lt y x) e
      where
        at : (b d : Bool) → cond b Less (cond d Greater Equal) ≡ Less → b ≡ true
        at true d f = refl
        at false true f = absurd (greater_is f)
          where
            greater_is : Greater ≡ Less → ⊥
            greater_is h = cc
        at false false f = absurd (equal_is f)
          where
            equal_is : Equal ≡ Less → ⊥
            equal_is h = cc

same_second : (a b : SentSecond) → is_sooner a b ≡ false → is_sooner b a ≡ false → a ≡ b
same_second Unknown Unknown h k = refl
same_second Unknown (At t) h k = true_not true refl k
same_second (At s) Unknown h k = true_not true refl h
same_second (At s) (At t) h k = ap At (exact_signed s t (λ i. cond (h i) Less (cond (k i) Greater Equal)))

-- ---- items by their fields and their transmission time

-- the item with its transmission time replaced; an ionosphere is unchanged
abbrev resent : NavItem → SentSecond → NavItem
resent (Gps e) second = Gps (record e { sent = second })
resent (Gal e) second = Gal (record e { sent = second })
resent (Ion e) second = Ion e

resent_own : (x : NavItem) → resent (unsent x) (sent_of x) ≡ x
resent_own (Gps e) = refl
resent_own (Gal e) = refl
resent_own (Ion e) = refl

pub alike_same : (a b : NavItem) → IsAlike a b → is_sooner (sent_of a) (sent_of b) ≡ false → is_sooner (sent_of b) (sent_of a) ≡ false → a ≡ b
alike_same a b e h k =
    sym (resent_own a) ∙ ap (λ s. resent (unsent a) s) (same_second (sent_of a) (sent_of b) h k) ∙ ap (λ x. resent x (sent_of b)) e ∙ resent_own b

-- ---- one item more

-- a set with one more item
abbrev pub With : (NavItem → Type 0) → NavItem → NavItem → Type 0
With items x i = items i ⊎ (i ≡ x)

chosen_first : (items : NavItem → Type 0) (x y : NavItem) → IsAlike x y → IsEarliest items y → (b : Bool) → is_sooner (sent_of x) (sent_of y) ≡ b → IsEarliest (With items x) (cond b x y)
chosen_first items x y a h true e = record {
  here = inr refl;
  first = first;
}
  where
    first : (other : NavItem) → With items x other → IsAlike other x → is_sooner (sent_of other) (sent_of x) ≡ false
    first other (inl i) k = sooner_through (sent_of other) (sent_of x) (sent_of y) e (h.first other i (k ∙ a))
    first other (inr i) k = ap (λ z. is_sooner (sent_of z) (sent_of x)) i ∙ no_sooner_itself (sent_of x)
chosen_first items x y a h false e = record {
  here = inl h.here;
  first = first;
}
  where
    first : (other : NavItem) → With items x other → IsAlike other y → is_sooner (sent_of other) (sent_of y) ≡ false
    first other (inl i) k = h.first other i k
    first other (inr i) k = ap (λ z. is_sooner (sent_of z) (sent_of y)) i ∙ e

each_more : (items : NavItem → Type 0) (held : List NavItem) (x : NavItem) → IsMerged items held → (m : NavItem) → Stood x held m → IsEarliest (With items x) m
each_more items held x h m (as_before i n) =
    let k = h.each m (at_place held m i) in
    record {
      here = inl k.here;
      first = first;
    }
  where
    first : (other : NavItem) → With items x other → IsAlike other m → is_sooner (sent_of other) (sent_of m) ≡ false
    first other (inl j) a = (h.each m (at_place held m i)).first other j a
    first other (inr j) a = absurd (n (alike_tied x m (ap unsent (sym j) ∙ a)))
each_more items held x h m (chosen y i t e) =
    subst (IsEarliest (With items x)) (sym e) (chosen_first items x y (tied_alike x y t) (h.each y (at_place held y i)) (is_sooner (sent_of x) (sent_of y)) refl)
each_more items held x h m (new e n) = subst (IsEarliest (With items x)) (sym e) (record { here = inr refl; first = first })
  where
    first : (other : NavItem) → With items x other → IsAlike other x → is_sooner (sent_of other) (sent_of x) ≡ false
    first other (inl j) a =
        let k = h.every other j in
        absurd (n k.0 (in_list held k.0 k.1) (alike_tied x k.0 (sym a ∙ k.2)))
    first other (inr j) a = ap (λ z. is_sooner (sent_of z) (sent_of x)) j ∙ no_sooner_itself (sent_of x)

every_more : (items : NavItem → Type 0) (held : List NavItem) (x : NavItem) → IsMerged items held → (item : NavItem) → With items x item → (m : NavItem) × Contains (with_item held x) m × IsAlike item m
every_more items held x h item (inr e) =
    let k = there x held in
    (k.0, at_place (with_item held x) k.0 k.1, ap unsent e ∙ tied_alike x k.0 k.2)
every_more items held x h item (inl i) = at (still x held k.0 (in_list held k.0 k.1))
  where
    k : (m : NavItem) × Contains held m × IsAlike item m
    k = h.every item i

    at : In k.0 (with_item held x) ⊎ ((by_rank x k.0 ≡ Equal) × In (earlier_of x k.0) (with_item held x)) → (m : NavItem) × Contains (with_item held x) m × IsAlike item m
    at (inl j) = (k.0, at_place (with_item held x) k.0 j, k.2)
    at (inr j) = (earlier_of x k.0, at_place (with_item held x) (earlier_of x k.0) j.1, k.2 ∙ chosen_alike (is_sooner (sent_of x) (sent_of k.0)))
      where
        chosen_alike : (b : Bool) → IsAlike k.0 (cond b x k.0)
        chosen_alike true = sym (tied_alike x k.0 j.0)
        chosen_alike false = refl

pub one_more : (items : NavItem → Type 0) (held : List NavItem) (x : NavItem) → IsMerged items held → IsMerged (With items x) (with_item held x)
one_more items held x h = record {
  ascending = sorted (with_item held x) (ascends_more x held (ascends held h.ascending));
  each = λ m i. each_more items held x h m (stood x held (ascends held h.ascending) m (in_list (with_item held x) m i));
  every = every_more items held x h;
}

-- ---- sets

abbrev pub Same : (NavItem → Type 0) → (NavItem → Type 0) → Type 0
Same p q = (i : NavItem) → p i ↔ q i

pub of_same : (p q : NavItem → Type 0) (xs : List NavItem) → Same p q → IsMerged p xs → IsMerged q xs
of_same p q xs s h = record {
  ascending = h.ascending;
  each = λ m i. record {
    here = (s m).0 (h.each m i).here;
    first = λ other j a. (h.each m i).first other ((s other).1 j) a;
  };
  every = λ item i. h.every item ((s item).1 i);
}

with_pushed : (items : List NavItem) (x : NavItem) → Same (With (Contains items) x) (Contains (items ++ x ∷ []))
with_pushed items x i = (to, from)
  where
    to : With (Contains items) x i → Contains (items ++ x ∷ []) i
    to (inl h) = Contains-append_left items (x ∷ []) i h
    to (inr e) = subst (Contains (items ++ x ∷ [])) (sym e) (Contains-push items x)

    from : Contains (items ++ x ∷ []) i → With (Contains items) x i
    from h = elim (Contains-push_cases items x i h) [ inl k ↦ inl k | inr e ↦ inr (sym e) ]

pub pushed : (items held : List NavItem) (x : NavItem) → IsMerged (Contains items) held → IsMerged (Contains (items ++ x ∷ [])) (with_item held x)
pushed items held x h = of_same (With (Contains items) x) (Contains (items ++ x ∷ [])) (with_item held x) (with_pushed items x) (one_more (Contains items) held x h)

all_more : (items held more : List NavItem) → IsMerged (Contains items) held → IsMerged (Contains (items ++ more)) (fold with_item held more)
all_more items held [] h = subst (λ l. IsMerged (Contains l) held) (sym (append-nil items)) h
all_more items held (x ∷ xs) h = subst (λ l. IsMerged (Contains l) (fold with_item (with_item held x) xs)) (append_assoc items (x ∷ []) xs) (all_more (items ++ x ∷ []) (with_item held x) xs (pushed items held x h))

pub is_merged : (items : List NavItem) → IsMerged (Contains items) (merged_of items)
unfolding merged_of
is_merged items = all_more [] [] items (record {
  ascending = sorted [] tt;
  each = λ m h. absurd (in_list [] m h);
  every = λ item h. absurd (in_list [] item h);
})

-- ---- uniqueness

of_other : (items : NavItem → Type 0) (xs ys : List NavItem) → IsMerged items xs → IsMerged items ys → (m : NavItem) → In m xs → In m ys
of_other items xs ys h k m i =
    let a = h.each m (at_place xs m i) in
    let n = k.every m a.here in
    let b = k.each n.0 n.1 in
    subst (λ z. In z ys) (sym (alike_same m n.0 n.2 (b.first m a.here n.2) (a.first n.0 b.here (sym n.2)))) (in_list ys n.0 n.1)

pub one_merged : (items : NavItem → Type 0) (xs ys : List NavItem) → IsMerged items xs → IsMerged items ys → xs ≡ ys
one_merged items xs ys h k = one_list xs ys (ascends xs h.ascending) (ascends ys k.ascending) (of_other items xs ys h k) (of_other items ys xs k h)

pub merged_only : (items xs : List NavItem) → IsMerged (Contains items) xs → xs ≡ merged_of items
merged_only items xs h = one_merged (Contains items) xs (merged_of items) h (is_merged items)

pub merged_set : (some other : List NavItem) → Same (Contains some) (Contains other) → merged_of some ≡ merged_of other
merged_set some other s = merged_only other (merged_of some) (of_same (Contains some) (Contains other) (merged_of some) s (is_merged some))

pub merged_swapped : (some more : List NavItem) → merged_of (some ++ more) ≡ merged_of (more ++ some)
merged_swapped some more = merged_set (some ++ more) (more ++ some) (λ i. (turn some more i, turn more some i))
  where
    turn : (xs ys : List NavItem) (i : NavItem) → Contains (xs ++ ys) i → Contains (ys ++ xs) i
    turn xs ys i h = elim (Contains-append_cases xs ys i h) [ inl k ↦ Contains-append_right ys xs i k | inr k ↦ Contains-append_left ys xs i k ]

pub merged_twice : (some : List NavItem) → merged_of (some ++ some) ≡ merged_of some
merged_twice some = merged_set (some ++ some) some (λ i. (once i, λ h. Contains-append_left some some i h))
  where
    once : (i : NavItem) → Contains (some ++ some) i → Contains some i
    once i h = elim (Contains-append_cases some some i h) [ inl k ↦ k | inr k ↦ k ]

-- a list that ascends is merged
pub own_merged : (xs : List NavItem) → Ascends xs → IsMerged (Contains xs) xs
own_merged xs s = record {
  ascending = sorted xs s;
  each = λ m i. record {
    here = i;
    first = λ other j a. ap (λ z. is_sooner (sent_of z) (sent_of m)) (one_tied xs s other m (in_list xs other j) (in_list xs m i) (alike_tied other m a)) ∙ no_sooner_itself (sent_of m);
  };
  every = λ item i. (item, i, refl);
}

pub merged_itself : (xs : List NavItem) → Ascends xs → merged_of xs ≡ xs
merged_itself xs s = sym (merged_only xs xs (own_merged xs s))

fold_behind : (held xs ys : List NavItem) → fold with_item held (xs ++ ys) ≡ fold with_item (fold with_item held xs) ys
fold_behind held [] ys = refl
fold_behind held (x ∷ xs) ys = fold_behind (with_item held x) xs ys

pub merged_behind : (xs ys : List NavItem) → merged_of (xs ++ ys) ≡ fold with_item (merged_of xs) ys
unfolding merged_of
merged_behind xs ys = fold_behind [] xs ys

pub merged_again : (some more : List NavItem) → merged_of (merged_of some ++ more) ≡ merged_of (some ++ more)
merged_again some more =
    merged_behind (merged_of some) more
    ∙ ap (λ held. fold with_item held more) (merged_itself (merged_of some) (ascends (merged_of some) (is_merged some).ascending))
    ∙ sym (merged_behind some more)

-- the merged list of merged items and one more
pub merged_pushed : (held : List NavItem) (x : NavItem) → Ascends held → merged_of (held ++ x ∷ []) ≡ with_item held x
merged_pushed held x s = merged_behind held (x ∷ []) ∙ ap (λ l. with_item l x) (merged_itself held s)
