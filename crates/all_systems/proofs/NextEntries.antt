-- Which comes next of items, rows and carried records.
use Rattle.std.proofs.Common.{◌≡◌, Bool, true, false, List, [], ◌∷◌, sym, ap, subst, ◌∙◌, inl, inr}
use Rattle.std.specs.Prelude.{Option, None, Some}
use Rattle.std.specs.Borrow.{Bor}
use Rattle.std.specs.Iterator.{YieldsFirstRef}
use Rattle.nav_eph.specs.declared.items.NavItem.{NavItem}
use Rattle.nav_rows.specs.Order.{KindRow}
use Rattle.all_systems.specs.CarriedOrder.{CarriedRecord}
use Rattle.all_systems.specs.MergeMirrors.{IsNext, IsNextItem, held}
use Rattle.all_systems.specs.Merging.{all_entries, interleaved, is_carried_before}
use Rattle.all_systems.specs.declared.next.Next.{Next}
use Rattle.all_systems.specs.declared.next.Next.TheVariants.{Nav, Further, Carried}
use Rattle.all_systems.proofs.Merges.{first_first, held_is, second_first}

-- ---- of two sorts, the first of which is a list in order

none_left : {A B : Type 0} (before : B → A → Bool) (l : List A) (b : B) (bs : List B) → l ≡ [] → interleaved before l (b ∷ bs) ≡ inr b ∷ interleaved before l bs
none_left {A} before l b bs e = ap (λ (k : List A). interleaved before k (b ∷ bs)) e ∙ ap (λ (k : List A). inr b ∷ interleaved before k bs) (sym e)

second_next : {A B : Type 0} (before : B → A → Bool) (l m : List A) (a : A) (b : B) (bs : List B) → l ≡ a ∷ m → before b a ≡ true → interleaved before l (b ∷ bs) ≡ inr b ∷ interleaved before l bs
second_next {A} before l m a b bs e h =
    ap (λ (k : List A). interleaved before k (b ∷ bs)) e ∙ second_first before a b h m bs ∙ ap (λ (k : List A). inr b ∷ interleaved before k bs) (sym e)

first_next : {A B : Type 0} (before : B → A → Bool) (l m : List A) (a : A) (b : B) (bs : List B) → l ≡ a ∷ m → before b a ≡ false → interleaved before l (b ∷ bs) ≡ inl a ∷ interleaved before m (b ∷ bs)
first_next {A} before l m a b bs e h = ap (λ (k : List A). interleaved before k (b ∷ bs)) e ∙ first_first before a b h m bs

-- ---- the next one

-- where no record is left
pub no_record : (item : Option (Bor NavItem)) (x : Option (Bor KindRow)) (c : Option (Bor CarriedRecord)) (r : Option Next) → c ≡ None → IsNextItem item x r → IsNext item x c r
no_record item x c None e h = λ is xs cs.
    (λ i. interleaved is_carried_before (h is xs i) (held (e i) cs))
no_record item x c (Some (Nav y)) e h = λ is xs cs.
    (λ i. interleaved is_carried_before (h is xs i) (held (e i) cs)) ∙ (λ i. inl (inl y.now) ∷ all_entries is (held x xs) (held (sym e i) cs))
no_record item x c (Some (Further y)) e h = λ is xs cs.
    (λ i. interleaved is_carried_before (h is xs i) (held (e i) cs)) ∙ (λ i. inl (inr y.now) ∷ all_entries (held item is) xs (held (sym e i) cs))
no_record item x c (Some (Carried d)) e h = absurd h

-- where no item is left
pub record_last : (item : Option (Bor NavItem)) (x : Option (Bor KindRow)) (c : Bor CarriedRecord) (r : Option Next) → r ≡ None → IsNextItem item x r → IsNext item x (Some c) (Some (Carried c))
record_last item x c r e h = λ is xs cs. none_left is_carried_before _ c.now cs (subst (IsNextItem item x) e h is xs)

-- where both are left
pub record_before_nav : (item : Option (Bor NavItem)) (x : Option (Bor KindRow)) (c : Bor CarriedRecord) (r : Option Next) (n : Next) (y : Bor NavItem) → r ≡ Some n → n ≡ Nav y → IsNextItem item x r
    → is_carried_before c.now (inl y.now) ≡ true → IsNext item x (Some c) (Some (Carried c))
record_before_nav item x c r n y e f h t = λ is xs cs. second_next is_carried_before _ _ (inl y.now) c.now cs (subst (IsNextItem item x) (e ∙ ap Some f) h is xs) t

pub record_before_row : (item : Option (Bor NavItem)) (x : Option (Bor KindRow)) (c : Bor CarriedRecord) (r : Option Next) (n : Next) (y : Bor KindRow) → r ≡ Some n → n ≡ Further y → IsNextItem item x r
    → is_carried_before c.now (inr y.now) ≡ true → IsNext item x (Some c) (Some (Carried c))
record_before_row item x c r n y e f h t = λ is xs cs. second_next is_carried_before _ _ (inr y.now) c.now cs (subst (IsNextItem item x) (e ∙ ap Some f) h is xs) t

pub nav_before_record : (item : Option (Bor NavItem)) (x : Option (Bor KindRow)) (c : Bor CarriedRecord) (r : Option Next) (n : Next) (y : Bor NavItem) → r ≡ Some n → n ≡ Nav y → IsNextItem item x r
    → is_carried_before c.now (inl y.now) ≡ false → IsNext item x (Some c) (Some n)
nav_before_record item x c r n y e f h t = subst (λ k. IsNext item x (Some c) (Some k)) (sym f)
    (λ is xs cs. first_next is_carried_before _ _ (inl y.now) c.now cs (subst (IsNextItem item x) (e ∙ ap Some f) h is xs) t)

pub row_before_record : (item : Option (Bor NavItem)) (x : Option (Bor KindRow)) (c : Bor CarriedRecord) (r : Option Next) (n : Next) (y : Bor KindRow) → r ≡ Some n → n ≡ Further y → IsNextItem item x r
    → is_carried_before c.now (inr y.now) ≡ false → IsNext item x (Some c) (Some n)
row_before_record item x c r n y e f h t = subst (λ k. IsNext item x (Some c) (Some k)) (sym f)
    (λ is xs cs. first_next is_carried_before _ _ (inr y.now) c.now cs (subst (IsNextItem item x) (e ∙ ap Some f) h is xs) t)

-- an item is no record
pub no_item : {P : Type 0} (item : Option (Bor NavItem)) (x : Option (Bor KindRow)) (r : Option Next) (n : Next) (d : Bor CarriedRecord) → r ≡ Some n → n ≡ Carried d → IsNextItem item x r → P
no_item {P} item x r n d e f h = absurd (subst (IsNextItem item x) (e ∙ ap Some f) h)

-- ---- while they are written

-- what is left once the next one is taken
module _ (item : Option (Bor NavItem)) (x : Option (Bor KindRow)) (c : Option (Bor CarriedRecord)) (r : Option Next) (n : Next) (h : IsNext item x c r) (e : r ≡ Some n) where
  pub nav_next : (i : Bor NavItem) (j : NavItem) → n ≡ Nav i → j ≡ i.now → (is : List NavItem) (xs : List KindRow) (cs : List CarriedRecord)
      → all_entries (held item is) (held x xs) (held c cs) ≡ inl (inl j) ∷ all_entries is (held x xs) (held c cs)
  nav_next i j f g is xs cs =
      subst (IsNext item x c) (e ∙ ap Some f) h is xs cs ∙ ap (λ (y : NavItem). inl (inl y) ∷ all_entries is (held x xs) (held c cs)) (sym g)

  pub row_next : (y : Bor KindRow) → n ≡ Further y → (is : List NavItem) (xs : List KindRow) (cs : List CarriedRecord)
      → all_entries (held item is) (held x xs) (held c cs) ≡ inl (inr y.now) ∷ all_entries (held item is) xs (held c cs)
  row_next y f = subst (IsNext item x c) (e ∙ ap Some f) h

  pub record_next : (d : Bor CarriedRecord) → n ≡ Carried d → (is : List NavItem) (xs : List KindRow) (cs : List CarriedRecord)
      → all_entries (held item is) (held x xs) (held c cs) ≡ inr d.now ∷ all_entries (held item is) (held x xs) cs
  record_next d f = subst (IsNext item x c) (e ∙ ap Some f) h

  pub nav_left : (i : Bor NavItem) (j : NavItem) (old new : List NavItem) (xs : List KindRow) (cs : List CarriedRecord) (next : Option (Bor NavItem)) → n ≡ Nav i → j ≡ i.now → YieldsFirstRef (λ s. s) old next new
      → all_entries (held item old) (held x xs) (held c cs) ≡ inl (inl j) ∷ all_entries (held next new) (held x xs) (held c cs)
  nav_left i j old new xs cs next f g s =
      nav_next i j f g old xs cs ∙ ap (λ (l : List NavItem). inl (inl j) ∷ all_entries l (held x xs) (held c cs)) (sym (held_is old new next s))

  pub row_left : (y : Bor KindRow) (is : List NavItem) (old new : List KindRow) (cs : List CarriedRecord) (next : Option (Bor KindRow)) → n ≡ Further y → YieldsFirstRef (λ s. s) old next new
      → all_entries (held item is) (held x old) (held c cs) ≡ inl (inr y.now) ∷ all_entries (held item is) (held next new) (held c cs)
  row_left y is old new cs next f s =
      row_next y f is old cs ∙ ap (λ (l : List KindRow). inl (inr y.now) ∷ all_entries (held item is) l (held c cs)) (sym (held_is old new next s))

  pub record_left : (d : Bor CarriedRecord) (is : List NavItem) (xs : List KindRow) (old new : List CarriedRecord) (next : Option (Bor CarriedRecord)) → n ≡ Carried d → YieldsFirstRef (λ s. s) old next new
      → all_entries (held item is) (held x xs) (held c old) ≡ inr d.now ∷ all_entries (held item is) (held x xs) (held next new)
  record_left d is xs old new next f s =
      record_next d f is xs old ∙ ap (λ (l : List CarriedRecord). inr d.now ∷ all_entries (held item is) (held x xs) l) (sym (held_is old new next s))
