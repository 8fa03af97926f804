-- Merged items while they are written. Private functions cite these.
use Rattle.std.specs.Prelude.{◌≡◌, ℕ, List, [], ◌∷◌, ◌++◌, Option, None, Some}
use Rattle.std.proofs.Common.{inl, inr}
use Rattle.std.specs.Borrow.{Bor}
use Rattle.std.specs.List.{flat_map}
use Rattle.std.specs.Io.KnownBytes.{Appends}
use Rattle.nav_eph.specs.declared.items.NavItem.{NavItem}
use Rattle.nav_rows.specs.Order.{KindRow}
use Rattle.all_systems.specs.CarriedOrder.{CarriedRecord}
use Rattle.all_systems.specs.Merging.{all_entries, interleaved, is_before}
use Rattle.all_systems.specs.declared.next.Next.{Next}
use Rattle.all_systems.specs.declared.next.Next.TheVariants.{Nav, Further, Carried}

-- the next value and those behind it; none if there is no next one
abbrev pub held : {X : Type 0} → Option (Bor X) → List X → List X
held None xs = []
held (Some x) xs = x.now ∷ xs

-- which of the next item and the next row comes first
abbrev pub IsNextItem : Option (Bor NavItem) → Option (Bor KindRow) → Option Next → Type 0
IsNextItem item x None = (is : List NavItem) (xs : List KindRow) → interleaved is_before (held item is) (held x xs) ≡ []
IsNextItem item x (Some (Nav i)) =
    (is : List NavItem) (xs : List KindRow) → interleaved is_before (held item is) (held x xs) ≡ inl i.now ∷ interleaved is_before is (held x xs)
IsNextItem item x (Some (Further y)) =
    (is : List NavItem) (xs : List KindRow) → interleaved is_before (held item is) (held x xs) ≡ inr y.now ∷ interleaved is_before (held item is) xs
IsNextItem item x (Some (Carried c)) = ⊥

-- which of these and the next carried record comes first
abbrev pub IsNext : Option (Bor NavItem) → Option (Bor KindRow) → Option (Bor CarriedRecord) → Option Next → Type 0
IsNext item x c None =
    (is : List NavItem) (xs : List KindRow) (cs : List CarriedRecord) → all_entries (held item is) (held x xs) (held c cs) ≡ []
IsNext item x c (Some (Nav i)) =
    (is : List NavItem) (xs : List KindRow) (cs : List CarriedRecord)
    → all_entries (held item is) (held x xs) (held c cs) ≡ inl (inl i.now) ∷ all_entries is (held x xs) (held c cs)
IsNext item x c (Some (Further y)) =
    (is : List NavItem) (xs : List KindRow) (cs : List CarriedRecord)
    → all_entries (held item is) (held x xs) (held c cs) ≡ inl (inr y.now) ∷ all_entries (held item is) xs (held c cs)
IsNext item x c (Some (Carried d)) =
    (is : List NavItem) (xs : List KindRow) (cs : List CarriedRecord)
    → all_entries (held item is) (held x xs) (held c cs) ≡ inr d.now ∷ all_entries (held item is) (held x xs) cs

-- some items of a list were written, and the others are left
pub record WroteSome {X : Type 0} (text : X → List ℕ) (all left : List X) (written written_new : Option (List ℕ)) : Type 0 where
  pub done : List ℕ
  pub grew : Appends written written_new done
  pub is : flat_map text all ≡ done ++ flat_map text left
