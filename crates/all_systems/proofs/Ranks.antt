-- The ranks of rows that were given.
use Rattle.std.proofs.Common.{◌≡◌, ◌||◌, Bool, true, false, cond, List, ◌∙◌, refl, ℤ}
use Rattle.std.specs.BTreeMap.{is_at}
use Rattle.std.specs.BTreeSet.{BTreeSet, contains}
use Rattle.std.specs.Cmp.Lexicographic.{slice_cmp}
use Rattle.std.specs.Ordering.{int_cmp, is_eq}
use Rattle.std.specs.declared.cmp.Ordering.{Ordering}
use Rattle.arrayvec.specs.ArrayVec.{ArrayVec}
use Rattle.all_systems.specs.Mirrors.{is_rank_in}

abbrev by_items : ArrayVec ℤ → ArrayVec ℤ → Ordering
by_items v w = slice_cmp int_cmp v.items w.items

-- a rank was added
pub rank_added : (old new : BTreeSet (ArrayVec ℤ)) (rank : ArrayVec ℤ)
    → ((other : ArrayVec ℤ) → contains by_items new other ≡ cond (is_at (by_items rank) other) true (contains by_items old other))
    → (zs : List ℤ) → is_rank_in new zs ≡ (is_eq (slice_cmp int_cmp rank.items zs) || is_rank_in old zs)
rank_added old new rank updates zs = updates (record { items = zs }) ∙ joined (is_eq (slice_cmp int_cmp rank.items zs)) (is_rank_in old zs) where
  joined : (a b : Bool) → cond a true b ≡ (a || b)
  joined true b = refl
  joined false b = refl
