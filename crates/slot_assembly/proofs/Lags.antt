-- The ends in the list rise until none below a limit lags.
use Rattle.std.proofs.Common.{◌≡◌, ℕ, ◌+◌, ◌-◌, ◌<◌, ◌≤◌, ◌||◌, Bool, true, false, cond, List, [], ◌∷◌, refl, ap, arith}
use Rattle.std.specs.List.{list_any}
use Rattle.std.specs.BTreeMap.{is_at}
use Rattle.std.specs.BTreeSet.{insert_key}
use Rattle.std.specs.Set.{remove_key}
use Rattle.std.specs.Ordering.{match_ordering}
use Rattle.std.specs.declared.cmp.Ordering.{Ordering}
use Rattle.std.specs.declared.cmp.Ordering.TheVariants.{Less, Equal, Greater}
use Rattle.std.proofs.lemmas.Bool.{both_ways}
use Rattle.slot_assembly.specs.declared.order.ByEnd.{ByEnd}
use Rattle.slot_assembly.specs.contracts.order.ByEndOrd.TheImpl.{cmp-value as end_cmp}
use Rattle.slot_assembly.specs.Slots.{HasEnd, lag}
use Rattle.slot_assembly.proofs.RankOrder.{end_is}

inserted : (limit : ℕ) (k x : ByEnd) (xs ys : List ByEnd) (o : Ordering) → lag limit ys ≤ (limit - k.end) + lag limit xs → lag limit (match_ordering o (k ∷ x ∷ xs) (x ∷ xs) (x ∷ ys)) ≤ (limit - k.end) + ((limit - x.end) + lag limit xs)
inserted limit k x xs ys Less h = omega arith
inserted limit k x xs ys Equal h = omega arith
inserted limit k x xs ys Greater h = omega arith

pub lag_insert : (limit : ℕ) (ks : List ByEnd) (k : ByEnd) → lag limit (insert_key end_cmp.it ks k) ≤ (limit - k.end) + lag limit ks
lag_insert limit [] k = omega arith
lag_insert limit (x ∷ xs) k = inserted limit k x xs (insert_key end_cmp.it xs k) (end_cmp.it k x) (lag_insert limit xs k)

removed : (limit : ℕ) (y x : ByEnd) (xs ys : List ByEnd) (b : Bool) → is_at (end_cmp.it y) x ≡ b → (b ≡ false → lag limit ys + (limit - y.end) ≡ lag limit xs) → lag limit (cond b xs (x ∷ ys)) + (limit - y.end) ≡ (limit - x.end) + lag limit xs
removed limit y x xs ys true e h = omega (arith, ap (λ (z : ByEnd). z.end) (end_is y x e))
removed limit y x xs ys false e h = omega (arith, h refl)

or_rest : (b c : Bool) → b || c ≡ true → b ≡ false → c ≡ true
or_rest true c h e = absurd (both_ways true e refl)
or_rest false c h e = h

pub lag_remove : (limit : ℕ) (ks : List ByEnd) (y : ByEnd) → HasEnd ks y → lag limit (remove_key (is_at (end_cmp.it y)) ks) + (limit - y.end) ≡ lag limit ks
lag_remove limit [] y h = absurd (both_ways false refl h)
lag_remove limit (x ∷ xs) y h =
    removed limit y x xs (remove_key (is_at (end_cmp.it y)) xs) (is_at (end_cmp.it y) x) refl
    (λ e. lag_remove limit xs y (or_rest (is_at (end_cmp.it y) x) (list_any (is_at (end_cmp.it y)) xs) h e))

-- an end that moves on
pub lag_moved : (limit : ℕ) (ks mid ks' : List ByEnd) (y k : ByEnd) → HasEnd mid y → mid ≡ insert_key end_cmp.it ks k → ks' ≡ remove_key (is_at (end_cmp.it y)) mid → y.end < k.end → y.end < limit → lag limit ks' < lag limit ks
lag_moved limit ks mid ks' y k h d e m l =
    omega (arith, lag_remove limit mid y h, ap (lag limit) e, ap (lag limit) d, lag_insert limit ks k)
