-- A list in memory, number by number.
use Rattle.std.proofs.Common.{rules, ◌≡◌, ◌<◌, List, ◌∷◌, ℤ, ◌∙◌, w64, FitsSigned, to_z, of_z}
use lib.Signed.{mag}
use Rattle.std.proofs.lemmas.Int.{to_z-of_z}

-- a number that `i64` has
pub cell : {x y : ℤ} {xs ys : List ℤ} → mag x < 9223372036854775808 → x ≡ y → xs ≡ ys → to_z w64 (of_z w64 x) ∷ xs ≡ y ∷ ys
cell {x} {y} {xs} {ys} h e f =
    let fits : FitsSigned w64 x = search rules in
    let kept : to_z w64 (of_z w64 x) ≡ y = to_z-of_z w64 x fits ∙ e in
    λ i. kept i ∷ f i
