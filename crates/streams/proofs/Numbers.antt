-- The number of a payload, by how many bytes it has.
use Rattle.std.proofs.Common.{◌≡◌, ◌+◌, ◌*◌, ◌/◌, ◌<◌, ◌≤◌, ℕ, List, [], ◌∷◌, length, get_or, codes, decimal, refl, arith}
use Rattle.streams.specs.FrameLines.{number_text}

pub number_text-many : (payload : List ℕ) → 2 ≤ length payload → number_text payload ≡ decimal (get_or payload 0 0 * 16 + get_or payload 1 0 / 16)
unfolding number_text
number_text-many [] long = absurd (omega arith)
number_text-many (x ∷ []) long = absurd (omega arith)
number_text-many (x ∷ y ∷ more) long = refl

pub number_text-few : (payload : List ℕ) → length payload < 2 → number_text payload ≡ codes "-"
unfolding number_text
number_text-few [] short = refl
number_text-few (x ∷ []) short = refl
number_text-few (x ∷ y ∷ more) short = absurd (omega arith)
