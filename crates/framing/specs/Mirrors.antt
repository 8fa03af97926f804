-- What the deframer's private functions compute; only their contracts cite it.
use Rattle.std.specs.Prelude.{ℕ, ◌+◌, ◌<◌, ◌&&◌, ◌++◌, nat_lt, Bool, if◌then◌else◌, List, [], ◌∷◌, length}
use Rattle.framing.specs.Frames.{frame_size, is_open}
use Rattle.framing.specs.State.{IsWaiting}

-- the bytes from the first frame on or, with `more`, from the first incomplete one if that is earlier
abbrev pub from_first : Bool → List ℕ → List ℕ
from_first more [] = []
from_first more (x ∷ xs) =
    if more && is_open (x ∷ xs) then x ∷ xs
    else if nat_lt 0 (frame_size (x ∷ xs)) then x ∷ xs
    else from_first more xs

-- no frame is decided while the bytes, with any that follow, are fewer than count
abbrev pub Promises : List ℕ → ℕ → Type 0
Promises rest count = (following : List ℕ) → length rest + length following < count → IsWaiting (rest ++ following)
