-- What inner functions of the deframer compute; only their contracts cite it.
use Rattle.std.specs.Prelude.{ℕ, ◌+◌, ◌<◌, ◌&&◌, ◌++◌, nat_lt, Bool, if◌then◌else◌, List, [], ◌∷◌}
use Rattle.std.specs.Prelude.{length}
use Rattle.framing.specs.Messages.{Format}
use Rattle.framing.specs.MessageState.{IsWaiting}

-- the bytes from the first offset on where a message begins or, if more bytes may come, an
-- incomplete one does
abbrev pub from_first : Format → Bool → List ℕ → List ℕ
from_first format more [] = []
from_first format more (x ∷ xs) =
    if more && format.is_open (x ∷ xs) then x ∷ xs
    else if nat_lt 0 (format.size (x ∷ xs)) then x ∷ xs
    else from_first format more xs

-- while these and what follows are fewer than count bytes, no message is decided
abbrev pub Promises : Format → List ℕ → ℕ → Type 0
Promises format rest count = (following : List ℕ) → length rest + length following < count
    → IsWaiting format (rest ++ following)
