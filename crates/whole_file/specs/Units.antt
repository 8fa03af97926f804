-- The first complete unit in some bytes, by which a log is recognised, wherever it was truncated.
use Rattle.std.specs.Prelude.{◌≡◌, ◌||◌, ℕ, nat_lt, Bool, if◌then◌else◌, List, [], ◌∷◌, ◌++◌, drop, Option, None, Some}
use Rattle.framing.specs.Headings.{opens_by, size_by}
use Rattle.framing.specs.SbfForm.{sbf}
use Rattle.framing.specs.UbxForm.{ubx}
use Rattle.framing.specs.Frames.{frame_size, is_open}
use Rattle.whole_file.specs.declared.kinds.Kind.{Kind}
use Rattle.whole_file.specs.declared.kinds.Kind.TheVariants.{Stream, Ubx, Sbf}

-- the format of the complete unit that the bytes begin with: a UBX message, an SBF block or an RTCM
-- 3 frame, of right checksum
abbrev pub unit_of : List ℕ → Option Kind
unit_of bytes =
    if nat_lt 0 (size_by ubx bytes) then Some Ubx
    else if nat_lt 0 (size_by sbf bytes) then Some Sbf
    else if nat_lt 0 (frame_size bytes) then Some Stream
    else None

-- the bytes begin with an incomplete unit
abbrev pub opens_unit : List ℕ → Bool
opens_unit bytes = opens_by ubx bytes || opens_by sbf bytes || is_open bytes

-- the first of two, if there is one
abbrev pub first_of : Option Kind → Option Kind → Option Kind
first_of None other = other
first_of (Some kind) other = Some kind

-- the format of the first complete unit: of the one that begins at the least offset
abbrev pub first_unit : List ℕ → Option Kind
first_unit [] = None
first_unit (x ∷ xs) = first_of (unit_of (x ∷ xs)) (first_unit xs)

-- no complete unit begins before this offset, whatever bytes follow
abbrev pub IsPast : List ℕ → ℕ → Type 0
IsPast bytes place = (following : List ℕ) → first_unit (bytes ++ following) ≡ first_unit (drop place bytes ++ following)
