-- The frames in a list of bytes (RTCM 10403.3, the transport layer). A frame is the preamble D3, six reserved bits, which are
-- ignored, a length in ten bits, a payload of that many bytes, and the CRC-24Q of all before it in three bytes, most
-- significant first.
use Rattle.std.specs.Prelude.{ℕ, zero, suc, ◌+◌, ◌-◌, ◌*◌, ◌%◌, ◌==◌, ◌&&◌, nat_lt, nat_le, Bool, true, false, if◌then◌else◌, List, [], ◌∷◌, length, take, drop}
use Rattle.byteorder.specs.Endian.{big_number}
use Rattle.framing.specs.Checksum.{checksum}

-- whether the last three bytes are the checksum of those before them
unfoldable pub is_right : List ℕ → Bool
is_right frame =
    let end = length frame - 3 in checksum (take end frame) == big_number 3 (drop end frame)

-- the size of the complete frame, at most 1029, from the two header bytes after D3
abbrev pub announced : ℕ → ℕ → ℕ
announced high low = (high * 256 + low) % 1024 + 6

-- the size of the frame with right checksum at the start of the bytes, or 0 if there is none
unfoldable pub frame_size : List ℕ → ℕ
frame_size (start ∷ high ∷ low ∷ more) =
    let size = announced high low in
    if start == 211 && nat_le size (length more + 3) && is_right (take size (start ∷ high ∷ low ∷ more)) then size else 0
frame_size few = 0

-- whether the bytes begin with an incomplete frame: D3, and either fewer than three bytes or fewer than the frame takes
unfoldable pub is_open : List ℕ → Bool
is_open [] = false
is_open (start ∷ high ∷ low ∷ more) = start == 211 && nat_lt (length more + 3) (announced high low)
is_open (start ∷ few) = start == 211

-- The frames after the first k bytes: if a complete frame begins there, that frame, then those
-- after its end; else those from the next byte on. With `more`, only the frames before the first
-- incomplete one.
abbrev pub frames_past : Bool → List ℕ → ℕ → List (List ℕ)
frames_past more [] k = []
frames_past more (x ∷ xs) (suc k) = frames_past more xs k
frames_past more (x ∷ xs) zero =
    if more && is_open (x ∷ xs) then []
    else if nat_lt 0 (frame_size (x ∷ xs)) then take (frame_size (x ∷ xs)) (x ∷ xs) ∷ frames_past more xs (frame_size (x ∷ xs) - 1)
    else frames_past more xs 0

-- the frames of the bytes
abbrev pub frames : List ℕ → List (List ℕ)
frames bytes = frames_past false bytes 0

-- the decided frames: those that stay whatever bytes follow
abbrev pub decided : List ℕ → List (List ℕ)
decided bytes = frames_past true bytes 0

-- the bytes from the first incomplete frame on, after the first k bytes
abbrev pub open_past : List ℕ → ℕ → List ℕ
open_past [] k = []
open_past (x ∷ xs) (suc k) = open_past xs k
open_past (x ∷ xs) zero =
    if is_open (x ∷ xs) then x ∷ xs
    else if nat_lt 0 (frame_size (x ∷ xs)) then open_past xs (frame_size (x ∷ xs) - 1)
    else open_past xs 0

-- the bytes from the first incomplete frame on, empty if there is none
abbrev pub undecided : List ℕ → List ℕ
undecided bytes = open_past bytes 0

-- the bytes after the first frame
abbrev pub after_first : List ℕ → List ℕ
after_first [] = []
after_first (x ∷ xs) =
    if nat_lt 0 (frame_size (x ∷ xs)) then drop (frame_size (x ∷ xs)) (x ∷ xs) else after_first xs
