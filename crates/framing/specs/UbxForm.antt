-- UBX messages: sync bytes B5 62, class, ID, payload length of two bytes (low byte first), payload, checksum of two bytes
-- over all from class to payload.
use Rattle.std.specs.Prelude.{ℕ, ◌+◌, ◌-◌, ◌*◌, ◌%◌, ◌==◌, ◌&&◌, Bool, true, List, [], ◌∷◌, length}
use Rattle.std.specs.Prelude.{take, drop, slice_index}
use Rattle.framing.specs.Headings.{Heading}
use Rattle.framing.specs.Syncs.{Sync, heading_by}

-- the sum of the bytes
abbrev pub total : List ℕ → ℕ
total [] = 0
total (x ∷ xs) = x + total xs

-- the sum of the running sums of the bytes, which start from a
abbrev pub running : ℕ → List ℕ → ℕ
running a [] = 0
running a (x ∷ xs) = (a + x) + running (a + x) xs

-- the size of the message with this header: six header bytes, the payload, two checksum bytes
abbrev pub announced : List ℕ → ℕ
announced xs = (slice_index xs 5 * 256 + slice_index xs 4) % 65536 + 8

-- the bytes that the checksum covers: from class to payload
abbrev pub body_of : List ℕ → List ℕ
body_of message = take (length message - 4) (drop 2 message)

-- the last two bytes are CK_A, the sum, and CK_B, the sum of running sums, both modulo 256
unfoldable pub has_right_sums : List ℕ → Bool
has_right_sums message =
    total (body_of message) % 256 == slice_index message (length message - 2)
    && running 0 (body_of message) % 256 == slice_index message (length message - 1)

-- the format of UBX
abbrev pub ubx_sync : Sync
ubx_sync = record {
  first = 0xB5;
  second = 0x62;
  header = 6;
  longest = 65543;
  size = announced;
  fits = λ xs. true;
  is_right = has_right_sums;
}

-- its heading
abbrev pub ubx : Heading
ubx = heading_by ubx_sync
