-- A UBX message by the field's definition.
use Rattle.std.specs.Prelude.{◌≡◌, ℕ, ◌+◌, ◌-◌, ◌*◌, ◌%◌, ◌<◌, ◌≤◌, List, length, take, drop}
use Rattle.std.specs.Prelude.{slice_index}
use Rattle.framing.specs.UbxForm.{total, running}

-- every element is below 256
abbrev pub AreBytes : List ℕ → Type 0
AreBytes bytes = (i : ℕ) → slice_index bytes i < 256

-- A complete message of n bytes begins the bytes.
pub record BeginsMessage (bytes : List ℕ) (n : ℕ) : Type 0 where
  -- the sync bytes
  pub sync_1 : slice_index bytes 0 ≡ 0xB5
  pub sync_2 : slice_index bytes 1 ≡ 0x62
  -- the payload length at offset 4, low byte first; sync, class, ID, length and checksum are eight bytes
  pub payload_length : slice_index bytes 5 * 256 + slice_index bytes 4 + 8 ≡ n
  -- the message is complete
  pub whole : n ≤ length bytes
  -- CK_A and CK_B of all bytes from class to payload: the sum, and the sum of its running values
  pub ck_a : total (take (n - 4) (drop 2 bytes)) % 256 ≡ slice_index bytes (n - 2)
  pub ck_b : running 0 (take (n - 4) (drop 2 bytes)) % 256 ≡ slice_index bytes (n - 1)
