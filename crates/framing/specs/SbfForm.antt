-- SBF blocks: sync bytes $@, a CRC, a block ID and a length of two bytes each, low byte first, and the body.
use Rattle.std.specs.Prelude.{ℕ, ◌+◌, ◌*◌, ◌%◌, ◌==◌, ◌&&◌, nat_le, Bool, if◌then◌else◌, List}
use Rattle.std.specs.Prelude.{drop, slice_index}
use Rattle.framing.specs.Headings.{Heading}
use Rattle.framing.specs.Syncs.{Sync, heading_by}
use Rattle.framing.specs.SbfRegister.{crc_from}

-- the length of the complete block, in its header
abbrev pub announced : List ℕ → ℕ
announced xs = (slice_index xs 7 * 256 + slice_index xs 6) % 65536

-- a block can have length n: at least 8 bytes, and a multiple of 4
abbrev pub may_be : ℕ → Bool
may_be n = nat_le 8 n && n % 4 == 0

-- the two bytes after the sync bytes are the CRC of all bytes after them
unfoldable pub has_right_crc : List ℕ → Bool
has_right_crc block = crc_from 0 (drop 4 block) == slice_index block 3 * 256 + slice_index block 2

-- the format of SBF
abbrev pub sbf_sync : Sync
sbf_sync = record {
  first = 0x24;
  second = 0x40;
  header = 8;
  longest = 65535;
  size = λ xs. if nat_le 8 (announced xs) then announced xs else 8;
  fits = λ xs. may_be (announced xs);
  is_right = has_right_crc;
}

-- its heading
abbrev pub sbf : Heading
sbf = heading_by sbf_sync
