-- The words of a subframe as receivers log them: the data bits, and perhaps also the parity bits,
-- may be given as sent or as source bits, inverted if the word before ends in 1 (D30*; IS-GPS-200,
-- 20.3.5.2).
use Rattle.std.specs.Prelude.{ℕ, ◌+◌, ◌%◌, ◌^◌, ◌==◌, ◌&&◌, if◌then◌else◌, Bool, true, not}
use Rattle.std.specs.Prelude.{List, [], ◌∷◌, slice_index, bit_xor}
use Rattle.lnav_subframe.specs.ParityFunctions.{is_good}
use Rattle.nav_bits.specs.Fields.{Field, unsigned, reserved}
use Rattle.nav_bits.specs.Packed.{packed}
use Rattle.receiver_log.specs.Numbers.{four_at}

-- words read after one that ends in the bits of last: XOR the mask if the word before, as read,
-- ends in 1
abbrev pub reading_behind : ℕ → ℕ → List ℕ → List ℕ
reading_behind mask last [] = []
reading_behind mask last (word ∷ words) =
    let read = if last % 2 == 1 then bit_xor word mask else word in
    read ∷ reading_behind mask read words

-- the reading by a mask; the first word stays
abbrev pub reading : ℕ → List ℕ → List ℕ
reading mask words = reading_behind mask 0 words

-- all words have right parity, if the word before the first ends in the bits of last
abbrev pub are_good_behind : ℕ → List ℕ → Bool
are_good_behind last [] = true
are_good_behind last (word ∷ words) = is_good word (last % 4) && are_good_behind word words

-- all words have right parity; the two bits before the first word are 0
abbrev pub are_good : List ℕ → Bool
are_good words = are_good_behind 0 words

-- the 24 data bits of a word
abbrev pub data_mask : ℕ
data_mask = 0x3FFFFFC0

-- all 30 bits of a word
abbrev pub whole_mask : ℕ
whole_mask = 0x3FFFFFFF

-- the reading with right parity by mask 0, the data mask or the mask of all bits; the words as
-- logged if there is none
unfoldable pub read_words : List ℕ → List ℕ
read_words words =
    if are_good words then words
    else if are_good (reading data_mask words) then reading data_mask words
    else if are_good (reading whole_mask words) then reading whole_mask words
    else words

-- whether a reading has right parity
unfoldable pub has_good_reading : List ℕ → Bool
has_good_reading words = are_good (read_words words)

-- whether the words had to be inverted back
unfoldable pub is_inverted : List ℕ → Bool
is_inverted words = not (are_good words) && has_good_reading words

-- the word at byte offset at: the lower 30 of 32 bits
abbrev pub word_at : List ℕ → ℕ → ℕ
word_at xs at = four_at xs at % 2 ^ 30

-- the ten words of a subframe at byte offset at
abbrev pub words_at : List ℕ → ℕ → List ℕ
words_at xs at =
    word_at xs at ∷ word_at xs (at + 4) ∷ word_at xs (at + 8) ∷ word_at xs (at + 12)
    ∷ word_at xs (at + 16)
    ∷ word_at xs (at + 20) ∷ word_at xs (at + 24) ∷ word_at xs (at + 28) ∷ word_at xs (at + 32)
    ∷ word_at xs (at + 36) ∷ []

-- ten words concatenated, and four bits 0
abbrev pub word_fields : List ℕ → List Field
word_fields words =
    unsigned 30 (slice_index words 0) ∷ unsigned 30 (slice_index words 1)
    ∷ unsigned 30 (slice_index words 2)
    ∷ unsigned 30 (slice_index words 3) ∷ unsigned 30 (slice_index words 4)
    ∷ unsigned 30 (slice_index words 5)
    ∷ unsigned 30 (slice_index words 6) ∷ unsigned 30 (slice_index words 7)
    ∷ unsigned 30 (slice_index words 8)
    ∷ unsigned 30 (slice_index words 9) ∷ reserved 4 ∷ []

-- the ten words in 38 bytes
unfoldable pub subframe_bytes : List ℕ → List ℕ
subframe_bytes words = packed 38 (word_fields words)
