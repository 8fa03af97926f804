-- The two parts of an I/NAV page as receivers log them: eight words of 32 bits, the first bit sent highest.
use Rattle.std.specs.Prelude.{ℕ, ◌+◌, ◌*◌, ◌^◌, List, [], ◌∷◌, slice_index}
use Rattle.std.specs.Int.{bytes_high_first}
use Rattle.nav_bits.specs.Bits.{number_at}

-- the bytes of eight words in the order sent; each word is little-endian
abbrev pub page_bits : List ℕ → ℕ → List ℕ
page_bits xs at =
    slice_index xs (at + 3) ∷ slice_index xs (at + 2) ∷ slice_index xs (at + 1) ∷ slice_index xs at
    ∷ slice_index xs (at + 7) ∷ slice_index xs (at + 6) ∷ slice_index xs (at + 5)
    ∷ slice_index xs (at + 4)
    ∷ slice_index xs (at + 11) ∷ slice_index xs (at + 10) ∷ slice_index xs (at + 9)
    ∷ slice_index xs (at + 8)
    ∷ slice_index xs (at + 15) ∷ slice_index xs (at + 14) ∷ slice_index xs (at + 13)
    ∷ slice_index xs (at + 12)
    ∷ slice_index xs (at + 19) ∷ slice_index xs (at + 18) ∷ slice_index xs (at + 17)
    ∷ slice_index xs (at + 16)
    ∷ slice_index xs (at + 23) ∷ slice_index xs (at + 22) ∷ slice_index xs (at + 21)
    ∷ slice_index xs (at + 20)
    ∷ slice_index xs (at + 27) ∷ slice_index xs (at + 26) ∷ slice_index xs (at + 25)
    ∷ slice_index xs (at + 24)
    ∷ slice_index xs (at + 31) ∷ slice_index xs (at + 30) ∷ slice_index xs (at + 29)
    ∷ slice_index xs (at + 28) ∷ []

-- the even page part in UBX: bits 0 to 119
unfoldable pub ubx_even : List ℕ → ℕ → List ℕ
ubx_even xs at = bytes_high_first 15 (number_at (page_bits xs at) 0 120)

-- the odd page part in UBX: bits 128 to 247
unfoldable pub ubx_odd : List ℕ → ℕ → List ℕ
ubx_odd xs at = bytes_high_first 15 (number_at (page_bits xs at) 128 120)

-- the even page part in SBF: bits 0 to 113, and six tail bits 0
unfoldable pub sbf_even : List ℕ → ℕ → List ℕ
sbf_even xs at = bytes_high_first 15 (number_at (page_bits xs at) 0 114 * 2 ^ 6)

-- the odd page part in SBF: bits 114 to 233
unfoldable pub sbf_odd : List ℕ → ℕ → List ℕ
sbf_odd xs at = bytes_high_first 15 (number_at (page_bits xs at) 114 120)
