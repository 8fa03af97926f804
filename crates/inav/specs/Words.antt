-- The fields of I/NAV word types 1 to 5 in the order of their tables, and their bit offsets in the 128 bits
-- (Galileo OS SIS ICD, 4.3.5).
use Rattle.std.specs.Prelude.{◌≡◌, ℕ, ◌+◌, List, [], ◌∷◌}
use Rattle.nav_bits.specs.Bits.{number_at, signed_at, SameInside}
use Rattle.nav_bits.specs.Fields.{Field, unsigned, signed, reserved}
use Rattle.nav_bits.specs.Laws.{number_within}
use Rattle.inav.specs.declared.word1.Word1.{Word1}
use Rattle.inav.specs.declared.word2.Word2.{Word2}
use Rattle.inav.specs.declared.word3.Word3.{Word3}
use Rattle.inav.specs.declared.word4.Word4.{Word4}
use Rattle.inav.specs.declared.word5.Word5.{Word5}

-- word type 1: ephemeris (1/4)
abbrev pub fields_word1 : Word1 → List Field
fields_word1 w =
    unsigned 6 1 ∷ unsigned 10 w.iodnav ∷ unsigned 14 w.toe ∷ signed 32 w.m0 ∷ unsigned 32 w.e
    ∷ unsigned 32 w.root_a ∷ reserved 2 ∷ []

-- word type 2: ephemeris (2/4)
abbrev pub fields_word2 : Word2 → List Field
fields_word2 w =
    unsigned 6 2 ∷ unsigned 10 w.iodnav ∷ signed 32 w.omega0 ∷ signed 32 w.i0 ∷ signed 32 w.omega
    ∷ signed 14 w.idot ∷ reserved 2 ∷ []

-- word type 3: ephemeris (3/4) and SISA
abbrev pub fields_word3 : Word3 → List Field
fields_word3 w =
    unsigned 6 3 ∷ unsigned 10 w.iodnav ∷ signed 24 w.omega_dot ∷ signed 16 w.delta_n
    ∷ signed 16 w.cuc ∷ signed 16 w.cus ∷ signed 16 w.crc ∷ signed 16 w.crs ∷ unsigned 8 w.sisa ∷ []

-- word type 4: SVID, ephemeris (4/4) and clock correction
abbrev pub fields_word4 : Word4 → List Field
fields_word4 w =
    unsigned 6 4 ∷ unsigned 10 w.iodnav ∷ unsigned 6 w.svid ∷ signed 16 w.cic ∷ signed 16 w.cis
    ∷ unsigned 14 w.toc ∷ signed 31 w.af0 ∷ signed 21 w.af1 ∷ signed 6 w.af2 ∷ reserved 2 ∷ []

-- word type 5: ionosphere, BGD, health, data validity, and GST
abbrev pub fields_word5 : Word5 → List Field
fields_word5 w =
    unsigned 6 5 ∷ unsigned 11 w.ai0 ∷ signed 11 w.ai1 ∷ signed 14 w.ai2 ∷ unsigned 5 w.regions
    ∷ signed 10 w.bgd_a ∷ signed 10 w.bgd_b ∷ unsigned 2 w.hs_e5b ∷ unsigned 2 w.hs_e1b
    ∷ unsigned 1 w.dvs_e5b ∷ unsigned 1 w.dvs_e1b ∷ unsigned 12 w.wn ∷ unsigned 20 w.tow
    ∷ reserved 23 ∷ []

-- the fields of word type 1 by bit offset from the start `at` of the word
abbrev pub word1_at : List ℕ → ℕ → Word1
word1_at bits at = record {
  iodnav = number_at bits (at + 6) 10;
  toe = number_at bits (at + 16) 14;
  m0 = signed_at bits (at + 30) 32;
  e = number_at bits (at + 62) 32;
  root_a = number_at bits (at + 94) 32;
}

-- the fields of word type 2 by bit offset
abbrev pub word2_at : List ℕ → ℕ → Word2
word2_at bits at = record {
  iodnav = number_at bits (at + 6) 10;
  omega0 = signed_at bits (at + 16) 32;
  i0 = signed_at bits (at + 48) 32;
  omega = signed_at bits (at + 80) 32;
  idot = signed_at bits (at + 112) 14;
}

-- the fields of word type 3 by bit offset
abbrev pub word3_at : List ℕ → ℕ → Word3
word3_at bits at = record {
  iodnav = number_at bits (at + 6) 10;
  omega_dot = signed_at bits (at + 16) 24;
  delta_n = signed_at bits (at + 40) 16;
  cuc = signed_at bits (at + 56) 16;
  cus = signed_at bits (at + 72) 16;
  crc = signed_at bits (at + 88) 16;
  crs = signed_at bits (at + 104) 16;
  sisa = number_at bits (at + 120) 8;
}

-- the fields of word type 4 by bit offset
abbrev pub word4_at : List ℕ → ℕ → Word4
word4_at bits at = record {
  iodnav = number_at bits (at + 6) 10;
  svid = number_at bits (at + 16) 6;
  cic = signed_at bits (at + 22) 16;
  cis = signed_at bits (at + 38) 16;
  toc = number_at bits (at + 54) 14;
  af0 = signed_at bits (at + 68) 31;
  af1 = signed_at bits (at + 99) 21;
  af2 = signed_at bits (at + 120) 6;
}

-- the fields of word type 5 by bit offset
abbrev pub word5_at : List ℕ → ℕ → Word5
word5_at bits at = record {
  ai0 = number_at bits (at + 6) 11;
  ai1 = signed_at bits (at + 17) 11;
  ai2 = signed_at bits (at + 28) 14;
  regions = number_at bits (at + 42) 5;
  bgd_a = signed_at bits (at + 47) 10;
  bgd_b = signed_at bits (at + 57) 10;
  hs_e5b = number_at bits (at + 67) 2;
  hs_e1b = number_at bits (at + 69) 2;
  dvs_e5b = number_at bits (at + 71) 1;
  dvs_e1b = number_at bits (at + 72) 1;
  wn = number_at bits (at + 73) 12;
  tow = number_at bits (at + 85) 20;
}

-- the other bits of word type 1: the type, and reserved bits, which are 0
abbrev pub word1_rest : List ℕ → ℕ → Type 0
word1_rest bits at = (number_at bits (at + 0) 6 ≡ 1) × (number_at bits (at + 126) 2 ≡ 0)

-- the other bits of word type 2
abbrev pub word2_rest : List ℕ → ℕ → Type 0
word2_rest bits at = (number_at bits (at + 0) 6 ≡ 2) × (number_at bits (at + 126) 2 ≡ 0)

-- the other bits of word type 3: the type
abbrev pub word3_rest : List ℕ → ℕ → Type 0
word3_rest bits at = number_at bits (at + 0) 6 ≡ 3

-- the other bits of word type 4
abbrev pub word4_rest : List ℕ → ℕ → Type 0
word4_rest bits at = (number_at bits (at + 0) 6 ≡ 4) × (number_at bits (at + 126) 2 ≡ 0)

-- the other bits of word type 5
abbrev pub word5_rest : List ℕ → ℕ → Type 0
word5_rest bits at = (number_at bits (at + 0) 6 ≡ 5) × (number_at bits (at + 105) 23 ≡ 0)

-- the fields of word type 1 depend on its own 128 bits alone
pub word1_own_bits : (a b : List ℕ) (at : ℕ) → SameInside a b at (at + 128) → word1_at a at ≡ word1_at b at
word1_own_bits a b at same = simp (number_within a b at 128 same)

-- the fields of word type 2 depend on its own bits alone
pub word2_own_bits : (a b : List ℕ) (at : ℕ) → SameInside a b at (at + 128) → word2_at a at ≡ word2_at b at
word2_own_bits a b at same = simp (number_within a b at 128 same)

-- the fields of word type 3 depend on its own bits alone
pub word3_own_bits : (a b : List ℕ) (at : ℕ) → SameInside a b at (at + 128) → word3_at a at ≡ word3_at b at
word3_own_bits a b at same = simp (number_within a b at 128 same)

-- the fields of word type 4 depend on its own bits alone
pub word4_own_bits : (a b : List ℕ) (at : ℕ) → SameInside a b at (at + 128) → word4_at a at ≡ word4_at b at
word4_own_bits a b at same = simp (number_within a b at 128 same)

-- the fields of word type 5 depend on its own bits alone
pub word5_own_bits : (a b : List ℕ) (at : ℕ) → SameInside a b at (at + 128) → word5_at a at ≡ word5_at b at
word5_own_bits a b at same = simp (number_within a b at 128 same)
