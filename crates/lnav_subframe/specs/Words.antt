-- The ten words of a subframe in its 300 bits, as transmitted and as read (IS-GPS-200,
-- 20.3.2 and 20.3.5). Word 1 is at index 0.
use Rattle.std.specs.Prelude.{◌≡◌, ℕ, zero, suc, ◌-◌, ◌*◌, ◌/◌, ◌%◌, ◌<◌, ◌≤◌, ◌⊎◌, List, [], ◌∷◌, map}
use Rattle.std.specs.Prelude.{Bool, ◌||◌, nat_eq, if◌then◌else◌, Option, None, Some}
use Rattle.nav_bits.specs.Bits.{number_at}
use Rattle.nav_bits.specs.Fields.{Field, unsigned, reserved}
use Rattle.nav_bits.specs.Packed.{packed}
use Rattle.lnav_subframe.specs.ParityFunctions.{is_good, source_of}
use Rattle.lnav_subframe.specs.Parity.{IsGood, IsSource, IsSolved}

-- the 30-bit word at an index
abbrev pub word_of : List ℕ → ℕ → ℕ
word_of bits k = number_at bits (30 * k) 30

-- the last two bits of the previous word; 0 before the first
unfoldable pub last_before : List ℕ → ℕ → ℕ
last_before bits zero = 0
last_before bits (suc k) = word_of bits k % 4

-- the parity of the first n words is correct
abbrev pub AreGood : List ℕ → ℕ → Type 0
AreGood bits n = (k : ℕ) → k < n → IsGood (word_of bits k) (last_before bits k)

-- source has the source bits of the first n words, each at its bit offset in the subframe
abbrev pub AreSource : List ℕ → List ℕ → ℕ → Type 0
AreSource bits source n = (k : ℕ) → k < n → IsSource (word_of bits k) (last_before bits k) (number_at source (30 * k) 24)

-- all bits inverted
abbrev pub complement : List ℕ → List ℕ
complement bytes = map (λ byte. 255 - byte) bytes

-- the subframe begins with the preamble 10001011 or with its complement 01110100
abbrev pub HasPreamble : List ℕ → Type 0
HasPreamble bits = (number_at bits 0 8 ≡ 139) ⊎ (number_at bits 0 8 ≡ 116)

-- the subframe in upright polarity: inverted if it begins with the complement of the preamble
abbrev pub upright : List ℕ → List ℕ
upright bits = if nat_eq (number_at bits 0 8) 116 then complement bits else bits

-- word, counted from 1, is the first whose parity is wrong
pub record IsFirstBad (bits : List ℕ) (word : ℕ) : Type 0 where
  pub low : 1 ≤ word
  pub high : word ≤ 10
  pub before : AreGood bits (word - 1)
  pub bad : IsGood (word_of bits (word - 1)) (last_before bits (word - 1)) → ⊥

-- the bits are a subframe with preamble and correct parity, and source has its data bits
pub record IsSubframe (bits source : List ℕ) : Type 0 where
  pub preamble : HasPreamble bits
  pub good : AreGood (upright bits) 10
  pub data_bits : AreSource (upright bits) source 10

-- the word at an index from these data bits: in words 2 and 10 the last two data bits are solved for
-- so that the word ends in two 0 bits
pub record IsWord (k word last bits : ℕ) : Type 0 where
  pub second : k ≡ 1 → IsSolved word last (bits / 4)
  pub tenth : k ≡ 9 → IsSolved word last (bits / 4)
  pub good : (k ≡ 1 → ⊥) → (k ≡ 9 → ⊥) → IsGood word last
  pub source : (k ≡ 1 → ⊥) → (k ≡ 9 → ⊥) → IsSource word last bits

-- ---- the same as functions

-- the subframe begins with the preamble or with its complement
unfoldable pub has_preamble : List ℕ → Bool
has_preamble bits = nat_eq (number_at bits 0 8) 139 || nat_eq (number_at bits 0 8) 116

-- the first of the n words from the index k on whose parity is wrong, counted from 1
unfoldable pub bad_word_from : List ℕ → ℕ → ℕ → Option ℕ
bad_word_from bits k zero = None
bad_word_from bits k (suc n) =
    if is_good (word_of bits k) (last_before bits k) then bad_word_from bits (suc k) n
    else Some (suc k)

-- the source bits of the n words from the index k on, each word's followed by six 0 bits, and four 0 bits
-- at the end
unfoldable pub data_fields : List ℕ → ℕ → ℕ → List Field
data_fields bits k zero = reserved 4 ∷ []
data_fields bits k (suc n) =
    unsigned 24 (source_of (word_of bits k) (last_before bits k)) ∷ reserved 6 ∷ data_fields bits (suc k) n

-- the data bits of the subframe in these bits, each at its bit offset
unfoldable pub data_bits_of : List ℕ → List ℕ
data_bits_of bits = packed 38 (data_fields bits 0 10)
