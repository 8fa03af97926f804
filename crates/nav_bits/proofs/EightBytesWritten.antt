-- What eight bytes hold after some of their bits were overwritten.
use Rattle.std.proofs.Common.{◌≡◌, ℕ, ◌+◌, ◌-◌, ◌*◌, ◌/◌, ◌%◌, ◌^◌, ◌<◌, ◌≤◌, min, max, List, [], ◌∷◌, ◌++◌, length, take, drop, slice_index, bit_and, bit_or, w64, refl, sym, ap, ◌∙◌, inl, inr, arith, length-take, get_or-take, get_or-drop, get_or-append-add, drop-drop}
use Rattle.std.proofs.lemmas.List.{get_or_append_left}
use Rattle.std.proofs.lemmas.Nat.{shl_whole, pow_pos, from_be_bytes-to_be_bytes_8}
use Rattle.std.proofs.lemmas.Nat.Bits.{ones_shr, bit_at_or, bit_at_and, bit_at_not, bit_at_ones, bit_at_ones_above, bit_at_cat_low, bit_at_cat_high, bit_at-zero, bit_at_above, bit_at-lt}
use Rattle.std.proofs.lemmas.Bool.{cases_lt}
use Rattle.std.specs.Int.{bit_at, from_be_bytes, to_be_bytes}
use Rattle.nav_bits.specs.Bits.{bit, number_at, Puts}
use Rattle.nav_bits.specs.Laws.{number_at-byte}
use Rattle.nav_bits.proofs.BitPatterns.{number_at-bit_pattern}
use Rattle.nav_bits.proofs.EightBytes.{byte_more, number_at-of_run}

-- MAX >> (64 - width) has width ones
word_ones : (width : ℕ) → width ≤ 64 → 18446744073709551615 / 2 ^ (64 - width) ≡ 2 ^ width - 1
word_ones width h =
    let e : 64 - (64 - width) ≡ width = omega arith in
    ones_shr 64 (64 - width) (omega arith) ∙ ap (λ n. 2 ^ n - 1) e

shl_below : (a k j : ℕ) → j < k → bit_at (a * 2 ^ k) j ≡ 0
shl_below a k j h =
    let e : a * 2 ^ k ≡ a * 2 ^ k + 0 = omega arith in
    ap (λ n. bit_at n j) e ∙ bit_at_cat_low a k 0 j h ∙ bit_at-zero j

shl_from : (a k j : ℕ) → k ≤ j → bit_at (a * 2 ^ k) j ≡ bit_at a (j - k)
shl_from a k j h =
    let e : a * 2 ^ k ≡ a * 2 ^ k + 0 = omega arith in
    ap (λ n. bit_at n j) e ∙ bit_at_cat_high a k 0 j (pow_pos k) h

-- x with value in the width bits above its lowest shift bits, as the code computes it
abbrev pub written : ℕ → ℕ → ℕ → ℕ → ℕ
written x value shift width = bit_or (bit_and x (18446744073709551615 - 18446744073709551615 / 2 ^ (64 - width) * 2 ^ shift % 18446744073709551616)) (value * 2 ^ shift % 18446744073709551616)

digit_of : (x value shift width j : ℕ) → shift + width ≤ 64 → value < 2 ^ width → j < 64
    → bit_at (written x value shift width) j
    ≡ max (min (bit_at x j) (1 - bit_at ((2 ^ width - 1) * 2 ^ shift) j)) (bit_at (value * 2 ^ shift) j)
digit_of x value shift width j room fits h =
    let ones : 2 ^ width - 1 < 2 ^ width = omega (arith, pow_pos width) in
    let wide : width + shift ≤ 64 = omega arith in
    let mask : 18446744073709551615 / 2 ^ (64 - width) * 2 ^ shift % 18446744073709551616 ≡ (2 ^ width - 1) * 2 ^ shift =
    ap (λ n. n * 2 ^ shift % 18446744073709551616) (word_ones width (omega arith)) ∙ shl_whole (2 ^ width - 1) width shift 64 ones wide in
    let bit_pattern : value * 2 ^ shift % 18446744073709551616 ≡ value * 2 ^ shift = shl_whole value width shift 64 fits wide in
    let mask_fits : 18446744073709551615 / 2 ^ (64 - width) * 2 ^ shift % 18446744073709551616 < 2 ^ 64 = omega arith in
    bit_at_or (bit_and x (18446744073709551615 - 18446744073709551615 / 2 ^ (64 - width) * 2 ^ shift % 18446744073709551616)) (value * 2 ^ shift % 18446744073709551616) j
    ∙ ap (λ n. max n (bit_at (value * 2 ^ shift % 18446744073709551616) j)) (
    bit_at_and x (18446744073709551615 - 18446744073709551615 / 2 ^ (64 - width) * 2 ^ shift % 18446744073709551616) j
    ∙ ap (min (bit_at x j)) (bit_at_not w64 (18446744073709551615 / 2 ^ (64 - width) * 2 ^ shift % 18446744073709551616) j mask_fits h ∙ ap (λ n. 1 - bit_at n j) mask))
    ∙ ap (λ n. max (min (bit_at x j) (1 - bit_at ((2 ^ width - 1) * 2 ^ shift) j)) (bit_at n j)) bit_pattern

-- the bits below the written ones stay
digit_below : (x value shift width j : ℕ) → shift + width ≤ 64 → value < 2 ^ width → j < shift
    → bit_at (written x value shift width) j ≡ bit_at x j
digit_below x value shift width j room fits h =
    omega (arith, digit_of x value shift width j room fits (omega arith), shl_below (2 ^ width - 1) shift j h, shl_below value shift j h, bit_at-lt x j)

-- the bits above the written ones stay
digit_above : (x value shift width j : ℕ) → shift + width ≤ 64 → value < 2 ^ width → shift + width ≤ j → j < 64
    → bit_at (written x value shift width) j ≡ bit_at x j
digit_above x value shift width j room fits low h =
    omega (
      arith,
      digit_of x value shift width j room fits h,
      shl_from (2 ^ width - 1) shift j (omega arith) ∙ bit_at_ones_above width (j - shift) (omega arith),
      shl_from value shift j (omega arith) ∙ bit_at_above value width (j - shift) fits (omega arith),
      bit_at-lt x j,
    )

-- the written bits are those of the value
digit_inside : (x value shift width j : ℕ) → shift + width ≤ 64 → value < 2 ^ width → shift ≤ j → j < shift + width
    → bit_at (written x value shift width) j ≡ bit_at value (j - shift)
digit_inside x value shift width j room fits low h =
    omega (
      arith,
      digit_of x value shift width j room fits (omega arith),
      shl_from (2 ^ width - 1) shift j low ∙ bit_at_ones width (j - shift) (omega arith),
      shl_from value shift j low,
    )

one_bit : (bytes : List ℕ) (at : ℕ) → number_at bytes at 1 ≡ bit bytes at
unfolding number_at
one_bit bytes at =
    let place : bit bytes (at + 0) ≡ bit bytes at = ap (bit bytes) (omega arith) in
    omega (arith, place)

-- a bit of the value of 64 bits
bit_in : (bytes : List ℕ) (from j : ℕ) → j < 64 → bit_at (number_at bytes from 64) (63 - j) ≡ bit bytes (from + j)
bit_in bytes from j h =
    let all : 64 ≡ j + 1 + (63 - j) = omega arith in
    ap (λ n. bit_at (number_at bytes from n) (63 - j)) all
    ∙ number_at-of_run bytes from j 1 (63 - j)
    ∙ one_bit bytes (from + j)

-- bits written into eight bytes of a list
pub Puts-in_eight : (old new : List ℕ) (first skip width value : ℕ) → 1 ≤ width → skip + width ≤ 64 → value < 2 ^ width
    → Puts old new (8 * first) 64 (written (number_at old (8 * first) 64) value (64 - skip - width) width)
    → Puts old new (8 * first + skip) width value
Puts-in_eight old new first skip width value some within fits put =
    let x = number_at old (8 * first) 64 in
    let shift = 64 - skip - width in
    let y = written x value shift width in
    let room : shift + width ≤ 64 = omega arith in
    let here : (j : ℕ) → j < 64 → bit new (8 * first + j) ≡ bit_at y (63 - j) =
    λ j h. sym (bit_in new (8 * first) j h) ∙ ap (λ n. bit_at n (63 - j)) put.number in
    record {
      number = number_at-bit_pattern new (8 * first + skip) width value fits (λ j h.
          ap (bit new) (omega arith)
          ∙ here (skip + j) (omega arith)
          ∙ digit_inside x value shift width (63 - (skip + j)) room fits (omega arith) (omega arith)
          ∙ ap (bit_at value) (omega arith));
      others = record {
        before = λ i h. elim (cases_lt i (8 * first)) [
          | inl low ↦ put.others.before i low
          | inr high ↦
              let j = i - 8 * first in
              let place : i ≡ 8 * first + j = omega arith in
              ap (bit new) place ∙ here j (omega arith)
              ∙ digit_above x value shift width (63 - j) room fits (omega arith) (omega arith)
              ∙ bit_in old (8 * first) j (omega arith) ∙ ap (bit old) (sym place)
        ];
        after = λ i h. elim (cases_lt i (8 * first + 64)) [
          | inl low ↦
              let j = i - 8 * first in
              let place : i ≡ 8 * first + j = omega arith in
              ap (bit new) place ∙ here j (omega arith)
              ∙ digit_below x value shift width (63 - j) room fits (omega arith)
              ∙ bit_in old (8 * first) j (omega arith) ∙ ap (bit old) (sym place)
          | inr high ↦ put.others.after i high
        ];
      };
    }

-- a list in which eight bytes stand in place of those from first on
abbrev replaced : List ℕ → ℕ → List ℕ → List ℕ
replaced bytes first eight = take first bytes ++ (eight ++ drop (first + 8) bytes)

before_same : (bytes eight : List ℕ) (first i : ℕ) → first + 8 ≤ length bytes → i < first
    → slice_index (replaced bytes first eight) i ≡ slice_index bytes i
before_same bytes eight first i room h =
    let long : length (take first bytes) ≡ first = omega (arith, length-take first bytes) in
    get_or_append_left (take first bytes) (eight ++ drop (first + 8) bytes) 0 i (omega (arith, long))
    ∙ get_or-take first bytes i 0 h

inside_same : (bytes eight : List ℕ) (first k : ℕ) → first + 8 ≤ length bytes → length eight ≡ 8 → k < 8
    → slice_index (replaced bytes first eight) (first + k) ≡ slice_index eight k
inside_same bytes eight first k room eight_long h =
    let long : length (take first bytes) ≡ first = omega (arith, length-take first bytes) in
    ap (λ n. slice_index (replaced bytes first eight) (n + k)) (sym long)
    ∙ get_or-append-add (take first bytes) (eight ++ drop (first + 8) bytes) k 0
    ∙ get_or_append_left eight (drop (first + 8) bytes) 0 k (omega (arith, eight_long))

after_same : (bytes eight : List ℕ) (first m : ℕ) → first + 8 ≤ length bytes → length eight ≡ 8
    → slice_index (replaced bytes first eight) (first + 8 + m) ≡ slice_index bytes (first + 8 + m)
after_same bytes eight first m room eight_long =
    let long : length (take first bytes) ≡ first = omega (arith, length-take first bytes) in
    let place : first + 8 + m ≡ length (take first bytes) + (length eight + m) = omega (arith, long, eight_long) in
    ap (slice_index (replaced bytes first eight)) place
    ∙ get_or-append-add (take first bytes) (eight ++ drop (first + 8) bytes) (length eight + m) 0
    ∙ get_or-append-add eight (drop (first + 8) bytes) m 0
    ∙ get_or-drop (first + 8) bytes m 0

bit_same : (old new : List ℕ) (i : ℕ) → slice_index new (i / 8) ≡ slice_index old (i / 8) → bit new i ≡ bit old i
unfolding bit
bit_same old new i e = ap (λ n. bit_at n (7 - i % 8)) e

-- the value of eight bytes, of which no others have to be bytes
eight_number : (bytes : List ℕ) (first a b c d e f g h : ℕ) → a < 256 → b < 256 → c < 256 → d < 256 → e < 256 → f < 256 → g < 256 → h < 256
    → slice_index bytes first ≡ a → slice_index bytes (first + 1) ≡ b → slice_index bytes (first + 2) ≡ c → slice_index bytes (first + 3) ≡ d
    → slice_index bytes (first + 4) ≡ e → slice_index bytes (first + 5) ≡ f → slice_index bytes (first + 6) ≡ g → slice_index bytes (first + 7) ≡ h
    → number_at bytes (8 * first) 64 ≡ from_be_bytes w64 (a ∷ b ∷ c ∷ d ∷ e ∷ f ∷ g ∷ h ∷ [])
eight_number bytes first a b c d e f g h la lb lc ld le lf lg lh ea eb ec ed ee ef eg eh =
    let n1 : number_at bytes (8 * first) 8 ≡ slice_index bytes first = number_at-byte bytes first (omega arith) in
    let n2 : number_at bytes (8 * first) 16 ≡ number_at bytes (8 * first) 8 * 256 + slice_index bytes (first + 1) = byte_more bytes first 1 (omega arith) in
    let n3 : number_at bytes (8 * first) 24 ≡ number_at bytes (8 * first) 16 * 256 + slice_index bytes (first + 2) = byte_more bytes first 2 (omega arith) in
    let n4 : number_at bytes (8 * first) 32 ≡ number_at bytes (8 * first) 24 * 256 + slice_index bytes (first + 3) = byte_more bytes first 3 (omega arith) in
    let n5 : number_at bytes (8 * first) 40 ≡ number_at bytes (8 * first) 32 * 256 + slice_index bytes (first + 4) = byte_more bytes first 4 (omega arith) in
    let n6 : number_at bytes (8 * first) 48 ≡ number_at bytes (8 * first) 40 * 256 + slice_index bytes (first + 5) = byte_more bytes first 5 (omega arith) in
    let n7 : number_at bytes (8 * first) 56 ≡ number_at bytes (8 * first) 48 * 256 + slice_index bytes (first + 6) = byte_more bytes first 6 (omega arith) in
    let n8 : number_at bytes (8 * first) 64 ≡ number_at bytes (8 * first) 56 * 256 + slice_index bytes (first + 7) = byte_more bytes first 7 (omega arith) in
    omega arith

eight_replaced : (bytes : List ℕ) (first a b c d e f g h : ℕ) → first + 8 ≤ length bytes
    → a < 256 → b < 256 → c < 256 → d < 256 → e < 256 → f < 256 → g < 256 → h < 256
    → number_at (replaced bytes first (a ∷ b ∷ c ∷ d ∷ e ∷ f ∷ g ∷ h ∷ [])) (8 * first) 64
    ≡ from_be_bytes w64 (a ∷ b ∷ c ∷ d ∷ e ∷ f ∷ g ∷ h ∷ [])
eight_replaced bytes first a b c d e f g h room la lb lc ld le lf lg lh =
    let eight = a ∷ b ∷ c ∷ d ∷ e ∷ f ∷ g ∷ h ∷ [] in
    let new = replaced bytes first eight in
    let zeroth : slice_index new first ≡ a = ap (slice_index new) (omega arith) ∙ inside_same bytes eight first 0 room refl (omega arith) in
    eight_number new first a b c d e f g h la lb lc ld le lf lg lh
    zeroth (inside_same bytes eight first 1 room refl (omega arith)) (inside_same bytes eight first 2 room refl (omega arith))
    (inside_same bytes eight first 3 room refl (omega arith)) (inside_same bytes eight first 4 room refl (omega arith))
    (inside_same bytes eight first 5 room refl (omega arith)) (inside_same bytes eight first 6 room refl (omega arith))
    (inside_same bytes eight first 7 room refl (omega arith))

-- eight bytes of a word written into a list
pub Puts-eight : (bytes : List ℕ) (first word : ℕ) → first + 8 ≤ length bytes → word < 2 ^ 64
    → Puts bytes (replaced bytes first (to_be_bytes w64 word)) (8 * first) 64 word
Puts-eight bytes first word room fits =
    let eight = to_be_bytes w64 word in
    record {
      number = eight_replaced bytes first _ _ _ _ _ _ _ _ room (omega arith) (omega arith) (omega arith) (omega arith)
          (omega arith) (omega arith) (omega arith) (omega arith)
          ∙ from_be_bytes-to_be_bytes_8 word fits;
      others = record {
        before = λ i h. bit_same bytes (replaced bytes first eight) i (before_same bytes eight first (i / 8) room (omega arith));
        after = λ i h.
            let m = i / 8 - (first + 8) in
            let place : i / 8 ≡ first + 8 + m = omega arith in
            bit_same bytes (replaced bytes first eight) i (
            ap (slice_index (replaced bytes first eight)) place ∙ after_same bytes eight first m room refl
            ∙ ap (slice_index bytes) (sym place));
      };
    }

-- the same, as the code writes them
pub Puts-copied : (bytes eight : List ℕ) (first n word : ℕ) → first + 8 ≤ length bytes → word < 2 ^ 64
    → n ≡ 8 → eight ≡ to_be_bytes w64 word
    → Puts bytes (take first bytes ++ (eight ++ drop n (drop first bytes))) (8 * first) 64 word
Puts-copied bytes eight first n word room fits size copied =
    let rest : drop n (drop first bytes) ≡ drop (first + 8) bytes = drop-drop n first bytes ∙ ap (λ k. drop k bytes) (omega arith) in
    rw (copied, rest) (Puts-eight bytes first word room fits)
