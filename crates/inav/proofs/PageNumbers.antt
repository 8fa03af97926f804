-- Page parts as numbers: their used bits, their CRC and their word.
use Rattle.std.proofs.Common.{◌≡◌, ℕ, zero, suc, ◌+◌, ◌-◌, ◌*◌, ◌/◌, ◌%◌, ◌^◌, ◌<◌, ◌≤◌, List, ◌∷◌, ◌++◌, length, slice_index, true, refl, sym, ap, subst, ◌∙◌, ⊎_elim, arith}
use Rattle.std.proofs.Math.Nat.{pow-suc, mod-eq_of_lt}
use Rattle.std.proofs.lemmas.Nat.{pow-add, shr-shr}
use Rattle.std.proofs.lemmas.Bool.{cases_lt, lt-ltb, le-ltb, eqb-true, eq-eqb, cond-true, cond-false}
use Rattle.std.specs.Int.{byte_at, bytes_high_first}
use Rattle.nav_bits.specs.Bits.{number_at}
use Rattle.nav_bits.specs.Laws.{number_at-append, number_at-lt}
use Rattle.nav_bits.specs.Packed.{AreBytes}
use Rattle.nav_bits.specs.Division.{IsCrc}
use Rattle.nav_bits.specs.Register.{crc_from}
use Rattle.nav_bits.proofs.Surface.{crc_of_bytes, one_remainder}
use Rattle.inav.specs.declared.half.HalfKind.TheVariants.{Even, Odd}
use Rattle.inav.specs.Pages.{bits_at, kind_of, kept_of, protected_of, data_of, word_of, HasRightCrc, has_right_crc, page_crc, IsHalf, IsSplit, bytes_of_half, even_of, odd_of, odd_before_crc}
use Rattle.nav_bits.proofs.Surface.{number_at-of_whole, number_at-bytes_of, bytes_of-length, bytes_of-lt, same_from_number}

-- ---- the used bits

kept-even : (n : ℕ) → n < 2 ^ 119 → kept_of n ≡ n / 2 ^ 6 * 2 ^ 6
kept-even n h = cond-true _ _ _ (lt-ltb n (2 ^ 119) h)

kept-odd : (n : ℕ) → 2 ^ 119 ≤ n → kept_of n ≡ n / 2 ^ 14 * 2 ^ 14
kept-odd n h = cond-false _ _ _ (le-ltb n (2 ^ 119) h)

-- the used bits of a nominal page part are a valid part
pub kept_is_half : (n : ℕ) → n < 2 ^ 120 → bits_at n 1 1 ≡ 0 → IsHalf (kept_of n)
kept_is_half n fits nominal =
    let P : ℕ → Type 0 = IsHalf in
    ⊎_elim
    (λ (even : n < 2 ^ 119). let k = n / 2 ^ 6 * 2 ^ 6 in
    subst P (sym (kept-even n even)) (record { fits = omega arith; nominal = omega (arith, nominal); kept = kept-even k (omega arith) ∙ omega arith }))
    (λ (odd : 2 ^ 119 ≤ n). let k = n / 2 ^ 14 * 2 ^ 14 in
    subst P (sym (kept-odd n odd)) (record { fits = omega arith; nominal = omega (arith, nominal); kept = kept-odd k (omega arith) ∙ omega arith }))
    (cases_lt n (2 ^ 119))

-- an even part that ends in six 0 bits
pub even_is_half : (n : ℕ) → n < 2 ^ 118 → n / 2 ^ 6 * 2 ^ 6 ≡ n → IsHalf n
even_is_half n fits tail = record { fits = omega arith; nominal = omega arith; kept = kept-even n (omega arith) ∙ tail }

pub odd_is_half : (n : ℕ) → 2 ^ 119 ≤ n → n < 2 ^ 119 + 2 ^ 118 → n / 2 ^ 14 * 2 ^ 14 ≡ n → IsHalf n
odd_is_half n odd fits tail = record { fits = omega arith; nominal = omega arith; kept = kept-odd n odd ∙ tail }

-- ---- the bits of a page part

pub half_number : (n : ℕ) (bits : List ℕ) → n < 2 ^ 120 → bytes_of_half n ≡ bits → number_at bits 0 120 ≡ n
half_number n bits fits same = ap (λ b. number_at b 0 120) (sym same) ∙ number_at-bytes_of 15 n ∙ mod-eq_of_lt fits

pub type_of_number : (bits : List ℕ) → bits_at (number_at bits 0 120) 1 1 ≡ number_at bits 1 1
type_of_number bits = number_at-of_whole bits 1 1 118

-- the number as the code reads it, in two pieces
pub number_is_read : (bits : List ℕ) (a b : ℕ) → a ≡ number_at bits 0 60 → b ≡ number_at bits 60 60 → a * 2 ^ 60 % 2 ^ 128 + b ≡ number_at bits 0 120
number_is_read bits a b high low =
    let whole : number_at bits 0 120 ≡ number_at bits 0 60 * 2 ^ 60 + number_at bits 60 60 = number_at-append bits 0 60 60 in
    omega (arith, high, low, number_at-lt bits 0 60, whole)

-- ---- the CRC

protected-lt : (even odd : ℕ) → protected_of even odd < 2 ^ 200
protected-lt even odd = omega arith

number_of_25 : (p : ℕ) → p < 2 ^ 200 → number_at (bytes_high_first 25 p) 0 200 ≡ p
number_of_25 p h = number_at-bytes_of 25 p ∙ mod-eq_of_lt h

pub page_crc_is : (even odd : ℕ) → IsCrc (protected_of even odd) (page_crc even odd)
unfolding page_crc
page_crc_is even odd =
    let p = protected_of even odd in
    let bytes = bytes_high_first 25 p in
    let number : number_at bytes 0 (8 * length bytes) ≡ p = number_of_25 p (protected-lt even odd) in
    let P : ℕ → Type 0 = λ n. IsCrc n (crc_from 0 bytes) in
    subst P number (crc_of_bytes bytes)

pub right_to : (even odd : ℕ) → has_right_crc even odd ≡ true → HasRightCrc even odd
right_to even odd e =
    let P : ℕ → Type 0 = IsCrc (protected_of even odd) in
    subst P (eqb-true (page_crc even odd) (bits_at odd 82 24) e) (page_crc_is even odd)

pub right_from : (even odd : ℕ) → HasRightCrc even odd → has_right_crc even odd ≡ true
right_from even odd is =
    eq-eqb (page_crc even odd) (bits_at odd 82 24) (one_remainder (protected_of even odd) (page_crc even odd) (bits_at odd 82 24) (page_crc_is even odd) is)

pow_256 : (k : ℕ) → 256 ^ k ≡ 2 ^ (8 * k)
pow_256 zero = refl
pow_256 (suc k) =
    let more : 8 * suc k ≡ 8 * k + 8 = omega arith in
    pow-suc 256 k ∙ ap (λ n. n * 256) (pow_256 k) ∙ sym (ap (λ n. 2 ^ n) more ∙ pow-add 2 (8 * k) 8)

byte_is : (k n : ℕ) → byte_at k n ≡ n / 2 ^ (8 * k) % 256
byte_is zero n = let e : n / 1 ≡ n = omega arith in ap (λ m. m % 256) (sym e)
byte_is (suc k) n = ap (λ m. n / m % 256) (pow_256 (suc k))

byte_above : (k n : ℕ) → byte_at (k + 9) n ≡ byte_at k (n / 2 ^ 72)
byte_above k n =
    let place : 8 * (k + 9) ≡ 72 + 8 * k = omega arith in
    byte_is (k + 9) n ∙ ap (λ m. n / 2 ^ m % 256) place ∙ sym (ap (λ m. m % 256) (shr-shr n 72 (8 * k))) ∙ sym (byte_is k (n / 2 ^ 72))

-- the bytes of a number in two pieces
two_pieces : (k n : ℕ) → bytes_high_first (k + 9) n ≡ bytes_high_first k (n / 2 ^ 72) ++ bytes_high_first 9 n
two_pieces zero n = refl
two_pieces (suc k) n =
    let more : suc k + 9 ≡ suc (k + 9) = omega arith in
    ap (λ m. bytes_high_first m n) more
    ∙ ap (λ b. b ∷ bytes_high_first (k + 9) n) (byte_above k n)
    ∙ ap (λ bs. byte_at k (n / 2 ^ 72) ∷ bs) (two_pieces k n)

-- the low bytes depend only on the low bits
low_bytes : (n m : ℕ) → n % 2 ^ 72 ≡ m % 2 ^ 72 → bytes_high_first 9 n ≡ bytes_high_first 9 m
low_bytes n m same =
    same_from_number (bytes_high_first 9 n) (bytes_high_first 9 m) 9 (bytes_of-length 9 n) (bytes_of-length 9 m) (bytes_of-lt 9 n) (bytes_of-lt 9 m)
    (number_at-bytes_of 9 n ∙ same ∙ sym (number_at-bytes_of 9 m))

-- the bytes whose CRC the code computes are those of the 196 bits
pub crc_of_pieces : (bytes : List ℕ) (even odd e o : ℕ) → e ≡ even / 2 ^ 6 % 2 ^ 114 → o ≡ odd / 2 ^ 38 % 2 ^ 82
    → bytes ≡ bytes_high_first 16 (e * 2 ^ 10 + o / 2 ^ 72) ++ bytes_high_first 9 o
    → crc_from 0 bytes ≡ page_crc even odd
unfolding page_crc
crc_of_pieces bytes even odd e o e_is o_is bytes_are =
    let p = protected_of even odd in
    let high : e * 2 ^ 10 + o / 2 ^ 72 ≡ p / 2 ^ 72 = omega (arith, e_is, o_is) in
    let low : o % 2 ^ 72 ≡ p % 2 ^ 72 = omega (arith, e_is, o_is) in
    ap (crc_from 0)
    (bytes_are
    ∙ ap (λ n. bytes_high_first 16 n ++ bytes_high_first 9 o) high
    ∙ ap (λ bs. bytes_high_first 16 (p / 2 ^ 72) ++ bs) (low_bytes o p low)
    ∙ sym (two_pieces 16 p))

-- and those of an odd part alone, by their number: there is one CRC
pub crc_of_eleven : (bytes : List ℕ) (odd crc o : ℕ) → o ≡ odd / 2 ^ 38 % 2 ^ 82 → bytes ≡ bytes_high_first 11 o
    → IsCrc (number_at bytes 0 (8 * length bytes)) crc → crc ≡ page_crc 0 odd
crc_of_eleven bytes odd crc o o_is bytes_are is =
    let number : number_at bytes 0 (8 * length bytes) ≡ protected_of 0 odd =
    ap (λ bs. number_at bs 0 (8 * length bs)) bytes_are ∙ number_at-bytes_of 11 o ∙ omega (arith, o_is) in
    let P : ℕ → Type 0 = λ n. IsCrc n crc in
    one_remainder (protected_of 0 odd) crc (page_crc 0 odd) (subst P number is) (page_crc_is 0 odd)

-- ---- the word

-- the word of its page parts
pub word_again : (word : List ℕ) (even odd crc : ℕ) → length word ≡ 16 → ((i : ℕ) → slice_index word i < 256)
    → even ≡ number_at word 0 112 * 2 ^ 6 → odd ≡ 2 ^ 119 + number_at word 112 16 * 2 ^ 102 + crc * 2 ^ 14 → crc < 2 ^ 24
    → word_of even odd ≡ word
unfolding word_of
word_again word even odd crc long each even_is odd_is fits =
    let number_is : data_of even odd ≡ number_at word 0 128 =
    omega (arith, even_is, odd_is, fits, number_at-lt word 0 112, number_at-lt word 112 16, number_at-append word 0 112 16) in
    let bytes = bytes_high_first 16 (data_of even odd) in
    let number : number_at bytes 0 128 ≡ number_at word 0 128 =
    number_at-bytes_of 16 (data_of even odd) ∙ ap (λ n. n % 2 ^ 128) number_is ∙ mod-eq_of_lt (number_at-lt word 0 128) in
    same_from_number bytes word 16 (bytes_of-length 16 (data_of even odd)) long (bytes_of-lt 16 (data_of even odd)) each number

-- the parts of a word as the code makes them
pub split_even : (word : List ℕ) (a b : ℕ) → a ≡ number_at word 0 56 → b ≡ number_at word 56 56
    → (a * 2 ^ 56 % 2 ^ 128 + b) * 2 ^ 6 ≡ number_at word 0 112 * 2 ^ 6
split_even word a b high low =
    let whole : number_at word 0 112 ≡ number_at word 0 56 * 2 ^ 56 + number_at word 56 56 = number_at-append word 0 56 56 in
    omega (arith, high, low, number_at-lt word 0 56, whole)

pub split_odd : (word : List ℕ) (a : ℕ) → a ≡ number_at word 112 16 → 2 ^ 119 + a * 2 ^ 102 % 2 ^ 128 ≡ 2 ^ 119 + number_at word 112 16 * 2 ^ 102
split_odd word a low = omega (arith, low, number_at-lt word 112 16)

pub even_of_word : (word : List ℕ) → IsHalf (number_at word 0 112 * 2 ^ 6)
even_of_word word = even_is_half (number_at word 0 112 * 2 ^ 6) (omega (arith, number_at-lt word 0 112)) (omega arith)

pub odd_of_word : (word : List ℕ) (crc : ℕ) → crc < 2 ^ 24 → IsHalf (2 ^ 119 + number_at word 112 16 * 2 ^ 102 + crc * 2 ^ 14)
odd_of_word word crc fits =
    odd_is_half (2 ^ 119 + number_at word 112 16 * 2 ^ 102 + crc * 2 ^ 14) (omega arith) (omega (arith, fits, number_at-lt word 112 16)) (omega arith)

-- the CRC of the page in its place
pub crc_in_place : (d crc : ℕ) → d < 2 ^ 16 → crc < 2 ^ 24 → bits_at (2 ^ 119 + d * 2 ^ 102 + crc * 2 ^ 14) 82 24 ≡ crc
crc_in_place d crc fits fits' = omega (arith, fits, fits')

pub crc_is_right : (even d crc : ℕ) → d < 2 ^ 16 → crc < 2 ^ 24 → crc ≡ page_crc even (2 ^ 119 + d * 2 ^ 102)
    → HasRightCrc even (2 ^ 119 + d * 2 ^ 102 + crc * 2 ^ 14)
crc_is_right even d crc fits fits' is =
    let first = 2 ^ 119 + d * 2 ^ 102 in
    let odd = 2 ^ 119 + d * 2 ^ 102 + crc * 2 ^ 14 in
    let same : protected_of even first ≡ protected_of even odd = omega (arith, fits, fits') in
    let P : ℕ → Type 0 = λ p. IsCrc p (bits_at odd 82 24) in
    let Q : ℕ → Type 0 = IsCrc (protected_of even first) in
    subst P same (subst Q (sym is ∙ sym (crc_in_place d crc fits fits')) (page_crc_is even first))

-- ---- bit offsets

bits_by : List ℕ → ℕ → ℕ → ℕ
bits_by bits width rest = number_at bits 0 120 / 2 ^ rest % 2 ^ width

pub digits_of_bits : (bits : List ℕ) (at width rest : ℕ) → at + width + rest ≡ 120 → bits_at (number_at bits 0 120) at width ≡ number_at bits at width
unfolding bits_by
digits_of_bits bits at width rest all =
    let left : 120 - at - width ≡ rest = omega (arith, all) in
    ap (bits_by bits width) left
    ∙ sym (ap (λ n. number_at bits 0 n / 2 ^ rest % 2 ^ width) all)
    ∙ number_at-of_whole bits at width rest

-- ---- the parts of a word

even-lt : (word : List ℕ) → even_of word < 2 ^ 118
even-lt word = omega (arith, number_at-lt word 0 112)

-- the functions give the page parts of a word
pub parts_split : (word : List ℕ) → IsSplit word (even_of word) (odd_of word)
parts_split word =
    let d = number_at word 112 16 in
    let crc = page_crc (even_of word) (odd_before_crc word) in
    let fits : crc < 2 ^ 24 = (page_crc_is (even_of word) (odd_before_crc word)).fits in
    let in_place : bits_at (odd_of word) 82 24 ≡ crc = crc_in_place d crc (number_at-lt word 112 16) fits in
    record {
      even_is = refl;
      odd_is = ap (λ n. odd_before_crc word + n * 2 ^ 14) (sym in_place);
      crc = crc_is_right (even_of word) d crc (number_at-lt word 112 16) fits refl;
    }

-- and no others
pub only_parts : (word : List ℕ) (even odd : ℕ) → IsSplit word even odd → (even ≡ even_of word) × (odd ≡ odd_of word)
only_parts word even odd h =
    let d = number_at word 112 16 in
    let held = bits_at odd 82 24 in
    let fits : held < 2 ^ 24 = h.crc.fits in
    let whole : odd ≡ odd_before_crc word + held * 2 ^ 14 = h.odd_is in
    let same : protected_of even odd ≡ protected_of (even_of word) (odd_before_crc word) =
    ap (λ e. protected_of e odd) h.even_is ∙ omega (arith, whole, fits, number_at-lt word 112 16) in
    let P : ℕ → Type 0 = λ p. IsCrc p held in
    let crc : held ≡ page_crc (even_of word) (odd_before_crc word) =
    one_remainder (protected_of (even_of word) (odd_before_crc word)) held (page_crc (even_of word) (odd_before_crc word))
    (subst P same h.crc) (page_crc_is (even_of word) (odd_before_crc word)) in
    (h.even_is, whole ∙ ap (λ n. odd_before_crc word + n * 2 ^ 14) crc)

pub even_part_is_half : (word : List ℕ) → IsHalf (even_of word)
even_part_is_half word = even_of_word word

pub odd_part_is_half : (word : List ℕ) → IsHalf (odd_of word)
odd_part_is_half word =
    let crc = page_crc (even_of word) (odd_before_crc word) in
    odd_of_word word crc (page_crc_is (even_of word) (odd_before_crc word)).fits

pub even_part_is_even : (word : List ℕ) → kind_of (even_of word) ≡ Even
even_part_is_even word = cond-true _ _ _ (lt-ltb (even_of word) (2 ^ 119) (let low = even-lt word in omega arith))

pub odd_part_is_odd : (word : List ℕ) → kind_of (odd_of word) ≡ Odd
odd_part_is_odd word = cond-false _ _ _ (le-ltb (odd_of word) (2 ^ 119) (omega arith))

-- the word of the page parts
pub word_of_parts : (word : List ℕ) → AreBytes 16 word → word_of (even_of word) (odd_of word) ≡ word
word_of_parts word bytes =
    let crc = page_crc (even_of word) (odd_before_crc word) in
    word_again word (even_of word) (odd_of word) crc bytes.count_is bytes.fit refl refl
    (page_crc_is (even_of word) (odd_before_crc word)).fits

-- reading the bytes of a page part gives the part
pub half_again : (half : ℕ) → IsHalf half → kept_of (number_at (bytes_of_half half) 0 120) ≡ half
half_again half is = ap kept_of (half_number half (bytes_of_half half) is.fits refl) ∙ is.kept
