-- The form of a frame in the standard's own terms.
use Rattle.std.proofs.Common.{◌≡◌, ℕ, ◌+◌, ◌-◌, ◌*◌, ◌/◌, ◌%◌, ◌^◌, ◌<◌, ◌≤◌, ◌&&◌, nat_le, nat_eq, Bool, true, false, cond, List, length, slice_index, take, drop, inl, inr, refl, sym, ap, ◌∙◌, arith}
use Rattle.std.proofs.lemmas.Bool.{and_parts, leb-true, eqb-true, eq-eqb, cases_lt}
use Rattle.std.proofs.lemmas.List.{get_or-take, get_or-drop, take-take, length-take-le}
use Rattle.std.specs.Int.{bit_at}
use Rattle.nav_bits.specs.Bits.{bit, number_at}
use Rattle.nav_bits.specs.Laws.{number_at-append, number_at-part, number_at-byte, number_at-same}
use Rattle.byteorder.specs.Endian.{big_number}
use Rattle.nav_bits.specs.Division.{IsCrc}
use Rattle.nav_bits.specs.Register.{crc_from}
use Rattle.framing.specs.Frames.{announced, frame_size, is_right}
use Rattle.framing.proofs.FormCases.{announced_by, size_few, size_many, size_within}
use Rattle.framing.specs.Standard.{AreBytes, BeginsFrame}

-- the first eight bits are the first byte
first_byte : (bytes : List ℕ) → AreBytes bytes → number_at bytes 0 8 ≡ slice_index bytes 0
first_byte bytes b = number_at-byte bytes 0 (b 0)

-- the ten bits of length after six bits of the second byte
length_bits : (bytes : List ℕ) → AreBytes bytes → number_at bytes 14 10 + 6 ≡ announced (slice_index bytes 1) (slice_index bytes 2)
length_bits bytes b =
    let high : number_at bytes 14 2 ≡ slice_index bytes 1 / 1 % 4 = number_at-part bytes 14 6 1 2 refl refl (omega arith) in
    let low : number_at bytes 16 8 ≡ slice_index bytes 2 = number_at-byte bytes 2 (b 2) in
    let both : number_at bytes 14 10 ≡ number_at bytes 14 2 * 256 + number_at bytes 16 8 = number_at-append bytes 14 2 8 in
    let byte = b 2 in
    omega arith

-- three bytes and their bits are one number
three_bytes_bits : (bytes : List ℕ) (i : ℕ) → AreBytes bytes → number_at bytes (8 * i) 24 ≡ (slice_index bytes i * 256 + slice_index bytes (i + 1)) * 256 + slice_index bytes (i + 2)
three_bytes_bits bytes i b =
    let two : number_at bytes (8 * i) 24 ≡ number_at bytes (8 * i) 16 * 2 ^ 8 + number_at bytes (8 * i + 16) 8 = number_at-append bytes (8 * i) 16 8 in
    let one : number_at bytes (8 * i) 16 ≡ number_at bytes (8 * i) 8 * 2 ^ 8 + number_at bytes (8 * i + 8) 8 = number_at-append bytes (8 * i) 8 8 in
    let third : number_at bytes (8 * i + 16) 8 ≡ slice_index bytes (i + 2) = ap (λ place. number_at bytes place 8) (omega arith) ∙ number_at-byte bytes (i + 2) (b (i + 2)) in
    let second : number_at bytes (8 * i + 8) 8 ≡ slice_index bytes (i + 1) = ap (λ place. number_at bytes place 8) (omega arith) ∙ number_at-byte bytes (i + 1) (b (i + 1)) in
    let first : number_at bytes (8 * i) 8 ≡ slice_index bytes i = number_at-byte bytes i (b i) in
    omega arith

-- the bits of the first bytes are those of all
bits_of_prefix : (bytes : List ℕ) (m : ℕ) → number_at (take m bytes) 0 (8 * m) ≡ number_at bytes 0 (8 * m)
unfolding bit
bits_of_prefix bytes m =
    number_at-same (take m bytes) bytes 0 (8 * m)
    (record { same = λ i low high. ap (λ x. bit_at x (7 - i % 8)) (get_or-take m bytes (i / 8) 0 (omega arith)) })

-- the last three of the first n bytes
last_three : (bytes : List ℕ) (n : ℕ) → 3 ≤ n → AreBytes bytes → big_number 3 (drop (n - 3) (take n bytes)) ≡ number_at bytes (8 * (n - 3)) 24
last_three bytes n h b =
    let at : (k : ℕ) → k < 3 → slice_index (drop (n - 3) (take n bytes)) k ≡ slice_index bytes (n - 3 + k) = λ k l. get_or-drop (n - 3) (take n bytes) k 0 ∙ get_or-take n bytes (n - 3 + k) 0 (omega arith) in
    let zeroth : slice_index bytes (n - 3 + 0) ≡ slice_index bytes (n - 3) = ap (slice_index bytes) (omega arith) in
    omega (arith, three_bytes_bits bytes (n - 3) b, at 0 (omega arith), at 1 (omega arith), at 2 (omega arith))

-- the checksum is right where the CRC of the bytes before it is the number of its bits
right_by_bits : (bytes : List ℕ) (n : ℕ) → 3 ≤ n → n ≤ length bytes → AreBytes bytes
    → is_right (take n bytes) ≡ nat_eq (crc_from 0 (take (n - 3) bytes)) (number_at bytes (8 * (n - 3)) 24)
unfolding is_right
right_by_bits bytes n h whole b =
    let size : length (take n bytes) ≡ n = length-take-le n bytes whole in
    let prefix : take (n - 3) (take n bytes) ≡ take (n - 3) bytes = take-take (n - 3) n bytes (omega arith) in
    let last : big_number 3 (drop (n - 3) (take n bytes)) ≡ number_at bytes (8 * (n - 3)) 24 = last_three bytes n h b in
    ap (λ m. nat_eq (crc_from 0 (take (m - 3) (take n bytes))) (big_number 3 (drop (m - 3) (take n bytes)))) size
    ∙ ap (λ xs. nat_eq (crc_from 0 xs) (big_number 3 (drop (n - 3) (take n bytes)))) prefix
    ∙ ap (nat_eq (crc_from 0 (take (n - 3) bytes))) last

-- what a frame of n bytes at the beginning tells of the bytes
record Form (bytes : List ℕ) (n : ℕ) : Type 0 where
  pub start : slice_index bytes 0 ≡ 211
  pub size : announced_by bytes ≡ n
  pub within : n ≤ length bytes
  pub right : is_right (take n bytes) ≡ true

form_at : (bytes : List ℕ) (t : Bool) → (nat_eq (slice_index bytes 0) 211 && nat_le (announced_by bytes) (length bytes) && is_right (take (announced_by bytes) bytes)) ≡ t
    → (n : ℕ) → 0 < n → cond t (announced_by bytes) 0 ≡ n → Form bytes n
form_at bytes true e n some size =
    let parts = and_parts (nat_eq (slice_index bytes 0) 211 && nat_le (announced_by bytes) (length bytes)) (is_right (take (announced_by bytes) bytes)) e in
    let first = and_parts (nat_eq (slice_index bytes 0) 211) (nat_le (announced_by bytes) (length bytes)) parts.0 in
    let within : announced_by bytes ≤ length bytes = leb-true _ _ first.1 in
    record {
      start = eqb-true _ _ first.0;
      size = size;
      within = rw size at within;
      right = rw size at parts.1;
    }
form_at bytes false e n some size = absurd (omega arith)

form_of : (bytes : List ℕ) (n : ℕ) → 0 < n → frame_size bytes ≡ n → Form bytes n
form_of bytes n some size =
    elim (cases_lt (length bytes) 3) [
      | inl few ↦ absurd (omega (arith, size_few bytes few))
      | inr many ↦ form_at bytes _ refl n some (sym (size_many bytes many) ∙ size)
    ]

-- the CRC of the first bytes is that of their bits
crc_of_prefix : ((xs : List ℕ) → IsCrc (number_at xs 0 (8 * length xs)) (crc_from 0 xs)) → (bytes : List ℕ) (m : ℕ) → m ≤ length bytes
    → IsCrc (number_at bytes 0 (8 * m)) (crc_from 0 (take m bytes))
crc_of_prefix register bytes m h =
    let size : length (take m bytes) ≡ m = length-take-le m bytes h in
    rw (size, bits_of_prefix bytes m) at (register (take m bytes))

pub begins_frame : ((xs : List ℕ) → IsCrc (number_at xs 0 (8 * length xs)) (crc_from 0 xs)) → (bytes : List ℕ) (n : ℕ) → AreBytes bytes
    → 0 < n → frame_size bytes ≡ n → BeginsFrame bytes n
begins_frame register bytes n b some size =
    let form = form_of bytes n some size in
    let six : 6 ≤ n = omega (arith, form.size) in
    let crc : crc_from 0 (take (n - 3) bytes) ≡ number_at bytes (8 * (n - 3)) 24 = eqb-true _ _ (sym (right_by_bits bytes n (omega arith) form.within b) ∙ form.right) in
    record {
      preamble = first_byte bytes b ∙ form.start;
      message_length = length_bits bytes b ∙ form.size;
      whole = form.within;
      crc = rw crc at (crc_of_prefix register bytes (n - 3) (omega (arith, form.within)));
    }

pub frame_begun : ((xs : List ℕ) → IsCrc (number_at xs 0 (8 * length xs)) (crc_from 0 xs)) → ((p r s : ℕ) → IsCrc p r → IsCrc p s → r ≡ s)
    → (bytes : List ℕ) (n : ℕ) → AreBytes bytes → BeginsFrame bytes n → (0 < n) × (frame_size bytes ≡ n)
frame_begun register one bytes n b begins =
    let size : announced_by bytes ≡ n = sym (length_bits bytes b) ∙ begins.message_length in
    let start : slice_index bytes 0 ≡ 211 = sym (first_byte bytes b) ∙ begins.preamble in
    let six : 6 ≤ n = omega (arith, begins.message_length) in
    let within : n ≤ length bytes = begins.whole in
    let crc : crc_from 0 (take (n - 3) bytes) ≡ number_at bytes (8 * (n - 3)) 24 = one (number_at bytes 0 (8 * (n - 3))) _ _ (crc_of_prefix register bytes (n - 3) (omega arith)) begins.crc in
    let right : is_right (take n bytes) ≡ true = right_by_bits bytes n (omega arith) within b ∙ eq-eqb _ _ crc in
    (omega arith, size_within bytes (omega arith) start (rw size within) ∙ rw (size, right) refl)
