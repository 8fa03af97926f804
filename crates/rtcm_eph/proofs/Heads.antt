-- The head of a list of bytes as bits.
use Rattle.std.proofs.Common.{◌≡◌, ℕ, ◌*◌, ◌/◌, ◌-◌, ◌%◌, ◌<◌, ◌≤◌, List, length, take, slice_index, sym, ap, ◌∙◌, arith}
use Rattle.std.proofs.lemmas.List.{get_or-take, ext_get_or, length-take-le}
use Rattle.std.specs.Int.{bit_at}
use Rattle.nav_bits.specs.Bits.{bit, number_at, SameInside}
use Rattle.nav_bits.specs.Laws.{number_at-same, number_at-byte}

-- the bits of the first n bytes
pub head_bits : (p : List ℕ) (n : ℕ) → SameInside (take n p) p 0 (8 * n)
unfolding bit
head_bits p n = record {
  same = λ i low high.
      ap (λ byte. bit_at byte (7 - i % 8)) (get_or-take n p (i / 8) 0 (omega arith));
}

-- bytes of the same bits are the same
pub same_bytes : (p q : List ℕ) (n : ℕ) → n ≤ length p → length q ≡ n → ((k : ℕ) → slice_index p k < 256)
    → ((k : ℕ) → slice_index q k < 256) → ((i : ℕ) → i < 8 * n → bit p i ≡ bit q i) → take n p ≡ q
same_bytes p q n long long' bytes bytes' same =
    let lengths : length (take n p) ≡ n = length-take-le n p long in
    ext_get_or 0 (take n p) q (lengths ∙ sym long')
    (λ k h. let below : k < n = omega (arith, lengths) in
    let run : number_at p (8 * k) 8 ≡ number_at q (8 * k) 8 =
    number_at-same p q (8 * k) 8 (record { same = λ i low high. same i (omega arith) }) in
    get_or-take n p k 0 below ∙ sym (number_at-byte p k (bytes k)) ∙ run ∙ number_at-byte q k (bytes' k))
