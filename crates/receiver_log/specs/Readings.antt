-- The three ways in which receivers log the words of a subframe.
use Rattle.std.specs.Prelude.{◌≡◌, ℕ, ◌%◌, ◌==◌, ◌⊎◌, if◌then◌else◌, List, [], ◌∷◌, bit_xor}
use Rattle.receiver_log.specs.Words.{data_mask, whole_mask}

-- which bits are inverted: none, the 24 data bits, or all 30
abbrev pub IsMask : ℕ → Type 0
IsMask mask = (mask ≡ 0) ⊎ ((mask ≡ data_mask) ⊎ (mask ≡ whole_mask))

-- words sent after one that ends in the bits of last, as logged: inverted if the word sent before
-- ends in 1 (D30*)
abbrev pub logged_behind : ℕ → ℕ → List ℕ → List ℕ
logged_behind mask last [] = []
logged_behind mask last (word ∷ words) =
    (if last % 2 == 1 then bit_xor word mask else word) ∷ logged_behind mask word words

-- the words of a subframe that was sent, as logged
abbrev pub logged : ℕ → List ℕ → List ℕ
logged mask sent = logged_behind mask 0 sent
