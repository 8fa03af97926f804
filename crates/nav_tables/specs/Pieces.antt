-- Numbers that a message has in pieces.
use Rattle.std.specs.Prelude.{ℕ, ◌+◌, ◌*◌, ◌/◌, ◌%◌, ◌^◌, ◌&&◌, Bool, true, List, [], ◌∷◌, get_or, nat_eq, nat_le, nat_lt, if◌then◌else◌}
use Rattle.nav_bits.specs.Bits.{number_at}
use Rattle.nav_tables.specs.declared.piece.Piece.{Piece}

-- the width of a message, and of number k in it
abbrev pub width_of : List Piece → ℕ
width_of [] = 0
width_of (p ∷ ps) = p.width + width_of ps

abbrev pub bits_of : ℕ → List Piece → ℕ
bits_of k [] = 0
bits_of k (p ∷ ps) = (if nat_eq p.number k then p.width else 0) + bits_of k ps

-- pieces of 40 numbers of at most 32 bits, the low bits of each number in its later pieces
abbrev pub are_pieces : List Piece → Bool
are_pieces [] = true
are_pieces (p ∷ ps) = nat_lt p.number 40 && nat_le (p.width + p.low) 32 && nat_eq p.low (bits_of p.number ps) && are_pieces ps

-- what a piece adds to number k
abbrev pub part_of : ℕ → Piece → ℕ → ℕ
part_of k p bits = if nat_eq p.number k then bits * 2 ^ p.low else 0

-- number k in the bits from bit offset at
abbrev pub number_in : List ℕ → ℕ → ℕ → List Piece → ℕ
number_in bytes at k [] = 0
number_in bytes at k (p ∷ ps) = part_of k p (number_at bytes at p.width) + number_in bytes (at + p.width) k ps

-- the bits of the pieces of some numbers, each a width and a value
abbrev pub fields_of : List Piece → List ℕ → List (ℕ × ℕ)
fields_of [] numbers = []
fields_of (p ∷ ps) numbers = (p.width, (get_or numbers p.number 0 / 2 ^ p.low) % 2 ^ p.width) ∷ fields_of ps numbers
