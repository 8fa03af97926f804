-- Two's complement of w bits.
use Rattle.std.specs.Prelude.{ℕ, suc, ◌-◌, ◌^◌, ℤ, pos, negsuc, neg_ℤ, ◌<ℤ◌, ◌≤ℤ◌, nat_lt, if◌then◌else◌}

-- z is from -2^(w-1) to 2^(w-1) - 1
abbrev pub IsSigned : ℕ → ℤ → Type 0
IsSigned w z = (neg_ℤ (pos (2 ^ (w - 1))) ≤ℤ z) × (z <ℤ pos (2 ^ (w - 1)))

-- the two's complement value of w bits whose unsigned value is n
unfoldable pub signed_of : ℕ → ℕ → ℤ
signed_of w n = if nat_lt n (2 ^ (w - 1)) then pos n else neg_ℤ (pos (2 ^ w - n))

-- the unsigned value of the w bits of z in two's complement
abbrev pub unsigned_of : ℕ → ℤ → ℕ
unsigned_of w (pos n) = n
unsigned_of w (negsuc n) = 2 ^ w - suc n
