-- Intermediate results of private functions, cited by no public clause.
use Rattle.std.specs.Prelude.{◌^◌, ◌<◌, ℕ, ℤ, pos, negsuc, ◌≤ℤ◌}

-- the exponents that three digits can give
pub record IsExponentRead (e : ℤ) : Type 0 where
  pub from : negsuc 998 ≤ℤ e
  pub to : e ≤ℤ pos 999

-- the digits and exponents that reading can give
pub record IsNumberRead (digits : ℕ) (e : ℤ) : Type 0 where
  pub below : digits < 10 ^ 18
  pub from : negsuc 1018 ≤ℤ e
  pub to : e ≤ℤ pos 999

-- the digits and exponents that are written
pub record ArePrinted (digits : ℕ) (e : ℤ) : Type 0 where
  pub below : digits < 10 ^ 13
  pub from : negsuc 98 ≤ℤ e
  pub to : e ≤ℤ pos 99
