use Rattle.std.proofs.Common.{◌≡◌, ◌<◌, ◌/◌, ◌-◌, ◌^◌, ℕ}
use Rattle.framing.specs.SbfRegister.{shift}
use Rattle.framing.proofs.sbf_register.moved_by.Given as goal

abbrev pub invariant-loop-k : goal.invariant-loop-k
invariant-loop-k l = record {
  sum : (n : ℕ) → l.fn.power ≡ shift n 1 → l.sum ≡ shift n (l.fn.state / 2 ^ (16 - l.k));
  fits : l.sum < 2 ^ 16;
}
