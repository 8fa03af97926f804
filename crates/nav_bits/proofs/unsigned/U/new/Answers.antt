use Rattle.std.proofs.Common.{◌^◌, ◌≤◌, lit≤, arith, rules}
use Rattle.std.proofs.Math.Nat.{pow-le-pow_right}
use Rattle.nav_bits.proofs.unsigned.U.new.Goals as goal

pub invariant_of-result : goal.invariant_of-result
invariant_of-result g c = let more : 2 ^ 64 ≤ 2 ^ g.row.W = pow-le-pow_right (lit≤ tt) c.if-this-ge64.true in omega arith

pub returns-then-this-ge64-clause-exactly : goal.returns-then-this-ge64-clause-exactly
returns-then-this-ge64-clause-exactly g c =
    let more : 2 ^ 64 ≤ 2 ^ g.row.W = pow-le-pow_right (lit≤ tt) c.if-this-ge64.true in search rules
