use Rattle.std.proofs.Common.{rules, w64}
use Rattle.std.proofs.lemmas.Int.{to_z-of_z}
use Rattle.nav_bits.specs.Signed.{IsSigned}
use Rattle.nav_bits.proofs.TwosComplement.{signed_wide}
use Rattle.nav_bits.proofs.signed.S.new.Goals as goal

pub invariant_of-result : goal.invariant_of-result
invariant_of-result g c = rw (to_z-of_z w64 c.args.value c.ranges.value) (signed_wide g.row.W c.args.value c.ranges.value c.if-this-gt64.true)

pub returns-then-this-gt64-clause-exactly : goal.returns-then-this-gt64-clause-exactly
returns-then-this-gt64-clause-exactly g c =
    let wide : IsSigned g.row.W c.args.value = signed_wide g.row.W c.args.value c.ranges.value c.if-this-gt64.true in
    search rules
