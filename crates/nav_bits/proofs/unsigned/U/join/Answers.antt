use Rattle.std.proofs.Common.{arith}
use Rattle.nav_bits.proofs.Halves.{join_fits, joined, joined_fits}
use Rattle.nav_bits.proofs.unsigned.U.join.Goals as goal

pub returns : goal.returns
returns g c =
    joined c.args.high c.args.low c.value.result c.value-2.result g.row.H g.row.L g.row.W c.requires.whole c.requires.most
    c.value.ensures.fits c.value.ensures.same c.value-2.ensures.same

pub overflow_add-result : goal.overflow_add-result
overflow_add-result g c =
    omega (arith, returns g c, joined_fits c.args.high c.args.low g.row.H g.row.L g.row.W c.requires.whole c.requires.most c.value.ensures.fits c.value-2.ensures.fits)

pub invariant_of-result : goal.invariant_of-result
invariant_of-result g c =
    omega (arith, returns g c, join_fits c.args.high c.args.low g.row.H g.row.L g.row.W c.requires.whole c.value.ensures.fits c.value-2.ensures.fits)
