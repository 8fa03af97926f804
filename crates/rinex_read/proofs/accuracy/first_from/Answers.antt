use Rattle.std.proofs.Common.{◌≡◌, length, arith}
use Rattle.rinex_read.proofs.AccuracyLemmas.{first_more, first_here, first_none}
use Rattle.rinex_read.proofs.accuracy.first_from.Goals as goal

pub returns-then-n-number-clause-value : goal.returns-then-n-number-clause-value
returns-then-n-number-clause-value c = first_here c.args.n c.args.numbers.now c.loop-place.place c.loop-place-test.true c.if-n-number.true c.loop-place.invariant

pub loop-place-preserved : goal.loop-place-preserved
loop-place-preserved c = first_more c.args.n c.args.numbers.now c.loop-place.place c.loop-place-test.true c.if-n-number.false c.loop-place.invariant

pub returns-clause-value : goal.returns-clause-value
returns-clause-value c =
    let end : c.loop-place.place ≡ length c.args.numbers.now = omega arith in
    first_none c.args.n c.args.numbers.now c.loop-place.place end c.loop-place.invariant
