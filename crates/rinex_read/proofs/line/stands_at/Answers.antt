use Rattle.std.proofs.Common.{◌≡◌, ◌+◌, drop, length, ap, ◌∙◌, arith}
use Rattle.rinex_read.specs.Lines.{stands_at}
use Rattle.rinex_read.proofs.LineLemmas.{stands_more, stands_none, stands_all}
use Rattle.rinex_read.proofs.line.stands_at.Goals as goal

pub returns-then-line-place : goal.returns-then-line-place
returns-then-line-place c =
    let size : length c.args.line.now ≡ 80 = c.told-line in
    stands_none c.args.text.now c.args.line.now c.args.place c.loop-i.i c.loop-i-test.true (omega arith) c.if-line-place.true c.loop-i.invariant

pub loop-i-preserved : goal.loop-i-preserved
loop-i-preserved c =
    let size : length c.args.line.now ≡ 80 = c.told-line in
    stands_more c.args.text.now c.args.line.now c.args.place c.loop-i.i c.loop-i-test.true (omega arith) c.if-line-place.false c.loop-i.invariant

pub returns : goal.returns
returns c =
    let end : c.loop-i.i ≡ length c.args.text.now = omega arith in
    stands_all c.args.text.now c.args.line.now c.args.place (c.args.place + c.loop-i.i)
    (c.loop-i.invariant ∙ ap (λ k. stands_at (c.args.place + c.loop-i.i) (drop k c.args.text.now) c.args.line.now) end)
