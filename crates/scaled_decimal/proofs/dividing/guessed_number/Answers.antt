use Rattle.std.proofs.Common.{arith}
use Rattle.scaled_decimal.specs.ScaleValue.{size_of}
use Rattle.scaled_decimal.proofs.GuessLemmas.{number_at, found_as}
use Rattle.scaled_decimal.proofs.dividing.guessed_number.Goals as goal

pub returns : goal.returns
returns c =
    let size = c.size_parts-size in
    let up = c.in_ok-lifted.lifted in
    let low = c.in_ok-lowered.lowered in
    found_as c.confirmed.result _ _ c.confirmed.ensures
    (λ n near. number_at (size_of c.args.scale.now) c.args.digits c.args.up c.args.down size.result.tens up.number up.tens size.result.factor
    size.result.up size.result.down low.over low.under n size.ensures (omega (arith, c.if-size-gt0.false)) c.in_ok-lifted.ensures c.in_ok-lowered.ensures near)
