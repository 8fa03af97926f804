use Rattle.std.proofs.Common.{◌<◌, ◌≤◌, ◌^◌, sym, arith}
use Rattle.std.proofs.Math.Nat.{div-eq_of_lt}
use Rattle.std.proofs.Math.Pow.{pow_mono}
use Rattle.receiver_log.proofs.times.whole.Goals as goal

pub returns-then-places-gt60 : goal.returns-then-places-gt60
returns-then-places-gt60 c =
    let more : 2 ^ 53 ≤ 2 ^ c.args.places = pow_mono {i = 53} {j = c.args.places} (omega arith) in
    let less : c.args.digits < 2 ^ c.args.places = omega (arith, c.requires) in
    sym (div-eq_of_lt less)
