use Rattle.std.proofs.Common.{◌≡◌, ◌<◌, ◌≤◌, ◌%◌, ◌^◌, sym, arith}
use Rattle.std.proofs.Math.Nat.{mod-eq_of_lt}
use Rattle.std.proofs.Math.Pow.{pow_mono}
use Rattle.std.proofs.lemmas.Bool.{lt-ltb}
use Rattle.receiver_log.proofs.times.is_low.Goals as goal

pub returns-then-places-gt60 : goal.returns-then-places-gt60
returns-then-places-gt60 c =
    let more : 2 ^ 60 ≤ 2 ^ c.args.places = pow_mono {i = 60} {j = c.args.places} (omega arith) in
    let less : c.args.digits < 2 ^ c.args.places = omega (arith, c.requires) in
    let all : c.args.digits % 2 ^ c.args.places ≡ c.args.digits = mod-eq_of_lt less in
    sym (lt-ltb _ _ (omega (arith, c.requires)))
