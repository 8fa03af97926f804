use Rattle.std.proofs.Common.{refl}
use Rattle.captures.proofs.CountEnds.{count_broke, count_done}
use Rattle.captures.proofs.count.count_text.Goals as goal

pub returns-in-Ok : goal.returns-in-Ok
returns-in-Ok g c = count_done c.args.week c.args.text.items c.new-input.result.left _ _ c.in-Ok.counts c.new-input.ensures.left refl c.in-Ok.ensures.ended

pub returns : goal.returns
returns g c =
    count_broke c.args.week c.args.text.items c.new-input.result.left _ _ c.in-Err.fault c.new-input.ensures.left refl c.requires.short c.requires.accepted
    (rw (c.new-input.ensures.fails, c.new-2.ensures.items) refl) c.in-Err.ensures.ended c.in-Err.ensures.ahead
