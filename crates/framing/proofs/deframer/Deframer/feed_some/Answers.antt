use Rattle.std.proofs.Common.{length, ap, arith}
use Rattle.framing.proofs.Promising.{waiting_is_short}
use Rattle.framing.proofs.deframer.Deframer.feed_some.Goals as goal

pub make_room-requires-clause-short : goal.make_room-requires-clause-short
make_room-requires-clause-short c =
    omega (arith, waiting_is_short c.args.self.now.rest c.requires.may_feed.1, ap (λ s. length s.rest) c.self.view_is)
