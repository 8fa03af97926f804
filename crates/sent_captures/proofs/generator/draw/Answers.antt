use Rattle.std.proofs.Common.{◌-◌, ◌/◌, ◌^◌, ◌<◌, sym, subst, lit<}
use Rattle.sent_captures.proofs.States.{draw-lt}
use Rattle.sent_captures.proofs.generator.draw.Goals as goal

pub from_bits-requires : goal.from_bits-requires
from_bits-requires g c =
    (lit< tt, subst (λ x. x / 2 ^ (64 - g.row.W) < 2 ^ g.row.W) (sym c.next_state.ensures) (draw-lt c.args.state.now g.row.W c.requires.most))
