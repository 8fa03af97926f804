use Rattle.std.proofs.Common.{◌^◌, ◌+◌, ◌*◌, ◌/◌, lit<, ap, ◌∙◌, arith}
use Rattle.std.proofs.lemmas.Nat.{mod_below, pow_pos}
use Rattle.nav_bits.proofs.Halves.{split_high, split_join}
use Rattle.nav_bits.proofs.TwosComplement.{masked}
use Rattle.nav_bits.proofs.unsigned.U.split.Goals as goal

pub from_bits-high-requires : goal.from_bits-high-requires
from_bits-high-requires g c = (lit< tt, split_high c.self.inside.raw g.row.H g.row.L g.row.W c.requires.whole c.self.invariant)

pub from_bits-low-requires : goal.from_bits-low-requires
from_bits-low-requires g c = (lit< tt, rw (masked c.self.inside.raw g.row.L (omega arith)) (mod_below _ (2 ^ g.row.L) (pow_pos g.row.L)))

pub returns : goal.returns
returns g c =
    let L = g.row.L in
    ap (λ h. h * 2 ^ L + c.from_bits-low.result) c.from_bits-high.ensures
    ∙ ap (λ l. c.self.inside.raw / 2 ^ L * 2 ^ L + l) c.from_bits-low.ensures
    ∙ split_join c.self.inside.raw L (omega arith)
    ∙ c.self.view_is
