use Rattle.std.proofs.Common.{arith, take}
use Rattle.rinex_lines.proofs.Steps.{given_on, keeps_on}
use Rattle.rinex_lines.proofs.source.Rinex2SourceSource.read.Goals as goal

pub returns-then-next_line-clause-bytes : goal.returns-then-next_line-clause-bytes
returns-then-next_line-clause-bytes g c =
    let e = c.give.ensures in (
      given_on c.next_line.new.self c.give.new.self c.give.result (take c.give.result c.give.new.into) _ _
          (keeps_on c.loop-self.self.held c.next_line.new.self _ _ c.loop-self.invariant.left c.next_line.ensures.same)
          e.bytes e.waiting e.begun e.piece e.place e.ended,
      λ zero room.
          let some = e.some room (c.next_line.ensures.some c.if-next_line.true) in
          absurd (omega (arith, zero, some)),
    )
