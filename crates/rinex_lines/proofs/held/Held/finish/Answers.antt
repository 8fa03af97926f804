use Rattle.rinex_lines.proofs.Steps.{finish_line, finish_none}
use Rattle.rinex_lines.proofs.held.Held.finish.Goals as goal

pub returns-then-not-is_begun-clause-left : goal.returns-then-not-is_begun-clause-left
returns-then-not-is_begun-clause-left c =
    let e = c.close.ensures in
    finish_none c.args.self.now c.close.new.self c.requires.waiting c.requires.piece c.requires.open
    (c.is_begun.ensures.none c.if-not-is_begun.true) e.waiting e.begun e.piece e.ended

pub returns-clause-left : goal.returns-clause-left
returns-clause-left c =
    let e = c.close-2.ensures in
    finish_line c.args.self.now c.end_last.new.self c.close-2.new.self c.requires.waiting c.requires.piece c.requires.open c.is_open.ensures
    (c.is_begun.ensures.some c.if-not-is_begun.false) c.end_last.ensures.waiting e.waiting e.begun e.piece e.ended
