use Rattle.std.proofs.Common.{◌∙◌, List, ℕ, ap, length, subst, sym}
use Rattle.nav_io.specs.Lines.{ends}
use Rattle.nav_io.specs.Mirrors.{EndsAt}
use Rattle.rinex_lines.proofs.Steps.{next_ended, next_open}
use Rattle.rinex_lines.proofs.held.Held.next_line.Goals as goal

pub returns-in-Some-clause-same : goal.returns-in-Some-clause-same
returns-in-Some-clause-same c =
    let first = c.go_on.ensures in
    let second = c.pass.ensures in
    let third = c.end_line.ensures in
    next_ended c.args.self.now c.go_on.new.self c.pass.new.self c.end_line.new.self c.in-Some.place
    (c.waits.ensures.none c.if-waits.false) c.is_open.ensures
    (subst (λ (l : List ℕ). EndsAt l c.in-Some.place) c.behind.ensures c.in-Some.ensures.some)
    first.begun first.piece first.place first.ended second.begun second.piece second.place second.ended
    third.waiting third.place third.begun third.piece third.ended

pub returns-in-None-clause-same : goal.returns-in-None-clause-same
returns-in-None-clause-same c =
    let e = c.go_on-in-None.ensures in
    next_open c.args.self.now c.go_on-in-None.new.self (length c.behind-in-None.result.now)
    (c.waits.ensures.none c.if-waits.false) c.is_open.ensures (ap ends (sym c.behind.ensures) ∙ c.in-None.ensures.none)
    (ap length c.behind-in-None.ensures) e.begun e.piece e.place e.ended e.waiting
