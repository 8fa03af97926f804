use Rattle.periods.specs.Verdicts.{closed_place}
use Rattle.slot_assembly.specs.Standing.{Carries, giving, reaching}
use Rattle.slot_assembly.proofs.Surface.{stood_giving, stood_reaching}
use Rattle.orbit_tests.proofs.runs.ask.Goals as goal

pub asking-preserved : goal.asking-preserved
asking-preserved g c =
    let now = g.T.Assembly.stands_for c.asking.assembly in
    let new = g.T.Assembly.stands_for c.next_closed.new.self in
    let carries : Carries now new (giving c.args.watermark (closed_place c.in-Some.closed)) = rw c.in-Some.is at c.in_ok-closed.ensures.given in
    stood_giving now new c.args.watermark (closed_place c.in-Some.closed) c.asking.invariant carries

pub returns : goal.returns
returns g c =
    let now = g.T.Assembly.stands_for c.asking.assembly in
    let new = g.T.Assembly.stands_for c.next_closed.new.self in
    let carries : Carries now new (reaching c.args.watermark) = rw c.in_default.is at c.in_ok-closed.ensures.reached in
    stood_reaching now new c.args.watermark c.asking.invariant carries
