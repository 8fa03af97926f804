use Rattle.std.proofs.Common.{Contains}
use Rattle.periods.specs.Verdicts.{closed_place}
use Rattle.periods.proofs.Surface.{IsClosed-one, all_values, period_key, same_place}
use Rattle.slot_assembly.proofs.laws.one_next.Goals as goal

pub returns : goal.returns
returns c = λ r w watermark parts last a b all h k.
    let values = all_values parts all in
    let u = period_key w (Contains parts) (closed_place a) values h.due.period in
    let v = period_key w (Contains parts) (closed_place b) values k.due.period in
    let e = same_place (closed_place a) (closed_place b) u v (k.least (closed_place a) h.due) (h.least (closed_place b) k.due) in
    IsClosed-one r w (Contains parts) a b values e h.verdict k.verdict
