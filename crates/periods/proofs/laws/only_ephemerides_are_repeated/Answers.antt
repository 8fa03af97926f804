use Rattle.std.proofs.Common.{Contains}
use Rattle.periods.specs.Verdicts.{Repeats, closed_place}
use Rattle.periods.proofs.VerdictLemmas.{again_repeats}
use Rattle.periods.proofs.laws.only_ephemerides_are_repeated.Goals as goal

pub returns : goal.returns
returns c = λ r w parts closed h e.
    (again_repeats (Repeats r w (Contains parts) (closed_place closed)) h.verdict.finding closed.verdict h.verdict.judged e).1.ephemeris
