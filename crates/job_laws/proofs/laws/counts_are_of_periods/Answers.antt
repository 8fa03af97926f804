use Rattle.std.proofs.Common.{◌≡◌, List, ap}
use Rattle.periods.specs.PeriodLists.{items_in}
use Rattle.periods.specs.declared.closed.Closed.{Closed}
use Rattle.streams.specs.Times.{times_of}
use Rattle.captures.specs.Captures.{is_again, is_contradicted, is_nohealth, is_partial, is_whole, periods, verdicts}
use Rattle.job_laws.proofs.laws.counts_are_of_periods.Goals as goal

pub returns : goal.returns
returns c capture some are =
    let same : periods capture ≡ some =
    c.lines_yield_what_is_received.ensures.only capture.week capture.window capture.lines (periods capture) some
    (c.lines_yield_what_is_received.ensures.periods capture.week capture.window capture.lines) are in
    record {
      whole = ap (verdicts is_whole) same;
      partial = ap (verdicts is_partial) same;
      contradicted = ap (verdicts is_contradicted) same;
      nohealth = ap (verdicts is_nohealth) same;
      again = ap (verdicts is_again) same;
      times = ap (λ (cs : List Closed). times_of (items_in cs)) same;
    }
