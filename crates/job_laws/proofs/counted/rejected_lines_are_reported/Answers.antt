use Rattle.capture_log.specs.Events.{nothing_known}
use Rattle.capture_log.proofs.Surface.{HalfLaws}
use Rattle.job_laws.proofs.Refusals.{in_order, refused_lines}
use Rattle.job_laws.proofs.counted.rejected_lines_are_reported.Goals as goal

pub returns-clause-refused : goal.returns-clause-refused
returns-clause-refused c =
    let laws : HalfLaws = record {
      among = c.halves_are_decided.ensures.among;
      words = c.words_are_the_function.ensures;
      late = c.late_is_behind_the_greatest_stamp.ensures;
    } in
    refused_lines laws

pub returns-clause-order : goal.returns-clause-order
returns-clause-order c = λ window first items. in_order window items nothing_known first
