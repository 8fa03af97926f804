use Rattle.capture_log.proofs.Surface.{HalfLaws}
use Rattle.job_laws.proofs.Counts.{all_counted, some_pairs}
use Rattle.job_laws.proofs.counted.events_are_counted.Goals as goal

pub returns : goal.returns
returns c =
    let laws : HalfLaws = record {
      among = c.halves_are_decided.ensures.among;
      words = c.words_are_the_function.ensures;
      late = c.late_is_behind_the_greatest_stamp.ensures;
    } in
    record {
      some = λ window items. let pairs = some_pairs laws window items in (pairs.all, pairs.are);
      counts = all_counted laws;
    }
