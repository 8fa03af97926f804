use Rattle.job_laws.proofs.RinexFields.{Seen}
use Rattle.job_laws.proofs.RinexRecords3.{judged3-says, judged3-reads, one_record3}
use Rattle.job_laws.proofs.records.records3_give_their_items.Goals as goal

pub returns : goal.returns
returns c =
    let laws : Seen = record { numbers = c.texts_are_seen.ensures.as_numbers; blanks = c.texts_are_seen.ensures.as_blanks } in
    record {
      read = λ lines item. (judged3-says laws lines item, judged3-reads laws lines item);
      one = λ lines item other. one_record3 laws lines item other;
    }
