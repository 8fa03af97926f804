use Rattle.job_laws.proofs.RinexFields.{Seen}
use Rattle.job_laws.proofs.RinexKinds.{judged-says, judged-reads, mark_begins, one_record, title_marked}
use Rattle.job_laws.proofs.records.records_give_their_items.Goals as goal

pub returns : goal.returns
returns c =
    let laws : Seen = record { numbers = c.texts_are_seen.ensures.as_numbers; blanks = c.texts_are_seen.ensures.as_blanks } in
    record {
      read = λ title lines item. (
        λ h. judged-says laws title lines item h.0 h.1,
        λ h. (mark_begins title (title_marked title lines item h), judged-reads laws title lines item h),
      );
      one = λ title lines item other. one_record laws title lines item other;
    }
