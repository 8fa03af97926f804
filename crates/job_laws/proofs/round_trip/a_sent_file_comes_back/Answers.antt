use Rattle.job_laws.proofs.RoundTrips.{Laws, as_received, as_repeated, back_in_order, ephemerides_back, sent_is_capture}
use Rattle.job_laws.proofs.round_trip.a_sent_file_comes_back.Goals as goal

pub returns : goal.returns
returns c =
    let laws : Laws = record {
      one = c.words_give_one_job.ensures;
      whole = c.listed_items_are_whole.ensures.list;
      whole3 = c.listed_items_are_whole.ensures.list3;
      head = c.what_is_sent_is_received.ensures.head;
      window = c.what_is_sent_is_received.ensures.window;
      lost = c.what_is_sent_comes_back.ensures.lost;
      reordered = c.what_is_sent_comes_back.ensures.reordered;
      repeated = c.what_is_sent_comes_back.ensures.repeated;
      repeats = c.what_is_sent_is_received.ensures.repeats;
      in_order = c.what_is_sent_comes_back.ensures.in_order;
    } in
    record {
      sent = λ words r file text items sends written. sent_is_capture laws words r file text items sends written;
      received = λ r to items sent received text runs of how. as_received laws r to items sent received text runs of how;
      repeated = λ r to items sent received text runs of repeats heard. as_repeated laws r to items sent received text runs repeats heard of;
      ephemerides = λ r to items sent received text runs of repeats heard. ephemerides_back laws r to items sent received text runs repeats heard of;
      in_order = λ r to items sent received text runs of repeats heard never. back_in_order laws r to items sent received text runs repeats heard of never;
    }
