use Rattle.std.proofs.Common.{sym, subst}
use Rattle.captures.specs.declared.target.CaptureTo.TheVariants.{Rinex, Rinex3, Rtcm}
use Rattle.job_laws.specs.Converted.{IsConverted, IsConverted3, IsFramed}
use Rattle.job_laws.proofs.Jobs.{words_header, words_header3, words_week, words_write}
use Rattle.job_laws.proofs.laws.what_is_converted_comes_back.Goals as goal

pub returns : goal.returns
returns c = record {
  rinex = λ words week header bytes text capture job e written.
      subst (IsConverted capture header)
      (sym (words_write c.words_give_one_job.ensures words (Rinex header) week bytes text job written))
      (c.converted_captures_come_back.ensures.rinex week header bytes capture
      (words_week words (Rinex header) week job) (words_header words header week job) e);
  rinex3 = λ words week header bytes text capture job e written.
      subst (IsConverted3 capture header)
      (sym (words_write c.words_give_one_job.ensures words (Rinex3 header) week bytes text job written))
      (c.converted_captures_come_back.ensures.rinex3 week header bytes capture
      (words_week words (Rinex3 header) week job) (words_header3 words header week job) e);
  rtcm = λ words week bytes text capture job e written.
      subst (IsFramed capture) (sym (words_write c.words_give_one_job.ensures words Rtcm week bytes text job written))
      (c.converted_captures_come_back.ensures.rtcm week bytes capture (words_week words Rtcm week job) e);
}
