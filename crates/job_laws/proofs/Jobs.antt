-- What the job of some words writes of a capture.
use Rattle.std.proofs.Common.{◌≡◌, ℕ, List, ap, ◌∙◌}
use Rattle.std.specs.Prelude.{Option, IfSome}
use Rattle.nav_eph.specs.Weeks.{IsReference}
use Rattle.rinex_write.specs.Texts.{IsHeader}
use Rattle.rinex_write.specs.declared.words.HeaderWords.{HeaderWords}
use Rattle.captures.specs.Captures.{output_of, target_of}
use Rattle.captures.specs.declared.target.CaptureTo.{CaptureTo}
use Rattle.captures.specs.declared.target.CaptureTo.TheVariants.{Rinex, Rinex3}
use Rattle.bridge_engine.specs.Job.{IsJob}
use Rattle.bridge_engine.specs.Meanings.{meaning_of}
use Rattle.bridge_engine.specs.declared.job.Job.{Job}
use Rattle.bridge_engine.specs.declared.job.Job.TheVariants.{Capture}
use Rattle.job_laws.specs.Written.{ConvertCapture, IsWritten}
use Rattle.job_laws.proofs.Headers.{header_read, week_read}

-- the week that the words name
pub words_week : (words : List (List ℕ)) (to : CaptureTo) (week : Option ℕ) → ConvertCapture words to week
    → IfSome week IsReference
words_week words to week is = week_read is.given.week week is.asks.values.week

-- the header that they give
pub words_header : (words : List (List ℕ)) (header : HeaderWords) (week : Option ℕ) → ConvertCapture words (Rinex header) week
    → IsHeader header
words_header words header week is = header_read is.given.date is.given.leap header is.asks.values.date is.asks.values.leap

pub words_header3 : (words : List (List ℕ)) (header : HeaderWords) (week : Option ℕ) → ConvertCapture words (Rinex3 header) week
    → IsHeader header
words_header3 words header week is = header_read is.given.date is.given.leap header is.asks.values.date is.asks.values.leap

-- what they write
module _ (one : (words : List (List ℕ)) (job other : Job) → IsJob words job → IsJob words other → job ≡ other) where
  pub words_write : (words : List (List ℕ)) (to : CaptureTo) (week : Option ℕ) (bytes text : List ℕ)
      → ConvertCapture words to week
      → IsWritten words bytes text → text ≡ output_of (target_of to) week bytes
  words_write words to week bytes text is written =
      written.2
      ∙ ap (λ (j : Job). (meaning_of j).whole.output bytes)
      (one words written.0 (Capture (record { week = week; to = to })) written.1 is)
