-- What the conversion that a command line asks for writes.
use Rattle.std.specs.Prelude.{◌≡◌, ℕ, List, Option}
use Rattle.captures.specs.declared.target.CaptureTo.{CaptureTo}
use Rattle.bridge_engine.specs.Job.{IsJob}
use Rattle.bridge_engine.specs.Meanings.{meaning_of}
use Rattle.bridge_engine.specs.declared.job.Job.{Job}
use Rattle.bridge_engine.specs.declared.job.Job.TheVariants.{Capture}

-- the text is the output of the conversion of the arguments for the bytes of its input, when it is
-- done
abbrev pub IsWritten : List (List ℕ) → List ℕ → List ℕ → Type 0
IsWritten words bytes text = (job : Job) × IsJob words job × (text ≡ (meaning_of job).whole.output bytes)

-- the arguments name the conversion of a capture to this format, with this week or none
abbrev pub ConvertCapture : List (List ℕ) → CaptureTo → Option ℕ → Type 0
ConvertCapture words to week = IsJob words (Capture (record { week = week; to = to }))
