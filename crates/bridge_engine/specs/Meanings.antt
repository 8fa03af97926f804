-- The output and report of each conversion, as functions of its input bytes.
use Rattle.std.specs.Prelude.{ℕ, List, Option}
use Rattle.rinex_read.specs.Forms.{rinex4}
use Rattle.rinex_read.specs.Form3.{rinex3}
use Rattle.one_run.specs.Ends.{giving, uncounted}
use Rattle.one_run.specs.Runs.{IsAheadOf, Meaning}
use Rattle.nav_files.specs.Files.{convert_meaning}
use Rattle.streams.specs.Streams.{stream_meaning}
use Rattle.nav_files.specs.Targets.{target_of_file}
use Rattle.nav_files.specs.Sends.{send_meaning}
use Rattle.nav_files.specs.Archives.{cover_meaning, merge_meaning}
use Rattle.captures.specs.Captures.{capture_meaning, target_of}
use Rattle.captures.specs.Converts.{CaptureAhead}
use Rattle.streams.specs.FrameLines.{frames_meaning}
use Rattle.captures.specs.Seeds.{seed_meaning}
use Rattle.bridge_engine.specs.declared.done.Done.{Done}
use Rattle.bridge_engine.specs.declared.done.Done.TheVariants as dones
use Rattle.bridge_engine.specs.declared.job.Job.{Job}
use Rattle.bridge_engine.specs.declared.job.Job.TheVariants.{StreamToFrames, Capture, Stream, Rinex, Rinex3, SendRinex, SendRinex3, Merge, Cover, Seed}

-- the meaning of a conversion: what it makes of the bytes of its input, and what it counts in them
abbrev pub done_of : Job → Meaning Done
done_of StreamToFrames = giving dones.Frames frames_meaning
done_of (Capture job) = giving dones.Capture (capture_meaning job.to job.week)
done_of (Stream job) = giving dones.Stream (stream_meaning job.to job.week)
done_of (Rinex to) = giving dones.File (convert_meaning rinex4 (target_of_file to))
done_of (Rinex3 to) = giving dones.File (convert_meaning rinex3 (target_of_file to))
done_of (SendRinex week) = giving dones.Sent (send_meaning rinex4 week)
done_of (SendRinex3 week) = giving dones.Sent (send_meaning rinex3 week)
done_of (Merge words) = giving dones.Merged (merge_meaning words)
done_of Cover = giving dones.Covered cover_meaning
done_of (Seed job) = giving dones.Generated (seed_meaning job.to job.seed job.sats job.week)

-- the same, without what is counted
abbrev pub meaning_of : Job → Meaning (Unit {0})
meaning_of job = uncounted (done_of job)

-- after an error, what was written and reported is a prefix of what the complete input gives, unread
-- bytes included; and counts of a capture are written only after it was read to its end
abbrev pub IsAhead : Job → Option (List ℕ) → Option (List ℕ) → Option (List ℕ) → Option (List ℕ) → Option (List ℕ)
    → Option (List ℕ) → Type 0
IsAhead (Capture job) left left_new written written_new reported reported_new =
    CaptureAhead (target_of job.to) job.week left left_new written written_new reported reported_new
IsAhead job left left_new written written_new reported reported_new =
    IsAheadOf (meaning_of job).whole left written written_new reported reported_new
