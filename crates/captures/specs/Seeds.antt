-- What the runs over a generated capture write, report and count.
use Rattle.std.specs.Prelude.{ℕ, ◌^◌, Bool, true, false, List, [], ◌++◌, length, codes, Some, None}
use Rattle.nav_io.specs.Lines.{lines_by}
use Rattle.one_run.specs.Runs.{Meaning, no_least}
use Rattle.sent_captures.specs.Capture.{lines_of}
use Rattle.sent_captures.specs.Text.{capture_text, text_of_lines}
use Rattle.capture_log.specs.Log.{log_of}
use Rattle.captures.specs.Reports.{report_in}
use Rattle.captures.specs.Captures.{Capture, counts_of, counts_text}
use Rattle.captures.specs.declared.seed_target.SeedTo.{SeedTo}
use Rattle.captures.specs.declared.seed_target.SeedTo.TheVariants as seeds
use Rattle.captures.specs.declared.seed_target.SeedCounts.{SeedCounts}
use Rattle.captures.specs.declared.seed_target.SeedCounts.TheVariants.{Written, Counted}

-- the generated capture of n satellites of each system in the week r: its head names no week, and its window is 7,200 s
abbrev pub generated : ℕ → ℕ → ℕ → Capture
generated seed n r = record { window = 7200; week = r; lines = lines_by false (text_of_lines seed n r (lines_of n)) }

-- what is written: the capture, or its counts
abbrev pub seed_output : SeedTo → ℕ → ℕ → ℕ → List ℕ
seed_output seeds.Capture seed n r = capture_text seed n r
seed_output seeds.Count seed n r = counts_text (counts_of (generated seed n r))

-- what is reported: nothing of the capture itself; with its counts a line for each refusal, and the counts
abbrev pub seed_report : SeedTo → ℕ → ℕ → ℕ → List ℕ
seed_report seeds.Capture seed n r = []
seed_report seeds.Count seed n r =
    report_in (codes "line") (log_of 7200 (generated seed n r).lines) ++ counts_text (counts_of (generated seed n r))

-- what is reported before the counts
abbrev pub seed_rejections : SeedTo → ℕ → ℕ → ℕ → List ℕ
seed_rejections seeds.Capture seed n r = []
seed_rejections seeds.Count seed n r = report_in (codes "line") (log_of 7200 (generated seed n r).lines)

-- what is counted: the bytes that were written, or what a run over the capture counts
abbrev pub seed_counts : SeedTo → ℕ → ℕ → ℕ → SeedCounts
seed_counts seeds.Capture seed n r = Written (length (capture_text seed n r))
seed_counts seeds.Count seed n r = Counted (counts_of (generated seed n r))

-- whether the capture is counted; only then is anything reported
abbrev pub is_counted : SeedTo → Bool
is_counted seeds.Capture = false
is_counted seeds.Count = true

-- the meaning of a run from a seed: it reads no input
abbrev pub seed_meaning : SeedTo → ℕ → ℕ → ℕ → Meaning SeedCounts
seed_meaning to seed n r = record {
  reads = false;
  reports = is_counted to;
  memory = true;
  limit = 2 ^ 32;
  counts = λ bytes. Some (seed_counts to seed n r);
  whole = record { output = λ bytes. seed_output to seed n r; report = λ bytes. seed_report to seed n r };
  rejections = λ bytes. seed_rejections to seed n r;
  least = record { output = no_least; report = no_least };
  flushed = None;
}
