-- What a job accepts is told as its form.
use Rattle.std.proofs.Common.{◌≡◌, ◌⊎◌, ◌∷◌, ℕ, Bool, true, false, cond, List, [], Option, None, Some, Result, Err, refl}
use Rattle.std.specs.Prelude.{IsSome, option_map}
use Rattle.nav_io.specs.Lines.{Line, lines_by}
use Rattle.capture_lines.specs.Heads.{head_of}
use Rattle.capture_lines.specs.declared.head.CaptureHead.{CaptureHead}
use Rattle.rinex_read.specs.Files.{Body, file_reads, header_of, header_passed, is_navigation, reads_behind}
use Rattle.rinex_read.specs.Forms.{Form, is_version, rinex4}
use Rattle.rinex_read.specs.Form3.{rinex3}
use Rattle.rinex_read.specs.Lines.{lines_of}
use Rattle.rinex_read.specs.declared.judged.HeaderFault.{HeaderFault}
use Rattle.rinex_read.specs.declared.judged.HeaderFault.TheVariants.{NotRinexNav, Version}
use Rattle.rinex_read.specs.declared.judged.ItemRead.{ItemRead}
use Rattle.nav_files.specs.Files.{counted_in}
use Rattle.captures.specs.Captures.{accepted_head, accepted_line, capture_in, capture_of, capture_with, counts_in}
use Rattle.bridge_engine.specs.Meanings.{meaning_of}
use Rattle.bridge_engine.specs.declared.done.Done.{Done}
use Rattle.bridge_engine.specs.declared.done.Done.TheVariants as dones
use Rattle.bridge_engine.specs.declared.job.Job.{Job}
use Rattle.bridge_engine.specs.declared.job.Job.TheVariants as jobs
use Rattle.whole_file.specs.Kinds.{kind_of}
use Rattle.whole_file.specs.declared.kinds.Kind.{Kind}
use Rattle.whole_file.specs.declared.kinds.Kind.TheVariants.{Capture1, Capture2, Rinex3, Rinex4}
use Rattle.job_laws.specs.Told.{IsReportedFor}
use Rattle.job_laws.proofs.FirstLines.{first_line, first_text, four_told, head_told, three_told}

never : false ≡ true → ⊥
never e = cc

-- ---- a capture

has_head : (week : Option ℕ) (long : Bool) (head : Option CaptureHead) (lines : List Line)
    → IsSome (counts_in (capture_with lines (cond long None (accepted_head week head)))) → IsSome head
has_head week true head lines some = absurd (never some)
has_head week false None lines some = absurd (never some)
has_head week false (Some head) lines some = refl

capture_head : (week : Option ℕ) (line : Line) (lines : List Line) → IsSome (counts_in (capture_with lines (accepted_line week line)))
    → IsSome (head_of line.text)
unfolding accepted_line
capture_head week line lines some = has_head week line.long (head_of line.text) lines some

capture_told : (week : Option ℕ) (bytes : List ℕ) → IsSome (counts_in (capture_of week bytes))
    → (kind_of bytes ≡ Capture1) ⊎ (kind_of bytes ≡ Capture2)
capture_told week bytes some = go (lines_by false bytes) refl some where
  go : (lines : List Line) → lines_by false bytes ≡ lines → IsSome (counts_in (capture_in week lines))
      → (kind_of bytes ≡ Capture1) ⊎ (kind_of bytes ≡ Capture2)
  go [] is some = absurd (never some)
  go (line ∷ lines) is some = head_told line.text bytes (first_text bytes line lines is) (capture_head week line lines some)

-- ---- a navigation file

header_by : {C R : Type 0} (f : Form R) (count : List R → C) (body : Result Body HeaderFault) (navigation version : Bool)
    → IsSome (counted_in count (reads_behind f (cond navigation (cond version body (Err Version)) (Err NotRinexNav))))
    → (navigation ≡ true) × (version ≡ true)
header_by f count body true true some = (refl, refl)
header_by f count body true false some = absurd (never some)
header_by f count body false version some = absurd (never some)

file_told : {C R : Type 0} (f : Form R) (count : List R → C) (kind : Kind) (bytes : List ℕ)
    → ((line : List ℕ) (lines : List (List ℕ)) → lines_of bytes ≡ line ∷ lines → is_navigation line ≡ true → is_version f line ≡ true → kind_of bytes ≡ kind)
    → IsSome (counted_in count (file_reads f bytes)) → kind_of bytes ≡ kind
file_told f count kind bytes told some = go (lines_of bytes) refl some where
  go : (lines : List (List ℕ)) → lines_of bytes ≡ lines → IsSome (counted_in count (reads_behind f (header_of f 0 lines))) → kind_of bytes ≡ kind
  go [] is some = absurd (never some)
  go (line ∷ lines) is some =
      let both = header_by f count (header_passed 1 lines) (is_navigation line) (is_version f line) some in
      told line lines is both.0 both.1

told_4 : {C : Type 0} (count : List ItemRead → C) (bytes : List ℕ) → IsSome (counted_in count (file_reads rinex4 bytes)) → kind_of bytes ≡ Rinex4
told_4 count bytes some =
    file_told rinex4 count Rinex4 bytes (λ line lines is navigation version. four_told line bytes (first_line bytes line lines is) navigation version) some

told_3 : {C : Type 0} (count : List ItemRead → C) (bytes : List ℕ) → IsSome (counted_in count (file_reads rinex3 bytes)) → kind_of bytes ≡ Rinex3
told_3 count bytes some =
    file_told rinex3 count Rinex3 bytes (λ line lines is navigation version. three_told line bytes (first_line bytes line lines is) navigation version) some

-- whether there are counts, as a meaning without counts says it
abbrev forgotten : {C : Type 0} → (C → Done) → Option C → Option (Unit {0})
forgotten f counts = option_map (λ (done : Done). tt) (option_map f counts)

-- what is counted of a job is what its run counts
counted : {C : Type 0} (f : C → Done) (counts : Option C) → IsSome (forgotten f counts) → IsSome counts
counted f None some = absurd (never some)
counted f (Some counts) some = refl

pub job_told : (job : Job) (bytes : List ℕ) → IsSome ((meaning_of job).counts bytes) → IsReportedFor job (kind_of bytes)
job_told jobs.StreamToFrames bytes some = tt
job_told (jobs.Capture job) bytes some = capture_told _ bytes (counted dones.Capture _ some)
job_told (jobs.Stream job) bytes some = tt
job_told (jobs.Rinex to) bytes some = told_4 _ bytes (counted dones.File _ some)
job_told (jobs.Rinex3 to) bytes some = told_3 _ bytes (counted dones.File _ some)
job_told (jobs.SendRinex week) bytes some = told_4 _ bytes (counted dones.Sent _ some)
job_told (jobs.SendRinex3 week) bytes some = told_3 _ bytes (counted dones.Sent _ some)
job_told (jobs.Merge header) bytes some = told_4 _ bytes (counted dones.Merged _ some)
job_told jobs.Cover bytes some = told_4 _ bytes (counted dones.Covered _ some)
job_told (jobs.Seed job) bytes some = tt
