-- The report of a capture: a line for each line of the input that is rejected, and the counts.
use Rattle.std.specs.Prelude.{ℕ, List, [], ◌++◌, codes, decimal, map, sum}
use Rattle.std.specs.List.{flat_map}
use Rattle.one_run.specs.Reports.{report_line}
use Rattle.capture_log.specs.Log.{Noted}
use Rattle.capture_log.specs.declared.event.EventFault.{EventFault}
use Rattle.capture_log.specs.declared.event.EventFault.TheVariants as refusals
use Rattle.capture_log.specs.declared.event.Event.{Event}
use Rattle.capture_log.specs.declared.event.Event.TheVariants.{Received, Malformed, Late, Refused, Unused}

-- the report's words for a refusal
abbrev pub refusal_text : EventFault → List ℕ
refusal_text refusals.Frame = codes "frame"
refusal_text refusals.Preamble = codes "preamble"
refusal_text (refusals.Parity word) = codes "parity " ++ decimal word
refusal_text refusals.Tow = codes "tow"
refusal_text refusals.Time = codes "time"
refusal_text refusals.Satellite = codes "satellite"
refusal_text refusals.Sisa = codes "sisa"
refusal_text refusals.Short = codes "short"

-- the report line of an event; empty for a part and for what is not used
abbrev pub report_of : List ℕ → ℕ → Event → List ℕ
report_of subject number (Received part) = []
report_of subject number Malformed = report_line subject number (codes "malformed")
report_of subject number Late = report_line subject number (codes "late")
report_of subject number (Refused refusal) = report_line subject number (refusal_text refusal)
report_of subject number Unused = []

-- the report lines of a log
abbrev pub report_in : List ℕ → List Noted → List ℕ
report_in subject log = flat_map (λ n. report_of subject n.line n.event) log

-- 1 for a malformed line, else 0
abbrev pub is_malformed : Event → ℕ
is_malformed Malformed = 1
is_malformed _ = 0

-- 1 for a late line, else 0
abbrev pub is_late : Event → ℕ
is_late Late = 1
is_late _ = 0

-- 1 for a refusal, else 0
abbrev pub is_refused_event : Event → ℕ
is_refused_event (Refused refusal) = 1
is_refused_event _ = 0

-- 1 for an event that is not used, else 0
abbrev pub is_unused : Event → ℕ
is_unused Unused = 1
is_unused _ = 0

-- how many events of a log are of a kind
abbrev pub count_in : (Event → ℕ) → List Noted → ℕ
count_in kind log = sum (map (λ n. kind n.event) log)
