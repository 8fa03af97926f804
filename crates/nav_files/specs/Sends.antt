-- What is written and reported when the ephemerides of a navigation file are transmitted: record by record, each with the slot
-- that its ephemeris would get.
use Rattle.std.specs.Prelude.{ℕ, ◌+◌, Bool, true, false, List, [], ◌∷◌, ◌++◌, length, codes, map, sum, Option, None, Some}
use Rattle.std.specs.List.{flat_map}
use Rattle.nav_eph.specs.declared.items.NavItem.{NavItem}
use Rattle.rinex_read.specs.Files.{items_of}
use Rattle.rinex_read.specs.Forms.{Form}
use Rattle.rinex_read.specs.declared.judged.ItemRead.{ItemRead}
use Rattle.rinex_read.specs.declared.judged.ItemRead.TheVariants as reads
use Rattle.one_run.specs.Reports.{report_line}
use Rattle.nav_files.specs.declared.counts.RinexCounts.{RinexCounts}
use Rattle.one_run.specs.Runs.{Meaning}
use Rattle.nav_files.specs.Files.{file_counts_text, file_meaning, reason_text}
use Rattle.sent_captures.specs.declared.fault.SendFault.{SendFault}
use Rattle.sent_captures.specs.declared.fault.SendFault.TheVariants as faults
use Rattle.sent_captures.specs.Slots.{slot_text}
use Rattle.sent_captures.specs.Sendable.{is_ephemeris, send_fault, sent_head, sent_text}
use Rattle.nav_files.specs.declared.outcome.SendOutcome.{SendOutcome}
use Rattle.nav_files.specs.declared.outcome.SendOutcome.TheVariants.{Sent, NotSent, Withheld, Refused, PassedOver}

-- the report's word for why an ephemeris may not be transmitted
abbrev pub fault_text : SendFault → List ℕ
fault_text faults.Issue = codes "issue"
fault_text faults.Week = codes "week"
fault_text faults.Room = codes "room"

-- the outcome of an item, by whether it is an ephemeris and by its error
abbrev pub outcome_item : ℕ → ℕ → NavItem → Bool → Option SendFault → SendOutcome
outcome_item line slot item false fault = NotSent
outcome_item line slot item true None = Sent slot item
outcome_item line slot item true (Some fault) = Withheld line fault

-- the outcome of a record, for the reference week r and this next slot
abbrev pub told : ℕ → ℕ → ItemRead → SendOutcome
told r slot (reads.Item line item) = outcome_item line slot item (is_ephemeris item) (send_fault r item slot)
told r slot (reads.Refused line reason) = Refused line reason
told r slot (reads.PassedOver line) = PassedOver

-- the next slot after an outcome
abbrev pub slot_behind : ℕ → SendOutcome → ℕ
slot_behind slot (Sent at item) = slot + 1
slot_behind slot NotSent = slot
slot_behind slot (Withheld line fault) = slot
slot_behind slot (Refused line reason) = slot
slot_behind slot PassedOver = slot

-- the outcomes of records, in order
abbrev pub send_outcomes : ℕ → ℕ → List ItemRead → List SendOutcome
send_outcomes r slot [] = []
send_outcomes r slot (x ∷ xs) = told r slot x ∷ send_outcomes r (slot_behind slot (told r slot x)) xs

-- the next slot after these records
abbrev pub slots_behind : ℕ → ℕ → List ItemRead → ℕ
slots_behind r slot [] = slot
slots_behind r slot (x ∷ xs) = slots_behind r (slot_behind slot (told r slot x)) xs

-- the lines of an ephemeris that is transmitted
abbrev pub outcome_text : SendOutcome → List ℕ
outcome_text (Sent slot item) = slot_text slot item
outcome_text NotSent = []
outcome_text (Withheld line fault) = []
outcome_text (Refused line reason) = []
outcome_text PassedOver = []

-- the report line of a record: the number of its first line, and why it is rejected or may not be
-- transmitted
abbrev pub outcome_report : SendOutcome → List ℕ
outcome_report (Sent slot item) = []
outcome_report NotSent = []
outcome_report (Withheld line fault) = report_line (codes "line") line (fault_text fault)
outcome_report (Refused line reason) = report_line (codes "line") line (reason_text reason)
outcome_report PassedOver = []

-- 1 for a record that is rejected, or an ephemeris that may not be transmitted, else 0
abbrev pub is_rejection : SendOutcome → ℕ
is_rejection (Sent slot item) = 0
is_rejection NotSent = 0
is_rejection (Withheld line fault) = 1
is_rejection (Refused line reason) = 1
is_rejection PassedOver = 0

-- 1 for a record that is skipped, else 0
abbrev pub is_passed : SendOutcome → ℕ
is_passed (Sent slot item) = 0
is_passed NotSent = 0
is_passed (Withheld line fault) = 0
is_passed (Refused line reason) = 0
is_passed PassedOver = 1

-- 1 for an item, transmitted or not, else 0
abbrev pub is_item : SendOutcome → ℕ
is_item (Sent slot item) = 1
is_item NotSent = 1
is_item (Withheld line fault) = 0
is_item (Refused line reason) = 0
is_item PassedOver = 0

-- the counts of outcomes
abbrev pub counts_of_outcomes : List SendOutcome → RinexCounts
counts_of_outcomes all = record {
  records = length all;
  refused = sum (map is_rejection all);
  passed = sum (map is_passed all);
  items = sum (map is_item all);
  times = None;
}

-- what is written of the records of a file: the capture that transmits its items
abbrev pub sends_text : ℕ → List ItemRead → List ℕ
sends_text r reads = sent_text r (items_of reads)

-- the same text, record by record
abbrev pub sends_text_so_far : ℕ → List ItemRead → List ℕ
sends_text_so_far r reads = sent_head ++ flat_map outcome_text (send_outcomes r 0 reads)

-- what is reported of them before the end: a line for each record that is rejected and for each
-- ephemeris that may not be transmitted, in the order of the records
abbrev pub withheld_text : ℕ → List ItemRead → List ℕ
withheld_text r reads = flat_map outcome_report (send_outcomes r 0 reads)

-- what is reported of them at the end: those lines, and the counts
abbrev pub sends_report : ℕ → List ItemRead → List ℕ
sends_report r reads = withheld_text r reads ++ file_counts_text (counts_of_outcomes (send_outcomes r 0 reads))

-- the meaning of a run that transmits a file of a form
abbrev pub send_meaning : Form ItemRead → ℕ → Meaning RinexCounts
send_meaning f r = file_meaning f false (sends_text_so_far r) (withheld_text r) (sends_text r) (sends_report r) (λ reads. counts_of_outcomes (send_outcomes r 0 reads))
