-- What is written and reported of a RINEX navigation file: its items in the order of its records, repeats included.
use Rattle.std.specs.Prelude.{ℕ, ◌^◌, Bool, true, false, List, [], ◌∷◌, ◌++◌, length, codes, map, sum, Option, None, Some, Result, Ok, Err}
use Rattle.std.specs.List.{flat_map}
use Rattle.nav_eph.specs.declared.items.NavItem.{NavItem}
use Rattle.rinex_read.specs.Files.{but_last, early_reads, file_reads, items_of, whole_reads}
use Rattle.rinex_read.specs.Forms.{Form}
use Rattle.rinex_read.specs.declared.judged.HeaderFault.{HeaderFault}
use Rattle.rinex_read.specs.declared.judged.ItemRead.{ItemRead}
use Rattle.rinex_read.specs.declared.judged.ItemRead.TheVariants.{Item, Refused, PassedOver}
use Rattle.rinex_read.specs.declared.reason.RecordFault.{RecordFault}
use Rattle.rinex_read.specs.declared.reason.RecordFault.TheVariants.{BadSat, Short, NotANumber, Blank, OutOfRange, NoSuchDate, Week, Fit, EpochStep, EpochFar}
use Rattle.streams.specs.Targets.{prefix_text, item_text}
use Rattle.streams.specs.Times.{times_of}
use Rattle.streams.specs.declared.target.Target.{Target}
use Rattle.one_run.specs.Reports.{report_line, count_line}
use Rattle.one_run.specs.Runs.{Meaning}
use Rattle.nav_files.specs.declared.counts.RinexCounts.{RinexCounts}

-- the report's word for why a record is rejected
abbrev pub reason_text : RecordFault → List ℕ
reason_text BadSat = codes "satellite"
reason_text Short = codes "short"
reason_text NotANumber = codes "number"
reason_text Blank = codes "blank"
reason_text OutOfRange = codes "range"
reason_text NoSuchDate = codes "date"
reason_text Week = codes "week"
reason_text Fit = codes "fit"
reason_text EpochStep = codes "step"
reason_text EpochFar = codes "far"

-- what is written of a record: the text of its item
abbrev pub read_text : (ℕ → NavItem → List ℕ) → ItemRead → List ℕ
read_text text (Item line item) = text line item
read_text text (Refused line reason) = []
read_text text (PassedOver line) = []

-- the report line of a rejected record: the number of its first line, and the reason; empty for
-- other records
abbrev pub read_report : ItemRead → List ℕ
read_report (Item line item) = []
read_report (Refused line reason) = report_line (codes "line") line (reason_text reason)
read_report (PassedOver line) = []

-- 1 for a rejected record, else 0
abbrev pub is_refused_read : ItemRead → ℕ
is_refused_read (Item line item) = 0
is_refused_read (Refused line reason) = 1
is_refused_read (PassedOver line) = 0

-- 1 for a record that is skipped, else 0
abbrev pub is_passed : ItemRead → ℕ
is_passed (Item line item) = 0
is_passed (Refused line reason) = 0
is_passed (PassedOver line) = 1

-- 1 for an item, else 0
abbrev pub is_item : ItemRead → ℕ
is_item (Item line item) = 1
is_item (Refused line reason) = 0
is_item (PassedOver line) = 0

-- the counts of records
abbrev pub counts_of_reads : List ItemRead → RinexCounts
counts_of_reads reads = record {
  records = length reads;
  refused = sum (map is_refused_read reads);
  passed = sum (map is_passed reads);
  items = sum (map is_item reads);
  times = times_of (items_of reads);
}

-- the text of these counts: a line for each, in the order of the fields
unfoldable pub file_counts_text : RinexCounts → List ℕ
file_counts_text c =
    ((count_line (codes "records") c.records ++ count_line (codes "refused") c.refused)
    ++ count_line (codes "passed") c.passed) ++ count_line (codes "items") c.items

-- a function of the records, applied to a file: nothing if its header is rejected
abbrev pub counted_in : {C R : Type 0} → (List R → C) → Result (List R) HeaderFault → Option C
counted_in count (Ok reads) = Some (count reads)
counted_in count (Err fault) = None

-- a text of the records, applied to a file: empty if its header is rejected
abbrev pub text_in : {R : Type 0} → (List R → List ℕ) → Result (List R) HeaderFault → List ℕ
text_in text (Ok reads) = text reads
text_in text (Err fault) = []

-- what is written before the last of these records; nothing if there is none
abbrev pub text_before : {R : Type 0} → (List R → List ℕ) → List R → List ℕ
text_before text [] = []
text_before text (r ∷ rs) = text (but_last (r ∷ rs))

-- A run over a file of a format: whether it takes memory, what it has written and reported after
-- some records, what it writes and reports of all records, and what it counts. After a failed read
-- it has processed the records that are complete in the bytes; after any error it has written at
-- least what is written before the last of the records complete in all bytes but the last 4,096,
-- and has reported what is reported before it.
abbrev pub file_meaning : {C R : Type 0} → Form R → Bool → (List R → List ℕ) → (List R → List ℕ) → (List R → List ℕ) → (List R → List ℕ)
    → (List R → C) → Meaning C
file_meaning f memory text told output report count = record {
  reads = true;
  reports = true;
  memory = memory;
  limit = 2 ^ 32;
  counts = λ bytes. counted_in count (file_reads f bytes);
  whole = record { output = λ bytes. text_in output (file_reads f bytes); report = λ bytes. text_in report (file_reads f bytes) };
  rejections = λ bytes. text_in told (file_reads f bytes);
  least = record { output = λ bytes. text_before text (early_reads f bytes); report = λ bytes. text_before told (early_reads f bytes) };
  flushed = Some (record { output = λ bytes. text_in text (whole_reads f bytes); report = λ bytes. text_in told (whole_reads f bytes) });
}

-- what is written of the records of a file that is converted: a leading text, and one for each item
abbrev pub convert_text : Target → List ItemRead → List ℕ
convert_text to reads = prefix_text to ++ flat_map (read_text (item_text to)) reads

-- what is reported of them before the end: a line for each record that is rejected
abbrev pub refusals_text : List ItemRead → List ℕ
refusals_text reads = flat_map read_report reads

-- what is reported of them at the end: the refusals, and the counts
abbrev pub convert_report : List ItemRead → List ℕ
convert_report reads = refusals_text reads ++ file_counts_text (counts_of_reads reads)

-- the meaning of a run that converts a file of a form
abbrev pub convert_meaning : Form ItemRead → Target → Meaning RinexCounts
convert_meaning f to = file_meaning f false (convert_text to) refusals_text (convert_text to) convert_report counts_of_reads
