-- What is written and reported of navigation files that are merged, and of the times that they cover.
use Rattle.std.specs.Prelude.{ℕ, true, List, [], ◌∷◌, ◌++◌, length, codes, decimal}
use Rattle.std.specs.List.{flat_map}
use Rattle.nav_eph.specs.declared.items.NavItem.{NavItem}
use Rattle.nav_lists.specs.Merging.{merged_of}
use Rattle.nav_lists.specs.Covering.{covers_of}
use Rattle.nav_lists.specs.declared.range.CoverRange.{CoverRange}
use Rattle.rinex_read.specs.Files.{items_of}
use Rattle.rinex_read.specs.Forms.{rinex4}
use Rattle.rinex_read.specs.declared.judged.ItemRead.{ItemRead}
use Rattle.rinex_read.specs.declared.judged.ItemRead.TheVariants.{Item, Refused, PassedOver}
use Rattle.rinex_write.specs.Texts.{header_lines, text_of}
use Rattle.rinex_write.specs.declared.words.HeaderWords.{HeaderWords}
use Rattle.streams.specs.ItemTexts.{rinex_item, satellite_text}
use Rattle.streams.specs.Times.{times_of}
use Rattle.one_run.specs.Reports.{count_line}
use Rattle.nav_files.specs.declared.counts.RinexCounts.{RinexCounts}
use Rattle.one_run.specs.Runs.{Meaning}
use Rattle.nav_files.specs.Files.{counts_of_reads, file_counts_text, file_meaning, refusals_text}
use Rattle.nav_files.specs.declared.merge_counts.MergeCounts.{MergeCounts}

-- the item of a record of a file, if it has one
abbrev pub item_of : ItemRead → List NavItem
item_of (Item line item) = item ∷ []
item_of (Refused line reason) = []
item_of (PassedOver line) = []

-- the records of the merged list
abbrev pub merge_text : List NavItem → List ℕ
merge_text items = flat_map rinex_item (merged_of items)

-- the counts of a merge: those of the file, and how many items were written
abbrev pub merge_counts : List ItemRead → MergeCounts
merge_counts reads = let c = counts_of_reads reads in record {
  records = c.records;
  refused = c.refused;
  passed = c.passed;
  items = c.items;
  kept = length (merged_of (items_of reads));
  times = times_of (merged_of (items_of reads));
}

-- the text of these counts: a line for each, in the order of the fields
abbrev pub kept_counts_text : MergeCounts → List ℕ
kept_counts_text c =
    (((count_line (codes "records") c.records ++ count_line (codes "refused") c.refused)
    ++ count_line (codes "passed") c.passed) ++ count_line (codes "items") c.items) ++ count_line (codes "kept") c.kept

-- the text of the counts of a merge of records
abbrev pub merge_counts_text : List ItemRead → List ℕ
merge_counts_text reads = kept_counts_text (merge_counts reads)

-- the line of a range: the satellite, the first second, and the second after the last, in GPS time
abbrev pub cover_line : CoverRange → List ℕ
cover_line range = ((((satellite_text range.sat ++ codes " ") ++ decimal range.from) ++ codes " ") ++ decimal range.to) ++ codes "\n"

-- a line for each range of time that an item covers
abbrev pub cover_text : List NavItem → List ℕ
cover_text items = flat_map cover_line (covers_of items)

-- the text of the counts of records
abbrev pub cover_counts_text : List ItemRead → List ℕ
cover_counts_text reads = file_counts_text (counts_of_reads reads)

-- What a run makes of a file, or of several concatenated: a leading text, and the text of all items
-- at the end; the report has a line for each record that is rejected, and the text of the counts.
abbrev pub archive_meaning : {C : Type 0} → List ℕ → (List NavItem → List ℕ) → (List ItemRead → List ℕ) → (List ItemRead → C) → Meaning C
archive_meaning prefix text after count =
    file_meaning rinex4 true (λ reads. prefix) refusals_text (λ reads. prefix ++ text (items_of reads)) (λ reads. refusals_text reads ++ after reads) count

-- the meaning of a run that merges files, with these header words
abbrev pub merge_meaning : HeaderWords → Meaning MergeCounts
merge_meaning words = archive_meaning (text_of (header_lines words)) merge_text merge_counts_text merge_counts

-- the meaning of a run that finds the times that files cover
abbrev pub cover_meaning : Meaning RinexCounts
cover_meaning = archive_meaning [] cover_text cover_counts_text counts_of_reads
