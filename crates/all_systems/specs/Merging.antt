-- The merged list of the items of all systems and of the carried records: of duplicates the one sent first, in order of
-- time; and what a run that merges files writes and counts.
use Rattle.std.specs.Prelude.{◌≡◌, ℕ, true, Bool, List, [], ◌∷◌, ◌++◌, codes, cond, length, map, Ok, Err, ℤ}
use Rattle.std.proofs.Common.{inl, inr, ◌⊎◌}
use Rattle.std.specs.Cmp.Lexicographic.{slice_cmp}
use Rattle.std.specs.List.{Contains, flat_map}
use Rattle.std.specs.Ordering.{int_cmp, is_lt}
use Rattle.nav_eph.specs.declared.items.NavItem.{NavItem}
use Rattle.nav_files.specs.Files.{file_meaning}
use Rattle.nav_rows.specs.Order.{KindRow, by_place, by_rank, front_of}
use Rattle.one_run.specs.Reports.{count_line}
use Rattle.one_run.specs.Runs.{Meaning}
use Rattle.streams.specs.Targets.{prefix_text}
use Rattle.streams.specs.declared.target.Target.{Target}
use Rattle.streams.specs.declared.target.Target.TheVariants.{Rinex, Rinex3, Rtcm, ToList, Count}
use Rattle.nav_lists.specs.Ranks.{ranked_of}
use Rattle.rinex_read.specs.Files.{file_reads, records_in}
use Rattle.rinex_write.specs.declared.words.HeaderWords.{HeaderWords}
use Rattle.all_systems.specs.Readings.{Item}
use Rattle.all_systems.specs.Streams.{text_of}
use Rattle.all_systems.specs.declared.kinds.Kinds.{Kinds}
use Rattle.all_systems.specs.CarriedOrder.{CarriedRecord, by_text, kept_record}
use Rattle.all_systems.specs.Files.{carried_in, counts_of, form_of, decided_by}
use Rattle.all_systems.specs.NavOrder.{by_numbers, by_sent, nav_front}
use Rattle.all_systems.specs.FileReadings.{LineRead, Reading}
use Rattle.all_systems.specs.declared.merge_counts.SystemMergeCounts.{SystemMergeCounts}
use Rattle.all_systems.specs.declared.version.Version.{Version}
use Rattle.all_systems.specs.declared.version.Version.TheVariants.{Four, Three}

-- ---- the items of a file

-- the item of a record, if it has one
abbrev pub item_of : Reading → List Item
item_of (Ok item) = item ∷ []
item_of (Err fault) = []

-- the items of records
abbrev pub items_of : List LineRead → List Item
items_of [] = []
items_of (read ∷ reads) = item_of read.reading ++ items_of reads

-- of values of two sorts those of the first, and those of the second
abbrev pub firsts : {A B : Type 0} → List (A ⊎ B) → List A
firsts [] = []
firsts (inl a ∷ xs) = a ∷ firsts xs
firsts (inr b ∷ xs) = firsts xs

abbrev pub seconds : {A B : Type 0} → List (A ⊎ B) → List B
seconds [] = []
seconds (inl a ∷ xs) = seconds xs
seconds (inr b ∷ xs) = b ∷ seconds xs

-- those of GPS LNAV, Galileo I/NAV and their ionosphere parameters, and those of further kinds
abbrev pub navs_of : List Item → List NavItem
navs_of items = firsts items

abbrev pub rows_of : List Item → List KindRow
rows_of items = seconds items

-- the carried records
abbrev pub carried_of : List LineRead → List CarriedRecord
carried_of reads = map kept_record (carried_in reads)

-- ---- their order

-- the row comes before the item
abbrev pub is_before : KindRow → NavItem → Bool
is_before x item = is_lt (slice_cmp int_cmp (front_of x.kind x.row) (nav_front item))

-- what comes first of an item
abbrev pub item_front : Item → List ℤ
item_front (inl item) = nav_front item
item_front (inr x) = front_of x.kind x.row

-- the carried record comes before the item
abbrev pub is_carried_before : CarriedRecord → Item → Bool
is_carried_before x item = is_lt (slice_cmp int_cmp x.front (item_front item))

-- a value and others, with the values of the second sort that come before it in front
abbrev pub behind : {A B : Type 0} → (B → A → Bool) → A → (List B → List (A ⊎ B)) → List B → List (A ⊎ B)
behind before a others [] = inl a ∷ others []
behind before a others (b ∷ bs) = cond (before b a) (inr b ∷ behind before a others bs) (inl a ∷ others (b ∷ bs))

-- values of two sorts, each in order, as one list in order
abbrev pub interleaved : {A B : Type 0} → (B → A → Bool) → List A → List B → List (A ⊎ B)
interleaved before [] bs = map inr bs
interleaved before (a ∷ xs) bs = behind before a (interleaved before xs) bs

-- the merged list of the items
abbrev pub merged_items : List Item → List Item
merged_items items = interleaved is_before (ranked_of by_numbers by_sent (navs_of items)) (ranked_of by_rank by_place (rows_of items))

-- an item or a carried record
abbrev pub Entry : Type 0
Entry = Item ⊎ CarriedRecord

-- items, rows and carried records, each in order, as one list in order
abbrev pub all_entries : List NavItem → List KindRow → List CarriedRecord → List Entry
all_entries items rows records = interleaved is_carried_before (interleaved is_before items rows) records

-- the merged list of the items and carried records: each of these once
abbrev pub merged_entries : List LineRead → List Entry
merged_entries reads = interleaved is_carried_before (merged_items (items_of reads)) (ranked_of by_text by_text (carried_of reads))

-- the merged list of the items of files of a version, concatenated
abbrev pub file_merged : Kinds → Version → List ℕ → List Item
file_merged ks v bytes = merged_items (items_of (records_in (file_reads (form_of ks v) bytes)))

-- ---- what a run writes and counts

-- the format of the merged file
abbrev pub outlet_of : Version → HeaderWords → Target
outlet_of Four words = Rinex words
outlet_of Three words = Rinex3 words

-- the text of a carried record: only RINEX 4 has one
abbrev pub record_part : Target → CarriedRecord → List ℕ
record_part (Rinex words) x = x.text
record_part (Rinex3 words) x = []
record_part Rtcm x = []
record_part ToList x = []
record_part Count x = []

-- the text of an item or of a carried record
abbrev pub entry_text : Target → Entry → List ℕ
entry_text to (inl item) = text_of to (0, item)
entry_text to (inr x) = record_part to x

-- the text of the merged file
abbrev pub merge_text : Target → List LineRead → List ℕ
merge_text to reads = prefix_text to ++ flat_map (entry_text to) (merged_entries reads)

-- the counts: those of the file, and how many items were kept
abbrev pub merge_counts : Target → List LineRead → SystemMergeCounts
merge_counts to reads = let c = counts_of to reads in record {
  records = c.records;
  refused = c.refused;
  passed = c.passed;
  carried = c.carried;
  items = c.items;
  kept = length (merged_items (items_of reads));
  unwritten = c.unwritten;
  times = c.times;
}

-- the text of these counts: a line for each, in the order of the fields
unfoldable pub merge_counts_text : SystemMergeCounts → List ℕ
merge_counts_text c =
    (((((count_line (codes "records") c.records ++ count_line (codes "refused") c.refused)
    ++ count_line (codes "passed") c.passed) ++ count_line (codes "carried") c.carried)
    ++ count_line (codes "items") c.items) ++ count_line (codes "kept") c.kept) ++ count_line (codes "unwritten") c.unwritten

-- the report of a merge
abbrev pub merge_report : Target → List LineRead → List ℕ
merge_report to reads = decided_by reads ++ merge_counts_text (merge_counts to reads)

-- the meaning of a run that merges files of a version, concatenated, to one file
abbrev pub system_merge_meaning : Kinds → Version → Target → Meaning SystemMergeCounts
system_merge_meaning ks v to =
    file_meaning (form_of ks v) true (λ reads. prefix_text to) decided_by (merge_text to) (merge_report to) (merge_counts to)

-- rows of one system and message type are of one kind
abbrev pub AreNamed : List KindRow → Type 0
AreNamed xs = (x y : KindRow) → Contains xs x → Contains xs y → x.kind.system ≡ y.kind.system → x.kind.message ≡ y.kind.message → x.kind ≡ y.kind
