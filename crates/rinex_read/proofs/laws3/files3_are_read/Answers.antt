use Rattle.std.proofs.Common.{ℕ, List, ◌++◌, codes, Ok, ap, ◌∙◌}
use Rattle.rinex_write.specs.Texts.{text_of}
use Rattle.rinex_write.proofs.Surface.{length-header}
use Rattle.rinex_read.specs.Files.{file_reads, items_read}
use Rattle.rinex_read.specs.RoundTrip.{numbered_by}
use Rattle.rinex_read.specs.Form3.{rinex3}
use Rattle.rinex_write.specs.Texts3.{header3_lines, item3_lines, ephemerides}
use Rattle.rinex_read.proofs.Record3Lemmas.{all_stand, lines_same}
use Rattle.rinex_read.proofs.Header3Lemmas.{header_stands}
use Rattle.rinex_read.proofs.laws3.files3_are_read.Goals as goal

pub returns-clause-records : goal.returns-clause-records
returns-clause-records c = λ h items is are.
    ap (λ (ls : List (List ℕ)). file_reads rinex3 (text_of (header3_lines h ++ ls))) (lines_same items)
    ∙ (c.written_files_are_read.ensures (header3_lines h) item3_lines (ephemerides items) (header_stands h is) (all_stand items are)).0
    ∙ ap (λ (n : ℕ). Ok (numbered_by item3_lines n (ephemerides items))) (length-header (codes "     3.05") h)

pub returns-clause-list : goal.returns-clause-list
returns-clause-list c = λ h items is are.
    ap (λ (ls : List (List ℕ)). items_read (file_reads rinex3 (text_of (header3_lines h ++ ls)))) (lines_same items)
    ∙ ap items_read (c.written_files_are_read.ensures (header3_lines h) item3_lines (ephemerides items) (header_stands h is) (all_stand items are)).0
    ∙ (c.written_files_are_read.ensures (header3_lines h) item3_lines (ephemerides items) (header_stands h is) (all_stand items are)).1
