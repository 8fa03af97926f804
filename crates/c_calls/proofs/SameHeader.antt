-- A header is determined by its date and its leap seconds.
use Rattle.std.proofs.Common.{◌≡◌, ℕ, List, refl, sym, ap, ◌∙◌, subst}
use Rattle.raw_values.specs.Rooms.{StandsIn}
use Rattle.rinex_write.specs.declared.words.HeaderWords.{HeaderWords}
use Rattle.rinex_write.specs.Texts.{header_lines_by, text_of}
use Rattle.c_calls.specs.RecordWrites.{IsStatedBy, header_text, version_columns}
use Rattle.c_calls.specs.declared.record_writes.HeaderRaw.{HeaderRaw}

same_lines : (columns : List ℕ) (h k : HeaderWords) → h.date ≡ k.date → h.leap ≡ k.leap → header_lines_by columns h ≡ header_lines_by columns k
unfolding header_lines_by
same_lines columns h k date leap = rw date (rw leap refl)

pub same_header : (version : ℕ) (raw : HeaderRaw) (h k : HeaderWords) → IsStatedBy raw h → IsStatedBy raw k → header_text version h ≡ header_text version k
same_header version raw h k of_h of_k = ap text_of (same_lines (version_columns version) h k (of_h.0 ∙ sym of_k.0) (of_h.1 ∙ sym of_k.1))

pub stands_too : (version : ℕ) (raw : HeaderRaw) (h k : HeaderWords) (old new : List ℕ) (used : ℕ) → IsStatedBy raw h → IsStatedBy raw k
    → StandsIn old new used (header_text version h) → StandsIn old new used (header_text version k)
stands_too version raw h k old new used of_h of_k = subst (StandsIn old new used) (same_header version raw h k of_h of_k)
