-- A row that was written is read.
use Rattle.std.proofs.Common.{◌≡◌, ℕ, ◌+◌, ◌<◌, ◌/◌, ◌%◌, refl, nat_le, true, List, [], ◌∷◌, ◌++◌, length, map, drop, Ok, ap, ◌∙◌, arith, ℤ, length-append}
use Rattle.std.proofs.lemmas.Bool.{le-leb}
use Rattle.std.proofs.lemmas.List.{length-map}
use Rattle.scaled_decimal.specs.NumberText.{digits}
use Rattle.nav_eph.specs.Weeks.{IsMoment}
use Rattle.nav_eph.specs.Functions.{civil_to}
use Rattle.nav_eph.proofs.Surface.{civil_to-date, short_date}
use Rattle.rinex_write.specs.declared.columns.Column.{Column}
use Rattle.rinex_write.specs.Columns.{AreFields, row_text, row_lines, joined_rows, are_good}
use Rattle.rinex_write.specs.RowTexts.{RowKind, row_record, row_satellite}
use Rattle.rinex_write.specs.Texts.{date_text}
use Rattle.rinex_read.specs.declared.reason.RecordFault.TheVariants as reasons
use Rattle.rinex_read.specs.Fields.{read_rows}
use Rattle.rinex_read.specs.Judging.{date_of, moment_at, need}
use Rattle.rinex_read.specs.RowReads.{flat_said, row_said}
use Rattle.rinex_read.proofs.DateLemmas.{date_again}
use Rattle.rinex_read.proofs.FieldLemmas.{bind_ok, rows_again}
use Rattle.rinex_read.proofs.RecordLemmas.{length-date, length-row_lines, moment_again}
use Rattle.rinex_read.proofs.RowLemmas.{flat_is}

lines_again : (r : List Column) (rs : List (List Column)) (a b c d moment : ℕ) (fields : List ℤ) (more : List (List ℕ))
    → are_good (joined_rows (r ∷ rs)) ≡ true → AreFields (joined_rows (r ∷ rs)) fields → IsMoment moment
    → row_said (r ∷ rs) (row_lines (a ∷ b ∷ c ∷ d ∷ date_text (civil_to moment)) (r ∷ rs) fields ++ more) ≡ Ok (record { moment = moment; fields = fields })
unfolding row_said
lines_again r rs a b c d moment fields more good are is =
    let start = a ∷ b ∷ c ∷ d ∷ date_text (civil_to moment) in
    let lines = row_lines start (r ∷ rs) fields ++ more in
    let first = a ∷ b ∷ c ∷ d ∷ (date_text (civil_to moment) ++ row_text r fields) in
    let count : length lines ≡ length (r ∷ rs) + length more = length-append (row_lines start (r ∷ rs) fields) more
    ∙ ap (λ n. n + length more) (length-row_lines start (r ∷ rs) fields) in
    let all : nat_le (length (r ∷ rs)) (length lines) ≡ true = le-leb (length (r ∷ rs)) (length lines) (omega (arith, count)) in
    let short = short_date (civil_to moment) moment (civil_to-date moment is) in
    let date = date_again a b c d (civil_to moment) (row_text r fields) short in
    let rows = rows_again (r ∷ rs) fields 23 start more (omega (arith, length-date moment)) good are in
    bind_ok (need (nat_le (length (r ∷ rs)) (length lines)) reasons.Short) true _ (ap (λ b. need b reasons.Short) all)
    ∙ bind_ok (moment_at first) moment _ (bind_ok (date_of first) (civil_to moment) _ date ∙ moment_again moment is)
    ∙ bind_ok (read_rows (r ∷ rs) 23 lines) fields _ rows

by_rows : (rows : List (List Column)) (letter number moment : ℕ) (fields : List ℤ) (more : List (List ℕ)) → 0 < length rows
    → are_good (joined_rows rows) ≡ true → AreFields (joined_rows rows) fields → IsMoment moment
    → row_said rows (row_lines ((row_satellite letter number ++ 32 ∷ []) ++ date_text (civil_to moment)) rows fields ++ more) ≡ Ok (record { moment = moment; fields = fields })
unfolding digits
by_rows [] letter number moment fields more some good are is = absurd (omega arith)
by_rows (r ∷ rs) letter number moment fields more some good are is =
    lines_again r rs letter (48 + number / 10 % 10) (48 + number % 10) 32 moment fields more good are is

pub rows_are_read : (k : RowKind) (letter number moment : ℕ) (fields : List ℤ) (more : List (List ℕ)) → 0 < length k.rows → are_good (joined_rows k.rows) ≡ true
    → AreFields (joined_rows k.rows) fields → IsMoment moment
    → row_said k.rows (drop 1 (row_record k letter number moment fields) ++ more) ≡ Ok (record { moment = moment; fields = fields })
rows_are_read k letter number moment fields more some good are is = by_rows k.rows letter number moment fields more some good are is

pub layout_said : (rows : List (List Column)) (lines : List (List ℕ)) → flat_said (map length rows) (joined_rows rows) lines ≡ row_said rows lines
unfolding flat_said row_said
layout_said rows lines = rw (flat_is rows 23 lines, length-map rows (length {A = Column})) refl
