-- The rows of records.
use Rattle.std.specs.Prelude.{not, ℕ, ◌+◌, ◌-◌, ◌*◌, ◌==◌, ◌&&◌, ◌||◌, Bool, true, false, replicate}
use Rattle.std.specs.Prelude.{List, []}
use Rattle.std.specs.Prelude.{◌∷◌, ◌++◌, length, get_or, ℤ, pos, negsuc, int_le, nat_eq, nat_le}
use Rattle.std.specs.Prelude.{Option}
use Rattle.std.specs.Prelude.{Some, None, Result, Ok, Err, if◌then◌else◌}
use Rattle.scaled_decimal.specs.NumberReading.{is_decimal}
use Rattle.nav_tables.specs.Fields.{is_in_range}
use Rattle.nav_tables.specs.Links.{field_at}
use Rattle.rinex_write.specs.declared.columns.Rule.{Rule}
use Rattle.rinex_write.specs.declared.columns.Rule.TheVariants.{Plain, OrZero, OrLeast, OrUnknown}
use Rattle.rinex_write.specs.declared.columns.Rule.TheVariants.{Ura, Sisa, Fit, Sent, Unread}
use Rattle.rinex_write.specs.declared.columns.Column.{Column}
use Rattle.rinex_write.specs.Columns.{not_known}
use Rattle.rinex_read.specs.declared.reason.RecordFault.{RecordFault}
use Rattle.rinex_read.specs.declared.reason.RecordFault.TheVariants as reasons
use Rattle.rinex_read.specs.Fields.{◌>>=◌}
use Rattle.rinex_read.specs.Judging.{first_of, need}
use Rattle.rinex_read.specs.RowReads.{RowContent, flat_said}
use Rattle.nav_rows.specs.declared.kind.Kind.{Kind}
use Rattle.nav_rows.specs.Encoding.{epoch_fault}
use Rattle.nav_rows.specs.Rows.{RowValue}

-- the number is a field by the rule of its column
abbrev pub is_in_column : Rule → ℤ → Bool
is_in_column (Plain low high) z = int_le low z && int_le z high
is_in_column (OrZero low high) z = int_le low z && int_le z high
is_in_column (OrLeast low high) z = int_le low z && int_le z high
is_in_column (OrUnknown low high) z =
    (int_le low z && int_le z high) || (int_le not_known z && int_le z not_known)
is_in_column Ura z = int_le (pos 0) z && int_le z (pos 15)
is_in_column Sisa z = int_le (pos 0) z && int_le z (pos 255)
    && (int_le z (pos 125) || int_le (pos 255) z)
is_in_column Fit z = int_le (pos 0) z && int_le z (pos 1)
is_in_column Sent z =
    int_le (negsuc 302399) z && int_le z (pos 999900000)
    && (int_le z (pos 907199) || int_le (pos 999900000) z)
is_in_column (Unread n) z = int_le n z && int_le z n

-- there is a field for each column
unfoldable pub are_in_columns : List Column → List ℤ → Bool
are_in_columns [] [] = true
are_in_columns [] (z ∷ zs) = false
are_in_columns (c ∷ cs) [] = false
are_in_columns (c ∷ cs) (z ∷ zs) = is_in_column c.rule z && are_in_columns cs zs

-- a number of two digits, the first possibly blank
abbrev pub are_digits : ℕ → ℕ → Bool
are_digits tens ones = is_decimal ones && (tens == 32 || is_decimal tens)

abbrev pub two_digits : ℕ → ℕ → ℕ
two_digits tens ones = (if tens == 32 then 0 else 10 * (tens - 48)) + (ones - 48)

abbrev pub number_by : Kind → ℕ → ℕ → Result ℕ RecordFault
number_by k tens ones =
    if not (are_digits tens ones) then Err reasons.BadSat
    else if is_in_range (field_at k.table.fields.now 1) (pos (two_digits tens ones)) then Ok
    (two_digits tens ones)
    else Err reasons.BadSat

-- the satellite of a title, in columns 8 and 9: one that messages of the kind have
abbrev pub number_stated : Kind → List ℕ → Result ℕ RecordFault
number_stated k title = number_by k (get_or title 7 32) (get_or title 8 32)

-- a line begins with the satellite in columns 7 to 9 of the title
abbrev pub same_satellite : List ℕ → List ℕ → Bool
same_satellite title line =
    (get_or line 0 32 == get_or title 6 32) && (get_or line 1 32 == get_or title 7 32)
    && (get_or line 2 32 == get_or title 8 32)

-- four lines of a kind that may lack the fifth, and a blank one
abbrev pub completed : Bool → List (List ℕ) → List (List ℕ)
completed may_end_early lines =
    if may_end_early && nat_eq (length lines) 4 then lines ++ replicate 80 32 ∷ [] else lines

abbrev pub with_epoch : Option RecordFault → RowValue → Result RowValue RecordFault
with_epoch (Some reason) row = Err reason
with_epoch None row = Ok row

abbrev pub judged_row : Kind → ℕ → RowContent → Result RowValue RecordFault
judged_row k number said =
    need (are_in_columns k.layout.columns.now said.fields) reasons.OutOfRange >>= λ fit.
    with_epoch (epoch_fault k.clock said.moment said.fields)
    (record { number = number; moment = said.moment; columns = said.fields })

abbrev pub lines_read : Kind → ℕ → List ℕ → List (List ℕ) → Result RowValue RecordFault
lines_read k number title lines =
    need (nat_le (length k.layout.rows.now) (length lines)) reasons.Short >>= λ all.
    need (same_satellite title (first_of lines)) reasons.BadSat >>= λ same.
    flat_said k.layout.rows.now k.layout.columns.now lines >>= judged_row k number

-- the row of a record by its title and the lines after it, or the first reason. In this order:
-- satellite, number of lines, the same satellite in the first line, date, numbers, epoch
unfoldable pub row_read : Kind → List ℕ → List (List ℕ) → Result RowValue RecordFault
row_read k title lines =
    number_stated k title >>= λ number. lines_read k number title (completed k.may_end_early lines)

-- the same of the lines of a record, the title first
abbrev pub read_lines_of : Kind → List (List ℕ) → Result RowValue RecordFault
read_lines_of k [] = Err reasons.Short
read_lines_of k (title ∷ lines) = row_read k title lines
