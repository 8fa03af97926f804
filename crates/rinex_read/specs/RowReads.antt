-- What the lines of a row encode, whatever its kind.
use Rattle.std.specs.Prelude.{ℕ, nat_le, List, length, Result, Ok, ℤ}
use Rattle.rinex_write.specs.declared.columns.Column.{Column}
use Rattle.rinex_read.specs.declared.reason.RecordFault.{RecordFault}
use Rattle.rinex_read.specs.declared.reason.RecordFault.TheVariants as reasons
use Rattle.rinex_read.specs.Fields.{◌>>=◌, read_rows}
use Rattle.rinex_read.specs.Judging.{first_of, moment_at, need}
use Rattle.rinex_read.specs.Mirrors.{flat_rows}

-- the date, and the fields of the numbers
pub record RowContent : Type 0 where
  pub moment : ℕ
  pub fields : List ℤ

-- what lines say, or the first reason. In this order: number of lines, date, numbers
unfoldable pub row_said : List (List Column) → List (List ℕ) → Result RowContent RecordFault
row_said rows lines = do
  all ← need (nat_le (length rows) (length lines)) reasons.Short
  moment ← moment_at (first_of lines)
  fields ← read_rows rows 23 lines
  Ok (record { moment = moment; fields = fields })

-- the same if the columns of all rows are one list
unfoldable pub flat_said : List ℕ → List Column → List (List ℕ) → Result RowContent RecordFault
flat_said rows columns lines = do
  all ← need (nat_le (length rows) (length lines)) reasons.Short
  moment ← moment_at (first_of lines)
  fields ← flat_rows rows columns 23 lines
  Ok (record { moment = moment; fields = fields })
