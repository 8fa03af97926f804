-- Rows of messages and their records, in the numbers that C has of them.
use Rattle.std.specs.Prelude.{◌≡◌, ◌⊎◌, ℕ, ◌==◌, if◌then◌else◌, Bool, true, false, List, [], ◌∷◌, length, take, slice_get, Option, None, Some, Result, Ok, Err}
use Rattle.nav_bits.specs.Bits.{number_at}
use Rattle.nav_tables.specs.declared.message.TableFault.TheVariants.{Short, OutOfRange}
use Rattle.nav_tables.specs.declared.times.TimeFault.{TimeFault}
use Rattle.nav_tables.specs.declared.times.TimeFault.TheVariants as frames
use Rattle.framing.specs.Writing.{frame_bytes}
use Rattle.rinex_write.specs.Columns.{AreFields}
use Rattle.rinex_write.specs.declared.columns.Column.{Column}
use Rattle.rinex_write.specs.declared.columns.Rule.{Rule}
use Rattle.rinex_write.specs.declared.columns.Rule.TheVariants.{Plain, OrZero, OrLeast, OrUnknown, Ura, Sisa, Fit, Sent, Unread}
use Rattle.nav_rows.specs.Rows.{RowValue, record_text, row_in}
use Rattle.nav_rows.specs.Encoding.{message_of}
use Rattle.nav_rows.specs.declared.encode.EncodeFault.{EncodeFault}
use Rattle.nav_rows.specs.declared.encode.EncodeFault.TheVariants as encodings
use Rattle.nav_rows.specs.declared.kind.Kind.{Kind}
use Rattle.nav_rows.specs.declared.row.Row.{Row}
use Rattle.nav_rows.specs.declared.row.RowFault.{RowFault}
use Rattle.nav_rows.specs.declared.row.RowFault.TheVariants.{Message, SpareSisa, Day}
use Rattle.raw_values.specs.Rooms.{IsLeft, StandsIn}
use Rattle.c_calls.specs.RecordReads.{reason_status}
use Rattle.c_calls.specs.Kinds.{IsKindOf}
use Rattle.c_calls.specs.declared.row_raw.ColumnRaw.{ColumnRaw}
use Rattle.c_calls.specs.declared.row_raw.RowRaw.{RowRaw}

-- ---- read

-- the number of an error; field 1 is the satellite
abbrev pub row_status : RowFault → ℕ
row_status (Message Short) = 18
row_status (Message (OutOfRange field)) = if field == 1 then 19 else 28
row_status SpareSisa = 21
row_status Day = 29

-- the numbers are those of the row of a kind
pub record IsRowOf (k : Kind) (of : ℕ) (row : RowValue) (raw : RowRaw) : Type 0 where
  pub epoch : raw.epoch ≡ row.moment
  pub message : raw.message ≡ of
  pub satellite : raw.satellite ≡ row.number
  pub letter : raw.letter ≡ k.letter
  pub title : take (length k.title.now) raw.title ≡ k.title.now
  pub count : raw.count ≡ length row.columns
  pub columns : take raw.count raw.columns ≡ row.columns

-- the row of a message is put and the result is 0, or nothing is put and the result is the number
-- of the error
abbrev pub PutsRow : Kind → ℕ → Result RowValue RowFault → RowRaw → RowRaw → ℕ → Type 0
PutsRow k message (Ok row) old new status = (status ≡ 0) × IsRowOf k message row new
PutsRow k message (Err fault) old new status = (status ≡ row_status fault) × (new ≡ old)

-- the same by a kind of the message with that number; or there is none
abbrev pub ReadsRow : ℕ → List ℕ → ℕ → RowRaw → RowRaw → ℕ → Type 0
ReadsRow message payload week old new status =
    ((status ≡ 17) × (new ≡ old)) ⊎ ((k : Kind) × IsKindOf message k × PutsRow k message (row_in k payload week) old new status)

-- ---- written

-- the row of the numbers
abbrev pub row_of : RowRaw → RowValue
row_of raw = record { number = raw.satellite; moment = raw.epoch; columns = take raw.count raw.columns }

-- a row has these numbers, which are fields of a kind's columns
pub record IsRowIn (k : Kind) (raw : RowRaw) (row : Row) : Type 0 where
  pub fields : AreFields k.layout.columns.now row.columns.items
  pub number : row.number ≡ raw.satellite
  pub moment : row.moment ≡ raw.epoch
  pub columns : row.columns.items ≡ take raw.count raw.columns

-- the record of the row is in the buffer and the result is 0; or the numbers encode no row
abbrev pub WritesRow : RowRaw → List ℕ → List ℕ → ℕ → ℕ → Type 0
WritesRow raw old new used status =
    ((status ≡ 23) × IsLeft old new used)
    ⊎ ((k : Kind) × IsKindOf raw.message k × AreFields k.layout.columns.now (take raw.count raw.columns)
    × (status ≡ 0) × StandsIn old new used (record_text k (row_of raw)))

-- the number of the reason why times are not those of a frame
abbrev pub frame_status : TimeFault → ℕ
frame_status frames.Epoch = 40
frame_status frames.Sent = 30
frame_status frames.Day = 29

-- the number of the reason why a row has no message; field 1 is the satellite
abbrev pub encode_status : EncodeFault → ℕ
encode_status (encodings.Epoch reason) = reason_status reason
encode_status (encodings.Frame fault) = frame_status fault
encode_status (encodings.OutOfRange field) = if field == 1 then 19 else 28
encode_status encodings.SpareSisa = 21
encode_status encodings.NoMessage = 25

-- the frame of a message is in the buffer and the result is 0; or nothing is put, and the result is
-- the number of the error
abbrev pub PutsFrame : Result (List ℕ) EncodeFault → List ℕ → List ℕ → ℕ → ℕ → Type 0
PutsFrame (Ok message) old new used status = (status ≡ 0) × StandsIn old new used (frame_bytes message)
PutsFrame (Err fault) old new used status = (status ≡ encode_status fault) × IsLeft old new used

-- the same of the message of the row; or the numbers encode no row
abbrev pub WritesFrame : RowRaw → List ℕ → List ℕ → ℕ → ℕ → Type 0
WritesFrame raw old new used status =
    ((status ≡ 23) × IsLeft old new used)
    ⊎ ((k : Kind) × IsKindOf raw.message k × AreFields k.layout.columns.now (take raw.count raw.columns)
    × PutsFrame (message_of k (row_of raw)) old new used status)

-- ---- columns

abbrev pub rule_number : Rule → ℕ
rule_number (Plain low high) = 0
rule_number (OrZero low high) = 0
rule_number (OrLeast low high) = 0
rule_number Ura = 1
rule_number Sisa = 2
rule_number Fit = 3
rule_number Sent = 4
rule_number (Unread n) = 5
rule_number (OrUnknown low high) = 6

abbrev pub number_of_flag : Bool → ℕ
number_of_flag true = 1
number_of_flag false = 0

abbrev pub raw_column : Column → ColumnRaw
raw_column c = record {
  factor = c.scale.factor;
  two = c.scale.two;
  ten = c.scale.ten;
  is_angle = number_of_flag c.scale.pi;
  rule = rule_number c.rule;
}

-- a column is put, or there is none
abbrev pub PutsColumn : Option Column → ColumnRaw → ColumnRaw → ℕ → Type 0
PutsColumn None old new status = (status ≡ 23) × (new ≡ old)
PutsColumn (Some c) old new status = (status ≡ 0) × (new ≡ raw_column c)

-- the same of a kind of the message with that number; or there is none
abbrev pub GivesColumn : ℕ → ℕ → ColumnRaw → ColumnRaw → ℕ → Type 0
GivesColumn message index old new status =
    ((status ≡ 23) × (new ≡ old)) ⊎ ((k : Kind) × IsKindOf message k × PutsColumn (slice_get k.layout.columns.now index) old new status)
