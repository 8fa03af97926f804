-- Rows of messages.
use Rattle.std.specs.Prelude.{ℕ, ◌&&◌, ◌<◌, Bool, false, List, [], ◌∷◌, length, ℤ, pos, int_le}
use Rattle.std.specs.Prelude.{Option, Some, None, Result, Ok, Err, if◌then◌else◌, codes}
use Rattle.nav_tables.specs.declared.message.TableFault.{TableFault}
use Rattle.nav_tables.specs.Messages.{message_in}
use Rattle.nav_tables.specs.Links.{nth, columns_of}
use Rattle.rinex_write.specs.RowTexts.{RowKind, row_body, row_record, split_rows}
use Rattle.rinex_write.specs.Texts.{text_of}
use Rattle.nav_rows.specs.declared.kind.Kind.{Kind}
use Rattle.nav_rows.specs.declared.times.RowTimes.{RowTimes}
use Rattle.nav_rows.specs.declared.row.Row.{Row}
use Rattle.nav_rows.specs.declared.row.RowFault.{RowFault}
use Rattle.nav_rows.specs.declared.row.RowFault.TheVariants.{Message, SpareSisa, Day}
use Rattle.nav_rows.specs.Times.{number, times_stated}

-- the SISA index is one of 126 to 254
abbrev pub has_spare_sisa : Option ℕ → List ℤ → Bool
has_spare_sisa None numbers = false
has_spare_sisa (Some f) numbers = int_le (pos 126) (nth numbers f)
    && int_le (nth numbers f) (pos 254)

-- the SISA index is there
abbrev pub SisaInside : Option ℕ → List ℤ → Type 0
SisaInside None numbers = Unit {0}
SisaInside (Some f) numbers = f < length numbers

abbrev pub given_of : RowTimes → List ℤ
given_of times = pos times.week ∷ pos times.sent ∷ pos 0 ∷ pos 0 ∷ []

pub record RowValue : Type 0 where
  pub number : ℕ
  pub moment : ℕ
  pub columns : List ℤ

abbrev pub value : Row → RowValue
value row = record { number = row.number; moment = row.moment; columns = row.columns.items }

abbrev pub row_at : Kind → List ℤ → Option RowTimes → Result RowValue RowFault
row_at k numbers None = Err Day
row_at k numbers (Some times) = Ok (record {
  number = number numbers 1;
  moment = times.epoch;
  columns = columns_of k.parts.now k.links.now numbers (given_of times);
})

abbrev pub row_by : Kind → ℕ → Result (List ℤ) TableFault → Result RowValue RowFault
row_by k r (Err fault) = Err (Message fault)
row_by k r (Ok numbers)
    = if has_spare_sisa k.sisa numbers then Err SpareSisa else row_at k numbers
    (times_stated k.clock numbers r)

-- the records of a kind
abbrev pub record_kind : Kind → RowKind
record_kind k = record {
  class = codes "EPH";
  message = k.title.now;
  rows = split_rows k.layout.rows.now k.layout.columns.now;
}

-- the lines of a row's record
abbrev pub record_of : Kind → RowValue → List (List ℕ)
record_of k row = row_record (record_kind k) k.letter row.number row.moment row.columns

-- the text of a row's record
abbrev pub record_text : Kind → RowValue → List ℕ
record_text k row = text_of (record_of k row)

-- the lines of a row's record in RINEX 3, which has no title
abbrev pub body_of : Kind → RowValue → List (List ℕ)
body_of k row = row_body (record_kind k).rows k.letter row.number row.moment row.columns

-- their text
abbrev pub body_text : Kind → RowValue → List ℕ
body_text k row = text_of (body_of k row)

-- the row of a message near a reference week, or why it has none
abbrev pub row_in : Kind → List ℕ → ℕ → Result RowValue RowFault
row_in k bytes r = row_by k r (message_in k.table bytes)
