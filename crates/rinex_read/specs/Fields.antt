-- The fields of the numbers of a record, and why a number gives none.
use Rattle.std.specs.Prelude.{ℕ, Bool, false, ◌+◌, ◌==◌, ◌&&◌, ◌||◌, if◌then◌else◌, List, [], ◌∷◌, ◌++◌, Result, Ok, Err, ℤ, pos, negsuc, int_le, unsigned_abs}
use Rattle.scaled_decimal.specs.declared.scales.Scale.{Scale}
use Rattle.scaled_decimal.specs.ScaleValue.{size_of}
use Rattle.scaled_decimal.specs.NumberReading.{NumberSeen, blank, unread, number, seen}
use Rattle.rinex_write.specs.declared.columns.Rule.{Rule}
use Rattle.rinex_write.specs.declared.columns.Rule.TheVariants.{Plain, OrZero, OrLeast, OrUnknown, Ura, Sisa, Fit, Sent, Unread}
use Rattle.rinex_write.specs.declared.columns.Column.{Column}
use Rattle.rinex_write.specs.Accuracies.{ura_of, sisa_of}
use Rattle.rinex_write.specs.Columns.{not_known}
use Rattle.rinex_read.specs.declared.reason.RecordFault.{RecordFault}
use Rattle.rinex_read.specs.declared.reason.RecordFault.TheVariants as reasons
use Rattle.rinex_read.specs.Lines.{columns}

-- continue with the value, or stop with the reason
infixl 10 ◌>>=◌
abbrev pub ◌>>=◌ : {A B : Type 0} → Result A RecordFault → (A → Result B RecordFault) → Result B RecordFault
(Ok x) >>= f = f x
(Err e) >>= f = Err e

-- the number if it is from low to high, else `OutOfRange`
abbrev pub in_range : ℤ → ℤ → ℤ → Result ℤ RecordFault
in_range low high z = if int_le low z && int_le z high then Ok z else Err reasons.OutOfRange

-- the fit interval flag of an interval in hours: 0 for 0 or 4, none for 2 and 3, else 1 (IS-GPS-200, 20.3.3.4.3.1)
abbrev pub flag_of : ℕ → Result ℤ RecordFault
flag_of n = if n == 0 || n == 4 then Ok (pos 0) else if n == 2 || n == 3 then Err reasons.Fit else Ok (pos 1)

-- the transmission time, unknown if it is not from -302,400 to 907,199 s: the week of toe and half
-- a week around it
abbrev pub sent_or_unknown : ℤ → ℤ
sent_or_unknown z = if int_le (negsuc 302399) z && int_le z (pos 907199) then z else pos 999900000

-- the field of a column by its rule, from a number, blanks, or any other text
abbrev pub taken : Rule → NumberSeen → Result ℤ RecordFault
taken (Plain low high) blank = Err reasons.Blank
taken (Plain low high) unread = Err reasons.NotANumber
taken (Plain low high) (number z) = in_range low high z
taken (OrZero low high) blank = Ok (pos 0)
taken (OrZero low high) unread = Err reasons.NotANumber
taken (OrZero low high) (number z) = in_range low high z
taken (OrLeast low high) blank = Ok low
taken (OrLeast low high) unread = Err reasons.NotANumber
taken (OrLeast low high) (number z) = in_range low high z
taken (OrUnknown low high) blank = Ok not_known
taken (OrUnknown low high) unread = Err reasons.NotANumber
taken (OrUnknown low high) (number z) = in_range low high z
taken Ura blank = Ok (pos 15)
taken Ura unread = Err reasons.NotANumber
taken Ura (number z) = in_range (negsuc 99999999) (pos 100000000) z >>= λ w. Ok (ura_of w)
taken Sisa blank = Ok (pos 255)
taken Sisa unread = Err reasons.NotANumber
taken Sisa (number z) = in_range (negsuc 99999999) (pos 100000000) z >>= λ w. Ok (sisa_of w)
taken Fit blank = Ok (pos 0)
taken Fit unread = Err reasons.NotANumber
taken Fit (number z) = in_range (pos 0) (pos 255) z >>= λ w. flag_of (unsigned_abs w)
taken Sent blank = Ok (pos 999900000)
taken Sent unread = Err reasons.NotANumber
taken Sent (number z) = Ok (sent_or_unknown z)
taken (Unread n) blank = Ok n
taken (Unread n) unread = Ok n
taken (Unread n) (number z) = Ok n

-- the scale of integers
abbrev pub whole : Scale
whole = record { pi = false; factor = 1; two = pos 0; ten = pos 0 }

-- a number from 999,999,999 on
abbrev pub is_beyond : NumberSeen → Bool
is_beyond blank = false
is_beyond unread = false
is_beyond (number z) = int_le not_known z

-- the field, or not known where a number that can be so is out of range and, in units of 1, from
-- 999,999,999 on
abbrev pub or_unknown : Rule → NumberSeen → Result ℤ RecordFault → Result ℤ RecordFault
or_unknown rule units (Ok z) = Ok z
or_unknown (OrUnknown low high) units (Err reasons.OutOfRange) = if is_beyond units then Ok not_known else Err reasons.OutOfRange
or_unknown rule units (Err e) = Err e

-- the field of the text of a column
abbrev pub field_of : Column → List ℕ → Result ℤ RecordFault
field_of c text = or_unknown c.rule (seen (size_of whole) text) (taken c.rule (seen (size_of c.scale) text))

-- the field of the 19 characters of a line from offset a on
abbrev pub field_at : Column → ℕ → List ℕ → Result ℤ RecordFault
field_at c a line = field_of c (columns a 19 line)

-- the fields of a line whose numbers begin at offset a, or the first reason
abbrev pub read_row : List Column → ℕ → List ℕ → Result (List ℤ) RecordFault
read_row [] a line = Ok []
read_row (c ∷ cs) a line = field_at c a line >>= λ z. read_row cs (a + 19) line >>= λ zs. Ok (z ∷ zs)

-- the fields of some lines; the numbers begin at offset a in the first line, at offset 4 in the others
abbrev pub read_rows : List (List Column) → ℕ → List (List ℕ) → Result (List ℤ) RecordFault
read_rows [] a lines = Ok []
read_rows (r ∷ rs) a [] = Err reasons.Short
read_rows (r ∷ rs) a (l ∷ ls) = read_row r a l >>= λ zs. read_rows rs 4 ls >>= λ ws. Ok (zs ++ ws)
