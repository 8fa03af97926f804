-- Rows of records.
use Rattle.std.proofs.Common.{◌≡◌, ℕ, suc, ◌+◌, ◌*◌, ◌/◌, ◌%◌, ◌<◌, ◌≤◌, ◌&&◌, ◌||◌, ◌⊎◌, inl}
use Rattle.std.proofs.Common.{inr}
use Rattle.std.proofs.Common.{Bool, true, false, List, [], ◌∷◌, ◌++◌, length, map, drop, get_or}
use Rattle.std.proofs.Common.{refl, sym}
use Rattle.std.proofs.Common.{ap, ap₂, ◌∙◌, subst, arith, ℤ, pos, negsuc, ◌≤ℤ◌, int_le, Result, Ok}
use Rattle.std.proofs.Common.{None, length-append}
use Rattle.std.specs.Prelude.{◌==◌, ◌-◌, codes, nat_eq, nat_le, nat_lt}
use Rattle.std.proofs.lemmas.Int.{ints}
use Rattle.std.proofs.lemmas.Bool.{le-leb, ltb-true}
use Rattle.std.proofs.lemmas.Bool.Decides.{nat_tests}
use Rattle.std.proofs.lemmas.List.{length-map}
use Rattle.scaled_decimal.specs.NumberText.{digits}
use Rattle.scaled_decimal.specs.NumberReading.{is_decimal}
use Rattle.nav_eph.specs.Weeks.{IsMoment}
use Rattle.nav_eph.specs.Functions.{civil_to}
use Rattle.rinex_write.specs.Texts.{date_text}
use Rattle.nav_tables.specs.Fields.{IsInRange, is_in_range}
use Rattle.nav_tables.proofs.Surface.{both, in_range_true, le_z_true}
use Rattle.nav_tables.specs.Links.{field_at}
use Rattle.rinex_write.specs.declared.columns.Rule.{Rule}
use Rattle.rinex_write.specs.declared.columns.Rule.TheVariants.{Plain, OrZero, OrLeast, OrUnknown}
use Rattle.rinex_write.specs.declared.columns.Rule.TheVariants.{Ura, Sisa, Fit, Sent, Unread}
use Rattle.rinex_write.specs.declared.columns.Column.{Column}
use Rattle.rinex_write.specs.Columns.{AreFields, IsField, are_good, joined_rows, not_known}
use Rattle.rinex_write.specs.Columns.{row_lines}
use Rattle.rinex_write.specs.RowTexts.{RowKind, row_record, row_satellite, row_title}
use Rattle.rinex_read.specs.declared.reason.RecordFault.{RecordFault}
use Rattle.rinex_read.specs.declared.reason.RecordFault.TheVariants as reasons
use Rattle.rinex_read.specs.Fields.{◌>>=◌}
use Rattle.rinex_read.specs.Judging.{first_of, need}
use Rattle.rinex_read.specs.RowReads.{RowContent, flat_said, row_said}
use Rattle.nav_rows.specs.declared.kind.Kind.{Kind}
use Rattle.nav_rows.specs.Kinds.{IsKind, is_long}
use Rattle.nav_rows.specs.Rows.{RowValue, record_kind, record_of}
use Rattle.nav_rows.specs.Encoding.{epoch_fault}
use Rattle.nav_rows.specs.Reading.{are_in_columns, completed, is_in_column, judged_row, lines_read}
use Rattle.nav_rows.specs.Reading.{number_stated, read_lines_of, row_read, same_satellite}
use Rattle.nav_rows.specs.Reading.{with_epoch}
use Rattle.nav_rows.proofs.RowLemmas.{rows_are}

-- ---- fields of columns

within_is : (low high z : ℤ) → (int_le low z && int_le z high) ≡ true → (low ≤ℤ z) × (z ≤ℤ high)
within_is low high z e =
    let a = both (int_le low z) (int_le z high) e in
    (le_z_true low z a.0, le_z_true z high a.1)

either_is : (a b : Bool) → (a || b) ≡ true → (a ≡ true) ⊎ (b ≡ true)
either_is true b e = inl refl
either_is false b e = inr e

column_is : (rule : Rule) (z : ℤ) → is_in_column rule z ≡ true → IsField rule z
column_is (Plain low high) z e = within_is low high z e
column_is (OrZero low high) z e = within_is low high z e
column_is (OrLeast low high) z e = within_is low high z e
column_is (OrUnknown low high) z e =
    elim (either_is (int_le low z && int_le z high) _ e) [
      | inl h ↦ inl (within_is low high z h)
      | inr h ↦ let w = within_is not_known not_known z h in inr (omega (arith, ints, w.0, w.1))
    ]
column_is Ura z e = within_is (pos 0) (pos 15) z e
column_is Sisa z e =
    let a = both (int_le (pos 0) z && int_le z (pos 255)) _ e in
    let w = within_is (pos 0) (pos 255) z a.0 in
    elim (either_is (int_le z (pos 125)) (int_le (pos 255) z) a.1) [
      | inl h ↦ inl (w.0, le_z_true z (pos 125) h)
      | inr h ↦ let x = le_z_true (pos 255) z h in inr (omega (arith, ints, x, w.1))
    ]
column_is Fit z e = within_is (pos 0) (pos 1) z e
column_is Sent z e =
    let a = both (int_le (negsuc 302399) z && int_le z (pos 999900000)) _ e in
    let w = within_is (negsuc 302399) (pos 999900000) z a.0 in
    elim (either_is (int_le z (pos 907199)) (int_le (pos 999900000) z) a.1) [
      | inl h ↦ inl (w.0, le_z_true z (pos 907199) h)
      | inr h ↦ let x = le_z_true (pos 999900000) z h in inr (omega (arith, ints, x, w.1))
    ]
column_is (Unread n) z e = let w = within_is n n z e in omega (arith, ints, w.0, w.1)

z_le_true : (a b : ℤ) → a ≤ℤ b → int_le a b ≡ true
z_le_true a b h = grind (arith, ints)

or_true : (a : Bool) → (a || true) ≡ true
or_true true = refl
or_true false = refl

is_column : (rule : Rule) (z : ℤ) → IsField rule z → is_in_column rule z ≡ true
is_column (Plain low high) z h = rw (z_le_true low z h.0, z_le_true z high h.1) refl
is_column (OrZero low high) z h = rw (z_le_true low z h.0, z_le_true z high h.1) refl
is_column (OrLeast low high) z h = rw (z_le_true low z h.0, z_le_true z high h.1) refl
is_column (OrUnknown low high) z (inl h) = rw (z_le_true low z h.0, z_le_true z high h.1) refl
is_column (OrUnknown low high) z (inr h) =
    ap (λ y. (int_le low y && int_le y high) || (int_le not_known y && int_le y not_known)) h
    ∙ or_true (int_le low not_known && int_le not_known high)
is_column Ura z h = rw (z_le_true (pos 0) z h.0, z_le_true z (pos 15) h.1) refl
is_column Sisa z (inl h) =
    rw (
      z_le_true (pos 0) z h.0,
      z_le_true z (pos 255) (omega (arith, ints, h.1)),
      z_le_true z (pos 125) h.1,
    ) refl
is_column Sisa z (inr h) = rw h refl
is_column Fit z h = rw (z_le_true (pos 0) z h.0, z_le_true z (pos 1) h.1) refl
is_column Sent z (inl h) =
    rw (
      z_le_true (negsuc 302399) z h.0,
      z_le_true z (pos 999900000) (omega (arith, ints, h.1)),
      z_le_true z (pos 907199) h.1,
    ) refl
is_column Sent z (inr h) = rw h refl
is_column (Unread n) z h =
    rw (
      z_le_true n z (omega (arith, ints, h)),
      z_le_true z n (omega (arith, ints, h)),
    ) refl

pub columns_are : (cs : List Column) (zs : List ℤ) → are_in_columns cs zs ≡ true → AreFields cs zs
unfolding are_in_columns
columns_are [] [] e = tt
columns_are [] (z ∷ zs) e = absurd cc
columns_are (c ∷ cs) [] e = absurd cc
columns_are (c ∷ cs) (z ∷ zs) e =
    let a = both (is_in_column c.rule z) (are_in_columns cs zs) e in
    (column_is c.rule z a.0, columns_are cs zs a.1)

pub are_columns : (cs : List Column) (zs : List ℤ) → AreFields cs zs → are_in_columns cs zs ≡ true
unfolding are_in_columns
are_columns [] [] h = refl
are_columns [] (z ∷ zs) h = absurd h
are_columns (c ∷ cs) [] h = absurd h
are_columns (c ∷ cs) (z ∷ zs) h = rw (is_column c.rule z h.0, are_columns cs zs h.1) refl

-- ---- records that are read again

same_nat : (n : ℕ) → (n == n) ≡ true
same_nat n = grind (arith, nat_tests)

other_nat : (m n : ℕ) → m < n → (n == m) ≡ false
other_nat m n h = grind (arith, nat_tests)

-- a satellite in two digits
record IsShown (k : Kind) (title : List ℕ) (n : ℕ) : Type 0 where
  pub tens : get_or title 7 32 ≡ 48 + n / 10 % 10
  pub ones : get_or title 8 32 ≡ 48 + n % 10
  pub few : n ≤ 99
  pub range : is_in_range (field_at k.table.fields.now 1) (pos n) ≡ true

number_again : (k : Kind) (title : List ℕ) (n : ℕ) → IsShown k title n → number_stated k title ≡ Ok n
number_again k title n h =
    let one : is_decimal (48 + n % 10) ≡ true
    = rw (le-leb 48 (48 + n % 10) (omega arith), le-leb (48 + n % 10) 57 (omega arith)) refl in
    let ten : is_decimal (48 + n / 10 % 10) ≡ true
    = rw (
      le-leb 48 (48 + n / 10 % 10) (omega arith),
      le-leb (48 + n / 10 % 10) 57 (omega arith),
    ) refl in
    let no : (48 + n / 10 % 10 == 32) ≡ false = other_nat 32 (48 + n / 10 % 10) (omega arith) in
    let back : 10 * (48 + n / 10 % 10 - 48) + (48 + n % 10 - 48) ≡ n = omega (arith, h.few) in
    rw (h.tens, h.ones, one, no, ten, back, h.range) refl

lines_count : (start : List ℕ) (rows : List (List Column)) (zs : List ℤ)
    → length (row_lines start rows zs) ≡ length rows
lines_count start [] zs = refl
lines_count start (r ∷ rs) zs = ap suc (lines_count _ rs (drop (length r) zs))

-- the first line begins with the satellite of the title
first_again : (k : RowKind) (letter number moment : ℕ) (start : List ℕ) (rows : List (List Column))
    (zs : List ℤ) (more : List (List ℕ)) → 0 < length rows
    → same_satellite (codes "> "
    ++ (codes "EPH" ++ 32 ∷ (row_satellite letter number ++ 32 ∷ k.message)))
    (first_of (row_lines ((row_satellite letter number ++ 32 ∷ []) ++ start) rows zs ++ more)) ≡
    true
unfolding digits
first_again k letter number moment start [] zs more some = absurd (omega arith)
first_again k letter number moment start (r ∷ rs) zs more some =
    rw (same_nat letter, same_nat (48 + number / 10 % 10), same_nat (48 + number % 10)) refl

long_kept : (early : Bool) (n : ℕ) (lines : List (List ℕ)) → is_long early n ≡ true
    → n ≤ length lines → completed early lines ≡ lines
long_kept false n lines e many = refl
long_kept true n lines e many =
    let more : 4 < n = ltb-true 4 n e in
    let no : nat_eq (length lines) 4 ≡ false
    = other_nat 4 (length lines) (omega (arith, many, more)) in
    rw no refl

-- the lines of a row, and others behind them, say its columns
pub said_again : (k : Kind) (row : RowValue) (more : List (List ℕ)) → IsKind k
    → AreFields k.layout.columns.now row.columns → IsMoment row.moment
    → ((r : RowKind) (letter number moment : ℕ) (fields : List ℤ) (more : List (List ℕ))
    → 0 < length r.rows → are_good (joined_rows r.rows) ≡ true
    → AreFields (joined_rows r.rows) fields
    → IsMoment moment
    → row_said r.rows (drop 1 (row_record r letter number moment fields) ++ more)
    ≡ Ok (record { moment = moment; fields = fields }))
    → ((rows : List (List Column)) (lines : List (List ℕ))
    → flat_said (map length rows) (joined_rows rows) lines ≡ row_said rows lines)
    → flat_said k.layout.rows.now k.layout.columns.now (drop 1 (record_of k row) ++ more)
    ≡ Ok (record { moment = row.moment; fields = row.columns })
said_again k row more is fields moment written laid =
    let rk = record_kind k in
    let rows = rows_are k is in
    let lines = drop 1 (record_of k row) ++ more in
    let count : length rk.rows ≡ length k.layout.rows.now
    = sym (length-map rk.rows (length {A = Column})) ∙ ap length (sym rows.rows) in
    ap₂ (λ ns cs. flat_said ns cs lines) rows.rows rows.columns ∙ laid rk.rows lines
    ∙ written rk k.letter row.number row.moment row.columns more
    (omega (arith, count, is.layout.some))
    (subst (λ cs. are_good cs ≡ true) rows.columns is.lines.good)
    (subst (λ cs. AreFields cs row.columns) rows.columns fields) moment

passes : {A B : Type 0} → (r : Result A RecordFault) (x : A) (f : A → Result B RecordFault) → r ≡ Ok x
    → (r >>= f) ≡ f x
passes r x f e = ap (λ s. s >>= f) e

pub read_again : (k : Kind) (row : RowValue) (more : List (List ℕ)) → IsKind k
    → AreFields k.layout.columns.now row.columns
    → IsInRange (field_at k.table.fields.now 1) (pos row.number)
    → epoch_fault k.clock row.moment row.columns ≡ None
    → flat_said k.layout.rows.now k.layout.columns.now (drop 1 (record_of k row) ++ more)
    ≡ Ok (record { moment = row.moment; fields = row.columns })
    → read_lines_of k (record_of k row ++ more) ≡ Ok row
unfolding row_read digits
read_again k row more is fields range epoch said =
    let rk = record_kind k in
    let rows = rows_are k is in
    let n = row.number in
    let title = row_title rk k.letter n in
    let lines = drop 1 (record_of k row) ++ more in
    let start = (row_satellite k.letter n ++ 32 ∷ []) ++ date_text (civil_to row.moment) in
    let count : length rk.rows ≡ length k.layout.rows.now
    = sym (length-map rk.rows (length {A = Column})) ∙ ap length (sym rows.rows) in
    let many : length k.layout.rows.now ≤ length lines
    = omega (
      arith,
      count,
      length-append (drop 1 (record_of k row)) more,
      lines_count start rk.rows row.columns,
    ) in
    let top = both (nat_lt 1 (length k.table.fields.now)
    && int_le (pos 0) (field_at k.table.fields.now 1).low)
    (int_le (field_at k.table.fields.now 1).high (pos 99)) is.satellite in
    let most = le_z_true (field_at k.table.fields.now 1).high (pos 99) top.1 in
    let few : n ≤ 99 = omega (arith, ints, most, range.1) in
    let number = number_again k title n (record {
      tens = refl;
      ones = refl;
      few = few;
      range = in_range_true (field_at k.table.fields.now 1) (pos n) range;
    }) in
    let kept = long_kept k.may_end_early (length k.layout.rows.now) lines is.ends many in
    let all : need (nat_le (length k.layout.rows.now) (length lines)) reasons.Short ≡ Ok true
    = ap (λ b. need b reasons.Short) (le-leb (length k.layout.rows.now) (length lines) many) in
    let same : need (same_satellite title (first_of lines)) reasons.BadSat ≡ Ok true
    = ap (λ b. need b reasons.BadSat)
    (first_again rk k.letter n row.moment (date_text (civil_to row.moment)) rk.rows row.columns more
    (omega (arith, count, is.layout.some))) in
    let fit : need (are_in_columns k.layout.columns.now row.columns) reasons.OutOfRange ≡ Ok true
    = ap (λ b. need b reasons.OutOfRange) (are_columns k.layout.columns.now row.columns fields) in
    let value : RowContent = record { moment = row.moment; fields = row.columns } in
    let judged : Bool → Result RowValue RecordFault
    = λ fit. with_epoch (epoch_fault k.clock row.moment row.columns) row in
    let told : Bool → Result RowValue RecordFault
    = λ same. flat_said k.layout.rows.now k.layout.columns.now lines >>= judged_row k n in
    let checked : Bool → Result RowValue RecordFault
    = λ all. need (same_satellite title (first_of lines)) reasons.BadSat >>= told in
    passes (number_stated k title) n
    (λ m. lines_read k m title (completed k.may_end_early lines)) number
    ∙ ap (lines_read k n title) kept
    ∙ passes (need (nat_le (length k.layout.rows.now) (length lines)) reasons.Short) true checked
    all
    ∙ passes (need (same_satellite title (first_of lines)) reasons.BadSat) true told same
    ∙ passes (flat_said k.layout.rows.now k.layout.columns.now lines) value (judged_row k n) said
    ∙ passes (need (are_in_columns k.layout.columns.now row.columns) reasons.OutOfRange) true
    judged fit
    ∙ ap (λ o. with_epoch o row) epoch
