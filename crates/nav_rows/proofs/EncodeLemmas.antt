-- Messages of rows: what the code needs, and rows and messages that come back.
use Rattle.std.proofs.Common.{◌≡◌, ℕ, zero, suc, ◌+◌, ◌-◌, ◌*◌, ◌/◌, ◌%◌, ◌^◌, ◌<◌, ◌≤◌, ◌&&◌, ◌||◌}
use Rattle.std.proofs.Common.{not, Bool, true, false, List, [], ◌∷◌, ◌++◌, length, refl}
use Rattle.std.proofs.Common.{sym}
use Rattle.std.proofs.Common.{ap, ap₂, ◌∙◌, subst, arith, ℤ, pos, negsuc, ◌≤ℤ◌, int_le}
use Rattle.std.proofs.Common.{unsigned_abs}
use Rattle.std.proofs.Common.{zero-add, inl, inr, Option, Some, None, Result, Ok, Err}
use Rattle.std.proofs.Common.{if◌then◌else◌}
use Rattle.std.specs.Prelude.{nat_eq, nat_le, nat_lt}
use Rattle.std.proofs.Math.Nat.{div-add-mod, mul-div_cancel_left, mul-mod_right}
use Rattle.std.proofs.lemmas.Nat.{mod_below}
use Rattle.std.proofs.lemmas.Int.{ints}
use Rattle.std.proofs.lemmas.Bool.{le-leb, leb-true, lt-ltb, ltb-true}
use Rattle.std.proofs.lemmas.Bool.Decides.{nat_tests}
use Rattle.nav_bits.specs.Packed.{AreBytes}
use Rattle.nav_eph.specs.Weeks.{IsReference, IsNearestMoment}
use Rattle.nav_eph.specs.Functions.{moment_near}
use Rattle.nav_eph.proofs.Surface.{moment_near-nearest, moment_near-only}
use Rattle.nav_tables.specs.declared.field.Field.{Field as TableField}
use Rattle.nav_tables.specs.declared.message.TableFault.{TableFault}
use Rattle.nav_tables.specs.Messages.{AreInRange, ArePlain, first_outside, message_bytes}
use Rattle.nav_tables.specs.Messages.{message_in}
use Rattle.nav_tables.specs.Messages.{starts}
use Rattle.nav_tables.proofs.Surface.{all_in_range, both, le_z_true, none_outside, range_length}
use Rattle.nav_tables.proofs.Surface.{read_in_range, read_written, start_is, starts_length}
use Rattle.nav_tables.proofs.Surface.{written_read}
use Rattle.nav_tables.specs.declared.link.Part.{Part}
use Rattle.nav_tables.specs.declared.link.Link.{Link}
use Rattle.nav_tables.specs.declared.link.Link.TheVariants.{Field, Opposite, Raised, Parts, Given}
use Rattle.nav_tables.specs.declared.link.Link.TheVariants.{Fixed}
use Rattle.nav_tables.specs.Links.{AreFit, AreStated, AreSmall, column_of, columns_of}
use Rattle.nav_tables.specs.Links.{filled}
use Rattle.nav_tables.specs.Links.{nth, say}
use Rattle.nav_tables.proofs.Surface.{back_all, column_at, columns_append, columns_length}
use Rattle.nav_tables.proofs.Surface.{filled_append, filled_length, fit_all, fit_append, right_all}
use Rattle.nav_tables.proofs.Surface.{said_append}
use Rattle.nav_tables.specs.declared.times.FrameTime.{FrameTime}
use Rattle.nav_tables.specs.declared.times.TimeFault.{TimeFault}
use Rattle.nav_tables.specs.declared.times.TimeFault.TheVariants as frames
use Rattle.nav_tables.specs.declared.times.Times.{Times}
use Rattle.nav_tables.specs.Times.{frame_in, times_to}
use Rattle.nav_tables.specs.Days.{distance}
use Rattle.nav_tables.specs.Weeks.{number_of_week, week_to}
use Rattle.nav_tables.proofs.Surface.{frame_epoch, frame_is, good_rule, near_is, number_again}
use Rattle.nav_tables.proofs.Surface.{ok_same}
use Rattle.nav_tables.proofs.Surface.{passed}
use Rattle.nav_tables.proofs.Surface.{times_near, week_again}
use Rattle.scaled_decimal.specs.declared.scales.Scale.{Scale}
use Rattle.rinex_write.specs.declared.columns.Rule.{Rule}
use Rattle.rinex_write.specs.declared.columns.Rule.TheVariants.{Plain, OrZero, OrLeast, OrUnknown}
use Rattle.rinex_write.specs.declared.columns.Rule.TheVariants.{Ura, Sisa, Fit, Sent, Unread}
use Rattle.rinex_write.specs.declared.columns.Column.{Column}
use Rattle.rinex_write.specs.Columns.{AreFields, IsField, are_good, is_below_unknown}
use Rattle.rinex_write.specs.Columns.{is_good_range, is_good_rule, is_good_scale, is_unknown}
use Rattle.rinex_read.specs.declared.reason.RecordFault.{RecordFault}
use Rattle.rinex_read.specs.Judging.{is_named_week}
use Rattle.nav_rows.specs.declared.kind.WeekClock.{WeekClock}
use Rattle.nav_rows.specs.declared.kind.Clock.{Clock}
use Rattle.nav_rows.specs.declared.kind.Clock.TheVariants.{Frame, Weeks, Daily}
use Rattle.nav_rows.specs.declared.kind.Kind.{Kind}
use Rattle.nav_rows.specs.declared.times.RowTimes.{RowTimes}
use Rattle.nav_rows.specs.declared.encode.EncodeFault.{EncodeFault}
use Rattle.nav_rows.specs.declared.encode.EncodeFault.TheVariants as faults
use Rattle.nav_rows.specs.declared.row.RowFault.TheVariants.{SpareSisa}
use Rattle.nav_rows.specs.Kinds.{IsKind, all_covered, all_links, are_stated, has_columns, has_times}
use Rattle.nav_rows.specs.Kinds.{has_weeks, head_links, is_given_at, is_of_field, is_whole, link_at}
use Rattle.nav_rows.specs.Times.{IsGiven, IsSatellite, frame_of, framed, number}
use Rattle.nav_rows.specs.Times.{times_stated}
use Rattle.nav_rows.specs.Times.{weekly}
use Rattle.nav_rows.specs.Rows.{RowValue, given_of, has_spare_sisa, row_at, row_by, row_in}
use Rattle.nav_rows.specs.Encoding.{AreUnstated, HasClock, IsNearRow, IsOfMessage, bytes_by}
use Rattle.nav_rows.specs.Encoding.{epoch_fault, frame_stated, head_of, frame_head, is_near_toe}
use Rattle.nav_rows.specs.Encoding.{judged_numbers}
use Rattle.nav_rows.specs.Encoding.{judged_row, known, known_in, message_of, numbers_after, numbers_in}
use Rattle.nav_rows.specs.Encoding.{stated_numbers}
use Rattle.nav_rows.specs.Encoding.{stated_times, toe_at, toe_week, week_head, with_head}
use Rattle.nav_rows.proofs.NumberLemmas.{clock_of, satellite_is, times_are}
use Rattle.nav_rows.proofs.RowLemmas.{front, good}

-- ---- the columns of a row

abs_small : (z : ℤ) → negsuc 4294967294 ≤ℤ z → z ≤ℤ pos 4294967295 → unsigned_abs z < 2 ^ 33
abs_small (pos n) a b = omega (arith, ints)
abs_small (negsuc n) a b = omega (arith, ints)

range_small : (low high z : ℤ) → is_good_range low high ≡ true → low ≤ℤ z → z ≤ℤ high
    → unsigned_abs z < 2 ^ 33
range_small low high z e from to =
    let a = both (int_le (negsuc 4294967294) low) (int_le high (pos 4294967295)) e in
    let x = le_z_true (negsuc 4294967294) low a.0 in
    let y = le_z_true high (pos 4294967295) a.1 in
    abs_small z (omega (arith, ints, x, from)) (omega (arith, ints, y, to))

field_small : (s : Scale) (rule : Rule) (z : ℤ) → is_good_rule s rule ≡ true → IsField rule z
    → unsigned_abs z < 2 ^ 33
field_small s (Plain low high) z e h = range_small low high z e h.0 h.1
field_small s (OrZero low high) z e h = range_small low high z e h.0 h.1
field_small s (OrLeast low high) z e h = range_small low high z e h.0 h.1
field_small s (OrUnknown low high) z e (inl h) =
    range_small low high z (both (is_good_range low high) (is_below_unknown s high) e).0 h.0 h.1
field_small s (OrUnknown low high) z e (inr h) =
    abs_small z (omega (arith, ints, h)) (omega (arith, ints, h))
field_small s Ura z e h = abs_small z (omega (arith, ints, h.0)) (omega (arith, ints, h.1))
field_small s Sisa z e (inl h) = abs_small z (omega (arith, ints, h.0)) (omega (arith, ints, h.1))
field_small s Sisa z e (inr h) = abs_small z (omega (arith, ints, h)) (omega (arith, ints, h))
field_small s Fit z e h = abs_small z (omega (arith, ints, h.0)) (omega (arith, ints, h.1))
field_small s Sent z e (inl h) = abs_small z (omega (arith, ints, h.0)) (omega (arith, ints, h.1))
field_small s Sent z e (inr h) = abs_small z (omega (arith, ints, h)) (omega (arith, ints, h))
field_small s (Unread n) z e h =
    range_small n n z e (omega (arith, ints, h)) (omega (arith, ints, h))

pub fields_small : (cs : List Column) (zs : List ℤ) → are_good cs ≡ true → AreFields cs zs
    → AreSmall zs
fields_small [] [] e h = tt
fields_small [] (z ∷ zs) e h = absurd h
fields_small (c ∷ cs) [] e h = absurd h
fields_small (c ∷ cs) (z ∷ zs) e h =
    let a = both (is_good_scale c.scale && is_good_rule c.scale c.rule) (are_good cs) e in
    let b = both (is_good_scale c.scale) (is_good_rule c.scale c.rule) a.0 in
    (field_small c.scale c.rule z b.1 h.0, fields_small cs zs a.1 h.1)

fields_length : (cs : List Column) (zs : List ℤ) → AreFields cs zs → length zs ≡ length cs
fields_length [] [] h = refl
fields_length [] (z ∷ zs) h = absurd h
fields_length (c ∷ cs) [] h = absurd h
fields_length (c ∷ cs) (z ∷ zs) h = ap suc (fields_length cs zs h.1)

small_at : (zs : List ℤ) (k : ℕ) → AreSmall zs → number zs k < 2 ^ 33
small_at [] k h = omega arith
small_at (z ∷ zs) zero h = h.0
small_at (z ∷ zs) (suc k) h = small_at zs k h.1

clock_by : (clock : Clock) (fs : List TableField) (links : List Link) (columns : List ℤ)
    → has_times clock fs ≡ true → has_columns clock links ≡ true → length columns ≡ length links
    → AreSmall columns → HasClock clock columns
clock_by Frame fs links columns t e count small =
    let a = both (nat_lt 18 (length links)) (is_given_at 1 (link_at links 2)) e in
    let inside = ltb-true 18 (length links) a.0 in
    record {
      inside = omega (arith, inside, count);
      status = small_at columns 15 small;
      health = small_at columns 18 small;
    }
clock_by (Daily step) fs links columns t e count small = ltb-true 0 step t
clock_by (Weeks c) fs links columns t e count small =
    let a = both (nat_lt 21 (length links) && is_of_field c.toe (link_at links 11))
    (is_given_at 0 (link_at links 21)) e in
    let b = both (nat_lt 21 (length links)) (is_of_field c.toe (link_at links 11)) a.0 in
    let inside = ltb-true 21 (length links) b.0 in
    let g = clock_of c fs t in
    record {
      inside = omega (arith, inside, count);
      toe = small_at columns 11 small;
      week = small_at columns 21 small;
      some = g.step;
      most = g.most;
      zero = omega (arith, g.zero, g.late);
    }

-- the columns, with 0 for a number that is not known, are as many, and as small
pub known_length : (cs : List Column) (zs : List ℤ) → AreFields cs zs
    → length (known cs zs) ≡ length zs
unfolding known
known_length [] [] h = refl
known_length [] (z ∷ zs) h = absurd h
known_length (c ∷ cs) [] h = absurd h
known_length (c ∷ cs) (z ∷ zs) h = ap suc (known_length cs zs h.1)

known_one : (b : Bool) (z : ℤ) → unsigned_abs z < 2 ^ 33
    → unsigned_abs (if b then pos 0 else z) < 2 ^ 33
known_one true z h = omega arith
known_one false z h = h

pub known_small : (cs : List Column) (zs : List ℤ) → AreFields cs zs → AreSmall zs
    → AreSmall (known cs zs)
unfolding known
known_small [] [] h small = tt
known_small [] (z ∷ zs) h small = absurd h
known_small (c ∷ cs) [] h small = absurd h
known_small (c ∷ cs) (z ∷ zs) h small =
    (known_one (is_unknown c.rule z) z small.0, known_small cs zs h.1 small.1)

-- what is known of the columns of a row
pub record IsRow (k : Kind) (columns : List ℤ) : Type 0 where
  pub count : length columns ≡ length k.links.now
  pub small : AreSmall columns
  pub clock : HasClock k.clock columns

pub row_is : (k : Kind) (columns : List ℤ) → IsKind k → AreFields k.layout.columns.now columns
    → IsRow k columns
row_is k columns is h =
    let same = covered_length k.clock k.sisa k.table.fields.now k.parts.now k.links.now
    k.layout.columns.now is.covered in
    let count : length columns ≡ length k.links.now
    = fields_length k.layout.columns.now columns h ∙ sym same in
    let small = fields_small k.layout.columns.now columns is.lines.good h in
    record {
      count = count;
      small = small;
      clock = clock_by k.clock k.table.fields.now k.links.now columns is.times is.columns count
          small;
    }
  where
    covered_length : (clock : Clock) (sisa : Option ℕ) (fs : List TableField) (parts : List Part)
        (ls : List Link) (cs : List Column) → all_covered clock sisa fs parts ls cs ≡ true
        → length ls ≡ length cs
    covered_length clock sisa fs parts [] [] e = refl
    covered_length clock sisa fs parts [] (c ∷ cs) e = absurd cc
    covered_length clock sisa fs parts (l ∷ ls) [] e = absurd cc
    covered_length clock sisa fs parts (l ∷ ls) (c ∷ cs) e =
        ap suc (covered_length clock sisa fs parts ls cs
        (both _ (all_covered clock sisa fs parts ls cs) e).1)

-- ---- numbers of a message that come back

unfolding_head : (clock : Clock) (parts : List Part) (zs : List ℤ)
    → AreFit parts (head_links clock) zs
unfolding_head Frame parts zs = (tt, (tt, (tt, (tt, (tt, (tt, (tt, (tt, tt))))))))
unfolding_head (Weeks c) parts zs = (tt, (tt, (tt, tt)))
unfolding_head (Daily step) parts zs = (tt, tt)

carried : (k : Kind) (zs given : List ℤ) → IsKind k → AreInRange k.table.fields.now zs
    → AreUnstated k zs
    → filled k.parts.now (head_links k.clock) (columns_of k.parts.now (head_links k.clock) zs given)
    (filled k.parts.now k.links.now (columns_of k.parts.now k.links.now zs given)
    (starts k.table.fields.now)) ≡ zs
carried k zs given is range each =
    let fs = k.table.fields.now in
    let ps = k.parts.now in
    let ls = k.links.now in
    let hs = head_links k.clock in
    let count : length (starts fs) ≡ length zs = starts_length fs
    ∙ sym (range_length fs zs range) in
    let fit = fit_append ps ls hs zs (fit_all fs ps ls zs (front k is) is.fit range)
    (unfolding_head k.clock ps zs) in
    let whole : filled ps (ls ++ hs) (columns_of ps (ls ++ hs) zs given) (starts fs) ≡ zs
    = right_all (length fs) ps (ls ++ hs) zs given (starts fs) is.links fit
    (record { count = count; few = starts_length fs; each = each }) in
    sym (filled_append ps ls hs (columns_of ps ls zs given) (columns_of ps hs zs given) (starts fs)
    (columns_length ps ls zs given))
    ∙ ap (λ cs. filled ps (ls ++ hs) cs (starts fs)) (sym (columns_append ps ls hs zs given))
    ∙ whole

or_second : (a b : Bool) → a ≡ false → (a || b) ≡ true → b ≡ true
or_second true b unsaid e = absurd cc
or_second false b unsaid e = e

said_each : (ps : List Part) (ls : List Link) (k : ℕ) (fs : List TableField) (zs : List ℤ)
    → are_stated ps ls k fs ≡ true → AreInRange fs zs → (j : ℕ) → say ps ls (k + j) ≡ false
    → nth (starts fs) j ≡ nth zs j
unfolding starts
said_each ps ls k [] [] e range j unsaid = refl
said_each ps ls k [] (z ∷ zs) e range j unsaid = absurd range
said_each ps ls k (f ∷ fs) [] e range j unsaid = absurd range
said_each ps ls k (f ∷ fs) (z ∷ zs) e range zero unsaid =
    let a = both (say ps ls k || int_le f.high f.low) (are_stated ps ls (suc k) fs) e in
    let place : k ≡ k + 0 = omega arith in
    let here : say ps ls k ≡ false = ap (say ps ls) place ∙ unsaid in
    start_is f z (or_second (say ps ls k) (int_le f.high f.low) here a.0) range.0
said_each ps ls k (f ∷ fs) (z ∷ zs) e range (suc j) unsaid =
    let a = both (say ps ls k || int_le f.high f.low) (are_stated ps ls (suc k) fs) e in
    let place : suc k + j ≡ k + suc j = omega arith in
    said_each ps ls (suc k) fs zs a.1 range.1 j (ap (say ps ls) place ∙ unsaid)

-- ---- what a message that is read is

pub record IsRead (k : Kind) (bytes : List ℕ) (r : ℕ) (row : RowValue) : Type 0 where
  pub numbers : List ℤ
  pub read : message_in k.table bytes ≡ Ok numbers
  pub spare : has_spare_sisa k.sisa numbers ≡ false
  pub times : RowTimes
  pub told : times_stated k.clock numbers r ≡ Some times
  pub is : row ≡ record {
    number = number numbers 1;
    moment = times.epoch;
    columns = columns_of k.parts.now k.links.now numbers (given_of times);
  }

read_at : (k : Kind) (bytes : List ℕ) (r : ℕ) (zs : List ℤ) (row : RowValue) (o : Option RowTimes)
    → times_stated k.clock zs r ≡ o → has_spare_sisa k.sisa zs ≡ false
    → message_in k.table bytes ≡ Ok zs → row_at k zs o ≡ Ok row → IsRead k bytes r row
read_at k bytes r zs row None told spare read h = absurd cc
read_at k bytes r zs row (Some t) told spare read h =
    let value : RowValue = record {
      number = number zs 1;
      moment = t.epoch;
      columns = columns_of k.parts.now k.links.now zs (given_of t);
    } in
    record {
      numbers = zs;
      read = read;
      spare = spare;
      times = t;
      told = told;
      is = sym (ok_same (row_at k zs (Some t)) value row refl h);
    }

read_spare : (k : Kind) (bytes : List ℕ) (r : ℕ) (zs : List ℤ) (row : RowValue) (b : Bool)
    → has_spare_sisa k.sisa zs ≡ b → message_in k.table bytes ≡ Ok zs
    → row_by k r (Ok zs) ≡ Ok row → IsRead k bytes r row
read_spare k bytes r zs row true s e h = let no : Err SpareSisa ≡ Ok row = rw s at h in absurd cc
read_spare k bytes r zs row false s e h =
    read_at k bytes r zs row (times_stated k.clock zs r) refl s e (rw s at h)

read_by : (k : Kind) (bytes : List ℕ) (r : ℕ) (row : RowValue) (m : Result (List ℤ) TableFault)
    → message_in k.table bytes ≡ m → row_by k r m ≡ Ok row → IsRead k bytes r row
read_by k bytes r row (Err fault) e h = absurd cc
read_by k bytes r row (Ok zs) e h = read_spare k bytes r zs row (has_spare_sisa k.sisa zs) refl e h

is_read : (k : Kind) (bytes : List ℕ) (r : ℕ) (row : RowValue) → row_in k bytes r ≡ Ok row
    → IsRead k bytes r row
is_read k bytes r row h = read_by k bytes r row (message_in k.table bytes) refl h

-- ---- links of times

pos_back : (z : ℤ) → pos 0 ≤ℤ z → pos (unsigned_abs z) ≡ z
pos_back (pos n) h = refl
pos_back (negsuc n) h = absurd (omega (arith, ints))

given_is : (l : Link) (p : ℕ) (ps : List Part) (zs given : List ℤ) → is_given_at p l ≡ true
    → column_of ps l zs given ≡ nth given p
given_is (Field f) p ps zs given e = absurd cc
given_is (Opposite f) p ps zs given e = absurd cc
given_is (Raised f plus) p ps zs given e = absurd cc
given_is (Parts first count) p ps zs given e = absurd cc
given_is (Given q) p ps zs given e =
    let same : q ≡ p = grind (arith, nat_tests) in
    ap (nth given) same
given_is (Fixed n) p ps zs given e = absurd cc

field_is : (l : Link) (f : ℕ) (ps : List Part) (zs given : List ℤ) → is_of_field f l ≡ true
    → column_of ps l zs given ≡ nth zs f
field_is (Field g) f ps zs given e =
    let same : g ≡ f = grind (arith, nat_tests) in
    ap (nth zs) same
field_is (Opposite g) f ps zs given e = absurd cc
field_is (Raised g plus) f ps zs given e = absurd cc
field_is (Parts first count) f ps zs given e = absurd cc
field_is (Given q) f ps zs given e = absurd cc
field_is (Fixed n) f ps zs given e = absurd cc

-- where the columns with weeks are
record HasWeekColumns (c : WeekClock) (ls : List Link) : Type 0 where
  pub inside : 21 < length ls
  pub toe : is_of_field c.toe (link_at ls 11) ≡ true
  pub week : is_given_at 0 (link_at ls 21) ≡ true

week_columns : (c : WeekClock) (ls : List Link) → has_columns (Weeks c) ls ≡ true
    → HasWeekColumns c ls
week_columns c ls e =
    let a = both (nat_lt 21 (length ls) && is_of_field c.toe (link_at ls 11))
    (is_given_at 0 (link_at ls 21)) e in
    let b = both (nat_lt 21 (length ls)) (is_of_field c.toe (link_at ls 11)) a.0 in
    record { inside = ltb-true 21 (length ls) b.0; toe = b.1; week = a.1 }

toe_is : (c : WeekClock) (ps : List Part) (ls : List Link) (zs given : List ℤ)
    → HasWeekColumns c ls → number (columns_of ps ls zs given) 11 ≡ number zs c.toe
toe_is c ps ls zs given h =
    ap unsigned_abs (column_at ps ls 11 zs given (Fixed (pos 0)) (omega (arith, h.inside))
    ∙ field_is (link_at ls 11) c.toe ps zs given h.toe)

week_is_given : (c : WeekClock) (ps : List Part) (ls : List Link) (zs given : List ℤ)
    → HasWeekColumns c ls → number (columns_of ps ls zs given) 21 ≡ number given 0
week_is_given c ps ls zs given h =
    ap unsigned_abs (column_at ps ls 21 zs given (Fixed (pos 0)) h.inside
    ∙ given_is (link_at ls 21) 0 ps zs given h.week)

-- ---- epochs

epoch_none : (c : WeekClock) (m : ℕ) (cs : List ℤ) → 1 ≤ toe_week c cs → toe_week c cs ≤ 16382
    → m % 604800 % c.step ≡ 0 → toe_at c cs < m + 302400 → m ≤ toe_at c cs + 302400
    → epoch_fault (Weeks c) m cs ≡ None
epoch_none c m cs some most step from to =
    rw (
      le-leb 1 (toe_week c cs) some,
      le-leb (toe_week c cs) 16382 most,
      step,
      lt-ltb (toe_at c cs) (m + 302400) from,
      le-leb m (toe_at c cs + 302400) to,
    ) refl

none_passed : (b : Bool) (reason : RecordFault) (rest : Option RecordFault)
    → (if not b then Some reason else rest) ≡ None → (b ≡ true) × (rest ≡ None)
none_passed true reason rest h = (refl, h)
none_passed false reason rest h = absurd cc

-- what an epoch of its kind says
record IsEpoch (c : WeekClock) (m : ℕ) (cs : List ℤ) : Type 0 where
  pub step : m % 604800 % c.step ≡ 0
  pub from : toe_at c cs < m + 302400
  pub to : m ≤ toe_at c cs + 302400

epoch_is : (c : WeekClock) (m : ℕ) (cs : List ℤ) → epoch_fault (Weeks c) m cs ≡ None
    → IsEpoch c m cs
epoch_is c m cs h =
    let a = none_passed (nat_le 1 (toe_week c cs) && nat_le (toe_week c cs) 16382) _ _ h in
    let b = none_passed (nat_eq (m % 604800 % c.step) 0) _ _ a.1 in
    let d = none_passed (is_near_toe m (toe_at c cs)) _ None b.1 in
    let near = both (nat_lt (toe_at c cs) (m + 302400)) (nat_le m (toe_at c cs + 302400)) d.0 in
    let whole : m % 604800 % c.step ≡ 0 = (let e = b.0 in grind (arith, nat_tests)) in
    record {
      step = whole;
      from = ltb-true (toe_at c cs) (m + 302400) near.0;
      to = leb-true m (toe_at c cs + 302400) near.1;
    }

-- ---- messages that come back

-- the epoch of a row is one of its kind, and its head is that of the numbers
record IsBack (clock : Clock) (ps : List Part) (zs given : List ℤ) (row : RowValue) : Type 0 where
  pub epoch : epoch_fault clock row.moment row.columns ≡ None
  pub head : head_of clock row ≡ Ok (columns_of ps (head_links clock) zs given)

three : (a b c a' b' c' : ℤ) → a ≡ a' → b ≡ b' → c ≡ c' → a ∷ b ∷ c ∷ [] ≡ a' ∷ b' ∷ c' ∷ []
three a b c a' b' c' e f g = cc

-- the row of these numbers and times
abbrev row_of : List Part → List Link → List ℤ → RowTimes → RowValue
row_of ps ls zs t = record {
  number = number zs 1;
  moment = t.epoch;
  columns = columns_of ps ls zs (given_of t);
}

week_back : (c : WeekClock) (fs : List TableField) (ps : List Part) (ls : List Link) (zs : List ℤ)
    (r : ℕ) → has_times (Weeks c) fs ≡ true → HasWeekColumns c ls → IsSatellite zs
    → IsReference r → AreInRange fs zs
    → IsBack (Weeks c) ps zs (given_of (weekly c zs r)) (row_of ps ls zs (weekly c zs r))
unfolding columns_of
week_back c fs ps ls zs r e h satellite reference range =
    let t = weekly c zs r in
    let given = given_of t in
    let cs = columns_of ps ls zs given in
    let n = number zs c.week in
    let has = (times_are (Weeks c) fs zs e range).1 in
    let g = clock_of c fs e in
    let rule = good_rule c.rule g.rule in
    let w = week_to c.rule r n in
    let near = near_is c.rule r n in
    let some : 1 ≤ w = omega (arith, near.from, g.some, reference.0) in
    let most : w ≤ 16382
    = omega (arith, near.to, g.late, reference.1, rule.some, rule.most) in
    let above : c.zero ≤ w = omega (arith, g.zero, near.from) in
    let week : toe_week c cs ≡ w = omega (arith, week_is_given c ps ls zs given h, above) in
    let toe = toe_is c ps ls zs given h in
    let T = 604800 * w + c.step * number zs c.toe in
    let S = c.step * number zs c.toc in
    let at : toe_at c cs ≡ T = ap₂ (λ a b. 604800 * a + c.step * b) week toe in
    let is : IsNearestMoment T S (moment_near T S)
    = moment_near-nearest T S (omega (arith, some)) has.toc_to in
    let m = moment_near T S in
    let second : m % 604800 ≡ S = is.second_is in
    let step : m % 604800 % c.step ≡ 0
    = ap (λ s. s % c.step) second ∙ mul-mod_right c.step (number zs c.toc) in
    let toc : m % 604800 / c.step ≡ number zs c.toc
    = ap (λ s. s / c.step) second ∙ mul-div_cancel_left (number zs c.toc) (omega (arith, g.step)) in
    let again : number_of_week c.rule (toe_week c cs) ≡ n
    = ap (number_of_week c.rule) week ∙ number_again c.rule r n has.week_to in
    record {
      epoch = epoch_none c m cs (omega (arith, week, some)) (omega (arith, week, most)) step
          (omega (arith, at, is.from)) (omega (arith, at, is.to));
      head = ap Ok (three (pos (number zs 1)) (pos (number_of_week c.rule (toe_week c cs)))
          (pos (m % 604800 / c.step)) (nth zs 1) (nth zs c.week) (nth zs c.toc)
          (pos_back (nth zs 1) satellite.number.from)
          (ap pos again ∙ pos_back (nth zs c.week) has.week.from)
          (ap pos toc ∙ pos_back (nth zs c.toc) has.toc.from));
    }

some_same : (t u : RowTimes) → Some t ≡ Some u → t ≡ u
some_same t u e = cc

back_by : (clock : Clock) (fs : List TableField) (ps : List Part) (ls : List Link) (zs : List ℤ)
    (r : ℕ) (t : RowTimes) → has_weeks clock ≡ true → has_times clock fs ≡ true
    → has_columns clock ls ≡ true → IsSatellite zs → IsReference r → AreInRange fs zs
    → times_stated clock zs r ≡ Some t → IsBack clock ps zs (given_of t) (row_of ps ls zs t)
back_by Frame fs ps ls zs r t weeks e h satellite reference range told = absurd cc
back_by (Daily step) fs ps ls zs r t weeks e h satellite reference range told = absurd cc
back_by (Weeks c) fs ps ls zs r t weeks e h satellite reference range told =
    subst (λ u. IsBack (Weeks c) ps zs (given_of u) (row_of ps ls zs u))
    (some_same (weekly c zs r) t told)
    (week_back c fs ps ls zs r e (week_columns c ls h) satellite reference range)

-- the times of a frame, and of a message with a week, are such as records tell
given_frame : (clock : Clock) (zs : List ℤ) (r : ℕ) (t : RowTimes) → has_weeks clock ≡ false
    → times_stated clock zs r ≡ Some t → IsGiven clock t
given_frame (Weeks c) zs r t frame told = absurd cc
given_frame (Daily step) zs r t frame told = absurd cc
given_frame Frame zs r t frame told = go (times_to (frame_of zs) r) told
  where
    go : (o : Option Times) → framed o ≡ Some t → IsGiven Frame t
    go None e = absurd cc
    go (Some x) e =
        let is : RowTimes = record { epoch = x.epoch; week = 0; sent = x.frame % 604800 } in
        let few = mod_below x.frame 604800 (omega arith) in
        subst (IsGiven Frame) (some_same is t e)
        (record { from = omega arith; to = omega arith; sent = omega (arith, few) })

given_by : (clock : Clock) (fs : List TableField) (zs : List ℤ) (r : ℕ) (t : RowTimes)
    → has_times clock fs ≡ true → IsReference r → AreInRange fs zs
    → times_stated clock zs r ≡ Some t → IsGiven clock t
given_by Frame fs zs r t e reference range told = given_frame Frame zs r t refl told
given_by (Daily step) fs zs r t e reference range told = absurd cc
given_by (Weeks c) fs zs r t e reference range told =
    let n = number zs c.week in
    let g = clock_of c fs e in
    let rule = good_rule c.rule g.rule in
    let w = week_to c.rule r n in
    let near = near_is c.rule r n in
    let some : 1 ≤ w = omega (arith, near.from, g.some, reference.0) in
    let most : w ≤ 16382
    = omega (arith, near.to, g.late, reference.1, rule.some, rule.most) in
    subst (IsGiven (Weeks c)) (some_same (weekly c zs r) t told)
    (record { from = grind arith; to = omega (arith, most); sent = omega arith })

-- the numbers of a row whose head and columns are those of the numbers
sent_is : (k : Kind) (row : RowValue) (zs head : List ℤ)
    → epoch_fault k.clock row.moment row.columns ≡ None → head_of k.clock row ≡ Ok head
    → filled k.parts.now (head_links k.clock) head (stated_numbers k row) ≡ zs
    → AreInRange k.table.fields.now zs → has_spare_sisa k.sisa zs ≡ false
    → numbers_in k row ≡ Ok zs
unfolding numbers_in
sent_is k row zs head epoch told whole range spare =
    let judged : judged_row k (Ok zs) ≡ Ok zs
    = rw (none_outside 0 k.table.fields.now zs range, spare) refl in
    ap (numbers_after k row) epoch
    ∙ ap (λ h. judged_row k (with_head k.parts.now k.clock h (stated_numbers k row))) told
    ∙ ap (λ ns. judged_row k (Ok ns)) whole ∙ judged

back_whole : (k : Kind) (bytes : List ℕ) (zs : List ℤ) (t : RowTimes) → IsKind k
    → AreBytes k.table.bytes bytes → ArePlain bytes 0 k.table.fields.now
    → message_in k.table bytes ≡ Ok zs → has_spare_sisa k.sisa zs ≡ false → AreUnstated k zs
    → IsGiven k.clock t → IsBack k.clock k.parts.now zs (given_of t) (row_of k.parts.now k.links.now zs t)
    → message_of k (row_of k.parts.now k.links.now zs t) ≡ Ok bytes
back_whole k bytes zs t is are plain read spare unsaid given back =
    let range = read_in_range k.table bytes zs read in
    let row = row_of k.parts.now k.links.now zs t in
    let head = columns_of k.parts.now (head_links k.clock) zs (given_of t) in
    let same = (good k zs is range).are_known t given in
    let whole = ap (λ cs. filled k.parts.now (head_links k.clock) head
    (filled k.parts.now k.links.now cs (starts k.table.fields.now))) same
    ∙ carried k zs (given_of t) is range unsaid in
    let numbers = sent_is k row zs head back.epoch back.head whole range spare in
    ap (bytes_by k) numbers ∙ ap Ok (read_written k.table bytes zs is.table are plain read)

pub weeks_back : (k : Kind) (bytes : List ℕ) (r : ℕ) (row : RowValue) → IsKind k
    → is_whole k ≡ true → IsReference r → AreBytes k.table.bytes bytes
    → ArePlain bytes 0 k.table.fields.now → row_in k bytes r ≡ Ok row
    → message_of k row ≡ Ok bytes
weeks_back k bytes r row is whole reference are plain h =
    let fs = k.table.fields.now in
    let d = is_read k bytes r row h in
    let range = read_in_range k.table bytes d.numbers d.read in
    let a = both (has_weeks k.clock)
    (are_stated k.parts.now (all_links k.clock k.links.now) 0 fs) whole in
    let back = back_by k.clock fs k.parts.now k.links.now d.numbers r d.times a.0 is.times
    is.columns
    (satellite_is fs d.numbers is.satellite range) reference range d.told in
    ap (message_of k) d.is
    ∙ back_whole k bytes d.numbers d.times is are plain d.read d.spare
    (λ j unsaid. said_each k.parts.now (all_links k.clock k.links.now) 0 fs d.numbers a.1 range j
    (ap (say k.parts.now (all_links k.clock k.links.now)) (zero-add j) ∙ unsaid))
    (given_by k.clock fs d.numbers r d.times is.times reference range d.told) back

eight : (a b c d e f g h a' b' c' d' e' f' g' h' : ℤ) → a ≡ a' → b ≡ b' → c ≡ c' → d ≡ d' → e ≡ e'
    → f ≡ f' → g ≡ g' → h ≡ h'
    → a ∷ b ∷ c ∷ d ∷ e ∷ f ∷ g ∷ h ∷ [] ≡ a' ∷ b' ∷ c' ∷ d' ∷ e' ∷ f' ∷ g' ∷ h' ∷ []
eight a b c d e f g h a' b' c' d' e' f' g' h' i j k l m n o p = cc

-- what a frame's time says
record IsStated (m sent : ℕ) (t : FrameTime) : Type 0 where
  pub few : sent < 604800
  pub late : 604800 ≤ m
  pub is : frame_in (record { epoch = m; frame = moment_near m sent }) ≡ Ok t

said_is : (m sent : ℕ) (t : FrameTime) → frame_stated m sent ≡ Ok t → IsStated m sent t
said_is m sent t h =
    let a = passed (nat_lt sent 604800) frames.Sent _ t h in
    let b = passed (is_named_week m) frames.Day _ t a.1 in
    let some = leb-true 1 (m / 604800)
    (both (nat_le 1 (m / 604800)) (nat_le (m / 604800) 16382) b.0).0 in
    record { few = ltb-true sent 604800 a.0; late = omega (arith, some); is = b.1 }

frame_back : (clock : Clock) (fs : List TableField) (ps : List Part) (zs given : List ℤ)
    (row : RowValue) (r : ℕ) (t : RowTimes) → times_stated clock zs r ≡ Some t
    → has_weeks clock ≡ false → has_times clock fs ≡ true → IsSatellite zs
    → AreInRange fs zs → row.number ≡ number zs 1
    → frame_stated row.moment (number row.columns 2) ≡ Ok (frame_of zs) → IsBack clock ps zs given row
unfolding columns_of
frame_back (Weeks c) fs ps zs given row r t times frame e satellite range same told = absurd cc
frame_back (Daily step) fs ps zs given row r t times frame e satellite range same told = absurd cc
frame_back Frame fs ps zs given row r t times frame e satellite range same told =
    let has = times_are Frame fs zs e range in
    let said = said_is row.moment (number row.columns 2) (frame_of zs) told in
    let quarter : row.moment % 900 ≡ 0 = frame_epoch _ (frame_of zs) said.is in
    record {
      epoch = rw quarter refl;
      head = ap (frame_head row.number) told
          ∙ ap Ok (eight _ _ _ _ _ _ _ _ (nth zs 1) (nth zs 32) (nth zs 35) (nth zs 30) (nth zs 6)
          (nth zs 7) (nth zs 8) (nth zs 11)
          (ap pos same ∙ pos_back (nth zs 1) satellite.number.from)
          (pos_back (nth zs 32) has.additional.from) (pos_back (nth zs 35) has.period.from)
          (pos_back (nth zs 30) has.day.from) (pos_back (nth zs 6) has.hour.from)
          (pos_back (nth zs 7) has.minute.from) (pos_back (nth zs 8) has.half.from)
          (pos_back (nth zs 11) has.quarter.from));
    }

pub frames_back : (k : Kind) (bytes : List ℕ) (r : ℕ) (row : RowValue) (zs : List ℤ) → IsKind k
    → has_weeks k.clock ≡ false → AreBytes k.table.bytes bytes
    → ArePlain bytes 0 k.table.fields.now → message_in k.table bytes ≡ Ok zs
    → row_in k bytes r ≡ Ok row → AreUnstated k zs
    → frame_stated row.moment (number row.columns 2) ≡ Ok (frame_of zs)
    → message_of k row ≡ Ok bytes
frames_back k bytes r row zs is frame are plain read h unsaid told =
    let fs = k.table.fields.now in
    let d = is_read k bytes r row h in
    let same : d.numbers ≡ zs = ok_same (message_in k.table bytes) d.numbers zs d.read read in
    let range = read_in_range k.table bytes d.numbers d.read in
    let value = row_of k.parts.now k.links.now d.numbers d.times in
    let said : frame_stated value.moment (number value.columns 2) ≡ Ok (frame_of d.numbers)
    = ap (λ v. frame_stated v.moment (number v.columns 2)) (sym d.is) ∙ told
    ∙ ap (λ ns. Ok (frame_of ns)) (sym same) in
    ap (message_of k) d.is
    ∙ back_whole k bytes d.numbers d.times is are plain d.read d.spare
    (subst (AreUnstated k) (sym same) unsaid)
    (given_frame k.clock d.numbers r d.times frame d.told)
    (frame_back k.clock fs k.parts.now d.numbers (given_of d.times) value r d.times d.told frame
    is.times
    (satellite_is fs d.numbers is.satellite range) range refl said)

-- ---- rows that come back

-- what the numbers of a row are
record IsSent (k : Kind) (row : RowValue) (bytes : List ℕ) : Type 0 where
  pub numbers : List ℤ
  pub head : List ℤ
  pub epoch : epoch_fault k.clock row.moment row.columns ≡ None
  pub told : head_of k.clock row ≡ Ok head
  pub whole : filled k.parts.now (head_links k.clock) head (stated_numbers k row) ≡ numbers
  pub range : AreInRange k.table.fields.now numbers
  pub spare : has_spare_sisa k.sisa numbers ≡ false
  pub bytes_are : bytes ≡ message_bytes k.table numbers

-- the numbers of a judged row
record IsJudged (k : Kind) (zs ns : List ℤ) : Type 0 where
  pub same : zs ≡ ns
  pub inside : first_outside 0 k.table.fields.now zs ≡ None
  pub spare : has_spare_sisa k.sisa zs ≡ false

judged_spare : (k : Kind) (zs ns : List ℤ) (b : Bool) → has_spare_sisa k.sisa zs ≡ b
    → first_outside 0 k.table.fields.now zs ≡ None → judged_numbers k zs None ≡ Ok ns
    → IsJudged k zs ns
judged_spare k zs ns true s none h =
    let no : Err faults.SpareSisa ≡ Ok ns = rw s at h in
    absurd cc
judged_spare k zs ns false s none h =
    let is : judged_numbers k zs None ≡ Ok zs = rw s refl in
    record { same = ok_same (judged_numbers k zs None) zs ns is h; inside = none; spare = s }

judged_is : (k : Kind) (zs ns : List ℤ) (o : Option ℕ) → first_outside 0 k.table.fields.now zs ≡ o
    → judged_numbers k zs o ≡ Ok ns → IsJudged k zs ns
judged_is k zs ns (Some field) e h = absurd cc
judged_is k zs ns None e h = judged_spare k zs ns (has_spare_sisa k.sisa zs) refl e h

sent_head : (k : Kind) (row : RowValue) (ns : List ℤ) (out : List ℕ)
    (h : Result (List ℤ) EncodeFault)
    → epoch_fault k.clock row.moment row.columns ≡ None → head_of k.clock row ≡ h
    → out ≡ message_bytes k.table ns
    → judged_row k (with_head k.parts.now k.clock h (stated_numbers k row)) ≡ Ok ns
    → IsSent k row out
sent_head k row ns out (Err fault) epoch e are j = absurd cc
sent_head k row ns out (Ok head) epoch e are j =
    let fs = k.table.fields.now in
    let zs = filled k.parts.now (head_links k.clock) head (stated_numbers k row) in
    let d = judged_is k zs ns (first_outside 0 fs zs) refl j in
    let count : length zs ≡ length fs
    = filled_length k.parts.now (head_links k.clock) head (stated_numbers k row)
    ∙ filled_length k.parts.now k.links.now (known_in k row) (starts fs) ∙ starts_length fs in
    record {
      numbers = ns;
      head = head;
      epoch = epoch;
      told = e;
      whole = d.same;
      range = subst (AreInRange fs) d.same (all_in_range 0 fs zs count d.inside);
      spare = subst (λ xs. has_spare_sisa k.sisa xs ≡ false) d.same d.spare;
      bytes_are = are;
    }

sent_epoch : (k : Kind) (row : RowValue) (out : List ℕ) (ns : List ℤ) (o : Option RecordFault)
    → epoch_fault k.clock row.moment row.columns ≡ o → out ≡ message_bytes k.table ns
    → numbers_after k row o ≡ Ok ns → IsSent k row out
sent_epoch k row out ns (Some reason) e are h = absurd cc
sent_epoch k row out ns None e are h =
    sent_head k row ns out (head_of k.clock row) e refl are h

sent_bytes : (k : Kind) (row : RowValue) (out : List ℕ) (n : Result (List ℤ) EncodeFault)
    → numbers_in k row ≡ n → bytes_by k n ≡ Ok out → IsSent k row out
unfolding numbers_in
sent_bytes k row out (Err fault) e h = absurd cc
sent_bytes k row out (Ok ns) e h =
    sent_epoch k row out ns (epoch_fault k.clock row.moment row.columns) refl
    (sym (ok_same (bytes_by k (Ok ns)) (message_bytes k.table ns) out refl h)) e

-- two lists that begin with as many elements
halves : (xs us ys vs : List ℤ) → length xs ≡ length us → xs ++ ys ≡ us ++ vs
    → (xs ≡ us) × (ys ≡ vs)
halves [] [] ys vs e h = (refl, h)
halves [] (u ∷ us) ys vs e h = absurd (omega arith)
halves (x ∷ xs) [] ys vs e h = absurd (omega arith)
halves (x ∷ xs) (u ∷ us) ys vs e h =
    let first : x ≡ u = cc in
    let rest : xs ++ ys ≡ us ++ vs = cc in
    let a = halves xs us ys vs (omega arith) rest in
    (ap₂ (λ y zs. y ∷ zs) first a.0, a.1)

said_length : (ps : List Part) (ls : List Link) (given cs : List ℤ) → AreStated ps ls given cs
    → length cs ≡ length ls
said_length ps [] given [] h = refl
said_length ps [] given (c ∷ cs) h = absurd h
said_length ps (l ∷ ls) given [] h = absurd h
said_length ps (l ∷ ls) given (c ∷ cs) h = ap suc (said_length ps ls given cs h.1)

said_frame : (ps : List Part) (given head : List ℤ) (satellite : ℕ) (o : Result FrameTime TimeFault)
    → frame_head satellite o ≡ Ok head → AreStated ps (head_links Frame) given head
said_frame ps given head satellite (Err fault) e = absurd cc
said_frame ps given head satellite (Ok t) e =
    subst (AreStated ps (head_links Frame) given)
    (ok_same (frame_head satellite (Ok t)) _ head refl e)
    (tt, (tt, (tt, (tt, (tt, (tt, (tt, (tt, tt))))))))

said_head : (clock : Clock) (ps : List Part) (given head : List ℤ) (row : RowValue)
    → head_of clock row ≡ Ok head → AreStated ps (head_links clock) given head
said_head Frame ps given head row h =
    said_frame ps given head row.number (frame_stated row.moment (number row.columns 2)) h
said_head (Daily step) ps given head row h = absurd cc
said_head (Weeks c) ps given head row h =
    subst (AreStated ps (head_links (Weeks c)) given)
    (ok_same (head_of (Weeks c) row) (week_head c row) head refl h)
    (tt, (tt, (tt, tt)))

-- the numbers tell the satellite and the times of the row
record IsAgain (clock : Clock) (zs : List ℤ) (r : ℕ) (row : RowValue) : Type 0 where
  pub satellite : number zs 1 ≡ row.number
  pub times : times_stated clock zs r ≡ Some (stated_times clock row)

three_same : (a b c a' b' c' : ℤ) → a ∷ b ∷ c ∷ [] ≡ a' ∷ b' ∷ c' ∷ []
    → (a ≡ a') × (b ≡ b') × (c ≡ c')
three_same a b c a' b' c' e = (cc, cc, cc)

week_row : (c : WeekClock) (ps : List Part) (ls : List Link) (zs given head : List ℤ) (r : ℕ)
    (row : RowValue) → HasWeekColumns c ls → columns_of ps ls zs given ≡ row.columns
    → columns_of ps (head_links (Weeks c)) zs given ≡ week_head c row
    → epoch_fault (Weeks c) row.moment row.columns ≡ None → IsNearRow (Weeks c) row r
    → IsAgain (Weeks c) zs r row
unfolding columns_of
week_row c ps ls zs given head r row h columns e epoch near =
    let m = row.moment in
    let W = toe_week c row.columns in
    let T = toe_at c row.columns in
    let parts = three_same (nth zs 1) (nth zs c.week) (nth zs c.toc) (pos row.number)
    (pos (number_of_week c.rule W)) (pos (m % 604800 / c.step)) e in
    let is = epoch_is c m row.columns epoch in
    let week : week_to c.rule r (number zs c.week) ≡ W
    = ap (λ z. week_to c.rule r (unsigned_abs z)) parts.1 ∙ week_again c.rule r W near.0 near.1 in
    let toe : number zs c.toe ≡ number row.columns 11
    = sym (toe_is c ps ls zs given h) ∙ ap (λ cs. number cs 11) columns in
    let whole = div-add-mod (m % 604800) c.step in
    let toc : c.step * number zs c.toc ≡ m % 604800
    = ap (λ z. c.step * unsigned_abs z) parts.2 ∙ omega (arith, whole, is.step) in
    let at : 604800 * week_to c.rule r (number zs c.week) + c.step * number zs c.toe ≡ T
    = ap₂ (λ a b. 604800 * a + c.step * b) week toe in
    let moment : moment_near
    (604800 * week_to c.rule r (number zs c.week) + c.step * number zs c.toe)
    (c.step * number zs c.toc) ≡ m
    = ap₂ moment_near at toc
    ∙ sym (moment_near-only T (m % 604800) m
    (record { second_is = refl; from = is.from; to = is.to })) in
    let kept : week_to c.rule r (number zs c.week) - c.zero ≡ number row.columns 21
    = omega (arith, week) in
    record {
      satellite = ap unsigned_abs parts.0;
      times = ap Some (ap₂ {C = RowTimes} (λ a b. record { epoch = a; week = b; sent = 0 }) moment
          kept);
    }

eight_same : (a b c d e f g h a' b' c' d' e' f' g' h' : ℤ)
    → a ∷ b ∷ c ∷ d ∷ e ∷ f ∷ g ∷ h ∷ [] ≡ a' ∷ b' ∷ c' ∷ d' ∷ e' ∷ f' ∷ g' ∷ h' ∷ []
    → (a ≡ a') × (b ≡ b') × (c ≡ c') × (d ≡ d') × (e ≡ e') × (f ≡ f') × (g ≡ g') × (h ≡ h')
eight_same a b c d e f g h a' b' c' d' e' f' g' h' i = (cc, cc, cc, cc, cc, cc, cc, cc)

-- a frame's numbers tell its time
told_frame : (zs : List ℤ) (t : FrameTime) → nth zs 32 ≡ pos t.additional → nth zs 35 ≡ pos t.period
    → nth zs 30 ≡ pos t.day → nth zs 6 ≡ pos t.hour → nth zs 7 ≡ pos t.minute
    → nth zs 8 ≡ pos t.half → nth zs 11 ≡ pos t.quarter → frame_of zs ≡ t
told_frame zs t a b c d e f g = rw (a, b, c, d, e, f, g) refl

frame_row : (ps : List Part) (zs given : List ℤ) (r satellite m sent : ℕ)
    (o : Result FrameTime TimeFault) (head : List ℤ) → frame_stated m sent ≡ o
    → frame_head satellite o ≡ Ok head → columns_of ps (head_links Frame) zs given ≡ head
    → distance (7 * r + 3) ((moment_near m sent + 10800) / 86400) ≤ 729
    → (number zs 1 ≡ satellite)
    × (times_stated Frame zs r ≡ Some (record { epoch = m; week = 0; sent = sent }))
unfolding columns_of
frame_row ps zs given r satellite m sent (Err fault) head told e columns near = absurd cc
frame_row ps zs given r satellite m sent (Ok t) head told e columns near =
    let said = said_is m sent t told in
    let F = moment_near m sent in
    let times : Times = record { epoch = m; frame = F } in
    let is = frame_is times t said.is in
    let parts = eight_same (nth zs 1) (nth zs 32) (nth zs 35) (nth zs 30) (nth zs 6) (nth zs 7)
    (nth zs 8) (nth zs 11) _ _ _ _ _ _ _ _
    (columns ∙ sym (ok_same (frame_head satellite (Ok t)) _ head refl e)) in
    let same : frame_of zs ≡ t
    = told_frame zs t parts.1 parts.2 parts.3 parts.4 parts.5 parts.6 parts.7 in
    let found : times_to (frame_of zs) r ≡ Some times
    = ap (λ x. times_to x r) same ∙ times_near t times r is.0 is.1 near in
    let second : F % 604800 ≡ sent = (moment_near-nearest m sent said.late said.few).second_is in (
      ap unsigned_abs parts.0,
      ap framed found
          ∙ ap Some (ap {B = RowTimes} (λ s. record { epoch = m; week = 0; sent = s }) second),
    )

again_by : (clock : Clock) (ps : List Part) (ls : List Link) (zs given head : List ℤ) (r : ℕ)
    (row : RowValue) → has_columns clock ls ≡ true → columns_of ps ls zs given ≡ row.columns
    → columns_of ps (head_links clock) zs given ≡ head → head_of clock row ≡ Ok head
    → epoch_fault clock row.moment row.columns ≡ None → IsNearRow clock row r
    → IsAgain clock zs r row
again_by Frame ps ls zs given head r row h columns heads told epoch near =
    let sent = number row.columns 2 in
    let is = frame_row ps zs given r row.number row.moment sent
    (frame_stated row.moment sent) head refl
    told heads near in
    record { satellite = is.0; times = is.1 }
again_by (Daily step) ps ls zs given head r row h columns heads told epoch near = absurd cc
again_by (Weeks c) ps ls zs given head r row h columns heads told epoch near =
    week_row c ps ls zs given head r row (week_columns c ls h) columns
    (heads ∙ sym (ok_same (head_of (Weeks c) row) (week_head c row) head refl told)) epoch near

pub rows_back : (k : Kind) (row : RowValue) (bytes : List ℕ) (r : ℕ) → IsKind k
    → IsOfMessage k row → IsNearRow k.clock row r → message_of k row ≡ Ok bytes
    → row_in k bytes r ≡ Ok row
rows_back k row bytes r is of near h =
    let fs = k.table.fields.now in
    let ps = k.parts.now in
    let ls = k.links.now in
    let hs = head_links k.clock in
    let given = given_of (stated_times k.clock row) in
    let d = sent_bytes k row bytes (numbers_in k row) refl h in
    let zs = d.numbers in
    let count = said_length ps ls given row.columns of.0 in
    let join : filled ps (ls ++ hs) (row.columns ++ d.head) (starts fs) ≡ zs
    = filled_append ps ls hs row.columns d.head (starts fs) count
    ∙ ap (λ cs. filled ps hs d.head (filled ps ls cs (starts fs))) (sym of.1) ∙ d.whole in
    let all : columns_of ps (ls ++ hs) zs given ≡ row.columns ++ d.head
    = ap (λ ns. columns_of ps (ls ++ hs) ns given) (sym join)
    ∙ back_all (length fs) ps (ls ++ hs) (row.columns ++ d.head) given (starts fs) is.links is.apart
    (said_append ps ls hs given row.columns d.head of.0
    (said_head k.clock ps given d.head row d.told)) (starts_length fs) in
    let parts = halves (columns_of ps ls zs given) row.columns (columns_of ps hs zs given) d.head
    (columns_length ps ls zs given ∙ sym count)
    (sym (columns_append ps ls hs zs given) ∙ all) in
    let again = again_by k.clock ps ls zs given d.head r row is.columns parts.0 parts.1 d.told
    d.epoch
    near in
    let read : message_in k.table bytes ≡ Ok zs
    = ap (message_in k.table) d.bytes_are ∙ written_read k.table zs is.table d.range in
    let spare : row_by k r (Ok zs) ≡ row_at k zs (times_stated k.clock zs r) = rw d.spare refl in
    ap (row_by k r) read ∙ spare ∙ ap (row_at k zs) again.times
    ∙ ap₂ (λ n cs. Ok (record { number = n; moment = row.moment; columns = cs })) again.satellite
    parts.0
