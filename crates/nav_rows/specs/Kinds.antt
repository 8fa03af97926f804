-- Which tables make a kind.
use Rattle.std.specs.Prelude.{◌≡◌, ℕ, suc, zero, ◌-◌, ◌/◌, ◌^◌, ◌<◌, ◌≤◌, ◌==◌, ◌&&◌, ◌||◌, Bool}
use Rattle.std.specs.Prelude.{not, true, false, max, List, [], ◌∷◌, ◌++◌, length, get_or, codes}
use Rattle.std.specs.Prelude.{bytes_eq}
use Rattle.std.specs.Prelude.{ℤ, pos, neg_ℤ, ◌+ℤ◌, int_le, nat_le, nat_lt, nat_eq, IsTrue, Option}
use Rattle.std.specs.Prelude.{Some, None, if◌then◌else◌}
use Rattle.nav_tables.specs.declared.field.Field.{Field as TableField}
use Rattle.nav_tables.specs.Messages.{is_table}
use Rattle.nav_tables.specs.declared.link.Part.{Part}
use Rattle.nav_tables.specs.declared.link.Link.{Link}
use Rattle.nav_tables.specs.declared.link.Link.TheVariants.{Field, Opposite, Raised, Parts, Given}
use Rattle.nav_tables.specs.declared.link.Link.TheVariants.{Fixed}
use Rattle.nav_tables.specs.Links.{parts_from, width_of, are_apart, are_links, field_at, ranges_fit}
use Rattle.nav_tables.specs.Links.{say}
use Rattle.nav_tables.specs.Weeks.{is_week_rule}
use Rattle.rinex_write.specs.declared.columns.Rule.{Rule}
use Rattle.rinex_write.specs.declared.columns.Rule.TheVariants.{Plain, OrZero, OrLeast, OrUnknown}
use Rattle.rinex_write.specs.declared.columns.Rule.TheVariants.{Ura, Sisa, Fit, Sent, Unread}
use Rattle.rinex_write.specs.declared.columns.Column.{Column}
use Rattle.rinex_write.specs.Mirrors.{IsTable}
use Rattle.rinex_read.specs.Lines.{columns}
use Rattle.rinex_read.specs.Mirrors.{IsLayout}
use Rattle.nav_rows.specs.declared.kind.WeekClock.{WeekClock}
use Rattle.nav_rows.specs.declared.kind.Clock.{Clock}
use Rattle.nav_rows.specs.declared.kind.Clock.TheVariants.{Frame, Weeks, Daily}
use Rattle.nav_rows.specs.declared.kind.Kind.{Kind}

-- ---- which columns can be given

pub record Range : Type 0 where
  pub low : ℤ
  pub high : ℤ

-- the weeks that records of a clock can have
abbrev pub week_low : Clock → ℕ
week_low Frame = 0
week_low (Weeks c) = max 1 c.rule.zero - c.zero
week_low (Daily step) = 0

abbrev pub week_high : Clock → ℕ
week_high Frame = 0
week_high (Weeks c) = 16382 - c.zero
week_high (Daily step) = 0

-- the range of the numbers that no field has alone: the week, and the time of week of the frame
abbrev pub given_range : Clock → ℕ → Range
given_range clock zero = record { low = pos (week_low clock); high = pos (week_high clock) }
given_range clock (suc place) = record { low = pos 0; high = pos 604799 }

-- the range of what a link gives
abbrev pub range_of : Clock → List TableField → List Part → Link → Range
range_of clock fields parts (Field f) = record {
  low = (field_at fields f).low;
  high = (field_at fields f).high;
}
range_of clock fields parts (Opposite f) = record {
  low = neg_ℤ (field_at fields f).high;
  high = neg_ℤ (field_at fields f).low;
}
range_of clock fields parts (Raised f plus) = record {
  low = (field_at fields f).low +ℤ plus;
  high = (field_at fields f).high +ℤ plus;
}
range_of clock fields parts (Parts first count) = record {
  low = pos 0;
  high = pos (2 ^ width_of (parts_from parts first count) - 1);
}
range_of clock fields parts (Given place) = given_range clock place
range_of clock fields parts (Fixed n) = record { low = n; high = n }

-- whether the link gives the SISA index, of which 126 to 254 are rejected
abbrev pub gives_sisa : Option ℕ → Link → Bool
gives_sisa None l = false
gives_sisa (Some f) (Field g) = nat_eq f g
gives_sisa (Some f) _ = false

-- each number of the range is a field by the rule; where sisa holds, but for 126 to 254
abbrev pub covers : Bool → Rule → Range → Bool
covers sisa (Plain low high) r = int_le low r.low && int_le r.high high
covers sisa (OrZero low high) r = int_le low r.low && int_le r.high high
covers sisa (OrLeast low high) r = int_le low r.low && int_le r.high high
covers sisa (OrUnknown low high) r = int_le low r.low && int_le r.high high
covers sisa Ura r = int_le (pos 0) r.low && int_le r.high (pos 15)
covers sisa Sisa r = sisa && int_le (pos 0) r.low && int_le r.high (pos 255)
covers sisa Fit r = int_le (pos 0) r.low && int_le r.high (pos 1)
covers sisa Sent r = int_le (pos 999900000) r.low && int_le r.high (pos 999900000)
covers sisa (Unread n) r = int_le n r.low && int_le r.high n

abbrev pub all_covered : Clock → Option ℕ → List TableField → List Part → List Link → List Column
    → Bool
all_covered clock sisa fields parts [] [] = true
all_covered clock sisa fields parts [] (c ∷ cs) = false
all_covered clock sisa fields parts (l ∷ ls) [] = false
all_covered clock sisa fields parts (l ∷ ls) (c ∷ cs)
    = covers (gives_sisa sisa l) c.rule (range_of clock fields parts l)
    && all_covered clock sisa fields parts ls cs

-- field k is there, and from 0 to high
abbrev pub is_within : List TableField → ℕ → ℕ → Bool
is_within fields k high = nat_lt k (length fields) && int_le (pos 0) (field_at fields k).low
    && int_le (field_at fields k).high (pos high)

-- the times of a frame are in fields
abbrev pub has_frame : List TableField → Bool
has_frame fields =
    is_within fields 32 1 && is_within fields 35 31 && is_within fields 30 1461
    && is_within fields 6 23 && is_within fields 7 59 && is_within fields 8 1
    && is_within fields 11 95

-- a good rule of weeks, no week before that which records count as 0, and a unit of 1 s to a week
abbrev pub is_week_clock : WeekClock → Bool
is_week_clock c =
    is_week_rule c.rule && nat_le c.zero c.rule.zero && nat_le 1 c.step && nat_le c.step 604800

-- week number and times of week are in fields
abbrev pub has_week : WeekClock → List TableField → Bool
has_week c fields =
    is_week_clock c && is_within fields c.week (2 ^ c.rule.bits - 1)
    && is_within fields c.toe (604799 / c.step) && is_within fields c.toc (604799 / c.step)

abbrev pub has_times : Clock → List TableField → Bool
has_times Frame fields = has_frame fields
has_times (Weeks c) fields = has_week c fields
has_times (Daily step) fields = nat_lt 0 step

-- the field with the SISA index is one of so many
abbrev pub has_sisa : Option ℕ → ℕ → Bool
has_sisa None count = true
has_sisa (Some f) count = nat_lt f count

-- ---- what no column says

-- the fields with the satellite and with what the times tell: of a frame additional data, day and
-- times, else week and toc
abbrev pub head_links : Clock → List Link
head_links Frame =
    Field 1 ∷ Field 32 ∷ Field 35 ∷ Field 30 ∷ Field 6 ∷ Field 7 ∷ Field 8 ∷ Field 11 ∷ []
head_links (Weeks c) = Field 1 ∷ Field c.week ∷ Field c.toc ∷ []
head_links (Daily step) = Field 1 ∷ []

abbrev pub all_links : Clock → List Link → List Link
all_links clock links = links ++ head_links clock

-- the link of column k
abbrev pub link_at : List Link → ℕ → Link
link_at links k = get_or links k (Fixed (pos 0))

abbrev pub is_given_at : ℕ → Link → Bool
is_given_at place (Given p) = nat_eq p place
is_given_at place _ = false

abbrev pub is_of_field : ℕ → Link → Bool
is_of_field f (Field g) = nat_eq g f
is_of_field f _ = false

-- where records have their times: the time of the frame in column 2, or toe in column 11 and its
-- week in column 21
abbrev pub has_columns : Clock → List Link → Bool
has_columns Frame links = nat_lt 18 (length links) && is_given_at 1 (link_at links 2)
has_columns (Weeks c) links =
    nat_lt 21 (length links) && is_of_field c.toe (link_at links 11)
    && is_given_at 0 (link_at links 21)
has_columns (Daily step) links = true

-- each field from k on is said by a link or constant
abbrev pub are_stated : List Part → List Link → ℕ → List TableField → Bool
are_stated parts links k [] = true
are_stated parts links k (f ∷ fs) =
    (say parts links k || int_le f.high f.low) && are_stated parts links (suc k) fs

abbrev pub has_weeks : Clock → Bool
has_weeks Frame = false
has_weeks (Weeks c) = true
has_weeks (Daily step) = false

-- the columns, the satellite and the times of a record say all of its message
abbrev pub is_whole : Kind → Bool
is_whole k =
    has_weeks k.clock && are_stated k.parts.now (all_links k.clock k.links.now) 0 k.table.fields.now

-- records that may lack the last of five lines have five
abbrev pub is_long : Bool → ℕ → Bool
is_long early lines = not early || nat_lt 4 lines

-- the tables of a kind fit one another
pub record IsKind (k : Kind) : Type 0 where
  pub title : length k.title.now ≤ 4
  pub table : IsTrue (is_table k.table)
  pub satellite : IsTrue (is_within k.table.fields.now 1 99)
  pub times : IsTrue (has_times k.clock k.table.fields.now)
  pub sisa : IsTrue (has_sisa k.sisa (length k.table.fields.now))
  pub links : IsTrue (are_links (length k.table.fields.now) k.parts.now
      (all_links k.clock k.links.now))
  pub apart : IsTrue (are_apart k.parts.now (all_links k.clock k.links.now))
  pub few : length k.links.now ≤ 29
  pub fit : IsTrue (ranges_fit k.table.fields.now k.parts.now k.links.now)
  pub columns : IsTrue (has_columns k.clock k.links.now)
  pub sent : k.sent < length k.links.now
  pub covered : IsTrue (all_covered k.clock k.sisa k.table.fields.now k.parts.now k.links.now
      k.layout.columns.now)
  pub ends : IsTrue (is_long k.may_end_early (length k.layout.rows.now))
  pub lines : IsLayout k.layout.columns.now k.layout.rows.now
  pub layout : IsTable k.layout.rows.now k.layout.columns.now

-- ---- names

-- a kind has this letter and this message type
abbrev pub HasName : Kind → List ℕ → List ℕ → Type 0
HasName k letter title = (k.letter ∷ [] ≡ letter) × (k.title.now ≡ title)

-- letter and message type
abbrev pub name_of : Option Kind → Option (ℕ × List ℕ)
name_of None = None
name_of (Some k) = Some (k.letter, k.title.now)

-- the title is of an ephemeris of the system and the message type, in columns 7 and 11 to 14
abbrev pub is_titled : ℕ → List ℕ → List ℕ → Bool
is_titled letter message title =
    bytes_eq (columns 2 3 title) (codes "EPH") && (get_or title 6 32 == letter)
    && bytes_eq (columns 10 (length message) title) message

-- the kind that a title of RINEX 4 names
abbrev pub kind_titled : List ℕ → Option (ℕ × List ℕ)
kind_titled title =
    if is_titled 82 (codes "FDMA") title then Some (82, codes "FDMA")
    else if is_titled 67 (codes "D1") title then Some (67, codes "D1")
    else if is_titled 67 (codes "D2") title then Some (67, codes "D2")
    else if is_titled 69 (codes "FNAV") title then Some (69, codes "FNAV")
    else if is_titled 74 (codes "LNAV") title then Some (74, codes "LNAV")
    else if is_titled 73 (codes "LNAV") title then Some (73, codes "LNAV")
    else if is_titled 83 (codes "SBAS") title then Some (83, codes "SBAS")
    else None
