-- The length of a record.
use Rattle.std.proofs.Common.{◌≡◌, ◌==◌, ℕ, zero, suc, Bool, true, false, ◌+◌, ◌*◌, ◌/◌, ◌%◌, ◌<◌, ◌≤◌, List, [], ◌∷◌, ◌++◌, length, drop, codes, ℤ, Some, refl, ap, ◌∙◌, arith, length-append}
use Rattle.std.specs.Prelude.{if◌then◌else◌}
use Rattle.nav_io.specs.Causes.{Rose}
use Rattle.nav_io.specs.Prefix.{AppendsPrefix}
use Rattle.scaled_decimal.specs.NumberText.{digits}
use Rattle.rinex_write.proofs.Surface.{length-column_text}
use Rattle.nav_eph.specs.declared.calendar.Civil.{Civil}
use Rattle.nav_eph.specs.Functions.{civil_to}
use Rattle.nav_eph.specs.Satellite.{Satellite}
use Rattle.nav_eph.specs.declared.ion.IonContent.{IonContent}
use Rattle.nav_eph.specs.declared.ion.IonContent.TheVariants.{Gps as OfGps, Gal as OfGal}
use Rattle.nav_eph.specs.declared.items.NavItem.{NavItem}
use Rattle.nav_eph.specs.declared.items.NavItem.TheVariants.{Gps as GpsItem, Gal as GalItem, Ion as IonItem}
use Rattle.rinex_write.specs.declared.columns.Column.{Column}
use Rattle.rinex_write.specs.Columns.{column_text, row_text, row_lines}
use Rattle.rinex_write.specs.Layouts.{Kind, gps_kind, galileo_kind, gps_ionosphere_kind, galileo_ionosphere_kind, gps_rows, galileo_rows, gps_ionosphere_rows, galileo_ionosphere_rows}
use Rattle.rinex_write.specs.Fields.{gps_fields, galileo_fields, gps_ionosphere_fields, galileo_ionosphere_fields, gps_epoch, galileo_epoch}
use Rattle.rinex_write.specs.declared.words.HeaderWords.{HeaderWords}
use Rattle.rinex_write.specs.Texts.{text_of, satellite_text, date_text, title_line, record_lines, ionosphere_lines, item_lines, body_lines, header_lines_by, leap_text}
use Rattle.rinex_write.specs.Texts3.{item3_lines}
use Rattle.c_calls.specs.RecordWrites.{version_columns}

pub length-digits : (k n : ℕ) → length (digits k n) ≡ k
unfolding digits
length-digits zero n = refl
length-digits (suc k) n = length-append (digits k (n / 10)) ((48 + n % 10) ∷ []) ∙ omega (arith, length-digits k (n / 10))

-- room for the lines of rows
abbrev pub rows_size : List (List Column) → ℕ
rows_size [] = 0
rows_size (r ∷ rs) = 5 + 19 * length r + rows_size rs

length-row_text : (cs : List Column) (zs : List ℤ) → length (row_text cs zs) ≤ 19 * length cs
length-row_text [] zs = omega arith
length-row_text (c ∷ cs) [] = omega arith
length-row_text (c ∷ cs) (z ∷ zs) =
    omega (
      arith,
      length-append (column_text c z) (row_text cs zs),
      length-column_text c z,
      length-row_text cs zs,
    )

pub length-rows : (rows : List (List Column)) (start : List ℕ) (zs : List ℤ) → length (text_of (row_lines start rows zs)) ≤ length start + rows_size rows
length-rows [] start zs = omega arith
length-rows (r ∷ rs) start zs =
    let rest : List ℕ = text_of (row_lines (codes "    ") rs (drop (length r) zs)) in
    let split : length (text_of (row_lines start (r ∷ rs) zs)) ≡ length (start ++ row_text r zs) + length (10 ∷ rest) =
    length-append (start ++ row_text r zs) (10 ∷ rest) in
    let one : length (10 ∷ rest) ≡ suc (length rest) = refl in
    let four : length (codes "    ") ≡ 4 = refl in
    let room : rows_size (r ∷ rs) ≡ 5 + 19 * length r + rows_size rs = refl in
    omega (
      arith,
      split,
      one,
      four,
      room,
      length-append start (row_text r zs),
      length-row_text r zs,
      length-rows rs (codes "    ") (drop (length r) zs),
    )

pub length-date : (c : Civil) → length (date_text c) ≤ 19
unfolding date_text
length-date c =
    let y : List ℕ = digits 4 c.year in
    let m : List ℕ = digits 2 c.month in
    let d : List ℕ = digits 2 c.day in
    let h : List ℕ = digits 2 c.hour in
    let n : List ℕ = digits 2 c.minute in
    let s : List ℕ = digits 2 c.second in
    omega (
      arith,
      length-append y (32 ∷ (m ++ 32 ∷ (d ++ 32 ∷ (h ++ 32 ∷ (n ++ 32 ∷ s))))),
      length-append m (32 ∷ (d ++ 32 ∷ (h ++ 32 ∷ (n ++ 32 ∷ s)))),
      length-append d (32 ∷ (h ++ 32 ∷ (n ++ 32 ∷ s))),
      length-append h (32 ∷ (n ++ 32 ∷ s)),
      length-append n (32 ∷ s),
      length-digits 4 c.year,
      length-digits 2 c.month,
      length-digits 2 c.day,
      length-digits 2 c.hour,
      length-digits 2 c.minute,
      length-digits 2 c.second,
    )

length-body : (rows : List (List Column)) (four : List ℕ) (moment : ℕ) (zs : List ℤ) → length four ≤ 4 → rows_size rows ≤ 700
    → length (text_of (row_lines (four ++ date_text (civil_to moment)) rows zs)) ≤ 800
length-body rows four moment zs few small =
    omega (
      arith,
      length-rows rows (four ++ date_text (civil_to moment)) zs,
      length-append four (date_text (civil_to moment)),
      length-date (civil_to moment),
      few,
      small,
    )

length-title : (k : Kind) (sat : Satellite) → length k.class ≤ 3 → length k.message ≤ 4 → length (title_line k sat) ≤ 14
length-title k sat class message =
    omega (
      arith,
      length-append k.class (32 ∷ (satellite_text sat ++ 32 ∷ k.message)),
      length-append (satellite_text sat) (32 ∷ k.message),
      length-digits 2 sat.number,
      class,
      message,
    )

length-record : (k : Kind) (sat : Satellite) (four : List ℕ) (moment : ℕ) (zs : List ℤ)
    → length k.class ≤ 3 → length k.message ≤ 4 → length four ≤ 4 → rows_size k.rows ≤ 700
    → length (text_of (record_lines k sat four moment zs)) ≤ 900
length-record k sat four moment zs class message few small =
    let rows : List (List ℕ) = row_lines (four ++ date_text (civil_to moment)) k.rows zs in
    omega (
      arith,
      length-append (title_line k sat) (10 ∷ text_of rows),
      length-title k sat class message,
      length-body k.rows four moment zs few small,
    )

length-start : (sat : Satellite) → length (satellite_text sat ++ 32 ∷ []) ≤ 4
length-start sat = omega (arith, length-append (satellite_text sat) (32 ∷ []), length-digits 2 sat.number)

gps_small : (length gps_kind.class ≤ 3) × (length gps_kind.message ≤ 4) × (rows_size gps_kind.rows ≤ 700)
unfolding gps_kind gps_rows
gps_small =
    let room : rows_size gps_kind.rows ≡ 591 = refl in
    (omega arith, omega arith, omega (arith, room))

galileo_small : (length galileo_kind.class ≤ 3) × (length galileo_kind.message ≤ 4) × (rows_size galileo_kind.rows ≤ 700)
unfolding galileo_kind galileo_rows
galileo_small =
    let room : rows_size galileo_kind.rows ≡ 553 = refl in
    (omega arith, omega arith, omega (arith, room))

gps_ionosphere_small : (length gps_ionosphere_kind.class ≤ 3) × (length gps_ionosphere_kind.message ≤ 4) × (rows_size gps_ionosphere_kind.rows ≤ 700)
unfolding gps_ionosphere_kind gps_ionosphere_rows
gps_ionosphere_small =
    let room : rows_size gps_ionosphere_kind.rows ≡ 186 = refl in
    (omega arith, omega arith, omega (arith, room))

galileo_ionosphere_small : (length galileo_ionosphere_kind.class ≤ 3) × (length galileo_ionosphere_kind.message ≤ 4) × (rows_size galileo_ionosphere_kind.rows ≤ 700)
unfolding galileo_ionosphere_kind galileo_ionosphere_rows
galileo_ionosphere_small =
    let room : rows_size galileo_ionosphere_kind.rows ≡ 86 = refl in
    (omega arith, omega arith, omega (arith, room))

length-ionosphere : (sat : Satellite) (moment : ℕ) (content : IonContent) → length (text_of (ionosphere_lines sat moment content)) ≤ 900
length-ionosphere sat moment (OfGps i) =
    length-record gps_ionosphere_kind sat (codes "    ") moment (gps_ionosphere_fields i) gps_ionosphere_small.0 gps_ionosphere_small.1 (omega arith) gps_ionosphere_small.2
length-ionosphere sat moment (OfGal i) =
    length-record galileo_ionosphere_kind sat (codes "    ") moment (galileo_ionosphere_fields i) galileo_ionosphere_small.0 galileo_ionosphere_small.1 (omega arith) galileo_ionosphere_small.2

-- a record of version 4
pub length-item : (item : NavItem) → length (text_of (item_lines item)) ≤ 900
unfolding item_lines
length-item (GpsItem e) =
    length-record gps_kind e.sat (satellite_text e.sat ++ 32 ∷ []) (gps_epoch e) (gps_fields e) gps_small.0 gps_small.1 (length-start e.sat) gps_small.2
length-item (GalItem e) =
    length-record galileo_kind e.sat (satellite_text e.sat ++ 32 ∷ []) (galileo_epoch e) (galileo_fields e) galileo_small.0 galileo_small.1 (length-start e.sat) galileo_small.2
length-item (IonItem e) = length-ionosphere e.sat e.moment e.content

-- a record of version 3
pub length-item3 : (item : NavItem) → length (text_of (item3_lines item)) ≤ 900
unfolding body_lines
length-item3 (GpsItem e) =
    omega (arith, length-body gps_kind.rows (satellite_text e.sat ++ 32 ∷ []) (gps_epoch e) (gps_fields e) (length-start e.sat) gps_small.2)
length-item3 (GalItem e) =
    omega (arith, length-body galileo_kind.rows (satellite_text e.sat ++ 32 ∷ []) (galileo_epoch e) (galileo_fields e) (length-start e.sat) galileo_small.2)
length-item3 (IonItem e) = omega arith

-- a header of columns of nine bytes and a date of 19
length-columns : (b : Bool) → length (if b then codes "     4.01" else codes "     3.05") ≡ 9
length-columns true = refl
length-columns false = refl

length-header : (columns : List ℕ) (h : HeaderWords) → length columns ≡ 9 → length h.date ≡ 19 → length (text_of (header_lines_by columns h)) ≤ 900
unfolding header_lines_by
length-header columns h nine date =
    let nil : List ℕ = [] in
    let kind : List ℕ = codes "           N: GNSS NAV DATA    M: MIXED            RINEX VERSION / TYPE" in
    let program : List ℕ = codes "navbridge                               " in
    let label : List ℕ = codes " PGM / RUN BY / DATE" in
    let seconds : List ℕ = codes "    " ++ (leap_text h.leap ++ codes "                                                      LEAP SECONDS") in
    let last : List ℕ = codes "                                                            END OF HEADER" in
    let fourth : List ℕ = last ++ 10 ∷ nil in
    let third : List ℕ = seconds ++ 10 ∷ fourth in
    let second : List ℕ = (program ++ (h.date ++ label)) ++ 10 ∷ third in
    let of_kind : length kind ≡ 71 = refl in
    let of_program : length program ≡ 40 = refl in
    let of_label : length label ≡ 20 = refl in
    let of_seconds : length seconds ≡ 72 = refl in
    let of_last : length fourth ≡ 74 = refl in
    let after_2 : length (10 ∷ second) ≡ suc (length second) = refl in
    let after_3 : length (10 ∷ third) ≡ suc (length third) = refl in
    let after_4 : length (10 ∷ fourth) ≡ suc (length fourth) = refl in
    omega (
      arith,
      length-append (columns ++ kind) (10 ∷ second),
      length-append columns kind,
      length-append (program ++ (h.date ++ label)) (10 ∷ third),
      length-append program (h.date ++ label),
      length-append h.date label,
      length-append seconds (10 ∷ fourth),
      nine,
      date,
      of_kind,
      of_program,
      of_label,
      of_seconds,
      of_last,
      after_2,
      after_3,
      after_4,
    )

-- ---- a room of 1,024 bytes is never filled

pub never_full : (old bytes text : List ℕ) (before faults : ℕ) → length text ≤ 900 → old ≡ [] → before ≡ 0 → AppendsPrefix (Some old) (Some bytes) text
    → Rose before faults → (0 < faults → 1024 ≤ length bytes) → ⊥
never_full old bytes text before faults short none nothing appends rose full =
    let prefix : List ℕ = appends.0 in
    let rest : List ℕ = appends.1.0 in
    let whole : length text ≡ length prefix + length rest = ap length appends.1.1 ∙ length-append prefix rest in
    let same : length bytes ≡ length old + length prefix = ap length appends.2 ∙ length-append old prefix in
    let empty : length old ≡ 0 = ap length none in
    let some : 0 < faults = omega (arith, rose, nothing) in
    let many : 1024 ≤ length bytes = full some in
    absurd (omega (arith, whole, same, empty, many, short))

pub too_long4 : (item : NavItem) (old bytes : List ℕ) (before faults : ℕ) → old ≡ [] → before ≡ 0 → AppendsPrefix (Some old) (Some bytes) (text_of (item_lines item))
    → Rose before faults → (0 < faults → 1024 ≤ length bytes) → ⊥
too_long4 item old bytes before faults = never_full old bytes (text_of (item_lines item)) before faults (length-item item)

pub too_long3 : (item : NavItem) (old bytes : List ℕ) (before faults : ℕ) → old ≡ [] → before ≡ 0 → AppendsPrefix (Some old) (Some bytes) (text_of (item3_lines item))
    → Rose before faults → (0 < faults → 1024 ≤ length bytes) → ⊥
too_long3 item old bytes before faults = never_full old bytes (text_of (item3_lines item)) before faults (length-item3 item)

pub too_long_header : (version : ℕ) (columns : List ℕ) (h : HeaderWords) (old bytes : List ℕ) (before faults : ℕ) → columns ≡ version_columns version → length h.date ≡ 19
    → old ≡ [] → before ≡ 0 → AppendsPrefix (Some old) (Some bytes) (text_of (header_lines_by columns h))
    → Rose before faults → (0 < faults → 1024 ≤ length bytes) → ⊥
too_long_header version columns h old bytes before faults is date =
    never_full old bytes (text_of (header_lines_by columns h)) before faults
    (length-header columns h (ap length is ∙ length-columns (version == 4)) date)
