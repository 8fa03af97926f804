-- The records that are written of ephemerides give them.
use Rattle.std.proofs.Common.{◌≡◌, ℕ, ◌≤◌, ◌==◌, ◌&&◌, not, true, false, if◌then◌else◌, List, [], ◌∷◌, ◌++◌, length, get_or, drop, codes, refl, ap, sym, ◌∙◌, inl, arith, le-leb, ℤ, pos}
use Rattle.std.proofs.lemmas.Int.{ints}
use Rattle.std.specs.List.{flat_map}
use Rattle.scaled_decimal.specs.ScaleValue.{size_of, IsAccepted}
use Rattle.scaled_decimal.specs.NumberText.{digits, number_text}
use Rattle.scaled_decimal.specs.NumberReading.{seen, number, read_of}
use Rattle.scaled_decimal.proofs.Surface.{is_scale, text_seen, length-number_text}
use Rattle.nav_eph.specs.Functions.{civil_to}
use Rattle.nav_eph.specs.Satellite.{Satellite}
use Rattle.nav_eph.specs.declared.sat.System.{System}
use Rattle.nav_eph.specs.declared.sat.System.TheVariants.{Gps, Gal}
use Rattle.nav_eph.specs.declared.items.GpsEph.{GpsEph}
use Rattle.nav_eph.specs.declared.items.GalEph.{GalEph}
use Rattle.nav_eph.specs.declared.items.NavItem.{NavItem}
use Rattle.nav_eph.specs.declared.items.NavItem.TheVariants.{Gps as GpsItem, Gal as GalItem, Ion as IonItem}
use Rattle.nav_eph.specs.Ranges.{IsItem}
use Rattle.rinex_write.specs.declared.columns.Column.{Column}
use Rattle.rinex_write.specs.Columns.{row_text, row_lines}
use Rattle.rinex_write.specs.Layouts.{gps_kind, galileo_kind, gps_rows, galileo_rows, semicircles, signed, toe_week}
use Rattle.rinex_write.specs.Fields.{gps_fields, galileo_fields, gps_epoch, galileo_epoch}
use Rattle.rinex_write.specs.Texts.{AreLines, letter_of, satellite_text, date_text, title_line, title_of, body_lines}
use Rattle.rinex_write.proofs.Surface.{title_and_body, body_shown}
use Rattle.rinex_read.specs.declared.judged.Judged.TheVariants as judgments
use Rattle.rinex_read.specs.Lines.{columns}
use Rattle.rinex_read.specs.Judging.{judged}
use Rattle.rinex_read.specs.RoundTrip.{AreItems, NoneBegins, AreRecordLines, AllStand}
use Rattle.rinex_read.proofs.Surface.{columns_at, item_again}
use Rattle.rinex_read.specs.Form3.{is_inav, says_inav, whole, titled, judged3, rinex3}
use Rattle.rinex_read.specs.Forms.{read_at}
use Rattle.rinex_write.specs.Texts3.{item3_lines, ephemerides}

-- lines that begin with blanks begin no record
rows_begin : (rows : List (List Column)) (zs : List ℤ) → NoneBegins rinex3 (row_lines (codes "    ") rows zs)
rows_begin [] zs = tt
rows_begin (r ∷ rs) zs = (refl, rows_begin rs (drop (length r) zs))

-- a table whose first line begins with a letter is one record
table_is : (letter : ℕ) (start : List ℕ) (rows : List (List Column)) (zs : List ℤ) → 1 ≤ length rows → (letter == 32) ≡ false → AreLines (row_lines (letter ∷ start) rows zs) → AreRecordLines rinex3 (row_lines (letter ∷ start) rows zs)
table_is letter start [] zs some other shown = absurd (omega arith)
table_is letter start (r ∷ rs) zs some other shown = record {
  title = (letter ∷ start) ++ row_text r zs;
  others = row_lines (codes "    ") rs (drop (length r) zs);
  lines_are = refl;
  first = ap not other;
  rest = rows_begin rs (drop (length r) zs);
  shown = shown;
}

letter_seen : (s : System) → (letter_of s == 32) ≡ false
letter_seen Gps = refl
letter_seen Gal = refl

gps_some : 1 ≤ length gps_kind.rows
unfolding gps_kind gps_rows
gps_some = omega arith

galileo_some : 1 ≤ length galileo_kind.rows
unfolding galileo_kind galileo_rows
galileo_some = omega arith

-- the characters of a first line after its letter
abbrev behind_letter : Satellite → ℕ → List ℕ
behind_letter sat moment = (digits 2 sat.number ++ 32 ∷ []) ++ date_text (civil_to moment)

gps_record : (e : GpsEph) → AreRecordLines rinex3 (body_lines (GpsItem e))
unfolding body_lines
gps_record e = table_is (letter_of e.sat.system) (behind_letter e.sat (gps_epoch e)) gps_kind.rows (gps_fields e) gps_some (letter_seen e.sat.system) (body_shown (GpsItem e))

galileo_record : (e : GalEph) → AreRecordLines rinex3 (body_lines (GalItem e))
unfolding body_lines
galileo_record e = table_is (letter_of e.sat.system) (behind_letter e.sat (galileo_epoch e)) galileo_kind.rows (galileo_fields e) galileo_some (letter_seen e.sat.system) (body_shown (GalItem e))

-- the title that is added to a first line is that of RINEX 4
titled_gps : (sat : Satellite) (date row : List ℕ) → titled (codes "LNAV") (((satellite_text sat ++ 32 ∷ []) ++ date) ++ row) ≡ title_line gps_kind sat
unfolding columns digits gps_kind
titled_gps sat date row = refl

titled_galileo : (sat : Satellite) (date row : List ℕ) → titled (codes "INAV") (((satellite_text sat ++ 32 ∷ []) ++ date) ++ row) ≡ title_line galileo_kind sat
unfolding columns digits galileo_kind
titled_galileo sat date row = refl

judged3_gps : (l : List ℕ) (ls : List (List ℕ)) → get_or l 0 32 ≡ 71 → judged3 (l ∷ ls) ≡ judged (titled (codes "LNAV") l ∷ l ∷ ls)
unfolding judged3
judged3_gps l ls e =
    ap (λ c. if c == 71 then judged (titled (codes "LNAV") l ∷ l ∷ ls) else if c == 69 && is_inav (l ∷ ls) then judged (titled (codes "INAV") l ∷ l ∷ ls) else judgments.PassedOver) e

judged3_galileo : (l : List ℕ) (ls : List (List ℕ)) → get_or l 0 32 ≡ 69 → is_inav (l ∷ ls) ≡ true → judged3 (l ∷ ls) ≡ judged (titled (codes "INAV") l ∷ l ∷ ls)
unfolding judged3
judged3_galileo l ls e h =
    ap (λ c. if c == 71 then judged (titled (codes "LNAV") l ∷ l ∷ ls) else if c == 69 && is_inav (l ∷ ls) then judged (titled (codes "INAV") l ∷ l ∷ ls) else judgments.PassedOver) e
    ∙ ap (λ b. if b then judged (titled (codes "INAV") l ∷ l ∷ ls) else judgments.PassedOver) h

gps_table : (sat : Satellite) (date : List ℕ) (rows : List (List Column)) (zs : List ℤ) (more : List (List ℕ)) → 1 ≤ length rows → letter_of sat.system ≡ 71
    → judged3 (row_lines ((satellite_text sat ++ 32 ∷ []) ++ date) rows zs ++ more) ≡ judged (title_line gps_kind sat ∷ (row_lines ((satellite_text sat ++ 32 ∷ []) ++ date) rows zs ++ more))
gps_table sat date [] zs more some h = absurd (omega arith)
gps_table sat date (r ∷ rs) zs more some h =
    let l : List ℕ = ((satellite_text sat ++ 32 ∷ []) ++ date) ++ row_text r zs in
    let ls : List (List ℕ) = row_lines (codes "    ") rs (drop (length r) zs) ++ more in
    judged3_gps l ls h ∙ ap (λ (t : List ℕ). judged (t ∷ l ∷ ls)) (titled_gps sat date (row_text r zs))

galileo_table : (sat : Satellite) (date : List ℕ) (rows : List (List Column)) (zs : List ℤ) (more : List (List ℕ)) → 1 ≤ length rows → letter_of sat.system ≡ 69
    → is_inav (row_lines ((satellite_text sat ++ 32 ∷ []) ++ date) rows zs ++ more) ≡ true
    → judged3 (row_lines ((satellite_text sat ++ 32 ∷ []) ++ date) rows zs ++ more) ≡ judged (title_line galileo_kind sat ∷ (row_lines ((satellite_text sat ++ 32 ∷ []) ++ date) rows zs ++ more))
galileo_table sat date [] zs more some h inav = absurd (omega arith)
galileo_table sat date (r ∷ rs) zs more some h inav =
    let l : List ℕ = ((satellite_text sat ++ 32 ∷ []) ++ date) ++ row_text r zs in
    let ls : List (List ℕ) = row_lines (codes "    ") rs (drop (length r) zs) ++ more in
    judged3_galileo l ls h inav ∙ ap (λ (t : List ℕ). judged (t ∷ l ∷ ls)) (titled_galileo sat date (row_text r zs))

whole_within : IsAccepted whole
whole_within = inl (omega arith, omega arith, omega (arith, ints), omega (arith, ints), omega (arith, ints), omega (arith, ints))

-- 517 in the columns of the data sources means I/NAV
sources_say : (lines : List (List ℕ)) (prefix rest : List ℕ) → 6 ≤ length lines → get_or lines 5 [] ≡ prefix ++ (number_text (size_of whole) (pos 517) ++ rest) → length prefix ≡ 23 → is_inav lines ≡ true
unfolding is_inav
sources_say lines prefix rest many line at =
    let sources : List ℕ = number_text (size_of whole) (pos 517) in
    let text : columns 23 19 (get_or lines 5 []) ≡ sources = columns_at 23 19 prefix sources rest (get_or lines 5 []) line at (length-number_text (size_of whole) (pos 517)) in
    let read : seen (size_of whole) sources ≡ number (pos 517) = text_seen (size_of whole) (pos 517) (is_scale whole whole_within) (omega arith) in
    ap (λ b. b && says_inav (read_of (pos 0) (pos 1023) (seen (size_of whole) (columns 23 19 (get_or lines 5 []))))) (le-leb 6 (length lines) many)
    ∙ ap (λ t. says_inav (read_of (pos 0) (pos 1023) (seen (size_of whole) t))) text
    ∙ ap (λ s. says_inav (read_of (pos 0) (pos 1023) s)) read

galileo_inav : (e : GalEph) (start : List ℕ) (more : List (List ℕ)) → is_inav (row_lines start galileo_kind.rows (galileo_fields e) ++ more) ≡ true
unfolding galileo_kind galileo_rows
galileo_inav e start more =
    let first : List ℕ = number_text (size_of (semicircles 43 (signed 14)).scale) e.w2.idot in
    sources_say (row_lines start galileo_kind.rows (galileo_fields e) ++ more) (codes "    " ++ first) (number_text (size_of toe_week.scale) (pos e.toe_week) ++ []) (omega arith) refl
    (omega (arith, length-number_text (size_of (semicircles 43 (signed 14)).scale) e.w2.idot))

gps_judged : (e : GpsEph) (more : List (List ℕ)) → IsItem (GpsItem e) → judged3 (body_lines (GpsItem e) ++ more) ≡ judgments.Item (GpsItem e)
unfolding body_lines title_of
gps_judged e more h =
    gps_table e.sat (date_text (civil_to (gps_epoch e))) gps_kind.rows (gps_fields e) more gps_some (ap letter_of h.whole.system)
    ∙ ap (λ (ls : List (List ℕ)). judged (ls ++ more)) (sym (title_and_body (GpsItem e)))
    ∙ item_again (GpsItem e) more h

galileo_judged : (e : GalEph) (more : List (List ℕ)) → IsItem (GalItem e) → judged3 (body_lines (GalItem e) ++ more) ≡ judgments.Item (GalItem e)
unfolding body_lines title_of
galileo_judged e more h =
    galileo_table e.sat (date_text (civil_to (galileo_epoch e))) galileo_kind.rows (galileo_fields e) more galileo_some (ap letter_of h.whole.system)
    (galileo_inav e ((satellite_text e.sat ++ 32 ∷ []) ++ date_text (civil_to (galileo_epoch e))) more)
    ∙ ap (λ (ls : List (List ℕ)). judged (ls ++ more)) (sym (title_and_body (GalItem e)))
    ∙ item_again (GalItem e) more h

pub all_stand : (items : List NavItem) → AreItems items → AllStand rinex3 item3_lines (ephemerides items)
all_stand [] h = tt
all_stand (GpsItem e ∷ is) h = (record { are = gps_record e; judged = λ number more. ap (read_at number) (gps_judged e more h.0) }, all_stand is h.1)
all_stand (GalItem e ∷ is) h = (record { are = galileo_record e; judged = λ number more. ap (read_at number) (galileo_judged e more h.0) }, all_stand is h.1)
all_stand (IonItem e ∷ is) h = all_stand is h.1

-- ionospheres have no lines
pub lines_same : (items : List NavItem) → flat_map item3_lines items ≡ flat_map item3_lines (ephemerides items)
lines_same [] = refl
lines_same (GpsItem e ∷ is) = ap (λ ls. body_lines (GpsItem e) ++ ls) (lines_same is)
lines_same (GalItem e ∷ is) = ap (λ ls. body_lines (GalItem e) ++ ls) (lines_same is)
lines_same (IonItem e ∷ is) = lines_same is
