-- The record of an item gives that item, whatever lines follow.
use Rattle.std.proofs.Common.{◌≡◌, ℕ, suc, ◌+◌, ◌-◌, ◌*◌, ◌/◌, ◌%◌, ◌<◌, ◌==◌, ◌||◌, ◌&&◌, nat_le, true, false, List, [], ◌∷◌, ◌++◌, length, drop, codes, Ok, Err, refl, ap, sym, ◌∙◌, subst, arith, ℤ, if◌then◌else◌, length-append, ne_eqb}
use Rattle.std.proofs.lemmas.Bool.{le-leb}
use Rattle.scaled_decimal.specs.NumberText.{digits}
use Rattle.scaled_decimal.specs.NumberReading.{is_decimal}
use Rattle.nav_eph.specs.Weeks.{IsMoment, IsWeek, week_of}
use Rattle.nav_eph.specs.Functions.{civil_to, moment_to}
use Rattle.nav_eph.proofs.Surface.{civil_to-date, moment_to-again, short_date}
use Rattle.nav_eph.specs.Satellite.{Satellite, IsSat, most}
use Rattle.nav_eph.specs.declared.sat.System.{System}
use Rattle.nav_eph.specs.declared.sat.System.TheVariants.{Gps, Gal}
use Rattle.nav_eph.specs.declared.ion.IonContent.{IonContent}
use Rattle.nav_eph.specs.declared.ion.IonContent.TheVariants.{Gps as OfGps, Gal as OfGal}
use Rattle.nav_eph.specs.declared.items.GpsEph.{GpsEph}
use Rattle.nav_eph.specs.declared.items.GalEph.{GalEph}
use Rattle.nav_eph.specs.declared.items.IonEph.{IonEph}
use Rattle.nav_eph.specs.declared.items.NavItem.{NavItem}
use Rattle.nav_eph.specs.declared.items.NavItem.TheVariants.{Gps as GpsItem, Gal as GalItem, Ion as IonItem}
use Rattle.nav_eph.specs.Ranges.{IsGpsItem, IsGalItem, IsIonItem, IsItem}
use Rattle.rinex_write.specs.declared.columns.Column.{Column}
use Rattle.rinex_write.specs.Columns.{AreFields, row_text, row_lines, joined_rows, are_good}
use Rattle.rinex_write.specs.Layouts.{Kind, gps_kind, galileo_kind, gps_ionosphere_kind, galileo_ionosphere_kind, gps_rows, galileo_rows, gps_ionosphere_rows, galileo_ionosphere_rows}
use Rattle.rinex_write.specs.Fields.{gps_fields, galileo_fields, gps_ionosphere_fields, galileo_ionosphere_fields, gps_epoch, galileo_epoch}
use Rattle.rinex_write.specs.Texts.{satellite_text, date_text, title_line, item_lines}
use Rattle.rinex_read.specs.declared.reason.RecordFault.TheVariants as reasons
use Rattle.rinex_read.specs.declared.judged.Judged.TheVariants as judgments
use Rattle.rinex_read.specs.Lines.{columns, stands_at}
use Rattle.rinex_read.specs.Fields.{read_rows}
use Rattle.rinex_read.specs.Judging.{need, is_kind, named, satellite_of, sat_of, same_sat, date_of, moment_stated, moment_at, is_named_week, ephemeris_stated, ionosphere_stated, gps_item, galileo_item, gps_ionosphere_item, galileo_ionosphere_item, outcome, judged}
use Rattle.rinex_read.proofs.ColumnLemmas.{stands_first}
use Rattle.rinex_read.proofs.FieldLemmas.{bind_ok, rows_again}
use Rattle.rinex_read.proofs.DateLemmas.{date_again}
use Rattle.rinex_read.proofs.ItemLemmas.{gps_fields_are, galileo_fields_are, gps_ionosphere_fields_are, galileo_ionosphere_fields_are, gps_whole, galileo_whole, gps_ionosphere_whole, galileo_ionosphere_whole, gps_toc, galileo_toc}

digit_test : (x : ℕ) → x < 10 → is_decimal (48 + x) ≡ true
digit_test x h = grind arith

-- the number of a satellite is read
satellite_again : (system : System) (n : ℕ) → IsSat system n → n < 100 → satellite_of system (48 + n / 10 % 10) (48 + n % 10) ≡ Ok (record { system = system; number = n })
satellite_again system n is h =
    let tens : is_decimal (48 + n / 10 % 10) ≡ true = digit_test (n / 10 % 10) (omega arith) in
    let ones : is_decimal (48 + n % 10) ≡ true = digit_test (n % 10) (omega arith) in
    let blank : (48 + n / 10 % 10 == 32) ≡ false = ne_eqb (48 + n / 10 % 10) 32 (λ e. omega arith) in
    let number : 10 * (48 + n / 10 % 10 - 48) + (48 + n % 10 - 48) ≡ n = omega arith in
    let least : nat_le 1 n ≡ true = le-leb 1 n is.0 in
    let greatest : nat_le n (most system) ≡ true = le-leb n (most system) is.1 in
    ap (λ b. if b && ((48 + n / 10 % 10 == 32) || is_decimal (48 + n / 10 % 10))
    then named system ((if (48 + n / 10 % 10 == 32) then 0 else 10 * (48 + n / 10 % 10 - 48)) + (48 + n % 10 - 48)) else Err reasons.BadSat) ones
    ∙ ap (λ b. if (48 + n / 10 % 10 == 32) || b
    then named system ((if (48 + n / 10 % 10 == 32) then 0 else 10 * (48 + n / 10 % 10 - 48)) + (48 + n % 10 - 48)) else Err reasons.BadSat) tens
    ∙ ap (λ b. if b || true then named system ((if b then 0 else 10 * (48 + n / 10 % 10 - 48)) + (48 + n % 10 - 48)) else Err reasons.BadSat) blank
    ∙ ap (named system) number
    ∙ ap (λ b. if b && nat_le n (most system) then Ok (record { system = system; number = n }) else Err reasons.BadSat) least
    ∙ ap (λ b. if b then Ok (record { system = system; number = n }) else Err reasons.BadSat) greatest

pub moment_again : (m : ℕ) → IsMoment m → moment_stated (moment_to (civil_to m)) ≡ Ok m
moment_again m is = ap moment_stated (moment_to-again (civil_to m) m (civil_to-date m is) is)

pub length-date : (m : ℕ) → length (date_text (civil_to m)) ≡ 19
unfolding date_text digits
length-date m = refl

pub length-row_lines : (start : List ℕ) (rows : List (List Column)) (zs : List ℤ) → length (row_lines start rows zs) ≡ length rows
length-row_lines start [] zs = refl
length-row_lines start (r ∷ rs) zs = ap suc (length-row_lines (codes "    ") rs (drop (length r) zs))

-- the first of the lines of a record
abbrev first_line : ℕ → ℕ → ℕ → ℕ → ℕ → List Column → List ℤ → List ℕ
first_line a b c d moment r fields = a ∷ b ∷ c ∷ d ∷ (date_text (civil_to moment) ++ row_text r fields)

-- the lines of a record after its title
abbrev behind_title : ℕ → ℕ → ℕ → ℕ → ℕ → List (List Column) → List ℤ → List (List ℕ)
behind_title a b c d moment rows fields = row_lines (a ∷ b ∷ c ∷ d ∷ date_text (civil_to moment)) rows fields

-- an ephemeris that is written is read with the same contents
ephemeris_again : (class message : List ℕ) (system : System) (r : List Column) (rs : List (List Column)) (title : List ℕ) (sat : Satellite) (a b c d moment : ℕ) (fields : List ℤ) (more : List (List ℕ))
    → sat_of system title ≡ Ok sat → same_sat title (first_line a b c d moment r fields) ≡ true → IsMoment moment
    → are_good (joined_rows (r ∷ rs)) ≡ true → AreFields (joined_rows (r ∷ rs)) fields
    → ephemeris_stated (record { class = class; message = message; system = system; rows = r ∷ rs }) title (behind_title a b c d moment (r ∷ rs) fields ++ more)
    ≡ Ok (record { sat = sat; moment = moment; fields = fields })
unfolding ephemeris_stated
ephemeris_again class message system r rs title sat a b c d moment fields more sat_is same is good are =
    let lines = behind_title a b c d moment (r ∷ rs) fields ++ more in
    let count : length lines ≡ length (r ∷ rs) + length more = length-append (behind_title a b c d moment (r ∷ rs) fields) more
    ∙ ap (λ n. n + length more) (length-row_lines (a ∷ b ∷ c ∷ d ∷ date_text (civil_to moment)) (r ∷ rs) fields) in
    let all : nat_le (length (r ∷ rs)) (length lines) ≡ true = le-leb (length (r ∷ rs)) (length lines) (omega (arith, count)) in
    let short = short_date (civil_to moment) moment (civil_to-date moment is) in
    let date = date_again a b c d (civil_to moment) (row_text r fields) short in
    let rows = rows_again (r ∷ rs) fields 23 (a ∷ b ∷ c ∷ d ∷ date_text (civil_to moment)) more (omega (arith, length-date moment)) good are in
    bind_ok (sat_of system title) sat _ sat_is
    ∙ bind_ok (need (nat_le (length (r ∷ rs)) (length lines)) reasons.Short) true _ (ap (λ b. need b reasons.Short) all)
    ∙ bind_ok (need (same_sat title (first_line a b c d moment r fields)) reasons.BadSat) true _ (ap (λ b. need b reasons.BadSat) same)
    ∙ bind_ok (moment_at (first_line a b c d moment r fields)) moment _ (bind_ok (date_of (first_line a b c d moment r fields)) (civil_to moment) _ date ∙ moment_again moment is)
    ∙ bind_ok (read_rows (r ∷ rs) 23 lines) fields _ rows

-- an ionosphere that is written is read with the same contents
ionosphere_again : (class message : List ℕ) (system : System) (r : List Column) (rs : List (List Column)) (title : List ℕ) (sat : Satellite) (a b c d moment : ℕ) (fields : List ℤ) (more : List (List ℕ))
    → sat_of system title ≡ Ok sat → IsMoment moment → IsWeek (week_of moment)
    → are_good (joined_rows (r ∷ rs)) ≡ true → AreFields (joined_rows (r ∷ rs)) fields
    → ionosphere_stated (record { class = class; message = message; system = system; rows = r ∷ rs }) title (behind_title a b c d moment (r ∷ rs) fields ++ more)
    ≡ Ok (record { sat = sat; moment = moment; fields = fields })
unfolding ionosphere_stated
ionosphere_again class message system r rs title sat a b c d moment fields more sat_is is week good are =
    let lines = behind_title a b c d moment (r ∷ rs) fields ++ more in
    let count : length lines ≡ length (r ∷ rs) + length more = length-append (behind_title a b c d moment (r ∷ rs) fields) more
    ∙ ap (λ n. n + length more) (length-row_lines (a ∷ b ∷ c ∷ d ∷ date_text (civil_to moment)) (r ∷ rs) fields) in
    let all : nat_le (length (r ∷ rs)) (length lines) ≡ true = le-leb (length (r ∷ rs)) (length lines) (omega (arith, count)) in
    let short = short_date (civil_to moment) moment (civil_to-date moment is) in
    let date = date_again a b c d (civil_to moment) (row_text r fields) short in
    let named : is_named_week moment ≡ true = ap (λ b. b && nat_le (moment / 604800) 16382) (le-leb 1 (moment / 604800) week.0) ∙ le-leb (moment / 604800) 16382 week.1 in
    let rows = rows_again (r ∷ rs) fields 23 (a ∷ b ∷ c ∷ d ∷ date_text (civil_to moment)) more (omega (arith, length-date moment)) good are in
    bind_ok (sat_of system title) sat _ sat_is
    ∙ bind_ok (need (nat_le (length (r ∷ rs)) (length lines)) reasons.Short) true _ (ap (λ b. need b reasons.Short) all)
    ∙ bind_ok (moment_at (first_line a b c d moment r fields)) moment _ (bind_ok (date_of (first_line a b c d moment r fields)) (civil_to moment) _ date ∙ moment_again moment is)
    ∙ bind_ok (need (is_named_week moment) reasons.Week) true _ (ap (λ b. need b reasons.Week) named)
    ∙ bind_ok (read_rows (r ∷ rs) 23 lines) fields _ rows

abbrev gps_sat : ℕ → Satellite
gps_sat n = record { system = Gps; number = n }

abbrev galileo_sat : ℕ → Satellite
galileo_sat n = record { system = Gal; number = n }

gps_title : (n : ℕ) → is_kind gps_kind (title_line gps_kind (gps_sat n)) ≡ true
unfolding gps_kind stands_at digits
gps_title n = refl

galileo_title : (n : ℕ) → (is_kind gps_kind (title_line galileo_kind (galileo_sat n)) ≡ false) × (is_kind galileo_kind (title_line galileo_kind (galileo_sat n)) ≡ true)
unfolding gps_kind galileo_kind stands_at digits
galileo_title n = (refl, refl)

gps_ionosphere_title : (n : ℕ) → (is_kind gps_kind (title_line gps_ionosphere_kind (gps_sat n)) ≡ false) × (is_kind galileo_kind (title_line gps_ionosphere_kind (gps_sat n)) ≡ false)
    × (is_kind gps_ionosphere_kind (title_line gps_ionosphere_kind (gps_sat n)) ≡ true)
unfolding gps_kind galileo_kind gps_ionosphere_kind stands_at digits
gps_ionosphere_title n = (refl, refl, refl)

galileo_ionosphere_title : (n : ℕ) → (is_kind gps_kind (title_line galileo_ionosphere_kind (galileo_sat n)) ≡ false) × (is_kind galileo_kind (title_line galileo_ionosphere_kind (galileo_sat n)) ≡ false)
    × (is_kind gps_ionosphere_kind (title_line galileo_ionosphere_kind (galileo_sat n)) ≡ false) × (is_kind galileo_ionosphere_kind (title_line galileo_ionosphere_kind (galileo_sat n)) ≡ true)
unfolding gps_kind galileo_kind gps_ionosphere_kind galileo_ionosphere_kind stands_at digits
galileo_ionosphere_title n = (refl, refl, refl, refl)

gps_good : are_good (joined_rows gps_rows) ≡ true
unfolding gps_rows
gps_good = refl

galileo_good : are_good (joined_rows galileo_rows) ≡ true
unfolding galileo_rows
galileo_good = refl

gps_ionosphere_good : are_good (joined_rows gps_ionosphere_rows) ≡ true
unfolding gps_ionosphere_rows
gps_ionosphere_good = refl

galileo_ionosphere_good : are_good (joined_rows galileo_ionosphere_rows) ≡ true
unfolding galileo_ionosphere_rows
galileo_ionosphere_good = refl

-- the lines of the rows of an ephemeris of this satellite
abbrev ephemeris_rows : Kind → Satellite → ℕ → List ℤ → List (List ℕ)
ephemeris_rows k sat moment fields = row_lines ((satellite_text sat ++ 32 ∷ []) ++ date_text (civil_to moment)) k.rows fields

abbrev ionosphere_rows : Kind → ℕ → List ℤ → List (List ℕ)
ionosphere_rows k moment fields = row_lines (codes "    " ++ date_text (civil_to moment)) k.rows fields

gps_said : (n moment : ℕ) (fields : List ℤ) (more : List (List ℕ)) → IsSat Gps n → IsMoment moment → AreFields (joined_rows gps_rows) fields
    → ephemeris_stated gps_kind (title_line gps_kind (gps_sat n)) (ephemeris_rows gps_kind (gps_sat n) moment fields ++ more) ≡ Ok (record { sat = gps_sat n; moment = moment; fields = fields })
unfolding gps_kind gps_rows digits columns
gps_said n moment fields more is m are =
    ephemeris_again _ _ Gps _ _ (title_line gps_kind (gps_sat n)) (gps_sat n) 71 (48 + n / 10 % 10) (48 + n % 10) 32 moment fields more
    (satellite_again Gps n is (omega (arith, is.1))) (stands_first 71 (48 + n / 10 % 10) (48 + n % 10) _) m gps_good are

galileo_said : (n moment : ℕ) (fields : List ℤ) (more : List (List ℕ)) → IsSat Gal n → IsMoment moment → AreFields (joined_rows galileo_rows) fields
    → ephemeris_stated galileo_kind (title_line galileo_kind (galileo_sat n)) (ephemeris_rows galileo_kind (galileo_sat n) moment fields ++ more) ≡ Ok (record { sat = galileo_sat n; moment = moment; fields = fields })
unfolding galileo_kind galileo_rows digits columns
galileo_said n moment fields more is m are =
    ephemeris_again _ _ Gal _ _ (title_line galileo_kind (galileo_sat n)) (galileo_sat n) 69 (48 + n / 10 % 10) (48 + n % 10) 32 moment fields more
    (satellite_again Gal n is (omega (arith, is.1))) (stands_first 69 (48 + n / 10 % 10) (48 + n % 10) _) m galileo_good are

gps_ionosphere_said : (n moment : ℕ) (fields : List ℤ) (more : List (List ℕ)) → IsSat Gps n → IsMoment moment → IsWeek (week_of moment) → AreFields (joined_rows gps_ionosphere_rows) fields
    → ionosphere_stated gps_ionosphere_kind (title_line gps_ionosphere_kind (gps_sat n)) (ionosphere_rows gps_ionosphere_kind moment fields ++ more)
    ≡ Ok (record { sat = gps_sat n; moment = moment; fields = fields })
unfolding gps_ionosphere_kind gps_ionosphere_rows digits
gps_ionosphere_said n moment fields more is m week are =
    ionosphere_again _ _ Gps _ _ (title_line gps_ionosphere_kind (gps_sat n)) (gps_sat n) 32 32 32 32 moment fields more
    (satellite_again Gps n is (omega (arith, is.1))) m week gps_ionosphere_good are

galileo_ionosphere_said : (n moment : ℕ) (fields : List ℤ) (more : List (List ℕ)) → IsSat Gal n → IsMoment moment → IsWeek (week_of moment) → AreFields (joined_rows galileo_ionosphere_rows) fields
    → ionosphere_stated galileo_ionosphere_kind (title_line galileo_ionosphere_kind (galileo_sat n)) (ionosphere_rows galileo_ionosphere_kind moment fields ++ more)
    ≡ Ok (record { sat = galileo_sat n; moment = moment; fields = fields })
unfolding galileo_ionosphere_kind galileo_ionosphere_rows digits
galileo_ionosphere_said n moment fields more is m week are =
    ionosphere_again _ _ Gal _ _ (title_line galileo_ionosphere_kind (galileo_sat n)) (galileo_sat n) 32 32 32 32 moment fields more
    (satellite_again Gal n is (omega (arith, is.1))) m week galileo_ionosphere_good are

-- how the lines of each kind are judged
gps_judged : (n moment : ℕ) (fields : List ℤ) (more : List (List ℕ)) → IsSat Gps n → IsMoment moment → AreFields (joined_rows gps_rows) fields
    → judged (title_line gps_kind (gps_sat n) ∷ (ephemeris_rows gps_kind (gps_sat n) moment fields ++ more)) ≡ outcome (gps_item (record { sat = gps_sat n; moment = moment; fields = fields }))
unfolding judged
gps_judged n moment fields more is m are =
    let said = gps_said n moment fields more is m are in
    let kind = gps_title n in
    rw (kind, said) refl

galileo_judged : (n moment : ℕ) (fields : List ℤ) (more : List (List ℕ)) → IsSat Gal n → IsMoment moment → AreFields (joined_rows galileo_rows) fields
    → judged (title_line galileo_kind (galileo_sat n) ∷ (ephemeris_rows galileo_kind (galileo_sat n) moment fields ++ more)) ≡ outcome (galileo_item (record { sat = galileo_sat n; moment = moment; fields = fields }))
unfolding judged
galileo_judged n moment fields more is m are =
    let said = galileo_said n moment fields more is m are in
    let kind = galileo_title n in
    rw (kind.0, kind.1, said) refl

gps_ionosphere_judged : (n moment : ℕ) (fields : List ℤ) (more : List (List ℕ)) → IsSat Gps n → IsMoment moment → IsWeek (week_of moment) → AreFields (joined_rows gps_ionosphere_rows) fields
    → judged (title_line gps_ionosphere_kind (gps_sat n) ∷ (ionosphere_rows gps_ionosphere_kind moment fields ++ more)) ≡ outcome (gps_ionosphere_item (record { sat = gps_sat n; moment = moment; fields = fields }))
unfolding judged
gps_ionosphere_judged n moment fields more is m week are =
    let said = gps_ionosphere_said n moment fields more is m week are in
    let kind = gps_ionosphere_title n in
    rw (kind.0, kind.1, kind.2, said) refl

galileo_ionosphere_judged : (n moment : ℕ) (fields : List ℤ) (more : List (List ℕ)) → IsSat Gal n → IsMoment moment → IsWeek (week_of moment) → AreFields (joined_rows galileo_ionosphere_rows) fields
    → judged (title_line galileo_ionosphere_kind (galileo_sat n) ∷ (ionosphere_rows galileo_ionosphere_kind moment fields ++ more)) ≡ outcome (galileo_ionosphere_item (record { sat = galileo_sat n; moment = moment; fields = fields }))
unfolding judged
galileo_ionosphere_judged n moment fields more is m week are =
    let said = galileo_ionosphere_said n moment fields more is m week are in
    let kind = galileo_ionosphere_title n in
    rw (kind.0, kind.1, kind.2, kind.3, said) refl

gps_again : (e : GpsEph) (more : List (List ℕ)) → IsGpsItem e → judged (item_lines (GpsItem e) ++ more) ≡ judgments.Item (GpsItem e)
unfolding item_lines
gps_again e more h =
    let toc = gps_toc e h in
    let read = subst (λ s. IsSat s e.sat.number →
    judged (title_line gps_kind (record { system = s; number = e.sat.number }) ∷ (ephemeris_rows gps_kind (record { system = s; number = e.sat.number }) (gps_epoch e) (gps_fields e) ++ more))
    ≡ outcome (gps_item (record { sat = record { system = s; number = e.sat.number }; moment = gps_epoch e; fields = gps_fields e })))
    (sym h.whole.system) (λ is. gps_judged e.sat.number (gps_epoch e) (gps_fields e) more is toc.1 (gps_fields_are e h)) h.ranges.sat in
    read ∙ ap outcome (bind_ok _ e.clock.toc _ toc.0) ∙ ap (λ i. judgments.Item (GpsItem i)) (gps_whole e h)

galileo_again : (e : GalEph) (more : List (List ℕ)) → IsGalItem e → judged (item_lines (GalItem e) ++ more) ≡ judgments.Item (GalItem e)
unfolding item_lines
galileo_again e more h =
    let toc = galileo_toc e h in
    let read = subst (λ s. IsSat s e.sat.number →
    judged (title_line galileo_kind (record { system = s; number = e.sat.number }) ∷ (ephemeris_rows galileo_kind (record { system = s; number = e.sat.number }) (galileo_epoch e) (galileo_fields e) ++ more))
    ≡ outcome (galileo_item (record { sat = record { system = s; number = e.sat.number }; moment = galileo_epoch e; fields = galileo_fields e })))
    (sym h.whole.system) (λ is. galileo_judged e.sat.number (galileo_epoch e) (galileo_fields e) more is toc.1 (galileo_fields_are e h)) h.ranges.sat in
    read ∙ ap outcome (bind_ok _ e.w4.toc _ toc.0) ∙ ap (λ i. judgments.Item (GalItem i)) (galileo_whole e h)

ionosphere_item_again : (e : IonEph) (content : IonContent) (more : List (List ℕ)) → IsIonItem (record e { content = content })
    → judged (item_lines (IonItem (record e { content = content })) ++ more) ≡ judgments.Item (IonItem (record e { content = content }))
unfolding item_lines
ionosphere_item_again e (OfGps i) more h =
    subst (λ s. IsSat s e.sat.number →
    judged (title_line gps_ionosphere_kind (record { system = s; number = e.sat.number }) ∷ (ionosphere_rows gps_ionosphere_kind e.moment (gps_ionosphere_fields i) ++ more))
    ≡ outcome (gps_ionosphere_item (record { sat = record { system = s; number = e.sat.number }; moment = e.moment; fields = gps_ionosphere_fields i })))
    (sym h.whole.system) (λ is. gps_ionosphere_judged e.sat.number e.moment (gps_ionosphere_fields i) more is h.ranges.moment h.whole.week (gps_ionosphere_fields_are i h.ranges.content)) h.ranges.sat
    ∙ ap (λ c. judgments.Item (IonItem (record { sat = e.sat; moment = e.moment; content = OfGps c }))) (gps_ionosphere_whole i)
ionosphere_item_again e (OfGal i) more h =
    subst (λ s. IsSat s e.sat.number →
    judged (title_line galileo_ionosphere_kind (record { system = s; number = e.sat.number }) ∷ (ionosphere_rows galileo_ionosphere_kind e.moment (galileo_ionosphere_fields i) ++ more))
    ≡ outcome (galileo_ionosphere_item (record { sat = record { system = s; number = e.sat.number }; moment = e.moment; fields = galileo_ionosphere_fields i })))
    (sym h.whole.system) (λ is. galileo_ionosphere_judged e.sat.number e.moment (galileo_ionosphere_fields i) more is h.ranges.moment h.whole.week (galileo_ionosphere_fields_are i h.ranges.content)) h.ranges.sat
    ∙ ap (λ c. judgments.Item (IonItem (record { sat = e.sat; moment = e.moment; content = OfGal c }))) (galileo_ionosphere_whole i)

-- the record of an item gives that item, whatever lines follow
pub item_again : (i : NavItem) (more : List (List ℕ)) → IsItem i → judged (item_lines i ++ more) ≡ judgments.Item i
item_again (GpsItem e) more h = gps_again e more h
item_again (GalItem e) more h = galileo_again e more h
item_again (IonItem e) more h = ionosphere_item_again e e.content more h
