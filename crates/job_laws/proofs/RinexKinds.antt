-- A record of version 4 is judged as an item exactly if it is a record of that item by the relation.
use Rattle.std.proofs.Common.{◌≡◌, ℕ, ◌/◌, ◌%◌, ◌==◌, ◌&&◌, nat_le, Bool, true, false, List, [], ◌∷◌, length, get_or, codes, Result, Ok, Err, refl, ap, sym, ◌∙◌, subst, arith, ℤ, le-leb, eqb-true, eq-eqb}
use Rattle.std.proofs.lemmas.Bool.{and_parts, leb-true}
use Rattle.nav_eph.specs.Weeks.{IsWeek, week_of}
use Rattle.nav_eph.specs.Satellite.{Satellite}
use Rattle.nav_eph.specs.Ranges.{IsGpsItem, IsGalItem}
use Rattle.nav_eph.specs.declared.sat.System.TheVariants as systems
use Rattle.nav_eph.specs.Items.{content_system}
use Rattle.nav_eph.specs.declared.ion.GpsIon.{GpsIon}
use Rattle.nav_eph.specs.declared.ion.GalIon.{GalIon}
use Rattle.nav_eph.specs.declared.ion.IonContent.{IonContent}
use Rattle.nav_eph.specs.declared.ion.IonContent.TheVariants.{Gps as OfGps, Gal as OfGal}
use Rattle.nav_eph.specs.declared.items.GpsEph.{GpsEph}
use Rattle.nav_eph.specs.declared.items.GalEph.{GalEph}
use Rattle.nav_eph.specs.declared.items.IonEph.{IonEph}
use Rattle.nav_eph.specs.declared.items.NavItem.{NavItem}
use Rattle.nav_eph.specs.declared.items.NavItem.TheVariants.{Gps, Gal, Ion}
use Rattle.rinex_write.specs.Columns.{AreFields, joined_rows}
use Rattle.rinex_write.specs.Layouts.{Kind, toe_week, gps_kind, galileo_kind, gps_ionosphere_kind, galileo_ionosphere_kind, gps_rows, galileo_rows, gps_ionosphere_rows, galileo_ionosphere_rows}
use Rattle.rinex_write.specs.Fields.{gps_fields, gps_ionosphere_fields, galileo_ionosphere_fields}
use Rattle.rinex_write.specs.Texts.{letter_of}
use Rattle.rinex_read.specs.declared.reason.RecordFault.{RecordFault}
use Rattle.rinex_read.specs.declared.reason.RecordFault.TheVariants as reasons
use Rattle.rinex_read.specs.declared.judged.Judged.{Judged}
use Rattle.rinex_read.specs.declared.judged.Judged.TheVariants as judgments
use Rattle.rinex_read.specs.Lines.{columns, stands_at}
use Rattle.rinex_read.specs.Fields.{◌>>=◌, read_rows}
use Rattle.rinex_read.specs.Forms.{begins, rinex4}
use Rattle.rinex_read.specs.Judging.{need, first_of, is_kind, sat_of, same_sat, satellite_of, moment_at, is_named_week, Stated, ephemeris_stated, ionosphere_stated, natural, toc_of, gps_of, gps_clock_of, gps_orbit_a_of, galileo_of, galileo_word1_of, galileo_word4_of, gps_ionosphere_of, galileo_ionosphere_of, gps_item, galileo_item, gps_ionosphere_item, galileo_ionosphere_item, gps_read, galileo_read, gps_ionosphere_read, galileo_ionosphere_read, outcome, judged}
use Rattle.rinex_read.proofs.Surface.{judged_whole}
use Rattle.job_laws.specs.RinexRecords.{IsSatellite, IsEpoch, HasFields, gps_numbers, galileo_numbers, IsGpsBody, IsGalileoBody, HasIonosphere, message_of, IsRecord}
use Rattle.job_laws.proofs.RinexTexts.{bound, go_on, needed, stands-columns, columns-stands, IsOf, satellite-stands, satellite-read, epoch-stands, epoch-read}
use Rattle.job_laws.proofs.RinexFields.{Seen}
use Rattle.job_laws.proofs.RinexRows.{RowsSay, split, AllUsual, all_usual_by, rows-say, rows-read, say-by, by-say}
use Rattle.job_laws.proofs.RinexItems.{fields_length, gps_fields_again, galileo_flat, galileo_fields_again, gps_ionosphere_again, galileo_ionosphere_again, gps_again, galileo_again, gps_ionosphere_whole, galileo_ionosphere_whole, step_16, step_60, toc-says, toc-read}

first_line : (lines : List (List ℕ)) → first_of lines ≡ get_or lines 0 []
first_line [] = refl
first_line (l ∷ ls) = refl

-- the place of a title's parts
record HasTitle (k : Kind) (title : List ℕ) : Type 0 where
  pub class : columns 2 (length k.class) title ≡ k.class
  pub letter : get_or title 6 32 ≡ letter_of k.system
  pub message : columns 10 (length k.message) title ≡ k.message

kind-says : (k : Kind) (title : List ℕ) → is_kind k title ≡ true → HasTitle k title
unfolding stands_at
kind-says k title h =
    let last = and_parts (stands_at 2 k.class title && stands_at 6 (letter_of k.system ∷ []) title) (stands_at 10 k.message title) h in
    let both = and_parts (stands_at 2 k.class title) (stands_at 6 (letter_of k.system ∷ []) title) last.0 in
    let one = and_parts (get_or title 6 32 == letter_of k.system) true both.1 in
    record {
      class = stands-columns k.class 2 title both.0;
      letter = eqb-true (get_or title 6 32) (letter_of k.system) one.0;
      message = stands-columns k.message 10 title last.1;
    }

kind-read : (k : Kind) (title : List ℕ) → HasTitle k title → is_kind k title ≡ true
unfolding stands_at
kind-read k title h =
    ap (λ b. b && stands_at 6 (letter_of k.system ∷ []) title && stands_at 10 k.message title) (columns-stands k.class 2 title h.class)
    ∙ ap (λ b. b && stands_at 10 k.message title) (ap (λ b. b && true) (eq-eqb (get_or title 6 32) (letter_of k.system) h.letter))
    ∙ columns-stands k.message 10 title h.message

not_kind : (k : Kind) (title : List ℕ) → (HasTitle k title → ⊥) → is_kind k title ≡ false
not_kind k title not = go (is_kind k title) refl
  where
    go : (b : Bool) → is_kind k title ≡ b → b ≡ false
    go true e = absurd (not (kind-says k title e))
    go false e = refl

-- what is read of a record is what stands in its lines
pub record IsStated (k : Kind) (lines : List (List ℕ)) (said : Stated) : Type 0 where
  pub sat : IsOf k.system said.sat
  pub epoch : IsEpoch (get_or lines 0 []) said.moment
  pub rows : RowsSay k.rows 23 lines (split k.rows said.fields)
  pub size : length said.fields ≡ length (joined_rows k.rows)

abbrev made : Satellite → ℕ → List ℤ → Result Stated RecordFault
made sat m fields = Ok (record { sat = sat; moment = m; fields = fields })

abbrev numbers : Kind → List (List ℕ) → Satellite → ℕ → Result Stated RecordFault
numbers k lines sat m = read_rows k.rows 23 lines >>= made sat m

abbrev dated : Kind → List (List ℕ) → Satellite → Bool → Result Stated RecordFault
dated k lines sat same = moment_at (first_of lines) >>= numbers k lines sat

abbrev matched : Kind → List ℕ → List (List ℕ) → Satellite → Bool → Result Stated RecordFault
matched k title lines sat all = need (same_sat title (first_of lines)) reasons.BadSat >>= dated k lines sat

abbrev counted : Kind → List ℕ → List (List ℕ) → Satellite → Result Stated RecordFault
counted k title lines sat = need (nat_le (length k.rows) (length lines)) reasons.Short >>= matched k title lines sat

abbrev weekly : Kind → List (List ℕ) → Satellite → ℕ → Result Stated RecordFault
weekly k lines sat m = need (is_named_week m) reasons.Week >>= λ x. numbers k lines sat m

abbrev sent_on : Kind → List (List ℕ) → Satellite → Bool → Result Stated RecordFault
sent_on k lines sat all = moment_at (first_of lines) >>= weekly k lines sat

abbrev all_lines : Kind → List (List ℕ) → Satellite → Result Stated RecordFault
all_lines k lines sat = need (nat_le (length k.rows) (length lines)) reasons.Short >>= sent_on k lines sat

-- the satellite of a title
title-sat : (k : Kind) (title : List ℕ) (sat : Satellite) → get_or title 6 32 ≡ letter_of k.system → sat_of k.system title ≡ Ok sat → IsOf k.system sat × IsSatellite sat (columns 6 3 title)
unfolding columns
title-sat k title sat letter h =
    let is = satellite-stands k.system (get_or title 7 32) (get_or title 8 32) sat h in
    (is.0, subst (λ c. IsSatellite sat (c ∷ get_or title 7 32 ∷ get_or title 8 32 ∷ [])) (sym letter) is.1)

title-read : (k : Kind) (title : List ℕ) (sat : Satellite) → IsOf k.system sat → IsSatellite sat (columns 6 3 title) → (sat_of k.system title ≡ Ok sat) × (get_or title 6 32 ≡ letter_of k.system)
unfolding columns
title-read k title sat is text =
    let read = satellite-read sat (get_or title 6 32) (get_or title 7 32) (get_or title 8 32) is.1 text in
    (ap (λ s. satellite_of s (get_or title 7 32) (get_or title 8 32)) (sym is.0) ∙ read.0, read.1 ∙ ap letter_of is.0)

same-says : (title line : List ℕ) → same_sat title line ≡ true → columns 0 3 line ≡ columns 6 3 title
unfolding columns
same-says title line h = stands-columns (columns 6 3 title) 0 line h

same-read : (title line : List ℕ) → columns 0 3 line ≡ columns 6 3 title → same_sat title line ≡ true
unfolding columns
same-read title line h = columns-stands (columns 6 3 title) 0 line h

said-by : Seen → (k : Kind) (lines : List (List ℕ)) (sat : Satellite) (m : ℕ) (fields : List ℤ) (said : Stated) → AllUsual k.rows → IsOf k.system sat → moment_at (first_of lines) ≡ Ok m → read_rows k.rows 23 lines ≡ Ok fields
    → made sat m fields ≡ Ok said → IsStated k lines said × AreFields (joined_rows k.rows) said.fields
said-by laws k lines sat m fields said usual of_sat of_moment of_fields e =
    let is : ◌≡◌ {A = Stated} (record { sat = sat; moment = m; fields = fields }) said = cc in
    let rows = rows-say laws k.rows 23 lines fields usual of_fields in
    let stands : IsStated k lines (record { sat = sat; moment = m; fields = fields }) = record {
      sat = of_sat;
      epoch = epoch-stands (get_or lines 0 []) m (ap moment_at (sym (first_line lines)) ∙ of_moment);
      rows = rows.0;
      size = fields_length (joined_rows k.rows) fields rows.1;
    } in
    subst (λ (s : Stated). IsStated k lines s × AreFields (joined_rows k.rows) s.fields) is (stands, rows.1)

ephemeris-says : Seen → (k : Kind) (title : List ℕ) (lines : List (List ℕ)) (said : Stated) → AllUsual k.rows → get_or title 6 32 ≡ letter_of k.system → ephemeris_stated k title lines ≡ Ok said
    → (IsStated k lines said × AreFields (joined_rows k.rows) said.fields) × (columns 6 3 title ≡ columns 0 3 (get_or lines 0 [])) × IsSatellite said.sat (columns 0 3 (get_or lines 0 []))
unfolding ephemeris_stated
ephemeris-says laws k title lines said usual letter h =
    let a = bound (sat_of k.system title) (counted k title lines) said h in
    let b = bound (need (nat_le (length k.rows) (length lines)) reasons.Short) (matched k title lines a.value) said a.rest in
    let c = bound (need (same_sat title (first_of lines)) reasons.BadSat) (dated k lines a.value) said b.rest in
    let d = bound (moment_at (first_of lines)) (numbers k lines a.value) said c.rest in
    let e = bound (read_rows k.rows 23 lines) (made a.value d.value) said d.rest in
    let sat = title-sat k title a.value letter a.is in
    let same = sym (same-says title (first_of lines) (needed (same_sat title (first_of lines)) reasons.BadSat c.value c.is)) ∙ ap (columns 0 3) (first_line lines) in
    let is : a.value ≡ said.sat = sat_is a.value d.value e.value said e.rest in (
      said-by laws k lines a.value d.value e.value said usual sat.0 d.is e.is e.rest,
      same,
      subst (λ s. IsSatellite s (columns 0 3 (get_or lines 0 []))) is (subst (IsSatellite a.value) same sat.1),
    )
  where
    sat_is : (sat : Satellite) (m : ℕ) (fields : List ℤ) (said : Stated) → made sat m fields ≡ Ok said → sat ≡ said.sat
    sat_is sat m fields said e =
        let is : ◌≡◌ {A = Stated} (record { sat = sat; moment = m; fields = fields }) said = cc in
        ap (λ (s : Stated). s.sat) is

week-says : (m : ℕ) → is_named_week m ≡ true → IsWeek (week_of m)
week-says m h = let both = and_parts (nat_le 1 (m / 604800)) (nat_le (m / 604800) 16382) h in (leb-true 1 (m / 604800) both.0, leb-true (m / 604800) 16382 both.1)

week-read : (m : ℕ) → IsWeek (week_of m) → is_named_week m ≡ true
week-read m h = ap (λ b. b && nat_le (m / 604800) 16382) (le-leb 1 (m / 604800) h.0) ∙ le-leb (m / 604800) 16382 h.1

ionosphere-says : Seen → (k : Kind) (title : List ℕ) (lines : List (List ℕ)) (said : Stated) → AllUsual k.rows → get_or title 6 32 ≡ letter_of k.system → ionosphere_stated k title lines ≡ Ok said
    → (IsStated k lines said × AreFields (joined_rows k.rows) said.fields) × IsSatellite said.sat (columns 6 3 title)
unfolding ionosphere_stated
ionosphere-says laws k title lines said usual letter h =
    let a = bound (sat_of k.system title) (all_lines k lines) said h in
    let b = bound (need (nat_le (length k.rows) (length lines)) reasons.Short) (sent_on k lines a.value) said a.rest in
    let c = bound (moment_at (first_of lines)) (weekly k lines a.value) said b.rest in
    let d = bound (need (is_named_week c.value) reasons.Week) (λ x. numbers k lines a.value c.value) said c.rest in
    let e = bound (read_rows k.rows 23 lines) (made a.value c.value) said d.rest in
    let sat = title-sat k title a.value letter a.is in
    let is : a.value ≡ said.sat = sat_is a.value c.value e.value said e.rest in (
      said-by laws k lines a.value c.value e.value said usual sat.0 c.is e.is e.rest,
      subst (λ s. IsSatellite s (columns 6 3 title)) is sat.1,
    )
  where
    sat_is : (sat : Satellite) (m : ℕ) (fields : List ℤ) (said : Stated) → made sat m fields ≡ Ok said → sat ≡ said.sat
    sat_is sat m fields said e =
        let is : ◌≡◌ {A = Stated} (record { sat = sat; moment = m; fields = fields }) said = cc in
        ap (λ (s : Stated). s.sat) is

enough : Seen → (k : Kind) (lines : List (List ℕ)) (fields : List (List ℤ)) → HasFields k.rows lines fields → nat_le (length k.rows) (length lines) ≡ true
enough laws k lines fields h = le-leb (length k.rows) (length lines) h.enough

ephemeris-read : Seen → (k : Kind) (title : List ℕ) (lines : List (List ℕ)) (said : Stated) → AllUsual k.rows → IsStated k lines said → columns 6 3 title ≡ columns 0 3 (get_or lines 0 [])
    → IsSatellite said.sat (columns 0 3 (get_or lines 0 [])) → (ephemeris_stated k title lines ≡ Ok said) × (get_or title 6 32 ≡ letter_of k.system)
unfolding ephemeris_stated
ephemeris-read laws k title lines said usual is same text =
    let sat = title-read k title said.sat is.sat (subst (IsSatellite said.sat) (sym same) text) in
    let many = enough laws k lines (split k.rows said.fields) (say-by k.rows lines (split k.rows said.fields) is.rows) in
    let first = same-read title (first_of lines) (ap (columns 0 3) (first_line lines) ∙ sym same) in
    let moment = ap moment_at (first_line lines) ∙ epoch-read (get_or lines 0 []) said.moment is.epoch in
    let fields = rows-read laws k.rows 23 lines said.fields usual is.size is.rows in (
      go_on (sat_of k.system title) said.sat (counted k title lines) sat.0
          ∙ go_on (need (nat_le (length k.rows) (length lines)) reasons.Short) true (matched k title lines said.sat) (ap (λ b. need b reasons.Short) many)
          ∙ go_on (need (same_sat title (first_of lines)) reasons.BadSat) true (dated k lines said.sat) (ap (λ b. need b reasons.BadSat) first)
          ∙ go_on (moment_at (first_of lines)) said.moment (numbers k lines said.sat) moment
          ∙ go_on (read_rows k.rows 23 lines) said.fields (made said.sat said.moment) fields,
      sat.1,
    )

ionosphere-read : Seen → (k : Kind) (title : List ℕ) (lines : List (List ℕ)) (said : Stated) → AllUsual k.rows → IsStated k lines said → IsWeek (week_of said.moment) → IsSatellite said.sat (columns 6 3 title)
    → (ionosphere_stated k title lines ≡ Ok said) × (get_or title 6 32 ≡ letter_of k.system)
unfolding ionosphere_stated
ionosphere-read laws k title lines said usual is week text =
    let sat = title-read k title said.sat is.sat text in
    let many = enough laws k lines (split k.rows said.fields) (say-by k.rows lines (split k.rows said.fields) is.rows) in
    let moment = ap moment_at (first_line lines) ∙ epoch-read (get_or lines 0 []) said.moment is.epoch in
    let fields = rows-read laws k.rows 23 lines said.fields usual is.size is.rows in (
      go_on (sat_of k.system title) said.sat (all_lines k lines) sat.0
          ∙ go_on (need (nat_le (length k.rows) (length lines)) reasons.Short) true (sent_on k lines said.sat) (ap (λ b. need b reasons.Short) many)
          ∙ go_on (moment_at (first_of lines)) said.moment (weekly k lines said.sat) moment
          ∙ go_on (need (is_named_week said.moment) reasons.Week) true (λ x. numbers k lines said.sat said.moment) (ap (λ b. need b reasons.Week) (week-read said.moment week))
          ∙ go_on (read_rows k.rows 23 lines) said.fields (made said.sat said.moment) fields,
      sat.1,
    )

-- the tables are usual, and the fields of an item have their rows
gps_usual : AllUsual gps_kind.rows
unfolding gps_kind gps_rows
gps_usual = all_usual_by gps_kind.rows refl

galileo_usual : AllUsual galileo_kind.rows
unfolding galileo_kind galileo_rows
galileo_usual = all_usual_by galileo_kind.rows refl

gps_ionosphere_usual : AllUsual gps_ionosphere_kind.rows
unfolding gps_ionosphere_kind gps_ionosphere_rows
gps_ionosphere_usual = all_usual_by gps_ionosphere_kind.rows refl

galileo_ionosphere_usual : AllUsual galileo_ionosphere_kind.rows
unfolding galileo_ionosphere_kind galileo_ionosphere_rows
galileo_ionosphere_usual = all_usual_by galileo_ionosphere_kind.rows refl

gps_split : (e : GpsEph) → split gps_rows (gps_fields e) ≡ gps_numbers e
unfolding gps_rows
gps_split e = refl

galileo_split : (e : GalEph) (spare : ℕ) → split galileo_rows (galileo_flat e spare) ≡ galileo_numbers e spare
unfolding galileo_rows
galileo_split e spare = refl

pub mark_is : (title : List ℕ) → begins rinex4 title ≡ true → columns 0 1 title ≡ codes ">"
unfolding columns
mark_is title h = ap (λ (c : ℕ). c ∷ []) (eqb-true (get_or title 0 32) 62 h)

pub mark_begins : (title : List ℕ) → columns 0 1 title ≡ codes ">" → begins rinex4 title ≡ true
unfolding columns
mark_begins title h = eq-eqb (get_or title 0 32) 62 (ap (λ (l : List ℕ). get_or l 0 0) h)

gps-body : (lines : List (List ℕ)) (sat : Satellite) (toc moment : ℕ) (zs : List ℤ) → IsGpsItem (gps_of sat toc zs) → IsSatellite sat (columns 0 3 (get_or lines 0 [])) → IsEpoch (get_or lines 0 []) moment
    → toc_of 16 moment (natural zs 21) (natural zs 11) ≡ Ok toc → RowsSay gps_rows 23 lines (split gps_rows zs) → AreFields (joined_rows gps_rows) zs → IsGpsBody lines (gps_of sat toc zs)
unfolding gps_of gps_clock_of gps_orbit_a_of
gps-body lines sat toc moment zs item text epoch of_toc rows are =
    let e = gps_of sat toc zs in
    let fields : HasFields gps_rows lines (split gps_rows (gps_fields e)) = subst (λ ws. HasFields gps_rows lines (split gps_rows ws)) (sym (gps_fields_again sat toc zs are)) (say-by gps_rows lines (split gps_rows zs) rows) in (
      item,
      record {
        sat_is = text;
        epoch = moment;
        date = epoch;
        near = toc-says 16 moment (natural zs 21) (natural zs 11) toc step_16 of_toc;
        fields_are = subst (HasFields gps_rows lines) (gps_split e) fields;
      },
    )

gps-says : Seen → (title : List ℕ) (lines : List (List ℕ)) (item : NavItem) → begins rinex4 title ≡ true → HasTitle gps_kind title → judged (title ∷ lines) ≡ judgments.Item item → gps_read title lines ≡ Ok item
    → IsRecord title lines item
unfolding gps_kind
gps-says laws title lines item starts parts given h =
    let a = bound (ephemeris_stated gps_kind title lines) gps_item item h in
    let says = ephemeris-says laws gps_kind title lines a.value gps_usual parts.letter a.is in
    let zs = a.value.fields in
    let toc = bound (toc_of 16 a.value.moment (natural zs 21) (natural zs 11)) (λ t. Ok (Gps (gps_of a.value.sat t zs))) item a.rest in
    let is : Gps (gps_of a.value.sat toc.value zs) ≡ item = cc in
    let whole = judged_whole (title ∷ lines) (Gps (gps_of a.value.sat toc.value zs)) (given ∙ ap judgments.Item (sym is)) in
    subst (IsRecord title lines) is (
      record { mark = mark_is title starts; class_is = parts.class; sat_is = says.1; message_is = parts.message },
      gps-body lines a.value.sat toc.value a.value.moment zs whole says.2 says.0.0.epoch toc.is says.0.0.rows says.0.1,
    )

judged-gps : (title : List ℕ) (lines : List (List ℕ)) → is_kind gps_kind title ≡ true → judged (title ∷ lines) ≡ outcome (gps_read title lines)
unfolding judged
judged-gps title lines h = rw (h) refl

gps-read : Seen → (title : List ℕ) (lines : List (List ℕ)) (e : GpsEph) → IsRecord title lines (Gps e) → judged (title ∷ lines) ≡ judgments.Item (Gps e)
unfolding gps_kind gps_rows
gps-read laws title lines e h =
    let item = h.1.0 in
    let body = h.1.1 in
    let said : Stated = record { sat = e.sat; moment = body.epoch; fields = gps_fields e } in
    let rows : RowsSay gps_rows 23 lines (split gps_rows (gps_fields e)) = by-say gps_rows lines (gps_numbers e) (refl, (refl, (refl, (refl, (refl, (refl, (refl, (refl, tt)))))))) body.fields_are in
    let stands : IsStated gps_kind lines said = record { sat = (item.whole.system, item.ranges.sat); epoch = body.date; rows = rows; size = refl } in
    let read = ephemeris-read laws gps_kind title lines said gps_usual stands h.0.sat_is body.sat_is in
    let kind = kind-read gps_kind title (record { class = h.0.class_is; letter = read.1; message = h.0.message_is }) in
    let toc = toc-read 16 body.epoch e.toe_week e.a.toe e.clock.toc step_16 body.near in
    judged-gps title lines kind
    ∙ ap outcome (go_on (ephemeris_stated gps_kind title lines) said gps_item read.0
    ∙ go_on (toc_of 16 body.epoch e.toe_week e.a.toe) e.clock.toc (λ t. Ok (Gps (gps_of e.sat t (gps_fields e)))) toc
    ∙ ap (λ x. Ok (Gps x)) (gps_again e item))

galileo-body : (lines : List (List ℕ)) (sat : Satellite) (toc moment : ℕ) (zs : List ℤ) → IsGalItem (galileo_of sat toc zs) → IsSatellite sat (columns 0 3 (get_or lines 0 [])) → IsEpoch (get_or lines 0 []) moment
    → toc_of 60 moment (natural zs 21) (natural zs 11) ≡ Ok toc → RowsSay galileo_rows 23 lines (split galileo_rows zs) → AreFields (joined_rows galileo_rows) zs → IsGalileoBody lines (galileo_of sat toc zs)
unfolding galileo_of galileo_word1_of galileo_word4_of
galileo-body lines sat toc moment zs item text epoch of_toc rows are =
    let e = galileo_of sat toc zs in
    let spare = natural zs 23 / 8 % 8 in
    let fields : HasFields galileo_rows lines (split galileo_rows (galileo_flat e spare)) =
    subst (λ ws. HasFields galileo_rows lines (split galileo_rows ws)) (sym (galileo_fields_again sat toc zs toe_week are)) (say-by galileo_rows lines (split galileo_rows zs) rows) in (
      spare,
      omega arith,
      item,
      record {
        sat_is = text;
        epoch = moment;
        date = epoch;
        near = toc-says 60 moment (natural zs 21) (natural zs 11) toc step_60 of_toc;
        fields_are = subst (HasFields galileo_rows lines) (galileo_split e spare) fields;
      },
    )

galileo-says : Seen → (title : List ℕ) (lines : List (List ℕ)) (item : NavItem) → begins rinex4 title ≡ true → HasTitle galileo_kind title → judged (title ∷ lines) ≡ judgments.Item item → galileo_read title lines ≡ Ok item
    → IsRecord title lines item
unfolding galileo_kind
galileo-says laws title lines item starts parts given h =
    let a = bound (ephemeris_stated galileo_kind title lines) galileo_item item h in
    let says = ephemeris-says laws galileo_kind title lines a.value galileo_usual parts.letter a.is in
    let zs = a.value.fields in
    let toc = bound (toc_of 60 a.value.moment (natural zs 21) (natural zs 11)) (λ t. Ok (Gal (galileo_of a.value.sat t zs))) item a.rest in
    let is : Gal (galileo_of a.value.sat toc.value zs) ≡ item = cc in
    let whole = judged_whole (title ∷ lines) (Gal (galileo_of a.value.sat toc.value zs)) (given ∙ ap judgments.Item (sym is)) in
    subst (IsRecord title lines) is (
      record { mark = mark_is title starts; class_is = parts.class; sat_is = says.1; message_is = parts.message },
      galileo-body lines a.value.sat toc.value a.value.moment zs whole says.2 says.0.0.epoch toc.is says.0.0.rows says.0.1,
    )

judged-galileo : (title : List ℕ) (lines : List (List ℕ)) → is_kind gps_kind title ≡ false → is_kind galileo_kind title ≡ true → judged (title ∷ lines) ≡ outcome (galileo_read title lines)
unfolding judged
judged-galileo title lines g h = rw (g, h) refl

-- a title of Galileo is none of GPS
letters_differ : (k : Kind) (title : List ℕ) → k.system ≡ systems.Gps → get_or title 6 32 ≡ letter_of systems.Gal → is_kind k title ≡ false
letters_differ k title system letter = not_kind k title (λ (h : HasTitle k title). let own : get_or title 6 32 ≡ 71 = h.letter ∙ ap letter_of system in omega arith)

classes_differ : (k : Kind) (title : List ℕ) → k.class ≡ codes "EPH" → columns 2 3 title ≡ codes "ION" → is_kind k title ≡ false
classes_differ k title class ion = not_kind k title (λ (h : HasTitle k title). differ (subst (λ c. columns 2 (length c) title ≡ c) class h.class))
  where
    differ : columns 2 3 title ≡ codes "EPH" → ⊥
    differ eph = let same : ◌≡◌ {A = ℕ} 69 73 = ap (λ (l : List ℕ). get_or l 0 0) (sym eph ∙ ion) in omega arith

galileo-read : Seen → (title : List ℕ) (lines : List (List ℕ)) (e : GalEph) → IsRecord title lines (Gal e) → judged (title ∷ lines) ≡ judgments.Item (Gal e)
unfolding gps_kind galileo_kind galileo_rows
galileo-read laws title lines e h =
    let spare = h.1.0 in
    let item = h.1.2 in
    let body = h.1.3 in
    let flat = galileo_flat e spare in
    let said : Stated = record { sat = e.sat; moment = body.epoch; fields = flat } in
    let rows : RowsSay galileo_rows 23 lines (split galileo_rows flat) =
    by-say galileo_rows lines (galileo_numbers e spare) (refl, (refl, (refl, (refl, (refl, (refl, (refl, (refl, tt)))))))) body.fields_are in
    let stands : IsStated galileo_kind lines said = record { sat = (item.whole.system, item.ranges.sat); epoch = body.date; rows = rows; size = refl } in
    let read = ephemeris-read laws galileo_kind title lines said galileo_usual stands h.0.sat_is body.sat_is in
    let kind = kind-read galileo_kind title (record { class = h.0.class_is; letter = read.1; message = h.0.message_is }) in
    let toc = toc-read 60 body.epoch e.toe_week e.w1.toe e.w4.toc step_60 body.near in
    judged-galileo title lines (letters_differ gps_kind title refl read.1) kind
    ∙ ap outcome (go_on (ephemeris_stated galileo_kind title lines) said galileo_item read.0
    ∙ go_on (toc_of 60 body.epoch e.toe_week e.w1.toe) e.w4.toc (λ t. Ok (Gal (galileo_of e.sat t flat))) toc
    ∙ ap (λ x. Ok (Gal x)) (galileo_again e spare item h.1.1))

ok_same : (x y : NavItem) → ◌≡◌ {A = Result NavItem RecordFault} (Ok x) (Ok y) → x ≡ y
ok_same x y h = cc

judged-none : (title : List ℕ) (lines : List (List ℕ)) → is_kind gps_kind title ≡ false → is_kind galileo_kind title ≡ false → is_kind gps_ionosphere_kind title ≡ false
    → is_kind galileo_ionosphere_kind title ≡ false → judged (title ∷ lines) ≡ judgments.PassedOver
unfolding judged
judged-none title lines a b c d = rw (a, b, c, d) refl

-- ionospheres
gps-ionosphere-says : Seen → (title : List ℕ) (lines : List (List ℕ)) (item : NavItem) → begins rinex4 title ≡ true → HasTitle gps_ionosphere_kind title → judged (title ∷ lines) ≡ judgments.Item item
    → gps_ionosphere_read title lines ≡ Ok item → IsRecord title lines item
unfolding gps_ionosphere_kind gps_ionosphere_rows
gps-ionosphere-says laws title lines item starts parts given h =
    let a = bound (ionosphere_stated gps_ionosphere_kind title lines) gps_ionosphere_item item h in
    let says = ionosphere-says laws gps_ionosphere_kind title lines a.value gps_ionosphere_usual parts.letter a.is in
    let zs = a.value.fields in
    let e : IonEph = record { sat = a.value.sat; moment = a.value.moment; content = OfGps (gps_ionosphere_of zs) } in
    let is : Ion e ≡ item = ok_same (Ion e) item a.rest in
    let whole = judged_whole (title ∷ lines) (Ion e) (given ∙ ap judgments.Item (sym is)) in
    let fields = subst (λ ws. HasFields gps_ionosphere_rows lines (split gps_ionosphere_rows ws)) (sym (gps_ionosphere_again zs says.0.1)) (say-by gps_ionosphere_rows lines (split gps_ionosphere_rows zs) says.0.0.rows) in
    subst (IsRecord title lines) is (
      columns 6 3 title,
      says.1,
      record { mark = mark_is title starts; class_is = parts.class; sat_is = refl; message_is = parts.message },
      record { item = whole; date = says.0.0.epoch; fields = fields },
    )

galileo-ionosphere-says : Seen → (title : List ℕ) (lines : List (List ℕ)) (item : NavItem) → begins rinex4 title ≡ true → HasTitle galileo_ionosphere_kind title → judged (title ∷ lines) ≡ judgments.Item item
    → galileo_ionosphere_read title lines ≡ Ok item → IsRecord title lines item
unfolding galileo_ionosphere_kind galileo_ionosphere_rows
galileo-ionosphere-says laws title lines item starts parts given h =
    let a = bound (ionosphere_stated galileo_ionosphere_kind title lines) galileo_ionosphere_item item h in
    let says = ionosphere-says laws galileo_ionosphere_kind title lines a.value galileo_ionosphere_usual parts.letter a.is in
    let zs = a.value.fields in
    let e : IonEph = record { sat = a.value.sat; moment = a.value.moment; content = OfGal (galileo_ionosphere_of zs) } in
    let is : Ion e ≡ item = ok_same (Ion e) item a.rest in
    let whole = judged_whole (title ∷ lines) (Ion e) (given ∙ ap judgments.Item (sym is)) in
    let fields = subst (λ ws. HasFields galileo_ionosphere_rows lines (split galileo_ionosphere_rows ws)) (sym (galileo_ionosphere_again zs says.0.1))
    (say-by galileo_ionosphere_rows lines (split galileo_ionosphere_rows zs) says.0.0.rows) in
    subst (IsRecord title lines) is (
      columns 6 3 title,
      says.1,
      record { mark = mark_is title starts; class_is = parts.class; sat_is = refl; message_is = parts.message },
      record { item = whole; date = says.0.0.epoch; fields = fields },
    )

judged-gps-ionosphere : (title : List ℕ) (lines : List (List ℕ)) → is_kind gps_kind title ≡ false → is_kind galileo_kind title ≡ false → is_kind gps_ionosphere_kind title ≡ true
    → judged (title ∷ lines) ≡ outcome (gps_ionosphere_read title lines)
unfolding judged
judged-gps-ionosphere title lines a b h = rw (a, b, h) refl

judged-galileo-ionosphere : (title : List ℕ) (lines : List (List ℕ)) → is_kind gps_kind title ≡ false → is_kind galileo_kind title ≡ false → is_kind gps_ionosphere_kind title ≡ false
    → is_kind galileo_ionosphere_kind title ≡ true → judged (title ∷ lines) ≡ outcome (galileo_ionosphere_read title lines)
unfolding judged
judged-galileo-ionosphere title lines a b c h = rw (a, b, c, h) refl

ionosphere_judged : Seen → (title : List ℕ) (lines : List (List ℕ)) (e : IonEph) (content : IonContent) → content ≡ e.content → IsRecord title lines (Ion e) → judged (title ∷ lines) ≡ judgments.Item (Ion e)
unfolding gps_kind galileo_kind gps_ionosphere_kind gps_ionosphere_rows galileo_ionosphere_kind galileo_ionosphere_rows
ionosphere_judged laws title lines e (OfGps i) is h =
    let body = h.3 in
    let said : Stated = record { sat = e.sat; moment = e.moment; fields = gps_ionosphere_fields i } in
    let says : HasIonosphere lines (OfGps i) = subst (HasIonosphere lines) (sym is) body.fields in
    let rows : RowsSay gps_ionosphere_rows 23 lines (split gps_ionosphere_rows (gps_ionosphere_fields i)) = by-say gps_ionosphere_rows lines (split gps_ionosphere_rows (gps_ionosphere_fields i)) (refl, (refl, (refl, tt))) says in
    let system : e.sat.system ≡ systems.Gps = body.item.whole.system ∙ ap content_system (sym is) in
    let stands : IsStated gps_ionosphere_kind lines said = record { sat = (system, body.item.ranges.sat); epoch = body.date; rows = rows; size = refl } in
    let text = subst (IsSatellite e.sat) (sym h.2.sat_is) h.1 in
    let read = ionosphere-read laws gps_ionosphere_kind title lines said gps_ionosphere_usual stands body.item.whole.week text in
    let message : columns 10 4 title ≡ codes "LNAV" = h.2.message_is ∙ ap message_of (sym is) in
    let kind = kind-read gps_ionosphere_kind title (record { class = h.2.class_is; letter = read.1; message = message }) in
    judged-gps-ionosphere title lines (classes_differ gps_kind title refl h.2.class_is) (classes_differ galileo_kind title refl h.2.class_is) kind
    ∙ ap outcome (go_on (ionosphere_stated gps_ionosphere_kind title lines) said gps_ionosphere_item read.0
    ∙ ap (λ (c : GpsIon). Ok (Ion (record { sat = e.sat; moment = e.moment; content = OfGps c }))) (gps_ionosphere_whole i)
    ∙ ap (λ (c : IonContent). Ok (Ion (record { sat = e.sat; moment = e.moment; content = c }))) is)
ionosphere_judged laws title lines e (OfGal i) is h =
    let body = h.3 in
    let said : Stated = record { sat = e.sat; moment = e.moment; fields = galileo_ionosphere_fields i } in
    let says : HasIonosphere lines (OfGal i) = subst (HasIonosphere lines) (sym is) body.fields in
    let rows : RowsSay galileo_ionosphere_rows 23 lines (split galileo_ionosphere_rows (galileo_ionosphere_fields i)) =
    by-say galileo_ionosphere_rows lines (split galileo_ionosphere_rows (galileo_ionosphere_fields i)) (refl, (refl, tt)) says in
    let system : e.sat.system ≡ systems.Gal = body.item.whole.system ∙ ap content_system (sym is) in
    let stands : IsStated galileo_ionosphere_kind lines said = record { sat = (system, body.item.ranges.sat); epoch = body.date; rows = rows; size = refl } in
    let text = subst (IsSatellite e.sat) (sym h.2.sat_is) h.1 in
    let read = ionosphere-read laws galileo_ionosphere_kind title lines said galileo_ionosphere_usual stands body.item.whole.week text in
    let message : columns 10 4 title ≡ codes "IFNV" = h.2.message_is ∙ ap message_of (sym is) in
    let kind = kind-read galileo_ionosphere_kind title (record { class = h.2.class_is; letter = read.1; message = message }) in
    judged-galileo-ionosphere title lines (classes_differ gps_kind title refl h.2.class_is) (classes_differ galileo_kind title refl h.2.class_is) (letters_differ gps_ionosphere_kind title refl read.1) kind
    ∙ ap outcome (go_on (ionosphere_stated galileo_ionosphere_kind title lines) said galileo_ionosphere_item read.0
    ∙ ap (λ (c : GalIon). Ok (Ion (record { sat = e.sat; moment = e.moment; content = OfGal c }))) (galileo_ionosphere_whole i)
    ∙ ap (λ (c : IonContent). Ok (Ion (record { sat = e.sat; moment = e.moment; content = c }))) is)

-- an item that was given
outcome_ok : (r : Result NavItem RecordFault) (item : NavItem) → outcome r ≡ judgments.Item item → r ≡ Ok item
outcome_ok (Ok i) item h = let is : i ≡ item = cc in ap Ok is
outcome_ok (Err e) item h = absurd (cc)

-- each record that is judged as an item is a record of it
pub judged-says : Seen → (title : List ℕ) (lines : List (List ℕ)) (item : NavItem) → begins rinex4 title ≡ true → judged (title ∷ lines) ≡ judgments.Item item → IsRecord title lines item
judged-says laws title lines item starts given = first (is_kind gps_kind title) refl
  where
    fourth : (b : Bool) → is_kind galileo_ionosphere_kind title ≡ b → is_kind gps_kind title ≡ false → is_kind galileo_kind title ≡ false → is_kind gps_ionosphere_kind title ≡ false → IsRecord title lines item
    fourth true h f s t =
        galileo-ionosphere-says laws title lines item starts (kind-says galileo_ionosphere_kind title h) given
        (outcome_ok (galileo_ionosphere_read title lines) item (sym (judged-galileo-ionosphere title lines f s t h) ∙ given))
    fourth false h f s t = absurd (none h f s t)
      where
        none : is_kind galileo_ionosphere_kind title ≡ false → is_kind gps_kind title ≡ false → is_kind galileo_kind title ≡ false → is_kind gps_ionosphere_kind title ≡ false → ⊥
        none h f s t = let passed = judged-none title lines f s t h in let other : judgments.PassedOver ≡ judgments.Item item = sym passed ∙ given in cc

    third : (b : Bool) → is_kind gps_ionosphere_kind title ≡ b → is_kind gps_kind title ≡ false → is_kind galileo_kind title ≡ false → IsRecord title lines item
    third true h f s =
        gps-ionosphere-says laws title lines item starts (kind-says gps_ionosphere_kind title h) given
        (outcome_ok (gps_ionosphere_read title lines) item (sym (judged-gps-ionosphere title lines f s h) ∙ given))
    third false h f s = fourth (is_kind galileo_ionosphere_kind title) refl f s h

    second : (b : Bool) → is_kind galileo_kind title ≡ b → is_kind gps_kind title ≡ false → IsRecord title lines item
    second true h f =
        galileo-says laws title lines item starts (kind-says galileo_kind title h) given (outcome_ok (galileo_read title lines) item (sym (judged-galileo title lines f h) ∙ given))
    second false h f = third (is_kind gps_ionosphere_kind title) refl f h

    first : (b : Bool) → is_kind gps_kind title ≡ b → IsRecord title lines item
    first true h = gps-says laws title lines item starts (kind-says gps_kind title h) given (outcome_ok (gps_read title lines) item (sym (judged-gps title lines h) ∙ given))
    first false h = second (is_kind galileo_kind title) refl h

-- each record of an item is judged as it
pub judged-reads : Seen → (title : List ℕ) (lines : List (List ℕ)) (item : NavItem) → IsRecord title lines item → judged (title ∷ lines) ≡ judgments.Item item
judged-reads laws title lines (Gps e) h = gps-read laws title lines e h
judged-reads laws title lines (Gal e) h = galileo-read laws title lines e h
judged-reads laws title lines (Ion e) h = ionosphere_judged laws title lines e e.content refl h

-- a title has its mark
pub title_marked : (title : List ℕ) (lines : List (List ℕ)) (item : NavItem) → IsRecord title lines item → columns 0 1 title ≡ codes ">"
title_marked title lines (Gps e) h = h.0.mark
title_marked title lines (Gal e) h = h.0.mark
title_marked title lines (Ion e) h = h.2.mark

pub one_item : (a b : NavItem) → ◌≡◌ {A = Judged} (judgments.Item a) (judgments.Item b) → a ≡ b
one_item a b h = cc

pub one_record : Seen → (title : List ℕ) (lines : List (List ℕ)) (a b : NavItem) → IsRecord title lines a → IsRecord title lines b → a ≡ b
one_record laws title lines a b h k = one_item a b (sym (judged-reads laws title lines a h) ∙ judged-reads laws title lines b k)
