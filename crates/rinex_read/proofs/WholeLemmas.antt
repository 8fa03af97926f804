-- An item that a record gives is consistent, each field within its width.
use Rattle.std.proofs.Common.{◌≡◌, ℕ, ◌+◌, ◌-◌, ◌*◌, ◌/◌, ◌%◌, ◌<◌, ◌==◌, ◌&&◌, ◌||◌, nat_le, nat_lt, Bool, true, false, if◌then◌else◌, List, [], ◌∷◌, length, Result, Ok, Err, refl, ap, subst, arith, ℤ, pos, negsuc, ◌≤ℤ◌, int_le, unsigned_abs, get_or}
use Rattle.std.proofs.lemmas.Bool.{leb-true}
use Rattle.std.proofs.lemmas.Int.{ints}
use Rattle.scaled_decimal.specs.NumberReading.{is_decimal}
use Rattle.nav_eph.specs.Weeks.{IsMoment, IsWeek, week_of}
use Rattle.nav_eph.specs.Functions.{moment_to}
use Rattle.nav_eph.specs.Dates.{GivesMoment}
use Rattle.nav_eph.specs.declared.calendar.Civil.{Civil}
use Rattle.nav_eph.specs.declared.calendar.WeekFault.{WeekFault}
use Rattle.nav_eph.specs.declared.calendar.WeekFault.TheVariants as weeks
use Rattle.nav_eph.proofs.Surface.{moment_to-answer}
use Rattle.nav_eph.specs.Satellite.{Satellite, IsSat, most}
use Rattle.nav_eph.specs.declared.sat.System.{System}
use Rattle.nav_eph.specs.declared.sat.System.TheVariants.{Gps, Gal}
use Rattle.nav_eph.specs.declared.ion.IonContent.TheVariants.{Gps as OfGps, Gal as OfGal}
use Rattle.nav_eph.specs.declared.items.NavItem.{NavItem}
use Rattle.nav_eph.specs.declared.items.NavItem.TheVariants.{Gps as GpsItem, Gal as GalItem, Ion as IonItem}
use Rattle.nav_eph.specs.Items.{IsSentSecond}
use Rattle.nav_eph.specs.declared.items.SentSecond.TheVariants.{Unknown, At}
use Rattle.nav_eph.specs.Ranges.{IsItem}
use Rattle.rinex_write.specs.Columns.{AreFields, joined_rows}
use Rattle.rinex_write.specs.Layouts.{Kind, gps_kind, galileo_kind, gps_ionosphere_kind, galileo_ionosphere_kind}
use Rattle.rinex_read.specs.declared.reason.RecordFault.{RecordFault}
use Rattle.rinex_read.specs.declared.reason.RecordFault.TheVariants as reasons
use Rattle.rinex_read.specs.declared.judged.Judged.TheVariants as judgments
use Rattle.rinex_read.specs.Fields.{◌>>=◌, read_rows}
use Rattle.rinex_read.specs.Judging.{need, first_of, is_kind, named, satellite_of, sat_of, same_sat, date_of, moment_stated, moment_at, is_named_week, Stated, ephemeris_stated, ionosphere_stated, field, natural, sent_of, toc_of, gps_of, gps_clock_of, gps_side_of, gps_orbit_a_of, gps_orbit_b_of, galileo_of, galileo_word1_of, galileo_word2_of, galileo_word3_of, galileo_word4_of, gps_ionosphere_of, galileo_ionosphere_of, gps_item, galileo_item, gps_ionosphere_item, galileo_ionosphere_item, gps_read, galileo_read, gps_ionosphere_read, galileo_ionosphere_read, outcome, judged}
use Rattle.rinex_read.specs.Mirrors.{AreGpsFields, AreGalileoFields}
use Rattle.rinex_read.proofs.FieldLemmas.{le_from}
use Rattle.rinex_read.proofs.TakenLemmas.{bound, have_zero, rows_are, gps_zero, galileo_zero, gps_ionosphere_zero, galileo_ionosphere_zero}
use Rattle.rinex_read.proofs.RangeLemmas.{gps_fields_in, galileo_fields_in, gps_ionosphere_fields_in, galileo_ionosphere_fields_in}

need_ok : (b : Bool) (e : RecordFault) (x : Bool) → need b e ≡ Ok x → b ≡ true
need_ok true e x h = refl
need_ok false e x h = absurd (cc)

abbrev IsOf : System → Satellite → Type 0
IsOf system sat = (sat.system ≡ system) × IsSat sat.system sat.number

named_is : (system : System) (n : ℕ) (sat : Satellite) → named system n ≡ Ok sat → IsOf system sat
named_is system n sat h = go (nat_le 1 n) (nat_le n (most system)) refl refl h
  where
    go : (a b : Bool) → nat_le 1 n ≡ a → nat_le n (most system) ≡ b → (if a && b then Ok (record { system = system; number = n }) else Err reasons.BadSat) ≡ Ok sat → IsOf system sat
    go true true p q e =
        let is : ◌≡◌ {A = Satellite} (record { system = system; number = n }) sat = cc in
        subst (IsOf system) is (refl, (leb-true 1 n p, leb-true n (most system) q))
    go true false p q e = absurd (cc)
    go false b p q e = absurd (cc)

satellite_is : (system : System) (tens ones : ℕ) (sat : Satellite) → satellite_of system tens ones ≡ Ok sat → IsOf system sat
satellite_is system tens ones sat h = go (is_decimal ones && (tens == 32 || is_decimal tens)) h
  where
    go : (b : Bool) → (if b then named system ((if tens == 32 then 0 else 10 * (tens - 48)) + (ones - 48)) else Err reasons.BadSat) ≡ Ok sat → IsOf system sat
    go true e = named_is system _ sat e
    go false e = absurd (cc)

moment_is : (answer : Result ℕ WeekFault) (date : Civil) (m : ℕ) → GivesMoment date answer → moment_stated answer ≡ Ok m → IsMoment m
moment_is (Ok n) date m g h = let is : n ≡ m = cc in subst IsMoment is g.1
moment_is (Err weeks.NoSuchDate) date m g h = absurd (cc)
moment_is (Err weeks.BeforeEpoch) date m g h = absurd (cc)
moment_is (Err weeks.TooFar) date m g h = absurd (cc)

moment_at_is : (line : List ℕ) (m : ℕ) → moment_at line ≡ Ok m → IsMoment m
moment_at_is line m h =
    let b = bound (date_of line) (λ date. moment_stated (moment_to date)) m h in
    moment_is (moment_to b.value) b.value m (moment_to-answer b.value) b.rest

-- the facts about the contents of a record
record IsStated (k : Kind) (s : Stated) : Type 0 where
  pub sat : IsOf k.system s.sat
  pub moment : IsMoment s.moment
  pub fields : AreFields (joined_rows k.rows) s.fields

abbrev made : Satellite → ℕ → List ℤ → Result Stated RecordFault
made sat m fields = Ok (record { sat = sat; moment = m; fields = fields })

abbrev numbers : Kind → List (List ℕ) → Satellite → ℕ → Result Stated RecordFault
numbers k lines sat m = read_rows k.rows 23 lines >>= made sat m

said_so : (k : Kind) (title : List ℕ) (lines : List (List ℕ)) (sat : Satellite) (m : ℕ) (s : Stated) → have_zero (joined_rows k.rows) ≡ true → sat_of k.system title ≡ Ok sat → moment_at (first_of lines) ≡ Ok m
    → numbers k lines sat m ≡ Ok s → IsStated k s
said_so k title lines sat m s good of_sat of_moment h =
    let b = bound (read_rows k.rows 23 lines) (made sat m) s h in
    let is : ◌≡◌ {A = Stated} (record { sat = sat; moment = m; fields = b.value }) s = cc in
    subst (IsStated k) is (record {
      sat = satellite_is k.system (get_or title 7 32) (get_or title 8 32) sat of_sat;
      moment = moment_at_is (first_of lines) m of_moment;
      fields = rows_are k.rows 23 lines b.value good b.is;
    })

abbrev dated : Kind → List (List ℕ) → Satellite → Bool → Result Stated RecordFault
dated k lines sat same = moment_at (first_of lines) >>= numbers k lines sat

abbrev matched : Kind → List ℕ → List (List ℕ) → Satellite → Bool → Result Stated RecordFault
matched k title lines sat all = need (same_sat title (first_of lines)) reasons.BadSat >>= dated k lines sat

abbrev counted : Kind → List ℕ → List (List ℕ) → Satellite → Result Stated RecordFault
counted k title lines sat = need (nat_le (length k.rows) (length lines)) reasons.Short >>= matched k title lines sat

ephemeris_is : (k : Kind) (title : List ℕ) (lines : List (List ℕ)) (s : Stated) → have_zero (joined_rows k.rows) ≡ true → ephemeris_stated k title lines ≡ Ok s → IsStated k s
unfolding ephemeris_stated
ephemeris_is k title lines s good h =
    let a = bound (sat_of k.system title) (counted k title lines) s h in
    let b = bound (need (nat_le (length k.rows) (length lines)) reasons.Short) (matched k title lines a.value) s a.rest in
    let c = bound (need (same_sat title (first_of lines)) reasons.BadSat) (dated k lines a.value) s b.rest in
    let d = bound (moment_at (first_of lines)) (numbers k lines a.value) s c.rest in
    said_so k title lines a.value d.value s good a.is d.is d.rest

abbrev weekly : Kind → List (List ℕ) → Satellite → ℕ → Result Stated RecordFault
weekly k lines sat m = need (is_named_week m) reasons.Week >>= λ x. numbers k lines sat m

abbrev sent_on : Kind → List (List ℕ) → Satellite → Bool → Result Stated RecordFault
sent_on k lines sat all = moment_at (first_of lines) >>= weekly k lines sat

abbrev all_lines : Kind → List (List ℕ) → Satellite → Result Stated RecordFault
all_lines k lines sat = need (nat_le (length k.rows) (length lines)) reasons.Short >>= sent_on k lines sat

week_is : (m : ℕ) → is_named_week m ≡ true → IsWeek (week_of m)
week_is m h = go (nat_le 1 (m / 604800)) (nat_le (m / 604800) 16382) refl refl h
  where
    go : (a b : Bool) → nat_le 1 (m / 604800) ≡ a → nat_le (m / 604800) 16382 ≡ b → (a && b) ≡ true → IsWeek (week_of m)
    go true true p q e = (leb-true 1 (m / 604800) p, leb-true (m / 604800) 16382 q)
    go true false p q e = absurd (cc)
    go false b p q e = absurd (cc)

same_moment : (k : Kind) (lines : List (List ℕ)) (sat : Satellite) (m : ℕ) (s : Stated) → numbers k lines sat m ≡ Ok s → m ≡ s.moment
same_moment k lines sat m s h =
    let b = bound (read_rows k.rows 23 lines) (made sat m) s h in
    let is : ◌≡◌ {A = Stated} (record { sat = sat; moment = m; fields = b.value }) s = cc in
    ap (λ (t : Stated). t.moment) is

ionosphere_is : (k : Kind) (title : List ℕ) (lines : List (List ℕ)) (s : Stated) → have_zero (joined_rows k.rows) ≡ true → ionosphere_stated k title lines ≡ Ok s → IsStated k s × IsWeek (week_of s.moment)
unfolding ionosphere_stated
ionosphere_is k title lines s good h =
    let a = bound (sat_of k.system title) (all_lines k lines) s h in
    let b = bound (need (nat_le (length k.rows) (length lines)) reasons.Short) (sent_on k lines a.value) s a.rest in
    let c = bound (moment_at (first_of lines)) (weekly k lines a.value) s b.rest in
    let d = bound (need (is_named_week c.value) reasons.Week) (λ x. numbers k lines a.value c.value) s c.rest in (
      said_so k title lines a.value c.value s good a.is c.is d.rest,
      subst (λ m. IsWeek (week_of m)) (same_moment k lines a.value c.value s d.rest) (week_is c.value (need_ok (is_named_week c.value) reasons.Week d.value d.is)),
    )

sent_whole : (z : ℤ) → negsuc 302399 ≤ℤ z → IsSentSecond (sent_of z)
sent_whole z low = go (int_le z (pos 907199)) refl
  where
    go : (b : Bool) → int_le z (pos 907199) ≡ b → IsSentSecond (if b then At z else Unknown)
    go true p = (low, le_from z (pos 907199) p)
    go false p = tt

toc_small : (step m w toe toc : ℕ) → toc_of step m w toe ≡ Ok toc → m % 604800 / step ≡ toc
toc_small step m w toe toc h =
    let near = λ (x : Bool). need (nat_lt (604800 * w + step * toe) (m + 302400) && nat_le m (604800 * w + step * toe + 302400)) reasons.EpochFar >>= λ y. Ok (m % 604800 / step) in
    let a = bound (need (m % 604800 % step == 0) reasons.EpochStep) near toc h in
    let b = bound (need (nat_lt (604800 * w + step * toe) (m + 302400) && nat_le m (604800 * w + step * toe + 302400)) reasons.EpochFar) (λ y. Ok (m % 604800 / step)) toc a.rest in
    cc

week_between : (z : ℤ) → pos 1 ≤ℤ z → z ≤ℤ pos 16382 → IsWeek (unsigned_abs z)
week_between (pos n) low high = (omega (arith, ints), omega (arith, ints))
week_between (negsuc n) low high = absurd (omega (arith, ints))

gps_item_is : (s : Stated) (toc : ℕ) → IsOf Gps s.sat → AreGpsFields s.fields → toc < 37800 → IsItem (GpsItem (gps_of s.sat toc s.fields))
unfolding gps_of gps_clock_of gps_side_of gps_orbit_a_of gps_orbit_b_of
gps_item_is s toc sat f small = record {
  ranges = record {
    sat = sat.1;
    clock = record { iodc = f.iodc.high; toc = small; af2 = f.af2.is; af1 = f.af1.is; af0 = f.af0.is; tgd = f.tgd.is };
    side = record { l2_code = f.l2_code.high; ura = f.ura.high; health = f.health.high; l2p = f.l2p.high };
    a = record {
      iode = f.iode.high;
      crs = f.crs.is;
      delta_n = f.delta_n.is;
      m0 = f.m0.is;
      cuc = f.cuc.is;
      e = f.e.high;
      cus = f.cus.is;
      root_a = f.root_a.high;
      toe = f.toe.high;
    };
    fit = f.fit.high;
    b = record {
      iode = f.iode.high;
      cic = f.cic.is;
      omega0 = f.omega0.is;
      cis = f.cis.is;
      i0 = f.i0.is;
      crc = f.crc.is;
      omega = f.omega.is;
      omega_dot = f.omega_dot.is;
      idot = f.idot.is;
    };
    toe_week = week_between (field s.fields 21) f.toe_week.low f.toe_week.high;
  };
  whole = record { system = sat.0; issue = refl; second = sent_whole (field s.fields 27) f.sent.low };
}

galileo_item_is : (s : Stated) (toc : ℕ) → IsOf Gal s.sat → AreGalileoFields s.fields → toc < 10080 → IsItem (GalItem (galileo_of s.sat toc s.fields))
unfolding galileo_of galileo_word1_of galileo_word2_of galileo_word3_of galileo_word4_of
galileo_item_is s toc sat f small = record {
  ranges = record {
    sat = sat.1;
    w1 = record { iodnav = f.iodnav.high; toe = f.toe.high; m0 = f.m0.is; e = f.e.high; root_a = f.root_a.high };
    w2 = record { iodnav = f.iodnav.high; omega0 = f.omega0.is; i0 = f.i0.is; omega = f.omega.is; idot = f.idot.is };
    w3 = record {
      iodnav = f.iodnav.high;
      omega_dot = f.omega_dot.is;
      delta_n = f.delta_n.is;
      cuc = f.cuc.is;
      cus = f.cus.is;
      crc = f.crc.is;
      crs = f.crs.is;
      sisa = f.sisa.high;
    };
    w4 = record {
      iodnav = f.iodnav.high;
      cic = f.cic.is;
      cis = f.cis.is;
      toc = small;
      af0 = f.af0.is;
      af1 = f.af1.is;
      af2 = f.af2.is;
    };
    health = record {
      bgd_a = f.bgd_a.is;
      bgd_b = f.bgd_b.is;
      hs_e5b = omega arith;
      hs_e1b = omega arith;
      dvs_e5b = omega arith;
      dvs_e1b = omega arith;
    };
    toe_week = week_between (field s.fields 21) f.toe_week.low f.toe_week.high;
  };
  whole = record { system = sat.0; issue2 = refl; issue3 = refl; issue4 = refl; second = sent_whole (field s.fields 26) f.sent.low };
}

gps_read_is : (title : List ℕ) (lines : List (List ℕ)) (item : NavItem) → gps_read title lines ≡ Ok item → IsItem item
unfolding gps_kind
gps_read_is title lines item h =
    let a = bound (ephemeris_stated gps_kind title lines) gps_item item h in
    let said = ephemeris_is gps_kind title lines a.value gps_zero a.is in
    let s = a.value in
    let b = bound (toc_of 16 s.moment (natural s.fields 21) (natural s.fields 11)) (λ toc. Ok (GpsItem (gps_of s.sat toc s.fields))) item a.rest in
    let toc = toc_small 16 s.moment (natural s.fields 21) (natural s.fields 11) b.value b.is in
    let is : GpsItem (gps_of s.sat b.value s.fields) ≡ item = cc in
    subst IsItem is (gps_item_is s b.value said.sat (gps_fields_in s.fields said.fields) (omega (arith, toc)))

galileo_read_is : (title : List ℕ) (lines : List (List ℕ)) (item : NavItem) → galileo_read title lines ≡ Ok item → IsItem item
unfolding galileo_kind
galileo_read_is title lines item h =
    let a = bound (ephemeris_stated galileo_kind title lines) galileo_item item h in
    let said = ephemeris_is galileo_kind title lines a.value galileo_zero a.is in
    let s = a.value in
    let b = bound (toc_of 60 s.moment (natural s.fields 21) (natural s.fields 11)) (λ toc. Ok (GalItem (galileo_of s.sat toc s.fields))) item a.rest in
    let toc = toc_small 60 s.moment (natural s.fields 21) (natural s.fields 11) b.value b.is in
    let is : GalItem (galileo_of s.sat b.value s.fields) ≡ item = cc in
    subst IsItem is (galileo_item_is s b.value said.sat (galileo_fields_in s.fields said.fields) (omega (arith, toc)))

gps_ionosphere_read_is : (title : List ℕ) (lines : List (List ℕ)) (item : NavItem) → gps_ionosphere_read title lines ≡ Ok item → IsItem item
unfolding gps_ionosphere_kind gps_ionosphere_of
gps_ionosphere_read_is title lines item h =
    let a = bound (ionosphere_stated gps_ionosphere_kind title lines) gps_ionosphere_item item h in
    let said = ionosphere_is gps_ionosphere_kind title lines a.value gps_ionosphere_zero a.is in
    let s = a.value in
    let f = gps_ionosphere_fields_in s.fields said.0.fields in
    let is : IonItem (record { sat = s.sat; moment = s.moment; content = OfGps (gps_ionosphere_of s.fields) }) ≡ item = cc in
    subst IsItem is (record {
      ranges = record {
        sat = said.0.sat.1;
        moment = said.0.moment;
        content = record {
          alpha0 = f.alpha0.is;
          alpha1 = f.alpha1.is;
          alpha2 = f.alpha2.is;
          alpha3 = f.alpha3.is;
          beta0 = f.beta0.is;
          beta1 = f.beta1.is;
          beta2 = f.beta2.is;
          beta3 = f.beta3.is;
        };
      };
      whole = record { system = said.0.sat.0; week = said.1 };
    })

galileo_ionosphere_read_is : (title : List ℕ) (lines : List (List ℕ)) (item : NavItem) → galileo_ionosphere_read title lines ≡ Ok item → IsItem item
unfolding galileo_ionosphere_kind galileo_ionosphere_of
galileo_ionosphere_read_is title lines item h =
    let a = bound (ionosphere_stated galileo_ionosphere_kind title lines) galileo_ionosphere_item item h in
    let said = ionosphere_is galileo_ionosphere_kind title lines a.value galileo_ionosphere_zero a.is in
    let s = a.value in
    let f = galileo_ionosphere_fields_in s.fields said.0.fields in
    let is : IonItem (record { sat = s.sat; moment = s.moment; content = OfGal (galileo_ionosphere_of s.fields) }) ≡ item = cc in
    subst IsItem is (record {
      ranges = record {
        sat = said.0.sat.1;
        moment = said.0.moment;
        content = record { ai0 = f.ai0.high; ai1 = f.ai1.is; ai2 = f.ai2.is; regions = f.regions.high };
      };
      whole = record { system = said.0.sat.0; week = said.1 };
    })

outcome_is : (r : Result NavItem RecordFault) (item : NavItem) → outcome r ≡ judgments.Item item → r ≡ Ok item
outcome_is (Ok i) item h = let is : i ≡ item = cc in ap Ok is
outcome_is (Err e) item h = absurd (cc)

-- an item that a record gives is consistent
pub judged_whole : (lines : List (List ℕ)) (item : NavItem) → judged lines ≡ judgments.Item item → IsItem item
unfolding judged
judged_whole [] item h = absurd (cc)
judged_whole (title ∷ lines) item h = go (is_kind gps_kind title) (is_kind galileo_kind title) (is_kind gps_ionosphere_kind title) (is_kind galileo_ionosphere_kind title) h
  where
    go : (a b c d : Bool) → (if a then outcome (gps_read title lines) else if b then outcome (galileo_read title lines) else if c then outcome (gps_ionosphere_read title lines)
        else if d then outcome (galileo_ionosphere_read title lines) else judgments.PassedOver) ≡ judgments.Item item → IsItem item
    go true b c d e = gps_read_is title lines item (outcome_is (gps_read title lines) item e)
    go false true c d e = galileo_read_is title lines item (outcome_is (galileo_read title lines) item e)
    go false false true d e = gps_ionosphere_read_is title lines item (outcome_is (gps_ionosphere_read title lines) item e)
    go false false false true e = galileo_ionosphere_read_is title lines item (outcome_is (galileo_ionosphere_read title lines) item e)
    go false false false false e = absurd (cc)
