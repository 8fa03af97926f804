-- The fields of the item of some fields are these, and the item of its fields is that item; toc is the time of an epoch near toe.
use Rattle.std.proofs.Common.{◌≡◌, ℕ, zero, suc, ◌+◌, ◌*◌, ◌/◌, ◌%◌, ◌<◌, ◌==◌, ◌&&◌, nat_lt, nat_le, true, if◌then◌else◌, List, [], ◌∷◌, length, drop, get_or, Ok, refl, ap, ap₂, sym, ◌∙◌, subst, inl, inr, arith, ℤ, pos, negsuc, ◌≤ℤ◌, unsigned_abs, eq-eqb, eqb-true, le-leb, lt-ltb}
use Rattle.std.proofs.lemmas.Bool.{and_parts, leb-true, ltb-true}
use Rattle.std.proofs.lemmas.Int.{ints}
use Rattle.nav_eph.specs.Weeks.{IsNearestMoment}
use Rattle.nav_eph.specs.Satellite.{Satellite}
use Rattle.nav_eph.specs.Bodies.{IsGalHealth}
use Rattle.nav_eph.specs.Items.{IsSentSecond}
use Rattle.nav_eph.specs.Ranges.{IsGpsItem, IsGalItem}
use Rattle.nav_eph.specs.declared.galileo.GalHealth.{GalHealth}
use Rattle.nav_eph.specs.declared.items.GpsEph.{GpsEph}
use Rattle.nav_eph.specs.declared.items.GalEph.{GalEph}
use Rattle.nav_eph.specs.declared.items.SentSecond.{SentSecond}
use Rattle.nav_eph.specs.declared.items.SentSecond.TheVariants.{Unknown, At}
use Rattle.nav_eph.specs.declared.ion.GpsIon.{GpsIon}
use Rattle.nav_eph.specs.declared.ion.GalIon.{GalIon}
use Rattle.rinex_write.specs.declared.columns.Rule.{Rule}
use Rattle.rinex_write.specs.declared.columns.Rule.TheVariants.{Plain, OrZero, OrLeast, OrUnknown, Ura, Sisa, Fit, Sent, Unread}
use Rattle.rinex_write.specs.declared.columns.Column.{Column}
use Rattle.rinex_write.specs.Accuracies.{health_of}
use Rattle.rinex_write.specs.Columns.{IsField, AreFields, joined_rows}
use Rattle.rinex_write.specs.Layouts.{gps_rows, galileo_rows, gps_ionosphere_rows, galileo_ionosphere_rows}
use Rattle.rinex_write.specs.Fields.{sent_field, gps_fields, gps_ionosphere_fields, galileo_ionosphere_fields}
use Rattle.rinex_read.specs.declared.reason.RecordFault.TheVariants as reasons
use Rattle.rinex_read.specs.Fields.{◌>>=◌}
use Rattle.rinex_read.specs.Judging.{need, natural, toc_of, gps_of, gps_clock_of, gps_side_of, gps_orbit_a_of, gps_orbit_b_of, galileo_of, galileo_word1_of, galileo_word2_of, galileo_word3_of, galileo_word4_of, gps_ionosphere_of, galileo_ionosphere_of, health_stated, sent_of}
use Rattle.job_laws.proofs.RinexTexts.{bound, needed}
use Rattle.job_laws.proofs.RinexFields.{le_true}

-- n fields, one by one
abbrev pub listed : ℕ → List ℤ → List ℤ
listed zero zs = []
listed (suc n) zs = get_or zs 0 (pos 0) ∷ listed n (drop 1 zs)

pub listed_same : (n : ℕ) (zs : List ℤ) → length zs ≡ n → listed n zs ≡ zs
listed_same zero [] e = refl
listed_same zero (z ∷ zs) e = absurd (omega arith)
listed_same (suc n) [] e = absurd (omega arith)
listed_same (suc n) (z ∷ zs) e = ap (λ l. z ∷ l) (listed_same n zs (omega arith))

-- a field that is stored and written again
abbrev again : Rule → ℤ → ℤ
again (Plain (pos l) high) z = pos (unsigned_abs z)
again (Plain (negsuc l) high) z = z
again (OrZero (pos l) high) z = pos (unsigned_abs z)
again (OrZero (negsuc l) high) z = z
again (OrLeast low high) z = z
again (OrUnknown low high) z = z
again Ura z = pos (unsigned_abs z)
again Sisa z = pos (unsigned_abs z)
again Fit z = pos (unsigned_abs z)
again Sent z = sent_field (sent_of z)
again (Unread n) z = n

abbrev all_again : List Column → List ℤ → List ℤ
all_again [] zs = []
all_again (c ∷ cs) [] = []
all_again (c ∷ cs) (z ∷ zs) = again c.rule z ∷ all_again cs zs

natural_same : (z : ℤ) → pos 0 ≤ℤ z → pos (unsigned_abs z) ≡ z
natural_same (pos n) h = refl
natural_same (negsuc n) h = absurd (omega (arith, ints, h))

sent_same : (z : ℤ) → IsField Sent z → sent_field (sent_of z) ≡ z
sent_same z (inl h) = ap (λ b. sent_field (if b then At z else Unknown)) (le_true z (pos 907199) h.1)
sent_same z (inr h) = subst (λ y. sent_field (sent_of y) ≡ y) (sym h) refl

sisa_low : (z : ℤ) → IsField Sisa z → pos 0 ≤ℤ z
sisa_low z (inl h) = h.0
sisa_low z (inr h) = subst (λ y. pos 0 ≤ℤ y) (sym h) (omega (arith, ints))

again_same : (r : Rule) (z : ℤ) → IsField r z → again r z ≡ z
again_same (Plain (pos l) high) z h = natural_same z (omega (arith, ints, h.0))
again_same (Plain (negsuc l) high) z h = refl
again_same (OrZero (pos l) high) z h = natural_same z (omega (arith, ints, h.0))
again_same (OrZero (negsuc l) high) z h = refl
again_same (OrLeast low high) z h = refl
again_same (OrUnknown low high) z h = refl
again_same Ura z h = natural_same z h.0
again_same Sisa z h = natural_same z (sisa_low z h)
again_same Fit z h = natural_same z h.0
again_same Sent z h = sent_same z h
again_same (Unread n) z h = sym h

all_same : (cs : List Column) (zs : List ℤ) → AreFields cs zs → all_again cs zs ≡ zs
all_same [] [] h = refl
all_same [] (z ∷ zs) h = absurd h
all_same (c ∷ cs) [] h = absurd h
all_same (c ∷ cs) (z ∷ zs) h = ap₂ (λ (y : ℤ) (l : List ℤ). y ∷ l) (again_same c.rule z h.0) (all_same cs zs h.1)

pub fields_length : (cs : List Column) (zs : List ℤ) → AreFields cs zs → length zs ≡ length cs
fields_length [] [] h = refl
fields_length [] (z ∷ zs) h = absurd h
fields_length (c ∷ cs) [] h = absurd h
fields_length (c ∷ cs) (z ∷ zs) h = ap suc (fields_length cs zs h.1)

-- a claim about fields follows from that about fields one by one
one_by_one : (cs : List Column) (P : List ℤ → Type 0) → ((zs : List ℤ) → AreFields cs (listed (length cs) zs) → P (listed (length cs) zs)) → (zs : List ℤ) → AreFields cs zs → P zs
one_by_one cs P all zs are =
    let same = listed_same (length cs) zs (fields_length cs zs are) in
    subst P same (all zs (subst (AreFields cs) (sym same) are))

pub gps_fields_again : (sat : Satellite) (toc : ℕ) (zs : List ℤ) → AreFields (joined_rows gps_rows) zs → gps_fields (gps_of sat toc zs) ≡ zs
unfolding gps_rows gps_of gps_clock_of gps_side_of gps_orbit_a_of gps_orbit_b_of
gps_fields_again sat toc zs are =
    one_by_one (joined_rows gps_rows) (λ ws. gps_fields (gps_of sat toc ws) ≡ ws) (λ ws h. all_same (joined_rows gps_rows) (listed (length (joined_rows gps_rows)) ws) h) zs are

-- the fields of a Galileo ephemeris with this health
abbrev pub galileo_with : GalEph → ℤ → List ℤ
galileo_with e health =
    e.w4.af0 ∷ e.w4.af1 ∷ e.w4.af2
    ∷ pos e.w1.iodnav ∷ e.w3.crs ∷ e.w3.delta_n ∷ e.w1.m0
    ∷ e.w3.cuc ∷ pos e.w1.e ∷ e.w3.cus ∷ pos e.w1.root_a
    ∷ pos e.w1.toe ∷ e.w4.cic ∷ e.w2.omega0 ∷ e.w4.cis
    ∷ e.w2.i0 ∷ e.w3.crc ∷ e.w2.omega ∷ e.w3.omega_dot
    ∷ e.w2.idot ∷ pos 517 ∷ pos e.toe_week
    ∷ pos e.w3.sisa ∷ health ∷ e.health.bgd_a ∷ e.health.bgd_b
    ∷ sent_field e.sent ∷ []

-- the same with bits 3-5 of the health
abbrev pub galileo_flat : GalEph → ℕ → List ℤ
galileo_flat e spare = galileo_with e (pos (health_of e.health + 8 * spare))

galileo_with_again : (sat : Satellite) (toc : ℕ) (zs : List ℤ) → AreFields (joined_rows galileo_rows) zs → galileo_with (galileo_of sat toc zs) (pos (natural zs 23)) ≡ zs
unfolding galileo_rows galileo_of galileo_word1_of galileo_word2_of galileo_word3_of galileo_word4_of
galileo_with_again sat toc zs are =
    one_by_one (joined_rows galileo_rows) (λ ws. galileo_with (galileo_of sat toc ws) (pos (natural ws 23)) ≡ ws)
    (λ ws h. all_same (joined_rows galileo_rows) (listed (length (joined_rows galileo_rows)) ws) h) zs are

health_parts : (a b : ℤ) (n : ℕ) → n < 512 → health_of (health_stated a b n) + 8 * (n / 8 % 8) ≡ n
health_parts a b n h = omega arith

field_is : (cs : List Column) (zs : List ℤ) (k : ℕ) (d : Column) → AreFields cs zs → k < length cs → IsField (get_or cs k d).rule (get_or zs k (pos 0))
field_is [] zs k d are h = absurd (omega arith)
field_is (c ∷ cs) [] k d are h = absurd are
field_is (c ∷ cs) (z ∷ zs) zero d are h = are.0
field_is (c ∷ cs) (z ∷ zs) (suc k) d are h = field_is cs zs k d are.1 (omega arith)

abs_below : (z : ℤ) → pos 0 ≤ℤ z → z ≤ℤ pos 511 → unsigned_abs z < 512
abs_below (pos n) low high = omega (arith, ints)
abs_below (negsuc n) low high = absurd (omega (arith, ints))

health_below : (zs : List ℤ) (d : Column) → AreFields (joined_rows galileo_rows) zs → natural zs 23 < 512
unfolding galileo_rows
health_below zs d are =
    let is = field_is (joined_rows galileo_rows) zs 23 d are (omega arith) in
    abs_below (get_or zs 23 (pos 0)) is.0 is.1

pub galileo_fields_again : (sat : Satellite) (toc : ℕ) (zs : List ℤ) (d : Column) → AreFields (joined_rows galileo_rows) zs → galileo_flat (galileo_of sat toc zs) (natural zs 23 / 8 % 8) ≡ zs
unfolding galileo_of
galileo_fields_again sat toc zs d are =
    ap (λ n. galileo_with (galileo_of sat toc zs) (pos n)) (health_parts (get_or zs 24 (pos 0)) (get_or zs 25 (pos 0)) (natural zs 23) (health_below zs d are))
    ∙ galileo_with_again sat toc zs are

pub gps_ionosphere_again : (zs : List ℤ) → AreFields (joined_rows gps_ionosphere_rows) zs → gps_ionosphere_fields (gps_ionosphere_of zs) ≡ zs
unfolding gps_ionosphere_rows gps_ionosphere_of
gps_ionosphere_again zs are =
    one_by_one (joined_rows gps_ionosphere_rows) (λ ws. gps_ionosphere_fields (gps_ionosphere_of ws) ≡ ws)
    (λ ws h. all_same (joined_rows gps_ionosphere_rows) (listed (length (joined_rows gps_ionosphere_rows)) ws) h) zs are

pub galileo_ionosphere_again : (zs : List ℤ) → AreFields (joined_rows galileo_ionosphere_rows) zs → galileo_ionosphere_fields (galileo_ionosphere_of zs) ≡ zs
unfolding galileo_ionosphere_rows galileo_ionosphere_of
galileo_ionosphere_again zs are =
    one_by_one (joined_rows galileo_ionosphere_rows) (λ ws. galileo_ionosphere_fields (galileo_ionosphere_of ws) ≡ ws)
    (λ ws h. all_same (joined_rows galileo_ionosphere_rows) (listed (length (joined_rows galileo_ionosphere_rows)) ws) h) zs are

sent_again : (s : SentSecond) → IsSentSecond s → sent_of (sent_field s) ≡ s
sent_again Unknown h = refl
sent_again (At second) h = ap (λ b. if b then At second else Unknown) (le_true second (pos 907199) h.1)

-- the item of the fields of an item is that item
pub gps_again : (e : GpsEph) → IsGpsItem e → gps_of e.sat e.clock.toc (gps_fields e) ≡ e
unfolding gps_of gps_clock_of gps_side_of gps_orbit_a_of gps_orbit_b_of
gps_again e h =
    let sent = sent_again e.sent h.whole.second in
    let iode = h.whole.issue in
    λ j. record e { sent = sent j; b = record e.b { iode = iode j } }

health_again : (h : GalHealth) (spare : ℕ) → IsGalHealth h → spare < 8 → health_stated h.bgd_a h.bgd_b (health_of h + 8 * spare) ≡ h
health_again h spare is few =
    let n = health_of h + 8 * spare in
    let hs_e5b : n / 128 % 4 ≡ h.hs_e5b = omega (arith, is.dvs_e1b, is.hs_e1b, is.dvs_e5b, is.hs_e5b) in
    let hs_e1b : n / 2 % 4 ≡ h.hs_e1b = omega (arith, is.dvs_e1b, is.hs_e1b, is.dvs_e5b, is.hs_e5b) in
    let dvs_e5b : n / 64 % 2 ≡ h.dvs_e5b = omega (arith, is.dvs_e1b, is.hs_e1b, is.dvs_e5b, is.hs_e5b) in
    let dvs_e1b : n % 2 ≡ h.dvs_e1b = omega (arith, is.dvs_e1b, is.hs_e1b, is.dvs_e5b, is.hs_e5b) in
    λ j. record h { hs_e5b = hs_e5b j; hs_e1b = hs_e1b j; dvs_e5b = dvs_e5b j; dvs_e1b = dvs_e1b j }

pub galileo_again : (e : GalEph) (spare : ℕ) → IsGalItem e → spare < 8 → galileo_of e.sat e.w4.toc (galileo_flat e spare) ≡ e
unfolding galileo_of galileo_word1_of galileo_word2_of galileo_word3_of galileo_word4_of
galileo_again e spare h few =
    let sent = sent_again e.sent h.whole.second in
    let health = health_again e.health spare h.ranges.health few in
    let issue2 = sym h.whole.issue2 in
    let issue3 = sym h.whole.issue3 in
    let issue4 = sym h.whole.issue4 in
    λ j. record e {
      w2 = record e.w2 { iodnav = issue2 j };
      w3 = record e.w3 { iodnav = issue3 j };
      w4 = record e.w4 { iodnav = issue4 j };
      health = health j;
      sent = sent j;
    }

pub gps_ionosphere_whole : (i : GpsIon) → gps_ionosphere_of (gps_ionosphere_fields i) ≡ i
unfolding gps_ionosphere_of
gps_ionosphere_whole i = refl

pub galileo_ionosphere_whole : (i : GalIon) → galileo_ionosphere_of (galileo_ionosphere_fields i) ≡ i
unfolding galileo_ionosphere_of
galileo_ionosphere_whole i = refl

-- a length of steps that times of week are multiples of
pub record IsStep (step : ℕ) : Type 0 where
  pub parts : (n toc : ℕ) → (n % step == 0) ≡ true → n / step ≡ toc → n ≡ step * toc
  pub whole : (n toc : ℕ) → n ≡ step * toc → ((n % step == 0) ≡ true) × (n / step ≡ toc)

pub step_16 : IsStep 16
step_16 = record {
  parts = λ n toc e q. let is : n % 16 ≡ 0 = eqb-true (n % 16) 0 e in omega arith;
  whole = λ n toc e. (eq-eqb (n % 16) 0 (omega arith), omega arith);
}

pub step_60 : IsStep 60
step_60 = record {
  parts = λ n toc e q. let is : n % 60 ≡ 0 = eqb-true (n % 60) 0 e in omega arith;
  whole = λ n toc e. (eq-eqb (n % 60) 0 (omega arith), omega arith);
}

pub toc-says : (step moment week toe toc : ℕ) → IsStep step → toc_of step moment week toe ≡ Ok toc → IsNearestMoment (604800 * week + step * toe) (step * toc) moment
toc-says step moment week toe toc is h =
    let t = 604800 * week + step * toe in
    let near = nat_lt t (moment + 302400) && nat_le moment (t + 302400) in
    let a = bound (need (moment % 604800 % step == 0) reasons.EpochStep) (λ x. need near reasons.EpochFar >>= λ y. Ok (moment % 604800 / step)) toc h in
    let b = bound (need near reasons.EpochFar) (λ y. Ok (moment % 604800 / step)) toc a.rest in
    let whole = needed (moment % 604800 % step == 0) reasons.EpochStep a.value a.is in
    let both = and_parts (nat_lt t (moment + 302400)) (nat_le moment (t + 302400)) (needed near reasons.EpochFar b.value b.is) in
    let same : moment % 604800 / step ≡ toc = cc in
    record {
      second_is = is.parts (moment % 604800) toc whole same;
      from = ltb-true t (moment + 302400) both.0;
      to = leb-true moment (t + 302400) both.1;
    }

pub toc-read : (step moment week toe toc : ℕ) → IsStep step → IsNearestMoment (604800 * week + step * toe) (step * toc) moment → toc_of step moment week toe ≡ Ok toc
toc-read step moment week toe toc is h =
    let t = 604800 * week + step * toe in
    let parts = is.whole (moment % 604800) toc h.second_is in
    let low : nat_lt t (moment + 302400) ≡ true = lt-ltb t (moment + 302400) h.from in
    let high : nat_le moment (t + 302400) ≡ true = le-leb moment (t + 302400) h.to in
    rw (parts.0, low, high) (ap Ok parts.1)
