-- The fields of an item are in the ranges of their columns, they give that item, and its epoch gives toc.
use Rattle.std.proofs.Common.{◌≡◌, ℕ, ◌+◌, ◌-◌, ◌*◌, ◌/◌, ◌%◌, ◌^◌, ◌<◌, ◌≤◌, ◌==◌, nat_lt, nat_le, true, Ok, refl, ap, sym, inl, inr, arith, ℤ, pos, neg_ℤ, ◌≤ℤ◌, if◌then◌else◌, eq-eqb}
use Rattle.std.proofs.lemmas.Int.{ints}
use Rattle.std.proofs.lemmas.Bool.{lt-ltb, le-leb}
use Rattle.nav_bits.specs.Signed.{IsSigned}
use Rattle.nav_eph.specs.Weeks.{IsMoment}
use Rattle.nav_eph.specs.Functions.{moment_near}
use Rattle.nav_eph.proofs.Surface.{moment_near-nearest}
use Rattle.nav_eph.specs.Steps.{IsSisa}
use Rattle.nav_eph.specs.declared.items.GpsEph.{GpsEph}
use Rattle.nav_eph.specs.declared.items.GalEph.{GalEph}
use Rattle.nav_eph.specs.declared.items.SentSecond.{SentSecond}
use Rattle.nav_eph.specs.declared.items.SentSecond.TheVariants.{Unknown, At}
use Rattle.nav_eph.specs.declared.ion.GpsIon.{GpsIon}
use Rattle.nav_eph.specs.declared.ion.GalIon.{GalIon}
use Rattle.nav_eph.specs.declared.galileo.GalHealth.{GalHealth}
use Rattle.nav_eph.specs.Bodies.{IsGalHealth, IsGpsIon, IsGalIon}
use Rattle.nav_eph.specs.Items.{IsSentSecond}
use Rattle.nav_eph.specs.Ranges.{IsGpsItem, IsGalItem}
use Rattle.rinex_write.specs.declared.columns.Rule.TheVariants.{Sent, Sisa}
use Rattle.rinex_write.specs.Accuracies.{health_of}
use Rattle.rinex_write.specs.Columns.{IsField, AreFields, joined_rows}
use Rattle.rinex_write.specs.Layouts.{gps_rows, galileo_rows, gps_ionosphere_rows, galileo_ionosphere_rows}
use Rattle.rinex_write.specs.Fields.{sent_field, gps_fields, galileo_fields, gps_ionosphere_fields, galileo_ionosphere_fields, gps_epoch, galileo_epoch}
use Rattle.rinex_read.specs.Judging.{toc_of, gps_of, gps_clock_of, gps_side_of, gps_orbit_a_of, gps_orbit_b_of, galileo_of, galileo_word1_of, galileo_word2_of, galileo_word3_of, galileo_word4_of, gps_ionosphere_of, galileo_ionosphere_of, health_stated, sent_of}
use Rattle.rinex_read.proofs.FieldLemmas.{le_true}

below : (n m : ℕ) → n < m → (pos 0 ≤ℤ pos n) × (pos n ≤ℤ pos (m - 1))
below n m h = (omega (arith, ints), omega (arith, ints))

of_signed : (w : ℕ) (z : ℤ) → IsSigned w z → (neg_ℤ (pos (2 ^ (w - 1))) ≤ℤ z) × (z ≤ℤ pos (2 ^ (w - 1) - 1))
of_signed w z h = (h.0, omega (arith, ints, h.1))

sisa_is : (n : ℕ) → IsSisa n → IsField Sisa (pos n)
sisa_is n (inl h) = inl (omega (arith, ints), omega (arith, ints))
sisa_is n (inr e) = inr (ap pos e)

sent_is : (s : SentSecond) → IsSentSecond s → IsField Sent (sent_field s)
sent_is Unknown h = inr refl
sent_is (At second) h = inl h

health_below : (h : GalHealth) → IsGalHealth h → health_of h < 2 ^ 9
health_below h is = omega (arith, is.dvs_e1b, is.hs_e1b, is.dvs_e5b, is.hs_e5b)

pub gps_fields_are : (e : GpsEph) → IsGpsItem e → AreFields (joined_rows gps_rows) (gps_fields e)
unfolding gps_rows
gps_fields_are e h =
    let is = h.ranges in (
      of_signed 22 _ is.clock.af0,
      (
        of_signed 16 _ is.clock.af1,
        (
          of_signed 8 _ is.clock.af2,
          (
            below _ _ is.a.iode,
            (
              of_signed 16 _ is.a.crs,
              (
                of_signed 16 _ is.a.delta_n,
                (
                  of_signed 32 _ is.a.m0,
                  (
                    of_signed 16 _ is.a.cuc,
                    (
                      below _ _ is.a.e,
                      (
                        of_signed 16 _ is.a.cus,
                        (
                          below _ _ is.a.root_a,
                          (
                            below _ _ is.a.toe,
                            (
                              of_signed 16 _ is.b.cic,
                              (
                                of_signed 32 _ is.b.omega0,
                                (
                                  of_signed 16 _ is.b.cis,
                                  (
                                    of_signed 32 _ is.b.i0,
                                    (
                                      of_signed 16 _ is.b.crc,
                                      (
                                        of_signed 32 _ is.b.omega,
                                        (
                                          of_signed 24 _ is.b.omega_dot,
                                          (
                                            of_signed 14 _ is.b.idot,
                                            (
                                              below _ _ is.side.l2_code,
                                              (
                                                (omega (arith, ints, is.toe_week), omega (arith, ints, is.toe_week)),
                                                (
                                                  below _ _ is.side.l2p,
                                                  (
                                                    below _ _ is.side.ura,
                                                    (
                                                      below _ _ is.side.health,
                                                      (
                                                        of_signed 8 _ is.clock.tgd,
                                                        (
                                                          below _ _ is.clock.iodc,
                                                          (sent_is e.sent h.whole.second, (below _ _ is.fit, tt)),
                                                        ),
                                                      ),
                                                    ),
                                                  ),
                                                ),
                                              ),
                                            ),
                                          ),
                                        ),
                                      ),
                                    ),
                                  ),
                                ),
                              ),
                            ),
                          ),
                        ),
                      ),
                    ),
                  ),
                ),
              ),
            ),
          ),
        ),
      ),
    )

pub galileo_fields_are : (e : GalEph) → IsGalItem e → AreFields (joined_rows galileo_rows) (galileo_fields e)
unfolding galileo_rows
galileo_fields_are e h =
    let is = h.ranges in (
      of_signed 31 _ is.w4.af0,
      (
        of_signed 21 _ is.w4.af1,
        (
          of_signed 6 _ is.w4.af2,
          (
            below _ _ is.w1.iodnav,
            (
              of_signed 16 _ is.w3.crs,
              (
                of_signed 16 _ is.w3.delta_n,
                (
                  of_signed 32 _ is.w1.m0,
                  (
                    of_signed 16 _ is.w3.cuc,
                    (
                      below _ _ is.w1.e,
                      (
                        of_signed 16 _ is.w3.cus,
                        (
                          below _ _ is.w1.root_a,
                          (
                            below _ _ is.w1.toe,
                            (
                              of_signed 16 _ is.w4.cic,
                              (
                                of_signed 32 _ is.w2.omega0,
                                (
                                  of_signed 16 _ is.w4.cis,
                                  (
                                    of_signed 32 _ is.w2.i0,
                                    (
                                      of_signed 16 _ is.w3.crc,
                                      (
                                        of_signed 32 _ is.w2.omega,
                                        (
                                          of_signed 24 _ is.w3.omega_dot,
                                          (
                                            of_signed 14 _ is.w2.idot,
                                            (
                                              refl,
                                              (
                                                (omega (arith, ints, is.toe_week), omega (arith, ints, is.toe_week)),
                                                (
                                                  sisa_is _ is.w3.sisa,
                                                  (
                                                    below _ _ (health_below e.health is.health),
                                                    (
                                                      of_signed 10 _ is.health.bgd_a,
                                                      (
                                                        of_signed 10 _ is.health.bgd_b,
                                                        (sent_is e.sent h.whole.second, tt),
                                                      ),
                                                    ),
                                                  ),
                                                ),
                                              ),
                                            ),
                                          ),
                                        ),
                                      ),
                                    ),
                                  ),
                                ),
                              ),
                            ),
                          ),
                        ),
                      ),
                    ),
                  ),
                ),
              ),
            ),
          ),
        ),
      ),
    )

pub gps_ionosphere_fields_are : (i : GpsIon) → IsGpsIon i → AreFields (joined_rows gps_ionosphere_rows) (gps_ionosphere_fields i)
unfolding gps_ionosphere_rows
gps_ionosphere_fields_are i is = (
  of_signed 8 _ is.alpha0,
  (
    of_signed 8 _ is.alpha1,
    (
      of_signed 8 _ is.alpha2,
      (
        of_signed 8 _ is.alpha3,
        (
          of_signed 8 _ is.beta0,
          (
            of_signed 8 _ is.beta1,
            (
              of_signed 8 _ is.beta2,
              (of_signed 8 _ is.beta3, (refl, tt)),
            ),
          ),
        ),
      ),
    ),
  ),
)

pub galileo_ionosphere_fields_are : (i : GalIon) → IsGalIon i → AreFields (joined_rows galileo_ionosphere_rows) (galileo_ionosphere_fields i)
unfolding galileo_ionosphere_rows
galileo_ionosphere_fields_are i is =
    (below _ _ is.ai0, (of_signed 11 _ is.ai1, (of_signed 14 _ is.ai2, (below _ _ is.regions, tt))))

sent_again : (s : SentSecond) → IsSentSecond s → sent_of (sent_field s) ≡ s
sent_again Unknown h = refl
sent_again (At second) h = ap (λ b. if b then At second else Unknown) (le_true second (pos 907199) h.1)

-- the item of the fields of an item is that item
pub gps_whole : (e : GpsEph) → IsGpsItem e → gps_of e.sat e.clock.toc (gps_fields e) ≡ e
unfolding gps_of gps_clock_of gps_side_of gps_orbit_a_of gps_orbit_b_of
gps_whole e h =
    let sent = sent_again e.sent h.whole.second in
    let iode = h.whole.issue in
    λ j. record e { sent = sent j; b = record e.b { iode = iode j } }

health_again : (h : GalHealth) → IsGalHealth h → health_stated h.bgd_a h.bgd_b (health_of h) ≡ h
health_again h is =
    let hs_e5b : health_of h / 128 % 4 ≡ h.hs_e5b = omega (arith, is.dvs_e1b, is.hs_e1b, is.dvs_e5b, is.hs_e5b) in
    let hs_e1b : health_of h / 2 % 4 ≡ h.hs_e1b = omega (arith, is.dvs_e1b, is.hs_e1b, is.dvs_e5b, is.hs_e5b) in
    let dvs_e5b : health_of h / 64 % 2 ≡ h.dvs_e5b = omega (arith, is.dvs_e1b, is.hs_e1b, is.dvs_e5b, is.hs_e5b) in
    let dvs_e1b : health_of h % 2 ≡ h.dvs_e1b = omega (arith, is.dvs_e1b, is.hs_e1b, is.dvs_e5b, is.hs_e5b) in
    λ j. record h { hs_e5b = hs_e5b j; hs_e1b = hs_e1b j; dvs_e5b = dvs_e5b j; dvs_e1b = dvs_e1b j }

pub galileo_whole : (e : GalEph) → IsGalItem e → galileo_of e.sat e.w4.toc (galileo_fields e) ≡ e
unfolding galileo_of galileo_word1_of galileo_word2_of galileo_word3_of galileo_word4_of
galileo_whole e h =
    let sent = sent_again e.sent h.whole.second in
    let health = health_again e.health h.ranges.health in
    let issue2 = sym h.whole.issue2 in
    let issue3 = sym h.whole.issue3 in
    let issue4 = sym h.whole.issue4 in
    λ j. record e {
      w2 = record e.w2 { iodnav = issue2 j };
      w3 = record e.w3 { iodnav = issue3 j };
      w4 = record e.w4 { iodnav = issue4 j };
      health = health j;
      sent = sent j;
    }

pub gps_ionosphere_whole : (i : GpsIon) → gps_ionosphere_of (gps_ionosphere_fields i) ≡ i
unfolding gps_ionosphere_of
gps_ionosphere_whole i = refl

pub galileo_ionosphere_whole : (i : GalIon) → galileo_ionosphere_of (galileo_ionosphere_fields i) ≡ i
unfolding galileo_ionosphere_of
galileo_ionosphere_whole i = refl

-- toc from a time near toe
toc_16 : (w toe toc m : ℕ) → m % 604800 ≡ 16 * toc → 604800 * w + 16 * toe < m + 302400 → m ≤ 604800 * w + 16 * toe + 302400 → toc_of 16 m w toe ≡ Ok toc
toc_16 w toe toc m is from to =
    let whole : (m % 604800 % 16 == 0) ≡ true = eq-eqb (m % 604800 % 16) 0 (omega arith) in
    let low : nat_lt (604800 * w + 16 * toe) (m + 302400) ≡ true = lt-ltb _ _ from in
    let high : nat_le m (604800 * w + 16 * toe + 302400) ≡ true = le-leb _ _ to in
    let toc : m % 604800 / 16 ≡ toc = omega arith in
    rw (whole, low, high) (ap Ok toc)

toc_60 : (w toe toc m : ℕ) → m % 604800 ≡ 60 * toc → 604800 * w + 60 * toe < m + 302400 → m ≤ 604800 * w + 60 * toe + 302400 → toc_of 60 m w toe ≡ Ok toc
toc_60 w toe toc m is from to =
    let whole : (m % 604800 % 60 == 0) ≡ true = eq-eqb (m % 604800 % 60) 0 (omega arith) in
    let low : nat_lt (604800 * w + 60 * toe) (m + 302400) ≡ true = lt-ltb _ _ from in
    let high : nat_le m (604800 * w + 60 * toe + 302400) ≡ true = le-leb _ _ to in
    let toc : m % 604800 / 60 ≡ toc = omega arith in
    rw (whole, low, high) (ap Ok toc)

pub gps_toc : (e : GpsEph) → IsGpsItem e → (toc_of 16 (gps_epoch e) e.toe_week e.a.toe ≡ Ok e.clock.toc) × IsMoment (gps_epoch e)
unfolding gps_epoch
gps_toc e h =
    let is = h.ranges in
    let t = 604800 * e.toe_week + 16 * e.a.toe in
    let near = moment_near-nearest t (16 * e.clock.toc) (omega (arith, is.toe_week)) (omega (arith, is.clock.toc)) in (
      toc_16 e.toe_week e.a.toe e.clock.toc (moment_near t (16 * e.clock.toc)) near.second_is near.from near.to,
      omega (arith, near.to, is.toe_week, is.a.toe),
    )

pub galileo_toc : (e : GalEph) → IsGalItem e → (toc_of 60 (galileo_epoch e) e.toe_week e.w1.toe ≡ Ok e.w4.toc) × IsMoment (galileo_epoch e)
unfolding galileo_epoch
galileo_toc e h =
    let is = h.ranges in
    let t = 604800 * e.toe_week + 60 * e.w1.toe in
    let near = moment_near-nearest t (60 * e.w4.toc) (omega (arith, is.toe_week)) (omega (arith, is.w4.toc)) in (
      toc_60 e.toe_week e.w1.toe e.w4.toc (moment_near t (60 * e.w4.toc)) near.second_is near.from near.to,
      omega (arith, near.to, is.toe_week, is.w1.toe),
    )
