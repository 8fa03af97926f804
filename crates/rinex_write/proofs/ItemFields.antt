-- The fields of items are in the ranges of their columns, and their texts can be written.
use Rattle.std.proofs.Common.{◌≡◌, ℕ, ◌-◌, ◌^◌, ◌<◌, ◌≤◌, ◌&&◌, ◌||◌, not, ◌⊎◌, nat_le, int_le, Bool, true, List, [], ◌∷◌, refl, sym, subst, ◌∙◌, ap, inl, inr, arith, ℤ, pos, negsuc, neg_ℤ, ◌≤ℤ◌, FitsSigned, w64, to_z, of_z, rules, false, map, length, lit<, lit≤}
use lib.Signed.{mag}
use Rattle.std.proofs.lemmas.Int.{ints, to_z-of_z}
use Rattle.std.proofs.lemmas.Bool.Decides.{nat_tests}
use Rattle.scaled_decimal.specs.declared.scales.Scale.{Scale}
use Rattle.scaled_decimal.specs.ScaleValue.{AreWithin, AreFar, IsAccepted}
use Rattle.nav_bits.specs.Signed.{IsSigned}
use Rattle.nav_eph.specs.Steps.{IsSisa}
use Rattle.nav_eph.specs.declared.items.GpsEph.{GpsEph}
use Rattle.nav_eph.specs.declared.items.GalEph.{GalEph}
use Rattle.nav_eph.specs.declared.items.NavItem.TheVariants.{Gps, Gal}
use Rattle.nav_eph.specs.declared.items.SentSecond.{SentSecond}
use Rattle.nav_eph.specs.declared.items.SentSecond.TheVariants.{Unknown, At}
use Rattle.nav_eph.specs.Items.{IsSentSecond}
use Rattle.nav_eph.specs.declared.ion.GpsIon.{GpsIon}
use Rattle.nav_eph.specs.declared.ion.GalIon.{GalIon}
use Rattle.nav_eph.specs.declared.galileo.GalHealth.{GalHealth}
use Rattle.nav_eph.specs.Bodies.{IsGalHealth, IsGpsIon, IsGalIon}
use Rattle.nav_eph.specs.Ranges.{HasGpsRanges, HasGalRanges, IsItem}
use Rattle.rinex_write.specs.declared.columns.Rule.{Rule}
use Rattle.rinex_write.specs.declared.columns.Rule.TheVariants.{Plain, OrZero, OrLeast, OrUnknown, Ura, Sisa, Fit, Sent, Unread}
use Rattle.rinex_write.specs.declared.columns.Column.{Column}
use Rattle.rinex_write.specs.Accuracies.{health_of}
use Rattle.rinex_write.specs.Columns.{AreFields, IsField, joined_rows, is_good_scale, is_near_scale, is_far_scale, is_good_range, is_below_unknown, is_good_rule, are_good}
use Rattle.rinex_write.specs.Layouts.{gps_rows, galileo_rows, gps_ionosphere_rows, galileo_ionosphere_rows}
use Rattle.rinex_write.specs.Fields.{sent_field, gps_fields, galileo_fields, gps_ionosphere_fields, galileo_ionosphere_fields}
use Rattle.rinex_write.specs.Mirrors.{IsSmall, IsWritable, AreReady, IsKept, AreKept, IsTable}

below : (n m : ℕ) → n < m → (pos 0 ≤ℤ pos n) × (pos n ≤ℤ pos (m - 1))
below n m h = (omega (arith, ints), omega (arith, ints))

of_signed : (w : ℕ) (z : ℤ) → IsSigned w z → (neg_ℤ (pos (2 ^ (w - 1))) ≤ℤ z) × (z ≤ℤ pos (2 ^ (w - 1) - 1))
of_signed w z h = (h.0, omega (arith, ints, h.1))

sisa_kept : (n : ℕ) → IsSisa n → IsField Sisa (pos n)
sisa_kept n (inl h) = inl (omega (arith, ints), omega (arith, ints))
sisa_kept n (inr e) = inr (ap pos e)

health_below : (h : GalHealth) → IsGalHealth h → health_of h < 2 ^ 9
health_below h is = omega (arith, is.dvs_e1b, is.hs_e1b, is.dvs_e5b, is.hs_e5b)

-- one more fact before others
entry : {A B : Type 0} → A → B → A × B
entry a b = (a, b)

pub gps_kept : (P : ℤ → Type 0) (e : GpsEph) → HasGpsRanges e → P (sent_field e.sent) → AreKept P (joined_rows gps_rows) (gps_fields e)
unfolding gps_rows
gps_kept P e is sent =
    entry (of_signed 22 _ is.clock.af0) (
    entry (of_signed 16 _ is.clock.af1) (
    entry (of_signed 8 _ is.clock.af2) (
    entry (below _ _ is.a.iode) (
    entry (of_signed 16 _ is.a.crs) (
    entry (of_signed 16 _ is.a.delta_n) (
    entry (of_signed 32 _ is.a.m0) (
    entry (of_signed 16 _ is.a.cuc) (
    entry (below _ _ is.a.e) (
    entry (of_signed 16 _ is.a.cus) (
    entry (below _ _ is.a.root_a) (
    entry (below _ _ is.a.toe) (
    entry (of_signed 16 _ is.b.cic) (
    entry (of_signed 32 _ is.b.omega0) (
    entry (of_signed 16 _ is.b.cis) (
    entry (of_signed 32 _ is.b.i0) (
    entry (of_signed 16 _ is.b.crc) (
    entry (of_signed 32 _ is.b.omega) (
    entry (of_signed 24 _ is.b.omega_dot) (
    entry (of_signed 14 _ is.b.idot) (
    entry (below _ _ is.side.l2_code) (
    entry (omega (arith, ints, is.toe_week), omega (arith, ints, is.toe_week)) (
    entry (below _ _ is.side.l2p) (
    entry (below _ _ is.side.ura) (
    entry (below _ _ is.side.health) (
    entry (of_signed 8 _ is.clock.tgd) (
    entry (below _ _ is.clock.iodc) (
    entry sent (
    entry (below _ _ is.fit) (
    tt)))))))))))))))))))))))))))))

pub galileo_kept : (P : ℤ → Type 0) (e : GalEph) → HasGalRanges e → P (sent_field e.sent) → AreKept P (joined_rows galileo_rows) (galileo_fields e)
unfolding galileo_rows
galileo_kept P e is sent =
    entry (of_signed 31 _ is.w4.af0) (
    entry (of_signed 21 _ is.w4.af1) (
    entry (of_signed 6 _ is.w4.af2) (
    entry (below _ _ is.w1.iodnav) (
    entry (of_signed 16 _ is.w3.crs) (
    entry (of_signed 16 _ is.w3.delta_n) (
    entry (of_signed 32 _ is.w1.m0) (
    entry (of_signed 16 _ is.w3.cuc) (
    entry (below _ _ is.w1.e) (
    entry (of_signed 16 _ is.w3.cus) (
    entry (below _ _ is.w1.root_a) (
    entry (below _ _ is.w1.toe) (
    entry (of_signed 16 _ is.w4.cic) (
    entry (of_signed 32 _ is.w2.omega0) (
    entry (of_signed 16 _ is.w4.cis) (
    entry (of_signed 32 _ is.w2.i0) (
    entry (of_signed 16 _ is.w3.crc) (
    entry (of_signed 32 _ is.w2.omega) (
    entry (of_signed 24 _ is.w3.omega_dot) (
    entry (of_signed 14 _ is.w2.idot) (
    entry refl (
    entry (omega (arith, ints, is.toe_week), omega (arith, ints, is.toe_week)) (
    entry (sisa_kept _ is.w3.sisa) (
    entry (below _ _ (health_below e.health is.health)) (
    entry (of_signed 10 _ is.health.bgd_a) (
    entry (of_signed 10 _ is.health.bgd_b) (
    entry sent (
    tt)))))))))))))))))))))))))))

pub gps_ionosphere_kept : (P : ℤ → Type 0) (i : GpsIon) → IsGpsIon i → AreKept P (joined_rows gps_ionosphere_rows) (gps_ionosphere_fields i)
unfolding gps_ionosphere_rows
gps_ionosphere_kept P i is =
    entry (of_signed 8 _ is.alpha0) (
    entry (of_signed 8 _ is.alpha1) (
    entry (of_signed 8 _ is.alpha2) (
    entry (of_signed 8 _ is.alpha3) (
    entry (of_signed 8 _ is.beta0) (
    entry (of_signed 8 _ is.beta1) (
    entry (of_signed 8 _ is.beta2) (
    entry (of_signed 8 _ is.beta3) (
    entry refl (
    tt)))))))))

pub galileo_ionosphere_kept : (P : ℤ → Type 0) (i : GalIon) → IsGalIon i → AreKept P (joined_rows galileo_ionosphere_rows) (galileo_ionosphere_fields i)
unfolding galileo_ionosphere_rows
galileo_ionosphere_kept P i is =
    entry (below _ _ is.ai0) (
    entry (of_signed 11 _ is.ai1) (
    entry (of_signed 14 _ is.ai2) (
    entry (below _ _ is.regions) (
    tt))))

-- a field unchanged by the conversion to `i64`
pub cell : {x y : ℤ} {xs ys : List ℤ} → mag x < 9223372036854775808 → x ≡ y → xs ≡ ys → to_z w64 (of_z w64 x) ∷ xs ≡ y ∷ ys
cell {x} {y} {xs} {ys} h e f =
    let fits : FitsSigned w64 x = search rules in
    let kept : to_z w64 (of_z w64 x) ≡ y = to_z-of_z w64 x fits ∙ e in
    λ i. kept i ∷ f i

both : (a b : Bool) → (a && b) ≡ true → (a ≡ true) × (b ≡ true)
both true b e = (refl, e)
both false b e = cc

or_parts : (a b : Bool) → (a || b) ≡ true → (a ≡ true) ⊎ (b ≡ true)
or_parts true b e = inl refl
or_parts false b e = inr e

near_within : (s : Scale) → is_near_scale s ≡ true → AreWithin s.factor s.two s.ten
near_within s e = grind (arith, nat_tests, ints)

far_shape : (s : Scale) (h : (int_le (negsuc 65) s.two && int_le s.two (negsuc 59) && int_le (pos 0) s.ten && int_le s.ten (pos 0)) ≡ true)
    → (negsuc 65 ≤ℤ s.two) × (s.two ≤ℤ negsuc 59) × (s.ten ≡ pos 0)
far_shape s h = grind (arith, nat_tests, ints)

far_flat : (s : Scale) (h : (int_le (pos 0) s.two && int_le s.two (pos 0) && int_le (negsuc 9) s.ten && int_le s.ten (pos 0)) ≡ true)
    → (s.two ≡ pos 0) × (negsuc 9 ≤ℤ s.ten) × (s.ten ≤ℤ pos 0)
far_flat s h = grind (arith, nat_tests, ints)

plain : (b : Bool) → not b ≡ true → b ≡ false
plain true e = absurd cc
plain false e = refl

far_within : (s : Scale) → is_far_scale s ≡ true → AreFar s.pi s.factor s.two s.ten
far_within s e =
    let a = int_le (negsuc 65) s.two && int_le s.two (negsuc 59) && int_le (pos 0) s.ten && int_le s.ten (pos 0) in
    let b = int_le (pos 0) s.two && int_le s.two (pos 0) && int_le (negsuc 9) s.ten && int_le s.ten (pos 0) in
    let all = both (not s.pi && nat_le 1 s.factor && nat_le s.factor 1000) (a || b) e in
    let two = both (not s.pi && nat_le 1 s.factor) (nat_le s.factor 1000) all.0 in
    let one = both (not s.pi) (nat_le 1 s.factor) two.0 in
    let from : 1 ≤ s.factor = grind (arith, nat_tests, one.1) in
    let to : s.factor ≤ 1000 = grind (arith, nat_tests, two.1) in
    (plain s.pi one.0, from, to, elim (or_parts a b all.1) [ inl h ↦ inl (far_shape s h) | inr h ↦ inr (far_flat s h) ])

good_scale : (s : Scale) → is_good_scale s ≡ true → IsAccepted s
good_scale s e = elim (or_parts (is_near_scale s) (is_far_scale s) e) [ inl h ↦ inl (near_within s h) | inr h ↦ inr (far_within s h) ]

good_range : (low high : ℤ) → is_good_range low high ≡ true → (negsuc 4294967294 ≤ℤ low) × (high ≤ℤ pos 4294967295)
good_range low high e = grind (arith, nat_tests, ints)

small_between : (z : ℤ) → negsuc 4294967294 ≤ℤ z → z ≤ℤ pos 4294967295 → IsSmall z
small_between (pos n) h k = omega (arith, ints)
small_between (negsuc n) h k = omega (arith, ints)

small_within : (low high z : ℤ) → is_good_range low high ≡ true → low ≤ℤ z → z ≤ℤ high → IsSmall z
small_within low high z e h k =
    let r = good_range low high e in
    small_between z (omega (arith, ints, r.0)) (omega (arith, ints, r.1))

kept_writable : (s : Scale) (r : Rule) (z : ℤ) → is_good_rule s r ≡ true → IsKept IsSmall r z → IsWritable r z
kept_writable s (Plain low high) z e h = small_within low high z e h.0 h.1
kept_writable s (OrZero low high) z e h = small_within low high z e h.0 h.1
kept_writable s (OrLeast low high) z e h = small_within low high z e h.0 h.1
kept_writable s (OrUnknown low high) z e (inl h) = small_within low high z (both (is_good_range low high) (is_below_unknown s high) e).0 h.0 h.1
kept_writable s (OrUnknown low high) z e (inr h) = subst IsSmall (sym h) (lit≤ tt)
kept_writable s Ura z e h = h
kept_writable s Sisa z e (inl h) = (h.0, omega (arith, ints, h.1))
kept_writable s Sisa z e (inr h) = (omega (arith, ints), omega (arith, ints))
kept_writable s Fit z e h = h
kept_writable s Sent z e h = h
kept_writable s (Unread n) z e h = let r = good_range n n e in small_between n r.0 r.1

-- a field in the range of a good column can be written
pub kept_ready : (cs : List Column) (zs : List ℤ) → are_good cs ≡ true → AreKept IsSmall cs zs → AreReady cs zs
kept_ready [] zs e h = tt
kept_ready (c ∷ cs) [] e h = h
kept_ready (c ∷ cs) (z ∷ zs) e h =
    let good = both (is_good_scale c.scale && is_good_rule c.scale c.rule) (are_good cs) e in
    let own = both (is_good_scale c.scale) (is_good_rule c.scale c.rule) good.0 in
    (record { scale = good_scale c.scale own.0; field = kept_writable c.scale c.rule z own.1 h.0 }, kept_ready cs zs good.1 h.1)

pub good_gps : are_good (joined_rows gps_rows) ≡ true
unfolding gps_rows
good_gps = refl

pub good_galileo : are_good (joined_rows galileo_rows) ≡ true
unfolding galileo_rows
good_galileo = refl

pub good_gps_ionosphere : are_good (joined_rows gps_ionosphere_rows) ≡ true
unfolding gps_ionosphere_rows
good_gps_ionosphere = refl

pub good_galileo_ionosphere : are_good (joined_rows galileo_ionosphere_rows) ≡ true
unfolding galileo_ionosphere_rows
good_galileo_ionosphere = refl

pub gps_ready : (e : GpsEph) → HasGpsRanges e → IsSmall (sent_field e.sent) → AreReady (joined_rows gps_rows) (gps_fields e)
gps_ready e is small = kept_ready (joined_rows gps_rows) (gps_fields e) good_gps (gps_kept IsSmall e is small)

pub table_gps : IsTable (map length gps_rows) (joined_rows gps_rows)
unfolding gps_rows
table_gps = record { some = lit< tt; count = refl; room = lit≤ tt }

pub galileo_ready : (e : GalEph) → HasGalRanges e → IsSmall (sent_field e.sent) → AreReady (joined_rows galileo_rows) (galileo_fields e)
galileo_ready e is small = kept_ready (joined_rows galileo_rows) (galileo_fields e) good_galileo (galileo_kept IsSmall e is small)

pub table_galileo : IsTable (map length galileo_rows) (joined_rows galileo_rows)
unfolding galileo_rows
table_galileo = record { some = lit< tt; count = refl; room = lit≤ tt }

pub gps_ionosphere_ready : (i : GpsIon) → IsGpsIon i → AreReady (joined_rows gps_ionosphere_rows) (gps_ionosphere_fields i)
gps_ionosphere_ready i is = kept_ready (joined_rows gps_ionosphere_rows) (gps_ionosphere_fields i) good_gps_ionosphere (gps_ionosphere_kept IsSmall i is)

pub table_gps_ionosphere : IsTable (map length gps_ionosphere_rows) (joined_rows gps_ionosphere_rows)
unfolding gps_ionosphere_rows
table_gps_ionosphere = record { some = lit< tt; count = refl; room = lit≤ tt }

pub galileo_ionosphere_ready : (i : GalIon) → IsGalIon i → AreReady (joined_rows galileo_ionosphere_rows) (galileo_ionosphere_fields i)
galileo_ionosphere_ready i is = kept_ready (joined_rows galileo_ionosphere_rows) (galileo_ionosphere_fields i) good_galileo_ionosphere (galileo_ionosphere_kept IsSmall i is)

pub table_galileo_ionosphere : IsTable (map length galileo_ionosphere_rows) (joined_rows galileo_ionosphere_rows)
unfolding galileo_ionosphere_rows
table_galileo_ionosphere = record { some = lit< tt; count = refl; room = lit≤ tt }

sent_is : (s : SentSecond) → IsSentSecond s → IsField Sent (sent_field s)
sent_is Unknown h = inr refl
sent_is (At second) h = inl (h.0, h.1)

pub gps_fit : (e : GpsEph) → IsItem (Gps e) → AreFields (joined_rows gps_rows) (gps_fields e)
unfolding gps_rows
gps_fit e is = gps_kept (IsField Sent) e is.ranges (sent_is e.sent is.whole.second)

pub galileo_fit : (e : GalEph) → IsItem (Gal e) → AreFields (joined_rows galileo_rows) (galileo_fields e)
unfolding galileo_rows
galileo_fit e is = galileo_kept (IsField Sent) e is.ranges (sent_is e.sent is.whole.second)

pub gps_ionosphere_fit : (i : GpsIon) → IsGpsIon i → AreFields (joined_rows gps_ionosphere_rows) (gps_ionosphere_fields i)
unfolding gps_ionosphere_rows
gps_ionosphere_fit i is = gps_ionosphere_kept IsSmall i is

pub galileo_ionosphere_fit : (i : GalIon) → IsGalIon i → AreFields (joined_rows galileo_ionosphere_rows) (galileo_ionosphere_fields i)
unfolding galileo_ionosphere_rows
galileo_ionosphere_fit i is = galileo_ionosphere_kept IsSmall i is
