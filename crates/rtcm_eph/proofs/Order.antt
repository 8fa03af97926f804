-- The fault of a payload is the first in the order of those that it has.
use Rattle.std.proofs.Common.{◌≡◌, ℕ, zero, suc, ◌<◌, ◌≤◌, ◌&&◌, ◌||◌, ◌↔◌, ◌⊎◌, List, length, Bool, true, false, nat_eq, nat_le, nat_lt, Result, Ok, Err, inl, inr, refl, sym, ap, ◌∙◌, subst, arith, ⊎_elim}
use Rattle.std.proofs.lemmas.Bool.{and_parts, cond_both, eqb-false, eqb-true, leb-false, leb-true, ltb-false, ltb-true, true≢false}
use Rattle.nav_bits.specs.Bits.{number_at}
use Rattle.rtcm_eph.specs.declared.message1019.Message1019.{Message1019}
use Rattle.rtcm_eph.specs.declared.message1046.Message1046.{Message1046}
use Rattle.rtcm_eph.specs.declared.content.EphemerisMessage.{EphemerisMessage}
use Rattle.rtcm_eph.specs.declared.content.EphemerisMessage.TheVariants.{Gps as OfGps, Gal as OfGal}
use Rattle.rtcm_eph.specs.declared.fault.MessageFault.{MessageFault}
use Rattle.rtcm_eph.specs.declared.fault.MessageFault.TheVariants.{NoNumber, OtherMessage, Short, BadSat, BadTime, SpareSisa}
use Rattle.rtcm_eph.specs.Faults.{HasFaultBy, IsFirstFault, IsFirstOf, order_of}
use Rattle.rtcm_eph.specs.Messages.{message1019_at, message1046_at}
use Rattle.rtcm_eph.specs.Reading.{content_by, content_of, is_sisa, item_in, item_of, judged_1019, judged_1046, parts_of}

-- ---- tests of two conditions

and_either : (a b : Bool) → (a && b) ≡ false → (a ≡ false) ⊎ (b ≡ false)
and_either true b e = inr e
and_either false b e = inl refl

or_either : (a b : Bool) → (a || b) ≡ true → (a ≡ true) ⊎ (b ≡ true)
or_either true b e = inl refl
or_either false b e = inr e

or_parts : (a b : Bool) → (a || b) ≡ false → (a ≡ false) × (b ≡ false)
or_parts true b e = absurd (true≢false e)
or_parts false b e = (refl, e)

-- a number is within two bounds, or outside
within : (n high : ℕ) → (nat_le 1 n && nat_le n high) ≡ true → (n < 1) ⊎ (high < n) → ⊥
within n high e bad =
    let both = and_parts (nat_le 1 n) (nat_le n high) e in
    let low : 1 ≤ n = leb-true 1 n both.0 in
    let top : n ≤ high = leb-true n high both.1 in
    ⊎_elim (λ (under : n < 1). omega (arith, low, under)) (λ (over : high < n). omega (arith, top, over)) bad

without : (n high : ℕ) → (nat_le 1 n && nat_le n high) ≡ false → (n < 1) ⊎ (high < n)
without n high e =
    ⊎_elim (λ (under : nat_le 1 n ≡ false). inl (leb-false 1 n under)) (λ (over : nat_le n high ≡ false). inr (leb-false n high over))
    (and_either (nat_le 1 n) (nat_le n high) e)

early : (m n end : ℕ) → (nat_lt m end && nat_lt n end) ≡ true → (end ≤ m) ⊎ (end ≤ n) → ⊥
early m n end e bad =
    let both = and_parts (nat_lt m end) (nat_lt n end) e in
    let first : m < end = ltb-true m end both.0 in
    let second : n < end = ltb-true n end both.1 in
    ⊎_elim (λ (late : end ≤ m). omega (arith, first, late)) (λ (late : end ≤ n). omega (arith, second, late)) bad

late : (m n end : ℕ) → (nat_lt m end && nat_lt n end) ≡ false → (end ≤ m) ⊎ (end ≤ n)
late m n end e =
    ⊎_elim (λ (first : nat_lt m end ≡ false). inl (ltb-false m end first)) (λ (second : nat_lt n end ≡ false). inr (ltb-false n end second))
    (and_either (nat_lt m end) (nat_lt n end) e)

sisa_said : (n : ℕ) → is_sisa n ≡ true → 126 ≤ n → (n ≡ 255 → ⊥) → ⊥
sisa_said n e over other =
    ⊎_elim (λ (low : nat_le n 125 ≡ true). let h : n ≤ 125 = leb-true n 125 low in omega (arith, h, over)) (λ (none : nat_eq n 255 ≡ true). other (eqb-true n 255 none))
    (or_either (nat_le n 125) (nat_eq n 255) e)

sisa_spare : (n : ℕ) → is_sisa n ≡ false → (126 ≤ n) × (n ≡ 255 → ⊥)
sisa_spare n e =
    let both = or_parts (nat_le n 125) (nat_eq n 255) e in
    let over : 125 < n = leb-false n 125 both.0 in
    (omega (arith, over), eqb-false n 255 both.1)

-- ---- the faults before a place in the order

clear : (bytes number : ℕ) (m : Message1019) (w : Message1046) (k : ℕ) → (1 < k → 2 ≤ bytes) → (2 < k → (number ≡ 1019) ⊎ (number ≡ 1046))
    → (3 < k → HasFaultBy bytes number m w Short → ⊥) → (4 < k → HasFaultBy bytes number m w BadSat → ⊥) → (5 < k → HasFaultBy bytes number m w BadTime → ⊥)
    → (6 < k → HasFaultBy bytes number m w SpareSisa → ⊥) → (other : MessageFault) → order_of other < k → HasFaultBy bytes number m w other → ⊥
clear bytes number m w k some used long sat time sisa NoNumber low has = omega (arith, some low, has)
clear bytes number m w k some used long sat time sisa (OtherMessage other) low has =
    ⊎_elim (λ (gps : number ≡ 1019). has.1 gps) (λ (gal : number ≡ 1046). has.2 gal) (used low)
clear bytes number m w k some used long sat time sisa Short low has = long low has
clear bytes number m w k some used long sat time sisa BadSat low has = sat low has
clear bytes number m w k some used long sat time sisa BadTime low has = time low has
clear bytes number m w k some used long sat time sisa SpareSisa low has = sisa low has

order-lt : (fault : MessageFault) → order_of fault < 7
order-lt NoNumber = omega arith
order-lt (OtherMessage number) = omega arith
order-lt Short = omega arith
order-lt BadSat = omega arith
order-lt BadTime = omega arith
order-lt SpareSisa = omega arith

-- the answer is the fault of lowest rank, or there is none
abbrev Judges : (MessageFault → Type 0) → Result EphemerisMessage MessageFault → Type 0
Judges has_fault (Ok content) = (fault : MessageFault) → has_fault fault → ⊥
Judges has_fault (Err fault) = IsFirstOf has_fault fault

-- ---- each message

gps_judged : (bytes number : ℕ) (m : Message1019) (w : Message1046) → 2 ≤ bytes → number ≡ 1019 → 61 ≤ bytes
    → Judges (HasFaultBy bytes number m w) (judged_1019 m)
gps_judged bytes number m w some is size =
    let used : (number ≡ 1019) ⊎ (number ≡ 1046) = inl is in
    let long : HasFaultBy bytes number m w Short → ⊥ = λ has.
    ⊎_elim (λ (gps : (number ≡ 1019) × (bytes < 61)). omega (arith, size, gps.1)) (λ (gal : (number ≡ 1046) × (bytes < 63)). omega (arith, is, gal.0)) has in
    let no_sisa : HasFaultBy bytes number m w SpareSisa → ⊥ = λ has. omega (arith, is, has.0) in
    cond_both (nat_le 1 m.satellite && nat_le m.satellite 32) _ _ (Judges (HasFaultBy bytes number m w))
    (λ sat_in. let sat : HasFaultBy bytes number m w BadSat → ⊥ = λ has.
    ⊎_elim (λ (gps : (number ≡ 1019) × ((m.satellite < 1) ⊎ (32 < m.satellite))). within m.satellite 32 sat_in gps.1)
    (λ (gal : (number ≡ 1046) × ((w.satellite < 1) ⊎ (36 < w.satellite))). omega (arith, is, gal.0)) has in
    cond_both (nat_lt m.toe 37800 && nat_lt m.toc 37800) _ _ (Judges (HasFaultBy bytes number m w))
    (λ time_in. let time : HasFaultBy bytes number m w BadTime → ⊥ = λ has.
    ⊎_elim (λ (gps : (number ≡ 1019) × ((37800 ≤ m.toe) ⊎ (37800 ≤ m.toc))). early m.toe m.toc 37800 time_in gps.1)
    (λ (gal : (number ≡ 1046) × ((10080 ≤ w.toe) ⊎ (10080 ≤ w.toc))). omega (arith, is, gal.0)) has in
    λ fault. clear bytes number m w 7 (λ h. some) (λ h. used) (λ h. long) (λ h. sat) (λ h. time) (λ h. no_sisa) fault (order-lt fault))
    (λ time_out. record {
      has = inl (is, late m.toe m.toc 37800 time_out);
      first = clear bytes number m w 5 (λ h. some) (λ h. used) (λ h. long) (λ h. sat) (λ h. absurd (omega arith)) (λ h. absurd (omega arith));
    }))
    (λ sat_out. record {
      has = inl (is, without m.satellite 32 sat_out);
      first = clear bytes number m w 4 (λ h. some) (λ h. used) (λ h. long) (λ h. absurd (omega arith)) (λ h. absurd (omega arith)) (λ h. absurd (omega arith));
    })

gal_judged : (bytes number : ℕ) (m : Message1019) (w : Message1046) → 2 ≤ bytes → number ≡ 1046 → 63 ≤ bytes
    → Judges (HasFaultBy bytes number m w) (judged_1046 w)
gal_judged bytes number m w some is size =
    let used : (number ≡ 1019) ⊎ (number ≡ 1046) = inr is in
    let long : HasFaultBy bytes number m w Short → ⊥ = λ has.
    ⊎_elim (λ (gps : (number ≡ 1019) × (bytes < 61)). omega (arith, is, gps.0)) (λ (gal : (number ≡ 1046) × (bytes < 63)). omega (arith, size, gal.1)) has in
    cond_both (nat_le 1 w.satellite && nat_le w.satellite 36) _ _ (Judges (HasFaultBy bytes number m w))
    (λ sat_in. let sat : HasFaultBy bytes number m w BadSat → ⊥ = λ has.
    ⊎_elim (λ (gps : (number ≡ 1019) × ((m.satellite < 1) ⊎ (32 < m.satellite))). omega (arith, is, gps.0))
    (λ (gal : (number ≡ 1046) × ((w.satellite < 1) ⊎ (36 < w.satellite))). within w.satellite 36 sat_in gal.1) has in
    cond_both (nat_lt w.toe 10080 && nat_lt w.toc 10080) _ _ (Judges (HasFaultBy bytes number m w))
    (λ time_in. let time : HasFaultBy bytes number m w BadTime → ⊥ = λ has.
    ⊎_elim (λ (gps : (number ≡ 1019) × ((37800 ≤ m.toe) ⊎ (37800 ≤ m.toc))). omega (arith, is, gps.0))
    (λ (gal : (number ≡ 1046) × ((10080 ≤ w.toe) ⊎ (10080 ≤ w.toc))). early w.toe w.toc 10080 time_in gal.1) has in
    cond_both (is_sisa w.sisa) _ _ (Judges (HasFaultBy bytes number m w))
    (λ said. λ fault. clear bytes number m w 7 (λ h. some) (λ h. used) (λ h. long) (λ h. sat) (λ h. time) (λ h has. sisa_said w.sisa said has.1 has.2) fault (order-lt fault))
    (λ spare. record {
      has = (is, (sisa_spare w.sisa spare).0, (sisa_spare w.sisa spare).1);
      first = clear bytes number m w 6 (λ h. some) (λ h. used) (λ h. long) (λ h. sat) (λ h. time) (λ h. absurd (omega arith));
    }))
    (λ time_out. record {
      has = inr (is, late w.toe w.toc 10080 time_out);
      first = clear bytes number m w 5 (λ h. some) (λ h. used) (λ h. long) (λ h. sat) (λ h. absurd (omega arith)) (λ h. absurd (omega arith));
    }))
    (λ sat_out. record {
      has = inr (is, without w.satellite 36 sat_out);
      first = clear bytes number m w 4 (λ h. some) (λ h. used) (λ h. long) (λ h. absurd (omega arith)) (λ h. absurd (omega arith)) (λ h. absurd (omega arith));
    })

judges : (bytes number : ℕ) (m : Message1019) (w : Message1046) → Judges (HasFaultBy bytes number m w) (content_by bytes number m w)
judges bytes number m w =
    let M : Result EphemerisMessage MessageFault → Type 0 = Judges (HasFaultBy bytes number m w) in
    cond_both (nat_lt bytes 2) _ _ M
    (λ none. record {
      has = ltb-true bytes 2 none;
      first = clear bytes number m w 1 (λ h. absurd (omega arith)) (λ h. absurd (omega arith)) (λ h. absurd (omega arith)) (λ h. absurd (omega arith)) (λ h. absurd (omega arith)) (λ h. absurd (omega arith));
    })
    (λ more. let some : 2 ≤ bytes = ltb-false bytes 2 more in
    cond_both (nat_eq number 1019) _ _ M
    (λ gps. let is : number ≡ 1019 = eqb-true number 1019 gps in
    cond_both (nat_lt bytes 61) _ _ M
    (λ short. record {
      has = inl (is, ltb-true bytes 61 short);
      first = clear bytes number m w 3 (λ h. some) (λ h. inl is) (λ h. absurd (omega arith)) (λ h. absurd (omega arith)) (λ h. absurd (omega arith)) (λ h. absurd (omega arith));
    })
    (λ long. gps_judged bytes number m w some is (ltb-false bytes 61 long)))
    (λ no_gps. cond_both (nat_eq number 1046) _ _ M
    (λ gal. let is : number ≡ 1046 = eqb-true number 1046 gal in
    cond_both (nat_lt bytes 63) _ _ M
    (λ short. record {
      has = inr (is, ltb-true bytes 63 short);
      first = clear bytes number m w 3 (λ h. some) (λ h. inr is) (λ h. absurd (omega arith)) (λ h. absurd (omega arith)) (λ h. absurd (omega arith)) (λ h. absurd (omega arith));
    })
    (λ long. gal_judged bytes number m w some is (ltb-false bytes 63 long)))
    (λ no_gal. record {
      has = (refl, eqb-false number 1019 no_gps, eqb-false number 1046 no_gal);
      first = clear bytes number m w 2 (λ h. some) (λ h. absurd (omega arith)) (λ h. absurd (omega arith)) (λ h. absurd (omega arith)) (λ h. absurd (omega arith)) (λ h. absurd (omega arith));
    })))

-- ---- there is one first fault

-- the fault of a rank
fault_at : ℕ → ℕ → MessageFault
fault_at number (suc zero) = NoNumber
fault_at number (suc (suc zero)) = OtherMessage number
fault_at number (suc (suc (suc zero))) = Short
fault_at number (suc (suc (suc (suc zero)))) = BadSat
fault_at number (suc (suc (suc (suc (suc zero))))) = BadTime
fault_at number _ = SpareSisa

is_at : (bytes number : ℕ) (m : Message1019) (w : Message1046) (fault : MessageFault) → HasFaultBy bytes number m w fault → fault ≡ fault_at number (order_of fault)
unfolding fault_at
is_at bytes number m w NoNumber has = refl
is_at bytes number m w (OtherMessage other) has = ap OtherMessage has.0
is_at bytes number m w Short has = refl
is_at bytes number m w BadSat has = refl
is_at bytes number m w BadTime has = refl
is_at bytes number m w SpareSisa has = refl

one_first : (bytes number : ℕ) (m : Message1019) (w : Message1046) (a b : MessageFault) → IsFirstOf (HasFaultBy bytes number m w) a
    → IsFirstOf (HasFaultBy bytes number m w) b → a ≡ b
one_first bytes number m w a b x y =
    let not_below : order_of a < order_of b → ⊥ = λ h. y.first a h x.has in
    let not_above : order_of b < order_of a → ⊥ = λ h. x.first b h y.has in
    let same : order_of a ≡ order_of b = omega (arith, not_below, not_above) in
    is_at bytes number m w a x.has ∙ ap (fault_at number) same ∙ sym (is_at bytes number m w b y.has)

by_judge : (bytes number : ℕ) (m : Message1019) (w : Message1046) (r : Result EphemerisMessage MessageFault) (fault : MessageFault)
    → Judges (HasFaultBy bytes number m w) r → IsFirstOf (HasFaultBy bytes number m w) fault → r ≡ Err fault
by_judge bytes number m w (Ok content) fault none is = absurd (none fault is.has)
by_judge bytes number m w (Err other) fault first is = ap Err (one_first bytes number m w other fault first is)

-- a fault is the answer exactly where it is the first
pub first_refuses : (payload : List ℕ) (fault : MessageFault) → (content_of payload ≡ Err fault) ↔ IsFirstFault payload fault
first_refuses payload fault =
    let bytes = length payload in
    let number = number_at payload 0 12 in
    let m = message1019_at payload 0 in
    let w = message1046_at payload 0 in
    let known = judges bytes number m w in
    (λ e. subst (Judges (HasFaultBy bytes number m w)) e known, λ is. by_judge bytes number m w (content_of payload) fault known is)

-- ---- what is asked of a content is refused where the content is

abbrev IsRefused : {A : Type 0} → Result A MessageFault → Type 0
IsRefused (Ok value) = ⊥
IsRefused (Err fault) = Unit {0}

abbrev fault_or : {A : Type 0} → MessageFault → Result A MessageFault → MessageFault
fault_or other (Ok value) = other
fault_or other (Err fault) = fault

pub item_refused : (r : ℕ) (c : Result EphemerisMessage MessageFault) (fault : MessageFault) → (item_of r c ≡ Err fault) ↔ (c ≡ Err fault)
item_refused r (Ok content) fault = (λ e. absurd (subst IsRefused (sym e) tt), λ e. ap (item_of r) e)
item_refused r (Err other) fault = (λ e. ap Err (ap (fault_or other) e), λ e. ap (item_of r) e)

pub parts_refused : (stamp : ℕ) (c : Result EphemerisMessage MessageFault) (fault : MessageFault) → (parts_of stamp c ≡ Err fault) ↔ (c ≡ Err fault)
parts_refused stamp (Ok (OfGps c)) fault = (λ e. absurd (subst IsRefused (sym e) tt), λ e. ap (parts_of stamp) e)
parts_refused stamp (Ok (OfGal c)) fault = (λ e. absurd (subst IsRefused (sym e) tt), λ e. ap (parts_of stamp) e)
parts_refused stamp (Err other) fault = (λ e. ap Err (ap (fault_or other) e), λ e. ap (parts_of stamp) e)

pub item_first : (r : ℕ) (payload : List ℕ) (fault : MessageFault) → (item_in r payload ≡ Err fault) ↔ IsFirstFault payload fault
unfolding item_in
item_first r payload fault =
    let both = item_refused r (content_of payload) fault in
    let first = first_refuses payload fault in
    (λ e. first.0 (both.0 e), λ is. both.1 (first.1 is))

pub parts_first : (stamp : ℕ) (payload : List ℕ) (fault : MessageFault) → (parts_of stamp (content_of payload) ≡ Err fault) ↔ IsFirstFault payload fault
parts_first stamp payload fault =
    let both = parts_refused stamp (content_of payload) fault in
    let first = first_refuses payload fault in
    (λ e. first.0 (both.0 e), λ is. both.1 (first.1 is))
