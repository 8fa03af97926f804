-- Fields that take each number of their bits are in range; the others say which messages are taken.
use Rattle.std.proofs.Common.{◌≡◌, ℕ, ◌+◌, ◌-◌, ◌^◌, ◌<◌, ◌≤◌, ◌&&◌, ◌⊎◌, inl, inr, Bool, true}
use Rattle.std.proofs.Common.{false, List, [], ◌∷◌, length, Result, Ok, Err, None, refl, sym, subst}
use Rattle.std.proofs.Common.{arith, ℤ, pos, ◌≤ℤ◌, int_le, if◌then◌else◌}
use Rattle.std.specs.Prelude.{nat_lt, nat_eq}
use Rattle.std.proofs.lemmas.Int.{ints}
use Rattle.std.proofs.lemmas.Nat.{pow_pos}
use Rattle.std.proofs.lemmas.Bool.{lt-ltb, le-ltb, le-leb, leb-true, ltb-true}
use Rattle.std.proofs.lemmas.Bool.Decides.{nat_tests}
use Rattle.nav_bits.specs.Bits.{number_at}
use Rattle.nav_bits.specs.Laws.{number_at-lt}
use Rattle.nav_bits.specs.Signed.{IsSigned, signed_of}
use Rattle.nav_bits.proofs.Surface.{signed_of-fits}
use Rattle.nav_tables.specs.declared.field.Coding.{Coding}
use Rattle.nav_tables.specs.declared.field.Coding.TheVariants.{Unsigned, TwosComplement}
use Rattle.nav_tables.specs.declared.field.Coding.TheVariants.{SignMagnitude, Reserved}
use Rattle.nav_tables.specs.declared.field.Field.{Field}
use Rattle.nav_tables.specs.declared.field.Table.{Table}
use Rattle.nav_tables.specs.declared.message.TableFault.TheVariants.{Short as TableShort}
use Rattle.nav_tables.specs.Fields.{IsInRange, greatest, is_field, least, number_by, number_of}
use Rattle.nav_tables.specs.Messages.{AreInRange, are_fields, message_in, numbers_at}
use Rattle.nav_tables.proofs.Surface.{both, good, le_z_true, long_is, none_outside, ok_is}
use Rattle.nav_tables.proofs.Surface.{read_in_range}
use Rattle.rtcm_eph.specs.declared.content.EphemerisMessage.{EphemerisMessage}
use Rattle.rtcm_eph.specs.declared.content.EphemerisMessage.TheVariants.{Gps as OfGps, Gal as OfGal}
use Rattle.rtcm_eph.specs.declared.content.GpsContent.{GpsContent}
use Rattle.rtcm_eph.specs.declared.content.GalContent.{GalContent}
use Rattle.rtcm_eph.specs.declared.fault.MessageFault.{MessageFault}
use Rattle.rtcm_eph.specs.declared.fault.MessageFault.TheVariants.{NoNumber, OtherMessage, Short}
use Rattle.rtcm_eph.specs.declared.fault.MessageFault.TheVariants.{BadSat, BadTime, SpareSisa}
use Rattle.rtcm_eph.specs.declared.message1019.Message1019.{Message1019}
use Rattle.rtcm_eph.specs.declared.message1046.Message1046.{Message1046}
use Rattle.rtcm_eph.specs.Messages.{message1019_at, message1046_at}
use Rattle.rtcm_eph.specs.Reading.{content_1019, content_1046, content_of, is_sisa, judged_1019}
use Rattle.rtcm_eph.specs.Reading.{judged_1046}

-- each number of w bits of the coding is from low to high
abbrev full_by : Coding → ℕ → ℤ → ℤ → Bool
full_by Unsigned w low high = int_le low (pos 0) && int_le (pos (2 ^ w - 1)) high
full_by TwosComplement w low high = int_le low (least TwosComplement w)
    && int_le (greatest TwosComplement w) high
full_by SignMagnitude w low high = false
full_by Reserved w low high = int_le low (pos 0) && int_le (pos 0) high

in_full : (c : Coding) (w n : ℕ) (low high : ℤ) → 1 ≤ w → n < 2 ^ w → full_by c w low high ≡ true
    → (low ≤ℤ number_by c w n) × (number_by c w n ≤ℤ high)
in_full Unsigned w n low high one less e =
    let a = both (int_le low (pos 0)) (int_le (pos (2 ^ w - 1)) high) e in
    let x = le_z_true low (pos 0) a.0 in
    let y = le_z_true (pos (2 ^ w - 1)) high a.1 in
    (omega (arith, ints, x), omega (arith, ints, y, less))
in_full TwosComplement w n low high one less e =
    let a = both (int_le low (least TwosComplement w))
    (int_le (greatest TwosComplement w) high) e in
    let x = le_z_true low (least TwosComplement w) a.0 in
    let y = le_z_true (greatest TwosComplement w) high a.1 in
    let fits : IsSigned w (signed_of w n) = signed_of-fits w n one less in
    let some = pow_pos (w - 1) in
    (omega (arith, ints, x, fits.0), omega (arith, ints, y, fits.1, some))
in_full SignMagnitude w n low high one less e = absurd cc
in_full Reserved w n low high one less e =
    let a = both (int_le low (pos 0)) (int_le (pos 0) high) e in
    (le_z_true low (pos 0) a.0, le_z_true (pos 0) high a.1)

abbrev is_full : Field → Bool
is_full f = full_by f.coding f.width f.low f.high

abbrev taken_or : Bool → Type 0 → Type 0 → Type 0
taken_or true range rest = rest
taken_or false range rest = range × rest

-- the numbers of the fields that are not full are in range
abbrev pub AreTaken : List ℕ → ℕ → List Field → Type 0
AreTaken bytes at [] = Unit {0}
AreTaken bytes at (f ∷ fs)
    = taken_or (is_full f) (IsInRange f (number_of f (number_at bytes at f.width)))
    (AreTaken bytes (at + f.width) fs)

taken_first : (bytes : List ℕ) (at : ℕ) (f : Field) (rest : Type 0) (b : Bool) → is_full f ≡ b
    → is_field f ≡ true
    → taken_or b (IsInRange f (number_of f (number_at bytes at f.width))) rest
    → IsInRange f (number_of f (number_at bytes at f.width)) × rest
taken_first bytes at f rest true e h t
    = (
      in_full f.coding f.width (number_at bytes at f.width) f.low f.high (good f h).some
          (number_at-lt bytes at f.width) e,
      t,
    )
taken_first bytes at f rest false e h t = t

pub all_in_range : (bytes : List ℕ) (at : ℕ) (fs : List Field) → are_fields fs ≡ true
    → AreTaken bytes at fs → AreInRange fs (numbers_at bytes at fs)
unfolding numbers_at
all_in_range bytes at [] e t = tt
all_in_range bytes at (f ∷ fs) e t =
    let a = both (is_field f) (are_fields fs) e in
    let first = taken_first bytes at f (AreTaken bytes (at + f.width) fs) (is_full f) refl a.0 t in
    (first.0, all_in_range bytes (at + f.width) fs a.1 first.1)

some_taken : (range rest : Type 0) (b : Bool) → range → rest → taken_or b range rest
some_taken range rest true h t = t
some_taken range rest false h t = (h, t)

pub all_taken : (bytes : List ℕ) (at : ℕ) (fs : List Field)
    → AreInRange fs (numbers_at bytes at fs) → AreTaken bytes at fs
unfolding numbers_at
all_taken bytes at [] h = tt
all_taken bytes at (f ∷ fs) h
    = some_taken (IsInRange f (number_of f (number_at bytes at f.width)))
    (AreTaken bytes (at + f.width) fs) (is_full f) h.0 (all_taken bytes (at + f.width) fs h.1)

-- ---- messages

pub taken : (t : Table) (bytes : List ℕ) → are_fields t.fields.now ≡ true → t.bytes ≤ length bytes
    → AreTaken bytes 0 t.fields.now
    → message_in t bytes ≡ Ok (numbers_at bytes 0 t.fields.now)
taken t bytes e few h =
    let range = all_in_range bytes 0 t.fields.now e h in
    long_is t bytes (numbers_at bytes 0 t.fields.now) None few refl
    (sym (none_outside 0 t.fields.now (numbers_at bytes 0 t.fields.now) range))

-- a message that is taken is long enough, and its numbers are in range
pub record IsTaken (t : Table) (bytes : List ℕ) : Type 0 where
  pub few : t.bytes ≤ length bytes
  pub taken : AreTaken bytes 0 t.fields.now

few_by : (t : Table) (bytes : List ℕ) (numbers : List ℤ) (b : Bool)
    → nat_lt (length bytes) t.bytes ≡ b → message_in t bytes ≡ Ok numbers → t.bytes ≤ length bytes
unfolding message_in
few_by t bytes numbers true e ok = let h : Err TableShort ≡ Ok numbers = rw e at ok in absurd cc
few_by t bytes numbers false e ok = grind (arith, nat_tests)

pub is_taken : (t : Table) (bytes : List ℕ) (numbers : List ℤ) → message_in t bytes ≡ Ok numbers
    → IsTaken t bytes
is_taken t bytes numbers ok =
    let fs = t.fields.now in
    let same : numbers_at bytes 0 fs ≡ numbers
    = (ok_is t bytes numbers (nat_lt (length bytes) t.bytes) refl ok).1 in
    record {
      few = few_by t bytes numbers (nat_lt (length bytes) t.bytes) refl ok;
      taken = all_taken bytes 0 fs
          (subst (AreInRange fs) (sym same) (read_in_range t bytes numbers ok));
    }

-- ---- what the hand-written readers take

-- a message number, and the bounds of satellite and times
pub record IsMessage (bytes number least most satellite toe toc last : ℕ)
    (payload : List ℕ) : Type 0 where
  pub few : bytes ≤ length payload
  pub number_is : number_at payload 0 12 ≡ number
  pub some : least ≤ satellite
  pub most_is : satellite ≤ most
  pub toe_is : toe < last
  pub toc_is : toc < last

abbrev Judged : Type 0
Judged = Result EphemerisMessage MessageFault

else_ok : (b : Bool) (fault : MessageFault) (y : Judged) (v : EphemerisMessage)
    → (if b then Err fault else y) ≡ Ok v → (b ≡ false) × (y ≡ Ok v)
else_ok true fault y v h = let no : Err fault ≡ Ok v = h in absurd cc
else_ok false fault y v h = (refl, h)

then_ok : (b : Bool) (fault : MessageFault) (x : Judged) (v : EphemerisMessage)
    → (if b then x else Err fault) ≡ Ok v → (b ≡ true) × (x ≡ Ok v)
then_ok true fault x v h = (refl, h)
then_ok false fault x v h = let no : Err fault ≡ Ok v = h in absurd cc

either_ok : (b : Bool) (x y : Judged) (v : EphemerisMessage) → (if b then x else y) ≡ Ok v
    → ((b ≡ true) × (x ≡ Ok v)) ⊎ ((b ≡ false) × (y ≡ Ok v))
either_ok true x y v h = inl (refl, h)
either_ok false x y v h = inr (refl, h)

same_content : (a b : EphemerisMessage) (j k : Judged) → j ≡ Ok a → k ≡ Ok b → j ≡ k → a ≡ b
same_content a b j k e f g = cc

-- what judged_1019 says where it takes a message
gps_judged : (m : Message1019) (v : EphemerisMessage) → judged_1019 m ≡ Ok v
    → (1 ≤ m.satellite) × (m.satellite ≤ 32) × (m.toe < 37800) × (m.toc < 37800) ×
    (OfGps (content_1019 m) ≡ v)
gps_judged m v h =
    let a = then_ok _ BadSat _ v h in
    let b = then_ok _ BadTime _ v a.1 in
    let s = both _ _ a.0 in
    let t = both _ _ b.0 in (
      leb-true 1 m.satellite s.0,
      leb-true m.satellite 32 s.1,
      ltb-true m.toe 37800 t.0,
      ltb-true m.toc 37800 t.1,
      same_content (OfGps (content_1019 m)) v (Ok (OfGps (content_1019 m))) (Ok v) refl refl b.1,
    )

gal_judged : (m : Message1046) (v : EphemerisMessage) → judged_1046 m ≡ Ok v
    → (1 ≤ m.satellite) × (m.satellite ≤ 36) × (m.toe < 10080) × (m.toc < 10080) ×
    (OfGal (content_1046 m) ≡ v)
gal_judged m v h =
    let a = then_ok _ BadSat _ v h in
    let b = then_ok _ BadTime _ v a.1 in
    let d = then_ok _ SpareSisa _ v b.1 in
    let s = both _ _ a.0 in
    let t = both _ _ b.0 in (
      leb-true 1 m.satellite s.0,
      leb-true m.satellite 36 s.1,
      ltb-true m.toe 10080 t.0,
      ltb-true m.toc 10080 t.1,
      same_content (OfGal (content_1046 m)) v (Ok (OfGal (content_1046 m))) (Ok v) refl refl d.1,
    )

pub gps_taken : (payload : List ℕ) (c : GpsContent) → content_of payload ≡ Ok (OfGps c)
    → IsMessage 61 1019 1 32 (message1019_at payload 0).satellite (message1019_at payload 0).toe
    (message1019_at payload 0).toc 37800 payload
gps_taken payload c h =
    let m = message1019_at payload 0 in
    let w = message1046_at payload 0 in
    let n = number_at payload 0 12 in
    let a = else_ok (nat_lt (length payload) 2) NoNumber _ (OfGps c) h in
    elim (either_ok (nat_eq n 1019) _ _ (OfGps c) a.1) [
      | inl x ↦
          let b = else_ok (nat_lt (length payload) 61) Short _ (OfGps c) x.1 in
          let j = gps_judged m (OfGps c) b.1 in
          let long : 61 ≤ length payload = (let e = b.0 in grind (arith, nat_tests)) in
          let is : n ≡ 1019 = (let e = x.0 in grind (arith, nat_tests)) in
          record {
            few = long;
            number_is = is;
            some = j.0;
            most_is = j.1;
            toe_is = j.2;
            toc_is = j.3;
          }
      | inr y ↦
          let b = then_ok (nat_eq n 1046) (OtherMessage n) _ (OfGps c) y.1 in
          let d = else_ok (nat_lt (length payload) 63) Short _ (OfGps c) b.1 in
          let j = gal_judged w (OfGps c) d.1 in
          let no = j.4 in
          absurd cc
    ]

pub gal_taken : (payload : List ℕ) (c : GalContent) → content_of payload ≡ Ok (OfGal c)
    → IsMessage 63 1046 1 36 (message1046_at payload 0).satellite (message1046_at payload 0).toe
    (message1046_at payload 0).toc 10080 payload
gal_taken payload c h =
    let m = message1019_at payload 0 in
    let w = message1046_at payload 0 in
    let n = number_at payload 0 12 in
    let a = else_ok (nat_lt (length payload) 2) NoNumber _ (OfGal c) h in
    elim (either_ok (nat_eq n 1019) _ _ (OfGal c) a.1) [
      | inl x ↦
          let b = else_ok (nat_lt (length payload) 61) Short _ (OfGal c) x.1 in
          let j = gps_judged m (OfGal c) b.1 in
          let no = j.4 in
          absurd cc
      | inr y ↦
          let b = then_ok (nat_eq n 1046) (OtherMessage n) _ (OfGal c) y.1 in
          let d = else_ok (nat_lt (length payload) 63) Short _ (OfGal c) b.1 in
          let j = gal_judged w (OfGal c) d.1 in
          let long : 63 ≤ length payload = (let e = d.0 in grind (arith, nat_tests)) in
          let is : n ≡ 1046 = (let e = b.0 in grind (arith, nat_tests)) in
          record {
            few = long;
            number_is = is;
            some = j.0;
            most_is = j.1;
            toe_is = j.2;
            toc_is = j.3;
          }
    ]

pub gps_content : (payload : List ℕ)
    → IsMessage 61 1019 1 32 (message1019_at payload 0).satellite (message1019_at payload 0).toe
    (message1019_at payload 0).toc 37800 payload
    → content_of payload ≡ Ok (OfGps (content_1019 (message1019_at payload 0)))
gps_content payload h =
    let m = message1019_at payload 0 in
    rw (
      h.number_is,
      le-ltb (length payload) 2 (omega (arith, h.few)),
      le-ltb (length payload) 61 h.few,
      le-leb 1 m.satellite h.some,
      le-leb m.satellite 32 h.most_is,
      lt-ltb m.toe 37800 h.toe_is,
      lt-ltb m.toc 37800 h.toc_is,
    ) refl

pub gal_content : (payload : List ℕ)
    → IsMessage 63 1046 1 36 (message1046_at payload 0).satellite (message1046_at payload 0).toe
    (message1046_at payload 0).toc 10080 payload
    → is_sisa (message1046_at payload 0).sisa ≡ true
    → content_of payload ≡ Ok (OfGal (content_1046 (message1046_at payload 0)))
gal_content payload h sisa =
    let m = message1046_at payload 0 in
    rw (
      h.number_is,
      le-ltb (length payload) 2 (omega (arith, h.few)),
      le-ltb (length payload) 63 h.few,
      le-leb 1 m.satellite h.some,
      le-leb m.satellite 36 h.most_is,
      lt-ltb m.toe 10080 h.toe_is,
      lt-ltb m.toc 10080 h.toc_is,
      sisa,
    ) refl
