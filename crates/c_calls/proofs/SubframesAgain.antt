-- What is read of a subframe that was written, and that what is read can be written.
use Rattle.std.proofs.Common.{◌≡◌, ◌<◌, ℕ, Bool, true, false, Option, Some, None, refl, sym, ap, subst, ◌∙◌}
use Rattle.std.specs.Prelude.{if◌then◌else◌, ◌==◌}
use Rattle.nav_eph.specs.Conditions.{IsPart, system_of}
use Rattle.nav_eph.specs.Satellite.{Satellite}
use Rattle.nav_eph.specs.Values.{HasBodyRanges}
use Rattle.nav_eph.specs.declared.sat.System.TheVariants.{Gal, Gps}
use Rattle.nav_eph.specs.declared.gps.GpsClock.{GpsClock as ClockFields}
use Rattle.nav_eph.specs.declared.gps.GpsSide.{GpsSide}
use Rattle.nav_eph.specs.declared.gps.GpsOrbitA.{GpsOrbitA}
use Rattle.nav_eph.specs.declared.gps.GpsOrbitB.{GpsOrbitB}
use Rattle.nav_eph.specs.declared.ion.GpsIon.{GpsIon as IonFields}
use Rattle.nav_eph.specs.declared.part.Body.{Body}
use Rattle.nav_eph.specs.declared.part.Body.TheVariants.{GpsClock, GpsA, GpsB, GpsIon, GalW1, GalW2, GalW3, GalW4, GalHealth, GalIon}
use Rattle.lnav_subframe.specs.Bytes.{HasBits, subframe_bytes}
use Rattle.lnav_subframe.specs.Reading.{heard, subframe_of}
use Rattle.lnav_subframe.specs.Writing.{IsWritable, read_again}
use Rattle.lnav_subframe.specs.declared.out.SubframeOut.{SubframeOut}
use Rattle.lnav_subframe.specs.declared.out.SubframeOut.TheVariants.{Clock, OrbitA, OrbitB, Ion, Other}
use Rattle.c_calls.specs.Subframes.{IsContent, IsReadAs, IsSubframeOf, content_in, raw_subframe}
use Rattle.c_calls.specs.declared.subframe_raw.SubframeBits.{SubframeBits}
use Rattle.c_calls.specs.declared.subframe_raw.SubframeRaw.{SubframeRaw}

-- no numbers stand for another page
not_other : (a b c d : Bool) (clock : ClockFields) (side : GpsSide) (wn : ℕ) (orbit_a : GpsOrbitA) (fit : ℕ) (orbit_b : GpsOrbitB) (ion : IonFields) (number page : ℕ)
    → (if a then Some (Clock clock side wn) else if b then Some (OrbitA orbit_a fit) else if c then Some (OrbitB orbit_b) else if d then Some (Ion ion) else None)
    ≡ Some (Other number page) → ⊥
not_other true b c d clock side wn orbit_a fit orbit_b ion number page e = cc
not_other false true c d clock side wn orbit_a fit orbit_b ion number page e = cc
not_other false false true d clock side wn orbit_a fit orbit_b ion number page e = cc
not_other false false false true clock side wn orbit_a fit orbit_b ion number page e = cc
not_other false false false false clock side wn orbit_a fit orbit_b ion number page e = cc

-- what is read of a written subframe
pub record WrittenIsRead : Type 0 where
  pub read : (body : SubframeOut) (tow_count : ℕ) (sat : Satellite) (stamp : ℕ) → HasBits body → tow_count < 100800 → IsWritable body
      → subframe_of (subframe_bytes body tow_count) sat stamp ≡ heard sat stamp (read_again body tow_count)

again : (law : WrittenIsRead) (old : SubframeRaw) (tow_count : ℕ) (sat : Satellite) (bits : SubframeBits) (body : SubframeOut) → tow_count < 100800
    → HasBits body → IsWritable body → bits ≡ record { bytes = subframe_bytes body tow_count }
    → IsReadAs (heard sat 0 (read_again body tow_count)) old (Some body) → IsReadAs (subframe_of bits.bytes sat 0) old (Some body)
again law old tow_count sat bits body less has ok of is =
    subst (λ r. IsReadAs r old (Some body)) (sym (ap (λ (b : SubframeBits). subframe_of b.bytes sat 0) of ∙ law.read body tow_count sat 0 has less ok)) is

by_content : (law : WrittenIsRead) (raw old : SubframeRaw) (tow_count : ℕ) (sat : Satellite) (bits : SubframeBits) (content : Option SubframeOut)
    → content_in raw ≡ content → tow_count < 100800 → IsContent content → IsSubframeOf content tow_count bits → IsReadAs (subframe_of bits.bytes sat 0) old content
by_content law raw old tow_count sat bits None e less has of = absurd has
by_content law raw old tow_count sat bits (Some (Clock clock side wn)) e less has of = again law old tow_count sat bits (Clock clock side wn) less has tt of refl
by_content law raw old tow_count sat bits (Some (OrbitA orbit fit)) e less has of = again law old tow_count sat bits (OrbitA orbit fit) less has tt of refl
by_content law raw old tow_count sat bits (Some (OrbitB orbit)) e less has of = again law old tow_count sat bits (OrbitB orbit) less has tt of refl
by_content law raw old tow_count sat bits (Some (Ion ion)) e less has of = again law old tow_count sat bits (Ion ion) less has tt of refl
by_content law raw old tow_count sat bits (Some (Other number page)) e less has of =
    absurd (not_other (raw.number == 1) (raw.number == 2) (raw.number == 3) (raw.number == 4) _ _ _ _ _ _ _ number page e)

pub written_again : (law : WrittenIsRead) (raw old : SubframeRaw) (tow_count : ℕ) (sat : Satellite) (bits : SubframeBits) → tow_count < 100800
    → IsContent (content_in raw) → IsSubframeOf (content_in raw) tow_count bits → IsReadAs (subframe_of bits.bytes sat 0) old (content_in raw)
written_again law raw old tow_count sat bits = by_content law raw old tow_count sat bits (content_in raw) refl

-- ---- what is read

not_galileo : (sat : Satellite) (body : Body) → sat.system ≡ Gps → IsPart sat body → system_of body ≡ Gal → ⊥
not_galileo sat body gps part gal =
    let e : Gps ≡ Gal = sym gps ∙ part.system ∙ gal in
    cc

pub can_be_written : (sat : Satellite) (body : Body) (old : SubframeRaw) → sat.system ≡ Gps → IsPart sat body → HasBodyRanges body
    → IsContent (content_in (raw_subframe body old))
can_be_written sat (GpsClock clock side tag) old gps part has = (has.0, has.1, part.week)
can_be_written sat (GpsA orbit fit) old gps part has = has
can_be_written sat (GpsB orbit) old gps part has = has
can_be_written sat (GpsIon ion second) old gps part has = has
can_be_written sat (GalW1 w) old gps part has = absurd (not_galileo sat (GalW1 w) gps part refl)
can_be_written sat (GalW2 w) old gps part has = absurd (not_galileo sat (GalW2 w) gps part refl)
can_be_written sat (GalW3 w) old gps part has = absurd (not_galileo sat (GalW3 w) gps part refl)
can_be_written sat (GalW4 w) old gps part has = absurd (not_galileo sat (GalW4 w) gps part refl)
can_be_written sat (GalHealth health tag) old gps part has = absurd (not_galileo sat (GalHealth health tag) gps part refl)
can_be_written sat (GalIon ion wn second) old gps part has = absurd (not_galileo sat (GalIon ion wn second) gps part refl)
