-- The items that may be sent in a slot: their keys, weeks and stamps.
use Rattle.std.proofs.Common.{◌≡◌, ℕ, ◌+◌, ◌*◌, ◌%◌, ◌<◌, ◌≤◌, inl, inr, pos, ◌-ℤ◌, Option, None, Some, refl, sym, ap, ◌∙◌, arith}
use Rattle.std.proofs.lemmas.Int.{ints}
use Rattle.nav_eph.specs.Weeks.{IsNearGalileo, IsNearGps, week_of}
use Rattle.nav_eph.specs.Functions.{moment_near}
use Rattle.nav_eph.proofs.Surface.{moment_near-only}
use Rattle.nav_eph.specs.Items.{galileo_toe_moment}
use Rattle.nav_eph.specs.Ranges.{IsGalItem, IsGpsItem}
use Rattle.nav_eph.specs.declared.ion.IonContent.TheVariants.{Gal as OfGal}
use Rattle.nav_eph.specs.declared.part.Part.{Part}
use Rattle.nav_eph.specs.declared.items.SentSecond.TheVariants.{At}
use Rattle.nav_eph.specs.declared.items.GpsEph.{GpsEph}
use Rattle.nav_eph.specs.declared.items.GalEph.{GalEph}
use Rattle.nav_eph.specs.declared.items.NavItem.{NavItem}
use Rattle.nav_eph.specs.declared.items.NavItem.TheVariants.{Gps as GpsItem, Gal as GalItem, Ion as IonItem}
use Rattle.periods.proofs.Surface.{In}
use Rattle.periods.specs.declared.key.PeriodKey.{PeriodKey}
use Rattle.periods.specs.declared.key.PeriodKey.TheVariants.{Gps, Gal, GalIon}
use Rattle.sent_captures.specs.Slots.{no_ionosphere}
use Rattle.nav_laws.specs.SlotParts.{parts_at}

-- the GPS time with the second of week `toe` that is nearest to the transmission time
near_is : (week sent toe : ℕ) → toe < 604800 → sent ≤ toe → toe < sent + 6 → moment_near (604800 * week + sent) toe ≡ 604800 * week + toe
near_is week sent toe small low high =
    sym (moment_near-only (604800 * week + sent) toe (604800 * week + toe) (record { second_is = omega arith; from = omega arith; to = omega arith }))

pub toe_week_is : (week sent toe : ℕ) → toe < 604800 → sent ≤ toe → toe < sent + 6 → week ≡ week_of (moment_near (604800 * week + sent) toe)
toe_week_is week sent toe small low high =
    let e : week ≡ week_of (604800 * week + toe) = omega arith in
    e ∙ ap week_of (sym (near_is week sent toe small low high))

pub sent_is : (week sent : ℕ) → At (pos sent) ≡ At (pos (604800 * week + sent) -ℤ pos (604800 * week))
sent_is week sent = let e : pos sent ≡ pos (604800 * week + sent) -ℤ pos (604800 * week) = omega (arith, ints) in ap At e

abbrev pub gps_key : GpsEph → PeriodKey
gps_key e = Gps e.sat e.a.iode

-- the ephemeris of GPS may be sent
pub record IsSentGps (r : ℕ) (e : GpsEph) : Type 0 where
  pub item : IsGpsItem e
  pub issue : e.clock.iodc % 256 ≡ e.a.iode
  pub near : IsNearGps r e.toe_week

abbrev pub gal_key : GalEph → PeriodKey
gal_key e = Gal e.sat e.w1.iodnav

abbrev pub ion_key : PeriodKey
ion_key = GalIon no_ionosphere

-- the ionosphere that is sent
abbrev pub ion_item : GalEph → NavItem
ion_item e = IonItem (record { sat = e.sat; moment = galileo_toe_moment e; content = OfGal no_ionosphere })

-- the ephemeris of Galileo may be sent
pub record IsSentGal (r : ℕ) (e : GalEph) : Type 0 where
  pub item : IsGalItem e
  pub near : IsNearGalileo r e.toe_week

-- the item may be transmitted, for the reference week r
abbrev pub IsSent : ℕ → NavItem → Type 0
IsSent r (GpsItem e) = IsSentGps r e
IsSent r (GalItem e) = IsSentGal r e
IsSent r (IonItem e) = ⊥

-- its key
abbrev pub key_of_item : NavItem → Option PeriodKey
key_of_item (GpsItem e) = Some (gps_key e)
key_of_item (GalItem e) = Some (gal_key e)
key_of_item (IonItem e) = None

stamp_at : (s n : ℕ) (p q : Part) → p ≡ q → p.stamp ≡ s + n → n ≤ 12 → (s ≤ q.stamp) × (q.stamp ≤ s + 12)
stamp_at s n p q is at few = let e = ap (λ (x : Part). x.stamp) is in (omega (arith, e, at, few), omega (arith, e, at, few))

pub stamps : (s : ℕ) (x : NavItem) (p : Part) → In (parts_at s x) p → (s ≤ p.stamp) × (p.stamp ≤ s + 12)
stamps s (GpsItem e) p (inl is) = stamp_at s 0 _ p is (omega arith) (omega arith)
stamps s (GpsItem e) p (inr (inl is)) = stamp_at s 6 _ p is refl (omega arith)
stamps s (GpsItem e) p (inr (inr (inl is))) = stamp_at s 12 _ p is refl (omega arith)
stamps s (GpsItem e) p (inr (inr (inr is))) = absurd is
stamps s (GalItem e) p (inl is) = stamp_at s 1 _ p is refl (omega arith)
stamps s (GalItem e) p (inr (inl is)) = stamp_at s 3 _ p is refl (omega arith)
stamps s (GalItem e) p (inr (inr (inl is))) = stamp_at s 5 _ p is refl (omega arith)
stamps s (GalItem e) p (inr (inr (inr (inl is)))) = stamp_at s 7 _ p is refl (omega arith)
stamps s (GalItem e) p (inr (inr (inr (inr (inl is))))) = stamp_at s 9 _ p is refl (omega arith)
stamps s (GalItem e) p (inr (inr (inr (inr (inr (inl is)))))) = stamp_at s 9 _ p is refl (omega arith)
stamps s (GalItem e) p (inr (inr (inr (inr (inr (inr is)))))) = absurd is
stamps s (IonItem e) p is = absurd is
