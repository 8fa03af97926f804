-- The items that may be sent: each has its slot, its parts are values, and its lines are spelt.
use Rattle.std.proofs.Common.{◌≡◌, ℕ, ◌+◌, ◌%◌, ◌^◌, ◌<◌, inl, inr, Bool, true, false, not, nat_eq, if◌then◌else◌, List, [], ◌∷◌, All, refl, subst, arith, eqb-true, leb-false}
use Rattle.std.proofs.lemmas.Bool.{and_parts}
use Rattle.std.proofs.lemmas.List.Elements.{All-head, All-tail}
use Rattle.nav_bits.proofs.Surface.{are_bytes}
use Rattle.nav_eph.specs.Functions.{near_galileo, near_gps}
use Rattle.nav_eph.proofs.Surface.{near_galileo-decides, near_gps-decides}
use Rattle.nav_eph.specs.Satellite.{Satellite}
use Rattle.nav_eph.specs.Ranges.{IsItem}
use Rattle.nav_eph.specs.Values.{IsPartValue}
use Rattle.nav_eph.specs.declared.sat.System.TheVariants.{Gal as OfGalileo, Gps as OfGps}
use Rattle.nav_eph.specs.declared.part.Part.{Part}
use Rattle.nav_eph.specs.declared.items.NavItem.{NavItem}
use Rattle.nav_eph.specs.declared.items.NavItem.TheVariants.{Gps, Gal, Ion}
use Rattle.nav_eph.specs.Satellite.{IsSat}
use Rattle.lnav_subframe.specs.declared.out.SubframeOut.{SubframeOut}
use Rattle.lnav_subframe.specs.declared.out.SubframeOut.TheVariants.{Clock, OrbitA, OrbitB}
use Rattle.lnav_subframe.specs.Bytes.{subframe_bytes}
use Rattle.inav.specs.Writing.{word1_bytes, word2_bytes, word3_bytes, word4_bytes, word5_bytes}
use Rattle.inav.specs.Pages.{bytes_of_half, even_of, odd_of}
use Rattle.nav_eph.specs.declared.signal.Signal.TheVariants.{E1b}
use Rattle.periods.proofs.Surface.{In}
use Rattle.nav_laws.proofs.AppendLemmas.{In-append_cases}
use Rattle.sent_captures.specs.Slots.{count_of, galileo_second, galileo_week_number, gps_week_number, half_item, items_at, no_ionosphere, slot_stamp, subframe_item}
use Rattle.sent_captures.specs.Sendable.{first_fault, has_other_issue, is_far, is_full, is_sent, no_fault, sendable, slots_items}
use Rattle.nav_laws.specs.SlotParts.{parts_at, slots_parts}
use Rattle.nav_laws.proofs.Slots.{IsSent}
use Rattle.nav_laws.proofs.SentTexts.{AreSpelt, IsSpelt, spelt_append}
use Rattle.nav_laws.proofs.SentSlots.{InSlots, ReadLaws, no_ion, second_low, week_low}
use Rattle.nav_laws.proofs.Circle.{AreSent}

first_none : (a b c : Bool) → no_fault (first_fault a b c) ≡ true → (a ≡ false) × (b ≡ false) × (c ≡ false)
first_none true b c e = absurd cc
first_none false true c e = absurd cc
first_none false false true e = absurd cc
first_none false false false e = (refl, refl, refl)

not_false : (t : Bool) → not t ≡ false → t ≡ true
not_false true e = refl
not_false false e = absurd cc

may_be_sent : (r slot : ℕ) (x : NavItem) → IsItem x → is_sent r x slot ≡ true → IsSent r x × (slot < 198842)
may_be_sent r slot (Gps e) item is =
    let f = first_none (has_other_issue (Gps e)) (is_far r (Gps e)) (is_full slot) (and_parts true (no_fault (first_fault (has_other_issue (Gps e)) (is_far r (Gps e)) (is_full slot))) is).1 in (
      record {
        item = item;
        issue = eqb-true (e.clock.iodc % 256) e.a.iode (not_false (nat_eq (e.clock.iodc % 256) e.a.iode) f.0);
        near = (near_gps-decides r e.toe_week).0 (not_false (near_gps r e.toe_week) f.1);
      },
      leb-false 198842 slot f.2,
    )
may_be_sent r slot (Gal e) item is =
    let f = first_none (has_other_issue (Gal e)) (is_far r (Gal e)) (is_full slot) (and_parts true (no_fault (first_fault (has_other_issue (Gal e)) (is_far r (Gal e)) (is_full slot))) is).1 in (
      record {
        item = item;
        near = (near_galileo-decides r e.toe_week).0 (not_false (near_galileo r e.toe_week) f.1);
      },
      leb-false 198842 slot f.2,
    )
may_be_sent r slot (Ion e) item is = absurd cc

pub in_slots : (r slot : ℕ) (items : List NavItem) → All IsItem items → InSlots r slot (sendable r slot items)
in_slots r slot [] all = tt
in_slots r slot (x ∷ xs) all =
    by (is_sent r x slot) refl (in_slots r (slot + 1) xs (All-tail IsItem x xs all)) (in_slots r slot xs (All-tail IsItem x xs all))
  where
    by : (t : Bool) → is_sent r x slot ≡ t → InSlots r (slot + 1) (sendable r (slot + 1) xs) → InSlots r slot (sendable r slot xs)
        → InSlots r slot (if t then x ∷ sendable r (slot + 1) xs else sendable r slot xs)
    by true is sent kept = let h = may_be_sent r slot x (All-head IsItem x xs all) is in (h.0, h.1, sent)
    by false is sent kept = kept

pub are_sent : (r slot : ℕ) (xs : List NavItem) → InSlots r slot xs → AreSent r xs
are_sent r slot [] h = tt
are_sent r slot (x ∷ xs) h = (h.0, are_sent r (slot + 1) xs h.2)

-- ---- values

value_at : (r s : ℕ) (x : NavItem) (p : Part) → IsSent r x → s + 12 < 2 ^ 32 → In (parts_at s x) p → IsPartValue p
value_at r s (Gps e) p h fits (inl is) =
    subst IsPartValue is (record { stamp = omega (arith, fits); body = (h.item.ranges.side, (omega arith, omega (arith, h.item.ranges.a.toe))) })
value_at r s (Gps e) p h fits (inr (inl is)) = subst IsPartValue is (record { stamp = omega (arith, fits); body = tt })
value_at r s (Gps e) p h fits (inr (inr (inl is))) = subst IsPartValue is (record { stamp = omega (arith, fits); body = tt })
value_at r s (Gps e) p h fits (inr (inr (inr is))) = absurd is
value_at r s (Gal e) p h fits (inl is) = subst IsPartValue is (record { stamp = omega (arith, fits); body = tt })
value_at r s (Gal e) p h fits (inr (inl is)) = subst IsPartValue is (record { stamp = omega (arith, fits); body = tt })
value_at r s (Gal e) p h fits (inr (inr (inl is))) = subst IsPartValue is (record { stamp = omega (arith, fits); body = tt })
value_at r s (Gal e) p h fits (inr (inr (inr (inl is)))) = subst IsPartValue is (record { stamp = omega (arith, fits); body = tt })
value_at r s (Gal e) p h fits (inr (inr (inr (inr (inl is))))) =
    subst IsPartValue is (record { stamp = omega (arith, fits); body = (h.item.ranges.health, (omega (arith, week_low e), second_low r e h)) })
value_at r s (Gal e) p h fits (inr (inr (inr (inr (inr (inl is)))))) =
    subst IsPartValue is (record { stamp = omega (arith, fits); body = (no_ion, second_low r e h) })
value_at r s (Gal e) p h fits (inr (inr (inr (inr (inr (inr is)))))) = absurd is
value_at r s (Ion e) p h fits is = absurd is

pub values_in : (r slot : ℕ) (xs : List NavItem) (p : Part) → InSlots r slot xs → In (slots_parts slot xs) p → IsPartValue p
values_in r slot [] p h i = absurd i
values_in r slot (x ∷ xs) p h i = elim (In-append_cases (parts_at (slot_stamp slot) x) (slots_parts (slot + 1) xs) p i) [
  | inl j ↦ let low = h.1 in value_at r (slot_stamp slot) x p h.0 (omega (arith, low)) j
  | inr j ↦ values_in r (slot + 1) xs p h.2 j
]

-- ---- lines

sub_spelt : (laws : ReadLaws) (t : ℕ) (sat : Satellite) (body : SubframeOut) (count : ℕ) → t < 2 ^ 32 → sat.system ≡ OfGps → IsSat sat.system sat.number
    → IsSpelt (subframe_item t sat body count)
unfolding subframe_item
sub_spelt laws t sat body count fits system number =
    let size = laws.sub_bytes body count in laws.lnav t sat (subframe_bytes body count) fits system number size.fit size.count_is

half_spelt : (laws : ReadLaws) (t : ℕ) (sat : Satellite) (half : ℕ) → t < 2 ^ 32 → sat.system ≡ OfGalileo → IsSat sat.system sat.number
    → IsSpelt (half_item t sat half)
unfolding half_item
half_spelt laws t sat half fits system number =
    let size = are_bytes 15 half in laws.half t sat E1b (bytes_of_half half) fits system number size.fit size.count_is

spelt_at : (laws : ReadLaws) (r s : ℕ) (x : NavItem) → IsSent r x → s + 12 < 2 ^ 32 → AreSpelt (items_at s x)
spelt_at laws r s (Gps e) h fits =
    let line : (t : ℕ) (body : SubframeOut) (count : ℕ) → t < 2 ^ 32 → IsSpelt (subframe_item t e.sat body count) =
    λ t body count low. sub_spelt laws t e.sat body count low h.item.whole.system h.item.ranges.sat in (
      line s (Clock e.clock e.side (gps_week_number e)) (count_of e 1) (omega (arith, fits)),
      (line (s + 6) (OrbitA e.a e.fit) (count_of e 2) (omega (arith, fits)), (line (s + 12) (OrbitB e.b) (count_of e 3) (omega (arith, fits)), tt)),
    )
spelt_at laws r s (Gal e) h fits =
    let line : (t half : ℕ) → t < 2 ^ 32 → IsSpelt (half_item t e.sat half) = λ t half low. half_spelt laws t e.sat half low h.item.whole.system h.item.ranges.sat in
    let w1 = word1_bytes e.w1 in
    let w2 = word2_bytes e.w2 in
    let w3 = word3_bytes e.w3 in
    let w4 = word4_bytes e.w4 e.sat.number in
    let w5 = word5_bytes e.health no_ionosphere (galileo_week_number e) (galileo_second e) in (
      line s (even_of w1) (omega (arith, fits)),
      (
        line (s + 1) (odd_of w1) (omega (arith, fits)),
        (
          line (s + 2) (even_of w2) (omega (arith, fits)),
          (
            line (s + 2 + 1) (odd_of w2) (omega (arith, fits)),
            (
              line (s + 4) (even_of w3) (omega (arith, fits)),
              (
                line (s + 4 + 1) (odd_of w3) (omega (arith, fits)),
                (
                  line (s + 6) (even_of w4) (omega (arith, fits)),
                  (
                    line (s + 6 + 1) (odd_of w4) (omega (arith, fits)),
                    (line (s + 8) (even_of w5) (omega (arith, fits)), (line (s + 8 + 1) (odd_of w5) (omega (arith, fits)), tt)),
                  ),
                ),
              ),
            ),
          ),
        ),
      ),
    )
spelt_at laws r s (Ion e) h fits = absurd h

pub slots_spelt : (laws : ReadLaws) (r slot : ℕ) (xs : List NavItem) → InSlots r slot xs → AreSpelt (slots_items slot xs)
slots_spelt laws r slot [] h = tt
slots_spelt laws r slot (x ∷ xs) h =
    let low = h.1 in
    spelt_append (items_at (slot_stamp slot) x) (slots_items (slot + 1) xs) (spelt_at laws r (slot_stamp slot) x h.0 (omega (arith, low))) (slots_spelt laws r (slot + 1) xs h.2)
