-- What is sent in a slot, sent again every 30 s for two hours: of such lines no other parts are received than were sent.
use Rattle.std.proofs.Common.{◌≡◌, ℕ, zero, suc, ◌+◌, ◌*◌, ◌<◌, ◌≤◌, inl, inr, List, [], ◌∷◌, ◌++◌, refl, sym, ap, subst, ◌∙◌, arith}
use Rattle.nav_eph.specs.Satellite.{Satellite}
use Rattle.nav_eph.specs.declared.signal.Signal.TheVariants.{E1b}
use Rattle.nav_eph.specs.declared.part.Part.{Part}
use Rattle.nav_eph.specs.declared.items.GalEph.{GalEph}
use Rattle.nav_eph.specs.declared.items.NavItem.{NavItem}
use Rattle.nav_eph.specs.declared.items.NavItem.TheVariants.{Gps, Gal, Ion}
use Rattle.lnav_subframe.specs.declared.out.SubframeOut.{SubframeOut}
use Rattle.lnav_subframe.specs.declared.out.SubframeOut.TheVariants.{Clock, OrbitA, OrbitB}
use Rattle.lnav_subframe.specs.Bytes.{subframe_bytes}
use Rattle.inav.specs.Writing.{word1_bytes, word2_bytes, word3_bytes, word4_bytes, word5_bytes}
use Rattle.inav.specs.Pages.{bytes_of_half, even_of, odd_of}
use Rattle.capture_lines.specs.declared.item.LineItem.{LineItem}
use Rattle.capture_lines.specs.declared.item.LineItem.TheVariants.{Lnav, Half}
use Rattle.periods.proofs.Surface.{In}
use Rattle.sent_captures.specs.Slots.{count_of, galileo_items, galileo_second, galileo_week_number, gps_week_number, half_item, items_at, no_ionosphere, slot_stamp, subframe_item}
use Rattle.sent_captures.specs.Sendable.{slots_items}
use Rattle.nav_laws.specs.SentAgain.{IsSentAgain, delayed}
use Rattle.nav_laws.specs.SlotParts.{parts_at, slots_parts}
use Rattle.nav_laws.proofs.AppendLemmas.{In-append_cases, In-append_left, In-append_right}
use Rattle.nav_laws.proofs.Slots.{IsSent, stamps}
use Rattle.nav_laws.proofs.SentSlots.{AreApart, InSlots, MayBeSent, Sending, apart_weak, sendings_items, sendings_parts}
use Rattle.nav_laws.proofs.SlotPeriods.{body_at, part_with}

-- an item sent every 30 s from a stamp on, so many times
abbrev pub frames : ℕ → ℕ → NavItem → List Sending
frames s zero x = []
frames s (suc k) x = record { stamp = s; item = x } ∷ frames (s + 30) k x

-- the items of consecutive slots, each sent so many times
abbrev pub all_frames : ℕ → ℕ → List NavItem → List Sending
all_frames k slot [] = []
all_frames k slot (x ∷ xs) = frames (slot_stamp slot) k x ++ all_frames k (slot + 1) xs

in_frames : (n k s : ℕ) (x : NavItem) → n < k → In (frames s k x) (record { stamp = s + 30 * n; item = x })
in_frames n zero s x l = absurd (omega (arith, l))
in_frames zero (suc k) s x l = let at : s ≡ s + 30 * 0 = omega arith in inl (λ i. record { stamp = at i; item = x })
in_frames (suc n) (suc k) s x l =
    let at : s + 30 + 30 * n ≡ s + 30 * suc n = omega arith in
    inr (subst (λ (t : ℕ). In (frames (s + 30) k x) (record { stamp = t; item = x })) at (in_frames n k (s + 30) x (omega (arith, l))))

frames_of : (s k : ℕ) (x : NavItem) (z : Sending) → In (frames s k x) z → (z.item ≡ x) × (s ≤ z.stamp) × (z.stamp + 30 ≤ s + 30 * k)
frames_of s zero x z i = absurd i
frames_of s (suc k) x z (inl is) =
    let at = ap (λ (y : Sending). y.stamp) is in (ap (λ (y : Sending). y.item) (sym is), omega (arith, at), omega (arith, at))
frames_of s (suc k) x z (inr i) = let f = frames_of (s + 30) k x z i in let low = f.1 in let high = f.2 in (f.0, omega (arith, low), omega (arith, high))

frames_apart : (b s k : ℕ) (x : NavItem) (ys : List Sending) → b ≤ s → AreApart (s + 30 * k) ys → AreApart b (frames s k x ++ ys)
frames_apart b s zero x ys l h = apart_weak b (s + 30 * 0) ys (omega (arith, l)) h
frames_apart b s (suc k) x ys l h =
    let at : s + 30 * suc k ≡ s + 30 + 30 * k = omega arith in
    (l, frames_apart (s + 13) (s + 30) k x ys (omega arith) (subst (λ (t : ℕ). AreApart t ys) at h))

pub all_apart : (k slot : ℕ) (xs : List NavItem) → k ≤ 240 → AreApart (slot_stamp slot) (all_frames k slot xs)
all_apart k slot [] l = tt
all_apart k slot (x ∷ xs) l =
    frames_apart (slot_stamp slot) (slot_stamp slot) k x (all_frames k (slot + 1) xs) (omega arith)
    (apart_weak (slot_stamp slot + 30 * k) (slot_stamp (slot + 1)) (all_frames k (slot + 1) xs) (omega (arith, l)) (all_apart k (slot + 1) xs l))

frames_sent : (r s k : ℕ) (x : NavItem) (ys : List Sending) → IsSent r x → MayBeSent r ys → MayBeSent r (frames s k x ++ ys)
frames_sent r s zero x ys h rest = rest
frames_sent r s (suc k) x ys h rest = (h, frames_sent r (s + 30) k x ys h rest)

pub all_sent : (r k slot : ℕ) (xs : List NavItem) → InSlots r slot xs → MayBeSent r (all_frames k slot xs)
all_sent r k slot [] h = tt
all_sent r k slot (x ∷ xs) h = frames_sent r (slot_stamp slot) k x (all_frames k (slot + 1) xs) h.0 (all_sent r k (slot + 1) xs h.2)

-- ---- lines

sub_delayed : (t u d : ℕ) (sat : Satellite) (body : SubframeOut) (count : ℕ) → u ≡ t + d → subframe_item u sat body count ≡ delayed d (subframe_item t sat body count)
unfolding subframe_item
sub_delayed t u d sat body count e = ap (λ z. Lnav z sat (subframe_bytes body count)) e

half_delayed : (t u d : ℕ) (sat : Satellite) (half : ℕ) → u ≡ t + d → half_item u sat half ≡ delayed d (half_item t sat half)
unfolding half_item
half_delayed t u d sat half e = ap (λ z. Half z sat E1b (bytes_of_half half)) e

gal_delayed : (s d : ℕ) (e : GalEph) (item : LineItem) → In (galileo_items s e) item → In (galileo_items (s + d) e) (delayed d item)
gal_delayed s d e item i =
    let w1 = word1_bytes e.w1 in
    let w2 = word2_bytes e.w2 in
    let w3 = word3_bytes e.w3 in
    let w4 = word4_bytes e.w4 e.sat.number in
    let w5 = word5_bytes e.health no_ionosphere (galileo_week_number e) (galileo_second e) in
    let half : (t u h : ℕ) → u ≡ t + d → half_item t e.sat h ≡ item → half_item u e.sat h ≡ delayed d item =
    λ t u h at is. half_delayed t u d e.sat h at ∙ ap (delayed d) is in
    elim i [
      | inl is ↦ inl (half s (s + d) (even_of w1) refl is)
      | inr i ↦ elim i [
        | inl is ↦ inr (inl (half (s + 1) (s + d + 1) (odd_of w1) (omega arith) is))
        | inr i ↦ elim i [
          | inl is ↦ inr (inr (inl (half (s + 2) (s + d + 2) (even_of w2) (omega arith) is)))
          | inr i ↦ elim i [
            | inl is ↦ inr (inr (inr (inl (half (s + 2 + 1) (s + d + 2 + 1) (odd_of w2) (omega arith) is))))
            | inr i ↦ elim i [
              | inl is ↦ inr (inr (inr (inr (inl (half (s + 4) (s + d + 4) (even_of w3) (omega arith) is)))))
              | inr i ↦ elim i [
                | inl is ↦ inr (inr (inr (inr (inr (inl (half (s + 4 + 1) (s + d + 4 + 1) (odd_of w3) (omega arith) is))))))
                | inr i ↦ elim i [
                  | inl is ↦ inr (inr (inr (inr (inr (inr (inl (half (s + 6) (s + d + 6) (even_of w4) (omega arith) is)))))))
                  | inr i ↦ elim i [
                    | inl is ↦ inr (inr (inr (inr (inr (inr (inr (inl (half (s + 6 + 1) (s + d + 6 + 1) (odd_of w4) (omega arith) is))))))))
                    | inr i ↦ elim i [
                      | inl is ↦ inr (inr (inr (inr (inr (inr (inr (inr (inl (half (s + 8) (s + d + 8) (even_of w5) (omega arith) is)))))))))
                      | inr i ↦ elim i [
                        | inl is ↦ inr (inr (inr (inr (inr (inr (inr (inr (inr (inl (half (s + 8 + 1) (s + d + 8 + 1) (odd_of w5) (omega arith) is))))))))))
                        | inr i ↦ absurd i
                      ]
                    ]
                  ]
                ]
              ]
            ]
          ]
        ]
      ]
    ]

delayed_at : (s d : ℕ) (x : NavItem) (item : LineItem) → In (items_at s x) item → In (items_at (s + d) x) (delayed d item)
delayed_at s d (Gps e) item (inl is) =
    inl (sub_delayed s (s + d) d e.sat (Clock e.clock e.side (gps_week_number e)) (count_of e 1) refl ∙ ap (delayed d) is)
delayed_at s d (Gps e) item (inr (inl is)) =
    inr (inl (sub_delayed (s + 6) (s + d + 6) d e.sat (OrbitA e.a e.fit) (count_of e 2) (omega arith) ∙ ap (delayed d) is))
delayed_at s d (Gps e) item (inr (inr (inl is))) =
    inr (inr (inl (sub_delayed (s + 12) (s + d + 12) d e.sat (OrbitB e.b) (count_of e 3) (omega arith) ∙ ap (delayed d) is)))
delayed_at s d (Gps e) item (inr (inr (inr is))) = absurd is
delayed_at s d (Gal e) item i = gal_delayed s d e item i
delayed_at s d (Ion e) item i = absurd i

in_sendings : (xs : List Sending) (z : Sending) (item : LineItem) → In xs z → In (items_at z.stamp z.item) item → In (sendings_items xs) item
in_sendings [] z item i j = absurd i
in_sendings (x ∷ xs) z item (inl is) j =
    In-append_left (items_at x.stamp x.item) (sendings_items xs) item (subst (λ (y : Sending). In (items_at y.stamp y.item) item) (sym is) j)
in_sendings (x ∷ xs) z item (inr i) j = In-append_right (items_at x.stamp x.item) (sendings_items xs) item (in_sendings xs z item i j)

behind_sendings : (xs ys : List Sending) (item : LineItem) → In (sendings_items ys) item → In (sendings_items (xs ++ ys)) item
behind_sendings [] ys item i = i
behind_sendings (x ∷ xs) ys item i = In-append_right (items_at x.stamp x.item) (sendings_items (xs ++ ys)) item (behind_sendings xs ys item i)

pub repeats_in : (k n slot : ℕ) (xs : List NavItem) (item : LineItem) → n < k → In (slots_items slot xs) item
    → In (sendings_items (all_frames k slot xs)) (delayed (30 * n) item)
repeats_in k n slot [] item l i = absurd i
repeats_in k n slot (x ∷ xs) item l i =
    let s = slot_stamp slot in
    elim (In-append_cases (items_at s x) (slots_items (slot + 1) xs) item i) [
      | inl j ↦ in_sendings (frames s k x ++ all_frames k (slot + 1) xs) (record { stamp = s + 30 * n; item = x }) (delayed (30 * n) item)
          (In-append_left (frames s k x) (all_frames k (slot + 1) xs) (record { stamp = s + 30 * n; item = x }) (in_frames n k s x l)) (delayed_at s (30 * n) x item j)
      | inr j ↦ behind_sendings (frames s k x) (all_frames k (slot + 1) xs) (delayed (30 * n) item) (repeats_in k n (slot + 1) xs item l j)
    ]

-- ---- parts

parts_in : (xs : List Sending) (p : Part) → In (sendings_parts xs) p → (z : Sending) × In xs z × In (parts_at z.stamp z.item) p
parts_in [] p i = absurd i
parts_in (x ∷ xs) p i = elim (In-append_cases (parts_at x.stamp x.item) (sendings_parts xs) p i) [
  | inl j ↦ (x, inl refl, j)
  | inr j ↦ let f = parts_in xs p j in (f.0, inr f.1, f.2)
]

-- the slot of one of them
record IsOfSlot (slot : ℕ) (xs : List NavItem) (z : Sending) : Type 0 where
  number : ℕ
  low : slot_stamp number ≤ z.stamp
  high : z.stamp ≤ slot_stamp number + 7170
  parts : (q : Part) → In (parts_at (slot_stamp number) z.item) q → In (slots_parts slot xs) q

slot_of : (k slot : ℕ) (xs : List NavItem) (z : Sending) → k ≤ 240 → In (all_frames k slot xs) z → IsOfSlot slot xs z
slot_of k slot [] z l i = absurd i
slot_of k slot (x ∷ xs) z l i = elim (In-append_cases (frames (slot_stamp slot) k x) (all_frames k (slot + 1) xs) z i) [
  | inl j ↦
      let f = frames_of (slot_stamp slot) k x z j in
      let high = f.2 in
      record {
        number = slot;
        low = f.1;
        high = omega (arith, high, l);
        parts = λ q m. In-append_left (parts_at (slot_stamp slot) x) (slots_parts (slot + 1) xs) q
            (subst (λ (y : NavItem). In (parts_at (slot_stamp slot) y) q) f.0 m);
      }
  | inr j ↦
      let f = slot_of k (slot + 1) xs z l j in
      record { number = f.number; low = f.low; high = f.high; parts = λ q m. In-append_right (parts_at (slot_stamp slot) x) (slots_parts (slot + 1) xs) q (f.parts q m) }
]

-- a part of a repeat is one of the slot's, sent again
pub repeated_part : (k : ℕ) (xs : List NavItem) (p : Part) → k ≤ 240 → In (sendings_parts (all_frames k 0 xs)) p
    → (q : Part) × In (slots_parts 0 xs) q × IsSentAgain p q
repeated_part k xs p l i =
    let f = parts_in (all_frames k 0 xs) p i in
    let z = f.0 in
    let slot = slot_of k 0 xs z l f.1 in
    let b = body_at z.stamp z.item p f.2 in
    let q = part_with (slot_stamp slot.number) z.item p.body b.1 in
    let at = stamps z.stamp z.item p f.2 in
    let at_first = stamps (slot_stamp slot.number) z.item q.0 q.1 in
    let begun = at.0 in
    let ended = at.1 in
    let few = at_first.1 in (
      q.0,
      slot.parts q.0 q.1,
      record {
        sat = b.0 ∙ sym (body_at (slot_stamp slot.number) z.item q.0 q.1).0;
        body = sym q.2;
        slot = slot.number;
        sent_in = record { begun = at_first.0; near = omega (arith, few) };
        again_in = record { begun = omega (arith, begun, slot.low); near = omega (arith, ended, slot.high) };
      },
    )
