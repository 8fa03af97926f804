use Rattle.std.proofs.Common.{◌≡◌, ◌↔◌, ℕ, List, All, Contains, Some, sym, subst, ap, ◌∙◌}
use Rattle.std.proofs.lemmas.List.Elements.{All-contains}
use Rattle.nav_io.specs.Lines.{Line}
use Rattle.nav_eph.specs.Ranges.{IsItem}
use Rattle.nav_eph.specs.Values.{IsPartValue}
use Rattle.nav_eph.specs.declared.part.Part.{Part}
use Rattle.nav_eph.specs.declared.items.NavItem.{NavItem}
use Rattle.capture_lines.specs.Late.{IsAccepted, stamp_of}
use Rattle.capture_lines.specs.declared.item.LineItem.{LineItem}
use Rattle.periods.proofs.Surface.{In-from_contains, contains_from_In}
use Rattle.periods.specs.PeriodLists.{items_in}
use Rattle.periods.specs.PeriodsOf.{periods_of}
use Rattle.capture_log.specs.Received.{IsPartReceived, NoneLate, SameItems}
use Rattle.capture_log.specs.Log.{line_items_of, parts_of}
use Rattle.sent_captures.specs.Sendable.{sendable, sent_lines, slots_items}
use Rattle.sent_captures.specs.SentItems.{sent_items}
use Rattle.nav_laws.specs.SentAgain.{AreRepeats, AreSentAgain, AreTurned, IsReceivedAgain, IsSentAgain, SameByType}
use Rattle.nav_laws.specs.SentCapture.{IsOfLines, IsStillReceived, sent_capture}
use Rattle.nav_laws.specs.SlotParts.{slots_parts}
use Rattle.nav_laws.proofs.Fewer.{heard_to}
use Rattle.nav_laws.proofs.Received.{accepted, accepted_in}
use Rattle.nav_laws.proofs.SentSlots.{slots_order}
use Rattle.nav_laws.proofs.Sendable.{are_sent, in_slots}
use Rattle.nav_laws.proofs.Circle.{again_comes_back, in_order_comes_back}
use Rattle.nav_laws.proofs.laws.what_is_sent_comes_back.Goals as goal

-- what the laws say
record Laws : Type 0 where
  order : (r window : ℕ) (some other : List Part) → All IsPartValue some → ((p : Part) → Contains some p ↔ Contains other p)
      → periods_of r window some ≡ periods_of r window other
  values : (window : ℕ) (lines : List Line) → All IsPartValue (parts_of window lines)
  heard : (window : ℕ) (lines : List Line) (part : Part) → Contains (parts_of window lines) part ↔ IsPartReceived window (line_items_of lines) part
  back : (r : ℕ) (items : List NavItem) → All IsItem items → items_in (periods_of r 7200 (slots_parts 0 (sendable r 0 items))) ≡ sent_items r items
  items : (r : ℕ) (items : List NavItem) → All IsItem items → line_items_of (sent_capture r items) ≡ sent_lines r items
  parts : (r : ℕ) (items : List NavItem) (part : Part) → All IsItem items
      → Contains (parts_of 7200 (sent_capture r items)) part ↔ Contains (slots_parts 0 (sendable r 0 items)) part
  repeats : (r : ℕ) (items : List NavItem) (lines : List Line) (part : Part) → All IsItem items → AreRepeats lines (sent_capture r items)
      → Contains (parts_of 7200 lines) part → (sent : Part) × Contains (parts_of 7200 (sent_capture r items)) sent × IsSentAgain part sent

by_parts : (laws : Laws) (r : ℕ) (items : List NavItem) (lines : List Line) → All IsItem items
    → ((part : Part) → Contains (parts_of 7200 lines) part ↔ Contains (parts_of 7200 (sent_capture r items)) part)
    → items_in (periods_of r 7200 (parts_of 7200 lines)) ≡ sent_items r items
by_parts laws r items lines all same =
    ap items_in (laws.order r 7200 (parts_of 7200 lines) (slots_parts 0 (sendable r 0 items)) (laws.values 7200 lines) (λ p. (
      λ i. (laws.parts r items p all).0 ((same p).0 i),
      λ i. (same p).1 ((laws.parts r items p all).1 i),
    )))
    ∙ laws.back r items all

-- a line of what is sent is accepted there
accepted_there : (laws : Laws) (r : ℕ) (items : List NavItem) (item : LineItem) (s : ℕ) → All IsItem items → stamp_of item ≡ Some s
    → Contains (line_items_of (sent_capture r items)) item → IsAccepted 7200 (line_items_of (sent_capture r items)) item
accepted_there laws r items item s all stamp i =
    let same = laws.items r items all in
    let lines = slots_items 0 (sendable r 0 items) in
    subst (λ (l : List LineItem). IsAccepted 7200 l item) (sym same)
    (accepted 7200 0 s lines item (slots_order 0 (sendable r 0 items)) (In-from_contains lines item (subst (λ (l : List LineItem). Contains l item) same i)) stamp)

no_more : (laws : Laws) (r : ℕ) (items : List NavItem) (lines : List Line) (part : Part) → All IsItem items → IsOfLines lines (sent_capture r items)
    → Contains (parts_of 7200 lines) part → Contains (parts_of 7200 (sent_capture r items)) part
no_more laws r items lines part all of i =
    (laws.heard 7200 (sent_capture r items) part).1
    (heard_to 7200 (line_items_of lines) (line_items_of (sent_capture r items)) part
    (λ item h. accepted_there laws r items item h.stamp all h.stamp_is
    (of item h.stamp h.stamp_is (contains_from_In (line_items_of lines) item (accepted_in 7200 (line_items_of lines) item h))))
    ((laws.heard 7200 lines part).0 i))

by_loss : (laws : Laws) (r : ℕ) (items : List NavItem) (lines : List Line) → All IsItem items
    → IsOfLines lines (sent_capture r items) → IsStillReceived (sent_capture r items) lines
    → items_in (periods_of r 7200 (parts_of 7200 lines)) ≡ sent_items r items
by_loss laws r items lines all of still =
    by_parts laws r items lines all (λ part. (λ i. no_more laws r items lines part all of i, λ i. still part i))

by_turning : (laws : Laws) (r : ℕ) (items : List NavItem) (lines : List Line) → All IsItem items
    → SameItems (line_items_of lines) (line_items_of (sent_capture r items)) → NoneLate 7200 (line_items_of lines)
    → items_in (periods_of r 7200 (parts_of 7200 lines)) ≡ sent_items r items
by_turning laws r items lines all same none =
    by_loss laws r items lines all (λ item s stamp i. (same item s stamp).0 i) (λ part i.
    (laws.heard 7200 lines part).1
    (heard_to 7200 (line_items_of (sent_capture r items)) (line_items_of lines) part
    (λ item h. none item h.stamp h.stamp_is ((same item h.stamp h.stamp_is).1
    (contains_from_In (line_items_of (sent_capture r items)) item (accepted_in 7200 (line_items_of (sent_capture r items)) item h))))
    ((laws.heard 7200 (sent_capture r items) part).0 i)))

-- of the slots
of_slots : (laws : Laws) (r : ℕ) (items : List NavItem) (lines : List Line) → All IsItem items
    → AreSentAgain (parts_of 7200 lines) (parts_of 7200 (sent_capture r items)) → AreSentAgain (parts_of 7200 lines) (slots_parts 0 (sendable r 0 items))
of_slots laws r items lines all again = record {
  each = λ p i. let f = again.each p i in (f.0, (laws.parts r items f.0 all).0 f.1, f.2);
  every = λ q i. again.every q ((laws.parts r items q all).1 i);
}

part_value : (laws : Laws) (lines : List Line) (p : Part) → Contains (parts_of 7200 lines) p → IsPartValue p
part_value laws lines p i = All-contains IsPartValue (parts_of 7200 lines) p (laws.values 7200 lines) i

by_again : (laws : Laws) (r : ℕ) (items : List NavItem) (lines : List Line) → All IsItem items
    → AreSentAgain (parts_of 7200 lines) (parts_of 7200 (sent_capture r items))
    → SameByType (items_in (periods_of r 7200 (parts_of 7200 lines))) (sent_items r items)
unfolding sent_items
by_again laws r items lines all again =
    let xs = sendable r 0 items in
    again_comes_back r xs (parts_of 7200 lines) (part_value laws lines) (are_sent r 0 xs (in_slots r 0 items all)) (of_slots laws r items lines all again)

by_order : (laws : Laws) (r : ℕ) (items : List NavItem) (lines : List Line) → All IsItem items
    → AreSentAgain (parts_of 7200 lines) (parts_of 7200 (sent_capture r items)) → (AreTurned (parts_of 7200 lines) → ⊥)
    → items_in (periods_of r 7200 (parts_of 7200 lines)) ≡ sent_items r items
unfolding sent_items
by_order laws r items lines all again never =
    let xs = sendable r 0 items in
    in_order_comes_back r xs (parts_of 7200 lines) (part_value laws lines) (are_sent r 0 xs (in_slots r 0 items all)) (of_slots laws r items lines all again) never

by_repeats : (laws : Laws) (r : ℕ) (items : List NavItem) (lines : List Line) → All IsItem items → AreRepeats lines (sent_capture r items)
    → IsReceivedAgain (sent_capture r items) lines → SameByType (items_in (periods_of r 7200 (parts_of 7200 lines))) (sent_items r items)
by_repeats laws r items lines all repeats heard =
    by_again laws r items lines all (record { each = λ p i. laws.repeats r items lines p all repeats i; every = heard })

pub returns : goal.returns
returns c =
    let laws : Laws = record {
      order = c.order_does_not_matter.ensures;
      values = c.parts_of_lines_are_values.ensures;
      heard = c.lines_yield_what_is_received.ensures.parts;
      back = c.parts_of_slots_come_back.ensures;
      items = c.what_is_sent_is_received.ensures.items;
      parts = c.what_is_sent_is_received.ensures.parts;
      repeats = c.what_is_sent_is_received.ensures.repeats;
    } in
    record {
      itself = λ r items all. by_parts laws r items (sent_capture r items) all (λ part. (λ i. i, λ i. i));
      parts = λ r items lines all same. by_parts laws r items lines all same;
      lost = λ r items lines all of still. by_loss laws r items lines all of still;
      reordered = λ r items lines all same none. by_turning laws r items lines all same none;
      again = λ r items lines all again. by_again laws r items lines all again;
      in_order = λ r items lines all again never. by_order laws r items lines all again never;
      repeated = λ r items lines all repeats heard. by_repeats laws r items lines all repeats heard;
    }
