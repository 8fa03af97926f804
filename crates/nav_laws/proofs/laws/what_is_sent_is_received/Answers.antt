use Rattle.std.proofs.Common.{◌≡◌, ◌∷◌, ◌↔◌, ℕ, false, List, All, Contains, Some, None, codes, refl, sym, subst, ap, ◌∙◌, drop, arith}
use Rattle.nav_io.specs.Lines.{IsOneLine, Line, lines_by}
use Rattle.nav_eph.specs.Ranges.{IsItem}
use Rattle.nav_eph.specs.declared.part.Part.{Part}
use Rattle.nav_eph.specs.declared.items.NavItem.{NavItem}
use Rattle.capture_lines.specs.Heads.{head_of, plain_head}
use Rattle.capture_lines.specs.Late.{IsAccepted}
use Rattle.capture_lines.specs.declared.item.LineItem.{LineItem}
use Rattle.inav.specs.Writing.{word1_bytes, word2_bytes, word3_bytes, word4_bytes, word5_bytes}
use Rattle.periods.proofs.Surface.{In, In-from_contains, contains_from_In}
use Rattle.capture_log.specs.Received.{IsPartReceived}
use Rattle.capture_log.specs.Log.{line_items_of, parts_of}
use Rattle.sent_captures.specs.Slots.{text_of_items}
use Rattle.sent_captures.specs.Sendable.{sendable, sent_lines, sent_text, slots_items}
use Rattle.nav_laws.specs.SentAgain.{AreRepeats, IsSentAgain}
use Rattle.nav_laws.specs.SentCapture.{sent_capture}
use Rattle.nav_laws.specs.SlotParts.{slots_parts}
use Rattle.nav_laws.proofs.SentTexts.{LineLaws, sent_lines_are}
use Rattle.nav_laws.proofs.Received.{PageLaws, accepted, accepted_in}
use Rattle.nav_laws.proofs.SentSlots.{ReadLaws, sendings_are_heard, sendings_items, sendings_order, slots_are_heard}
use Rattle.nav_laws.proofs.Sendable.{in_slots, slots_spelt}
use Rattle.nav_laws.proofs.Fewer.{heard_to}
use Rattle.nav_laws.proofs.Repeats.{all_apart, all_frames, all_sent, repeated_part, repeats_in}
use Rattle.nav_laws.proofs.laws.what_is_sent_is_received.Goals as goal

head_is : (laws : LineLaws) (r : ℕ) (items : List NavItem) → lines_by false (sent_text r items) ≡ record { text = plain_head; long = false } ∷ sent_capture r items
unfolding sent_text
head_is laws r items =
    let whole : IsOneLine (codes "NAVCAP 1") = record { none = refl; last = refl; short = omega arith } in
    let given = laws.given false (codes "NAVCAP 1") (text_of_items (sent_lines r items)) whole in
    given ∙ ap (λ l. record { text = plain_head; long = false } ∷ drop 1 l) (sym given)

window_is : head_of plain_head ≡ Some (record { window = 7200; week = None })
unfolding head_of
window_is = refl

items_are : (lines : LineLaws) (reads : ReadLaws) (r : ℕ) (items : List NavItem) → All IsItem items → line_items_of (sent_capture r items) ≡ sent_lines r items
items_are lines reads r items all = sent_lines_are lines r items (slots_spelt reads r 0 (sendable r 0 items) (in_slots r 0 items all))

parts_are : (lines : LineLaws) (reads : ReadLaws) (pages : PageLaws)
    → ((window : ℕ) (lines : List Line) (part : Part) → Contains (parts_of window lines) part ↔ IsPartReceived window (line_items_of lines) part)
    → (r : ℕ) (items : List NavItem) (part : Part) → All IsItem items
    → Contains (parts_of 7200 (sent_capture r items)) part ↔ Contains (slots_parts 0 (sendable r 0 items)) part
parts_are lines reads pages heard r items part all =
    let xs = sendable r 0 items in
    let same = items_are lines reads r items all in
    let slots = slots_are_heard reads pages r 7200 0 xs part (in_slots r 0 items all) in (
      λ i. contains_from_In (slots_parts 0 xs) part (slots.0 (subst (λ (l : List LineItem). IsPartReceived 7200 l part) same ((heard 7200 (sent_capture r items) part).0 i))),
      λ i. (heard 7200 (sent_capture r items) part).1
          (subst (λ (l : List LineItem). IsPartReceived 7200 l part) (sym same) (slots.1 (In-from_contains (slots_parts 0 xs) part i))),
    )

-- a line of a repeat is accepted among all repeats
accepted_repeat : (r : ℕ) (items : List NavItem) (lines : List Line) (item : LineItem) → line_items_of (sent_capture r items) ≡ sent_lines r items
    → AreRepeats lines (sent_capture r items) → IsAccepted 7200 (line_items_of lines) item
    → IsAccepted 7200 (sendings_items (all_frames 240 0 (sendable r 0 items))) item
accepted_repeat r items lines item same repeats h =
    let xs = sendable r 0 items in
    let all = all_frames 240 0 xs in
    let f = repeats item h.stamp h.stamp_is (contains_from_In (line_items_of lines) item (accepted_in 7200 (line_items_of lines) item h)) in
    let there : Contains (slots_items 0 xs) f.0 = subst (λ (l : List LineItem). Contains l f.0) same f.1 in
    let here = repeats_in 240 f.2.number 0 xs f.0 f.2.few (In-from_contains (slots_items 0 xs) f.0 there) in
    let i : In (sendings_items all) item = subst (λ (z : LineItem). In (sendings_items all) z) (sym f.2.is) here in
    accepted 7200 0 h.stamp (sendings_items all) item (sendings_order 0 all (all_apart 240 0 xs (omega arith))) i h.stamp_is

repeats_are : (reads : ReadLaws) (pages : PageLaws)
    → ((window : ℕ) (lines : List Line) (part : Part) → Contains (parts_of window lines) part ↔ IsPartReceived window (line_items_of lines) part)
    → (r : ℕ) (items : List NavItem) (lines : List Line) (part : Part) → All IsItem items → line_items_of (sent_capture r items) ≡ sent_lines r items
    → ((q : Part) → Contains (slots_parts 0 (sendable r 0 items)) q → Contains (parts_of 7200 (sent_capture r items)) q)
    → AreRepeats lines (sent_capture r items) → Contains (parts_of 7200 lines) part
    → (sent : Part) × Contains (parts_of 7200 (sent_capture r items)) sent × IsSentAgain part sent
repeats_are reads pages heard r items lines part all same back repeats i =
    let xs = sendable r 0 items in
    let frames = all_frames 240 0 xs in
    let there = heard_to 7200 (line_items_of lines) (sendings_items frames) part (λ item h. accepted_repeat r items lines item same repeats h) ((heard 7200 lines part).0 i) in
    let p = (sendings_are_heard reads pages r 7200 0 frames part (all_sent r 240 0 xs (in_slots r 0 items all)) (all_apart 240 0 xs (omega arith))).0 there in
    let q = repeated_part 240 xs part (omega arith) p in
    (q.0, back q.0 (contains_from_In (slots_parts 0 xs) q.0 q.1), q.2)

pub returns : goal.returns
returns c =
    let lines : LineLaws = record {
      printed = c.spellings_are_lines.ensures.printed;
      short = c.spellings_are_lines.ensures.short;
      only = c.each_line_stands_for_one_thing.ensures.only;
      given = c.written_lines_are_given.ensures;
    } in
    let pages : PageLaws = record {
      even = c.split_is_a_word.ensures.even;
      odd = c.split_is_a_word.ensures.odd;
      crc = c.split_is_a_word.ensures.crc;
      word = c.split_is_a_word.ensures.word;
      again = c.halves_are_read_again.ensures;
      bits = c.parts_are_their_bits.ensures;
    } in
    let reads : ReadLaws = record {
      sub = λ body count sat stamp digits low writable. c.subframe_bytes_are_written.ensures.read body count sat stamp digits low writable;
      sub_bytes = c.subframe_bytes_are_written.ensures.size;
      word1 = λ w sat stamp h. c.written_word1_is_read.ensures w (word1_bytes w) sat stamp h.toe (c.word_bytes.ensures.word1 w h);
      word2 = λ w sat stamp h. c.written_word2_is_read.ensures w (word2_bytes w) sat stamp (c.word_bytes.ensures.word2 w h);
      word3 = λ w sat stamp h. c.written_word3_is_read.ensures w (word3_bytes w) sat stamp h.sisa (c.word_bytes.ensures.word3 w h);
      word4 = λ w sat stamp h low. c.written_word4_is_read.ensures w (word4_bytes w sat.number) sat stamp h.toc (c.word_bytes.ensures.word4 w sat.number h low);
      word5 = λ h i wn second sat stamp a b low is. c.written_word5_is_read.ensures h i wn second (word5_bytes h i wn second) sat stamp is
          (c.word_bytes.ensures.word5 h i wn second a b low is);
      size1 = c.word_bytes.ensures.size1;
      size2 = c.word_bytes.ensures.size2;
      size3 = c.word_bytes.ensures.size3;
      size4 = c.word_bytes.ensures.size4;
      size5 = c.word_bytes.ensures.size5;
      lnav = c.texts_stand_for_their_items.ensures.lnav;
      half = c.texts_stand_for_their_items.ensures.half;
    } in
    record {
      head = λ r items. head_is lines r items;
      window = window_is;
      items = λ r items all. items_are lines reads r items all;
      parts = λ r items part all. parts_are lines reads pages c.lines_yield_what_is_received.ensures.parts r items part all;
      repeats = λ r items lines_of part all repeats i. repeats_are reads pages c.lines_yield_what_is_received.ensures.parts r items lines_of part all
          (items_are lines reads r items all)
          (λ q j. (parts_are lines reads pages c.lines_yield_what_is_received.ensures.parts r items q all).1 j) repeats i;
    }
