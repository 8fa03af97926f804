-- The parts received from a list of subframes and pages that were transmitted in order.
use Rattle.std.proofs.Common.{◌≡◌, ℕ, ◌+◌, ◌≤◌, ◌⊎◌, inl, inr, false, List, [], ◌∷◌, Contains, Some, nat_eq, refl, sym, ap, subst, ◌∙◌, arith, mod-eq_of_lt}
use Rattle.arrayvec.specs.ArrayVec.{ArrayVec}
use Rattle.nav_bits.specs.Bits.{number_at}
use Rattle.nav_bits.specs.Packed.{AreBytes}
use Rattle.nav_bits.proofs.Surface.{number_at-bytes_of}
use Rattle.nav_eph.specs.Satellite.{Satellite}
use Rattle.nav_eph.specs.declared.part.Part.{Part}
use Rattle.lnav_subframe.specs.declared.out.SubframeOut.{SubframeOut}
use Rattle.lnav_subframe.specs.Bytes.{subframe_bytes}
use Rattle.lnav_subframe.specs.Reading.{subframe_of}
use Rattle.inav.specs.declared.half.HalfKind.TheVariants.{Even, Odd}
use Rattle.nav_eph.specs.declared.signal.Signal.{Signal}
use Rattle.nav_eph.specs.declared.signal.Signal.TheVariants.{E1b}
use Rattle.inav.specs.Pages.{HasRightCrc, IsHalf, bytes_of_half, bits_at, even_of, kept_of, kind_of, odd_of, word_of}
use Rattle.inav.specs.Received.{IsReceived, StampedHalf}
use Rattle.inav.specs.Keeping.{stamped}
use Rattle.inav.proofs.Surface.{not_both}
use Rattle.inav.specs.Reading.{reading_of}
use Rattle.capture_lines.specs.Late.{IsAccepted, stamp_of}
use Rattle.capture_lines.specs.declared.item.LineItem.{LineItem}
use Rattle.capture_lines.specs.declared.item.LineItem.TheVariants.{Lnav, Half, Frame}
use Rattle.periods.proofs.Surface.{In, In-from_contains, contains_from_In}
use Rattle.nav_laws.proofs.AppendLemmas.{In-append_right}
use Rattle.capture_log.specs.Events.{half_of, is_alert, of_subframe, of_word}
use Rattle.capture_log.specs.Received.{IsHalfReceived, IsPartReceived}
use Rattle.capture_log.specs.declared.event.Event.{Event}
use Rattle.capture_log.specs.declared.event.Event.TheVariants.{Received}
use Rattle.sent_captures.specs.Slots.{half_item, subframe_item}

-- ---- what is sent

pub record Sub : Type 0 where
  pub stamp : ℕ
  pub sat : Satellite
  pub body : SubframeOut
  pub count : ℕ

pub record Page : Type 0 where
  pub stamp : ℕ
  pub sat : Satellite
  pub word : List ℕ

abbrev pub sub_item : Sub → LineItem
sub_item b = subframe_item b.stamp b.sat b.body b.count

abbrev pub even_item : Page → LineItem
even_item g = half_item g.stamp g.sat (even_of g.word)

abbrev pub odd_item : Page → LineItem
odd_item g = half_item (g.stamp + 1) g.sat (odd_of g.word)

-- the part that a subframe yields, and the parts of a page
abbrev pub SubGives : Sub → Part → Type 0
SubGives b p = of_subframe (subframe_of (subframe_bytes b.body b.count) b.sat b.stamp) ≡ Received p

abbrev pub PageGives : Page → Part → Type 0
PageGives g p = Contains (of_word (reading_of g.word g.sat (g.stamp + 1))) (Received p)

-- the items are those of these subframes and of these pages
pub record Sends (items : List LineItem) (subs : List Sub) (pages : List Page) : Type 0 where
  pub cases : (item : LineItem) → In items item
      → ((b : Sub) × In subs b × (sub_item b ≡ item)) ⊎ ((g : Page) × In pages g × ((even_item g ≡ item) ⊎ (odd_item g ≡ item)))
  pub sub : (b : Sub) → In subs b → In items (sub_item b)
  pub even : (g : Page) → In pages g → In items (even_item g)
  pub odd : (g : Page) → In pages g → In items (odd_item g)
  pub bytes : (g : Page) → In pages g → AreBytes 16 g.word

-- ---- stamps

-- items in the order of their stamps, which are no less than b
abbrev pub InOrder : ℕ → List LineItem → Type 0
InOrder b [] = Unit {0}
InOrder b (x ∷ xs) = (t : ℕ) × (stamp_of x ≡ Some t) × (b ≤ t) × InOrder t xs

one_stamp : (s t : ℕ) → Some s ≡ Some t → s ≡ t
one_stamp s t e = cc

later : (b t : ℕ) (xs : List LineItem) (item : LineItem) → InOrder b xs → In xs item → stamp_of item ≡ Some t → b ≤ t
later b t [] item o i e = absurd i
later b t (x ∷ xs) item o (inl is) e = let same = one_stamp o.0 t (sym o.1 ∙ ap stamp_of is ∙ e) in omega (arith, same, o.2)
later b t (x ∷ xs) item o (inr i) e = let l = later o.0 t xs item o.3 i e in omega (arith, l, o.2)

pub accepted : (w b t : ℕ) (xs : List LineItem) (item : LineItem) → InOrder b xs → In xs item → stamp_of item ≡ Some t → IsAccepted w xs item
accepted w b t [] item o i e = absurd i
accepted w b t (x ∷ xs) item o (inl is) e = record {
  before = [];
  after = xs;
  place = ap (λ z. z ∷ xs) is;
  stamp = t;
  stamp_is = e;
  in_time = λ l. In-from_contains [] l.other l.stands;
}
accepted w b t (x ∷ xs) item o (inr i) e =
    let h = accepted w o.0 t xs item o.3 i e in
    let same = one_stamp h.stamp t (sym h.stamp_is ∙ e) in
    let low = later o.0 t xs item o.3 i e in
    record {
      before = x ∷ h.before;
      after = h.after;
      place = ap (λ z. x ∷ z) h.place;
      stamp = h.stamp;
      stamp_is = h.stamp_is;
      in_time = λ l. elim (In-from_contains (x ∷ h.before) l.other l.stands) [
        | inl is ↦ let at = one_stamp o.0 l.other_stamp (sym o.1 ∙ ap stamp_of is ∙ l.stamp_is) in omega (arith, same, low, at, l.later)
        | inr j ↦ h.in_time (record { other = l.other; other_stamp = l.other_stamp; stands = contains_from_In h.before l.other j; stamp_is = l.stamp_is; later = l.later })
      ];
    }

pub accepted_in : (w : ℕ) (xs : List LineItem) (item : LineItem) → IsAccepted w xs item → In xs item
accepted_in w xs item h =
    subst (λ (l : List LineItem). In l item) (sym h.place) (In-append_right h.before (item ∷ h.after) item (inl refl))

-- pages in the order of their stamps
abbrev pub PagesInOrder : ℕ → List Page → Type 0
PagesInOrder b [] = Unit {0}
PagesInOrder b (g ∷ gs) = (b ≤ g.stamp) × PagesInOrder (g.stamp + 1) gs

page_later : (b : ℕ) (gs : List Page) (g : Page) → PagesInOrder b gs → In gs g → b ≤ g.stamp
page_later b [] g o i = absurd i
page_later b (h ∷ gs) g o (inl is) = subst (λ (z : Page). b ≤ z.stamp) is o.0
page_later b (h ∷ gs) g o (inr i) = let l = page_later (h.stamp + 1) gs g o.1 i in omega (arith, l, o.0)

-- there is one page at a stamp
pub one_page : (b : ℕ) (gs : List Page) (g h : Page) → PagesInOrder b gs → In gs g → In gs h → g.stamp ≡ h.stamp → g ≡ h
one_page b [] g h o i j e = absurd i
one_page b (x ∷ xs) g h o (inl i) (inl j) e = sym i ∙ j
one_page b (x ∷ xs) g h o (inl i) (inr j) e =
    let l = page_later (x.stamp + 1) xs h o.1 j in let s = ap (λ (z : Page). z.stamp) i in absurd (omega (arith, l, s, e))
one_page b (x ∷ xs) g h o (inr i) (inl j) e =
    let l = page_later (x.stamp + 1) xs g o.1 i in let s = ap (λ (z : Page). z.stamp) j in absurd (omega (arith, l, s, e))
one_page b (x ∷ xs) g h o (inr i) (inr j) e = one_page (x.stamp + 1) xs g h o.1 i j e

-- ---- page parts

-- what the laws of pages say
pub record PageLaws : Type 0 where
  pub even : (word : List ℕ) → IsHalf (even_of word) × (kind_of (even_of word) ≡ Even)
  pub odd : (word : List ℕ) → IsHalf (odd_of word) × (kind_of (odd_of word) ≡ Odd)
  pub crc : (word : List ℕ) → HasRightCrc (even_of word) (odd_of word)
  pub word : (word : List ℕ) → AreBytes 16 word → word_of (even_of word) (odd_of word) ≡ word
  pub again : (half : ℕ) → IsHalf half → kept_of (number_at (bytes_of_half half) 0 120) ≡ half
  pub bits : (bits : List ℕ) (at width rest : ℕ) → at + width + rest ≡ 120 → bits_at (number_at bits 0 120) at width ≡ number_at bits at width

nominal : PageLaws → (half : ℕ) → IsHalf half → is_alert (bytes_of_half half) ≡ false
nominal laws half h =
    let number : number_at (bytes_of_half half) 0 120 ≡ half = number_at-bytes_of 15 half ∙ mod-eq_of_lt h.fits in
    let bit : number_at (bytes_of_half half) 1 1 ≡ 0 =
    sym (laws.bits (bytes_of_half half) 1 1 118 refl) ∙ ap (λ n. bits_at n 1 1) number ∙ h.nominal in
    ap (λ n. nat_eq n 1) bit

-- the page parts of a page as they are received
abbrev pub even_half : Page → StampedHalf
even_half g = stamped g.stamp g.sat E1b (even_of g.word)

abbrev pub odd_half : Page → StampedHalf
odd_half g = stamped (g.stamp + 1) g.sat E1b (odd_of g.word)

half_received : PageLaws → (stamp : ℕ) (sat : Satellite) (half : ℕ) → IsHalf half → half_of stamp sat E1b (bytes_of_half half) ≡ stamped stamp sat E1b half
half_received laws stamp sat half h = ap (λ n. stamped stamp sat E1b n) (laws.again half h)

-- a page part that is received is one of a page
one_half : (t u : ℕ) (sat other : Satellite) (s v : Signal) (bits more : List ℕ) → Half t sat s bits ≡ Half u other v more
    → half_of t sat s bits ≡ half_of u other v more
one_half t u sat other s v bits more e = cc

not_sub : (b : Sub) (t : ℕ) (sat : Satellite) (s : Signal) (bits : List ℕ) → sub_item b ≡ Half t sat s bits → ⊥
unfolding subframe_item
not_sub b t sat s bits e = cc

half_is : PageLaws → (u : ℕ) (other : Satellite) (h : ℕ) (t : ℕ) (sat : Satellite) (s : Signal) (bits : List ℕ) → IsHalf h
    → half_item u other h ≡ Half t sat s bits → half_of t sat s bits ≡ stamped u other E1b h
unfolding half_item
half_is laws u other h t sat s bits is e = sym (one_half u t other sat E1b s (bytes_of_half h) bits e) ∙ half_received laws u other h is

heard_of_page : (w : ℕ) (items : List LineItem) (subs : List Sub) (pages : List Page) (half : StampedHalf) → PageLaws → Sends items subs pages
    → IsHalfReceived w items half → (g : Page) × In pages g × ((half ≡ even_half g) ⊎ (half ≡ odd_half g))
heard_of_page w items subs pages half laws sends h = elim (sends.cases (Half h.stamp h.sat h.signal h.bits) (accepted_in w items (Half h.stamp h.sat h.signal h.bits) h.accepted)) [
  | inl b ↦ absurd (not_sub b.0 h.stamp h.sat h.signal h.bits b.2)
  | inr g ↦ elim g.2 [
    | inl e ↦ (g.0, g.1, inl (h.half_is ∙ half_is laws g.0.stamp g.0.sat (even_of g.0.word) h.stamp h.sat h.signal h.bits (laws.even g.0.word).0 e))
    | inr e ↦ (g.0, g.1, inr (h.half_is ∙ half_is laws (g.0.stamp + 1) g.0.sat (odd_of g.0.word) h.stamp h.sat h.signal h.bits (laws.odd g.0.word).0 e))
  ]
]

half_item_is : (t : ℕ) (sat : Satellite) (half : ℕ) → half_item t sat half ≡ Half t sat E1b (bytes_of_half half)
unfolding half_item
half_item_is t sat half = refl

half_is_heard : PageLaws → (w b t : ℕ) (items : List LineItem) (sat : Satellite) (half : ℕ) → InOrder b items → IsHalf half → In items (half_item t sat half)
    → IsHalfReceived w items (stamped t sat E1b half)
half_is_heard laws w b t items sat half order is i =
    let j : In items (Half t sat E1b (bytes_of_half half)) = subst (λ (z : LineItem). In items z) (half_item_is t sat half) i in
    record {
      stamp = t;
      sat = sat;
      signal = E1b;
      bits = bytes_of_half half;
      accepted = accepted w b t items (Half t sat E1b (bytes_of_half half)) order j refl;
      nominal = nominal laws half is;
      half_is = sym (half_received laws t sat half is);
    }

-- ---- words

-- a word that is received is that of a page
word_of_page : (w b : ℕ) (items : List LineItem) (subs : List Sub) (pages : List Page) (even odd : StampedHalf) → PageLaws → Sends items subs pages → PagesInOrder b pages
    → IsReceived (IsHalfReceived w items) even odd → (g : Page) × In pages g × (even ≡ even_half g) × (odd ≡ odd_half g)
word_of_page w b items subs pages even odd laws sends order h =
    elim (heard_of_page w items subs pages even laws sends h.even_among).2 [
      | inl e ↦ elim (heard_of_page w items subs pages odd laws sends h.odd_among).2 [
        | inl f ↦ absurd (not_both (kind_of odd.half) (ap (λ (x : StampedHalf). kind_of x.half) f ∙ (laws.even (heard_of_page w items subs pages odd laws sends h.odd_among).0.word).1) h.make.is_odd)
        | inr f ↦
            let g = heard_of_page w items subs pages even laws sends h.even_among in
            let k = heard_of_page w items subs pages odd laws sends h.odd_among in
            let at = ap (λ (x : StampedHalf). x.stamp) e in
            let to = ap (λ (x : StampedHalf). x.stamp) f in
            let same : k.0.stamp ≡ g.0.stamp = omega (arith, at, to, h.make.stamp) in
            (g.0, g.1, e, f ∙ ap odd_half (one_page b pages k.0 g.0 order k.1 g.1 same))
      ]
      | inr e ↦ absurd (not_both (kind_of even.half) h.make.is_even (ap (λ (x : StampedHalf). kind_of x.half) e ∙ (laws.odd (heard_of_page w items subs pages even laws sends h.even_among).0.word).1))
    ]

page_is_heard : PageLaws → (w b : ℕ) (items : List LineItem) (subs : List Sub) (pages : List Page) (g : Page) → Sends items subs pages → InOrder b items → In pages g
    → IsReceived (IsHalfReceived w items) (even_half g) (odd_half g)
page_is_heard laws w b items subs pages g sends order i = record {
  even_among = half_is_heard laws w b g.stamp items g.sat (even_of g.word) order (laws.even g.word).0 (sends.even g i);
  odd_among = half_is_heard laws w b (g.stamp + 1) items g.sat (odd_of g.word) order (laws.odd g.word).0 (sends.odd g i);
  make = record {
    is_even = (laws.even g.word).1;
    is_odd = (laws.odd g.word).1;
    stamp = refl;
    sat = refl;
    signal = refl;
    crc = laws.crc g.word;
  };
}

-- ---- parts

sub_item_is : (b : Sub) → sub_item b ≡ Lnav b.stamp b.sat (subframe_bytes b.body b.count)
unfolding subframe_item
sub_item_is b = refl

lnav_same : (t u : ℕ) (sat other : Satellite) (bits more : List ℕ) → Lnav t sat bits ≡ Lnav u other more
    → of_subframe (subframe_of bits sat t) ≡ of_subframe (subframe_of more other u)
lnav_same t u sat other bits more e = cc

no_lnav_half : (t u : ℕ) (sat other : Satellite) (half : ℕ) (bits : List ℕ) → half_item t sat half ≡ Lnav u other bits → ⊥
unfolding half_item
no_lnav_half t u sat other half bits e = cc

no_frame_half : (t u : ℕ) (sat : Satellite) (half : ℕ) (bytes : ArrayVec ℕ) → half_item t sat half ≡ Frame u bytes → ⊥
unfolding half_item
no_frame_half t u sat half bytes e = cc

no_frame_sub : (b : Sub) (u : ℕ) (bytes : ArrayVec ℕ) → sub_item b ≡ Frame u bytes → ⊥
unfolding subframe_item
no_frame_sub b u bytes e = cc

-- what is received is what the subframes and the pages yield
abbrev pub Yields : List Sub → List Page → Part → Type 0
Yields subs pages p = ((b : Sub) × In subs b × SubGives b p) ⊎ ((g : Page) × In pages g × PageGives g p)

pub heard_is_yielded : (w b : ℕ) (items : List LineItem) (subs : List Sub) (pages : List Page) (p : Part) → PageLaws → Sends items subs pages → PagesInOrder b pages
    → IsPartReceived w items p → Yields subs pages p
heard_is_yielded w b items subs pages p laws sends order (inl h) =
    elim (sends.cases (Lnav h.stamp h.sat h.bits) (accepted_in w items (Lnav h.stamp h.sat h.bits) h.accepted)) [
      | inl x ↦ inl (x.0, x.1, lnav_same x.0.stamp h.stamp x.0.sat h.sat (subframe_bytes x.0.body x.0.count) h.bits (sym (sub_item_is x.0) ∙ x.2) ∙ h.is)
      | inr g ↦ elim g.2 [
        | inl e ↦ absurd (no_lnav_half g.0.stamp h.stamp g.0.sat h.sat (even_of g.0.word) h.bits e)
        | inr e ↦ absurd (no_lnav_half (g.0.stamp + 1) h.stamp g.0.sat h.sat (odd_of g.0.word) h.bits e)
      ]
    ]
heard_is_yielded w b items subs pages p laws sends order (inr (inl h)) =
    elim (sends.cases h.item (accepted_in w items h.item h.accepted)) [
      | inl x ↦ absurd (no_frame_sub x.0 h.stamp (record { items = h.bytes }) (x.2 ∙ h.item_is))
      | inr g ↦ elim g.2 [
        | inl e ↦ absurd (no_frame_half g.0.stamp h.stamp g.0.sat (even_of g.0.word) (record { items = h.bytes }) (e ∙ h.item_is))
        | inr e ↦ absurd (no_frame_half (g.0.stamp + 1) h.stamp g.0.sat (odd_of g.0.word) (record { items = h.bytes }) (e ∙ h.item_is))
      ]
    ]
heard_is_yielded w b items subs pages p laws sends order (inr (inr h)) =
    let g = word_of_page w b items subs pages h.even h.odd laws sends order h.heard in
    let word : word_of h.even.half h.odd.half ≡ g.0.word =
    ap (λ (x : StampedHalf). word_of x.half h.odd.half) g.2 ∙ ap (λ (x : StampedHalf). word_of (even_of g.0.word) x.half) g.3 ∙ laws.word g.0.word (sends.bytes g.0 g.1) in
    inr (
      g.0,
      g.1,
      subst (λ (l : List Event). Contains l (Received p))
          (ap (λ (x : StampedHalf). of_word (reading_of (word_of h.even.half h.odd.half) x.sat x.stamp)) g.3 ∙ ap (λ (l : List ℕ). of_word (reading_of l g.0.sat (g.0.stamp + 1))) word) h.is,
    )

pub yielded_is_heard : (w b : ℕ) (items : List LineItem) (subs : List Sub) (pages : List Page) (p : Part) → PageLaws → Sends items subs pages → InOrder b items
    → Yields subs pages p → IsPartReceived w items p
yielded_is_heard w b items subs pages p laws sends order (inl x) =
    let j : In items (Lnav x.0.stamp x.0.sat (subframe_bytes x.0.body x.0.count)) = subst (λ (z : LineItem). In items z) (sub_item_is x.0) (sends.sub x.0 x.1) in
    inl (record {
      stamp = x.0.stamp;
      sat = x.0.sat;
      bits = subframe_bytes x.0.body x.0.count;
      accepted = accepted w b x.0.stamp items (Lnav x.0.stamp x.0.sat (subframe_bytes x.0.body x.0.count)) order j refl;
      is = x.2;
    })
yielded_is_heard w b items subs pages p laws sends order (inr g) =
    inr (inr (record {
      even = even_half g.0;
      odd = odd_half g.0;
      heard = page_is_heard laws w b items subs pages g.0 sends order g.1;
      is = subst (λ (l : List ℕ). Contains (of_word (reading_of l g.0.sat (g.0.stamp + 1))) (Received p)) (sym (laws.word g.0.word (sends.bytes g.0 g.1))) g.2;
    }))
