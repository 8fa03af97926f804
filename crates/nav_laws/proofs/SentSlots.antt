-- What is transmitted in the slots, and that its parts are those of the slots.
use Rattle.std.proofs.Common.{◌≡◌, ℕ, ◌+◌, ◌-◌, ◌*◌, ◌^◌, ◌<◌, ◌≤◌, ◌⊎◌, ◌↔◌, inl, inr, Bool, true, false, nat_eq, if◌then◌else◌, List, [], ◌∷◌, ◌++◌, Contains, Ok, Some, length, refl, sym, ap, subst, subst₂, ◌∙◌, arith, eqb-true}
use Rattle.std.proofs.lemmas.Int.{ints}
use Rattle.nav_bits.specs.Packed.{AreBytes}
use Rattle.nav_eph.specs.Satellite.{IsSat, Satellite}
use Rattle.nav_eph.specs.Bodies.{IsGalHealth, IsGalIon}
use Rattle.nav_eph.specs.Ranges.{IsGalWord1, IsGalWord2, IsGalWord3, IsGalWord4}
use Rattle.nav_eph.specs.Weeks.{IsSecond}
use Rattle.nav_eph.specs.declared.sat.System.TheVariants.{Gal as OfGalileo, Gps as OfGps}
use Rattle.nav_eph.specs.declared.galileo.GalHealth.{GalHealth}
use Rattle.nav_eph.specs.declared.galileo.GalWord1.{GalWord1}
use Rattle.nav_eph.specs.declared.galileo.GalWord2.{GalWord2}
use Rattle.nav_eph.specs.declared.galileo.GalWord3.{GalWord3}
use Rattle.nav_eph.specs.declared.galileo.GalWord4.{GalWord4}
use Rattle.nav_eph.specs.declared.ion.GalIon.{GalIon}
use Rattle.nav_eph.specs.declared.tag.SentTag.TheVariants.{Sent}
use Rattle.nav_eph.specs.declared.part.Part.{Part}
use Rattle.nav_eph.specs.declared.part.Body.TheVariants.{GpsClock as OfClock, GpsA as OfOrbitA, GpsB as OfOrbitB, GalW1 as OfWord1, GalW2 as OfWord2, GalW3 as OfWord3, GalW4 as OfWord4, GalHealth as OfHealth, GalIon as OfGalIon}
use Rattle.nav_eph.specs.declared.items.GpsEph.{GpsEph}
use Rattle.nav_eph.specs.declared.items.GalEph.{GalEph}
use Rattle.nav_eph.specs.declared.items.NavItem.{NavItem}
use Rattle.nav_eph.specs.declared.items.NavItem.TheVariants.{Gps, Gal, Ion}
use Rattle.lnav_subframe.specs.declared.out.SubframeOut.{SubframeOut}
use Rattle.lnav_subframe.specs.declared.out.SubframeOut.TheVariants.{Clock, OrbitA, OrbitB}
use Rattle.lnav_subframe.specs.Bytes.{HasBits, subframe_bytes}
use Rattle.lnav_subframe.specs.Reading.{heard, start_second, subframe_of}
use Rattle.lnav_subframe.specs.Writing.{IsWritable, read_again}
use Rattle.inav.specs.Reading.{one_part, reading_of, two_parts}
use Rattle.inav.specs.Writing.{word1_bytes, word2_bytes, word3_bytes, word4_bytes, word5_bytes}
use Rattle.inav.specs.Pages.{even_of, odd_of}
use Rattle.nav_eph.specs.declared.signal.Signal.{Signal}
use Rattle.hex.specs.Hex.{IsBytes}
use Rattle.capture_lines.specs.Late.{stamp_of}
use Rattle.capture_lines.specs.Spellings.{IsEnded, IsHalfLine, IsLnavLine}
use Rattle.capture_lines.specs.Texts.{half_text, lnav_text}
use Rattle.capture_lines.specs.declared.item.LineItem.{LineItem}
use Rattle.periods.proofs.Surface.{In, In-from_contains, contains_from_In}
use Rattle.nav_laws.proofs.AppendLemmas.{In-append_cases, In-append_left, In-append_right}
use Rattle.capture_log.specs.Events.{of_subframe, of_word}
use Rattle.capture_log.specs.Received.{IsPartReceived}
use Rattle.capture_log.specs.declared.event.Event.{Event}
use Rattle.capture_log.specs.declared.event.Event.TheVariants.{Received}
use Rattle.sent_captures.specs.Slots.{count_of, galileo_items, galileo_second, galileo_week_number, gps_transmission, gps_week_number, half_item, items_at, no_ionosphere, slot_stamp, subframe_item}
use Rattle.sent_captures.specs.Sendable.{slots_items}
use Rattle.nav_laws.specs.SlotParts.{part, parts_at, slots_parts}
use Rattle.nav_laws.proofs.Slots.{IsSentGal, IsSentGps}
use Rattle.nav_laws.proofs.Slots.{IsSent}
use Rattle.nav_laws.proofs.Received.{Yields, InOrder, Page, PageGives, PageLaws, PagesInOrder, Sends, Sub, SubGives, yielded_is_heard, even_item, heard_is_yielded, odd_item, sub_item}

-- ---- what is sent in a slot

abbrev sub : ℕ → Satellite → SubframeOut → ℕ → Sub
sub s sat body count = record { stamp = s; sat = sat; body = body; count = count }

abbrev page : ℕ → Satellite → List ℕ → Page
page s sat word = record { stamp = s; sat = sat; word = word }

abbrev clock_sub : ℕ → GpsEph → Sub
clock_sub s e = sub s e.sat (Clock e.clock e.side (gps_week_number e)) (count_of e 1)

abbrev a_sub : ℕ → GpsEph → Sub
a_sub s e = sub (s + 6) e.sat (OrbitA e.a e.fit) (count_of e 2)

abbrev b_sub : ℕ → GpsEph → Sub
b_sub s e = sub (s + 12) e.sat (OrbitB e.b) (count_of e 3)

abbrev page1 : ℕ → GalEph → Page
page1 s e = page s e.sat (word1_bytes e.w1)

abbrev page2 : ℕ → GalEph → Page
page2 s e = page (s + 2) e.sat (word2_bytes e.w2)

abbrev page3 : ℕ → GalEph → Page
page3 s e = page (s + 4) e.sat (word3_bytes e.w3)

abbrev page4 : ℕ → GalEph → Page
page4 s e = page (s + 6) e.sat (word4_bytes e.w4 e.sat.number)

abbrev page5 : ℕ → GalEph → Page
page5 s e = page (s + 8) e.sat (word5_bytes e.health no_ionosphere (galileo_week_number e) (galileo_second e))

abbrev subs_at : ℕ → NavItem → List Sub
subs_at s (Gps e) = clock_sub s e ∷ a_sub s e ∷ b_sub s e ∷ []
subs_at s (Gal e) = []
subs_at s (Ion e) = []

abbrev pages_at : ℕ → NavItem → List Page
pages_at s (Gps e) = []
pages_at s (Gal e) = page1 s e ∷ page2 s e ∷ page3 s e ∷ page4 s e ∷ page5 s e ∷ []
pages_at s (Ion e) = []

-- an item that is sent from a stamp on
pub record Sending : Type 0 where
  pub stamp : ℕ
  pub item : NavItem

-- the lines and the parts of what is sent, one after the other
abbrev pub sendings_items : List Sending → List LineItem
sendings_items [] = []
sendings_items (x ∷ xs) = items_at x.stamp x.item ++ sendings_items xs

abbrev pub sendings_parts : List Sending → List Part
sendings_parts [] = []
sendings_parts (x ∷ xs) = parts_at x.stamp x.item ++ sendings_parts xs

abbrev sendings_subs : List Sending → List Sub
sendings_subs [] = []
sendings_subs (x ∷ xs) = subs_at x.stamp x.item ++ sendings_subs xs

abbrev sendings_pages : List Sending → List Page
sendings_pages [] = []
sendings_pages (x ∷ xs) = pages_at x.stamp x.item ++ sendings_pages xs

-- one begins after the one before it has ended, the first from b on
abbrev pub AreApart : ℕ → List Sending → Type 0
AreApart b [] = Unit {0}
AreApart b (x ∷ xs) = (b ≤ x.stamp) × AreApart (x.stamp + 13) xs

pub apart_weak : (b m : ℕ) (xs : List Sending) → b ≤ m → AreApart m xs → AreApart b xs
apart_weak b m [] l h = tt
apart_weak b m (x ∷ xs) l h = let low = h.0 in (omega (arith, low, l), h.1)

-- those of the slots
abbrev slots_sendings : ℕ → List NavItem → List Sending
slots_sendings slot [] = []
slots_sendings slot (x ∷ xs) = record { stamp = slot_stamp slot; item = x } ∷ slots_sendings (slot + 1) xs

slots_items_are : (slot : ℕ) (xs : List NavItem) → sendings_items (slots_sendings slot xs) ≡ slots_items slot xs
slots_items_are slot [] = refl
slots_items_are slot (x ∷ xs) = ap (λ l. items_at (slot_stamp slot) x ++ l) (slots_items_are (slot + 1) xs)

slots_parts_are : (slot : ℕ) (xs : List NavItem) → sendings_parts (slots_sendings slot xs) ≡ slots_parts slot xs
slots_parts_are slot [] = refl
slots_parts_are slot (x ∷ xs) = ap (λ l. parts_at (slot_stamp slot) x ++ l) (slots_parts_are (slot + 1) xs)

slots_apart : (slot : ℕ) (xs : List NavItem) → AreApart (slot_stamp slot) (slots_sendings slot xs)
slots_apart slot [] = tt
slots_apart slot (x ∷ xs) = (omega arith, apart_weak (slot_stamp slot + 13) (slot_stamp (slot + 1)) (slots_sendings (slot + 1) xs) (omega arith) (slots_apart (slot + 1) xs))

-- ---- what the laws of readers say

pub record ReadLaws : Type 0 where
  pub sub : (body : SubframeOut) (count : ℕ) (sat : Satellite) (stamp : ℕ) → HasBits body → count < 100800 → IsWritable body
      → subframe_of (subframe_bytes body count) sat stamp ≡ heard sat stamp (read_again body count)
  pub sub_bytes : (body : SubframeOut) (count : ℕ) → AreBytes 38 (subframe_bytes body count)
  pub word1 : (w : GalWord1) (sat : Satellite) (stamp : ℕ) → IsGalWord1 w → reading_of (word1_bytes w) sat stamp ≡ Ok (one_part sat stamp (OfWord1 w))
  pub word2 : (w : GalWord2) (sat : Satellite) (stamp : ℕ) → IsGalWord2 w → reading_of (word2_bytes w) sat stamp ≡ Ok (one_part sat stamp (OfWord2 w))
  pub word3 : (w : GalWord3) (sat : Satellite) (stamp : ℕ) → IsGalWord3 w → reading_of (word3_bytes w) sat stamp ≡ Ok (one_part sat stamp (OfWord3 w))
  pub word4 : (w : GalWord4) (sat : Satellite) (stamp : ℕ) → IsGalWord4 w → sat.number < 64 → reading_of (word4_bytes w sat.number) sat stamp ≡ Ok (one_part sat stamp (OfWord4 w))
  pub word5 : (h : GalHealth) (i : GalIon) (wn second : ℕ) (sat : Satellite) (stamp : ℕ) → IsGalHealth h → IsGalIon i → wn < 4096 → IsSecond second
      → reading_of (word5_bytes h i wn second) sat stamp ≡ Ok (two_parts sat stamp h i wn second)
  pub size1 : (w : GalWord1) → AreBytes 16 (word1_bytes w)
  pub size2 : (w : GalWord2) → AreBytes 16 (word2_bytes w)
  pub size3 : (w : GalWord3) → AreBytes 16 (word3_bytes w)
  pub size4 : (w : GalWord4) (svid : ℕ) → AreBytes 16 (word4_bytes w svid)
  pub size5 : (h : GalHealth) (i : GalIon) (wn second : ℕ) → AreBytes 16 (word5_bytes h i wn second)
  pub lnav : (stamp : ℕ) (sat : Satellite) (bits : List ℕ) → stamp < 2 ^ 32 → sat.system ≡ OfGps → IsSat sat.system sat.number → IsBytes bits → length bits ≡ 38
      → IsEnded (IsLnavLine stamp sat bits) (lnav_text stamp sat bits)
  pub half : (stamp : ℕ) (sat : Satellite) (signal : Signal) (bits : List ℕ) → stamp < 2 ^ 32 → sat.system ≡ OfGalileo → IsSat sat.system sat.number → IsBytes bits → length bits ≡ 15
      → IsEnded (IsHalfLine stamp sat signal bits) (half_text stamp sat signal bits)

-- ---- the items of a slot are those of its subframes and pages

gal_cases : (s : ℕ) (e : GalEph) (item : LineItem) → In (galileo_items s e) item
    → ((b : Sub) × In [] b × (sub_item b ≡ item)) ⊎ ((g : Page) × In (pages_at s (Gal e)) g × ((even_item g ≡ item) ⊎ (odd_item g ≡ item)))
gal_cases s e item (inl is) = inr (page1 s e, inl refl, inl is)
gal_cases s e item (inr (inl is)) = inr (page1 s e, inl refl, inr is)
gal_cases s e item (inr (inr (inl is))) = inr (page2 s e, inr (inl refl), inl is)
gal_cases s e item (inr (inr (inr (inl is)))) = inr (page2 s e, inr (inl refl), inr is)
gal_cases s e item (inr (inr (inr (inr (inl is))))) = inr (page3 s e, inr (inr (inl refl)), inl is)
gal_cases s e item (inr (inr (inr (inr (inr (inl is)))))) = inr (page3 s e, inr (inr (inl refl)), inr is)
gal_cases s e item (inr (inr (inr (inr (inr (inr (inl is))))))) = inr (page4 s e, inr (inr (inr (inl refl))), inl is)
gal_cases s e item (inr (inr (inr (inr (inr (inr (inr (inl is)))))))) = inr (page4 s e, inr (inr (inr (inl refl))), inr is)
gal_cases s e item (inr (inr (inr (inr (inr (inr (inr (inr (inl is))))))))) = inr (page5 s e, inr (inr (inr (inr (inl refl)))), inl is)
gal_cases s e item (inr (inr (inr (inr (inr (inr (inr (inr (inr (inl is)))))))))) = inr (page5 s e, inr (inr (inr (inr (inl refl)))), inr is)
gal_cases s e item (inr (inr (inr (inr (inr (inr (inr (inr (inr (inr (is))))))))))) = absurd is

gal_even : (s : ℕ) (e : GalEph) (g : Page) → In (pages_at s (Gal e)) g → In (galileo_items s e) (even_item g)
gal_even s e g (inl is) = inl (ap even_item is)
gal_even s e g (inr (inl is)) = inr (inr (inl (ap even_item is)))
gal_even s e g (inr (inr (inl is))) = inr (inr (inr (inr (inl (ap even_item is)))))
gal_even s e g (inr (inr (inr (inl is)))) = inr (inr (inr (inr (inr (inr (inl (ap even_item is)))))))
gal_even s e g (inr (inr (inr (inr (inl is))))) = inr (inr (inr (inr (inr (inr (inr (inr (inl (ap even_item is)))))))))
gal_even s e g (inr (inr (inr (inr (inr (is)))))) = absurd is

gal_odd : (s : ℕ) (e : GalEph) (g : Page) → In (pages_at s (Gal e)) g → In (galileo_items s e) (odd_item g)
gal_odd s e g (inl is) = inr (inl (ap odd_item is))
gal_odd s e g (inr (inl is)) = inr (inr (inr (inl (ap odd_item is))))
gal_odd s e g (inr (inr (inl is))) = inr (inr (inr (inr (inr (inl (ap odd_item is))))))
gal_odd s e g (inr (inr (inr (inl is)))) = inr (inr (inr (inr (inr (inr (inr (inl (ap odd_item is))))))))
gal_odd s e g (inr (inr (inr (inr (inl is))))) = inr (inr (inr (inr (inr (inr (inr (inr (inr (inl (ap odd_item is))))))))))
gal_odd s e g (inr (inr (inr (inr (inr (is)))))) = absurd is

gal_bytes : (laws : ReadLaws) (s : ℕ) (e : GalEph) (g : Page) → In (pages_at s (Gal e)) g → AreBytes 16 g.word
gal_bytes laws s e g (inl is) = subst (λ (z : Page). AreBytes 16 z.word) is (laws.size1 e.w1)
gal_bytes laws s e g (inr (inl is)) = subst (λ (z : Page). AreBytes 16 z.word) is (laws.size2 e.w2)
gal_bytes laws s e g (inr (inr (inl is))) = subst (λ (z : Page). AreBytes 16 z.word) is (laws.size3 e.w3)
gal_bytes laws s e g (inr (inr (inr (inl is)))) = subst (λ (z : Page). AreBytes 16 z.word) is (laws.size4 e.w4 e.sat.number)
gal_bytes laws s e g (inr (inr (inr (inr (inl is))))) = subst (λ (z : Page). AreBytes 16 z.word) is (laws.size5 e.health no_ionosphere (galileo_week_number e) (galileo_second e))
gal_bytes laws s e g (inr (inr (inr (inr (inr (is)))))) = absurd is

sends_at : (laws : ReadLaws) (s : ℕ) (x : NavItem) → Sends (items_at s x) (subs_at s x) (pages_at s x)
sends_at laws s (Gps e) = record {
  cases = λ item i. elim i [
    | inl is ↦ inl (clock_sub s e, inl refl, is)
    | inr i ↦ elim i [
      | inl is ↦ inl (a_sub s e, inr (inl refl), is)
      | inr i ↦ elim i [
        | inl is ↦ inl (b_sub s e, inr (inr (inl refl)), is)
        | inr i ↦ absurd i
      ]
    ]
  ];
  sub = λ b i. elim i [
    | inl is ↦ inl (ap sub_item is)
    | inr i ↦ elim i [
      | inl is ↦ inr (inl (ap sub_item is))
      | inr i ↦ elim i [
        | inl is ↦ inr (inr (inl (ap sub_item is)))
        | inr i ↦ absurd i
      ]
    ]
  ];
  even = λ g i. absurd i;
  odd = λ g i. absurd i;
  bytes = λ g i. absurd i;
}
sends_at laws s (Gal e) = record {
  cases = λ item i. gal_cases s e item i;
  sub = λ b i. absurd i;
  even = λ g i. gal_even s e g i;
  odd = λ g i. gal_odd s e g i;
  bytes = λ g i. gal_bytes laws s e g i;
}
sends_at laws s (Ion e) = record {
  cases = λ item i. absurd i;
  sub = λ b i. absurd i;
  even = λ g i. absurd i;
  odd = λ g i. absurd i;
  bytes = λ g i. absurd i;
}

sends_append : (items more : List LineItem) (subs subs' : List Sub) (pages pages' : List Page) → Sends items subs pages → Sends more subs' pages'
    → Sends (items ++ more) (subs ++ subs') (pages ++ pages')
sends_append items more subs subs' pages pages' a b = record {
  cases = λ item i. elim (In-append_cases items more item i) [
    | inl j ↦ elim (a.cases item j) [
      | inl x ↦ inl (x.0, In-append_left subs subs' x.0 x.1, x.2)
      | inr x ↦ inr (x.0, In-append_left pages pages' x.0 x.1, x.2)
    ]
    | inr j ↦ elim (b.cases item j) [
      | inl x ↦ inl (x.0, In-append_right subs subs' x.0 x.1, x.2)
      | inr x ↦ inr (x.0, In-append_right pages pages' x.0 x.1, x.2)
    ]
  ];
  sub = λ x i. elim (In-append_cases subs subs' x i) [
    | inl j ↦ In-append_left items more (sub_item x) (a.sub x j)
    | inr j ↦ In-append_right items more (sub_item x) (b.sub x j)
  ];
  even = λ g i. elim (In-append_cases pages pages' g i) [
    | inl j ↦ In-append_left items more (even_item g) (a.even g j)
    | inr j ↦ In-append_right items more (even_item g) (b.even g j)
  ];
  odd = λ g i. elim (In-append_cases pages pages' g i) [
    | inl j ↦ In-append_left items more (odd_item g) (a.odd g j)
    | inr j ↦ In-append_right items more (odd_item g) (b.odd g j)
  ];
  bytes = λ g i. elim (In-append_cases pages pages' g i) [
    | inl j ↦ a.bytes g j
    | inr j ↦ b.bytes g j
  ];
}

sendings_send : (laws : ReadLaws) (xs : List Sending) → Sends (sendings_items xs) (sendings_subs xs) (sendings_pages xs)
sendings_send laws [] = record {
  cases = λ item i. absurd i;
  sub = λ b i. absurd i;
  even = λ g i. absurd i;
  odd = λ g i. absurd i;
  bytes = λ g i. absurd i;
}
sendings_send laws (x ∷ xs) =
    sends_append (items_at x.stamp x.item) (sendings_items xs) (subs_at x.stamp x.item) (sendings_subs xs)
    (pages_at x.stamp x.item) (sendings_pages xs) (sends_at laws x.stamp x.item) (sendings_send laws xs)

-- ---- in the order of their stamps

abbrev OrderTo : ℕ → ℕ → List LineItem → Type 0
OrderTo b m [] = b ≤ m
OrderTo b m (x ∷ xs) = (t : ℕ) × (stamp_of x ≡ Some t) × (b ≤ t) × OrderTo t m xs

order_weak : (b m : ℕ) (xs : List LineItem) → b ≤ m → InOrder m xs → InOrder b xs
order_weak b m [] l o = tt
order_weak b m (x ∷ xs) l o = let low = o.2 in (o.0, o.1, omega (arith, low, l), o.3)

order_append : (b m : ℕ) (xs ys : List LineItem) → OrderTo b m xs → InOrder m ys → InOrder b (xs ++ ys)
order_append b m [] ys o rest = order_weak b m ys o rest
order_append b m (x ∷ xs) ys o rest = (o.0, o.1, o.2, order_append o.0 m xs ys o.3 rest)

sub_stamp : (t : ℕ) (sat : Satellite) (body : SubframeOut) (count : ℕ) → stamp_of (subframe_item t sat body count) ≡ Some t
unfolding subframe_item
sub_stamp t sat body count = refl

half_stamp : (t : ℕ) (sat : Satellite) (half : ℕ) → stamp_of (half_item t sat half) ≡ Some t
unfolding half_item
half_stamp t sat half = refl

order_at : (s m : ℕ) (x : NavItem) → s + 12 ≤ m → OrderTo s m (items_at s x)
order_at s m (Gps e) l = (
  s,
  sub_stamp s e.sat (Clock e.clock e.side (gps_week_number e)) (count_of e 1),
  omega arith,
  (
    s + 6,
    sub_stamp (s + 6) e.sat (OrbitA e.a e.fit) (count_of e 2),
    omega arith,
    (s + 12, sub_stamp (s + 12) e.sat (OrbitB e.b) (count_of e 3), omega arith, l),
  ),
)
order_at s m (Gal e) l = (
  s,
  half_stamp s e.sat (even_of (page1 s e).word),
  omega arith,
  (
    s + 1,
    half_stamp (s + 1) e.sat (odd_of (page1 s e).word),
    omega arith,
    (
      s + 2,
      half_stamp (s + 2) e.sat (even_of (page2 s e).word),
      omega arith,
      (
        s + 2 + 1,
        half_stamp (s + 2 + 1) e.sat (odd_of (page2 s e).word),
        omega arith,
        (
          s + 4,
          half_stamp (s + 4) e.sat (even_of (page3 s e).word),
          omega arith,
          (
            s + 4 + 1,
            half_stamp (s + 4 + 1) e.sat (odd_of (page3 s e).word),
            omega arith,
            (
              s + 6,
              half_stamp (s + 6) e.sat (even_of (page4 s e).word),
              omega arith,
              (
                s + 6 + 1,
                half_stamp (s + 6 + 1) e.sat (odd_of (page4 s e).word),
                omega arith,
                (s + 8, half_stamp (s + 8) e.sat (even_of (page5 s e).word), omega arith, (s + 8 + 1, half_stamp (s + 8 + 1) e.sat (odd_of (page5 s e).word), omega arith, omega (arith, l))),
              ),
            ),
          ),
        ),
      ),
    ),
  ),
)
order_at s m (Ion e) l = omega (arith, l)

pub sendings_order : (b : ℕ) (xs : List Sending) → AreApart b xs → InOrder b (sendings_items xs)
sendings_order b [] h = tt
sendings_order b (x ∷ xs) h =
    order_weak b x.stamp (items_at x.stamp x.item ++ sendings_items xs) h.0
    (order_append x.stamp (x.stamp + 13) (items_at x.stamp x.item) (sendings_items xs)
    (order_at x.stamp (x.stamp + 13) x.item (omega arith)) (sendings_order (x.stamp + 13) xs h.1))

pub slots_order : (slot : ℕ) (xs : List NavItem) → InOrder (slot_stamp slot) (slots_items slot xs)
slots_order slot xs =
    subst (λ (l : List LineItem). InOrder (slot_stamp slot) l) (slots_items_are slot xs)
    (sendings_order (slot_stamp slot) (slots_sendings slot xs) (slots_apart slot xs))

abbrev PagesTo : ℕ → ℕ → List Page → Type 0
PagesTo b m [] = b ≤ m
PagesTo b m (g ∷ gs) = (b ≤ g.stamp) × PagesTo (g.stamp + 1) m gs

pages_weak : (b m : ℕ) (gs : List Page) → b ≤ m → PagesInOrder m gs → PagesInOrder b gs
pages_weak b m [] l o = tt
pages_weak b m (g ∷ gs) l o = let low = o.0 in (omega (arith, low, l), o.1)

pages_append : (b m : ℕ) (gs hs : List Page) → PagesTo b m gs → PagesInOrder m hs → PagesInOrder b (gs ++ hs)
pages_append b m [] hs o rest = pages_weak b m hs o rest
pages_append b m (g ∷ gs) hs o rest = (o.0, pages_append (g.stamp + 1) m gs hs o.1 rest)

pages_order_at : (s m : ℕ) (x : NavItem) → s + 12 ≤ m → PagesTo s m (pages_at s x)
pages_order_at s m (Gps e) l = omega (arith, l)
pages_order_at s m (Gal e) l = (omega arith, (omega arith, (omega arith, (omega arith, (omega arith, omega (arith, l))))))
pages_order_at s m (Ion e) l = omega (arith, l)

sendings_pages_order : (b : ℕ) (xs : List Sending) → AreApart b xs → PagesInOrder b (sendings_pages xs)
sendings_pages_order b [] h = tt
sendings_pages_order b (x ∷ xs) h =
    pages_weak b x.stamp (pages_at x.stamp x.item ++ sendings_pages xs) h.0
    (pages_append x.stamp (x.stamp + 13) (pages_at x.stamp x.item) (sendings_pages xs)
    (pages_order_at x.stamp (x.stamp + 13) x.item (omega arith)) (sendings_pages_order (x.stamp + 13) xs h.1))

-- ---- what they yield

heard_same : (a b : Part) → Received a ≡ Received b → a ≡ b
heard_same a b e = cc

-- a subframe or a page that yields one part yields no other
sub_yields : (b : Sub) (q p : Part) → of_subframe (subframe_of (subframe_bytes b.body b.count) b.sat b.stamp) ≡ Received q → (q ≡ p → SubGives b p) × (SubGives b p → q ≡ p)
sub_yields b q p fact = (λ is. fact ∙ ap Received is, λ gives. heard_same q p (sym fact ∙ gives))

page_yields : (g : Page) (q p : Part) → of_word (reading_of g.word g.sat (g.stamp + 1)) ≡ Received q ∷ [] → (q ≡ p → PageGives g p) × (PageGives g p → q ≡ p)
page_yields g q p fact = (
  λ is. subst (λ (l : List Event). Contains l (Received p)) (sym fact) (contains_from_In (Received q ∷ []) (Received p) (inl (ap Received is))),
  λ gives. elim (In-from_contains (Received q ∷ []) (Received p) (subst (λ (l : List Event). Contains l (Received p)) fact gives)) [
    | inl e ↦ heard_same q p e
    | inr e ↦ absurd e
  ],
)

page_yields_two : (g : Page) (q t p : Part) → of_word (reading_of g.word g.sat (g.stamp + 1)) ≡ Received q ∷ Received t ∷ []
    → ((q ≡ p) ⊎ (t ≡ p) → PageGives g p) × (PageGives g p → (q ≡ p) ⊎ (t ≡ p))
page_yields_two g q t p fact = (
  λ is. subst (λ (l : List Event). Contains l (Received p)) (sym fact) (contains_from_In (Received q ∷ Received t ∷ []) (Received p) (elim is [
    | inl e ↦ inl (ap Received e)
    | inr e ↦ inr (inl (ap Received e))
  ])),
  λ gives. elim (In-from_contains (Received q ∷ Received t ∷ []) (Received p) (subst (λ (l : List Event). Contains l (Received p)) fact gives)) [
    | inl e ↦ inl (heard_same q p e)
    | inr e ↦ elim e [ inl f ↦ inr (heard_same t p f) | inr f ↦ absurd f ]
  ],
)

-- the TOW count of subframe 1 gives its transmission time
start_is : (r : ℕ) (e : GpsEph) → IsSentGps r e → start_second (count_of e 1) ≡ gps_transmission e
start_is r e h = by (nat_eq (count_of e 1) 0) refl
  where
    by : (t : Bool) → nat_eq (count_of e 1) 0 ≡ t → (if t then 604794 else 6 * count_of e 1 - 6) ≡ gps_transmission e
    by true is = absurd (let zero_is = eqb-true (count_of e 1) 0 is in omega (arith, zero_is, h.item.ranges.a.toe))
    by false is = omega (arith, h.item.ranges.a.toe)

count_low : (e : GpsEph) (k : ℕ) → count_of e k < 100800
count_low e k = omega arith

clock_fact : (laws : ReadLaws) (r s : ℕ) (e : GpsEph) → IsSentGps r e
    → of_subframe (subframe_of (subframe_bytes (Clock e.clock e.side (gps_week_number e)) (count_of e 1)) e.sat s)
    ≡ Received (part s e.sat (OfClock e.clock e.side (Sent (gps_week_number e) (gps_transmission e))))
clock_fact laws r s e h =
    ap of_subframe (laws.sub (Clock e.clock e.side (gps_week_number e)) (count_of e 1) e.sat s (h.item.ranges.clock, h.item.ranges.side, omega arith) (count_low e 1) tt)
    ∙ ap (λ u. Received (part s e.sat (OfClock e.clock e.side (Sent (gps_week_number e) u)))) (start_is r e h)

a_fact : (laws : ReadLaws) (r s : ℕ) (e : GpsEph) → IsSentGps r e
    → of_subframe (subframe_of (subframe_bytes (OrbitA e.a e.fit) (count_of e 2)) e.sat (s + 6)) ≡ Received (part (s + 6) e.sat (OfOrbitA e.a e.fit))
a_fact laws r s e h = ap of_subframe (laws.sub (OrbitA e.a e.fit) (count_of e 2) e.sat (s + 6) (h.item.ranges.a, h.item.ranges.fit) (count_low e 2) tt)

b_fact : (laws : ReadLaws) (r s : ℕ) (e : GpsEph) → IsSentGps r e
    → of_subframe (subframe_of (subframe_bytes (OrbitB e.b) (count_of e 3)) e.sat (s + 12)) ≡ Received (part (s + 12) e.sat (OfOrbitB e.b))
b_fact laws r s e h = ap of_subframe (laws.sub (OrbitB e.b) (count_of e 3) e.sat (s + 12) h.item.ranges.b (count_low e 3) tt)

pub no_ion : IsGalIon no_ionosphere
no_ion = record { ai0 = omega arith; ai1 = (omega (arith, ints), omega (arith, ints)); ai2 = (omega (arith, ints), omega (arith, ints)); regions = omega arith }

sat_low : (e : GalEph) → IsSat e.sat.system e.sat.number → e.sat.system ≡ OfGalileo → e.sat.number < 64
sat_low e h is = let most = subst (λ s. IsSat s e.sat.number) is h in omega (arith, most.1)

pub week_low : (e : GalEph) → galileo_week_number e < 4096
week_low e = omega arith

pub second_low : (r : ℕ) (e : GalEph) → IsSentGal r e → IsSecond (galileo_second e)
second_low r e h = omega (arith, h.item.ranges.w1.toe)

fact1 : (laws : ReadLaws) (r s : ℕ) (e : GalEph) → IsSentGal r e → of_word (reading_of (word1_bytes e.w1) e.sat (s + 1)) ≡ Received (part (s + 1) e.sat (OfWord1 e.w1)) ∷ []
fact1 laws r s e h = ap of_word (laws.word1 e.w1 e.sat (s + 1) h.item.ranges.w1)

fact2 : (laws : ReadLaws) (r s : ℕ) (e : GalEph) → IsSentGal r e → of_word (reading_of (word2_bytes e.w2) e.sat (s + 2 + 1)) ≡ Received (part (s + 3) e.sat (OfWord2 e.w2)) ∷ []
fact2 laws r s e h = let at : s + 2 + 1 ≡ s + 3 = omega arith in ap (λ t. of_word (reading_of (word2_bytes e.w2) e.sat t)) at ∙ ap of_word (laws.word2 e.w2 e.sat (s + 3) h.item.ranges.w2)

fact3 : (laws : ReadLaws) (r s : ℕ) (e : GalEph) → IsSentGal r e → of_word (reading_of (word3_bytes e.w3) e.sat (s + 4 + 1)) ≡ Received (part (s + 5) e.sat (OfWord3 e.w3)) ∷ []
fact3 laws r s e h = let at : s + 4 + 1 ≡ s + 5 = omega arith in ap (λ t. of_word (reading_of (word3_bytes e.w3) e.sat t)) at ∙ ap of_word (laws.word3 e.w3 e.sat (s + 5) h.item.ranges.w3)

fact4 : (laws : ReadLaws) (r s : ℕ) (e : GalEph) → IsSentGal r e
    → of_word (reading_of (word4_bytes e.w4 e.sat.number) e.sat (s + 6 + 1)) ≡ Received (part (s + 7) e.sat (OfWord4 e.w4)) ∷ []
fact4 laws r s e h = let at : s + 6 + 1 ≡ s + 7 = omega arith in ap (λ t. of_word (reading_of (word4_bytes e.w4 e.sat.number) e.sat t)) at ∙ ap of_word (laws.word4 e.w4 e.sat (s + 7) h.item.ranges.w4 (sat_low e h.item.ranges.sat h.item.whole.system))

fact5 : (laws : ReadLaws) (r s : ℕ) (e : GalEph) → IsSentGal r e
    → of_word (reading_of (word5_bytes e.health no_ionosphere (galileo_week_number e) (galileo_second e)) e.sat (s + 8 + 1))
    ≡ Received (part (s + 9) e.sat (OfHealth e.health (Sent (galileo_week_number e) (galileo_second e))))
    ∷ Received (part (s + 9) e.sat (OfGalIon no_ionosphere (galileo_week_number e) (galileo_second e))) ∷ []
fact5 laws r s e h = let at : s + 8 + 1 ≡ s + 9 = omega arith in ap (λ t. of_word (reading_of (word5_bytes e.health no_ionosphere (galileo_week_number e) (galileo_second e)) e.sat t)) at ∙ ap of_word (laws.word5 e.health no_ionosphere (galileo_week_number e) (galileo_second e) e.sat (s + 9) h.item.ranges.health no_ion (week_low e) (second_low r e h))

-- the parts of a slot are those that its subframes and pages yield
parts_yielded : (laws : ReadLaws) (r s : ℕ) (x : NavItem) (p : Part) → IsSent r x → In (parts_at s x) p → Yields (subs_at s x) (pages_at s x) p
parts_yielded laws r s (Gps e) p h (inl is) = inl (clock_sub s e, inl refl, (sub_yields (clock_sub s e) _ p (clock_fact laws r s e h)).0 is)
parts_yielded laws r s (Gps e) p h (inr (inl is)) = inl (a_sub s e, inr (inl refl), (sub_yields (a_sub s e) _ p (a_fact laws r s e h)).0 is)
parts_yielded laws r s (Gps e) p h (inr (inr (inl is))) = inl (b_sub s e, inr (inr (inl refl)), (sub_yields (b_sub s e) _ p (b_fact laws r s e h)).0 is)
parts_yielded laws r s (Gps e) p h (inr (inr (inr is))) = absurd is
parts_yielded laws r s (Gal e) p h (inl is) = inr (page1 s e, inl refl, (page_yields (page1 s e) _ p (fact1 laws r s e h)).0 is)
parts_yielded laws r s (Gal e) p h (inr (inl is)) = inr (page2 s e, inr (inl refl), (page_yields (page2 s e) _ p (fact2 laws r s e h)).0 is)
parts_yielded laws r s (Gal e) p h (inr (inr (inl is))) = inr (page3 s e, inr (inr (inl refl)), (page_yields (page3 s e) _ p (fact3 laws r s e h)).0 is)
parts_yielded laws r s (Gal e) p h (inr (inr (inr (inl is)))) = inr (page4 s e, inr (inr (inr (inl refl))), (page_yields (page4 s e) _ p (fact4 laws r s e h)).0 is)
parts_yielded laws r s (Gal e) p h (inr (inr (inr (inr (inl is))))) =
    inr (page5 s e, inr (inr (inr (inr (inl refl)))), (page_yields_two (page5 s e) _ _ p (fact5 laws r s e h)).0 (inl is))
parts_yielded laws r s (Gal e) p h (inr (inr (inr (inr (inr (inl is)))))) =
    inr (page5 s e, inr (inr (inr (inr (inl refl)))), (page_yields_two (page5 s e) _ _ p (fact5 laws r s e h)).0 (inr is))
parts_yielded laws r s (Gal e) p h (inr (inr (inr (inr (inr (inr is)))))) = absurd is
parts_yielded laws r s (Ion e) p h is = absurd is

sub_back : (laws : ReadLaws) (r s : ℕ) (x : NavItem) (b : Sub) (p : Part) → IsSent r x → In (subs_at s x) b → SubGives b p → In (parts_at s x) p
sub_back laws r s (Gps e) b p h (inl is) gives =
    inl ((sub_yields (clock_sub s e) _ p (clock_fact laws r s e h)).1 (subst (λ (z : Sub). SubGives z p) (sym is) gives))
sub_back laws r s (Gps e) b p h (inr (inl is)) gives =
    inr (inl ((sub_yields (a_sub s e) _ p (a_fact laws r s e h)).1 (subst (λ (z : Sub). SubGives z p) (sym is) gives)))
sub_back laws r s (Gps e) b p h (inr (inr (inl is))) gives =
    inr (inr (inl ((sub_yields (b_sub s e) _ p (b_fact laws r s e h)).1 (subst (λ (z : Sub). SubGives z p) (sym is) gives))))
sub_back laws r s (Gps e) b p h (inr (inr (inr is))) gives = absurd is
sub_back laws r s (Gal e) b p h is gives = absurd is
sub_back laws r s (Ion e) b p h is gives = absurd is

page_back : (laws : ReadLaws) (r s : ℕ) (x : NavItem) (g : Page) (p : Part) → IsSent r x → In (pages_at s x) g → PageGives g p → In (parts_at s x) p
page_back laws r s (Gps e) g p h is gives = absurd is
page_back laws r s (Gal e) g p h (inl is) gives =
    inl ((page_yields (page1 s e) _ p (fact1 laws r s e h)).1 (subst (λ (z : Page). PageGives z p) (sym is) gives))
page_back laws r s (Gal e) g p h (inr (inl is)) gives =
    inr (inl ((page_yields (page2 s e) _ p (fact2 laws r s e h)).1 (subst (λ (z : Page). PageGives z p) (sym is) gives)))
page_back laws r s (Gal e) g p h (inr (inr (inl is))) gives =
    inr (inr (inl ((page_yields (page3 s e) _ p (fact3 laws r s e h)).1 (subst (λ (z : Page). PageGives z p) (sym is) gives))))
page_back laws r s (Gal e) g p h (inr (inr (inr (inl is)))) gives =
    inr (inr (inr (inl ((page_yields (page4 s e) _ p (fact4 laws r s e h)).1 (subst (λ (z : Page). PageGives z p) (sym is) gives)))))
page_back laws r s (Gal e) g p h (inr (inr (inr (inr (inl is))))) gives =
    elim ((page_yields_two (page5 s e) _ _ p (fact5 laws r s e h)).1 (subst (λ (z : Page). PageGives z p) (sym is) gives)) [
      | inl a ↦ inr (inr (inr (inr (inl a))))
      | inr a ↦ inr (inr (inr (inr (inr (inl a)))))
    ]
page_back laws r s (Gal e) g p h (inr (inr (inr (inr (inr is))))) gives = absurd is
page_back laws r s (Ion e) g p h is gives = absurd is

-- each item may be sent, and there is a slot for it
abbrev pub InSlots : ℕ → ℕ → List NavItem → Type 0
InSlots r slot [] = Unit {0}
InSlots r slot (x ∷ xs) = IsSent r x × (slot < 198842) × InSlots r (slot + 1) xs

-- each item may be sent
abbrev pub MayBeSent : ℕ → List Sending → Type 0
MayBeSent r [] = Unit {0}
MayBeSent r (x ∷ xs) = IsSent r x.item × MayBeSent r xs

slots_sent : (r slot : ℕ) (xs : List NavItem) → InSlots r slot xs → MayBeSent r (slots_sendings slot xs)
slots_sent r slot [] h = tt
slots_sent r slot (x ∷ xs) h = (h.0, slots_sent r (slot + 1) xs h.2)

sendings_yielded : (laws : ReadLaws) (r : ℕ) (xs : List Sending) (p : Part) → MayBeSent r xs → In (sendings_parts xs) p → Yields (sendings_subs xs) (sendings_pages xs) p
sendings_yielded laws r [] p h i = absurd i
sendings_yielded laws r (x ∷ xs) p h i =
    elim (In-append_cases (parts_at x.stamp x.item) (sendings_parts xs) p i) [
      | inl j ↦ elim (parts_yielded laws r x.stamp x.item p h.0 j) [
        | inl b ↦ inl (b.0, In-append_left (subs_at x.stamp x.item) (sendings_subs xs) b.0 b.1, b.2)
        | inr g ↦ inr (g.0, In-append_left (pages_at x.stamp x.item) (sendings_pages xs) g.0 g.1, g.2)
      ]
      | inr j ↦ elim (sendings_yielded laws r xs p h.1 j) [
        | inl b ↦ inl (b.0, In-append_right (subs_at x.stamp x.item) (sendings_subs xs) b.0 b.1, b.2)
        | inr g ↦ inr (g.0, In-append_right (pages_at x.stamp x.item) (sendings_pages xs) g.0 g.1, g.2)
      ]
    ]

sub_in_sendings : (laws : ReadLaws) (r : ℕ) (xs : List Sending) (b : Sub) (p : Part) → MayBeSent r xs → In (sendings_subs xs) b → SubGives b p → In (sendings_parts xs) p
sub_in_sendings laws r [] b p h i gives = absurd i
sub_in_sendings laws r (x ∷ xs) b p h i gives =
    elim (In-append_cases (subs_at x.stamp x.item) (sendings_subs xs) b i) [
      | inl j ↦ In-append_left (parts_at x.stamp x.item) (sendings_parts xs) p (sub_back laws r x.stamp x.item b p h.0 j gives)
      | inr j ↦ In-append_right (parts_at x.stamp x.item) (sendings_parts xs) p (sub_in_sendings laws r xs b p h.1 j gives)
    ]

page_in_sendings : (laws : ReadLaws) (r : ℕ) (xs : List Sending) (g : Page) (p : Part) → MayBeSent r xs → In (sendings_pages xs) g → PageGives g p → In (sendings_parts xs) p
page_in_sendings laws r [] g p h i gives = absurd i
page_in_sendings laws r (x ∷ xs) g p h i gives =
    elim (In-append_cases (pages_at x.stamp x.item) (sendings_pages xs) g i) [
      | inl j ↦ In-append_left (parts_at x.stamp x.item) (sendings_parts xs) p (page_back laws r x.stamp x.item g p h.0 j gives)
      | inr j ↦ In-append_right (parts_at x.stamp x.item) (sendings_parts xs) p (page_in_sendings laws r xs g p h.1 j gives)
    ]

-- the parts received of what is sent are its parts
pub sendings_are_heard : (laws : ReadLaws) (pages : PageLaws) (r w b : ℕ) (xs : List Sending) (p : Part) → MayBeSent r xs → AreApart b xs
    → IsPartReceived w (sendings_items xs) p ↔ In (sendings_parts xs) p
sendings_are_heard laws pages r w b xs p h apart = (
  λ heard. elim (heard_is_yielded w b (sendings_items xs) (sendings_subs xs) (sendings_pages xs) p pages (sendings_send laws xs) (sendings_pages_order b xs apart) heard) [
    | inl b ↦ sub_in_sendings laws r xs b.0 p h b.1 b.2
    | inr g ↦ page_in_sendings laws r xs g.0 p h g.1 g.2
  ],
  λ i. yielded_is_heard w b (sendings_items xs) (sendings_subs xs) (sendings_pages xs) p pages (sendings_send laws xs) (sendings_order b xs apart)
      (sendings_yielded laws r xs p h i),
)

-- the parts received from a transmission are those of the slots
pub slots_are_heard : (laws : ReadLaws) (pages : PageLaws) (r w slot : ℕ) (xs : List NavItem) (p : Part) → InSlots r slot xs
    → IsPartReceived w (slots_items slot xs) p ↔ In (slots_parts slot xs) p
slots_are_heard laws pages r w slot xs p h =
    subst₂ (λ (l : List LineItem) (m : List Part). IsPartReceived w l p ↔ In m p) (slots_items_are slot xs) (slots_parts_are slot xs)
    (sendings_are_heard laws pages r w (slot_stamp slot) (slots_sendings slot xs) p (slots_sent r slot xs h) (slots_apart slot xs))
