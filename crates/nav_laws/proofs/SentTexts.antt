-- The lines of a text of items that spell them are these items.
use Rattle.std.proofs.Common.{◌≡◌, ℕ, ◌≤◌, ◌==◌, Bool, true, false, if◌then◌else◌, List, [], ◌∷◌, ◌++◌, length, All, codes, refl, sym, ap, ◌∙◌, arith, append_assoc, eqb-true}
use Rattle.std.specs.Prelude.{drop}
use Rattle.std.proofs.lemmas.List.Elements.{All-head, All-tail}
use Rattle.nav_io.specs.Lines.{IsOneLine, ends, lines_by, without_cr}
use Rattle.capture_lines.specs.Reading.{item_of}
use Rattle.capture_lines.specs.Spellings.{IsEnded, IsPrinted, IsSpelling, StandsFor}
use Rattle.capture_lines.specs.declared.item.LineItem.{LineItem}
use Rattle.capture_lines.specs.declared.item.LineItem.TheVariants.{Pass, Lnav, Half, Frame, Malformed}
use Rattle.capture_log.specs.Log.{line_items_of}
use Rattle.sent_captures.specs.Slots.{text_of_item, text_of_items}
use Rattle.sent_captures.specs.Sendable.{sent_lines, sent_text}
use Rattle.nav_eph.specs.declared.items.NavItem.{NavItem}

-- what the laws of lines say
pub record LineLaws : Type 0 where
  pub printed : (item : LineItem) (line : List ℕ) → IsSpelling item line → All IsPrinted line
  pub short : (item : LineItem) (line : List ℕ) → IsSpelling item line → length line ≤ 2200
  pub only : (line : List ℕ) (item : LineItem) → StandsFor item line → item ≡ item_of line
  pub given : (more : Bool) (line rest : List ℕ) → IsOneLine line → lines_by more (line ++ 10 ∷ rest) ≡ record { text = line; long = false } ∷ lines_by more rest

-- the text of the item is a line that spells it
abbrev pub IsSpelt : LineItem → Type 0
IsSpelt item = IsEnded (IsSpelling item) (text_of_item item)

abbrev pub AreSpelt : List LineItem → Type 0
AreSpelt [] = Unit {0}
AreSpelt (x ∷ xs) = IsSpelt x × AreSpelt xs

pub spelt_append : (xs ys : List LineItem) → AreSpelt xs → AreSpelt ys → AreSpelt (xs ++ ys)
spelt_append [] ys a b = b
spelt_append (x ∷ xs) ys a b = (a.0, spelt_append xs ys a.1 b)

not_end : (x : ℕ) (xs : List ℕ) (t : Bool) → (x == 10) ≡ t → IsPrinted x → ends xs ≡ false → (if t then true else ends xs) ≡ false
not_end x xs true e p h = absurd (let is = eqb-true x 10 e in omega (arith, is, p.0))
not_end x xs false e p h = h

pub no_end : (line : List ℕ) → All IsPrinted line → ends line ≡ false
no_end [] all = refl
no_end (x ∷ xs) all = not_end x xs (x == 10) refl (All-head IsPrinted x xs all) (no_end xs (All-tail IsPrinted x xs all))

not_cr : (x : ℕ) (t : Bool) → (x == 13) ≡ t → IsPrinted x → (if t then [] else x ∷ []) ≡ x ∷ []
not_cr x true e p = absurd (let is = eqb-true x 13 e in omega (arith, is, p.0))
not_cr x false e p = refl

pub no_cr : (line : List ℕ) → All IsPrinted line → without_cr line ≡ line
no_cr [] all = refl
no_cr (x ∷ []) all = not_cr x (x == 13) refl (All-head IsPrinted x [] all)
no_cr (x ∷ y ∷ ys) all = ap (λ t. x ∷ t) (no_cr (y ∷ ys) (All-tail IsPrinted x (y ∷ ys) all))

stands : (item : LineItem) (line : List ℕ) → IsSpelling item line → StandsFor item line
stands Pass line h = absurd h
stands (Lnav t sat bits) line h = h
stands (Half t sat signal bits) line h = h
stands (Frame t bytes) line h = h
stands Malformed line h = absurd h

pub lines_are : LineLaws → (xs : List LineItem) → AreSpelt xs → line_items_of (lines_by false (text_of_items xs)) ≡ xs
lines_are laws [] h = refl
lines_are laws (x ∷ xs) h =
    let line = h.0.0 in
    let spelling = h.0.2 in
    let whole : IsOneLine line = record { none = no_end line (laws.printed x line spelling); last = no_cr line (laws.printed x line spelling); short = laws.short x line spelling } in
    let text : text_of_item x ++ text_of_items xs ≡ line ++ 10 ∷ text_of_items xs =
    ap (λ t. t ++ text_of_items xs) h.0.1 ∙ append_assoc line (10 ∷ []) (text_of_items xs) in
    ap (λ t. line_items_of (lines_by false t)) text
    ∙ ap line_items_of (laws.given false line (text_of_items xs) whole)
    ∙ ap (λ item. item ∷ line_items_of (lines_by false (text_of_items xs))) (sym (laws.only line x (stands x line spelling)))
    ∙ ap (λ rest. x ∷ rest) (lines_are laws xs h.1)

pub sent_lines_are : LineLaws → (r : ℕ) (items : List NavItem) → AreSpelt (sent_lines r items)
    → line_items_of (drop 1 (lines_by false (sent_text r items))) ≡ sent_lines r items
unfolding sent_text
sent_lines_are laws r items h =
    let whole : IsOneLine (codes "NAVCAP 1") = record { none = refl; last = refl; short = omega arith } in
    ap (λ l. line_items_of (drop 1 l)) (laws.given false (codes "NAVCAP 1") (text_of_items (sent_lines r items)) whole)
    ∙ lines_are laws (sent_lines r items) h
