-- The lines of what is sent, and of two lists of it concatenated.
use Rattle.std.proofs.Common.{◌≡◌, ℕ, suc, ◌+◌, Bool, true, false, if◌then◌else◌, List, [], ◌∷◌, ◌++◌, length, refl, ap, sym, ◌∙◌, append_assoc, arith}
use Rattle.nav_eph.specs.declared.items.NavItem.{NavItem}
use Rattle.capture_lines.specs.declared.item.LineItem.{LineItem}
use Rattle.sent_captures.specs.Slots.{slot_items, text_of_item, text_of_items}
use Rattle.sent_captures.specs.Sendable.{is_sent, sendable, slots_items}

pub texts_append : (xs ys : List LineItem) → text_of_items (xs ++ ys) ≡ text_of_items xs ++ text_of_items ys
texts_append [] ys = refl
texts_append (x ∷ xs) ys =
    ap (λ t. text_of_item x ++ t) (texts_append xs ys) ∙ sym (append_assoc (text_of_item x) (text_of_items xs) (text_of_items ys))

pub slots_append : (slot : ℕ) (some more : List NavItem) → slots_items slot (some ++ more) ≡ slots_items slot some ++ slots_items (slot + length some) more
slots_append slot [] more = let e : slot ≡ slot + 0 = omega arith in ap (λ s. slots_items s more) e
slots_append slot (x ∷ xs) more =
    let e : slot + 1 + length xs ≡ slot + length (x ∷ xs) = omega arith in
    ap (λ t. slot_items slot x ++ t) (slots_append (slot + 1) xs more ∙ ap (λ s. slots_items (slot + 1) xs ++ slots_items s more) e)
    ∙ sym (append_assoc (slot_items slot x) (slots_items (slot + 1) xs) (slots_items (slot + length (x ∷ xs)) more))

pub sendable_append : (r slot : ℕ) (some more : List NavItem)
    → sendable r slot (some ++ more) ≡ sendable r slot some ++ sendable r (slot + length (sendable r slot some)) more
sendable_append r slot [] more = let e : slot ≡ slot + 0 = omega arith in ap (λ s. sendable r s more) e
sendable_append r slot (x ∷ xs) more = by (is_sent r x slot) (sendable_append r (slot + 1) xs more) (sendable_append r slot xs more)
  where
    by : (t : Bool)
        → sendable r (slot + 1) (xs ++ more) ≡ sendable r (slot + 1) xs ++ sendable r (slot + 1 + length (sendable r (slot + 1) xs)) more
        → sendable r slot (xs ++ more) ≡ sendable r slot xs ++ sendable r (slot + length (sendable r slot xs)) more
        → (if t then x ∷ sendable r (slot + 1) (xs ++ more) else sendable r slot (xs ++ more))
        ≡ (if t then x ∷ sendable r (slot + 1) xs else sendable r slot xs)
        ++ sendable r (slot + length (if t then x ∷ sendable r (slot + 1) xs else sendable r slot xs)) more
    by true sent kept =
        let n = length (sendable r (slot + 1) xs) in
        let e : slot + 1 + n ≡ slot + suc n = omega arith in
        ap (λ t. x ∷ t) (sent ∙ ap (λ s. sendable r (slot + 1) xs ++ sendable r s more) e)
    by false sent kept = kept

-- one more page after the pages of a slot
pub five_pages : (a b c d e : List LineItem) (p q s t u : List ℕ)
    → p ≡ text_of_items a → q ≡ p ++ text_of_items b → s ≡ q ++ text_of_items c → t ≡ s ++ text_of_items d → u ≡ t ++ text_of_items e
    → u ≡ text_of_items (a ++ (b ++ (c ++ (d ++ e))))
five_pages a b c d e p q s t u is_p is_q is_s is_t is_u =
    is_u ∙ ap (λ x. x ++ text_of_items e) (is_t ∙ ap (λ x. x ++ text_of_items d) (is_s ∙ ap (λ x. x ++ text_of_items c) (is_q ∙ ap (λ x. x ++ text_of_items b) is_p)))
    ∙ append_assoc (((text_of_items a ++ text_of_items b) ++ text_of_items c)) (text_of_items d) (text_of_items e)
    ∙ append_assoc (text_of_items a ++ text_of_items b) (text_of_items c) (text_of_items d ++ text_of_items e)
    ∙ append_assoc (text_of_items a) (text_of_items b) (text_of_items c ++ (text_of_items d ++ text_of_items e))
    ∙ sym (texts_append a (b ++ (c ++ (d ++ e)))
    ∙ ap (λ x. text_of_items a ++ x) (texts_append b (c ++ (d ++ e))
    ∙ ap (λ x. text_of_items b ++ x) (texts_append c (d ++ e) ∙ ap (λ x. text_of_items c ++ x) (texts_append d e))))
