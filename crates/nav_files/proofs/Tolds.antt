-- The outcomes of records, and of one more; and their text is the capture that transmits them.
use Rattle.std.proofs.Common.{◌≡◌, ℕ, suc, ◌+◌, ◌≤◌, ◌<◌, ◌&&◌, Bool, true, false, if◌then◌else◌, List, [], ◌∷◌, ◌++◌, length, map, sum, None, Some, Option, refl, sym, ap, ◌∙◌, arith, length-append, leb-false}
use Rattle.std.specs.List.{flat_map, sum_by}
use Rattle.std.proofs.lemmas.List.Sums.{sum-map, sum_by-append}
use Rattle.nav_eph.specs.declared.items.NavItem.{NavItem}
use Rattle.rinex_read.specs.Files.{items_of}
use Rattle.rinex_read.specs.declared.judged.ItemRead.{ItemRead}
use Rattle.rinex_read.specs.declared.judged.ItemRead.TheVariants as reads
use Rattle.nav_files.specs.declared.counts.RinexCounts.{RinexCounts}
use Rattle.sent_captures.specs.declared.fault.SendFault.{SendFault}
use Rattle.sent_captures.specs.Slots.{slot_items, slot_text, text_of_items}
use Rattle.sent_captures.specs.Sendable.{first_fault, has_other_issue, is_ephemeris, is_far, is_full, no_fault, send_fault, sendable, slots_items}
use Rattle.sent_captures.proofs.Surface.{texts_append}
use Rattle.nav_files.specs.declared.outcome.SendOutcome.{SendOutcome}
use Rattle.nav_files.specs.Following.{counted}
use Rattle.nav_files.specs.Sends.{counts_of_outcomes, is_item, is_passed, is_rejection, slot_behind, slots_behind, told, outcome_item, outcome_text, send_outcomes}

-- one record more
pub tolds_more : (r slot : ℕ) (given : List ItemRead) (read : ItemRead)
    → send_outcomes r slot (given ++ read ∷ []) ≡ send_outcomes r slot given ++ told r (slots_behind r slot given) read ∷ []
tolds_more r slot [] read = refl
tolds_more r slot (x ∷ xs) read = ap (λ t. told r slot x ∷ t) (tolds_more r (slot_behind slot (told r slot x)) xs read)

pub slots_more : (r slot : ℕ) (given : List ItemRead) (read : ItemRead)
    → slots_behind r slot (given ++ read ∷ []) ≡ slot_behind (slots_behind r slot given) (told r (slots_behind r slot given) read)
slots_more r slot [] read = refl
slots_more r slot (x ∷ xs) read = slots_more r (slot_behind slot (told r slot x)) xs read

pub tolds_append : (r slot : ℕ) (some more : List ItemRead) → send_outcomes r slot (some ++ more) ≡ send_outcomes r slot some ++ send_outcomes r (slots_behind r slot some) more
tolds_append r slot [] more = refl
tolds_append r slot (x ∷ xs) more = ap (λ t. told r slot x ∷ t) (tolds_append r (slot_behind slot (told r slot x)) xs more)

-- ---- slots are few

fault_low : (issue week : Bool) (slot : ℕ) → first_fault issue week (is_full slot) ≡ None → slot < 198842
fault_low true week slot e = absurd cc
fault_low false true slot e = absurd cc
fault_low false false slot e = by (is_full slot) refl e
  where
    by : (t : Bool) → is_full slot ≡ t → first_fault false false t ≡ None → slot < 198842
    by true is e = absurd cc
    by false is e = leb-false 198842 slot is

item_low : (r slot line : ℕ) (item : NavItem) (b : Bool) (o : Option SendFault) → o ≡ send_fault r item slot
    → slot ≤ 198842 → slot_behind slot (outcome_item line slot item b o) ≤ 198842
item_low r slot line item false o is low = low
item_low r slot line item true None is low =
    let l = fault_low (has_other_issue item) (is_far r item) slot (sym is) in omega (arith, l)
item_low r slot line item true (Some fault) is low = low

behind_low : (r slot : ℕ) (read : ItemRead) → slot ≤ 198842 → slot_behind slot (told r slot read) ≤ 198842
behind_low r slot (reads.Item line item) low = item_low r slot line item (is_ephemeris item) (send_fault r item slot) refl low
behind_low r slot (reads.Refused line reason) low = low
behind_low r slot (reads.PassedOver line) low = low

pub slots_low : (r slot : ℕ) (given : List ItemRead) → slot ≤ 198842 → slots_behind r slot given ≤ 198842
slots_low r slot [] low = low
slots_low r slot (x ∷ xs) low = slots_low r (slot_behind slot (told r slot x)) xs (behind_low r slot x low)

pub room_for : (r slot : ℕ) (given : List ItemRead) → slot ≡ slots_behind r 0 given → slot ≤ 4000000000
room_for r slot given is = omega (arith, slots_low r 0 given (omega arith), is)

-- ---- counts

count-append : (kind : SendOutcome → ℕ) (xs ys : List SendOutcome) → sum (map kind (xs ++ ys)) ≡ sum (map kind xs) + sum (map kind ys)
count-append kind xs ys =
    sum-map kind (xs ++ ys) ∙ sum_by-append kind xs ys ∙ sym (ap (λ m. m + sum (map kind ys)) (sum-map kind xs) ∙ ap (λ m. sum_by kind xs + m) (sum-map kind ys))

counts_are : (c : RinexCounts) (records refused passed items : ℕ) → c.records ≡ records → c.refused ≡ refused → c.passed ≡ passed → c.items ≡ items
    → c ≡ record { records = records; refused = refused; passed = passed; items = items; times = c.times }
counts_are c records refused passed items a b d e = rw (sym a, sym b, sym d, sym e) refl

-- the counts of records with one more
pub counts_more : (given : List SendOutcome) (x : SendOutcome) → counted (counts_of_outcomes given) x ≡ counts_of_outcomes (given ++ x ∷ [])
counts_more given x =
    counts_are (counted (counts_of_outcomes given) x) _ _ _ _
    (omega (arith, length-append given (x ∷ [])))
    (omega (arith, count-append is_rejection given (x ∷ [])))
    (omega (arith, count-append is_passed given (x ∷ [])))
    (omega (arith, count-append is_item given (x ∷ [])))

pub tolds_length : (r slot : ℕ) (given : List ItemRead) → length (send_outcomes r slot given) ≡ length given
tolds_length r slot [] = refl
tolds_length r slot (x ∷ xs) = ap suc (tolds_length r (slot_behind slot (told r slot x)) xs)

-- ---- the text

item_text : (r slot line : ℕ) (item : NavItem) (rest : List NavItem) (t : ℕ → List ℕ) (b : Bool) (o : Option SendFault)
    → ((s : ℕ) → t s ≡ text_of_items (slots_items s (sendable r s rest)))
    → outcome_text (outcome_item line slot item b o) ++ t (slot_behind slot (outcome_item line slot item b o))
    ≡ text_of_items (slots_items slot (if b && no_fault o then item ∷ sendable r (slot + 1) rest else sendable r slot rest))
unfolding slot_text
item_text r slot line item rest t false o h = h slot
item_text r slot line item rest t true None h =
    ap (λ x. text_of_items (slot_items slot item) ++ x) (h (slot + 1))
    ∙ sym (texts_append (slot_items slot item) (slots_items (slot + 1) (sendable r (slot + 1) rest)))
item_text r slot line item rest t true (Some fault) h = h slot

pub texts_are : (r slot : ℕ) (given : List ItemRead) → flat_map outcome_text (send_outcomes r slot given) ≡ text_of_items (slots_items slot (sendable r slot (items_of given)))
texts_are r slot [] = refl
texts_are r slot (reads.Item line item ∷ xs) =
    item_text r slot line item (items_of xs) (λ s. flat_map outcome_text (send_outcomes r s xs)) (is_ephemeris item) (send_fault r item slot) (λ s. texts_are r s xs)
texts_are r slot (reads.Refused line reason ∷ xs) = texts_are r slot xs
texts_are r slot (reads.PassedOver line ∷ xs) = texts_are r slot xs
