-- The fields that are written are those that are read.
use Rattle.std.proofs.Common.{◌≡◌, ℕ, zero, suc, ◌+◌, ◌*◌, ◌/◌, ◌%◌, ◌^◌, ◌<◌, ◌≤◌, ◌==◌, ◌&&◌, ◌||◌, not, ◌⊎◌, nat_le, nat_lt, Bool, true, false, if◌then◌else◌, List, [], ◌∷◌, ◌++◌, length, take, drop, get_or, codes, Result, Ok, Err, refl, ap, sym, ◌∙◌, inl, inr, ⊎_elim, subst, arith, ℤ, pos, negsuc, ◌≤ℤ◌, int_le, unsigned_abs, ◌-ℤ◌, int_lt, append_assoc, length-append, eqb-true, ne_eqb}
use Rattle.std.proofs.lemmas.Bool.{and_parts, cases_lt, leb-true}
use Rattle.std.proofs.lemmas.Int.{ints}
use Rattle.std.proofs.lemmas.Nat.{le-div}
use Rattle.std.proofs.lemmas.Bool.Decides.{nat_tests}
use Rattle.scaled_decimal.specs.declared.scales.Scale.{Scale}
use Rattle.scaled_decimal.specs.ScaleValue.{size_of, AreWithin, AreFar, IsAccepted, IsScale}
use Rattle.scaled_decimal.specs.NumberReading.{at_size, blank, number, seen}
use Rattle.scaled_decimal.proofs.Surface.{is_scale}
use Rattle.scaled_decimal.proofs.Surface.{text_seen}
use Rattle.scaled_decimal.specs.Fractions.{Fraction, nearest_to}
use Rattle.scaled_decimal.specs.NumberText.{number_text}
use Rattle.rinex_write.proofs.Surface.{length-column_text}
use Rattle.rinex_write.specs.declared.columns.Rule.{Rule}
use Rattle.rinex_write.specs.declared.columns.Rule.TheVariants.{Plain, OrZero, OrLeast, OrUnknown, Ura, Sisa, Fit, Sent, Unread}
use Rattle.rinex_write.specs.declared.columns.Column.{Column}
use Rattle.rinex_write.specs.Accuracies.{first_from, ura_nominal, ura_greatest, ura_of, sisa_value, sisa_nominal, sisa_from, sisa_of}
use Rattle.rinex_write.specs.Columns.{blanks, is_blank, is_unknown, is_below_unknown, not_known, unknown_text, shown, IsField, AreFields, column_text, row_text, row_lines, joined_rows, is_good_scale, is_near_scale, is_far_scale, is_good_range, is_good_rule, are_good}
use Rattle.rinex_read.specs.declared.reason.RecordFault.{RecordFault}
use Rattle.rinex_read.specs.declared.reason.RecordFault.TheVariants as reasons
use Rattle.rinex_read.specs.Fields.{◌>>=◌, in_range, sent_or_unknown, taken, whole, or_unknown, field_of, field_at, read_row, read_rows}
use Rattle.rinex_read.proofs.ColumnLemmas.{columns_at}

pub bind_ok : {A B : Type 0} (r : Result A RecordFault) (x : A) (f : A → Result B RecordFault) → r ≡ Ok x → (r >>= f) ≡ f x
bind_ok r x f e = ap (λ s. s >>= f) e

pub le_true : (a b : ℤ) → a ≤ℤ b → int_le a b ≡ true
le_true a b h = grind (arith, ints)

pub le_from : (a b : ℤ) → int_le a b ≡ true → a ≤ℤ b
le_from a b h = grind (arith, ints)

pub not_le : (a b : ℤ) → (a ≤ℤ b → ⊥) → int_le a b ≡ false
not_le a b h = grind (arith, ints)

pub in_range-ok : (low high z : ℤ) → low ≤ℤ z → z ≤ℤ high → in_range low high z ≡ Ok z
in_range-ok low high z from to =
    ap (λ b. if b && int_le z high then Ok z else Err reasons.OutOfRange) (le_true low z from)
    ∙ ap (λ b. if b then Ok z else Err reasons.OutOfRange) (le_true z high to)

-- a test of each number below n
abbrev all_below : ℕ → (ℕ → Bool) → Bool
all_below zero p = true
all_below (suc n) p = p n && all_below n p

at_below : (n : ℕ) (p : ℕ → Bool) (k : ℕ) → all_below n p ≡ true → k < n → p k ≡ true
at_below zero p k h lt = absurd (omega arith)
at_below (suc n) p k h lt =
    let both = and_parts (p n) (all_below n p) h in
    ⊎_elim (λ (below : k < n). at_below n p k both.1 below) (λ (above : n ≤ k). let is : k ≡ n = omega arith in ap p is ∙ both.0) (cases_lt k n)

abbrev is_ura : ℕ → Bool
is_ura k = nat_le (get_or ura_nominal k 0) 100000000 && first_from (get_or ura_nominal k 0) ura_greatest == k

all_ura : all_below 16 is_ura ≡ true
unfolding ura_nominal ura_greatest
all_ura = refl

ura_again : (k : ℕ) → k < 16 → taken Ura (number (pos (get_or ura_nominal k 0))) ≡ Ok (pos k)
unfolding ura_of
ura_again k h =
    let n = get_or ura_nominal k 0 in
    let both = and_parts (nat_le n 100000000) (first_from n ura_greatest == k) (at_below 16 is_ura k all_ura h) in
    let least : negsuc 99999999 ≤ℤ pos n = omega (arith, ints) in
    let most : pos n ≤ℤ pos 100000000 = omega (arith, ints, leb-true n 100000000 both.0) in
    bind_ok (in_range (negsuc 99999999) (pos 100000000) (pos n)) (pos n) (λ w. Ok (ura_of w)) (in_range-ok (negsuc 99999999) (pos 100000000) (pos n) least most)
    ∙ ap (λ i. Ok (pos i)) (eqb-true (first_from n ura_greatest) k both.1)

abbrev is_sisa : ℕ → Bool
is_sisa k = nat_le (sisa_value k) 600 && sisa_from 125 0 (sisa_value k) == k

all_sisa : all_below 126 is_sisa ≡ true
unfolding sisa_from
all_sisa = refl

sisa_below : (k : ℕ) → k < 126 → taken Sisa (number (sisa_nominal k)) ≡ Ok (pos k)
unfolding sisa_of sisa_nominal
sisa_below k h =
    let n = sisa_value k in
    let both = and_parts (nat_le n 600) (sisa_from 125 0 n == k) (at_below 126 is_sisa k all_sisa h) in
    let small : n ≤ 600 = leb-true n 600 both.0 in
    let least : negsuc 99999999 ≤ℤ pos n = omega (arith, ints) in
    let most : pos n ≤ℤ pos 100000000 = omega (arith, ints, small) in
    ap (λ b. taken Sisa (number (if b then negsuc 99 else pos n))) (ne_eqb k 255 (λ e. omega arith))
    ∙ bind_ok (in_range (negsuc 99999999) (pos 100000000) (pos n)) (pos n) (λ w. Ok (sisa_of w)) (in_range-ok (negsuc 99999999) (pos 100000000) (pos n) least most)
    ∙ ap (λ b. Ok (if b then pos (sisa_from 125 0 n) else pos 255)) both.0
    ∙ ap (λ i. Ok (pos i)) (eqb-true (sisa_from 125 0 n) k both.1)

sisa_none : taken Sisa (number (sisa_nominal 255)) ≡ Ok (pos 255)
unfolding sisa_of sisa_nominal
sisa_none = refl

sent_again : (z : ℤ) → negsuc 302399 ≤ℤ z → z ≤ℤ pos 907199 → sent_or_unknown z ≡ z
sent_again z from to =
    ap (λ b. if b && int_le z (pos 907199) then z else pos 999900000) (le_true (negsuc 302399) z from)
    ∙ ap (λ b. if b then z else pos 999900000) (le_true z (pos 907199) to)

-- a number that is known is in the range
known_range : (low high z : ℤ) → is_unknown (OrUnknown low high) z ≡ false → IsField (OrUnknown low high) z → (low ≤ℤ z) × (z ≤ℤ high)
known_range low high z e (inl h) = h
known_range low high z e (inr h) = let no : int_le not_known not_known ≡ false = ap (int_le not_known) (sym h) ∙ e in absurd cc

-- the number of a field is read as that field
pub taken_again : (r : Rule) (z : ℤ) → is_unknown r z ≡ false → IsField r z → taken r (number (shown r z)) ≡ Ok z
taken_again (Plain low high) z known h = in_range-ok low high z h.0 h.1
taken_again (OrZero low high) z known h = in_range-ok low high z h.0 h.1
taken_again (OrLeast low high) z known h = in_range-ok low high z h.0 h.1
taken_again (OrUnknown low high) z known h = (let is = known_range low high z known h in in_range-ok low high z is.0 is.1)
taken_again Ura (pos k) known h = ura_again k (omega (arith, ints, h.1))
taken_again Ura (negsuc k) known h = absurd (omega (arith, ints, h.0))
taken_again Sisa (pos k) known (inl h) = sisa_below k (omega (arith, ints, h.1))
taken_again Sisa (pos k) known (inr h) = let is : k ≡ 255 = cc in subst (λ i. taken Sisa (number (sisa_nominal i)) ≡ Ok (pos i)) (sym is) sisa_none
taken_again Sisa (negsuc k) known (inl h) = absurd (omega (arith, ints, h.0))
taken_again Sisa (negsuc k) known (inr h) = absurd (cc)
taken_again Fit (pos zero) known h = refl
taken_again Fit (pos (suc zero)) known h = refl
taken_again Fit (pos (suc (suc k))) known h = absurd (omega (arith, ints, h.1))
taken_again Fit (negsuc k) known h = absurd (omega (arith, ints, h.0))
taken_again Sent z known (inl h) = ap Ok (sent_again z h.0 h.1)
taken_again Sent z known (inr h) = subst (λ y. taken Sent (number y) ≡ Ok y) (sym h) refl
taken_again (Unread n) z known h = ap Ok (sym h)

abs_small : (z : ℤ) → negsuc 4294967294 ≤ℤ z → z ≤ℤ pos 4294967295 → unsigned_abs z ≤ 4294967295
abs_small (pos n) from to = omega (arith, ints)
abs_small (negsuc n) from to = omega (arith, ints)

range_small : (low high z : ℤ) → is_good_range low high ≡ true → low ≤ℤ z → z ≤ℤ high → unsigned_abs z ≤ 4294967295
range_small low high z good from to =
    let both = and_parts (int_le (negsuc 4294967294) low) (int_le high (pos 4294967295)) good in
    let least = le_from (negsuc 4294967294) low both.0 in
    let most = le_from high (pos 4294967295) both.1 in
    abs_small z (omega (arith, ints, least)) (omega (arith, ints, most))

abbrev is_ura_small : ℕ → Bool
is_ura_small k = nat_le (get_or ura_nominal k 0) 4294967295

all_ura_small : all_below 16 is_ura_small ≡ true
unfolding ura_nominal
all_ura_small = refl

abbrev is_sisa_small : ℕ → Bool
is_sisa_small k = nat_le (unsigned_abs (sisa_nominal k)) 4294967295

all_sisa_small : all_below 256 is_sisa_small ≡ true
unfolding sisa_nominal
all_sisa_small = refl

-- the number of a field has at most 32 bits
shown_small : (s : Scale) (r : Rule) (z : ℤ) → is_good_rule s r ≡ true → is_unknown r z ≡ false → IsField r z → unsigned_abs (shown r z) ≤ 4294967295
shown_small s (Plain low high) z good known h = range_small low high z good h.0 h.1
shown_small s (OrZero low high) z good known h = range_small low high z good h.0 h.1
shown_small s (OrLeast low high) z good known h = range_small low high z good h.0 h.1
shown_small s (OrUnknown low high) z good known h =
    let parts = and_parts (is_good_range low high) (is_below_unknown s high) good in
    let is = known_range low high z known h in
    range_small low high z parts.0 is.0 is.1
shown_small s Ura (pos k) good known h = leb-true (get_or ura_nominal k 0) 4294967295 (at_below 16 is_ura_small k all_ura_small (omega (arith, ints, h.1)))
shown_small s Ura (negsuc k) good known h = absurd (omega (arith, ints, h.0))
shown_small s Sisa (pos k) good known (inl h) = leb-true _ _ (at_below 256 is_sisa_small k all_sisa_small (omega (arith, ints, h.1)))
shown_small s Sisa (pos k) good known (inr h) = let is : k ≡ 255 = cc in leb-true _ _ (at_below 256 is_sisa_small k all_sisa_small (omega arith))
shown_small s Sisa (negsuc k) good known (inl h) = absurd (omega (arith, ints, h.0))
shown_small s Sisa (negsuc k) good known (inr h) = absurd (cc)
shown_small s Fit (pos zero) good known h = omega arith
shown_small s Fit (pos (suc k)) good known h = omega arith
shown_small s Fit (negsuc k) good known h = absurd (omega (arith, ints, h.0))
shown_small s Sent z good known (inl h) = abs_small z (omega (arith, ints, h.0)) (omega (arith, ints, h.1))
shown_small s Sent z good known (inr h) = subst (λ y. unsigned_abs y ≤ 4294967295) (sym h) (omega arith)
shown_small s (Unread n) z good known h =
    let both = and_parts (int_le (negsuc 4294967294) n) (int_le n (pos 4294967295)) good in
    abs_small n (le_from (negsuc 4294967294) n both.0) (le_from n (pos 4294967295) both.1)

-- the bounds of a good scale and a good range
near_within : (s : Scale) → is_near_scale s ≡ true → AreWithin s.factor s.two s.ten
near_within s good =
    let a = nat_le 1 s.factor in
    let b = nat_le s.factor 60 in
    let c = int_le (negsuc 58) s.two in
    let d = int_le s.two (pos 16) in
    let e = int_le (negsuc 1) s.ten in
    let f = int_le s.ten (pos 0) in
    let p5 = and_parts (a && b && c && d && e) f good in
    let p4 = and_parts (a && b && c && d) e p5.0 in
    let p3 = and_parts (a && b && c) d p4.0 in
    let p2 = and_parts (a && b) c p3.0 in
    let p1 = and_parts a b p2.0 in (
      leb-true 1 s.factor p1.0,
      leb-true s.factor 60 p1.1,
      le_from (negsuc 58) s.two p2.1,
      le_from s.two (pos 16) p3.1,
      le_from (negsuc 1) s.ten p4.1,
      le_from s.ten (pos 0) p5.1,
    )

or_parts : (a b : Bool) → (a || b) ≡ true → (a ≡ true) ⊎ (b ≡ true)
or_parts true b e = inl refl
or_parts false b e = inr e

far_shape : (s : Scale) (h : (int_le (negsuc 65) s.two && int_le s.two (negsuc 59) && int_le (pos 0) s.ten && int_le s.ten (pos 0)) ≡ true)
    → (negsuc 65 ≤ℤ s.two) × (s.two ≤ℤ negsuc 59) × (s.ten ≡ pos 0)
far_shape s h = grind (arith, nat_tests, ints)

far_flat : (s : Scale) (h : (int_le (pos 0) s.two && int_le s.two (pos 0) && int_le (negsuc 9) s.ten && int_le s.ten (pos 0)) ≡ true)
    → (s.two ≡ pos 0) × (negsuc 9 ≤ℤ s.ten) × (s.ten ≤ℤ pos 0)
far_flat s h = grind (arith, nat_tests, ints)

plain : (b : Bool) → not b ≡ true → b ≡ false
plain true e = absurd cc
plain false e = refl

far_within : (s : Scale) → is_far_scale s ≡ true → AreFar s.pi s.factor s.two s.ten
far_within s e =
    let a = int_le (negsuc 65) s.two && int_le s.two (negsuc 59) && int_le (pos 0) s.ten && int_le s.ten (pos 0) in
    let b = int_le (pos 0) s.two && int_le s.two (pos 0) && int_le (negsuc 9) s.ten && int_le s.ten (pos 0) in
    let all = and_parts (not s.pi && nat_le 1 s.factor && nat_le s.factor 1000) (a || b) e in
    let two = and_parts (not s.pi && nat_le 1 s.factor) (nat_le s.factor 1000) all.0 in
    let one = and_parts (not s.pi) (nat_le 1 s.factor) two.0 in (
      plain s.pi one.0,
      leb-true 1 s.factor one.1,
      leb-true s.factor 1000 two.1,
      elim (or_parts a b all.1) [ inl h ↦ inl (far_shape s h) | inr h ↦ inr (far_flat s h) ],
    )

pub scale_within : (s : Scale) → is_good_scale s ≡ true → IsAccepted s
scale_within s e = elim (or_parts (is_near_scale s) (is_far_scale s) e) [ inl h ↦ inl (near_within s h) | inr h ↦ inr (far_within s h) ]

pub range_within : (low high : ℤ) → is_good_range low high ≡ true → (negsuc 4294967294 ≤ℤ low) × (high ≤ℤ pos 4294967295)
range_within low high good =
    let both = and_parts (int_le (negsuc 4294967294) low) (int_le high (pos 4294967295)) good in
    (le_from (negsuc 4294967294) low both.0, le_from high (pos 4294967295) both.1)

-- a good scale can express each number
good_scale : (s : Scale) → is_good_scale s ≡ true → IsScale (size_of s)
good_scale s good = is_scale s (scale_within s good)

-- a blank column is read as the field that leaves it blank
blank_again : (r : Rule) (z : ℤ) → is_blank r z ≡ true → IsField r z → taken r blank ≡ Ok z
blank_again (Plain low high) z e is = absurd cc
blank_again (OrZero low high) z e is = absurd cc
blank_again (OrLeast low high) z e is = let few = le_from z low e in let same : low ≡ z = omega (arith, ints, few, is.0) in ap Ok same
blank_again (OrUnknown low high) z e is = absurd cc
blank_again Ura z e is = absurd cc
blank_again Sisa z e is = absurd cc
blank_again Fit z e is = absurd cc
blank_again Sent z e is = absurd cc
blank_again (Unread n) z e is = absurd cc

blanks_seen : (s : Fraction) → seen s blanks ≡ blank
unfolding seen
blanks_seen s = refl

-- the least number of units that 999,999,999 is, where the unit is at most 1
beyond_at : (over under : ℕ) → 0 < over → over ≤ under → 999999999 ≤ nearest_to (record { over = 9999999999990 * 1 * under; under = 10 ^ 4 * over })
beyond_at over under some small =
    let a : Fraction = record { over = 9999999999990 * 1 * under; under = 10 ^ 4 * over } in
    let room : 999999999 * (10 ^ 4 * over) ≤ 9999999999990 * 1 * under = omega (arith, small) in
    rounded (nat_lt (2 * (a.over % a.under)) a.under || (2 * (a.over % a.under) == a.under && a.over / a.under % 2 == 0)) (a.over / a.under) (le-div 999999999 a.over a.under (omega (arith, some)) room)
  where
    rounded : (b : Bool) (n : ℕ) → 999999999 ≤ n → 999999999 ≤ (if b then n else n + 1)
    rounded true n h = h
    rounded false n h = omega arith

-- the text of a number that is not known, in units of at most 1
unknown_seen : (s : Scale) → is_good_scale s ≡ true → (size_of s).over ≤ (size_of s).under
    → (n : ℕ) × (seen (size_of s) unknown_text ≡ number (pos n)) × (999999999 ≤ n)
unfolding seen
unknown_seen s good small = (nearest_to (at_size (size_of s) (record { digits = 9999999999990; exponent = negsuc 3 })), refl, beyond_at (size_of s).over (size_of s).under (good_scale s good).some small)

above_range : (low high : ℤ) (n : ℕ) → high ≤ℤ pos 999999998 → 999999999 ≤ n → in_range low high (pos n) ≡ Err reasons.OutOfRange
above_range low high n most many = go (int_le low (pos n)) (int_le (pos n) high) (not_le (pos n) high (omega (arith, ints, most, many)))
  where
    go : (a b : Bool) → b ≡ false → (if a && b then Ok (pos n) else Err reasons.OutOfRange) ≡ Err reasons.OutOfRange
    go true true e = absurd cc
    go true false e = refl
    go false b e = refl

whole_seen : seen (size_of whole) unknown_text ≡ number (pos 1000000000)
unfolding seen
whole_seen = refl

lt_from : (a b : ℤ) → int_lt a b ≡ true → a ≤ℤ (b -ℤ pos 1)
lt_from a b h = grind (arith, ints)

unknown_field : (low high z : ℤ) → int_le not_known z ≡ true → high ≤ℤ pos 999999998 → IsField (OrUnknown low high) z → not_known ≡ z
unknown_field low high z e most (inl h) = absurd (omega (arith, ints, le_from not_known z e, most, h.1))
unknown_field low high z e most (inr h) = sym h

-- a number that is not known is read as that
unknown_again : (s : Scale) (r : Rule) (z : ℤ) → is_unknown r z ≡ true → is_good_scale s ≡ true → is_good_rule s r ≡ true → IsField r z
    → or_unknown r (seen (size_of whole) unknown_text) (taken r (seen (size_of s) unknown_text)) ≡ Ok z
unknown_again s (OrUnknown low high) z e scale rule is =
    let parts = and_parts (is_good_range low high) (is_below_unknown s high) rule in
    let below = and_parts (nat_le (size_of s).over (size_of s).under) (int_lt high not_known) parts.1 in
    let text = unknown_seen s scale (leb-true _ _ below.0) in
    let most = lt_from high not_known below.1 in
    let same : not_known ≡ z = unknown_field low high z e most is in
    ap (λ t. or_unknown (OrUnknown low high) (seen (size_of whole) unknown_text) (taken (OrUnknown low high) t)) text.1
    ∙ ap (λ t. or_unknown (OrUnknown low high) (seen (size_of whole) unknown_text) t) (above_range low high text.0 most text.2)
    ∙ ap (λ t. or_unknown (OrUnknown low high) t (Err reasons.OutOfRange)) whole_seen
    ∙ ap Ok same
unknown_again s (Plain low high) z e scale rule is = absurd cc
unknown_again s (OrZero low high) z e scale rule is = absurd cc
unknown_again s (OrLeast low high) z e scale rule is = absurd cc
unknown_again s Ura z e scale rule is = absurd cc
unknown_again s Sisa z e scale rule is = absurd cc
unknown_again s Fit z e scale rule is = absurd cc
unknown_again s Sent z e scale rule is = absurd cc
unknown_again s (Unread n) z e scale rule is = absurd cc

text_again : (c : Column) (z : ℤ) (a b : Bool) → is_blank c.rule z ≡ a → is_unknown c.rule z ≡ b → is_good_scale c.scale ≡ true → is_good_rule c.scale c.rule ≡ true
    → IsField c.rule z → field_of c (if a then blanks else if b then unknown_text else number_text (size_of c.scale) (shown c.rule z)) ≡ Ok z
text_again c z true b e f scale rule is =
    ap (or_unknown c.rule (seen (size_of whole) blanks)) (ap (taken c.rule) (blanks_seen (size_of c.scale)) ∙ blank_again c.rule z e is)
text_again c z false true e f scale rule is = unknown_again c.scale c.rule z f scale rule is
text_again c z false false e f scale rule is =
    let text = number_text (size_of c.scale) (shown c.rule z) in
    ap (or_unknown c.rule (seen (size_of whole) text))
    (ap (taken c.rule) (text_seen (size_of c.scale) (shown c.rule z) (good_scale c.scale scale) (shown_small c.scale c.rule z rule f is)) ∙ taken_again c.rule z f is)

-- the text of a field is read as that field
field_again : (c : Column) (z : ℤ) (a : ℕ) (start tail line : List ℕ) → line ≡ start ++ (column_text c z ++ tail) → length start ≡ a
    → is_good_scale c.scale ≡ true → is_good_rule c.scale c.rule ≡ true → IsField c.rule z → field_at c a line ≡ Ok z
field_again c z a start tail line e at scale rule is =
    let text = columns_at a 19 start (column_text c z) tail line e at (length-column_text c z) in
    ap (field_of c) text ∙ text_again c z (is_blank c.rule z) (is_unknown c.rule z) refl refl scale rule is

-- the texts of a row are read as its fields, of which more may follow
pub row_again : (cs rest : List Column) (zs : List ℤ) (a : ℕ) (start tail line : List ℕ) → line ≡ start ++ (row_text cs zs ++ tail) → length start ≡ a
    → are_good cs ≡ true → AreFields (cs ++ rest) zs → read_row cs a line ≡ Ok (take (length cs) zs)
row_again [] rest zs a start tail line e at good are = refl
row_again (c ∷ cs) rest [] a start tail line e at good are = absurd are
row_again (c ∷ cs) rest (z ∷ zs) a start tail line e at good are =
    let parts = and_parts (is_good_scale c.scale && is_good_rule c.scale c.rule) (are_good cs) good in
    let own = and_parts (is_good_scale c.scale) (is_good_rule c.scale c.rule) parts.0 in
    let split : line ≡ start ++ (column_text c z ++ (row_text cs zs ++ tail)) = e ∙ ap (λ t. start ++ t) (append_assoc (column_text c z) (row_text cs zs) tail) in
    let first = field_again c z a start (row_text cs zs ++ tail) line split at own.0 own.1 are.0 in
    let size = length-column_text c z in
    let longer : length (start ++ column_text c z) ≡ a + 19 = omega (arith, length-append start (column_text c z), size, at) in
    let next = row_again cs rest zs (a + 19) (start ++ column_text c z) tail line
    (split ∙ sym (append_assoc start (column_text c z) (row_text cs zs ++ tail))) longer parts.1 are.1 in
    ap (λ r. r >>= λ x. read_row cs (a + 19) line >>= λ xs. Ok (x ∷ xs)) first
    ∙ ap (λ r. r >>= λ xs. Ok (z ∷ xs)) next

rest_fields : (cs rest : List Column) (zs : List ℤ) → AreFields (cs ++ rest) zs → AreFields rest (drop (length cs) zs)
rest_fields [] rest zs are = are
rest_fields (c ∷ cs) rest [] are = absurd are
rest_fields (c ∷ cs) rest (z ∷ zs) are = rest_fields cs rest zs are.1

good_parts : (cs ds : List Column) → are_good (cs ++ ds) ≡ true → (are_good cs ≡ true) × (are_good ds ≡ true)
good_parts [] ds good = (refl, good)
good_parts (c ∷ cs) ds good =
    let own = is_good_scale c.scale && is_good_rule c.scale c.rule in
    let parts = and_parts own (are_good (cs ++ ds)) good in
    let more = good_parts cs ds parts.1 in
    (ap (λ b. b && are_good cs) parts.0 ∙ more.0, more.1)

prefix_and_rest : (n : ℕ) (zs : List ℤ) → take n zs ++ drop n zs ≡ zs
prefix_and_rest zero zs = refl
prefix_and_rest (suc n) [] = refl
prefix_and_rest (suc n) (z ∷ zs) = ap (λ l. z ∷ l) (prefix_and_rest n zs)

-- the lines of rows are read as their fields, whatever lines follow
pub rows_again : (rows : List (List Column)) (zs : List ℤ) (a : ℕ) (start : List ℕ) (more : List (List ℕ)) → length start ≡ a
    → are_good (joined_rows rows) ≡ true → AreFields (joined_rows rows) zs → read_rows rows a (row_lines start rows zs ++ more) ≡ Ok zs
rows_again [] [] a start more at good are = refl
rows_again [] (z ∷ zs) a start more at good are = absurd are
rows_again (r ∷ rs) zs a start more at good are =
    let parts = good_parts r (joined_rows rs) good in
    let line = start ++ row_text r zs in
    let whole : line ≡ start ++ (row_text r zs ++ []) = ap (λ t. start ++ t) (sym (nothing_behind (row_text r zs))) in
    let first = row_again r (joined_rows rs) zs a start [] line whole at parts.0 are in
    let others = row_lines (codes "    ") rs (drop (length r) zs) ++ more in
    let next = rows_again rs (drop (length r) zs) 4 (codes "    ") more refl parts.1 (rest_fields r (joined_rows rs) zs are) in
    ap (λ x. x >>= λ ws. read_rows rs 4 others >>= λ vs. Ok (ws ++ vs)) first
    ∙ ap (λ x. x >>= λ vs. Ok (take (length r) zs ++ vs)) next
    ∙ ap Ok (prefix_and_rest (length r) zs)
  where
    nothing_behind : (xs : List ℕ) → xs ++ [] ≡ xs
    nothing_behind [] = refl
    nothing_behind (x ∷ xs) = ap (λ l. x ∷ l) (nothing_behind xs)

pub good_at : (cs : List Column) (i : ℕ) (d : Column) → are_good cs ≡ true → i < length cs → (is_good_scale (get_or cs i d).scale ≡ true) × (is_good_rule (get_or cs i d).scale (get_or cs i d).rule ≡ true)
good_at [] i d good h = absurd (omega arith)
good_at (c ∷ cs) zero d good h =
    let parts = and_parts (is_good_scale c.scale && is_good_rule c.scale c.rule) (are_good cs) good in
    and_parts (is_good_scale c.scale) (is_good_rule c.scale c.rule) parts.0
good_at (c ∷ cs) (suc i) d good h =
    let parts = and_parts (is_good_scale c.scale && is_good_rule c.scale c.rule) (are_good cs) good in
    good_at cs i d parts.1 (omega arith)
