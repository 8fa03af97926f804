-- The fault of a reading is the first fault of the subframe.
use Rattle.std.proofs.Common.{◌≡◌, ℕ, zero, suc, ◌-◌, ◌<◌, ◌≤◌, ◌&&◌, ◌↔◌, ◌⊎◌, List, false, nat_eq, nat_le, nat_lt, Option, None, Some, Result, Ok, Err, inl, inr, refl, sym, ap, ◌∙◌, subst, arith, ⊎_elim}
use Rattle.std.proofs.lemmas.Bool.{and_parts, cond_both, eqb-false, eqb-true, leb-false, leb-true, ltb-false, ltb-true, true≢false}
use Rattle.nav_eph.specs.Satellite.{Satellite}
use Rattle.nav_eph.specs.declared.part.Part.{Part}
use Rattle.nav_eph.specs.declared.part.Body.{Body}
use Rattle.lnav_subframe.specs.declared.fault.LnavFault.{LnavFault}
use Rattle.lnav_subframe.specs.declared.fault.LnavFault.TheVariants.{Preamble, Parity, BadTow, Unused, BadTime}
use Rattle.lnav_subframe.specs.declared.head.Head.{Head}
use Rattle.lnav_subframe.specs.Faults.{HasFault, IsFirstFault, IsUsed, head_of, order_of, source_bits}
use Rattle.lnav_subframe.specs.Reading.{by_words, content, heard, page_of, subframe_of}
use Rattle.lnav_subframe.specs.Subframes.{subframe1_at, subframe2_at}
use Rattle.lnav_subframe.specs.Words.{AreGood, HasPreamble, IsFirstBad, bad_word_from, has_preamble, upright}
use Rattle.lnav_subframe.proofs.Again.{good_before, same_word}
use Rattle.lnav_subframe.proofs.Functions.{Judged, first_bad, judged, preamble_false, preamble_true}

-- ---- the faults earlier in the order

clear : (bits : List ℕ) (k : ℕ) → (1 < k → HasPreamble bits) → (2 < k → AreGood (upright bits) 10) → (3 < k → (head_of bits).tow_count < 100800)
    → (4 < k → IsUsed (head_of bits)) → (5 < k → HasFault bits BadTime → ⊥) → (other : LnavFault) → order_of other < k → HasFault bits other → ⊥
clear bits k begins good week used time Preamble low has = has (begins low)
clear bits k begins good week used time (Parity word) low has = good_before (upright bits) word (good low) has
clear bits k begins good week used time BadTow low has = omega (arith, week low, has)
clear bits k begins good week used time (Unused number page) low has = has.0 (used low)
clear bits k begins good week used time BadTime low has = time low has

-- the answer has its fault in the order, or the subframe has none
abbrev Judges : List ℕ → Result Part LnavFault → Type 0
Judges bits (Ok part) = (fault : LnavFault) → HasFault bits fault → ⊥
Judges bits (Err fault) = IsFirstFault bits fault

order-lt : (fault : LnavFault) → order_of fault < 6
order-lt Preamble = omega arith
order-lt (Parity word) = omega arith
order-lt BadTow = omega arith
order-lt (Unused number page) = omega arith
order-lt BadTime = omega arith

no_preamble : (bits : List ℕ) → (HasPreamble bits → ⊥) → IsFirstFault bits Preamble
no_preamble bits none = record {
  has = none;
  first = clear bits 1 (λ h. absurd (omega arith)) (λ h. absurd (omega arith)) (λ h. absurd (omega arith)) (λ h. absurd (omega arith)) (λ h. absurd (omega arith));
}

bad_word : (bits : List ℕ) (word : ℕ) → HasPreamble bits → IsFirstBad (upright bits) word → IsFirstFault bits (Parity word)
bad_word bits word begins bad = record {
  has = bad;
  first = clear bits 2 (λ h. begins) (λ h. absurd (omega arith)) (λ h. absurd (omega arith)) (λ h. absurd (omega arith)) (λ h. absurd (omega arith));
}

-- ---- the faults of the data bits

not_used : (h : Head) → nat_eq h.number 1 ≡ false → nat_eq h.number 2 ≡ false → nat_eq h.number 3 ≡ false → (nat_eq h.number 4 && nat_eq h.page 56) ≡ false
    → IsUsed h → ⊥
not_used h no1 no2 no3 no4 used =
    ⊎_elim (λ (one : h.number ≡ 1). eqb-false h.number 1 no1 one)
    (λ (more : (h.number ≡ 2) ⊎ (h.number ≡ 3) ⊎ ((h.number ≡ 4) × (h.page ≡ 56))).
    ⊎_elim (λ (two : h.number ≡ 2). eqb-false h.number 2 no2 two)
    (λ (rest : (h.number ≡ 3) ⊎ ((h.number ≡ 4) × (h.page ≡ 56))).
    ⊎_elim (λ (three : h.number ≡ 3). eqb-false h.number 3 no3 three)
    (λ (page : (h.number ≡ 4) × (h.page ≡ 56)). true≢false (sym (rw (page.0, page.1) refl) ∙ no4))
    rest) more) used

-- the toc or toe of a subframe that has none
no_time : (bits : List ℕ) (n : ℕ) → (head_of bits).number ≡ n → 3 ≤ n → HasFault bits BadTime → ⊥
no_time bits n is more (inl one) = omega (arith, is, more, one.0)
no_time bits n is more (inr two) = omega (arith, is, more, two.0)

no_time1 : (bits : List ℕ) → (head_of bits).number ≡ 1 → (subframe1_at (source_bits bits) 0).toc < 37800 → HasFault bits BadTime → ⊥
no_time1 bits is low (inl one) = omega (arith, low, one.1)
no_time1 bits is low (inr two) = omega (arith, is, two.0)

no_time2 : (bits : List ℕ) → (head_of bits).number ≡ 2 → (subframe2_at (source_bits bits) 0).toe < 37800 → HasFault bits BadTime → ⊥
no_time2 bits is low (inl one) = omega (arith, is, one.0)
no_time2 bits is low (inr two) = omega (arith, low, two.1)

no_fault : (bits : List ℕ) → HasPreamble bits → AreGood (upright bits) 10 → (head_of bits).tow_count < 100800 → IsUsed (head_of bits) → (HasFault bits BadTime → ⊥)
    → (fault : LnavFault) → HasFault bits fault → ⊥
no_fault bits begins good week used time fault =
    clear bits 6 (λ h. begins) (λ h. good) (λ h. week) (λ h. used) (λ h. time) fault (order-lt fault)

late : (bits : List ℕ) → HasPreamble bits → AreGood (upright bits) 10 → (head_of bits).tow_count < 100800 → IsUsed (head_of bits) → HasFault bits BadTime
    → IsFirstFault bits BadTime
late bits begins good week used has = record {
  has = has;
  first = clear bits 5 (λ h. begins) (λ h. good) (λ h. week) (λ h. used) (λ h. absurd (omega arith));
}

of_data : (bits : List ℕ) (sat : Satellite) (stamp : ℕ) → HasPreamble bits → AreGood (upright bits) 10
    → Judges bits (heard sat stamp (content (source_bits bits)))
of_data bits sat stamp begins good =
    let source = source_bits bits in
    let h = head_of bits in
    let M : Result Body LnavFault → Type 0 = λ r. Judges bits (heard sat stamp r) in
    cond_both (nat_le 100800 h.tow_count) _ _ M
    (λ over. record {
      has = leb-true 100800 h.tow_count over;
      first = clear bits 3 (λ h. begins) (λ h. good) (λ h. absurd (omega arith)) (λ h. absurd (omega arith)) (λ h. absurd (omega arith));
    })
    (λ within. let week : h.tow_count < 100800 = leb-false 100800 h.tow_count within in
    cond_both (nat_eq h.number 1) _ _ M
    (λ one. let is : h.number ≡ 1 = eqb-true h.number 1 one in
    cond_both (nat_lt (subframe1_at source 0).toc 37800) _ _ M
    (λ low. no_fault bits begins good week (inl is) (no_time1 bits is (ltb-true _ 37800 low)))
    (λ past. late bits begins good week (inl is) (inl (is, ltb-false _ 37800 past))))
    (λ no1. cond_both (nat_eq h.number 2) _ _ M
    (λ two. let is : h.number ≡ 2 = eqb-true h.number 2 two in
    cond_both (nat_lt (subframe2_at source 0).toe 37800) _ _ M
    (λ low. no_fault bits begins good week (inr (inl is)) (no_time2 bits is (ltb-true _ 37800 low)))
    (λ past. late bits begins good week (inr (inl is)) (inr (is, ltb-false _ 37800 past))))
    (λ no2. cond_both (nat_eq h.number 3) _ _ M
    (λ three. let is : h.number ≡ 3 = eqb-true h.number 3 three in
    no_fault bits begins good week (inr (inr (inl is))) (no_time bits 3 is (omega arith)))
    (λ no3. cond_both (nat_eq h.number 4 && nat_eq h.page 56) _ _ M
    (λ page. let both = and_parts (nat_eq h.number 4) (nat_eq h.page 56) page in
    let is : h.number ≡ 4 = eqb-true h.number 4 both.0 in
    no_fault bits begins good week (inr (inr (inr (is, eqb-true h.page 56 both.1)))) (no_time bits 4 is (omega arith)))
    (λ no4. record {
      has = (not_used h no1 no2 no3 no4, refl, refl);
      first = clear bits 4 (λ h. begins) (λ h. good) (λ h. week) (λ h. absurd (omega arith)) (λ h. absurd (omega arith));
    })))))

-- ---- the reading

of_words : (bits : List ℕ) (sat : Satellite) (stamp : ℕ) (w : Option ℕ) → HasPreamble bits → Judged (upright bits) 0 10 w
    → Judges bits (by_words (upright bits) sat stamp w)
of_words bits sat stamp None begins good = of_data bits sat stamp begins (λ k h. good k (omega arith) h)
of_words bits sat stamp (Some word) begins bad = bad_word bits word begins (first_bad (upright bits) word bad)

judges : (bits : List ℕ) (sat : Satellite) (stamp : ℕ) → Judges bits (subframe_of bits sat stamp)
unfolding subframe_of
judges bits sat stamp =
    cond_both (has_preamble bits) (by_words (upright bits) sat stamp (bad_word_from (upright bits) 0 10)) (Err Preamble) (Judges bits)
    (λ begins. of_words bits sat stamp (bad_word_from (upright bits) 0 10) (preamble_true bits begins) (judged (upright bits) 0 10))
    (λ none. no_preamble bits (preamble_false bits none))

-- ---- the first fault is unique

word_or : Option ℕ → ℕ
word_or None = 0
word_or (Some word) = word

-- the fault at a place of the order
fault_at : List ℕ → ℕ → LnavFault
fault_at bits (suc zero) = Preamble
fault_at bits (suc (suc zero)) = Parity (word_or (bad_word_from (upright bits) 0 10))
fault_at bits (suc (suc (suc zero))) = BadTow
fault_at bits (suc (suc (suc (suc zero)))) = Unused (head_of bits).number (page_of (head_of bits))
fault_at bits _ = BadTime

bad_is : (bits : List ℕ) (word : ℕ) (w : Option ℕ) → Judged bits 0 10 w → IsFirstBad bits word → word ≡ word_or w
unfolding word_or
bad_is bits word None good bad = absurd (bad.bad (good (word - 1) (omega arith) (omega (arith, bad.low, bad.high))))
bad_is bits word (Some v) is bad = same_word bits word v bad (first_bad bits v is)

is_at : (bits : List ℕ) (fault : LnavFault) → HasFault bits fault → fault ≡ fault_at bits (order_of fault)
unfolding fault_at
is_at bits Preamble has = refl
is_at bits (Parity word) has = ap Parity (bad_is (upright bits) word (bad_word_from (upright bits) 0 10) (judged (upright bits) 0 10) has)
is_at bits BadTow has = refl
is_at bits (Unused number page) has = ap (λ n. Unused n page) has.1 ∙ ap (λ g. Unused (head_of bits).number g) has.2
is_at bits BadTime has = refl

one_first : (bits : List ℕ) (a b : LnavFault) → IsFirstFault bits a → IsFirstFault bits b → a ≡ b
one_first bits a b x y =
    let not_below : order_of a < order_of b → ⊥ = λ h. y.first a h x.has in
    let not_above : order_of b < order_of a → ⊥ = λ h. x.first b h y.has in
    let same : order_of a ≡ order_of b = omega (arith, not_below, not_above) in
    is_at bits a x.has ∙ ap (fault_at bits) same ∙ sym (is_at bits b y.has)

by_judge : (bits : List ℕ) (r : Result Part LnavFault) (fault : LnavFault) → Judges bits r → IsFirstFault bits fault → r ≡ Err fault
by_judge bits (Ok part) fault none is = absurd (none fault is.has)
by_judge bits (Err other) fault first is = ap Err (one_first bits other fault first is)

-- a fault is the answer exactly where it is the first
pub first_refuses : (bits : List ℕ) (sat : Satellite) (stamp : ℕ) (fault : LnavFault) → (subframe_of bits sat stamp ≡ Err fault) ↔ IsFirstFault bits fault
first_refuses bits sat stamp fault =
    (λ e. subst (Judges bits) e (judges bits sat stamp), λ is. by_judge bits (subframe_of bits sat stamp) fault (judges bits sat stamp) is)
