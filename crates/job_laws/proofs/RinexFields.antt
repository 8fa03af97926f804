-- The text of a column says the field that the reader takes of it.
use Rattle.std.proofs.Common.{◌≡◌, ℕ, zero, suc, ◌+◌, ◌<◌, ◌≤◌, ◌==◌, ◌&&◌, ◌||◌, nat_le, Bool, true, false, if◌then◌else◌, List, [], ◌∷◌, length, get_or, Result, Ok, Err, refl, ap, sym, ◌∙◌, subst, inl, inr, ⊎_elim, ◌↔◌, arith, ℤ, pos, negsuc, ◌≤ℤ◌, int_le, unsigned_abs, eq-eqb, ne_eqb, eqb-true, le-leb, lit≤}
use Rattle.std.proofs.lemmas.Bool.{and_parts, cases_lt, leb-true, leb-false}
use Rattle.std.proofs.lemmas.Int.{ints}
use Rattle.scaled_decimal.specs.Fractions.{Fraction}
use Rattle.scaled_decimal.specs.ScaleValue.{size_of, IsScale}
use Rattle.scaled_decimal.proofs.Surface.{is_scale}
use Rattle.scaled_decimal.specs.NumberReading.{AreBlanks, StandsFor, NumberSeen, blank, unread, number, seen}
use Rattle.rinex_write.specs.declared.columns.Rule.{Rule}
use Rattle.rinex_write.specs.declared.columns.Rule.TheVariants.{Plain, OrZero, OrLeast, OrUnknown, Ura, Sisa, Fit, Sent, Unread}
use Rattle.rinex_write.specs.Accuracies.{first_from, ura_greatest, ura_of, sisa_value, sisa_from, sisa_of}
use Rattle.rinex_write.specs.Columns.{IsField, not_known}
use Rattle.rinex_read.specs.declared.reason.RecordFault.{RecordFault}
use Rattle.rinex_read.specs.declared.reason.RecordFault.TheVariants as reasons
use Rattle.rinex_read.specs.Fields.{in_range, flag_of, sent_or_unknown, taken, whole, is_beyond, or_unknown}
use Rattle.job_laws.specs.RinexRecords.{IsLeast, IsUraOf, IsSisaOf, IsFlagOf, IsWithin, Means, IsBlank, IsBeyond, Encodes}
use Rattle.job_laws.proofs.RinexTexts.{bound, go_on, if_ok}

-- what is known of texts
pub record Seen : Type 0 where
  pub numbers : (s : Fraction) (text : List ℕ) (z : ℤ) → IsScale s → (seen s text ≡ number z) ↔ StandsFor s text z
  pub blanks : (s : Fraction) (text : List ℕ) → (seen s text ≡ blank) ↔ AreBlanks text

pub le_true : (a b : ℤ) → a ≤ℤ b → int_le a b ≡ true
le_true a b h = grind (arith, ints)

pub le_from : (a b : ℤ) → int_le a b ≡ true → a ≤ℤ b
le_from a b h = grind (arith, ints)

pub le_false : (a b : ℤ) → (a ≤ℤ b → ⊥) → int_le a b ≡ false
le_false a b h = go (int_le a b) refl
  where
    go : (t : Bool) → int_le a b ≡ t → t ≡ false
    go true e = absurd (h (le_from a b e))
    go false e = refl

-- the scale of integers is one
whole_scale : IsScale (size_of whole)
whole_scale = is_scale whole (inl (lit≤ tt, lit≤ tt, omega (arith, ints), omega (arith, ints), omega (arith, ints), omega (arith, ints)))

range-says : (low high w z : ℤ) → in_range low high w ≡ Ok z → IsWithin low high w × (w ≡ z)
range-says low high w z h =
    let is = if_ok (int_le low w && int_le w high) w z reasons.OutOfRange h in
    let both = and_parts (int_le low w) (int_le w high) is.0 in
    ((le_from low w both.0, le_from w high both.1), is.1)

range-read : (low high w : ℤ) → IsWithin low high w → in_range low high w ≡ Ok w
range-read low high w h =
    ap (λ b. if b && int_le w high then Ok w else Err reasons.OutOfRange) (le_true low w h.0)
    ∙ ap (λ b. if b then Ok w else Err reasons.OutOfRange) (le_true w high h.1)

-- one index is the least
one_least : (value : ℕ → ℕ) (k n i j : ℕ) → IsLeast value k n i → IsLeast value k n j → i ≡ j
one_least value k n i j a b = ⊎_elim (λ (lt : i < j). absurd (below i j a b lt)) (λ (ge : j ≤ i). ⊎_elim (λ (lt : j < i). absurd (below j i b a lt)) (λ (le : i ≤ j). omega arith) (cases_lt j i)) (cases_lt i j)
  where
    below : (i j : ℕ) → IsLeast value k n i → IsLeast value k n j → i < j → ⊥
    below i j a b lt = omega (arith, b.before i lt, a.reached (omega (arith, b.to)))

first_least : (n : ℕ) (xs : List ℕ) → IsLeast (λ j. get_or xs j 0) (length xs) n (first_from n xs)
first_least n [] = record { to = omega arith; reached = λ h. absurd (omega arith); before = λ j h. absurd (omega arith) }
first_least n (x ∷ xs) = go (nat_le n x) refl (first_least n xs)
  where
    go : (b : Bool) → nat_le n x ≡ b → IsLeast (λ j. get_or xs j 0) (length xs) n (first_from n xs)
        → IsLeast (λ j. get_or (x ∷ xs) j 0) (length (x ∷ xs)) n (if b then 0 else suc (first_from n xs))
    go true e h = record { to = omega arith; reached = λ lt. leb-true n x e; before = λ j lt. absurd (omega arith) }
    go false e h = record {
      to = omega (arith, h.to);
      reached = λ lt. h.reached (omega arith);
      before = before;
    }
      where
        before : (j : ℕ) → j < suc (first_from n xs) → get_or (x ∷ xs) j 0 < n
        before zero lt = leb-false n x e
        before (suc j) lt = h.before j (omega arith)

-- the least of the k indices from i on whose value is at least n
record IsLeastFrom (k i n r : ℕ) : Type 0 where
  pub from : i ≤ r
  pub to : r ≤ i + k
  pub reached : r < i + k → n ≤ sisa_value r
  pub before : (j : ℕ) → i ≤ j → j < r → sisa_value j < n

sisa_least : (k i n : ℕ) → IsLeastFrom k i n (sisa_from k i n)
unfolding sisa_from
sisa_least zero i n = record { from = omega arith; to = omega arith; reached = λ h. absurd (omega arith); before = λ j low lt. absurd (omega arith) }
sisa_least (suc k) i n = go (nat_le n (sisa_value i)) refl (sisa_least k (i + 1) n)
  where
    go : (b : Bool) → nat_le n (sisa_value i) ≡ b → IsLeastFrom k (i + 1) n (sisa_from k (i + 1) n) → IsLeastFrom (suc k) i n (if b then i else sisa_from k (i + 1) n)
    go true e h = record { from = omega arith; to = omega arith; reached = λ lt. leb-true n (sisa_value i) e; before = λ j low lt. absurd (omega arith) }
    go false e h = record {
      from = omega (arith, h.from);
      to = omega (arith, h.to);
      reached = λ lt. h.reached (omega arith);
      before = λ j low lt. ⊎_elim (λ (same : j < i + 1). let is : j ≡ i = omega arith in subst (λ x. sisa_value x < n) (sym is) (leb-false n (sisa_value i) e))
          (λ (more : i + 1 ≤ j). h.before j more lt) (cases_lt j (i + 1));
    }

sisa_is_least : (n : ℕ) → IsLeast sisa_value 125 n (sisa_from 125 0 n)
sisa_is_least n =
    let h = sisa_least 125 0 n in
    record { to = omega (arith, h.to); reached = λ lt. h.reached (omega arith); before = λ j lt. h.before j (omega arith) lt }

ura-says : (w : ℤ) → IsUraOf w (ura_of w)
unfolding ura_of ura_greatest
ura-says (pos n) = (first_from n ura_greatest, refl, first_least n ura_greatest)
ura-says (negsuc n) = refl

ura-read : (w z : ℤ) → IsUraOf w z → ura_of w ≡ z
unfolding ura_of ura_greatest
ura-read (pos n) z h = ap pos (one_least (λ j. get_or ura_greatest j 0) 15 n (first_from n ura_greatest) h.0 (first_least n ura_greatest) h.2) ∙ sym h.1
ura-read (negsuc n) z h = sym h

sisa-says : (w : ℤ) → IsSisaOf w (sisa_of w)
unfolding sisa_of
sisa-says (pos n) = go (nat_le n 600) refl
  where
    go : (b : Bool) → nat_le n 600 ≡ b → IsSisaOf (pos n) (if b then pos (sisa_from 125 0 n) else pos 255)
    go true e = inl (sisa_from 125 0 n, refl, leb-true n 600 e, sisa_is_least n)
    go false e = inr (leb-false n 600 e, refl)
sisa-says (negsuc n) = refl

sisa-read : (w z : ℤ) → IsSisaOf w z → sisa_of w ≡ z
unfolding sisa_of
sisa-read (pos n) z (inl h) =
    ap (λ b. if b then pos (sisa_from 125 0 n) else pos 255) (le-leb n 600 h.2)
    ∙ ap pos (one_least sisa_value 125 n (sisa_from 125 0 n) h.0 (sisa_is_least n) h.3) ∙ sym h.1
sisa-read (pos n) z (inr h) = ap (λ b. if b then pos (sisa_from 125 0 n) else pos 255) (above n 600 h.0) ∙ sym h.1
  where
    above : (a b : ℕ) → b < a → nat_le a b ≡ false
    above a b h = go (nat_le a b) refl
      where
        go : (t : Bool) → nat_le a b ≡ t → t ≡ false
        go true e = absurd (omega (arith, leb-true a b e))
        go false e = refl
sisa-read (negsuc n) z h = sym h

flag-says : (n : ℕ) (z : ℤ) → flag_of n ≡ Ok z → IsFlagOf (pos n) z
flag-says n z h = first (n == 0) (n == 4) refl refl h
  where
    second : (a b : Bool) → (n == 2) ≡ a → (n == 3) ≡ b → (n == 0) ≡ false → (n == 4) ≡ false → (if a || b then Err reasons.Fit else Ok (pos 1)) ≡ Ok z → IsFlagOf (pos n) z
    second true b p q zero_not four_not e = absurd (cc)
    second false true p q zero_not four_not e = absurd (cc)
    second false false p q zero_not four_not e =
        let is : pos 1 ≡ z = cc in
        let a = apart n 0 zero_not in
        let b = apart n 4 four_not in
        let c = apart n 2 p in
        let d = apart n 3 q in
        inr (⊎_elim (λ (low : n < 2). inl (ap pos (one n a low))) (λ (high : 2 ≤ n). inr (five n b c d high)) (cases_lt n 2), sym is)
      where
        apart : (x y : ℕ) → (x == y) ≡ false → x ≡ y → ⊥
        apart x y e same = let yes : (x == y) ≡ true = eq-eqb x y same in cc

        one : (n : ℕ) → (n ≡ 0 → ⊥) → n < 2 → n ≡ 1
        one zero some low = absurd (some refl)
        one (suc zero) some low = refl
        one (suc (suc n)) some low = absurd (omega arith)

        five : (n : ℕ) → (n ≡ 4 → ⊥) → (n ≡ 2 → ⊥) → (n ≡ 3 → ⊥) → 2 ≤ n → pos 5 ≤ℤ pos n
        five zero four two three high = absurd (omega arith)
        five (suc zero) four two three high = absurd (omega arith)
        five (suc (suc zero)) four two three high = absurd (two refl)
        five (suc (suc (suc zero))) four two three high = absurd (three refl)
        five (suc (suc (suc (suc zero)))) four two three high = absurd (four refl)
        five (suc (suc (suc (suc (suc n))))) four two three high = omega (arith, ints)

    first : (a b : Bool) → (n == 0) ≡ a → (n == 4) ≡ b → (if a || b then Ok (pos 0) else if n == 2 || n == 3 then Err reasons.Fit else Ok (pos 1)) ≡ Ok z → IsFlagOf (pos n) z
    first true b p q e = let is : pos 0 ≡ z = cc in inl (inl (ap pos (eqb-true n 0 p)), sym is)
    first false true p q e = let is : pos 0 ≡ z = cc in inl (inr (ap pos (eqb-true n 4 q)), sym is)
    first false false p q e = second (n == 2) (n == 3) refl refl p q e

flag-read : (w z : ℤ) → IsWithin (pos 0) (pos 255) w → IsFlagOf w z → flag_of (unsigned_abs w) ≡ Ok z
flag-read w z within (inl (inl e, is)) = subst (λ x. flag_of (unsigned_abs x) ≡ Ok z) (sym e) (ap Ok (sym is))
flag-read w z within (inl (inr e, is)) = subst (λ x. flag_of (unsigned_abs x) ≡ Ok z) (sym e) (ap Ok (sym is))
flag-read w z within (inr (inl e, is)) = subst (λ x. flag_of (unsigned_abs x) ≡ Ok z) (sym e) (ap Ok (sym is))
flag-read (pos n) z within (inr (inr high, is)) =
    let zero_not : (n == 0) ≡ false = ne_eqb n 0 (λ e. omega (arith, ints, high)) in
    let four_not : (n == 4) ≡ false = ne_eqb n 4 (λ e. omega (arith, ints, high)) in
    let two_not : (n == 2) ≡ false = ne_eqb n 2 (λ e. omega (arith, ints, high)) in
    let three_not : (n == 3) ≡ false = ne_eqb n 3 (λ e. omega (arith, ints, high)) in
    rw (zero_not, four_not, two_not, three_not) (ap Ok (sym is))
flag-read (negsuc n) z within (inr (inr high, is)) = absurd (omega (arith, ints, high))

-- what is said by a text that is this number, or blank
number-says : (unit : Fraction) (text : List ℕ) (low high w : ℤ) (Meaning : ℤ → Type 0) → StandsFor unit text w → IsWithin low high w → Meaning w → Means unit text low high Meaning
number-says unit text low high w Meaning stands within means = record { number = w; text_is = stands; within = within; means = means }

plain-says : (unit : Fraction) (text : List ℕ) (low high w z : ℤ) → StandsFor unit text w → in_range low high w ≡ Ok z → Means unit text low high (λ w. z ≡ w)
plain-says unit text low high w z stands h =
    let is = range-says low high w z h in
    number-says unit text low high w (λ w. z ≡ w) stands is.0 (sym is.1)

number-taken : (r : Rule) (unit : Fraction) (text : List ℕ) (w z : ℤ) → StandsFor unit text w → taken r (number w) ≡ Ok z → Encodes r unit text z
number-taken (Plain low high) unit text w z stands h = plain-says unit text low high w z stands h
number-taken (OrZero low high) unit text w z stands h = inl (plain-says unit text low high w z stands h)
number-taken (OrLeast low high) unit text w z stands h = inl (plain-says unit text low high w z stands h)
number-taken (OrUnknown low high) unit text w z stands h = inl (plain-says unit text low high w z stands h)
number-taken Ura unit text w z stands h =
    let b = bound (in_range (negsuc 99999999) (pos 100000000) w) (λ v. Ok (ura_of v)) z h in
    let is = range-says (negsuc 99999999) (pos 100000000) w b.value b.is in
    let same : ura_of b.value ≡ z = cc in
    inl (number-says unit text (negsuc 99999999) (pos 100000000) w (λ v. IsUraOf v z) stands is.0 (subst (IsUraOf w) (ap ura_of is.1 ∙ same) (ura-says w)))
number-taken Sisa unit text w z stands h =
    let b = bound (in_range (negsuc 99999999) (pos 100000000) w) (λ v. Ok (sisa_of v)) z h in
    let is = range-says (negsuc 99999999) (pos 100000000) w b.value b.is in
    let same : sisa_of b.value ≡ z = cc in
    inl (number-says unit text (negsuc 99999999) (pos 100000000) w (λ v. IsSisaOf v z) stands is.0 (subst (IsSisaOf w) (ap sisa_of is.1 ∙ same) (sisa-says w)))
number-taken Fit unit text w z stands h =
    let b = bound (in_range (pos 0) (pos 255) w) (λ v. flag_of (unsigned_abs v)) z h in
    let is = range-says (pos 0) (pos 255) w b.value b.is in
    let flag : flag_of (unsigned_abs w) ≡ Ok z = ap (λ v. flag_of (unsigned_abs v)) is.1 ∙ b.rest in
    inl (number-says unit text (pos 0) (pos 255) w (λ v. IsFlagOf v z) stands is.0 (flag-of w z is.0.0 flag))
  where
    flag-of : (w z : ℤ) → pos 0 ≤ℤ w → flag_of (unsigned_abs w) ≡ Ok z → IsFlagOf w z
    flag-of (pos n) z low h = flag-says n z h
    flag-of (negsuc n) z low h = absurd (omega (arith, ints, low))
number-taken Sent unit text w z stands h = go (int_le (negsuc 302399) w) (int_le w (pos 907199)) refl refl h
  where
    go : (a b : Bool) → int_le (negsuc 302399) w ≡ a → int_le w (pos 907199) ≡ b → ◌≡◌ {A = Result ℤ RecordFault} (Ok (if a && b then w else pos 999900000)) (Ok z) → Encodes Sent unit text z
    go true true p q e =
        let is : w ≡ z = cc in
        inl (number-says unit text (negsuc 302399) (pos 907199) w (λ v. z ≡ v) stands (le_from (negsuc 302399) w p, le_from w (pos 907199) q) (sym is))
    go true false p q e =
        let is : pos 999900000 ≡ z = cc in
        inr (inl (w, stands, (λ within. let yes = le_true w (pos 907199) within.1 in cc), sym is))
    go false b p q e =
        let is : pos 999900000 ≡ z = cc in
        inr (inl (w, stands, (λ within. let yes = le_true (negsuc 302399) w within.0 in cc), sym is))
number-taken (Unread n) unit text w z stands h = let is : n ≡ z = cc in sym is

blank-taken : (r : Rule) (unit : Fraction) (text : List ℕ) (z : ℤ) → AreBlanks text → taken r blank ≡ Ok z → Encodes r unit text z
blank-taken (Plain low high) unit text z are h = absurd (cc)
blank-taken (OrZero low high) unit text z are h = let is : pos 0 ≡ z = cc in inr (are, sym is)
blank-taken (OrLeast low high) unit text z are h = let is : low ≡ z = cc in inr (are, sym is)
blank-taken (OrUnknown low high) unit text z are h = let is : not_known ≡ z = cc in inr (inr (are, sym is))
blank-taken Ura unit text z are h = let is : pos 15 ≡ z = cc in inr (are, sym is)
blank-taken Sisa unit text z are h = let is : pos 255 ≡ z = cc in inr (are, sym is)
blank-taken Fit unit text z are h = let is : pos 0 ≡ z = cc in inr (are, sym is)
blank-taken Sent unit text z are h = let is : pos 999900000 ≡ z = cc in inr (inr (are, sym is))
blank-taken (Unread n) unit text z are h = let is : n ≡ z = cc in sym is

unread-taken : (r : Rule) (unit : Fraction) (text : List ℕ) (z : ℤ) → taken r unread ≡ Ok z → Encodes r unit text z
unread-taken (Plain low high) unit text z h = absurd (cc)
unread-taken (OrZero low high) unit text z h = absurd (cc)
unread-taken (OrLeast low high) unit text z h = absurd (cc)
unread-taken (OrUnknown low high) unit text z h = absurd (cc)
unread-taken Ura unit text z h = absurd (cc)
unread-taken Sisa unit text z h = absurd (cc)
unread-taken Fit unit text z h = absurd (cc)
unread-taken Sent unit text z h = absurd (cc)
unread-taken (Unread n) unit text z h = let is : n ≡ z = cc in sym is

-- a field that is taken of a text is said by it
taken-says : Seen → (r : Rule) (unit : Fraction) (text : List ℕ) (z : ℤ) → IsScale unit → taken r (seen unit text) ≡ Ok z → Encodes r unit text z
taken-says laws r unit text z good h = go (seen unit text) refl h
  where
    go : (v : NumberSeen) → seen unit text ≡ v → taken r v ≡ Ok z → Encodes r unit text z
    go blank e t = blank-taken r unit text z ((laws.blanks unit text).0 e) t
    go unread e t = unread-taken r unit text z t
    go (number w) e t = number-taken r unit text w z ((laws.numbers unit text w good).0 e) t

-- what is taken of a text that is out of range
out-says : (low high w : ℤ) → in_range low high w ≡ Err reasons.OutOfRange → IsWithin low high w → ⊥
out-says low high w e within = let no : Ok w ≡ Err reasons.OutOfRange = sym (range-read low high w within) ∙ e in cc

range-out : (low high w : ℤ) → (IsWithin low high w → ⊥) → in_range low high w ≡ Err reasons.OutOfRange
range-out low high w outside = go (int_le low w) (int_le w high) refl refl
  where
    go : (a b : Bool) → int_le low w ≡ a → int_le w high ≡ b → (if a && b then Ok w else Err reasons.OutOfRange) ≡ Err reasons.OutOfRange
    go true true p q = absurd (outside (le_from low w p, le_from w high q))
    go true false p q = refl
    go false b p q = refl

-- a number that is not known is said by a text out of range
beyond-says : Seen → (unit : Fraction) (text : List ℕ) (low high z : ℤ) → IsScale unit → taken (OrUnknown low high) (seen unit text) ≡ Err reasons.OutOfRange
    → (if is_beyond (seen (size_of whole) text) then Ok not_known else Err reasons.OutOfRange) ≡ Ok z → Encodes (OrUnknown low high) unit text z
beyond-says laws unit text low high z good out h = inner (seen unit text) refl out
  where
    outer : (w : ℤ) → StandsFor unit text w → (IsWithin low high w → ⊥) → (u : NumberSeen) → seen (size_of whole) text ≡ u
        → (if is_beyond u then Ok not_known else Err reasons.OutOfRange) ≡ Ok z → Encodes (OrUnknown low high) unit text z
    outer w stands outside blank e t = absurd (cc)
    outer w stands outside unread e t = absurd (cc)
    outer w stands outside (number v) e t = go (int_le not_known v) refl t
      where
        go : (b : Bool) → int_le not_known v ≡ b → (if b then Ok not_known else Err reasons.OutOfRange) ≡ Ok z → Encodes (OrUnknown low high) unit text z
        go true p s =
            let same : not_known ≡ z = cc in
            let beyond : IsBeyond unit text low high = record {
              number = w;
              text_is = stands;
              outside = outside;
              units = v;
              units_are = (laws.numbers (size_of whole) text v whole_scale).0 e;
              from = le_from not_known v p;
            } in
            inr (inl (beyond, sym same))
        go false p s = absurd (cc)

    inner : (v : NumberSeen) → seen unit text ≡ v → taken (OrUnknown low high) v ≡ Err reasons.OutOfRange → Encodes (OrUnknown low high) unit text z
    inner blank e t = absurd (cc)
    inner unread e t = absurd (cc)
    inner (number w) e t = outer w ((laws.numbers unit text w good).0 e) (out-says low high w t) (seen (size_of whole) text) refl h

-- a field is said by its text
pub field-says : Seen → (r : Rule) (unit : Fraction) (text : List ℕ) (z : ℤ) → IsScale unit
    → or_unknown r (seen (size_of whole) text) (taken r (seen unit text)) ≡ Ok z → Encodes r unit text z
field-says laws r unit text z good h = go r (taken r (seen unit text)) refl h
  where
    go : (q : Rule) (t : Result ℤ RecordFault) → taken q (seen unit text) ≡ t → or_unknown q (seen (size_of whole) text) t ≡ Ok z → Encodes q unit text z
    go q (Ok y) e t = taken-says laws q unit text z good (e ∙ t)
    go (OrUnknown low high) (Err reasons.OutOfRange) e t = beyond-says laws unit text low high z good e t
    go q (Err f) e t = absurd (cc)

means-read : Seen → (unit : Fraction) (text : List ℕ) (low high : ℤ) (Meaning : ℤ → Type 0) → IsScale unit → (h : Means unit text low high Meaning)
    → (seen unit text ≡ number h.number) × (in_range low high h.number ≡ Ok h.number)
means-read laws unit text low high Meaning good h = ((laws.numbers unit text h.number good).1 h.text_is, range-read low high h.number h.within)

plain-read : Seen → (unit : Fraction) (text : List ℕ) (low high z : ℤ) (take : NumberSeen → Result ℤ RecordFault) → ((w : ℤ) → take (number w) ≡ in_range low high w) → IsScale unit
    → Means unit text low high (λ w. z ≡ w) → take (seen unit text) ≡ Ok z
plain-read laws unit text low high z take rule good h =
    let read = means-read laws unit text low high (λ w. z ≡ w) good h in
    ap take read.0 ∙ rule h.number ∙ read.1 ∙ ap Ok (sym h.means)

blank-read : Seen → (unit : Fraction) (text : List ℕ) (z other : ℤ) (take : NumberSeen → Result ℤ RecordFault) → take blank ≡ Ok other → IsBlank text z other → take (seen unit text) ≡ Ok z
blank-read laws unit text z other take rule h = ap take ((laws.blanks unit text).1 h.0) ∙ rule ∙ ap Ok (sym h.1)

-- what is taken is kept
kept : (r : Rule) (unit : Fraction) (text : List ℕ) (z : ℤ) → taken r (seen unit text) ≡ Ok z → or_unknown r (seen (size_of whole) text) (taken r (seen unit text)) ≡ Ok z
kept r unit text z e = ap (or_unknown r (seen (size_of whole) text)) e

-- a field that is said is read
pub says-read : Seen → (r : Rule) (unit : Fraction) (text : List ℕ) (z : ℤ) → IsScale unit → Encodes r unit text z
    → or_unknown r (seen (size_of whole) text) (taken r (seen unit text)) ≡ Ok z
says-read laws (Plain low high) unit text z good h = kept (Plain low high) unit text z (plain-read laws unit text low high z (taken (Plain low high)) (λ w. refl) good h)
says-read laws (OrZero low high) unit text z good (inl h) = kept (OrZero low high) unit text z (plain-read laws unit text low high z (taken (OrZero low high)) (λ w. refl) good h)
says-read laws (OrZero low high) unit text z good (inr h) = kept (OrZero low high) unit text z (blank-read laws unit text z (pos 0) (taken (OrZero low high)) refl h)
says-read laws (OrLeast low high) unit text z good (inl h) = kept (OrLeast low high) unit text z (plain-read laws unit text low high z (taken (OrLeast low high)) (λ w. refl) good h)
says-read laws (OrLeast low high) unit text z good (inr h) = kept (OrLeast low high) unit text z (blank-read laws unit text z low (taken (OrLeast low high)) refl h)
says-read laws (OrUnknown low high) unit text z good (inl h) = kept (OrUnknown low high) unit text z (plain-read laws unit text low high z (taken (OrUnknown low high)) (λ w. refl) good h)
says-read laws (OrUnknown low high) unit text z good (inr (inl h)) =
    let R = OrUnknown low high in
    ap (λ v. or_unknown R (seen (size_of whole) text) (taken R v)) ((laws.numbers unit text h.0.number good).1 h.0.text_is)
    ∙ ap (or_unknown R (seen (size_of whole) text)) (range-out low high h.0.number h.0.outside)
    ∙ ap (λ u. or_unknown R u (Err reasons.OutOfRange)) ((laws.numbers (size_of whole) text h.0.units whole_scale).1 h.0.units_are)
    ∙ ap (λ b. if b then Ok not_known else Err reasons.OutOfRange) (le_true not_known h.0.units h.0.from)
    ∙ ap Ok (sym h.1)
says-read laws (OrUnknown low high) unit text z good (inr (inr h)) = kept (OrUnknown low high) unit text z (blank-read laws unit text z not_known (taken (OrUnknown low high)) refl h)
says-read laws Ura unit text z good (inl h) =
    kept Ura unit text z (
    let read = means-read laws unit text (negsuc 99999999) (pos 100000000) (λ v. IsUraOf v z) good h in
    ap (taken Ura) read.0 ∙ go_on (in_range (negsuc 99999999) (pos 100000000) h.number) h.number (λ v. Ok (ura_of v)) read.1 ∙ ap Ok (ura-read h.number z h.means))
says-read laws Ura unit text z good (inr h) = kept Ura unit text z (blank-read laws unit text z (pos 15) (taken Ura) refl h)
says-read laws Sisa unit text z good (inl h) =
    kept Sisa unit text z (
    let read = means-read laws unit text (negsuc 99999999) (pos 100000000) (λ v. IsSisaOf v z) good h in
    ap (taken Sisa) read.0 ∙ go_on (in_range (negsuc 99999999) (pos 100000000) h.number) h.number (λ v. Ok (sisa_of v)) read.1 ∙ ap Ok (sisa-read h.number z h.means))
says-read laws Sisa unit text z good (inr h) = kept Sisa unit text z (blank-read laws unit text z (pos 255) (taken Sisa) refl h)
says-read laws Fit unit text z good (inl h) =
    kept Fit unit text z (
    let read = means-read laws unit text (pos 0) (pos 255) (λ v. IsFlagOf v z) good h in
    ap (taken Fit) read.0 ∙ go_on (in_range (pos 0) (pos 255) h.number) h.number (λ v. flag_of (unsigned_abs v)) read.1 ∙ flag-read h.number z h.within h.means)
says-read laws Fit unit text z good (inr h) = kept Fit unit text z (blank-read laws unit text z (pos 0) (taken Fit) refl h)
says-read laws Sent unit text z good (inl h) =
    kept Sent unit text z (
    let read = means-read laws unit text (negsuc 302399) (pos 907199) (λ v. z ≡ v) good h in
    ap (taken Sent) read.0
    ∙ ap (λ b. Ok (if b && int_le h.number (pos 907199) then h.number else pos 999900000)) (le_true (negsuc 302399) h.number h.within.0)
    ∙ ap (λ b. Ok (if b then h.number else pos 999900000)) (le_true h.number (pos 907199) h.within.1)
    ∙ ap Ok (sym h.means))
says-read laws Sent unit text z good (inr (inl h)) = kept Sent unit text z (ap (taken Sent) ((laws.numbers unit text h.0 good).1 h.1) ∙ ap Ok (outside h.0 h.2) ∙ ap Ok (sym h.3))
  where
    outside : (w : ℤ) → (IsWithin (negsuc 302399) (pos 907199) w → ⊥) → sent_or_unknown w ≡ pos 999900000
    outside w not_in = go (int_le (negsuc 302399) w) (int_le w (pos 907199)) refl refl
      where
        go : (a b : Bool) → int_le (negsuc 302399) w ≡ a → int_le w (pos 907199) ≡ b → (if a && b then w else pos 999900000) ≡ pos 999900000
        go true true p q = absurd (not_in (le_from (negsuc 302399) w p, le_from w (pos 907199) q))
        go true false p q = refl
        go false b p q = refl
says-read laws Sent unit text z good (inr (inr h)) = kept Sent unit text z (blank-read laws unit text z (pos 999900000) (taken Sent) refl h)
says-read laws (Unread n) unit text z good h = kept (Unread n) unit text z (go (seen unit text) ∙ ap Ok (sym h))
  where
    go : (v : NumberSeen) → taken (Unread n) v ≡ Ok n
    go blank = refl
    go unread = refl
    go (number w) = refl

-- a field that is said is in the range of its column; a blank is, where 0 or the least is
abbrev pub HasBlank : Rule → Type 0
HasBlank (OrZero low high) = IsWithin low high (pos 0)
HasBlank (OrLeast low high) = low ≤ℤ high
HasBlank r = Unit {0}

within_by : (unit : Fraction) (text : List ℕ) (low high z : ℤ) → Means unit text low high (λ w. z ≡ w) → IsWithin low high z
within_by unit text low high z h = subst (IsWithin low high) (sym h.means) h.within

ura_within : (w z : ℤ) → IsUraOf w z → IsField Ura z
ura_within (pos n) z h = subst (IsField Ura) (sym h.1) (omega (arith, ints), omega (arith, ints, h.2.to))
ura_within (negsuc n) z h = subst (IsField Ura) (sym h) (omega (arith, ints), omega (arith, ints))

sisa_within : (w z : ℤ) → IsSisaOf w z → IsField Sisa z
sisa_within (pos n) z (inl h) = subst (IsField Sisa) (sym h.1) (inl (omega (arith, ints), omega (arith, ints, h.3.to)))
sisa_within (pos n) z (inr h) = inr h.1
sisa_within (negsuc n) z h = inr h

flag_within : (w z : ℤ) → IsFlagOf w z → IsField Fit z
flag_within w z (inl h) = subst (IsField Fit) (sym h.1) (omega (arith, ints), omega (arith, ints))
flag_within w z (inr h) = subst (IsField Fit) (sym h.1) (omega (arith, ints), omega (arith, ints))

pub says-field : (r : Rule) (unit : Fraction) (text : List ℕ) (z : ℤ) → HasBlank r → Encodes r unit text z → IsField r z
says-field (Plain low high) unit text z some h = within_by unit text low high z h
says-field (OrZero low high) unit text z some (inl h) = within_by unit text low high z h
says-field (OrZero low high) unit text z some (inr h) = subst (IsWithin low high) (sym h.1) some
says-field (OrUnknown low high) unit text z some (inl h) = inl (within_by unit text low high z h)
says-field (OrUnknown low high) unit text z some (inr (inl h)) = inr h.1
says-field (OrUnknown low high) unit text z some (inr (inr h)) = inr h.1
says-field (OrLeast low high) unit text z some (inl h) = within_by unit text low high z h
says-field (OrLeast low high) unit text z some (inr h) = subst (IsWithin low high) (sym h.1) (omega (arith, ints), some)
says-field Ura unit text z some (inl h) = ura_within h.number z h.means
says-field Ura unit text z some (inr h) = subst (IsField Ura) (sym h.1) (omega (arith, ints), omega (arith, ints))
says-field Sisa unit text z some (inl h) = sisa_within h.number z h.means
says-field Sisa unit text z some (inr h) = inr h.1
says-field Fit unit text z some (inl h) = flag_within h.number z h.means
says-field Fit unit text z some (inr h) = subst (IsField Fit) (sym h.1) (omega (arith, ints), omega (arith, ints))
says-field Sent unit text z some (inl h) = inl (within_by unit text (negsuc 302399) (pos 907199) z h)
says-field Sent unit text z some (inr (inl h)) = inr h.3
says-field Sent unit text z some (inr (inr h)) = inr h.1
says-field (Unread n) unit text z some h = h
