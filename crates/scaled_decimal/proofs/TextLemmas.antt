-- The text of a number: its columns, and that it is read as that number.
use Rattle.std.proofs.Common.{◌≡◌, ◌≢◌, ℕ, zero, suc, ◌+◌, ◌*◌, ◌/◌, ◌%◌, ◌^◌, ◌<◌, ◌≤◌, Bool, true, false, ◌==◌, if◌then◌else◌, List, [], ◌∷◌, ◌++◌, Some, None, Option, refl, sym, ap, ◌∙◌, subst, arith, ℤ, pos, negsuc, ◌-ℤ◌, unsigned_abs, mul-pos, rules}
use Rattle.scaled_decimal.specs.Fractions.{Fraction, IsNearest, scaled, divided, nearest_to}
use Rattle.scaled_decimal.specs.ScaleValue.{IsScale}
use Rattle.scaled_decimal.specs.NumberText.{Parts, digits, body, exponent_sign, exponent_text, sign_column, parts_at, number_text, worth, IsTextOf}
use Rattle.scaled_decimal.specs.NumberReading.{trim_start, trim_end, before_trimmed, reading, Reading, Decimal, decimal_of, with_sign, signed, at_size, StandsFor, number, seen_decimal, seen_trimmed, seen}
use Rattle.scaled_decimal.proofs.InReachLemmas.{IsPrintable, parts_printable, in_reach, parts_stand, one_parts_at, parts_at_are, parts_at_none}
use Rattle.scaled_decimal.proofs.NearestLemmas.{one_nearest, nearest_is}
use Rattle.scaled_decimal.proofs.PowerLemmas.{ten_under_pos}
use Rattle.scaled_decimal.proofs.SpanLemmas.{reading_body}
use Rattle.scaled_decimal.proofs.GrammarLemmas.{read_is, is_read}

-- text that ends in a non-blank is kept after any text
pub kept_behind : (xs : List ℕ) (y : ℕ) (ys : List ℕ) → trim_end (y ∷ ys) ≡ y ∷ ys → trim_end (xs ++ y ∷ ys) ≡ xs ++ y ∷ ys
kept_behind [] y ys h = h
kept_behind (x ∷ []) y ys h = ap (before_trimmed x) h
kept_behind (x ∷ w ∷ ws) y ys h = ap (before_trimmed x) (kept_behind (w ∷ ws) y ys h)

pub no_blank : (c : ℕ) → c ≢ 32 → trim_end (c ∷ []) ≡ c ∷ []
no_blank c h = grind arith

-- the last byte of a body is a digit
exponent_kept : (z : ℤ) → trim_end (68 ∷ exponent_text z) ≡ 68 ∷ exponent_text z
unfolding digits
exponent_kept z =
    let k = unsigned_abs z in
    kept_behind (68 ∷ exponent_sign z ∷ (48 + k / 10 % 10) ∷ []) (48 + k % 10) [] (no_blank (48 + k % 10) (omega arith))

body_kept : (c : ℕ) (p : Parts) → trim_end (c ∷ body p) ≡ c ∷ body p
body_kept c p =
    let tail : List ℕ = digits 12 (p.digits % 10 ^ 12) in
    let end = kept_behind (46 ∷ tail) 68 (exponent_text p.exponent) (exponent_kept p.exponent) in
    kept_behind (c ∷ digits 1 (p.digits / 10 ^ 12)) 46 (tail ++ 68 ∷ exponent_text p.exponent) end

abbrev minus_of : ℤ → Bool
minus_of (pos n) = false
minus_of (negsuc n) = true

abbrev parts_reading : Parts → Reading
parts_reading p = record { digits = p.digits; exponent = p.exponent -ℤ pos 12 }

no_digit : (x c : ℕ) → c < 48 → (48 + x % 10 == c) ≡ false
no_digit x c h = grind arith

-- a text of parts is read as its parts
decimal_read : (z : ℤ) (p : Parts) → IsPrintable p
    → decimal_of (trim_end (trim_start (sign_column z ∷ body p))) ≡ Some (record { minus = minus_of z; value = parts_reading p })
unfolding digits
decimal_read (pos n) p h =
    let c = 48 + p.digits / 10 ^ 12 % 10 in
    let tail : List ℕ = digits 12 (p.digits % 10 ^ 12) in
    let end = kept_behind (46 ∷ tail) 68 (exponent_text p.exponent) (exponent_kept p.exponent) in
    let kept : trim_end (body p) ≡ body p
    = kept_behind (c ∷ []) 46 (tail ++ 68 ∷ exponent_text p.exponent) end in
    ap (λ b. decimal_of (trim_end (if b then trim_start (46 ∷ (tail ++ 68 ∷ exponent_text p.exponent)) else body p))) (no_digit (p.digits / 10 ^ 12) 32 (omega arith))
    ∙ ap decimal_of kept
    ∙ ap (λ b. if b then with_sign true (reading (46 ∷ (tail ++ 68 ∷ exponent_text p.exponent)))
    else if c == 43 then with_sign false (reading (46 ∷ (tail ++ 68 ∷ exponent_text p.exponent))) else with_sign false (reading (body p))) (no_digit (p.digits / 10 ^ 12) 45 (omega arith))
    ∙ ap (λ b. if b then with_sign false (reading (46 ∷ (tail ++ 68 ∷ exponent_text p.exponent))) else with_sign false (reading (body p))) (no_digit (p.digits / 10 ^ 12) 43 (omega arith))
    ∙ ap (with_sign false) (reading_body p h)
decimal_read (negsuc n) p h = ap decimal_of (body_kept 45 p) ∙ ap (with_sign true) (reading_body p h)

none_near : (s w : Fraction) → w.over ≡ 0 → IsNearest (divided w s) 0
none_near s w e =
    let over : w.over * s.under ≡ 0 * s.under = ap (λ i. i * s.under) e in
    record { above = omega arith; below = omega arith; even_above = λ i. refl; even_below = λ i. refl }

-- the parts of a number stand for it
number_is : (s : Fraction) (n : ℕ) → IsScale s → n ≤ 4294967295 → IsNearest (at_size s (parts_reading (parts_at s n))) n
number_is s zero scale small = none_near s (worth (record { digits = 0; exponent = pos 0 })) (omega arith)
number_is s (suc n) scale small = parts_stand s (suc n) scale (omega arith) small

pub parts_at_printable : (s : Fraction) (n : ℕ) → IsScale s → n ≤ 4294967295 → IsPrintable (parts_at s n)
parts_at_printable s zero scale small = record { digits = omega arith; from = search rules; to = search rules }
parts_at_printable s (suc n) scale small = parts_printable (scaled (suc n) s) (in_reach s (suc n) scale (omega arith) small)

sign_is : (z : ℤ) → z ≡ signed (minus_of z) (unsigned_abs z)
sign_is (pos n) = refl
sign_is (negsuc n) = refl

-- the text of a number stands for it
pub text_stands : (s : Fraction) (z : ℤ) → IsScale s → unsigned_abs z ≤ 4294967295 → StandsFor s (number_text s z) z
unfolding number_text
text_stands s z scale small = record {
  decimal = record { minus = minus_of z; value = parts_reading (parts_at s (unsigned_abs z)) };
  read = read_is _ _ (decimal_read z (parts_at s (unsigned_abs z)) (parts_at_printable s (unsigned_abs z) scale small));
  nearest = number_is s (unsigned_abs z) scale small;
  sign = sign_is z;
}

abs-signed : (m : Bool) (n : ℕ) → unsigned_abs (signed m n) ≡ n
abs-signed true zero = refl
abs-signed true (suc n) = refl
abs-signed false n = refl

at_size_under : (s : Fraction) (r : Reading) → 0 < s.over → 0 < (at_size s r).under
at_size_under s r some = mul-pos (ten_under_pos r.exponent) some

-- what is seen is what the text stands for
pub seen_stands : (s : Fraction) (text : List ℕ) (z : ℤ) → 0 < s.over → seen s text ≡ number z → StandsFor s text z
unfolding seen
seen_stands s text z some e = go (trim_end (trim_start text)) refl e
  where
    value : (d : Decimal) → decimal_of (trim_end (trim_start text)) ≡ Some d
        → number (signed d.minus (nearest_to (at_size s d.value))) ≡ number z → StandsFor s text z
    value d read is =
        let same : signed d.minus (nearest_to (at_size s d.value)) ≡ z = cc in
        let abs : nearest_to (at_size s d.value) ≡ unsigned_abs z = sym (abs-signed d.minus (nearest_to (at_size s d.value))) ∙ ap unsigned_abs same in
        record {
          decimal = d;
          read = read_is (trim_end (trim_start text)) d read;
          nearest = subst (IsNearest (at_size s d.value)) abs (nearest_is (at_size s d.value) (at_size_under s d.value some));
          sign = sym same ∙ ap (signed d.minus) abs;
        }

    option : (o : Option Decimal) → decimal_of (trim_end (trim_start text)) ≡ o → seen_decimal s o ≡ number z → StandsFor s text z
    option None read is = absurd (cc)
    option (Some d) read is = value d read is

    go : (t : List ℕ) → trim_end (trim_start text) ≡ t → seen_trimmed s t ≡ number z → StandsFor s text z
    go [] t is = absurd (cc)
    go (c ∷ cs) t is = option (decimal_of (c ∷ cs)) (ap decimal_of t) is

pub stands_seen : (s : Fraction) (text : List ℕ) (z : ℤ) → 0 < s.over → StandsFor s text z → seen s text ≡ number z
unfolding seen
stands_seen s text z some h = go (trim_end (trim_start text)) refl
  where
    near : nearest_to (at_size s h.decimal.value) ≡ unsigned_abs z
    near = one_nearest (at_size s h.decimal.value) (nearest_to (at_size s h.decimal.value)) (unsigned_abs z) (at_size_under s h.decimal.value some)
        (nearest_is (at_size s h.decimal.value) (at_size_under s h.decimal.value some)) h.nearest

    go : (t : List ℕ) → trim_end (trim_start text) ≡ t → seen_trimmed s t ≡ number z
    go [] t = let none : decimal_of [] ≡ Some h.decimal = ap decimal_of (sym t) ∙ is_read (trim_end (trim_start text)) h.decimal h.read in absurd (cc)
    go (c ∷ cs) t =
        ap (seen_decimal s) (ap decimal_of (sym t) ∙ is_read (trim_end (trim_start text)) h.decimal h.read)
        ∙ ap (λ n. number (signed h.decimal.minus n)) near ∙ ap number (sym h.sign)

-- a text stands for one number at most
pub one_number : (s : Fraction) (text : List ℕ) (y z : ℤ) → 0 < s.over → StandsFor s text y → StandsFor s text z → y ≡ z
one_number s text y z some p q =
    let same : number y ≡ number z = sym (stands_seen s text y some p) ∙ stands_seen s text z some q in cc

pub text_seen : (s : Fraction) (z : ℤ) → IsScale s → unsigned_abs z ≤ 4294967295 → seen s (number_text s z) ≡ number z
text_seen s z scale small = stands_seen s (number_text s z) z scale.some (text_stands s z scale small)

-- a text of `IsTextOf` is that of `number_text`
pub text_is : (s : Fraction) (z : ℤ) (text : List ℕ) → IsScale s → unsigned_abs z ≤ 4294967295 → IsTextOf s z text → text ≡ number_text s z
unfolding number_text
text_is s z text scale small h =
    h.text_is ∙ ap (λ p. sign_column z ∷ body p) (one_parts_at s (unsigned_abs z) h.parts scale small h.zero_is h.parts_are)

pub is_text : (s : Fraction) (z : ℤ) (text : List ℕ) → IsScale s → unsigned_abs z ≤ 4294967295 → text ≡ number_text s z → IsTextOf s z text
unfolding number_text
is_text s z text scale small e = record {
  parts = parts_at s (unsigned_abs z);
  zero_is = parts_at_none s (unsigned_abs z);
  parts_are = parts_at_are s (unsigned_abs z) scale small;
  text_is = e;
}
