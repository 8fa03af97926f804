-- A record of version 3 is judged as an item exactly if it is a record of that item by the relation.
use Rattle.std.proofs.Common.{◌≡◌, ◌⊎◌, ℕ, ◌/◌, ◌%◌, ◌≤◌, ◌==◌, ◌&&◌, ◌||◌, nat_le, Bool, true, false, if◌then◌else◌, List, [], ◌∷◌, length, get_or, codes, Ok, Err, refl, ap, sym, ◌∙◌, inl, inr, arith, ℤ, pos, negsuc, ◌≤ℤ◌, int_le, unsigned_abs, le-leb, eqb-true, eq-eqb, ne_eqb}
use Rattle.std.proofs.lemmas.Bool.{and_parts}
use Rattle.std.proofs.lemmas.Int.{ints}
use Rattle.scaled_decimal.specs.declared.reading.DecimalFault.TheVariants as faults
use Rattle.scaled_decimal.specs.ScaleValue.{size_of, IsScale}
use Rattle.scaled_decimal.specs.NumberReading.{NumberSeen, blank, unread, number, seen, read_of, StandsFor}
use Rattle.scaled_decimal.specs.NumberText.{digits}
use Rattle.scaled_decimal.proofs.Surface.{is_scale}
use Rattle.nav_eph.specs.Satellite.{Satellite}
use Rattle.nav_eph.specs.declared.items.GpsEph.{GpsEph}
use Rattle.nav_eph.specs.declared.items.GalEph.{GalEph}
use Rattle.nav_eph.specs.declared.items.NavItem.{NavItem}
use Rattle.nav_eph.specs.declared.items.NavItem.TheVariants.{Gps, Gal, Ion}
use Rattle.rinex_write.specs.Layouts.{gps_rows, galileo_rows}
use Rattle.rinex_write.specs.Texts.{letter_of}
use Rattle.rinex_read.specs.declared.judged.Judged.TheVariants as judgments
use Rattle.rinex_read.specs.Lines.{columns}
use Rattle.rinex_read.specs.Judging.{judged}
use Rattle.rinex_read.specs.Form3.{is_inav_number, says_inav, whole, is_inav, titled, judged3}
use Rattle.job_laws.specs.RinexRecords.{IsSatellite, number_at, IsGpsBody, IsGalileoBody, IsTitle, IsRecord, IsInav, IsRecord3}
use Rattle.job_laws.proofs.RinexFields.{Seen, le_true, le_from}
use Rattle.job_laws.proofs.RinexKinds.{judged-says, judged-reads, one_item}

whole_scale : IsScale (size_of whole)
whole_scale = is_scale whole (inl (omega arith, omega arith, omega (arith, ints), omega (arith, ints), omega (arith, ints), omega (arith, ints)))

inav_parts : (n : ℕ) → is_inav_number n ≡ true → (n / 2 % 2 ≡ 0) × ((n % 2 ≡ 1) ⊎ (n / 4 % 2 ≡ 1))
inav_parts n h =
    let both = and_parts (n / 2 % 2 == 0) (n % 2 == 1 || n / 4 % 2 == 1) h in
    (eqb-true (n / 2 % 2) 0 both.0, go (n % 2 == 1) refl both.1)
  where
    go : (b : Bool) → (n % 2 == 1) ≡ b → (b || n / 4 % 2 == 1) ≡ true → (n % 2 ≡ 1) ⊎ (n / 4 % 2 ≡ 1)
    go true e h = inl (eqb-true (n % 2) 1 e)
    go false e h = inr (eqb-true (n / 4 % 2) 1 h)

inav_test : (n : ℕ) → n / 2 % 2 ≡ 0 → (n % 2 ≡ 1) ⊎ (n / 4 % 2 ≡ 1) → is_inav_number n ≡ true
inav_test n first h = ap (λ b. b && (n % 2 == 1 || n / 4 % 2 == 1)) (eq-eqb (n / 2 % 2) 0 first) ∙ go h
  where
    any : (b : Bool) → (b || true) ≡ true
    any true = refl
    any false = refl

    go : (n % 2 ≡ 1) ⊎ (n / 4 % 2 ≡ 1) → (n % 2 == 1 || n / 4 % 2 == 1) ≡ true
    go (inl e) = ap (λ b. b || n / 4 % 2 == 1) (eq-eqb (n % 2) 1 e)
    go (inr e) = ap (λ b. n % 2 == 1 || b) (eq-eqb (n / 4 % 2) 1 e) ∙ any (n % 2 == 1)

number-inav : Seen → (text : List ℕ) → says_inav (read_of (pos 0) (pos 1023) (seen (size_of whole) text)) ≡ true → IsInav text
number-inav laws text h = go (seen (size_of whole) text) refl h
  where
    made : (z : ℤ) → StandsFor (size_of whole) text z → pos 0 ≤ℤ z → z ≤ℤ pos 1023 → is_inav_number (unsigned_abs z) ≡ true → IsInav text
    made (pos n) stands low high e = let parts = inav_parts n e in record { sources = n; text_is = stands; within = omega (arith, ints, high); no_fnav = parts.0; inav = parts.1 }
    made (negsuc n) stands low high e = absurd (omega (arith, ints, low))

    with_range : (a b : Bool) (z : ℤ) → int_le (pos 0) z ≡ a → int_le z (pos 1023) ≡ b → StandsFor (size_of whole) text z → says_inav (if a && b then Ok z else Err faults.OutOfRange) ≡ true → IsInav text
    with_range true true z p q stands e = made z stands (le_from (pos 0) z p) (le_from z (pos 1023) q) e
    with_range true false z p q stands e = absurd (cc)
    with_range false b z p q stands e = absurd (cc)

    go : (v : NumberSeen) → seen (size_of whole) text ≡ v → says_inav (read_of (pos 0) (pos 1023) v) ≡ true → IsInav text
    go blank e t = absurd (cc)
    go unread e t = absurd (cc)
    go (number z) e t = with_range (int_le (pos 0) z) (int_le z (pos 1023)) z refl refl ((laws.numbers (size_of whole) text z whole_scale).0 e) t

inav-number : Seen → (text : List ℕ) → IsInav text → says_inav (read_of (pos 0) (pos 1023) (seen (size_of whole) text)) ≡ true
inav-number laws text h =
    let n = h.sources in
    ap (λ v. says_inav (read_of (pos 0) (pos 1023) v)) ((laws.numbers (size_of whole) text (pos n) whole_scale).1 h.text_is)
    ∙ ap (λ b. says_inav (if b && int_le (pos n) (pos 1023) then Ok (pos n) else Err faults.OutOfRange)) (le_true (pos 0) (pos n) (omega (arith, ints)))
    ∙ ap (λ b. says_inav (if b then Ok (pos n) else Err faults.OutOfRange)) (le_true (pos n) (pos 1023) (omega (arith, ints, h.within)))
    ∙ inav_test n h.no_fnav h.inav

inav-says : Seen → (lines : List (List ℕ)) → is_inav lines ≡ true → IsInav (number_at lines 5 1)
unfolding is_inav
inav-says laws lines h =
    let both = and_parts (nat_le 6 (length lines)) (says_inav (read_of (pos 0) (pos 1023) (seen (size_of whole) (columns 23 19 (get_or lines 5 []))))) h in
    number-inav laws (columns 23 19 (get_or lines 5 [])) both.1

inav-read : Seen → (lines : List (List ℕ)) → 6 ≤ length lines → IsInav (number_at lines 5 1) → is_inav lines ≡ true
unfolding is_inav
inav-read laws lines many h =
    ap (λ b. b && says_inav (read_of (pos 0) (pos 1023) (seen (size_of whole) (columns 23 19 (get_or lines 5 []))))) (le-leb 6 (length lines) many)
    ∙ inav-number laws (columns 23 19 (get_or lines 5 [])) h

-- the title that is added
title_class : (message line : List ℕ) → columns 2 3 (titled message line) ≡ codes "EPH"
unfolding columns
title_class message line = refl

title_mark : (message line : List ℕ) → columns 0 1 (titled message line) ≡ codes ">"
unfolding columns
title_mark message line = refl

title_sat : (message line : List ℕ) → columns 6 3 (titled message line) ≡ columns 0 3 line
unfolding columns
title_sat message line = refl

title_lnav : (line : List ℕ) → columns 10 4 (titled (codes "LNAV") line) ≡ codes "LNAV"
unfolding columns
title_lnav line = refl

title_inav : (line : List ℕ) → columns 10 4 (titled (codes "INAV") line) ≡ codes "INAV"
unfolding columns
title_inav line = refl

not_ion : (title sat message : List ℕ) → columns 2 3 title ≡ codes "EPH" → IsTitle title (codes "ION") sat message → ⊥
not_ion title sat message eph h = let same : ◌≡◌ {A = ℕ} 69 73 = ap (λ (l : List ℕ). get_or l 0 0) (sym eph ∙ h.class_is) in omega arith

not_lnav : (title class sat : List ℕ) → columns 10 4 title ≡ codes "LNAV" → IsTitle title class sat (codes "INAV") → ⊥
not_lnav title class sat lnav h = let same : ◌≡◌ {A = ℕ} 76 73 = ap (λ (l : List ℕ). get_or l 0 0) (sym lnav ∙ h.message_is) in omega arith

not_inav : (title class sat : List ℕ) → columns 10 4 title ≡ codes "INAV" → IsTitle title class sat (codes "LNAV") → ⊥
not_inav title class sat inav h = let same : ◌≡◌ {A = ℕ} 73 76 = ap (λ (l : List ℕ). get_or l 0 0) (sym inav ∙ h.message_is) in omega arith

lnav-record : (l : List ℕ) (ls : List (List ℕ)) (item : NavItem) → IsRecord (titled (codes "LNAV") l) (l ∷ ls) item → IsRecord3 (l ∷ ls) item
lnav-record l ls (Gps e) h = h.1
lnav-record l ls (Gal e) h = absurd (not_lnav (titled (codes "LNAV") l) (codes "EPH") (columns 0 3 l) (title_lnav l) h.0)
lnav-record l ls (Ion e) h = absurd (not_ion (titled (codes "LNAV") l) h.0 _ (title_class (codes "LNAV") l) h.2)

inav-record : (l : List ℕ) (ls : List (List ℕ)) (item : NavItem) → IsInav (number_at (l ∷ ls) 5 1) → IsRecord (titled (codes "INAV") l) (l ∷ ls) item → IsRecord3 (l ∷ ls) item
inav-record l ls (Gps e) inav h = absurd (not_inav (titled (codes "INAV") l) (codes "EPH") (columns 0 3 l) (title_inav l) h.0)
inav-record l ls (Gal e) inav h = (h.1, inav)
inav-record l ls (Ion e) inav h = absurd (not_ion (titled (codes "INAV") l) h.0 _ (title_class (codes "INAV") l) h.2)

pub judged3-says : Seen → (lines : List (List ℕ)) (item : NavItem) → judged3 lines ≡ judgments.Item item → IsRecord3 lines item
unfolding judged3
judged3-says laws [] item h = absurd (cc)
judged3-says laws (l ∷ ls) item h = first (get_or l 0 32 == 71) h
  where
    second : (b : Bool) → (get_or l 0 32 == 69 && is_inav (l ∷ ls)) ≡ b → (if b then judged (titled (codes "INAV") l ∷ l ∷ ls) else judgments.PassedOver) ≡ judgments.Item item → IsRecord3 (l ∷ ls) item
    second true e h =
        let both = and_parts (get_or l 0 32 == 69) (is_inav (l ∷ ls)) e in
        inav-record l ls item (inav-says laws (l ∷ ls) both.1) (judged-says laws (titled (codes "INAV") l) (l ∷ ls) item refl h)
    second false e h = absurd (cc)

    first : (b : Bool) → (if b then judged (titled (codes "LNAV") l ∷ l ∷ ls) else if get_or l 0 32 == 69 && is_inav (l ∷ ls) then judged (titled (codes "INAV") l ∷ l ∷ ls) else judgments.PassedOver) ≡ judgments.Item item
        → IsRecord3 (l ∷ ls) item
    first true h = lnav-record l ls item (judged-says laws (titled (codes "LNAV") l) (l ∷ ls) item refl h)
    first false h = second (get_or l 0 32 == 69 && is_inav (l ∷ ls)) refl h

letter-first : (sat : Satellite) (l : List ℕ) → IsSatellite sat (columns 0 3 l) → get_or l 0 32 ≡ letter_of sat.system
unfolding columns digits
letter-first sat l (inl e) = ap (λ (c : List ℕ). get_or c 0 0) e
letter-first sat l (inr e) = ap (λ (c : List ℕ). get_or c 0 0) e.1

judged3-lnav : (l : List ℕ) (ls : List (List ℕ)) → get_or l 0 32 ≡ 71 → judged3 (l ∷ ls) ≡ judged (titled (codes "LNAV") l ∷ l ∷ ls)
unfolding judged3
judged3-lnav l ls h =
    ap (λ b. if b then judged (titled (codes "LNAV") l ∷ l ∷ ls) else if get_or l 0 32 == 69 && is_inav (l ∷ ls) then judged (titled (codes "INAV") l ∷ l ∷ ls) else judgments.PassedOver) (eq-eqb (get_or l 0 32) 71 h)

judged3-inav : (l : List ℕ) (ls : List (List ℕ)) → get_or l 0 32 ≡ 69 → is_inav (l ∷ ls) ≡ true → judged3 (l ∷ ls) ≡ judged (titled (codes "INAV") l ∷ l ∷ ls)
unfolding judged3
judged3-inav l ls h inav =
    ap (λ b. if b then judged (titled (codes "LNAV") l ∷ l ∷ ls) else if get_or l 0 32 == 69 && is_inav (l ∷ ls) then judged (titled (codes "INAV") l ∷ l ∷ ls) else judgments.PassedOver) (ne_eqb (get_or l 0 32) 71 (λ e. omega arith))
    ∙ ap (λ b. if b && is_inav (l ∷ ls) then judged (titled (codes "INAV") l ∷ l ∷ ls) else judgments.PassedOver) (eq-eqb (get_or l 0 32) 69 h)
    ∙ ap (λ b. if b then judged (titled (codes "INAV") l ∷ l ∷ ls) else judgments.PassedOver) inav

gps_many : (lines : List (List ℕ)) (e : GpsEph) → IsGpsBody lines e → 8 ≤ length lines
unfolding gps_rows
gps_many lines e h = h.1.fields_are.enough

galileo_many : (lines : List (List ℕ)) (e : GalEph) → IsGalileoBody lines e → 8 ≤ length lines
unfolding galileo_rows
galileo_many lines e h = h.3.fields_are.enough

pub judged3-reads : Seen → (lines : List (List ℕ)) (item : NavItem) → IsRecord3 lines item → judged3 lines ≡ judgments.Item item
judged3-reads laws [] (Gps e) h = absurd (omega (arith, gps_many [] e h))
judged3-reads laws [] (Gal e) h = absurd (omega (arith, galileo_many [] e h.0))
judged3-reads laws (l ∷ ls) (Gps e) h =
    let letter = letter-first e.sat l h.1.sat_is ∙ ap letter_of h.0.whole.system in
    judged3-lnav l ls letter
    ∙ judged-reads laws (titled (codes "LNAV") l) (l ∷ ls) (Gps e) (
      record { mark = title_mark (codes "LNAV") l; class_is = title_class (codes "LNAV") l; sat_is = title_sat (codes "LNAV") l; message_is = title_lnav l },
      h,
    )
judged3-reads laws (l ∷ ls) (Gal e) h =
    let letter = letter-first e.sat l h.0.3.sat_is ∙ ap letter_of h.0.2.whole.system in
    judged3-inav l ls letter (inav-read laws (l ∷ ls) (omega (arith, galileo_many (l ∷ ls) e h.0)) h.1)
    ∙ judged-reads laws (titled (codes "INAV") l) (l ∷ ls) (Gal e) (
      record { mark = title_mark (codes "INAV") l; class_is = title_class (codes "INAV") l; sat_is = title_sat (codes "INAV") l; message_is = title_inav l },
      h.0,
    )
judged3-reads laws lines (Ion e) h = absurd h

pub one_record3 : Seen → (lines : List (List ℕ)) (a b : NavItem) → IsRecord3 lines a → IsRecord3 lines b → a ≡ b
one_record3 laws lines a b h k = one_item a b (sym (judged3-reads laws lines a h) ∙ judged3-reads laws lines b k)
