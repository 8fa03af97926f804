-- The fields that are read are in the ranges of their columns.
use Rattle.std.proofs.Common.{◌≡◌, ℕ, zero, suc, ◌+◌, ◌≤◌, ◌==◌, ◌&&◌, ◌||◌, nat_le, Bool, true, false, if◌then◌else◌, List, [], ◌∷◌, ◌++◌, length, map, Result, Ok, Err, IfOk, refl, ap, ◌∙◌, inl, inr, subst, arith, ℤ, pos, negsuc, ◌≤ℤ◌, int_le, unsigned_abs}
use Rattle.std.proofs.lemmas.Bool.{and_parts}
use Rattle.std.proofs.lemmas.Int.{ints}
use Rattle.scaled_decimal.specs.ScaleValue.{size_of}
use Rattle.scaled_decimal.specs.NumberReading.{NumberSeen, blank, unread, number, seen}
use Rattle.rinex_write.specs.declared.columns.Rule.{Rule}
use Rattle.rinex_write.specs.declared.columns.Rule.TheVariants.{Plain, OrZero, OrLeast, OrUnknown, Ura, Sisa, Fit, Sent, Unread}
use Rattle.rinex_write.specs.declared.columns.Column.{Column}
use Rattle.rinex_write.specs.Accuracies.{first_from, ura_greatest, ura_of, sisa_value, sisa_from, sisa_of}
use Rattle.rinex_write.specs.Columns.{IsField, AreFields, joined_rows, not_known}
use Rattle.rinex_write.specs.Layouts.{gps_rows, galileo_rows, gps_ionosphere_rows, galileo_ionosphere_rows, gps_kind, galileo_kind, gps_ionosphere_kind, galileo_ionosphere_kind}
use Rattle.rinex_read.specs.declared.reason.RecordFault.{RecordFault}
use Rattle.rinex_read.specs.declared.reason.RecordFault.TheVariants as reasons
use Rattle.rinex_read.specs.Lines.{columns}
use Rattle.rinex_read.specs.Fields.{◌>>=◌, in_range, flag_of, sent_or_unknown, taken, whole, is_beyond, or_unknown, field_of, field_at, read_row, read_rows}
use Rattle.rinex_read.specs.declared.title.RecordKind.{RecordKind}
use Rattle.rinex_read.specs.declared.title.RecordKind.TheVariants.{GpsEphemeris, GalileoEphemeris, GpsIonosphere, GalileoIonosphere}
use Rattle.rinex_read.specs.Mirrors.{Gives, IsLayout, kind_by}
use Rattle.rinex_read.proofs.FieldLemmas.{le_from}

-- what was read before what follows
pub record Bound {A B : Type 0} (r : Result A RecordFault) (f : A → Result B RecordFault) (y : B) : Type 0 where
  pub value : A
  pub is : r ≡ Ok value
  pub rest : f value ≡ Ok y

pub bound : {A B : Type 0} (r : Result A RecordFault) (f : A → Result B RecordFault) (y : B) → (r >>= f) ≡ Ok y → Bound r f y
bound (Ok x) f y h = record { value = x; is = refl; rest = h }
bound (Err e) f y h = absurd (cc)

in_range_is : (low high z y : ℤ) → in_range low high z ≡ Ok y → (z ≡ y) × ((low ≤ℤ y) × (y ≤ℤ high))
in_range_is low high z y h = go (int_le low z) (int_le z high) refl refl h
  where
    go : (a b : Bool) → int_le low z ≡ a → int_le z high ≡ b → (if a && b then Ok z else Err reasons.OutOfRange) ≡ Ok y → (z ≡ y) × ((low ≤ℤ y) × (y ≤ℤ high))
    go true true p q e =
        let is : z ≡ y = cc in
        (is, (subst (λ x. low ≤ℤ x) is (le_from low z p), subst (λ x. x ≤ℤ high) is (le_from z high q)))
    go true false p q e = absurd (cc)
    go false b p q e = absurd (cc)

first_within : (n : ℕ) (xs : List ℕ) → first_from n xs ≤ length xs
first_within n [] = omega arith
first_within n (x ∷ xs) = go (nat_le n x) (first_within n xs)
  where
    go : (b : Bool) → first_from n xs ≤ length xs → (if b then 0 else suc (first_from n xs)) ≤ suc (length xs)
    go true h = omega arith
    go false h = omega arith

ura_is : (z : ℤ) → IsField Ura (ura_of z)
unfolding ura_of ura_greatest
ura_is (pos n) = (omega (arith, ints), omega (arith, ints, first_within n ura_greatest))
ura_is (negsuc n) = (omega (arith, ints), omega (arith, ints))

sisa_within : (k i n : ℕ) → sisa_from k i n ≤ i + k
unfolding sisa_from
sisa_within zero i n = omega arith
sisa_within (suc k) i n = go (nat_le n (sisa_value i)) (sisa_within k (i + 1) n)
  where
    go : (b : Bool) → sisa_from k (i + 1) n ≤ i + 1 + k → (if b then i else sisa_from k (i + 1) n) ≤ i + suc k
    go true h = omega arith
    go false h = omega arith

sisa_is : (z : ℤ) → IsField Sisa (sisa_of z)
unfolding sisa_of
sisa_is (pos n) = go (nat_le n 600)
  where
    go : (b : Bool) → IsField Sisa (if b then pos (sisa_from 125 0 n) else pos 255)
    go true = inl (omega (arith, ints), omega (arith, ints, sisa_within 125 0 n))
    go false = inr refl
sisa_is (negsuc n) = inr refl

flag_is : (n : ℕ) (z : ℤ) → flag_of n ≡ Ok z → IsField Fit z
flag_is n z h = go (n == 0 || n == 4) (n == 2 || n == 3) h
  where
    go : (a b : Bool) → (if a then Ok (pos 0) else if b then Err reasons.Fit else Ok (pos 1)) ≡ Ok z → IsField Fit z
    go true b e = let is : pos 0 ≡ z = cc in subst (IsField Fit) is (omega (arith, ints), omega (arith, ints))
    go false true e = absurd (cc)
    go false false e = let is : pos 1 ≡ z = cc in subst (IsField Fit) is (omega (arith, ints), omega (arith, ints))

sent_is : (z : ℤ) → IsField Sent (sent_or_unknown z)
sent_is z = go (int_le (negsuc 302399) z) (int_le z (pos 907199)) refl refl
  where
    go : (a b : Bool) → int_le (negsuc 302399) z ≡ a → int_le z (pos 907199) ≡ b → IsField Sent (if a && b then z else pos 999900000)
    go true true p q = inl (le_from (negsuc 302399) z p, le_from z (pos 907199) q)
    go true false p q = inr refl
    go false b p q = inr refl

-- a range that holds what a blank is read as
abbrev pub has_zero : Rule → Bool
has_zero (Plain low high) = true
has_zero (OrZero low high) = int_le low (pos 0) && int_le (pos 0) high
has_zero (OrLeast low high) = int_le low high
has_zero (OrUnknown low high) = true
has_zero Ura = true
has_zero Sisa = true
has_zero Fit = true
has_zero Sent = true
has_zero (Unread n) = true

abbrev pub have_zero : List Column → Bool
have_zero [] = true
have_zero (c ∷ cs) = has_zero c.rule && have_zero cs

-- a field that is read is in the range of its column
taken_is : (r : Rule) (s : NumberSeen) (z : ℤ) → has_zero r ≡ true → taken r s ≡ Ok z → IsField r z
taken_is (Plain low high) blank z good h = absurd (cc)
taken_is (Plain low high) unread z good h = absurd (cc)
taken_is (Plain low high) (number w) z good h = (in_range_is low high w z h).1
taken_is (OrZero low high) blank z good h =
    let is : pos 0 ≡ z = cc in
    let both = and_parts (int_le low (pos 0)) (int_le (pos 0) high) good in
    subst (λ x. (low ≤ℤ x) × (x ≤ℤ high)) is (le_from low (pos 0) both.0, le_from (pos 0) high both.1)
taken_is (OrZero low high) unread z good h = absurd (cc)
taken_is (OrZero low high) (number w) z good h = (in_range_is low high w z h).1
taken_is (OrLeast low high) blank z good h =
    let is : low ≡ z = cc in
    subst (λ x. (low ≤ℤ x) × (x ≤ℤ high)) is (omega (arith, ints), le_from low high good)
taken_is (OrLeast low high) unread z good h = absurd (cc)
taken_is (OrLeast low high) (number w) z good h = (in_range_is low high w z h).1
taken_is (OrUnknown low high) blank z good h = inr (cc)
taken_is (OrUnknown low high) unread z good h = absurd (cc)
taken_is (OrUnknown low high) (number w) z good h = inl (in_range_is low high w z h).1
taken_is Ura blank z good h = let is : pos 15 ≡ z = cc in subst (IsField Ura) is (omega (arith, ints), omega (arith, ints))
taken_is Ura unread z good h = absurd (cc)
taken_is Ura (number w) z good h =
    let b = bound (in_range (negsuc 99999999) (pos 100000000) w) (λ v. Ok (ura_of v)) z h in
    let is : ura_of b.value ≡ z = cc in
    subst (IsField Ura) is (ura_is b.value)
taken_is Sisa blank z good h = inr (cc)
taken_is Sisa unread z good h = absurd (cc)
taken_is Sisa (number w) z good h =
    let b = bound (in_range (negsuc 99999999) (pos 100000000) w) (λ v. Ok (sisa_of v)) z h in
    let is : sisa_of b.value ≡ z = cc in
    subst (IsField Sisa) is (sisa_is b.value)
taken_is Fit blank z good h = let is : pos 0 ≡ z = cc in subst (IsField Fit) is (omega (arith, ints), omega (arith, ints))
taken_is Fit unread z good h = absurd (cc)
taken_is Fit (number w) z good h =
    let b = bound (in_range (pos 0) (pos 255) w) (λ v. flag_of (unsigned_abs v)) z h in
    flag_is (unsigned_abs b.value) z b.rest
taken_is Sent blank z good h = inr (cc)
taken_is Sent unread z good h = absurd (cc)
taken_is Sent (number w) z good h = let is : sent_or_unknown w ≡ z = cc in subst (IsField Sent) is (sent_is w)
taken_is (Unread n) blank z good h = cc
taken_is (Unread n) unread z good h = cc
taken_is (Unread n) (number w) z good h = cc

unknown_or : (r : Rule) (units : NumberSeen) (t : Result ℤ RecordFault) (z : ℤ) → has_zero r ≡ true → ((y : ℤ) → t ≡ Ok y → IsField r y) → or_unknown r units t ≡ Ok z
    → IsField r z
unknown_or r units (Ok y) z good is h = let same : y ≡ z = cc in subst (IsField r) same (is y refl)
unknown_or (OrUnknown low high) units (Err reasons.OutOfRange) z good is h = go (is_beyond units) h
  where
    go : (b : Bool) → (if b then Ok not_known else Err reasons.OutOfRange) ≡ Ok z → IsField (OrUnknown low high) z
    go true e = inr (cc)
    go false e = absurd (cc)
unknown_or r units (Err e) z good is h = absurd (cc)

field_is : (c : Column) (text : List ℕ) (z : ℤ) → has_zero c.rule ≡ true → field_of c text ≡ Ok z → IsField c.rule z
field_is c text z good h =
    unknown_or c.rule (seen (size_of whole) text) (taken c.rule (seen (size_of c.scale) text)) z good (λ y e. taken_is c.rule (seen (size_of c.scale) text) y good e) h

row_is : (cs : List Column) (a : ℕ) (line : List ℕ) (zs : List ℤ) → have_zero cs ≡ true → read_row cs a line ≡ Ok zs → AreFields cs zs
row_is [] a line [] good h = tt
row_is [] a line (z ∷ zs) good h = absurd (cc)
row_is (c ∷ cs) a line zs good h =
    let both = and_parts (has_zero c.rule) (have_zero cs) good in
    let first = bound (field_at c a line) (λ z. read_row cs (a + 19) line >>= λ ws. Ok (z ∷ ws)) zs h in
    let next = bound (read_row cs (a + 19) line) (λ ws. Ok (first.value ∷ ws)) zs first.rest in
    let is : first.value ∷ next.value ≡ zs = cc in
    subst (AreFields (c ∷ cs)) is (
      field_is c (columns a 19 line) first.value both.0 first.is,
      row_is cs (a + 19) line next.value both.1 next.is,
    )

fields_more : (cs ds : List Column) (zs ws : List ℤ) → AreFields cs zs → AreFields ds ws → AreFields (cs ++ ds) (zs ++ ws)
fields_more [] ds [] ws p q = q
fields_more [] ds (z ∷ zs) ws p q = absurd p
fields_more (c ∷ cs) ds [] ws p q = absurd p
fields_more (c ∷ cs) ds (z ∷ zs) ws p q = (p.0, fields_more cs ds zs ws p.1 q)

zero_parts : (cs ds : List Column) → have_zero (cs ++ ds) ≡ true → (have_zero cs ≡ true) × (have_zero ds ≡ true)
zero_parts [] ds h = (refl, h)
zero_parts (c ∷ cs) ds h =
    let both = and_parts (has_zero c.rule) (have_zero (cs ++ ds)) h in
    let more = zero_parts cs ds both.1 in
    (ap (λ b. b && have_zero cs) both.0 ∙ more.0, more.1)

-- the fields that are read of a record are in the ranges of its columns
pub rows_are : (rows : List (List Column)) (a : ℕ) (ls : List (List ℕ)) (zs : List ℤ) → have_zero (joined_rows rows) ≡ true → read_rows rows a ls ≡ Ok zs → AreFields (joined_rows rows) zs
rows_are [] a ls [] good h = tt
rows_are [] a ls (z ∷ zs) good h = absurd (cc)
rows_are (r ∷ rs) a [] zs good h = absurd (cc)
rows_are (r ∷ rs) a (l ∷ ls) zs good h =
    let parts = zero_parts r (joined_rows rs) good in
    let first = bound (read_row r a l) (λ ws. read_rows rs 4 ls >>= λ vs. Ok (ws ++ vs)) zs h in
    let next = bound (read_rows rs 4 ls) (λ vs. Ok (first.value ++ vs)) zs first.rest in
    let is : first.value ++ next.value ≡ zs = cc in
    subst (AreFields (r ++ joined_rows rs)) is (
    fields_more r (joined_rows rs) first.value next.value (row_is r a l first.value parts.0 first.is) (rows_are rs 4 ls next.value parts.1 next.is)
    )

-- the contents of a record have the fields of its columns
pub are_from : {X : Type 0} (view : X → List ℤ) (result : Result X RecordFault) (rows : List (List Column)) (a : ℕ) (ls : List (List ℕ)) → have_zero (joined_rows rows) ≡ true
    → Gives view result (read_rows rows a ls) → IfOk result (λ f. AreFields (joined_rows rows) (view f))
are_from view (Ok f) rows a ls good h = rows_are rows a ls (view f) good h
are_from view (Err e) rows a ls good h = tt

pub gps_zero : have_zero (joined_rows gps_rows) ≡ true
unfolding gps_rows
gps_zero = refl

pub galileo_zero : have_zero (joined_rows galileo_rows) ≡ true
unfolding galileo_rows
galileo_zero = refl

pub gps_ionosphere_zero : have_zero (joined_rows gps_ionosphere_rows) ≡ true
unfolding gps_ionosphere_rows
gps_ionosphere_zero = refl

pub galileo_ionosphere_zero : have_zero (joined_rows galileo_ionosphere_rows) ≡ true
unfolding galileo_ionosphere_rows
galileo_ionosphere_zero = refl

pub kind_zero : (f : RecordKind) → have_zero (joined_rows (kind_by f).rows) ≡ true
unfolding gps_kind galileo_kind gps_ionosphere_kind galileo_ionosphere_kind
kind_zero GpsEphemeris = gps_zero
kind_zero GalileoEphemeris = galileo_zero
kind_zero GpsIonosphere = gps_ionosphere_zero
kind_zero GalileoIonosphere = galileo_ionosphere_zero

gps_layout_is : IsLayout (joined_rows gps_rows) (map length gps_rows)
unfolding gps_rows
gps_layout_is = record { good = refl; count = refl; few = omega arith; fit = refl }

galileo_layout_is : IsLayout (joined_rows galileo_rows) (map length galileo_rows)
unfolding galileo_rows
galileo_layout_is = record { good = refl; count = refl; few = omega arith; fit = refl }

gps_ionosphere_layout_is : IsLayout (joined_rows gps_ionosphere_rows) (map length gps_ionosphere_rows)
unfolding gps_ionosphere_rows
gps_ionosphere_layout_is = record { good = refl; count = refl; few = omega arith; fit = refl }

galileo_ionosphere_layout_is : IsLayout (joined_rows galileo_ionosphere_rows) (map length galileo_ionosphere_rows)
unfolding galileo_ionosphere_rows
galileo_ionosphere_layout_is = record { good = refl; count = refl; few = omega arith; fit = refl }

pub layout_is : (f : RecordKind) → IsLayout (joined_rows (kind_by f).rows) (map length (kind_by f).rows)
unfolding gps_kind galileo_kind gps_ionosphere_kind galileo_ionosphere_kind
layout_is GpsEphemeris = gps_layout_is
layout_is GalileoEphemeris = galileo_layout_is
layout_is GpsIonosphere = gps_ionosphere_layout_is
layout_is GalileoIonosphere = galileo_ionosphere_layout_is

pub some_rows : (f : RecordKind) → 1 ≤ length (map length (kind_by f).rows)
unfolding gps_kind galileo_kind gps_ionosphere_kind galileo_ionosphere_kind gps_rows galileo_rows gps_ionosphere_rows galileo_ionosphere_rows
some_rows GpsEphemeris = omega arith
some_rows GalileoEphemeris = omega arith
some_rows GpsIonosphere = omega arith
some_rows GalileoIonosphere = omega arith
