-- One field more, read, judged and written.
use Rattle.std.proofs.Common.{◌≡◌, ℕ, suc, ◌+◌, ◌*◌, ◌<◌, ◌≤◌, true, false, List, [], ◌∷◌, ◌++◌}
use Rattle.std.proofs.Common.{length, drop, get_or, Option, Some, None, Err, ℤ, pos, refl, sym, ap}
use Rattle.std.proofs.Common.{◌∙◌, subst, add-one, drop-cons, arith}
use Rattle.std.proofs.Math.Seq.{append_snoc}
use Rattle.std.proofs.lemmas.List.{append-nil, drop_all}
use Rattle.std.proofs.lemmas.Bool.{lt-ltb, le-ltb}
use Rattle.nav_bits.specs.Bits.{number_at}
use Rattle.nav_tables.specs.declared.field.Coding.TheVariants.{Unsigned}
use Rattle.nav_tables.specs.declared.field.Field.{Field}
use Rattle.nav_tables.specs.declared.field.Table.{Table}
use Rattle.nav_tables.specs.declared.message.TableFault.TheVariants.{Short}
use Rattle.nav_tables.specs.Fields.{bits_of, is_field, is_in_range, number_of}
use Rattle.nav_tables.specs.Messages.{AreInRange, are_fields, first_outside, judged, message_in}
use Rattle.nav_tables.specs.Messages.{numbers_at, width_of}
use Rattle.nav_tables.specs.Mirrors.{pairs}
use Rattle.nav_tables.proofs.FieldLemmas.{both, good}

-- what a list of fields has past its end
abbrev pub no_field : Field
no_field = record { width = 0; coding = Unsigned; low = pos 0; high = pos 0 }

pub next_field : (fs : List Field) (i : ℕ) → i < length fs
    → drop i fs ≡ get_or fs i no_field ∷ drop (i + 1) fs
next_field fs i h = rw (add-one, drop-cons fs i no_field) refl

pub next_number : (zs : List ℤ) (i : ℕ) → i < length zs
    → drop i zs ≡ get_or zs i (pos 0) ∷ drop (i + 1) zs
next_number zs i h = rw (add-one, drop-cons zs i (pos 0)) refl

-- the fields before rest are read
pub record AreRead (bytes : List ℕ) (at : ℕ) (fields rest : List Field)
    (numbers : List ℤ) : Type 0 where
  pub told : numbers ++ numbers_at bytes at rest ≡ numbers_at bytes 0 fields
  pub room : at + width_of rest ≡ width_of fields
  pub good : are_fields rest ≡ true

pub read_more : (bytes : List ℕ) (at : ℕ) (fields rest : List Field) (f : Field) (numbers : List ℤ)
    → AreRead bytes at fields (f ∷ rest) numbers
    → AreRead bytes (at + f.width) fields rest
    (numbers ++ number_of f (number_at bytes at f.width) ∷ [])
unfolding numbers_at
read_more bytes at fields rest f numbers r = record {
  told = append_snoc numbers (number_of f (number_at bytes at f.width))
      (numbers_at bytes (at + f.width) rest) ∙ r.told;
  room = omega (arith, r.room);
  good = (both (is_field f) (are_fields rest) r.good).1;
}

-- the next field is one of at most 32 bits within the message
pub record IsNext (at : ℕ) (fields : List Field) (f : Field) : Type 0 where
  pub good : is_field f ≡ true
  pub most : f.width ≤ 32
  pub room : at + f.width ≤ width_of fields

pub next_is : (bytes : List ℕ) (at i : ℕ) (fields : List Field) (numbers : List ℤ)
    → i < length fields
    → AreRead bytes at fields (drop i fields) numbers → IsNext at fields (get_or fields i no_field)
next_is bytes at i fields numbers h r =
    let f = get_or fields i no_field in
    let rest = drop (i + 1) fields in
    let r' : AreRead bytes at fields (f ∷ rest) numbers
    = subst (λ fs. AreRead bytes at fields fs numbers) (next_field fields i h) r in
    let field = (both (is_field f) (are_fields rest) r'.good).0 in
    record { good = field; most = (good f field).most; room = omega (arith, r'.room) }

pub read_next : (bytes : List ℕ) (at i : ℕ) (fields : List Field) (numbers : List ℤ)
    → i < length fields
    → AreRead bytes at fields (drop i fields) numbers
    → AreRead bytes (at + (get_or fields i no_field).width) fields (drop (i + 1) fields)
    (numbers ++ number_of (get_or fields i no_field)
    (number_at bytes at (get_or fields i no_field).width) ∷ [])
read_next bytes at i fields numbers h r =
    read_more bytes at fields (drop (i + 1) fields) (get_or fields i no_field) numbers
    (subst (λ fs. AreRead bytes at fields fs numbers) (next_field fields i h) r)

pub read_none : (bytes : List ℕ) (fields : List Field) → are_fields fields ≡ true
    → AreRead bytes 0 fields fields []
read_none bytes fields e = record { told = refl; room = omega arith; good = e }

pub read_all : (bytes : List ℕ) (at i : ℕ) (fields : List Field) (numbers : List ℤ)
    → length fields ≤ i
    → AreRead bytes at fields (drop i fields) numbers → numbers ≡ numbers_at bytes 0 fields
unfolding numbers_at
read_all bytes at i fields numbers h r =
    let e : drop i fields ≡ [] = drop_all i fields h in
    let told : numbers ++ numbers_at bytes at [] ≡ numbers_at bytes 0 fields
    = subst (λ fs. numbers ++ numbers_at bytes at fs ≡ numbers_at bytes 0 fields) e r.told in
    sym (append-nil numbers) ∙ told

-- ---- ranges

pub inside_more : (k : ℕ) (f : Field) (fs : List Field) (z : ℤ) (zs : List ℤ)
    → is_in_range f z ≡ true
    → first_outside k (f ∷ fs) (z ∷ zs) ≡ first_outside (k + 1) fs zs
unfolding first_outside
inside_more k f fs z zs e = rw e refl

pub outside_here : (k : ℕ) (f : Field) (fs : List Field) (z : ℤ) (zs : List ℤ)
    → is_in_range f z ≡ false
    → first_outside k (f ∷ fs) (z ∷ zs) ≡ Some k
unfolding first_outside
outside_here k f fs z zs e = rw e refl

-- the same at an offset
pub at_field : (k i : ℕ) (fs : List Field) (zs : List ℤ) → length zs ≡ length fs → i < length fs
    → first_outside k (drop i fs) (drop i zs)
    ≡ first_outside k (get_or fs i no_field ∷ drop (i + 1) fs)
    (get_or zs i (pos 0) ∷ drop (i + 1) zs)
at_field k i fs zs e h =
    ap (λ gs. first_outside k gs (drop i zs)) (next_field fs i h)
    ∙ ap (first_outside k (get_or fs i no_field ∷ drop (i + 1) fs)) (next_number zs i (omega arith))

pub none_left : (k i : ℕ) (fs : List Field) (zs : List ℤ) → length fs ≤ i
    → first_outside k (drop i fs) (drop i zs) ≡ None
unfolding first_outside
none_left k i fs zs h = ap (λ gs. first_outside k gs (drop i zs)) (drop_all i fs h)

-- ---- messages

pub short_is : (t : Table) (bytes : List ℕ) → length bytes < t.bytes
    → message_in t bytes ≡ Err Short
unfolding message_in
short_is t bytes h = rw (lt-ltb (length bytes) t.bytes h) refl

pub long_is : (t : Table) (bytes : List ℕ) (numbers : List ℤ) (o : Option ℕ)
    → t.bytes ≤ length bytes
    → numbers ≡ numbers_at bytes 0 t.fields.now → o ≡ first_outside 0 t.fields.now numbers
    → message_in t bytes ≡ judged numbers o
unfolding message_in
long_is t bytes numbers o h e e' = rw (le-ltb (length bytes) t.bytes h, e', e) refl

-- ---- writing

-- the fields before rest are written
pub record AreTold (fields rest : List Field) (numbers left : List ℤ)
    (all : List (ℕ × ℕ)) : Type 0 where
  pub told : all ++ pairs rest left ≡ pairs fields numbers
  pub good : are_fields rest ≡ true
  pub range : AreInRange rest left

pub range_length : (fs : List Field) (zs : List ℤ) → AreInRange fs zs → length zs ≡ length fs
range_length [] [] range = refl
range_length [] (z ∷ zs) range = absurd range
range_length (f ∷ fs) [] range = absurd range
range_length (f ∷ fs) (z ∷ zs) range = ap suc (range_length fs zs range.1)

pub told_at : (i : ℕ) (fs : List Field) (zs : List ℤ) (all : List (ℕ × ℕ)) → i < length fs
    → i < length zs
    → AreTold fs (drop i fs) zs (drop i zs) all
    → AreTold fs (get_or fs i no_field ∷ drop (i + 1) fs) zs
    (get_or zs i (pos 0) ∷ drop (i + 1) zs) all
told_at i fs zs all h h' t =
    subst (λ gs. AreTold fs gs zs (get_or zs i (pos 0) ∷ drop (i + 1) zs) all) (next_field fs i h)
    (subst (λ ys. AreTold fs (drop i fs) zs ys all) (next_number zs i h') t)

pub reported_more : (fs rest : List Field) (zs left : List ℤ) (f : Field) (z : ℤ) (all : List (ℕ × ℕ))
    → AreTold fs (f ∷ rest) zs (z ∷ left) all
    → AreTold fs rest zs left (all ++ (f.width, bits_of f z) ∷ [])
reported_more fs rest zs left f z all t = record {
  told = append_snoc all (f.width, bits_of f z) (pairs rest left) ∙ t.told;
  good = (both (is_field f) (are_fields rest) t.good).1;
  range = t.range.1;
}

pub told_all : (i : ℕ) (fs : List Field) (zs left : List ℤ) (all : List (ℕ × ℕ)) → length fs ≤ i
    → AreTold fs (drop i fs) zs left all → all ≡ pairs fs zs
told_all i fs zs left all h t =
    let told : all ++ pairs [] left ≡ pairs fs zs
    = subst (λ gs. all ++ pairs gs left ≡ pairs fs zs) (drop_all i fs h) t.told in
    sym (append-nil all) ∙ told

-- so many fields have few bits
pub width_small : (fs : List Field) → are_fields fs ≡ true → width_of fs ≤ 32 * length fs
width_small [] e = omega arith
width_small (f ∷ fs) e =
    let h = both (is_field f) (are_fields fs) e in
    omega (arith, (good f h.0).most, width_small fs h.1)
