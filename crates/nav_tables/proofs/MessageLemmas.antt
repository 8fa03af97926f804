-- Lists of fields and their numbers.
use Rattle.std.proofs.Common.{◌≡◌, ℕ, suc, ◌+◌, ◌*◌, ◌≤◌, ◌&&◌, Bool, true, false, List, [], ◌∷◌}
use Rattle.std.proofs.Common.{length, Option, Some, None, Ok, Err, ℤ, refl, sym, ap, ◌∙◌, subst}
use Rattle.std.proofs.Common.{zero-add, arith, pos, ◌≤ℤ◌, if◌then◌else◌}
use Rattle.std.specs.Prelude.{int_le, nat_le, nat_lt, nat_eq}
use Rattle.std.proofs.lemmas.Int.{ints}
use Rattle.std.proofs.lemmas.Bool.{le-ltb, leb-true}
use Rattle.std.proofs.lemmas.Bool.Decides.{nat_tests}
use Rattle.nav_bits.specs.Bits.{number_at}
use Rattle.nav_bits.specs.Fields.{AreFields, Stand, StandFrom, table_width, total_width}
use Rattle.nav_bits.specs.Packed.{AllFit, AreBytes, ZerosFrom, pack, packed}
use Rattle.nav_bits.proofs.Surface.{are_bytes, fields_stand, only_packed}
use Rattle.nav_tables.specs.declared.field.Field.{Field}
use Rattle.nav_tables.specs.declared.field.Table.{Table}
use Rattle.nav_tables.specs.declared.message.TableFault.TheVariants.{Short}
use Rattle.nav_tables.specs.Fields.{IsInRange, bits_of, is_field, is_in_range, number_of, start_of}
use Rattle.nav_tables.specs.Messages.{AreInRange, ArePlain, are_fields, first_outside, is_table}
use Rattle.nav_tables.specs.Messages.{judged, message_bytes, message_in, numbers_at, rows, starts}
use Rattle.nav_tables.specs.Messages.{width_of}
use Rattle.nav_tables.specs.Mirrors.{pairs}
use Rattle.nav_tables.proofs.FieldLemmas.{both, good, has, bits-lt, number_back, le_z_true}

-- what the test of a table says
pub record IsGoodTable (t : Table) : Type 0 where
  pub fields : are_fields t.fields.now ≡ true
  pub few : length t.fields.now ≤ 48
  pub small : t.bytes ≤ 192
  pub width : width_of t.fields.now ≡ 8 * t.bytes

pub good_table : (t : Table) → is_table t ≡ true → IsGoodTable t
good_table t e =
    let fs = t.fields.now in
    let a = both (are_fields fs && nat_le (length fs) 48 && nat_le t.bytes 192)
    (nat_eq (width_of fs) (8 * t.bytes)) e in
    let b = both (are_fields fs && nat_le (length fs) 48) (nat_le t.bytes 192) a.0 in
    let c = both (are_fields fs) (nat_le (length fs) 48) b.0 in
    record {
      fields = c.0;
      few = leb-true _ _ c.1;
      small = leb-true _ _ b.1;
      width = let h = a.1 in grind (arith, nat_tests);
    }

pub rows_fit : (fs : List Field) (zs : List ℤ) → are_fields fs ≡ true → AreInRange fs zs
    → AllFit (rows fs zs)
unfolding rows
rows_fit [] zs e range = tt
rows_fit (f ∷ fs) [] e range = tt
rows_fit (f ∷ fs) (z ∷ zs) e range =
    let h = both (is_field f) (are_fields fs) e in
    (bits-lt f.coding f.width z (has f z h.0 range.0), rows_fit fs zs h.1 range.1)

pub rows_width : (fs : List Field) (zs : List ℤ) → AreInRange fs zs
    → table_width (rows fs zs) ≡ width_of fs
unfolding rows
rows_width [] zs range = refl
rows_width (f ∷ fs) [] range = absurd range
rows_width (f ∷ fs) (z ∷ zs) range = ap (λ n. f.width + n) (rows_width fs zs range.1)

pub numbers_are : (bytes : List ℕ) (at : ℕ) (fs : List Field) (zs : List ℤ) → are_fields fs ≡ true
    → AreInRange fs zs
    → StandFrom bytes 0 at (rows fs zs) → numbers_at bytes at fs ≡ zs
unfolding rows numbers_at
numbers_are bytes at [] [] e range stand = refl
numbers_are bytes at [] (z ∷ zs) e range stand = absurd range
numbers_are bytes at (f ∷ fs) [] e range stand = absurd range
numbers_are bytes at (f ∷ fs) (z ∷ zs) e range stand =
    let h = both (is_field f) (are_fields fs) e in
    let here : number_at bytes at f.width ≡ bits_of f z
    = ap (λ p. number_at bytes p f.width) (sym (zero-add at)) ∙ stand.0 in
    let number : number_of f (number_at bytes at f.width) ≡ z = ap (number_of f) here
    ∙ number_back f.coding f.width z (has f z h.0 range.0) in
    let rest : numbers_at bytes (at + f.width) fs ≡ zs
    = numbers_are bytes (at + f.width) fs zs h.1 range.1 stand.1 in
    cc

pub stand_plain : (bytes : List ℕ) (at : ℕ) (fs : List Field) → ArePlain bytes at fs
    → StandFrom bytes 0 at (rows fs (numbers_at bytes at fs))
unfolding rows numbers_at ArePlain
stand_plain bytes at [] plain = tt
stand_plain bytes at (f ∷ fs) plain = (
  ap (λ p. number_at bytes p f.width) (zero-add at)
      ∙ sym plain.0,
  stand_plain bytes (at + f.width) fs plain.1,
)

pub no_zeros : (bytes : List ℕ) (at : ℕ) (fs : List Field) (zs : List ℤ)
    → ZerosFrom bytes 0 at (rows fs zs)
unfolding rows
no_zeros bytes at [] zs = tt
no_zeros bytes at (f ∷ fs) [] = tt
no_zeros bytes at (f ∷ fs) (z ∷ zs) = no_zeros bytes (at + f.width) fs zs

pub numbers_length : (bytes : List ℕ) (at : ℕ) (fs : List Field)
    → length (numbers_at bytes at fs) ≡ length fs
unfolding numbers_at
numbers_length bytes at [] = refl
numbers_length bytes at (f ∷ fs) = ap suc (numbers_length bytes (at + f.width) fs)

-- ---- ranges

pub in_range_true : (f : Field) (z : ℤ) → IsInRange f z → is_in_range f z ≡ true
in_range_true f z h = grind (arith, ints)

pub in_range_is : (f : Field) (z : ℤ) → is_in_range f z ≡ true → IsInRange f z
in_range_is f z e = let h
    = both (int_le f.low z) (int_le z f.high) e in (le_z_true _ _ h.0, le_z_true _ _ h.1)

pub none_outside : (k : ℕ) (fs : List Field) (zs : List ℤ) → AreInRange fs zs
    → first_outside k fs zs ≡ None
unfolding first_outside
none_outside k [] zs range = refl
none_outside k (f ∷ fs) [] range = refl
none_outside k (f ∷ fs) (z ∷ zs) range
    = rw (in_range_true f z range.0) (none_outside (k + 1) fs zs range.1)

step_in_range : (f : Field) (fs : List Field) (z : ℤ) (zs : List ℤ) (k : ℕ) (b : Bool)
    → is_in_range f z ≡ b
    → first_outside k (f ∷ fs) (z ∷ zs) ≡ None
    → (is_in_range f z ≡ true) × (first_outside (k + 1) fs zs ≡ None)
unfolding first_outside
step_in_range f fs z zs k true e none = (e, rw e at none)
step_in_range f fs z zs k false e none = let h : Some k ≡ None = rw e at none in (cc)

pub all_in_range : (k : ℕ) (fs : List Field) (zs : List ℤ) → length zs ≡ length fs
    → first_outside k fs zs ≡ None → AreInRange fs zs
all_in_range k [] [] e none = tt
all_in_range k [] (z ∷ zs) e none = absurd (omega arith)
all_in_range k (f ∷ fs) [] e none = absurd (omega arith)
all_in_range k (f ∷ fs) (z ∷ zs) e none =
    let h = step_in_range f fs z zs k (is_in_range f z) refl none in
    (in_range_is f z h.0, all_in_range (k + 1) fs zs (omega arith) h.1)

-- ---- messages

judged_ok : (zs numbers : List ℤ) (o : Option ℕ) → judged zs o ≡ Ok numbers
    → (o ≡ None) × (zs ≡ numbers)
judged_ok zs numbers None e = (refl, (cc))
judged_ok zs numbers (Some k) e = (cc)

pub ok_is : (t : Table) (bytes : List ℕ) (numbers : List ℤ) (b : Bool)
    → nat_lt (length bytes) t.bytes ≡ b → message_in t bytes ≡ Ok numbers
    → (first_outside 0 t.fields.now (numbers_at bytes 0 t.fields.now) ≡ None) ×
    (numbers_at bytes 0 t.fields.now ≡ numbers)
unfolding message_in
ok_is t bytes numbers true e ok = let h : Err Short ≡ Ok numbers = rw e at ok in (cc)
ok_is t bytes numbers false e ok = judged_ok _ numbers _ (rw e at ok)

pub read_in_range : (t : Table) (bytes : List ℕ) (numbers : List ℤ)
    → message_in t bytes ≡ Ok numbers → AreInRange t.fields.now numbers
read_in_range t bytes numbers ok =
    let h = ok_is t bytes numbers (nat_lt (length bytes) t.bytes) refl ok in
    let fs = t.fields.now in
    subst (AreInRange fs) h.1
    (all_in_range 0 fs (numbers_at bytes 0 fs) (numbers_length bytes 0 fs) h.0)

pub written_read : (t : Table) (numbers : List ℤ) → is_table t ≡ true
    → AreInRange t.fields.now numbers → message_in t (message_bytes t numbers) ≡ Ok numbers
unfolding message_in message_bytes
written_read t numbers e range =
    let g = good_table t e in
    let fs = t.fields.now in
    let bytes = packed t.bytes (rows fs numbers) in
    let fit = rows_fit fs numbers g.fields range in
    let full : table_width (rows fs numbers) ≡ 8 * t.bytes = rows_width fs numbers range
    ∙ g.width in
    let stand : StandFrom bytes 0 0 (rows fs numbers)
    = fields_stand t.bytes (rows fs numbers) fit full in
    let are : numbers_at bytes 0 fs ≡ numbers
    = numbers_are bytes 0 fs numbers g.fields range stand in
    let size : length bytes ≡ t.bytes = (are_bytes t.bytes (pack 0 (rows fs numbers))).count_is in
    let long : nat_lt (length bytes) t.bytes ≡ false
    = le-ltb (length bytes) t.bytes (omega arith) in
    rw (long, are, none_outside 0 fs numbers range) refl

pub read_written : (t : Table) (bytes : List ℕ) (numbers : List ℤ) → is_table t ≡ true
    → AreBytes t.bytes bytes → ArePlain bytes 0 t.fields.now
    → message_in t bytes ≡ Ok numbers → message_bytes t numbers ≡ bytes
unfolding message_bytes
read_written t bytes numbers e are plain ok =
    let g = good_table t e in
    let fs = t.fields.now in
    let h = ok_is t bytes numbers (nat_lt (length bytes) t.bytes) refl ok in
    let range : AreInRange fs numbers = read_in_range t bytes numbers ok in
    let stand : StandFrom bytes 0 0 (rows fs numbers)
    = subst (λ zs. StandFrom bytes 0 0 (rows fs zs)) h.1 (stand_plain bytes 0 fs plain) in
    let full : table_width (rows fs numbers) ≡ 8 * t.bytes = rows_width fs numbers range
    ∙ g.width in
    sym (only_packed t.bytes (rows fs numbers) bytes
    (rows_fit fs numbers g.fields range) full are stand (no_zeros bytes 0 fs numbers))

-- ---- the numbers before any is written

pub starts_length : (fs : List Field) → length (starts fs) ≡ length fs
unfolding starts
starts_length [] = refl
starts_length (f ∷ fs) = ap suc (starts_length fs)

start_by : (f : Field) (z : ℤ) (b : Bool) → int_le f.high f.low ≡ b → b ≡ true → IsInRange f z
    → (if b then f.low else pos 0) ≡ z
start_by f z true e is range =
    let least : f.high ≤ℤ f.low = le_z_true f.high f.low e in
    omega (arith, ints, least, range.0, range.1)
start_by f z false e is range = absurd cc

-- the number of a constant field
pub start_is : (f : Field) (z : ℤ) → int_le f.high f.low ≡ true → IsInRange f z → start_of f ≡ z
start_is f z e range = start_by f z (int_le f.high f.low) refl e range

-- ---- writing

pub pairs_fit : (fs : List Field) (zs : List ℤ) → are_fields fs ≡ true → AreInRange fs zs
    → AreFields (pairs fs zs)
pairs_fit [] zs e range = tt
pairs_fit (f ∷ fs) [] e range = tt
pairs_fit (f ∷ fs) (z ∷ zs) e range =
    let h = both (is_field f) (are_fields fs) e in (
      omega (arith, (good f h.0).most),
      bits-lt f.coding f.width z (has f z h.0 range.0),
      pairs_fit fs zs h.1 range.1,
    )

pub pairs_width : (fs : List Field) (zs : List ℤ) → AreInRange fs zs
    → total_width (pairs fs zs) ≡ width_of fs
pairs_width [] zs range = refl
pairs_width (f ∷ fs) [] range = absurd range
pairs_width (f ∷ fs) (z ∷ zs) range = ap (λ n. f.width + n) (pairs_width fs zs range.1)

pairs_stand : (bytes : List ℕ) (at : ℕ) (fs : List Field) (zs : List ℤ)
    → Stand bytes 0 at (pairs fs zs) → StandFrom bytes 0 at (rows fs zs)
unfolding rows
pairs_stand bytes at [] zs stand = tt
pairs_stand bytes at (f ∷ fs) [] stand = tt
pairs_stand bytes at (f ∷ fs) (z ∷ zs) stand
    = (stand.0, pairs_stand bytes (at + f.width) fs zs stand.1)

pub pairs_written : (t : Table) (numbers : List ℤ) (bytes : List ℕ) → is_table t ≡ true
    → AreInRange t.fields.now numbers → AreBytes t.bytes bytes
    → Stand bytes 0 0 (pairs t.fields.now numbers) → bytes ≡ message_bytes t numbers
unfolding message_bytes
pairs_written t numbers bytes e range are stand =
    let g = good_table t e in
    let fs = t.fields.now in
    let full : table_width (rows fs numbers) ≡ 8 * t.bytes = rows_width fs numbers range
    ∙ g.width in
    only_packed t.bytes (rows fs numbers) bytes (rows_fit fs numbers g.fields range) full are
    (pairs_stand bytes 0 fs numbers stand) (no_zeros bytes 0 fs numbers)
