-- Messages by tables of fields.
use Rattle.std.specs.Prelude.{ℕ, ◌+◌, ◌*◌, ◌&&◌, Bool, true, List, [], ◌∷◌, length, ℤ, nat_eq}
use Rattle.std.specs.Prelude.{nat_le, nat_lt, Option, Some, None, Result, Ok, Err, if◌then◌else◌}
use Rattle.nav_bits.specs.Bits.{number_at}
use Rattle.nav_bits.specs.Fields.{Field as Row, unsigned}
use Rattle.nav_bits.specs.Packed.{packed}
use Rattle.nav_tables.specs.declared.field.Field.{Field}
use Rattle.nav_tables.specs.declared.field.Table.{Table}
use Rattle.nav_tables.specs.declared.message.TableFault.{TableFault}
use Rattle.nav_tables.specs.declared.message.TableFault.TheVariants.{Short, OutOfRange}
use Rattle.nav_tables.specs.Fields.{IsInRange, IsPlain, bits_of, is_field, is_in_range, number_of}
use Rattle.nav_tables.specs.Fields.{start_of}

-- the width of a list of fields in bits
abbrev pub width_of : List Field → ℕ
width_of [] = 0
width_of (f ∷ fs) = f.width + width_of fs

abbrev pub are_fields : List Field → Bool
are_fields [] = true
are_fields (f ∷ fs) = is_field f && are_fields fs

-- at most 48 fields, which fill the bytes
abbrev pub is_table : Table → Bool
is_table t = are_fields t.fields.now && nat_le (length t.fields.now) 48 && nat_le t.bytes 192
    && nat_eq (width_of t.fields.now) (8 * t.bytes)

-- as many numbers as fields, each in its field's range
abbrev pub AreInRange : List Field → List ℤ → Type 0
AreInRange [] [] = Unit {0}
AreInRange [] (z ∷ zs) = ⊥
AreInRange (f ∷ fs) [] = ⊥
AreInRange (f ∷ fs) (z ∷ zs) = IsInRange f z × AreInRange fs zs

-- the fields of a message with these numbers
unfoldable pub rows : List Field → List ℤ → List Row
rows [] zs = []
rows (f ∷ fs) [] = []
rows (f ∷ fs) (z ∷ zs) = unsigned f.width (bits_of f z) ∷ rows fs zs

-- the bytes of a message with these numbers
unfoldable pub message_bytes : Table → List ℤ → List ℕ
message_bytes t numbers = packed t.bytes (rows t.fields.now numbers)

-- the numbers of adjacent fields from bit offset at
unfoldable pub numbers_at : List ℕ → ℕ → List Field → List ℤ
numbers_at bytes at [] = []
numbers_at bytes at (f ∷ fs)
    = number_of f (number_at bytes at f.width) ∷ numbers_at bytes (at + f.width) fs

-- the bits of each field are those of its number
unfoldable pub ArePlain : List ℕ → ℕ → List Field → Type 0
ArePlain bytes at [] = Unit {0}
ArePlain bytes at (f ∷ fs)
    = IsPlain f (number_at bytes at f.width) × ArePlain bytes (at + f.width) fs

-- the offset of the first number outside its field's range, counted from k
unfoldable pub first_outside : ℕ → List Field → List ℤ → Option ℕ
first_outside k [] zs = None
first_outside k (f ∷ fs) [] = None
first_outside k (f ∷ fs) (z ∷ zs) = if is_in_range f z then first_outside (k + 1) fs zs else Some k

abbrev pub judged : List ℤ → Option ℕ → Result (List ℤ) TableFault
judged numbers None = Ok numbers
judged numbers (Some k) = Err (OutOfRange k)

-- the numbers of the message at the start of some bytes, or the first error
unfoldable pub message_in : Table → List ℕ → Result (List ℤ) TableFault
message_in t bytes =
    if nat_lt (length bytes) t.bytes then Err Short
    else judged (numbers_at bytes 0 t.fields.now)
    (first_outside 0 t.fields.now (numbers_at bytes 0 t.fields.now))

-- the numbers of a message before any is written
unfoldable pub starts : List Field → List ℤ
starts [] = []
starts (f ∷ fs) = start_of f ∷ starts fs
