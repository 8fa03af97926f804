-- The columns of a record by the numbers of a message, and back.
use Rattle.std.specs.Prelude.{◌≡◌, ℕ, ◌+◌, ◌*◌, ◌/◌, ◌%◌, ◌^◌, ◌<◌, ◌&&◌, ◌||◌, not, Bool, true}
use Rattle.std.specs.Prelude.{false, List, [], ◌∷◌, get_or, set, take, drop, length, nat_eq, nat_le}
use Rattle.std.specs.Prelude.{nat_lt, ℤ, pos, neg_ℤ, ◌+ℤ◌, ◌-ℤ◌, ◌≤ℤ◌, int_le, int_lt, unsigned_abs}
use Rattle.nav_tables.specs.declared.field.Field.{Field as TableField}
use Rattle.nav_tables.specs.declared.field.Coding.TheVariants.{Unsigned}
use Rattle.nav_tables.specs.declared.link.Part.{Part}
use Rattle.nav_tables.specs.declared.link.Link.{Link}
use Rattle.nav_tables.specs.declared.link.Link.TheVariants.{Field, Opposite, Raised, Parts, Given}
use Rattle.nav_tables.specs.declared.link.Link.TheVariants.{Fixed}

-- number k of a list, 0 past its end
abbrev pub nth : List ℤ → ℕ → ℤ
nth numbers k = get_or numbers k (pos 0)

-- some of the parts
abbrev pub parts_from : List Part → ℕ → ℕ → List Part
parts_from parts first count = take count (drop first parts)

-- the numbers of fields, side by side
unfoldable pub joined : List Part → List ℤ → ℕ
joined [] numbers = 0
joined (p ∷ ps) numbers = unsigned_abs (nth numbers p.field) * 2 ^ p.low + joined ps numbers

abbrev pub column_of : List Part → Link → List ℤ → List ℤ → ℤ
column_of parts (Field f) numbers given = nth numbers f
column_of parts (Opposite f) numbers given = neg_ℤ (nth numbers f)
column_of parts (Raised f plus) numbers given = nth numbers f +ℤ plus
column_of parts (Parts first count) numbers given
    = pos (joined (parts_from parts first count) numbers)
column_of parts (Given place) numbers given = nth given place
column_of parts (Fixed n) numbers given = n

-- the columns that the numbers of a message give
unfoldable pub columns_of : List Part → List Link → List ℤ → List ℤ → List ℤ
columns_of parts [] numbers given = []
columns_of parts (l ∷ ls) numbers given
    = column_of parts l numbers given ∷ columns_of parts ls numbers given

-- the numbers, those of the parts being the bits of n
unfoldable pub split : List Part → ℕ → List ℤ → List ℤ
split [] n numbers = numbers
split (p ∷ ps) n numbers = split ps n (set numbers p.field (pos (n / 2 ^ p.low % 2 ^ p.width)))

-- the numbers, with what a column says of them
abbrev pub filled_by : List Part → Link → ℤ → List ℤ → List ℤ
filled_by parts (Field f) z numbers = set numbers f z
filled_by parts (Opposite f) z numbers = set numbers f (neg_ℤ z)
filled_by parts (Raised f plus) z numbers = set numbers f (z -ℤ plus)
filled_by parts (Parts first count) z numbers
    = split (parts_from parts first count) (unsigned_abs z) numbers
filled_by parts (Given place) z numbers = numbers
filled_by parts (Fixed n) z numbers = numbers

-- the numbers, with what some columns say of them
unfoldable pub filled : List Part → List Link → List ℤ → List ℤ → List ℤ
filled parts [] columns numbers = numbers
filled parts (l ∷ ls) [] numbers = numbers
filled parts (l ∷ ls) (z ∷ zs) numbers = filled parts ls zs (filled_by parts l z numbers)

-- ---- which tables of links make sense

abbrev pub width_of : List Part → ℕ
width_of [] = 0
width_of (p ∷ ps) = p.width + width_of ps

-- parts of fields of n, of at most 32 bits together, the highest bits first
abbrev pub are_parts : ℕ → List Part → Bool
are_parts n [] = true
are_parts n (p ∷ ps) = nat_lt p.field n && nat_le (p.width + p.low) 32
    && nat_eq p.low (width_of ps) && are_parts n ps

-- whether a field is among these
abbrev pub is_part : ℕ → List Part → Bool
is_part f [] = false
is_part f (p ∷ ps) = nat_eq f p.field || is_part f ps

abbrev pub says : List Part → Link → ℕ → Bool
says parts (Field f) k = nat_eq k f
says parts (Opposite f) k = nat_eq k f
says parts (Raised f plus) k = nat_eq k f
says parts (Parts first count) k = is_part k (parts_from parts first count)
says parts (Given place) k = false
says parts (Fixed n) k = false

-- whether some column says the number of field k
abbrev pub say : List Part → List Link → ℕ → Bool
say parts [] k = false
say parts (l ∷ ls) k = says parts l k || say parts ls k

-- fields of n, good parts, small constants
abbrev pub is_link : ℕ → List Part → Link → Bool
is_link n parts (Field f) = nat_lt f n
is_link n parts (Opposite f) = nat_lt f n
is_link n parts (Raised f plus) = nat_lt f n && int_le (pos 0 -ℤ pos 1000000) plus
    && int_le plus (pos 1000000)
is_link n parts (Parts first count) = nat_le (first + count) (length parts)
    && are_parts n (parts_from parts first count)
is_link n parts (Given place) = nat_lt place 4
is_link n parts (Fixed m) = true

abbrev pub are_links : ℕ → List Part → List Link → Bool
are_links n parts [] = true
are_links n parts (l ∷ ls) = is_link n parts l && are_links n parts ls

-- the numbers of parts have the bits of their parts
abbrev pub PartsFit : List Part → List ℤ → Type 0
PartsFit [] numbers = Unit {0}
PartsFit (p ∷ ps) numbers
    = (pos 0 ≤ℤ nth numbers p.field) ×
    (unsigned_abs (nth numbers p.field) < 2 ^ p.width) × PartsFit ps numbers

abbrev pub IsFit : List Part → Link → List ℤ → Type 0
IsFit parts (Field f) numbers = Unit {0}
IsFit parts (Opposite f) numbers = unsigned_abs (nth numbers f) < 2 ^ 33
IsFit parts (Raised f plus) numbers = unsigned_abs (nth numbers f) < 2 ^ 33
IsFit parts (Parts first count) numbers = PartsFit (parts_from parts first count) numbers
IsFit parts (Given place) numbers = Unit {0}
IsFit parts (Fixed n) numbers = Unit {0}

-- the columns have room for the numbers
abbrev pub AreFit : List Part → List Link → List ℤ → Type 0
AreFit parts [] numbers = Unit {0}
AreFit parts (l ∷ ls) numbers = IsFit parts l numbers × AreFit parts ls numbers

-- ---- columns that numbers give

-- no field of these is said twice
abbrev pub parts_once : List Part → Bool
parts_once [] = true
parts_once (p ∷ ps) = not (is_part p.field ps) && parts_once ps

-- none of these fields is said by a column
abbrev pub parts_apart : List Part → List Link → List Part → Bool
parts_apart parts ls [] = true
parts_apart parts ls (p ∷ ps) = not (say parts ls p.field) && parts_apart parts ls ps

abbrev pub is_apart : List Part → Link → List Link → Bool
is_apart parts (Field f) ls = not (say parts ls f)
is_apart parts (Opposite f) ls = not (say parts ls f)
is_apart parts (Raised f plus) ls = not (say parts ls f)
is_apart parts (Parts first count) ls = parts_once (parts_from parts first count)
    && parts_apart parts ls (parts_from parts first count)
is_apart parts (Given place) ls = true
is_apart parts (Fixed n) ls = true

-- no field is said by two columns
abbrev pub are_apart : List Part → List Link → Bool
are_apart parts [] = true
are_apart parts (l ∷ ls) = is_apart parts l ls && are_apart parts ls

-- the column has a number that its link can give
abbrev pub IsStated : List Part → Link → List ℤ → ℤ → Type 0
IsStated parts (Field f) given z = Unit {0}
IsStated parts (Opposite f) given z = Unit {0}
IsStated parts (Raised f plus) given z = Unit {0}
IsStated parts (Parts first count) given z
    = (pos 0 ≤ℤ z) × (unsigned_abs z < 2 ^ width_of (parts_from parts first count))
IsStated parts (Given place) given z = z ≡ nth given place
IsStated parts (Fixed n) given z = z ≡ n

abbrev pub AreStated : List Part → List Link → List ℤ → List ℤ → Type 0
AreStated parts [] given [] = Unit {0}
AreStated parts [] given (z ∷ zs) = ⊥
AreStated parts (l ∷ ls) given [] = ⊥
AreStated parts (l ∷ ls) given (z ∷ zs) = IsStated parts l given z × AreStated parts ls given zs

-- each column has at most 33 bits
abbrev pub AreSmall : List ℤ → Type 0
AreSmall [] = Unit {0}
AreSmall (z ∷ zs) = (unsigned_abs z < 2 ^ 33) × AreSmall zs

-- ---- ranges of fields that fit

-- field k of a table
abbrev pub field_at : List TableField → ℕ → TableField
field_at fields k = get_or fields k (record {
  width = 0;
  coding = Unsigned;
  low = pos 0;
  high = pos 0;
})

abbrev pub is_middling : TableField → Bool
is_middling f = int_le (neg_ℤ (pos 8589934591)) f.low && int_le f.high (pos 8589934591)

abbrev pub ranges_fit_parts : List TableField → List Part → Bool
ranges_fit_parts fields [] = true
ranges_fit_parts fields (p ∷ ps) =
    int_le (pos 0) (field_at fields p.field).low
    && int_lt (field_at fields p.field).high (pos (2 ^ p.width)) && ranges_fit_parts fields ps

abbrev pub range_fits : List TableField → List Part → Link → Bool
range_fits fields parts (Field f) = true
range_fits fields parts (Opposite f) = is_middling (field_at fields f)
range_fits fields parts (Raised f plus) = is_middling (field_at fields f)
range_fits fields parts (Parts first count) = ranges_fit_parts fields (parts_from parts first count)
range_fits fields parts (Given place) = true
range_fits fields parts (Fixed n) = true

-- numbers in the ranges of these fields fit the columns
abbrev pub ranges_fit : List TableField → List Part → List Link → Bool
ranges_fit fields parts [] = true
ranges_fit fields parts (l ∷ ls) = range_fits fields parts l && ranges_fit fields parts ls
