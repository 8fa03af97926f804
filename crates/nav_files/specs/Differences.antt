-- The differences of two lists of items, and their text.
use Rattle.std.specs.Prelude.{ℕ, ◌+◌, ◌/◌, ◌%◌, ℤ, if◌then◌else◌, List, [], ◌∷◌, ◌++◌, codes, decimal}
use Rattle.std.specs.Fmt.{signed_decimal}
use Rattle.std.specs.BTreeSet.{difference}
use Rattle.std.specs.List.{flat_map}
use Rattle.std.specs.Ordering.{int_eq, match_ordering}
use Rattle.nav_eph.specs.Functions.{civil_to}
use Rattle.nav_eph.specs.declared.calendar.Civil.{Civil}
use Rattle.nav_eph.specs.declared.items.NavItem.{NavItem}
use Rattle.nav_eph.specs.declared.items.NavItem.TheVariants.{Gps, Gal, Ion}
use Rattle.nav_lists.specs.Fronts.{satellite_of}
use Rattle.nav_lists.specs.Merging.{moment_of}
use Rattle.streams.specs.ItemTexts.{satellite_text}
use Rattle.nav_files.specs.Numbers.{by_key, by_numbers, names_of, numbers_of}
use Rattle.nav_files.specs.declared.difference.Difference.{Difference}
use Rattle.nav_files.specs.declared.difference.Difference.TheVariants.{OnlyFirst, OnlySecond, Both}

-- the items of the first list that are not in the second
abbrev pub lacking : List NavItem → List NavItem → List NavItem
lacking xs ys = difference by_numbers (record { keys = xs }) (record { keys = ys })

-- an item of the first list, and how the items that follow it there are paired, beside the items of the second
abbrev pub beside : NavItem → (List NavItem → List Difference) → List NavItem → List Difference
beside x more [] = OnlyFirst x ∷ more []
beside x more (y ∷ ys) = match_ordering (by_key x y) (OnlyFirst x ∷ more (y ∷ ys)) (Both x y ∷ more ys) (OnlySecond y ∷ beside x more ys)

-- two lists in the order of their keys: items of the same key are paired
abbrev pub paired : List NavItem → List NavItem → List Difference
paired [] [] = []
paired [] (y ∷ ys) = OnlySecond y ∷ paired [] ys
paired (x ∷ xs) ys = beside x (paired xs) ys

-- the differences of two sets: the items that only one of them has, paired where their keys are the same
abbrev pub differences : List NavItem → List NavItem → List Difference
differences first second = paired (lacking first second) (lacking second first)

-- two digits
abbrev pub two_digits : ℕ → List ℕ
two_digits n = (48 + n / 10) ∷ (48 + n % 10) ∷ []

-- a date and time, as 2026-11-29 04:00:00
unfoldable pub date_text : Civil → List ℕ
date_text c =
    (((((decimal c.year ++ 45 ∷ two_digits c.month) ++ 45 ∷ two_digits c.day) ++ 32 ∷ two_digits c.hour) ++ 58 ∷ two_digits c.minute)
    ++ 58 ∷ two_digits c.second)

-- what follows the time of an item: the class of an ionosphere
abbrev pub class_text : NavItem → List ℕ
class_text (Gps e) = []
class_text (Gal e) = []
class_text (Ion e) = codes " ION"

-- an item by satellite and GPS time
abbrev pub item_text : NavItem → List ℕ
item_text x = ((satellite_text (satellite_of x) ++ codes " ") ++ date_text (civil_to (moment_of x))) ++ class_text x

-- the line of a number that differs
abbrev pub number_line : List ℕ → List ℕ → ℤ → ℤ → List ℕ
number_line head name a b =
    (((((head ++ codes " ") ++ name) ++ codes " ") ++ signed_decimal a) ++ codes " ") ++ (signed_decimal b ++ codes "\n")

-- it has no line if the numbers are equal, or without a name
abbrev pub number_text : List ℕ → List ℕ → ℤ → ℤ → List ℕ
number_text head [] a b = []
number_text head (c ∷ cs) a b = if int_eq a b then [] else number_line head (c ∷ cs) a b

-- the lines of numbers with these names
abbrev pub numbers_text : List ℕ → List (List ℕ) → List ℤ → List ℤ → List ℕ
numbers_text head (n ∷ ns) (x ∷ xs) (y ∷ ys) = number_text head n x y ++ numbers_text head ns xs ys
numbers_text head _ _ _ = []

-- the lines of a difference
abbrev pub difference_text : Difference → List ℕ
difference_text (OnlyFirst x) = (codes "only in A: " ++ item_text x) ++ codes "\n"
difference_text (OnlySecond y) = (codes "only in B: " ++ item_text y) ++ codes "\n"
difference_text (Both x y) = numbers_text (codes "differs: " ++ item_text x) (names_of x) (numbers_of x) (numbers_of y)

-- the text of the differences of two sets
abbrev pub diff_text : List NavItem → List NavItem → List ℕ
diff_text first second = flat_map difference_text (differences first second)
