-- What private steps of the code compute.
use Rattle.std.specs.Prelude.{ℕ, List, [], ◌∷◌, ℤ}
use Rattle.nav_tables.specs.declared.field.Field.{Field}
use Rattle.nav_tables.specs.Fields.{bits_of}

-- the widths of the fields and the bits of their numbers
abbrev pub pairs : List Field → List ℤ → List (ℕ × ℕ)
pairs [] zs = []
pairs (f ∷ fs) [] = []
pairs (f ∷ fs) (z ∷ zs) = (f.width, bits_of f z) ∷ pairs fs zs
