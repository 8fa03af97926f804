-- The kinds of rows.
use Rattle.std.specs.Prelude.{◌≡◌, ℕ, List, [], ◌∷◌, pos}
use Rattle.nav_tables.specs.declared.field.Field.{Field}
use Rattle.nav_rows.specs.Kinds.{IsKind}
use Rattle.nav_rows.specs.declared.kind.Kind.{Kind}

-- the first field of a message is the constant of its number
abbrev pub BeginsWith : List Field → ℕ → Type 0
BeginsWith [] message = ⊥
BeginsWith (f ∷ fs) message = (f.low ≡ pos message) × (f.high ≡ pos message)

-- a kind of the messages of this number, whose tables fit one another
pub record IsKindOf (message : ℕ) (k : Kind) : Type 0 where
  pub kind : IsKind k
  pub number : BeginsWith k.table.fields.now message
