-- What calls do to the files of a directory, if its contracts state them: a map from each name to
-- the bytes of its file, or none.
use Rattle.std.specs.Prelude.{◌≡◌, ◌≢◌, ℕ, List, [], Option, None, Some}

-- every name but that of the part keeps its bytes
abbrev pub Stays : Option (List ℕ → Option (List ℕ)) → Option (List ℕ → Option (List ℕ)) → List ℕ → Type 0
Stays None new part = Unit {0}
Stays (Some old) None part = ⊥
Stays (Some old) (Some new) part = (name : List ℕ) → name ≢ part → new name ≡ old name

-- a file of this name exists, and all its bytes are still to be read
abbrev pub Opens : Option (List ℕ → Option (List ℕ)) → List ℕ → Option (List ℕ) → Type 0
Opens None name left = Unit {0}
Opens (Some files) name left = (bytes : List ℕ) × (files name ≡ Some bytes) × (left ≡ Some bytes)

-- no file of this name existed, and the new one is empty
abbrev pub Begins : Option (List ℕ → Option (List ℕ)) → List ℕ → Option (List ℕ) → Type 0
Begins None part written = Unit {0}
Begins (Some files) part written = (files part ≡ None) × (written ≡ Some [])

-- the name has these bytes, the part is removed, and every other name keeps its bytes
pub record Puts (old new : List ℕ → Option (List ℕ)) (part name bytes : List ℕ) : Type 0 where
  pub there : new name ≡ Some bytes
  pub gone : new part ≡ None
  pub others : (other : List ℕ) → other ≢ part → other ≢ name → new other ≡ old other

-- the name has the bytes that were written, if the directory and the writer state them
abbrev pub Publishes : Option (List ℕ → Option (List ℕ)) → Option (List ℕ → Option (List ℕ)) → List ℕ → List ℕ
    → Option (List ℕ) → Type 0
Publishes None new part name written = Unit {0}
Publishes (Some old) None part name written = ⊥
Publishes (Some old) (Some new) part name None = ⊥
Publishes (Some old) (Some new) part name (Some bytes) = Puts old new part name bytes
