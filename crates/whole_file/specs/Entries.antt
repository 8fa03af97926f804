-- The files of a directory in memory, as a list of changes, the newest first.
use Rattle.std.specs.Prelude.{◌≡◌, ◌≢◌, ℕ, List, [], ◌∷◌, Option, None, Some, if◌then◌else◌, bytes_eq}
use Rattle.std.specs.String.{string_bytes}
use Rattle.std.specs.declared.vec.Vec.{Vec}
use Rattle.std.specs.declared.alloc.Global.{Global}
use Rattle.whole_file.specs.declared.entries.Entry.{Entry}

-- the bytes in memory, if there are any
abbrev pub contents_of : Option (Vec ℕ Global) → Option (List ℕ)
contents_of None = None
contents_of (Some bytes) = Some bytes.items

-- the bytes of a name, by the newest entry of that name
abbrev pub bytes_at : List Entry → List ℕ → Option (List ℕ)
bytes_at [] name = None
bytes_at (entry ∷ entries) name = if bytes_eq (string_bytes entry.name) name then contents_of entry.bytes else bytes_at entries name

-- the name has these bytes now, and every other name keeps its bytes
pub record Sets (old new : List ℕ → Option (List ℕ)) (name : List ℕ) (bytes : Option (List ℕ)) : Type 0 where
  pub there : new name ≡ bytes
  pub others : (other : List ℕ) → other ≢ name → new other ≡ old other
