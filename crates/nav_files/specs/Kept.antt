-- A list while it is written. Private functions cite these.
use Rattle.std.specs.Prelude.{◌≡◌, ℕ, ◌++◌, List, Option}
use Rattle.std.specs.List.{flat_map}
use Rattle.std.specs.Io.KnownBytes.{Appends}

-- some items of a list were written, and the others are left
pub record WroteSome {X : Type 0} (text : X → List ℕ) (all left : List X) (written written_new : Option (List ℕ)) : Type 0 where
  pub done : List ℕ
  pub grew : Appends written written_new done
  pub is : flat_map text all ≡ done ++ flat_map text left
