-- Where outputs are put.
use Rattle.std.specs.Prelude.{ℕ, List, Option, None, Some}
use Rattle.std.specs.Path.{path_join, path_with_file_name}

-- a name in a directory, or next to the input if none is named
abbrev pub placed : List ℕ → Option (List ℕ) → List ℕ → List ℕ
placed input None name = path_with_file_name input name
placed input (Some folder) name = path_join folder name
