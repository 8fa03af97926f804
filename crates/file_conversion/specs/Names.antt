-- Names of outputs.
use Rattle.std.specs.Prelude.{ℕ, List, ◌∷◌, ◌++◌}

-- a stem, a dot and an ending
abbrev pub with_ending : List ℕ → List ℕ → List ℕ
with_ending stem ending = stem ++ 46 ∷ ending
