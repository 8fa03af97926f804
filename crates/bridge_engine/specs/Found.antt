-- Parsed option values against rows of the table of conversions. Only private functions cite these.
use Rattle.std.specs.Prelude.{◌≡◌, ℕ, List}
use Rattle.bridge_engine.specs.declared.values.OptionValues.{OptionValues}
use Rattle.bridge_engine.specs.Job.{Row, Target}

-- the target has this `--to` word, and these are the leap seconds and date of its header
abbrev pub IsTarget : Target → List ℕ → OptionValues → Type 0
IsTarget target to values = (to ≡ target.word) × (values.leap ≡ target.leap) × (values.date ≡ target.date)

-- the row has these `--from` and `--to` words and these values
abbrev pub IsRow : Row → List ℕ → List ℕ → OptionValues → Type 0
IsRow r from to values =
    (from ≡ r.from) × (to ≡ r.to) × (values.week ≡ r.values.week) × (values.leap ≡ r.values.leap) × (values.date ≡ r.values.date)
    × (values.seed ≡ r.values.seed) × (values.sats ≡ r.values.sats)
