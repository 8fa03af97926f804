-- Weeks of times.
use Rattle.std.specs.Prelude.{ℕ, ◌-◌, ◌/◌, nat_le, if◌then◌else◌}

-- the week of a time in seconds from 1970-01-01, counted from 1980-01-06: 0 before week 1 and after week 16,382
abbrev pub unix_week : ℕ → ℕ
unix_week seconds = if nat_le ((seconds - 315964800) / 604800) 16382 then (seconds - 315964800) / 604800 else 0
