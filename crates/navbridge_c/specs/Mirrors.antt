-- Steps of a conversion, which only private functions cite.
use Rattle.std.specs.Prelude.{ℕ, ◌==◌, ◌||◌, nat_lt, if◌then◌else◌, List, length}
use Rattle.navbridge_c.specs.Conversions.{HasEnded, Made}

-- if a sink fails, there was no memory
abbrev pub in_memory : ℕ → ℕ
in_memory status = if status == 4 || status == 7 then 6 else status

-- a conversion ended so, with all the room that it wanted
abbrev pub HasEndedInMemory : List (List ℕ) → List ℕ → Made → ℕ → Type 0
HasEndedInMemory words input made status = HasEnded words input (length made.output) (length made.report) made status

-- its status, if the buffers have these sizes, for an output and a report of these lengths
abbrev pub in_room : ℕ → ℕ → ℕ → ℕ → ℕ → ℕ
in_room status output report room report_room =
    if status == 0 then (if nat_lt room output then 4 else (if nat_lt report_room report then 7 else 0)) else status
