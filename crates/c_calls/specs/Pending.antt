-- What was written, of which what was taken is released.
use Rattle.std.specs.Prelude.{ℕ, ◌-◌, List, ◌∷◌, ◌++◌, length, min, nat_le, if◌then◌else◌}
use Rattle.c_calls.specs.declared.pending.Pending.{Pending}

-- all that was written
abbrev pub all_of : Pending → List ℕ
all_of p = p.released.text ++ p.bytes.items

-- the same after a number, how many bytes of it are released: what writes leave, which only append
abbrev pub marked_text : Pending → List ℕ
marked_text p = length p.released.text ∷ all_of p

-- how many bytes are released once so many of those written were taken: all of these, unless more wait than would be released
abbrev pub released_by : ℕ → ℕ → ℕ → ℕ
released_by written taken released = if nat_le (written - taken) (taken - released) then min taken written else released
