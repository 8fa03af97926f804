-- What it is to hold a conversion, or page parts, in memory.
use Rattle.std.specs.Prelude.{ℕ}
use Rattle.std.specs.Borrow.{full_share}
use Rattle.std.specs.Mem.{type_size}
use Rattle.std.specs.Ptr.{Ptr, lies_at, room_at}
use base.Fml.{Fml, ftrue, fsep, fex}
use Rattle.c_calls.specs.Pushes.{PushState}
use Rattle.c_calls.specs.PagePairs.{PagesState}
use Rattle.c_calls.specs.contracts.push.PushedJob.{the_row}
use Rattle.c_calls.specs.contracts.state_pages.PagePairs.{the_row as pages_row}

-- a conversion in this state lies there, and nobody else has it
abbrev pub HoldsPush : Ptr → PushState → Fml
HoldsPush at state = lies_at the_row full_share at state

-- the same in some state of which this holds
abbrev pub HoldsPushThat : Ptr → (PushState → Type 0) → Fml
HoldsPushThat at holds = fex PushState (λ state. fsep (HoldsPush at state) (fex (holds state) (λ _. ftrue)))

-- there is room for a conversion, whatever lies there
abbrev pub HasPushRoom : Ptr → Fml
HasPushRoom at = room_at the_row at

-- how many bytes a conversion takes
abbrev pub push_size : ℕ
push_size = type_size the_row

-- page parts in this state lie there, and nobody else has them
abbrev pub HoldsPages : Ptr → PagesState → Fml
HoldsPages at state = lies_at pages_row full_share at state

-- the same in some state of which this holds
abbrev pub HoldsPagesThat : Ptr → (PagesState → Type 0) → Fml
HoldsPagesThat at holds = fex PagesState (λ state. fsep (HoldsPages at state) (fex (holds state) (λ _. ftrue)))

-- there is room for page parts, whatever lies there
abbrev pub HasPagesRoom : Ptr → Fml
HasPagesRoom at = room_at pages_row at

-- how many bytes page parts take
abbrev pub pages_size : ℕ
pages_size = type_size pages_row
