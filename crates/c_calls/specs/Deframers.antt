-- A deframer: what its steps leave, and what it is to hold one in memory (RTCM 10403.3, the transport layer).
use Rattle.std.specs.Prelude.{◌≡◌, ℕ, ◌<◌, ◌≤◌, ◌++◌, nat_lt, not, true, false, if◌then◌else◌, List, [], length}
use Rattle.std.specs.Borrow.{full_share}
use Rattle.std.specs.Mem.{type_size}
use Rattle.std.specs.Ptr.{Ptr, lies_at, room_at}
use base.Fml.{Fml}
use Rattle.framing.specs.Frames.{undecided, after_first}
use Rattle.framing.specs.State.{DeframerState, MayFeed, TakesFrame, TakesNone}
use Rattle.framing.specs.contracts.deframer.Deframer.{the_row}
use Rattle.raw_values.specs.Rooms.{StandsIn}

-- a deframer in this state lies there, and nobody else has it
abbrev pub HoldsDeframer : Ptr → DeframerState → Fml
HoldsDeframer at state = lies_at the_row full_share at state

-- there is room for a deframer, whatever lies there
abbrev pub HasRoom : Ptr → Fml
HasRoom at = room_at the_row at

-- how many bytes a deframer takes
abbrev pub deframer_size : ℕ
deframer_size = type_size the_row

-- no byte was fed
abbrev pub fresh : DeframerState
fresh = record { rest = []; finished = false }

-- these bytes more were fed
abbrev pub fed : DeframerState → List ℕ → DeframerState
fed state bytes = record { rest = state.rest ++ bytes; finished = state.finished }

-- no byte follows
abbrev pub ended : DeframerState → DeframerState
ended state = record { rest = state.rest; finished = true }

-- What is left if a frame of this size was given: the bytes after the first frame. If none was,
-- which size 0 reports: those from the first incomplete frame on, and none if no byte follows.
abbrev pub left : DeframerState → ℕ → DeframerState
left state size = record {
  rest = if nat_lt 0 size then after_first state.rest else if state.finished then [] else undecided state.rest;
  finished = state.finished;
}

-- How many bytes of a piece are taken: at least one if there is one and bytes may be fed, else
-- none.
pub record Feeds (state : DeframerState) (piece : List ℕ) (taken : ℕ) : Type 0 where
  pub within : taken ≤ length piece
  pub some : MayFeed state → 0 < length piece → 0 < taken
  pub none : (MayFeed state → ⊥) → taken ≡ 0

-- The next frame is in the buffer, and its size is returned; or there is none, which size 0
-- reports, and nothing is put.
pub record Gives (state : DeframerState) (old new : List ℕ) (size : ℕ) : Type 0 where
  pub frame : 0 < size → (whole : List ℕ) × TakesFrame (not state.finished) state.rest whole (left state size).rest × StandsIn old new size whole
  pub none : size ≡ 0 → TakesNone (not state.finished) state.rest (left state size).rest × (new ≡ old)
