-- What contracts see of a deframer and of a frame.
use Rattle.std.specs.Prelude.{◌≡◌, ℕ, ◌-◌, ◌<◌, ◌≤◌, ◌⊎◌, ◌++◌, Bool, true, false, if◌then◌else◌, List, [], ◌∷◌, length, take, drop}
use Rattle.framing.specs.Frames.{is_open, frames_past, frames, undecided, after_first}

-- a deframer
pub record DeframerState : Type 0 where
  -- the bytes that were fed and are not yet consumed
  pub rest : List ℕ
  -- whether `finish` was called: no byte follows
  pub finished : Bool

-- the bytes are empty or begin with an incomplete frame
abbrev pub IsWaiting : List ℕ → Type 0
IsWaiting rest = (rest ≡ []) ⊎ (is_open rest ≡ true)

-- bytes may be fed: more may come, and no frame is decided
abbrev pub MayFeed : DeframerState → Type 0
MayFeed state = (state.finished ≡ false) × IsWaiting state.rest

-- A frame is decided: whatever bytes follow (none if more is false), the frames are this one, then those of the new rest.
pub record TakesFrame (more : Bool) (old : List ℕ) (frame : List ℕ) (new : List ℕ) : Type 0 where
  pub stream : (following : List ℕ) → (more ≡ false → following ≡ []) → frames (old ++ following) ≡ frame ∷ frames (new ++ following)
  pub first : frames_past more old 0 ≡ frame ∷ frames_past more new 0
  pub rest : new ≡ after_first old
  pub shorter : length new < length old

-- No frame is decided or, if more is false, there is none. The new rest begins with the first incomplete frame.
pub record TakesNone (more : Bool) (old new : List ℕ) : Type 0 where
  pub none : frames_past more old 0 ≡ []
  pub rest : new ≡ (if more then undecided old else [])
  pub waiting : IsWaiting new
  pub stream : (following : List ℕ) → (more ≡ false → following ≡ []) → frames (old ++ following) ≡ frames (new ++ following)
  pub no_longer : length new ≤ length old

-- the payload of a frame: the bytes between header and checksum
abbrev pub payload_of : List ℕ → List ℕ
payload_of frame = take (length frame - 6) (drop 3 frame)
