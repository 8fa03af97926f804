-- What a contract sees of a deframer.
use Rattle.std.specs.Prelude.{◌≡◌, ℕ, ◌<◌, ◌≤◌, ◌⊎◌, ◌++◌, Bool, true, false, if◌then◌else◌, List}
use Rattle.std.specs.Prelude.{[], ◌∷◌, length}
use Rattle.framing.specs.Messages.{Format, messages_past, messages, undecided, after_first}

-- the state of a deframer
pub record DeframerState : Type 0 where
  -- the bytes fed and not yet passed
  pub rest : List ℕ
  -- whether `finish` was called: no byte follows
  pub finished : Bool
  -- the message found last
  pub message : List ℕ

-- nothing is held, or the bytes held begin with an incomplete message
abbrev pub IsWaiting : Format → List ℕ → Type 0
IsWaiting format rest = (rest ≡ []) ⊎ (format.is_open rest ≡ true)

-- more bytes may come, and no message is decided
abbrev pub MayFeed : Format → DeframerState → Type 0
MayFeed format state = (state.finished ≡ false) × IsWaiting format state.rest

-- A message was found: with any bytes following (none after `finish`), the messages are this one and then those of the new
-- rest.
pub record TakesMessage (format : Format) (more : Bool) (old : List ℕ) (message : List ℕ)
    (new : List ℕ) : Type 0 where
  pub stream : (following : List ℕ) → (more ≡ false → following ≡ [])
      → messages format (old ++ following) ≡ message ∷ messages format (new ++ following)
  pub first : messages_past format more old 0 ≡ message ∷ messages_past format more new 0
  pub rest : new ≡ after_first format old
  pub shorter : length new < length old

-- No message was found: none is decided or, after `finish`, none is left. The new rest is what is undecided.
pub record TakesNone (format : Format) (more : Bool) (old new : List ℕ) : Type 0 where
  pub none : messages_past format more old 0 ≡ []
  pub rest : new ≡ (if more then undecided format old else [])
  pub waiting : IsWaiting format new
  pub stream : (following : List ℕ) → (more ≡ false → following ≡ [])
      → messages format (old ++ following) ≡ messages format (new ++ following)
  pub no_longer : length new ≤ length old
