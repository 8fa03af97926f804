-- The calls of a deframer from its beginning on, one after another.
use Rattle.std.specs.Prelude.{◌≡◌, ℕ, not, true, List, [], ◌∷◌, ◌++◌, length}
use Rattle.framing.specs.State.{DeframerState, TakesFrame, TakesNone}
use Rattle.c_calls.specs.Deframers.{ended, fed, left}

-- a call, with what it took or gave
pub data Call : Type 0 where
  -- these bytes were taken, which may be none
  Fed : List ℕ → Call
  -- this frame was given
  Gave : List ℕ → Call
  -- no frame was given
  GaveNone : Call
  -- no byte follows
  Finished : Call

-- the bytes that were taken, in order
abbrev pub bytes_fed : List Call → List ℕ
bytes_fed [] = []
bytes_fed (Fed bytes ∷ calls) = bytes ++ bytes_fed calls
bytes_fed (Gave frame ∷ calls) = bytes_fed calls
bytes_fed (GaveNone ∷ calls) = bytes_fed calls
bytes_fed (Finished ∷ calls) = bytes_fed calls

-- the frames that were given, in order
abbrev pub frames_given : List Call → List (List ℕ)
frames_given [] = []
frames_given (Fed bytes ∷ calls) = frames_given calls
frames_given (Gave frame ∷ calls) = frame ∷ frames_given calls
frames_given (GaveNone ∷ calls) = frames_given calls
frames_given (Finished ∷ calls) = frames_given calls

-- The calls lead from one state to another, each as its clauses state. If no byte follows none is
-- taken.
abbrev pub Leads : DeframerState → List Call → DeframerState → Type 0
Leads before [] after = before ≡ after
Leads before (Fed bytes ∷ calls) after = (before.finished ≡ true → bytes ≡ []) × Leads (fed before bytes) calls after
Leads before (Gave frame ∷ calls) after =
    TakesFrame (not before.finished) before.rest frame (left before (length frame)).rest × Leads (left before (length frame)) calls after
Leads before (GaveNone ∷ calls) after = TakesNone (not before.finished) before.rest (left before 0).rest × Leads (left before 0) calls after
Leads before (Finished ∷ calls) after = Leads (ended before) calls after
