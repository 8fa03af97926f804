-- Page parts that wait for their partners: what their steps leave (Galileo OS SIS ICD, 4.3.2).
use Rattle.std.specs.Prelude.{◌≡◌, ◌≢◌, ◌⊎◌, ◌↔◌, ℕ, ◌==◌, if◌then◌else◌, List, [], ◌∷◌, min, max, Contains, Option, None, Some}
use Rattle.nav_bits.specs.Bits.{number_at}
use Rattle.nav_eph.specs.Satellite.{IsSat}
use Rattle.nav_eph.specs.declared.sat.System.TheVariants.{Gal}
use Rattle.nav_eph.specs.declared.signal.Signal.{Signal}
use Rattle.nav_eph.specs.declared.signal.Signal.TheVariants.{E1b, E5b}
use Rattle.inav.specs.Pages.{kept_of, kind_of}
use Rattle.inav.specs.Received.{AreWordsWith, StampedHalf, stamp_by}
use Rattle.inav.specs.Keeping.{IsKeptWith, Keeping, stamped}
use Rattle.c_calls.specs.Pages.{page_bits}
use Rattle.c_calls.specs.declared.state_pages.JoinedPage.{JoinedPage}

-- what contracts see
pub record PagesState : Type 0 where
  -- the parts that are retained
  pub halves : Keeping
  -- the words that the last part made with its partners and that were not given yet, and the time
  -- tag of their odd parts
  pub words : List (List ℕ)
  pub stamp : ℕ

-- a window in seconds, brought into the range of captures' windows
abbrev pub window_of : ℕ → ℕ
window_of seconds = max 60 (min seconds 14400)

-- no part was taken
pub record IsEmpty (s : PagesState) (seconds : ℕ) : Type 0 where
  pub window : s.halves.window ≡ window_of seconds
  pub greatest : s.halves.greatest ≡ 0
  pub kept : s.halves.kept ≡ []
  pub words : s.words ≡ []

-- the signal with this number
abbrev pub signal_in : ℕ → Option Signal
signal_in number = if number == 1 then Some E1b else if number == 2 then Some E5b else None

-- A part is taken: the words that it makes with those that were retained are to be given, and it is
-- retained with those that are recent.
pub record TakesPart (old new : PagesState) (taken : StampedHalf) : Type 0 where
  pub words : (Contains old.halves.kept taken → ⊥) → AreWordsWith (Contains old.halves.kept) taken new.words
  -- one that is retained already makes no words
  pub again : Contains old.halves.kept taken → new.words ≡ []
  pub stamp : new.words ≢ [] → new.stamp ≡ stamp_by (kind_of taken.half) taken.stamp
  pub kept : (other : StampedHalf) → Contains new.halves.kept other ↔ IsKeptWith old.halves taken new.halves.greatest other
  pub greatest : new.halves.greatest ≡ max old.halves.greatest taken.stamp
  pub window : new.halves.window ≡ old.halves.window

-- the result, if the part is taken or there is no memory for it
abbrev pub TakesOrNot : PagesState → PagesState → StampedHalf → ℕ → Type 0
TakesOrNot old new taken answer = ((answer ≡ 0) × TakesPart old new taken) ⊎ ((answer ≡ 6) × (new ≡ old))

-- the same by the signal, if there is one with that number
abbrev pub TakesBySignal : PagesState → PagesState → List ℕ → ℕ → ℕ → Option Signal → ℕ → Type 0
TakesBySignal old new part stamp satellite None answer = (answer ≡ 72) × (new ≡ old)
TakesBySignal old new part stamp satellite (Some signal) answer =
    TakesOrNot old new (stamped stamp (record { system = Gal; number = satellite }) signal (kept_of (number_at part 0 120))) answer

-- A part of 120 bits, received from a Galileo satellite on a signal at a time tag, is taken, with
-- this result.
pub record TakesBits (old new : PagesState) (part : List ℕ) (stamp satellite signal answer : ℕ) : Type 0 where
  pub no_satellite : (IsSat Gal satellite → ⊥) → (answer ≡ 62) × (new ≡ old)
  pub alert : IsSat Gal satellite → number_at part 1 1 ≡ 1 → (answer ≡ 65) × (new ≡ old)
  pub taken : IsSat Gal satellite → (number_at part 1 1 ≡ 1 → ⊥) → TakesBySignal old new part stamp satellite (signal_in signal) answer

-- what is left if the first word was given
abbrev pub one_given : PagesState → List (List ℕ) → PagesState
one_given s words = record { halves = s.halves; words = words; stamp = s.stamp }

-- The next word is given as its page, which 1 says; or there is none, which 0 says, and nothing is put.
abbrev pub GivesPage : PagesState → PagesState → JoinedPage → JoinedPage → List (List ℕ) → ℕ → Type 0
GivesPage old new page_old page_new [] answer = (answer ≡ 0) × (new ≡ old) × (page_new ≡ page_old)
GivesPage old new page_old page_new (word ∷ words) answer =
    (answer ≡ 1) × (new ≡ one_given old words) × (page_new ≡ record { page = page_bits word; stamp = old.stamp })
