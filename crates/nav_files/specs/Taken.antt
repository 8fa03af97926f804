-- A file while its records are processed. Private functions cite these.
use Rattle.std.specs.Prelude.{◌≡◌, ◌+◌, ◌^◌, ◌<◌, ◌≤◌, ℕ, Bool, true, List, [], length, Option}
use Rattle.std.specs.Io.KnownBytes.{Appends}
use Rattle.rinex_read.specs.Files.{but_last}
use Rattle.rinex_read.specs.Forms.{Form}
use Rattle.rinex_read.specs.States.{AreEarly, HoldsEnd, IsPaused, RecordsState, Steps, lines_left}
use Rattle.one_run.specs.Runs.{AppendsBetween}
use Rattle.one_run.specs.declared.fault.BridgeFault.{BridgeFault}
use Rattle.one_run.specs.declared.fault.BridgeFault.TheVariants.{ReadFault, NotThisForm, TooLong, NoMemory}

-- These records were read and are held, and what is written and reported of them was appended to whatever stood before.
pub record TakenReads {R : Type 0} (f : Form R) (text told : List R → List ℕ) (holds : List R → Type 0) (left left_new : Option (List ℕ)) (old new : RecordsState) (written written_new reported reported_new : Option (List ℕ)) : Type 0 where
  pub given : List R
  pub steps : Steps f left left_new old new given
  pub near : HoldsEnd old.lines new.lines steps.reads.taken
  pub held : holds given
  pub output : (start : Option (List ℕ)) → Appends start written (text []) → Appends start written_new (text given)
  pub report : (start : Option (List ℕ)) → Appends start reported (told []) → Appends start reported_new (told given)
  pub few : length given + lines_left new ≤ lines_left old

-- the state of the reader at the end of a file
pub record AtEnd (s : RecordsState) : Type 0 where
  pub kept : s.kept ≡ []
  pub rest : s.lines.rest ≡ []
  pub ended : s.lines.ended ≡ true
  pub low : s.lines.taken < 2 ^ 32

-- The same, at the end of the file.
pub record TakesAll {R : Type 0} (f : Form R) (text told : List R → List ℕ) (holds : List R → Type 0) (left left_new : Option (List ℕ)) (old new : RecordsState) (written written_new reported reported_new : Option (List ℕ)) : Type 0 where
  pub given : List R
  pub steps : Steps f left left_new old new given
  pub near : HoldsEnd old.lines new.lines steps.reads.taken
  pub held : holds given
  pub output : (start : Option (List ℕ)) → Appends start written (text []) → Appends start written_new (text given)
  pub report : (start : Option (List ℕ)) → Appends start reported (told []) → Appends start reported_new (told given)
  pub end : AtEnd new

-- These records were read, and a prefix was written and reported of what belongs to them: all of it after a failed read, and else at
-- least what is written and reported before the last of them.
pub record TakesPart {R : Type 0} (f : Form R) (text told : List R → List ℕ) (memory : Bool) (left left_new : Option (List ℕ)) (old new : RecordsState) (written written_new reported reported_new : Option (List ℕ)) (fault : BridgeFault) : Type 0 where
  pub given : List R
  pub steps : Steps f left left_new old new given
  pub early : AreEarly old.lines steps.reads.taken steps.lines
  pub output : (start : Option (List ℕ)) → Appends start written (text []) → AppendsBetween start written_new (text (but_last given)) (text given)
  pub report : (start : Option (List ℕ)) → Appends start reported (told []) → AppendsBetween start reported_new (told (but_last given)) (told given)
  pub form : fault ≡ NotThisForm → ⊥
  pub too_long : fault ≡ TooLong → new.lines.taken ≡ 2 ^ 32
  pub wants : fault ≡ NoMemory → (memory ≡ true) × (new.lines.taken < 2 ^ 32)
  pub exact : fault ≡ ReadFault → IsPaused new × ((start : Option (List ℕ)) → Appends start written (text []) → Appends start written_new (text given))
      × ((start : Option (List ℕ)) → Appends start reported (told []) → Appends start reported_new (told given))
