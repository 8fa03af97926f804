-- Items and records while they are gone over. Private functions cite these.
use Rattle.std.specs.Prelude.{◌≡◌, ◌⊎◌, ◌+◌, ◌<◌, ◌≤◌, ◌^◌, ℕ, Bool, true, leb, List, [], ◌∷◌, length, Option, Some, None}
use Rattle.std.specs.BTreeSet.{insert_key}
use Rattle.std.specs.List.{fold, list_all}
use Rattle.nav_eph.specs.declared.items.NavItem.{NavItem}
use Rattle.rinex_read.specs.Files.{items_of}
use Rattle.rinex_read.specs.Forms.{Form}
use Rattle.one_run.specs.declared.fault.BridgeFault.{BridgeFault}
use Rattle.one_run.specs.declared.fault.BridgeFault.TheVariants.{ReadFault, NotThisForm, TooLong}
use Rattle.rinex_read.specs.States.{HeaderSteps, RecordsState, Steps, lines_left}
use Rattle.rinex_read.specs.declared.judged.HeaderState.TheVariants.{NotRinexNav, OtherVersion}
use Rattle.rinex_read.specs.declared.judged.ItemRead.{ItemRead}
use Rattle.rinex_read.specs.declared.judged.ItemRead.TheVariants.{Item, Refused, PassedOver}
use Rattle.nav_files.specs.Numbers.{by_numbers}
use Rattle.nav_files.specs.Reading.{compared, counts_of, has_ionosphere, is_passed, is_refused}
use Rattle.nav_files.specs.declared.diff_counts.ReadCounts.{ReadCounts}

-- the items that begin with this one; none if there is no first
abbrev pub begun_by : Option NavItem → List NavItem → List NavItem
begun_by None left = []
begun_by (Some x) left = x ∷ left

-- each name has at most 20 bytes
abbrev pub are_short : List (List ℕ) → Bool
are_short names = list_all (λ name. leb (length name) 20) names

-- the item of a record, if it has one
abbrev pub item_in : ItemRead → List NavItem
item_in (Item line item) = item ∷ []
item_in (Refused line reason) = []
item_in (PassedOver line) = []

-- a set with more items
abbrev pub with_items : List NavItem → List NavItem → List NavItem
with_items set items = fold (insert_key by_numbers) set items

-- the counts with one record more
abbrev pub counted : ReadCounts → ItemRead → ReadCounts
counted c read = record {
  refused = c.refused + is_refused read;
  passed = c.passed + is_passed read;
  ionospheres = c.ionospheres + has_ionosphere read;
}

-- the records that were counted
abbrev pub sum_of : ReadCounts → ℕ
sum_of c = c.refused + c.passed + c.ionospheres

-- the state of the header at an error
abbrev pub HeaderFaultOf : BridgeFault → RecordsState → Type 0
HeaderFaultOf ReadFault new = Unit {0}
HeaderFaultOf TooLong new = new.lines.taken ≡ 2 ^ 32
HeaderFaultOf NotThisForm new = (new.header ≡ NotRinexNav) ⊎ (new.header ≡ OtherVersion)
HeaderFaultOf _ new = ⊥

-- The header is rejected, whatever bytes follow, or the reader breaks off in it.
pub record NoHeader (f : Form ItemRead) (left left_new : Option (List ℕ)) (old new : RecordsState) (fault : BridgeFault) : Type 0 where
  pub steps : HeaderSteps f left left_new old new
  pub by : HeaderFaultOf fault new

-- The reader breaks off after records.
pub record BreaksAfter (f : Form ItemRead) (left left_new : Option (List ℕ)) (old new : RecordsState) (fault : BridgeFault) : Type 0 where
  pub given : List ItemRead
  pub steps : Steps f left left_new old new given
  pub long : fault ≡ TooLong → new.lines.taken ≡ 2 ^ 32
  pub form : fault ≡ NotThisForm → ⊥

-- These records were read, their items added, and the records counted.
pub record ReadsSome (f : Form ItemRead) (all : Bool) (left left_new : Option (List ℕ)) (old new : RecordsState) (items items_new : List NavItem) (counts : ReadCounts) : Type 0 where
  pub given : List ItemRead
  pub steps : Steps f left left_new old new given
  pub added : items_new ≡ with_items items (compared all (items_of given))
  pub counted : counts ≡ counts_of given
  pub few : length given + lines_left new ≤ lines_left old

-- the state of the reader at the end of a file
pub record AtEnd (s : RecordsState) : Type 0 where
  pub kept : s.kept ≡ []
  pub rest : s.lines.rest ≡ []
  pub ended : s.lines.ended ≡ true
  pub low : s.lines.taken < 2 ^ 32

-- The same of all records of a file.
pub record ReadsAll (f : Form ItemRead) (all : Bool) (left left_new : Option (List ℕ)) (old new : RecordsState) (items items_new : List NavItem) (counts : ReadCounts) : Type 0 where
  pub given : List ItemRead
  pub steps : Steps f left left_new old new given
  pub added : items_new ≡ with_items items (compared all (items_of given))
  pub counted : counts ≡ counts_of given
  pub end : AtEnd new
