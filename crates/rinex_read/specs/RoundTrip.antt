-- What the theorems about written and read files assume and state.
use Rattle.std.specs.Prelude.{◌≡◌, ℕ, ◌+◌, true, false, List, [], ◌∷◌, ◌++◌, length, Ok}
use Rattle.nav_eph.specs.declared.items.NavItem.{NavItem}
use Rattle.nav_eph.specs.Ranges.{IsItem}
use Rattle.rinex_write.specs.Texts.{AreLines, item_lines}
use Rattle.rinex_read.specs.declared.judged.ItemRead.{ItemRead}
use Rattle.rinex_read.specs.declared.judged.ItemRead.TheVariants.{Item, Refused, PassedOver}
use Rattle.rinex_read.specs.Forms.{Form, begins}
use Rattle.rinex_read.specs.Files.{header_of}

-- each item is consistent, each field within its width
abbrev pub AreItems : List NavItem → Type 0
AreItems [] = Unit {0}
AreItems (i ∷ is) = IsItem i × AreItems is

-- no line begins a record of the format
abbrev pub NoneBegins : {R : Type 0} → Form R → List (List ℕ) → Type 0
NoneBegins f [] = Unit {0}
NoneBegins f (l ∷ ls) = (begins f l ≡ false) × NoneBegins f ls

-- lines of one record: only the first begins one, and each byte is at least 32
pub record AreRecordLines {R : Type 0} (f : Form R) (lines : List (List ℕ)) : Type 0 where
  pub title : List ℕ
  pub others : List (List ℕ)
  pub lines_are : lines ≡ title ∷ others
  pub first : begins f title ≡ true
  pub rest : NoneBegins f others
  pub shown : AreLines lines

-- lines of a record that gives the item, whatever lines follow
pub record StandFor (f : Form ItemRead) (lines : List (List ℕ)) (item : NavItem) : Type 0 where
  pub are : AreRecordLines f lines
  pub judged : (number : ℕ) (more : List (List ℕ)) → f.judged number (lines ++ more) ≡ Item number item

-- the lines written for each item give it
abbrev pub AllStand : Form ItemRead → (NavItem → List (List ℕ)) → List NavItem → Type 0
AllStand f write [] = Unit {0}
AllStand f write (i ∷ is) = StandFor f (write i) i × AllStand f write is

-- lines of a header: each byte is at least 32, and what follows is read after the header
pub record AreHeaderLines {R : Type 0} (f : Form R) (lines : List (List ℕ)) : Type 0 where
  pub shown : AreLines lines
  pub passed : (more : List (List ℕ)) → header_of f 0 (lines ++ more) ≡ Ok (record { number = length lines; lines = more })

-- each item with the first line's number of its record, n lines being before these
abbrev pub numbered_by : (NavItem → List (List ℕ)) → ℕ → List NavItem → List ItemRead
numbered_by write n [] = []
numbered_by write n (i ∷ is) = Item (n + 1) i ∷ numbered_by write (n + length (write i)) is

-- the same of the records of version 4
abbrev pub numbered : ℕ → List NavItem → List ItemRead
numbered = numbered_by item_lines

-- an item that was read is consistent, each field within its width
abbrev pub IsWholeRead : ItemRead → Type 0
IsWholeRead (Item line item) = IsItem item
IsWholeRead (Refused line reason) = Unit {0}
IsWholeRead (PassedOver line) = Unit {0}
