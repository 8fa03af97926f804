-- The items of a complete navigation file: those of the records after its header, in their order (RINEX 4.01 and 3.05)
use Rattle.std.specs.Prelude.{◌≡◌, ◌⊎◌, ℕ, List, [], ◌∷◌, ◌++◌, codes}
use Rattle.nav_eph.specs.declared.items.NavItem.{NavItem}
use Rattle.rinex_read.specs.Lines.{columns, lines_of}
use Rattle.rinex_read.specs.Files.{Body}
use Rattle.job_laws.specs.RinexRecords.{IsHeaderBefore, IsRecord, IsRecord3, IsVersion3, IsVersion4}

-- none of the lines begins a record
abbrev pub NoneBegin : (List ℕ → Type 0) → List (List ℕ) → Type 0
NoneBegin Begins [] = Unit {0}
NoneBegin Begins (l ∷ ls) = (Begins l → ⊥) × NoneBegin Begins ls

-- of each record the first line begins one, and no other does
abbrev pub AreBegun : (List ℕ → Type 0) → List (List (List ℕ)) → Type 0
AreBegun Begins [] = Unit {0}
AreBegun Begins ([] ∷ rs) = ⊥
AreBegun Begins ((l ∷ ls) ∷ rs) = Begins l × NoneBegin Begins ls × AreBegun Begins rs

-- the lines of records, one after another
abbrev pub joined : List (List (List ℕ)) → List (List ℕ)
joined [] = []
joined (r ∷ rs) = r ++ joined rs

-- each record is a record of the next item, or of none
abbrev pub AreOf : (List (List ℕ) → NavItem → Type 0) → List (List (List ℕ)) → List NavItem → Type 0
AreOf IsOf [] items = items ≡ []
AreOf IsOf (r ∷ rs) items =
    ((item : NavItem) × (rest : List NavItem) × (items ≡ item ∷ rest) × IsOf r item × AreOf IsOf rs rest)
    ⊎ (((item : NavItem) → IsOf r item → ⊥) × AreOf IsOf rs items)

-- the lines are a header, lines before the first record, and records, which are those of the items
pub record IsFile (IsVersion Begins : List ℕ → Type 0) (IsOf : List (List ℕ) → NavItem → Type 0) (lines : List (List ℕ)) (items : List NavItem) : Type 0 where
  pub body : Body
  pub header : IsHeaderBefore IsVersion lines body
  pub before : List (List ℕ)
  pub records : List (List (List ℕ))
  pub lines_are : body.lines ≡ before ++ joined records
  pub none : NoneBegin Begins before
  pub begun : AreBegun Begins records
  pub of : AreOf IsOf records items

-- lines of a record of version 4, its title and those after it
abbrev pub IsTitled : List (List ℕ) → NavItem → Type 0
IsTitled [] item = ⊥
IsTitled (title ∷ lines) item = IsRecord title lines item

-- the bytes are a file of version 4: a record begins with `>`
abbrev pub IsFile4 : List ℕ → List NavItem → Type 0
IsFile4 bytes items = IsFile IsVersion4 (λ line. columns 0 1 line ≡ codes ">") IsTitled (lines_of bytes) items

-- the bytes are a file of version 3: a record begins with a line whose first column is not blank
abbrev pub IsFile3 : List ℕ → List NavItem → Type 0
IsFile3 bytes items = IsFile IsVersion3 (λ line. columns 0 1 line ≡ codes " " → ⊥) IsRecord3 (lines_of bytes) items
