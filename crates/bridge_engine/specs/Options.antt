-- The options that the arguments spell, and their values.
use Rattle.std.specs.Prelude.{◌≡◌, ◌⊎◌, ℕ, List, [], ◌∷◌, ◌++◌, codes, Contains, Option, None, Some}

-- an option: its name and its value
pub record Choice : Type 0 where
  pub name : List ℕ
  pub value : List ℕ

-- the option of this name and this value
abbrev pub choice : List ℕ → List ℕ → Choice
choice name value = record { name = name; value = value }

-- the text begins with a dash
abbrev pub BeginsWithDash : List ℕ → Type 0
BeginsWithDash text = (more : List ℕ) × (text ≡ codes "-" ++ more)

-- These words spell the option: `--name=value`, or `--name` and then a value that doesn't begin with a dash. No name has `=` in it.
abbrev pub IsSpelling : List (List ℕ) → Choice → Type 0
IsSpelling words option =
    ¬ Contains option.name 61
    × ((words ≡ (codes "--" ++ option.name ++ codes "=" ++ option.value) ∷ [])
    ⊎ ((words ≡ (codes "--" ++ option.name) ∷ option.value ∷ []) × ¬ BeginsWithDash option.value))

-- the words begin with a spelling of the option, and these are the words after it
abbrev pub Begins : List (List ℕ) → Choice → List (List ℕ) → Type 0
Begins words option rest = (prefix : List (List ℕ)) × (words ≡ prefix ++ rest) × IsSpelling prefix option

-- the words spell these options, one after another
abbrev pub Spells : List (List ℕ) → List Choice → Type 0
Spells words [] = words ≡ []
Spells words (option ∷ options) = (rest : List (List ℕ)) × Begins words option rest × Spells rest options

-- the option of this name has this value, or is absent
abbrev pub Holds : List Choice → List ℕ → Option (List ℕ) → Type 0
Holds options name (Some value) = Contains options (choice name value)
Holds options name None = (value : List ℕ) → ¬ Contains options (choice name value)

-- each name occurs at most once
abbrev pub AreOnce : List Choice → Type 0
AreOnce [] = Unit {0}
AreOnce (option ∷ options) = Holds options option.name None × AreOnce options

-- the name is one of the seven option names
abbrev pub IsName : List ℕ → Type 0
IsName name = (name ≡ codes "from") ⊎ ((name ≡ codes "to") ⊎ ((name ≡ codes "week") ⊎ ((name ≡ codes "leap")
    ⊎ ((name ≡ codes "date") ⊎ ((name ≡ codes "seed") ⊎ (name ≡ codes "sats"))))))

-- every option has one of these names
abbrev pub AreNamed : List Choice → Type 0
AreNamed [] = Unit {0}
AreNamed (option ∷ options) = IsName option.name × AreNamed options

-- the option values, by name
pub record OptionsGiven : Type 0 where
  pub from : Option (List ℕ)
  pub to : Option (List ℕ)
  pub week : Option (List ℕ)
  pub leap : Option (List ℕ)
  pub date : Option (List ℕ)
  pub seed : Option (List ℕ)
  pub sats : Option (List ℕ)

-- the words spell options in any order, each name at most once
pub record AreOptions (words : List (List ℕ)) : Type 0 where
  pub options : List Choice
  pub spelled : Spells words options
  pub named : AreNamed options
  pub once : AreOnce options

-- the options have these values
pub record HaveValues (options : List Choice) (given : OptionsGiven) : Type 0 where
  pub from : Holds options (codes "from") given.from
  pub to : Holds options (codes "to") given.to
  pub week : Holds options (codes "week") given.week
  pub leap : Holds options (codes "leap") given.leap
  pub date : Holds options (codes "date") given.date
  pub seed : Holds options (codes "seed") given.seed
  pub sats : Holds options (codes "sats") given.sats

-- the words spell options that have these values
abbrev pub GiveValues : List (List ℕ) → OptionsGiven → Type 0
GiveValues words given = (spelling : AreOptions words) × HaveValues spelling.options given
