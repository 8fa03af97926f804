-- The content of a line of a capture: an item of which it is a spelling (spellings differ only in
-- leading zeros of the time tag and in the case of hexadecimal digits), a line to be skipped, or
-- malformed.
use Rattle.std.specs.Prelude.{◌≡◌, ℕ, ◌^◌, ◌<◌, ◌≤◌, ◌⊎◌, List, [], ◌∷◌, ◌++◌, All, length, Ok}
use Rattle.std.specs.Str.Parse.{IsNumeral, digits_value}
use Rattle.hex.specs.Hex.{decode_of}
use Rattle.nav_eph.specs.Satellite.{Satellite, IsSat}
use Rattle.nav_eph.specs.declared.sat.System.TheVariants.{Gps, Gal}
use Rattle.nav_eph.specs.declared.signal.Signal.{Signal}
use Rattle.capture_lines.specs.Texts.{lnav_line, half_line, frame_line}
use Rattle.capture_lines.specs.declared.item.LineItem.{LineItem}
use Rattle.capture_lines.specs.declared.item.LineItem.TheVariants.{Pass, Lnav, Half, Frame, Malformed}

-- one to ten decimal digits of a number up to 4,294,967,295
pub record IsNumberText (number : ℕ) (text : List ℕ) : Type 0 where
  pub numeral : IsNumeral 10 text
  pub short : length text ≤ 10
  pub value : digits_value 10 text ≡ number
  pub fits : number < 2 ^ 32

-- the line of a subframe: a GPS satellite and 76 hexadecimal digits of either case
pub record IsLnavLine (stamp : ℕ) (sat : Satellite) (bits line : List ℕ) : Type 0 where
  pub time : List ℕ
  pub digits : List ℕ
  pub line_is : line ≡ lnav_line time sat.number digits
  pub time_is : IsNumberText stamp time
  pub system : sat.system ≡ Gps
  pub number : IsSat Gps sat.number
  pub digits_are : decode_of digits ≡ Ok bits
  pub size : length bits ≡ 38

-- the line of a page part: a Galileo satellite, a signal and 30 hexadecimal digits
pub record IsHalfLine (stamp : ℕ) (sat : Satellite) (signal : Signal) (bits line : List ℕ) : Type 0 where
  pub time : List ℕ
  pub digits : List ℕ
  pub line_is : line ≡ half_line time sat.number signal digits
  pub time_is : IsNumberText stamp time
  pub system : sat.system ≡ Gal
  pub number : IsSat Gal sat.number
  pub digits_are : decode_of digits ≡ Ok bits
  pub size : length bits ≡ 15

-- the line of a frame: 12 to 2,058 hexadecimal digits, two for each byte
pub record IsFrameLine (stamp : ℕ) (bytes line : List ℕ) : Type 0 where
  pub time : List ℕ
  pub digits : List ℕ
  pub line_is : line ≡ frame_line time digits
  pub time_is : IsNumberText stamp time
  pub digits_are : decode_of digits ≡ Ok bytes
  pub shortest : 6 ≤ length bytes
  pub longest : length bytes ≤ 1029

-- the line is a spelling of the item
abbrev pub IsSpelling : LineItem → List ℕ → Type 0
IsSpelling Pass line = ⊥
IsSpelling (Lnav stamp sat bits) line = IsLnavLine stamp sat bits line
IsSpelling (Half stamp sat signal bits) line = IsHalfLine stamp sat signal bits line
IsSpelling (Frame stamp bytes) line = IsFrameLine stamp bytes.items line
IsSpelling Malformed line = ⊥

-- the line begins with `#`, is empty, or has only spaces
abbrev pub IsComment : List ℕ → Type 0
IsComment line = ((rest : List ℕ) × (line ≡ 35 ∷ rest)) ⊎ All (λ c. c ≡ 32) line

-- the line is skipped: a comment of at most 2,200 bytes; a longer one is malformed
abbrev pub IsPassed : List ℕ → Type 0
IsPassed line = (length line ≤ 2200) × IsComment line

-- the line is malformed: neither skipped nor a spelling of an item
pub record IsMalformed (line : List ℕ) : Type 0 where
  pub not_passed : IsPassed line → ⊥
  pub no_item : (item : LineItem) → IsSpelling item line → ⊥

-- the item is the content of the line
abbrev pub StandsFor : LineItem → List ℕ → Type 0
StandsFor Pass line = IsPassed line
StandsFor (Lnav stamp sat bits) line = IsSpelling (Lnav stamp sat bits) line
StandsFor (Half stamp sat signal bits) line = IsSpelling (Half stamp sat signal bits) line
StandsFor (Frame stamp bytes) line = IsSpelling (Frame stamp bytes) line
StandsFor Malformed line = IsMalformed line

-- the text is such a line followed by LF
abbrev pub IsEnded : (List ℕ → Type 0) → List ℕ → Type 0
IsEnded IsLine text = (line : List ℕ) × (text ≡ line ++ 10 ∷ []) × IsLine line

-- a printable ASCII character or a space, so no line end
abbrev pub IsPrinted : ℕ → Type 0
IsPrinted c = (32 ≤ c) × (c ≤ 126)
