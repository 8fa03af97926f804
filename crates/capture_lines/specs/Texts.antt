-- The texts of the lines of a capture; their words are separated by one space.
use Rattle.std.specs.Prelude.{ℕ, ◌+◌, ◌/◌, ◌%◌, List, [], ◌∷◌, ◌++◌, codes, decimal}
use Rattle.hex.specs.Hex.{encode_lower}
use Rattle.nav_eph.specs.Satellite.{Satellite}
use Rattle.nav_eph.specs.declared.signal.Signal.{Signal}
use Rattle.nav_eph.specs.declared.signal.Signal.TheVariants.{E1b, E5b}

-- a number below 100 in two digits
abbrev pub two_digits : ℕ → List ℕ
two_digits n = (48 + n / 10) ∷ (48 + n % 10) ∷ []

-- the letter of a signal: `B` for E1-B, `5` for E5b
abbrev pub signal_letter : Signal → ℕ
signal_letter E1b = 66
signal_letter E5b = 53

-- a subframe: the time tag, `L`, `G` and the satellite number, hexadecimal digits
abbrev pub lnav_line : List ℕ → ℕ → List ℕ → List ℕ
lnav_line time number digits = time ++ (codes " L G" ++ (two_digits number ++ (codes " " ++ digits)))

-- a page part: the time tag, `P`, `E` and the satellite number, the letter of the signal,
-- hexadecimal digits
abbrev pub half_line : List ℕ → ℕ → Signal → List ℕ → List ℕ
half_line time number signal digits =
    time ++ (codes " P E" ++ (two_digits number ++ (codes " " ++ (signal_letter signal ∷ (codes " " ++ digits)))))

-- a frame: the time tag, `R`, hexadecimal digits
abbrev pub frame_line : List ℕ → List ℕ → List ℕ
frame_line time digits = time ++ (codes " R " ++ digits)

-- the written line of a subframe: the time tag without leading zeros, digits in lower case, LF at
-- the end
abbrev pub lnav_text : ℕ → Satellite → List ℕ → List ℕ
lnav_text stamp sat bits = lnav_line (decimal stamp) sat.number (encode_lower bits) ++ 10 ∷ []

-- the written line of a page part
abbrev pub half_text : ℕ → Satellite → Signal → List ℕ → List ℕ
half_text stamp sat signal bits = half_line (decimal stamp) sat.number signal (encode_lower bits) ++ 10 ∷ []

-- the written line of a frame
abbrev pub frame_text : ℕ → List ℕ → List ℕ
frame_text stamp bytes = frame_line (decimal stamp) (encode_lower bytes) ++ 10 ∷ []
