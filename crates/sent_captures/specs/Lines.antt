-- The transmissions at each second of the hour, and the line of each.
use Rattle.std.specs.Prelude.{◌≡◌, ℕ, zero, suc, ◌+◌, ◌-◌, ◌*◌, ◌/◌, ◌%◌, nat_eq, if◌then◌else◌, List, [], ◌∷◌, ◌++◌, replicate}
use Rattle.nav_bits.specs.Bits.{number_at}
use Rattle.nav_bits.specs.Fields.{StandFrom}
use Rattle.nav_bits.specs.Packed.{AreBytes}
use Rattle.nav_eph.specs.Satellite.{Satellite}
use Rattle.nav_eph.specs.declared.sat.System.TheVariants.{Gps, Gal}
use Rattle.nav_eph.specs.declared.ion.GpsIon.{GpsIon}
use Rattle.nav_eph.specs.declared.ion.GalIon.{GalIon}
use Rattle.lnav_subframe.specs.declared.out.SubframeOut.{SubframeOut}
use Rattle.lnav_subframe.specs.declared.out.SubframeOut.TheVariants.{Clock, OrbitA, OrbitB, Ion, Other}
use Rattle.lnav_subframe.specs.Writing.{IsWritten}
use Rattle.inav.specs.Words.{fields_word1, fields_word2, fields_word3, fields_word4, fields_word5}
use Rattle.inav.specs.Writing.{written_word1, written_word2, written_word3, written_word4, written_word5}
use Rattle.inav.specs.Pages.{bytes_of_half, IsSplit}
use Rattle.nav_eph.specs.declared.signal.Signal.{Signal}
use Rattle.nav_eph.specs.declared.signal.Signal.TheVariants.{E1b, E5b}
use Rattle.capture_lines.specs.Texts.{half_text, lnav_text}
use Rattle.sent_captures.specs.declared.values.GpsValues.{GpsValues}
use Rattle.sent_captures.specs.declared.values.GalValues.{GalValues}
use Rattle.sent_captures.specs.declared.sending.Sending.{Sending}
use Rattle.sent_captures.specs.declared.sending.Sending.TheVariants.{Subframe, Half}
use Rattle.sent_captures.specs.Values.{gps_of, gal_of, gps_ion_of, gal_ion_of}

-- the GPS satellite with a number
abbrev pub gps_sat : ℕ → Satellite
gps_sat number = record { system = Gps; number = number }

-- the Galileo satellite with a number
abbrev pub gal_sat : ℕ → Satellite
gal_sat number = record { system = Gal; number = number }

-- Frames have five subframes, and pages repeat every 25 frames. Subframe 4 is page 18 in frame 17, counted from 0, and page
-- 1 in the others; subframe 5 is page 1. This is subframe k of the hour, in the week r.
unfoldable pub subframe_of : GpsValues → GpsIon → ℕ → ℕ → SubframeOut
subframe_of v ion r k =
    if nat_eq (k % 5) 0 then Clock v.clock v.side (r % 1024)
    else (if nat_eq (k % 5) 1 then OrbitA v.a v.fit
    else (if nat_eq (k % 5) 2 then OrbitB v.b
    else (if nat_eq (k % 5) 3 then (if nat_eq (k / 5 % 25) 17 then Ion ion else Other 4 1)
    else Other 5 1)))

-- the line of a subframe, one every 6 seconds; its TOW count is that of the next subframe
pub record IsSubframeLine (seed n r stamp number : ℕ) (line : List ℕ) : Type 0 where
  pub bits : List ℕ
  pub size : AreBytes 38 bits
  pub written : IsWritten (subframe_of (gps_of seed number) (gps_ion_of seed n) r (stamp / 6)) (stamp / 6 + 1) bits
  pub line_is : line ≡ lnav_text stamp (gps_sat number) bits

-- Pages repeat every 15 (30 s). The first five have word types 1 to 5, word type 5 with week number wn and TOW; in the
-- others all bits of the word are 0.
abbrev pub IsWordOf : GalValues → GalIon → ℕ → ℕ → ℕ → ℕ → List ℕ → Type 0
IsWordOf v ion number wn second zero word =
    StandFrom word 0 0 (fields_word1 (written_word1 v.w1)) × (number_at word 126 2 ≡ 0)
IsWordOf v ion number wn second (suc zero) word =
    StandFrom word 0 0 (fields_word2 (written_word2 v.w2)) × (number_at word 126 2 ≡ 0)
IsWordOf v ion number wn second (suc (suc zero)) word = StandFrom word 0 0 (fields_word3 (written_word3 v.w3))
IsWordOf v ion number wn second (suc (suc (suc zero))) word =
    StandFrom word 0 0 (fields_word4 (written_word4 v.w4 number)) × (number_at word 126 2 ≡ 0)
IsWordOf v ion number wn second (suc (suc (suc (suc zero)))) word =
    StandFrom word 0 0 (fields_word5 (written_word5 v.health ion wn second)) × (number_at word 105 23 ≡ 0)
IsWordOf v ion number wn second (suc (suc (suc (suc (suc m))))) word = word ≡ replicate 16 0

-- the bits of the two page parts of a word
pub record AreHalves (word even_bits odd_bits : List ℕ) : Type 0 where
  pub even : ℕ
  pub odd : ℕ
  pub split : IsSplit word even odd
  pub even_is : even_bits ≡ bytes_of_half even
  pub odd_is : odd_bits ≡ bytes_of_half odd

-- the bits of the two page parts of the word of a page
pub record ArePage (v : GalValues) (ion : GalIon) (number wn second m : ℕ) (even_bits odd_bits : List ℕ) : Type 0 where
  pub word : List ℕ
  pub size : AreBytes 16 word
  pub word_is : IsWordOf v ion number wn second m word
  pub halves : AreHalves word even_bits odd_bits

-- the line of a page part: the even part in the first of two seconds; in the week r the Galileo week number is r - 1024
pub record IsHalfLine (seed n r stamp number : ℕ) (signal : Signal) (line : List ℕ) : Type 0 where
  pub even : List ℕ
  pub odd : List ℕ
  pub page : ArePage (gal_of seed n number) (gal_ion_of seed n) number ((r - 1024) % 4096) (2 * (stamp / 2)) (stamp / 2 % 15) even odd
  pub line_is : line ≡ half_text stamp (gal_sat number) signal (if nat_eq (stamp % 2) 0 then even else odd)

-- the line of a transmission
abbrev pub IsLine : ℕ → ℕ → ℕ → Sending → List ℕ → Type 0
IsLine seed n r (Subframe stamp number) line = IsSubframeLine seed n r stamp number line
IsLine seed n r (Half stamp number signal) line = IsHalfLine seed n r stamp number signal line

-- the subframes of GPS satellites 1 to n at a time tag
unfoldable pub subframes_at : ℕ → ℕ → List Sending
subframes_at stamp zero = []
subframes_at stamp (suc n) = subframes_at stamp n ++ Subframe stamp (suc n) ∷ []

-- the page parts of Galileo satellites 1 to n at a time tag, on E1-B and then on E5b
unfoldable pub halves_at : ℕ → ℕ → List Sending
halves_at stamp zero = []
halves_at stamp (suc n) = halves_at stamp n ++ Half stamp (suc n) E1b ∷ Half stamp (suc n) E5b ∷ []

-- all transmissions at a time tag; subframes every 6 seconds
unfoldable pub sent_at : ℕ → ℕ → List Sending
sent_at n stamp = (if nat_eq (stamp % 6) 0 then subframes_at stamp n else []) ++ halves_at stamp n

-- all transmissions before a time tag, in order
unfoldable pub sent_before : ℕ → ℕ → List Sending
sent_before n zero = []
sent_before n (suc stamp) = sent_before n stamp ++ sent_at n stamp
