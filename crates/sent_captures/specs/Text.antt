-- The text of the generated capture as a function of the seed, the number of satellites and the week.
use Rattle.std.specs.Prelude.{ℕ, zero, suc, ◌+◌, ◌-◌, ◌*◌, ◌/◌, ◌%◌, nat_eq, if◌then◌else◌}
use Rattle.std.specs.Prelude.{List, [], ◌∷◌, ◌++◌, replicate, codes}
use Rattle.nav_eph.specs.declared.ion.GalIon.{GalIon}
use Rattle.lnav_subframe.specs.Bytes.{subframe_bytes}
use Rattle.inav.specs.Writing.{word1_bytes, word2_bytes, word3_bytes, word4_bytes, word5_bytes}
use Rattle.inav.specs.Pages.{bytes_of_half, even_of, odd_of}
use Rattle.nav_eph.specs.declared.signal.Signal.{Signal}
use Rattle.capture_lines.specs.Texts.{half_text, lnav_text}
use Rattle.sent_captures.specs.declared.values.GalValues.{GalValues}
use Rattle.sent_captures.specs.declared.sending.Sending.{Sending}
use Rattle.sent_captures.specs.declared.sending.Sending.TheVariants.{Subframe, Half}
use Rattle.sent_captures.specs.Values.{gps_of, gal_of, gps_ion_of, gal_ion_of}
use Rattle.sent_captures.specs.Lines.{gps_sat, gal_sat, subframe_of}
use Rattle.sent_captures.specs.Capture.{lines_of}

-- the line of the subframe that a GPS satellite sends at a time tag
unfoldable pub subframe_line : ℕ → ℕ → ℕ → ℕ → ℕ → List ℕ
subframe_line seed n r stamp number =
    lnav_text stamp (gps_sat number)
    (subframe_bytes (subframe_of (gps_of seed number) (gps_ion_of seed n) r (stamp / 6))
    (stamp / 6 + 1))

-- the word of a page, counted in its 30 s: word types 1 to 5, word type 5 with week number wn and TOW, then words
-- with only 0 bits
abbrev pub word_of_page : GalValues → GalIon → ℕ → ℕ → ℕ → ℕ → List ℕ
word_of_page v ion number wn second zero = word1_bytes v.w1
word_of_page v ion number wn second (suc zero) = word2_bytes v.w2
word_of_page v ion number wn second (suc (suc zero)) = word3_bytes v.w3
word_of_page v ion number wn second (suc (suc (suc zero))) = word4_bytes v.w4 number
word_of_page v ion number wn second (suc (suc (suc (suc zero)))) =
    word5_bytes v.health ion wn second
word_of_page v ion number wn second (suc (suc (suc (suc (suc m))))) = replicate 16 0

-- the word of the page that a Galileo satellite sends at a time tag
abbrev pub word_at : ℕ → ℕ → ℕ → ℕ → ℕ → List ℕ
word_at seed n r stamp number =
    word_of_page (gal_of seed n number) (gal_ion_of seed n) number ((r - 1024) % 4096)
    (2 * (stamp / 2)) (stamp / 2 % 15)

-- the line of a part of that page: the even part in the first of its two seconds
unfoldable pub page_line : ℕ → ℕ → ℕ → ℕ → ℕ → Signal → List ℕ
page_line seed n r stamp number signal =
    half_text stamp (gal_sat number) signal
    (if nat_eq (stamp % 2) 0 then bytes_of_half (even_of (word_at seed n r stamp number))
    else bytes_of_half (odd_of (word_at seed n r stamp number)))

-- the line of a transmission
abbrev pub line_of : ℕ → ℕ → ℕ → Sending → List ℕ
line_of seed n r (Subframe stamp number) = subframe_line seed n r stamp number
line_of seed n r (Half stamp number signal) = page_line seed n r stamp number signal

-- the concatenated lines of the transmissions
abbrev pub text_of_lines : ℕ → ℕ → ℕ → List Sending → List ℕ
text_of_lines seed n r [] = []
text_of_lines seed n r (x ∷ xs) = line_of seed n r x ++ text_of_lines seed n r xs

-- the capture of n satellites of each system in the week r, whose values are random, from the seed
unfoldable pub capture_text : ℕ → ℕ → ℕ → List ℕ
capture_text seed n r = codes "NAVCAP 1" ++ 10 ∷ text_of_lines seed n r (lines_of n)
