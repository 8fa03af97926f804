-- I/NAV pages, read into raw numbers and written of them (Galileo OS SIS ICD, 4.3.2 and 4.3.5).
use Rattle.std.specs.Prelude.{◌≡◌, ◌⊎◌, ◌^◌, ◌<◌, ℕ, ◌==◌, if◌then◌else◌, List, Option, None, Some, Result, Ok, Err}
use Rattle.nav_bits.specs.Bits.{number_at}
use Rattle.nav_eph.specs.Weeks.{IsSecond}
use Rattle.nav_eph.specs.Bodies.{IsGalHealth, IsGalIon}
use Rattle.nav_eph.specs.Conditions.{wn_of}
use Rattle.nav_eph.specs.Ranges.{IsGalWord1, IsGalWord2, IsGalWord3, IsGalWord4}
use Rattle.nav_eph.specs.Satellite.{Satellite}
use Rattle.nav_eph.specs.declared.part.Part.{Part}
use Rattle.nav_eph.specs.declared.part.Body.{Body}
use Rattle.nav_eph.specs.declared.part.Body.TheVariants.{GalW1, GalW2, GalW3, GalW4, GalHealth, GalIon}
use Rattle.inav.specs.Pages.{HasRightCrc, bytes_of_half, even_of, kept_of, kind_of, odd_of, word_of}
use Rattle.inav.specs.declared.half.HalfKind.TheVariants.{Even, Odd}
use Rattle.inav.specs.Reading.{reading_of}
use Rattle.inav.specs.Writing.{word1_bytes, word2_bytes, word3_bytes, word4_bytes, word5_bytes}
use Rattle.inav.specs.declared.word_fault.WordFault.{WordFault}
use Rattle.inav.specs.declared.word_fault.WordFault.TheVariants.{OtherWord, WrongSat, BadTime, SpareSisa}
use Rattle.inav.specs.declared.parts.WordParts.{WordParts}
use Rattle.raw_values.specs.Gal.{health_in, raw_health, raw_word1, raw_word2, raw_word3, raw_word4, word1_in, word2_in, word3_in, word4_in}
use Rattle.raw_values.specs.Ion.{gal_ion_in, raw_gal_ion}
use Rattle.c_calls.specs.Tags.{second_of}
use Rattle.c_calls.specs.declared.page_raw.PageBits.{PageBits}
use Rattle.c_calls.specs.declared.page_raw.WordRaw.{WordRaw}
use Rattle.c_calls.specs.declared.word_out.WordOut.{WordOut}
use Rattle.c_calls.specs.declared.word_out.WordOut.TheVariants.{One, Two, Three, Four, Five}

-- ---- read

-- the used bits of the even and of the odd part
abbrev pub even_in : PageBits → ℕ
even_in page = kept_of (number_at page.even 0 120)

abbrev pub odd_in : PageBits → ℕ
odd_in page = kept_of (number_at page.odd 0 120)

-- a part is of an alert page, which has no word
abbrev pub IsAlert : PageBits → Type 0
IsAlert page = (number_at page.even 1 1 ≡ 1) ⊎ (number_at page.odd 1 1 ≡ 1)

-- the parts are an even one and an odd one
abbrev pub ArePair : PageBits → Type 0
ArePair page = (kind_of (even_in page) ≡ Even) × (kind_of (odd_in page) ≡ Odd)

-- the CRC in the odd part is that of the page
abbrev pub BelongTogether : PageBits → Type 0
BelongTogether page = HasRightCrc (even_in page) (odd_in page)

-- the parts of the word of the page, or its first error
abbrev pub word_read : PageBits → Satellite → Result WordParts WordFault
word_read page sat = reading_of (word_of (even_in page) (odd_in page)) sat 0

-- the number of an error
abbrev pub word_status : WordFault → ℕ
word_status (OtherWord number) = 68
word_status WrongSat = 69
word_status BadTime = 70
word_status SpareSisa = 71

-- the numbers of a body written over these: the fields of its word; the others stay
abbrev pub raw_body : Body → WordRaw → WordRaw
raw_body (GalW1 w) old = record old { number = 1; w1 = raw_word1 w }
raw_body (GalW2 w) old = record old { number = 2; w2 = raw_word2 w }
raw_body (GalW3 w) old = record old { number = 3; w3 = raw_word3 w }
raw_body (GalW4 w) old = record old { number = 4; w4 = raw_word4 w }
raw_body (GalHealth health tag) old = record old { number = 5; wn = wn_of tag; second = second_of tag; health = raw_health health }
raw_body (GalIon ion wn second) old = record old { ion = raw_gal_ion ion }
raw_body _ old = old

-- the same of the second part of a word, if it has one
abbrev pub raw_second : Option Part → WordRaw → WordRaw
raw_second None old = old
raw_second (Some part) old = raw_body part.body old

-- the parts of a word are put and the result is 0, or nothing is put and the result is the number
-- of the error
abbrev pub PutsWord : Result WordParts WordFault → WordRaw → WordRaw → ℕ → Type 0
PutsWord (Ok parts) old new status = (status ≡ 0) × (new ≡ raw_second parts.second (raw_body parts.first.body old))
PutsWord (Err fault) old new status = (status ≡ word_status fault) × (new ≡ old)

-- ---- written

-- the content of the word with these numbers; whether each is in its range is another question
abbrev pub content_in : WordRaw → Option WordOut
content_in raw =
    if raw.number == 1 then Some (One (word1_in raw.w1))
    else if raw.number == 2 then Some (Two (word2_in raw.w2))
    else if raw.number == 3 then Some (Three (word3_in raw.w3))
    else if raw.number == 4 then Some (Four (word4_in raw.w4))
    else if raw.number == 5 then Some (Five (health_in raw.health) (gal_ion_in raw.ion) raw.wn raw.second)
    else None

-- each field of the word is in its range
abbrev pub HasWordRanges : WordOut → Type 0
HasWordRanges (One w) = IsGalWord1 w
HasWordRanges (Two w) = IsGalWord2 w
HasWordRanges (Three w) = IsGalWord3 w
HasWordRanges (Four w) = IsGalWord4 w
HasWordRanges (Five health ion wn second) = IsGalHealth health × IsGalIon ion × (wn < 2 ^ 12) × IsSecond second

-- there is a content, and its fields are in range
abbrev pub IsContent : Option WordOut → Type 0
IsContent None = ⊥
IsContent (Some content) = HasWordRanges content

-- the 16 bytes of the word, sent by that satellite
abbrev pub word_bytes : WordOut → ℕ → List ℕ
word_bytes (One w) satellite = word1_bytes w
word_bytes (Two w) satellite = word2_bytes w
word_bytes (Three w) satellite = word3_bytes w
word_bytes (Four w) satellite = word4_bytes w satellite
word_bytes (Five health ion wn second) satellite = word5_bytes health ion wn second

-- the two parts of the page of a word
abbrev pub page_bits : List ℕ → PageBits
page_bits word = record { even = bytes_of_half (even_of word); odd = bytes_of_half (odd_of word) }

-- the page is that of the word with this content
abbrev pub IsPageOf : Option WordOut → ℕ → PageBits → Type 0
IsPageOf None satellite new = ⊥
IsPageOf (Some content) satellite new = new ≡ page_bits (word_bytes content satellite)

-- the result is parts, and the numbers that are put of them over these encode that content
abbrev pub IsReadAs : Result WordParts WordFault → WordRaw → Option WordOut → Type 0
IsReadAs (Ok parts) old content = content_in (raw_second parts.second (raw_body parts.first.body old)) ≡ content
IsReadAs (Err fault) old content = ⊥
