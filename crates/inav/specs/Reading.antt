-- The parts that the 128 bits of an I/NAV word encode, and the first of its errors.
use Rattle.std.specs.Prelude.{ℕ, ◌||◌, Bool, List, [], ◌∷◌, Option, nat_eq, nat_le, nat_lt, if◌then◌else◌, None, Some, Result, Ok, Err, IfSome}
use Rattle.nav_bits.specs.Bits.{number_at}
use Rattle.nav_eph.specs.Conditions.{IsPart}
use Rattle.nav_eph.specs.Satellite.{Satellite}
use Rattle.nav_eph.specs.declared.galileo.GalWord1.{GalWord1}
use Rattle.nav_eph.specs.declared.galileo.GalWord2.{GalWord2}
use Rattle.nav_eph.specs.declared.galileo.GalWord3.{GalWord3}
use Rattle.nav_eph.specs.declared.galileo.GalWord4.{GalWord4}
use Rattle.nav_eph.specs.declared.galileo.GalHealth.{GalHealth}
use Rattle.nav_eph.specs.declared.ion.GalIon.{GalIon}
use Rattle.nav_eph.specs.declared.tag.SentTag.TheVariants.{Sent}
use Rattle.nav_eph.specs.declared.part.Part.{Part}
use Rattle.nav_eph.specs.declared.part.Body.{Body}
use Rattle.nav_eph.specs.declared.part.Body.TheVariants.{GalW1, GalW2, GalW3, GalW4, GalHealth as HealthBody, GalIon as IonBody}
use Rattle.inav.specs.declared.word1.Word1.{Word1}
use Rattle.inav.specs.declared.word2.Word2.{Word2}
use Rattle.inav.specs.declared.word3.Word3.{Word3}
use Rattle.inav.specs.declared.word4.Word4.{Word4}
use Rattle.inav.specs.declared.word5.Word5.{Word5}
use Rattle.inav.specs.declared.word.Word.{Word}
use Rattle.inav.specs.declared.word.Word.TheVariants.{One, Two, Three, Four, Five, Other}
use Rattle.inav.specs.declared.word_fault.WordFault.{WordFault}
use Rattle.inav.specs.declared.word_fault.WordFault.TheVariants.{OtherWord, WrongSat, BadTime, SpareSisa}
use Rattle.inav.specs.declared.parts.WordParts.{WordParts}
use Rattle.inav.specs.Words.{word1_at, word2_at, word3_at, word4_at, word5_at}

-- the word of that type, given the fields of the bits in the layout of each type
abbrev pub word_by : ℕ → Word1 → Word2 → Word3 → Word4 → Word5 → Word
word_by number w1 w2 w3 w4 w5 =
    if nat_eq number 1 then One w1
    else (if nat_eq number 2 then Two w2
    else (if nat_eq number 3 then Three w3
    else (if nat_eq number 4 then Four w4
    else (if nat_eq number 5 then Five w5
    else Other number))))

-- the word in the bits; its type is in the first six
abbrev pub word_in : List ℕ → Word
word_in bits = word_by (number_at bits 0 6) (word1_at bits 0) (word2_at bits 0) (word3_at bits 0) (word4_at bits 0) (word5_at bits 0)

-- the ephemeris parameters of word type 1
abbrev pub orbit1_of : Word1 → GalWord1
orbit1_of w = record { iodnav = w.iodnav; toe = w.toe; m0 = w.m0; e = w.e; root_a = w.root_a }

-- the ephemeris parameters of word type 2
abbrev pub orbit2_of : Word2 → GalWord2
orbit2_of w = record { iodnav = w.iodnav; omega0 = w.omega0; i0 = w.i0; omega = w.omega; idot = w.idot }

-- the ephemeris parameters and SISA of word type 3
abbrev pub orbit3_of : Word3 → GalWord3
orbit3_of w = record { iodnav = w.iodnav; omega_dot = w.omega_dot; delta_n = w.delta_n; cuc = w.cuc; cus = w.cus; crc = w.crc; crs = w.crs; sisa = w.sisa }

-- the ephemeris and clock parameters of word type 4
abbrev pub orbit4_of : Word4 → GalWord4
orbit4_of w = record { iodnav = w.iodnav; cic = w.cic; cis = w.cis; toc = w.toc; af0 = w.af0; af1 = w.af1; af2 = w.af2 }

-- BGD, health and data validity of word type 5
abbrev pub health_of : Word5 → GalHealth
health_of w = record { bgd_a = w.bgd_a; bgd_b = w.bgd_b; hs_e5b = w.hs_e5b; hs_e1b = w.hs_e1b; dvs_e5b = w.dvs_e5b; dvs_e1b = w.dvs_e1b }

-- the ionosphere of word type 5
abbrev pub ion_of : Word5 → GalIon
ion_of w = record { ai0 = w.ai0; ai1 = w.ai1; ai2 = w.ai2; regions = w.regions }

-- a part received from a satellite at a time tag
abbrev pub heard : Satellite → ℕ → Body → Part
heard sat stamp body = record { stamp = stamp; sat = sat; body = body }

-- the parts of a word that has only one
abbrev pub one_part : Satellite → ℕ → Body → WordParts
one_part sat stamp body = record { first = heard sat stamp body; second = None }

-- the parts of word type 5: health, then ionosphere
abbrev pub two_parts : Satellite → ℕ → GalHealth → GalIon → ℕ → ℕ → WordParts
two_parts sat stamp health ion wn second = record {
  first = heard sat stamp (HealthBody health (Sent wn second));
  second = Some (heard sat stamp (IonBody ion wn second));
}

-- the SISA index is not a spare value (Galileo OS SIS ICD, 5.1.12)
abbrev pub is_sisa : ℕ → Bool
is_sisa n = nat_le n 125 || nat_eq n 255

-- the parts of a word of a satellite, or the first error in this order: a type other than 1 to 5,
-- another SVID, toe, toc or TOW past the end of the week, a spare SISA index
abbrev pub reading : Satellite → ℕ → Word → Result WordParts WordFault
reading sat stamp (One w) = if nat_lt w.toe 10080 then Ok (one_part sat stamp (GalW1 (orbit1_of w))) else Err BadTime
reading sat stamp (Two w) = Ok (one_part sat stamp (GalW2 (orbit2_of w)))
reading sat stamp (Three w) = if is_sisa w.sisa then Ok (one_part sat stamp (GalW3 (orbit3_of w))) else Err SpareSisa
reading sat stamp (Four w) =
    if nat_eq w.svid sat.number
    then (if nat_lt w.toc 10080 then Ok (one_part sat stamp (GalW4 (orbit4_of w))) else Err BadTime)
    else Err WrongSat
reading sat stamp (Five w) =
    if nat_lt w.tow 604800 then Ok (two_parts sat stamp (health_of w) (ion_of w) w.wn w.tow) else Err BadTime
reading sat stamp (Other number) = Err (OtherWord number)

-- the parts that bits from a satellite encode, or their first error
abbrev pub reading_of : List ℕ → Satellite → ℕ → Result WordParts WordFault
reading_of bits sat stamp = reading sat stamp (word_in bits)

-- each part is one that its satellite can send
pub record ArePartsOf (parts : WordParts) : Type 0 where
  pub first : IsPart parts.first.sat parts.first.body
  pub second : IfSome parts.second (λ part. IsPart part.sat part.body)

-- the second part as a list
abbrev pub second_parts : Option Part → List Part
second_parts None = []
second_parts (Some part) = part ∷ []

-- the parts of a word as one list, in the order of the word
abbrev pub all_parts : WordParts → List Part
all_parts parts = parts.first ∷ second_parts parts.second
