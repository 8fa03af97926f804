-- What is read of a page that was written.
use Rattle.std.proofs.Common.{◌≡◌, ◌+◌, ◌<◌, ℕ, List, Result, Some, None, Ok, refl, sym, ap, subst, ◌∙◌, arith, ⊎_elim}
use Rattle.std.proofs.Math.Nat.{mod-eq_of_lt}
use Rattle.std.specs.Prelude.{Option}
use Rattle.nav_eph.specs.Weeks.{IsSecond}
use Rattle.nav_bits.specs.Bits.{number_at}
use Rattle.nav_bits.specs.Packed.{AreBytes}
use Rattle.nav_bits.proofs.Surface.{number_at-bytes_of}
use Rattle.nav_eph.specs.Bodies.{IsGalHealth, IsGalIon}
use Rattle.nav_eph.specs.Ranges.{IsGalWord1, IsGalWord2, IsGalWord3, IsGalWord4}
use Rattle.nav_eph.specs.Satellite.{IsSat, Satellite}
use Rattle.nav_eph.specs.declared.galileo.GalHealth.{GalHealth}
use Rattle.nav_eph.specs.declared.galileo.GalWord1.{GalWord1}
use Rattle.nav_eph.specs.declared.galileo.GalWord2.{GalWord2}
use Rattle.nav_eph.specs.declared.galileo.GalWord3.{GalWord3}
use Rattle.nav_eph.specs.declared.galileo.GalWord4.{GalWord4}
use Rattle.nav_eph.specs.declared.ion.GalIon.{GalIon}
use Rattle.nav_eph.specs.declared.part.Body.TheVariants.{GalW1, GalW2, GalW3, GalW4}
use Rattle.nav_eph.specs.declared.sat.System.TheVariants.{Gal}
use Rattle.inav.specs.Pages.{HasRightCrc, IsHalf, bits_at, bytes_of_half, even_of, kept_of, kind_of, odd_of, word_of}
use Rattle.inav.specs.declared.half.HalfKind.TheVariants.{Even, Odd}
use Rattle.inav.specs.Reading.{one_part, reading_of, two_parts}
use Rattle.inav.specs.Writing.{word1_bytes, word2_bytes, word3_bytes, word4_bytes, word5_bytes}
use Rattle.inav.specs.declared.word_fault.WordFault.{WordFault}
use Rattle.inav.specs.declared.parts.WordParts.{WordParts}
use Rattle.c_calls.specs.Pages.{ArePair, BelongTogether, HasWordRanges, IsAlert, IsContent, IsPageOf, IsReadAs, content_in, even_in, odd_in, page_bits, word_bytes, word_read}
use Rattle.c_calls.specs.declared.page_raw.PageBits.{PageBits}
use Rattle.c_calls.specs.declared.page_raw.WordRaw.{WordRaw}
use Rattle.c_calls.specs.declared.word_out.WordOut.{WordOut}
use Rattle.c_calls.specs.declared.word_out.WordOut.TheVariants.{One, Two, Three, Four, Five}

-- what the laws of parts say
pub record PartLaws : Type 0 where
  pub even : (word : List ℕ) → IsHalf (even_of word) × (kind_of (even_of word) ≡ Even)
  pub odd : (word : List ℕ) → IsHalf (odd_of word) × (kind_of (odd_of word) ≡ Odd)
  pub crc : (word : List ℕ) → HasRightCrc (even_of word) (odd_of word)
  pub word : (word : List ℕ) → AreBytes 16 word → word_of (even_of word) (odd_of word) ≡ word
  pub again : (half : ℕ) → IsHalf half → kept_of (number_at (bytes_of_half half) 0 120) ≡ half
  pub their : (bits : List ℕ) (at width rest : ℕ) → at + width + rest ≡ 120 → bits_at (number_at bits 0 120) at width ≡ number_at bits at width

-- a part that is written is nominal
nominal : (laws : PartLaws) (half : ℕ) → IsHalf half → number_at (bytes_of_half half) 1 1 ≡ 0
nominal laws half is =
    let whole : number_at (bytes_of_half half) 0 120 ≡ half = number_at-bytes_of 15 half ∙ mod-eq_of_lt is.fits in
    sym (laws.their (bytes_of_half half) 1 1 118 refl) ∙ ap (λ (n : ℕ). bits_at n 1 1) whole ∙ is.nominal

alert_no : (n : ℕ) → n ≡ 0 → n ≡ 1 → ⊥
alert_no n zero one = absurd (omega (arith, zero, one))

not_alert : (laws : PartLaws) (word : List ℕ) → IsAlert (page_bits word) → ⊥
not_alert laws word =
    ⊎_elim (alert_no _ (nominal laws (even_of word) (laws.even word).0)) (alert_no _ (nominal laws (odd_of word) (laws.odd word).0))

even_same : (laws : PartLaws) (word : List ℕ) → even_in (page_bits word) ≡ even_of word
even_same laws word = laws.again (even_of word) (laws.even word).0

odd_same : (laws : PartLaws) (word : List ℕ) → odd_in (page_bits word) ≡ odd_of word
odd_same laws word = laws.again (odd_of word) (laws.odd word).0

pair : (laws : PartLaws) (word : List ℕ) → ArePair (page_bits word)
pair laws word = (ap kind_of (even_same laws word) ∙ (laws.even word).1, ap kind_of (odd_same laws word) ∙ (laws.odd word).1)

belong : (laws : PartLaws) (word : List ℕ) → BelongTogether (page_bits word)
belong laws word =
    subst (λ (e : ℕ). HasRightCrc e (odd_in (page_bits word))) (sym (even_same laws word))
    (subst (λ (o : ℕ). HasRightCrc (even_of word) o) (sym (odd_same laws word)) (laws.crc word))

of_page : (laws : PartLaws) (word : List ℕ) → (IsAlert (page_bits word) → ⊥) × ArePair (page_bits word) × BelongTogether (page_bits word)
of_page laws word = (not_alert laws word, pair laws word, belong laws word)

whole_by : (laws : PartLaws) (content : Option WordOut) (satellite : ℕ) (page : PageBits) → IsPageOf content satellite page
    → (IsAlert page → ⊥) × ArePair page × BelongTogether page
whole_by laws None satellite page of = absurd of
whole_by laws (Some content) satellite page of =
    subst (λ (p : PageBits). (IsAlert p → ⊥) × ArePair p × BelongTogether p) (sym of) (of_page laws (word_bytes content satellite))

pub page_whole : (laws : PartLaws) (raw : WordRaw) (satellite : ℕ) (page : PageBits) → IsPageOf (content_in raw) satellite page
    → (IsAlert page → ⊥) × ArePair page × BelongTogether page
page_whole laws raw = whole_by laws (content_in raw)

-- ---- the word

-- what the laws of words say
pub record WordLaws : Type 0 where
  pub size1 : (w : GalWord1) → AreBytes 16 (word1_bytes w)
  pub size2 : (w : GalWord2) → AreBytes 16 (word2_bytes w)
  pub size3 : (w : GalWord3) → AreBytes 16 (word3_bytes w)
  pub size4 : (w : GalWord4) (svid : ℕ) → AreBytes 16 (word4_bytes w svid)
  pub size5 : (h : GalHealth) (i : GalIon) (wn second : ℕ) → AreBytes 16 (word5_bytes h i wn second)
  pub read1 : (w : GalWord1) (sat : Satellite) → IsGalWord1 w → reading_of (word1_bytes w) sat 0 ≡ Ok (one_part sat 0 (GalW1 w))
  pub read2 : (w : GalWord2) (sat : Satellite) → IsGalWord2 w → reading_of (word2_bytes w) sat 0 ≡ Ok (one_part sat 0 (GalW2 w))
  pub read3 : (w : GalWord3) (sat : Satellite) → IsGalWord3 w → reading_of (word3_bytes w) sat 0 ≡ Ok (one_part sat 0 (GalW3 w))
  pub read4 : (w : GalWord4) (sat : Satellite) → IsGalWord4 w → sat.number < 64 → reading_of (word4_bytes w sat.number) sat 0 ≡ Ok (one_part sat 0 (GalW4 w))
  pub read5 : (h : GalHealth) (i : GalIon) (wn second : ℕ) (sat : Satellite) → IsGalHealth h → IsGalIon i → wn < 4096 → IsSecond second
      → reading_of (word5_bytes h i wn second) sat 0 ≡ Ok (two_parts sat 0 h i wn second)

size : (laws : WordLaws) (content : WordOut) (satellite : ℕ) → AreBytes 16 (word_bytes content satellite)
size laws (One w) satellite = laws.size1 w
size laws (Two w) satellite = laws.size2 w
size laws (Three w) satellite = laws.size3 w
size laws (Four w) satellite = laws.size4 w satellite
size laws (Five health ion wn second) satellite = laws.size5 health ion wn second

-- the parts of a written word
abbrev parts_of : WordOut → Satellite → WordParts
parts_of (One w) sat = one_part sat 0 (GalW1 w)
parts_of (Two w) sat = one_part sat 0 (GalW2 w)
parts_of (Three w) sat = one_part sat 0 (GalW3 w)
parts_of (Four w) sat = one_part sat 0 (GalW4 w)
parts_of (Five health ion wn second) sat = two_parts sat 0 health ion wn second

read : (laws : WordLaws) (content : WordOut) (sat : Satellite) → sat.number < 64 → HasWordRanges content
    → reading_of (word_bytes content sat.number) sat 0 ≡ Ok (parts_of content sat)
read laws (One w) sat few has = laws.read1 w sat has
read laws (Two w) sat few has = laws.read2 w sat has
read laws (Three w) sat few has = laws.read3 w sat has
read laws (Four w) sat few has = laws.read4 w sat has few
read laws (Five health ion wn second) sat few has = laws.read5 health ion wn second sat has.0 has.1 has.2 has.3

put : (content : WordOut) (sat : Satellite) (old : WordRaw) → IsReadAs (Ok (parts_of content sat)) old (Some content)
put (One w) sat old = refl
put (Two w) sat old = refl
put (Three w) sat old = refl
put (Four w) sat old = refl
put (Five health ion wn second) sat old = refl

read_page : (parts : PartLaws) (laws : WordLaws) (content : WordOut) (sat : Satellite) → sat.number < 64 → HasWordRanges content
    → word_read (page_bits (word_bytes content sat.number)) sat ≡ Ok (parts_of content sat)
read_page parts laws content sat few has =
    let word : List ℕ = word_bytes content sat.number in
    ap (λ (e : ℕ). reading_of (word_of e (odd_in (page_bits word))) sat 0) (even_same parts word)
    ∙ ap (λ (o : ℕ). reading_of (word_of (even_of word) o) sat 0) (odd_same parts word)
    ∙ ap (λ (w : List ℕ). reading_of w sat 0) (parts.word word (size laws content sat.number))
    ∙ read laws content sat few has

again_by : (parts : PartLaws) (laws : WordLaws) (old : WordRaw) (content : Option WordOut) (sat : Satellite) (page : PageBits) → sat.number < 64
    → IsContent content → IsPageOf content sat.number page → IsReadAs (word_read page sat) old content
again_by parts laws old None sat page few has of = absurd has
again_by parts laws old (Some content) sat page few has of =
    subst (λ (r : Result WordParts WordFault). IsReadAs r old (Some content)) (sym (ap (λ (p : PageBits). word_read p sat) of ∙ read_page parts laws content sat few has))
    (put content sat old)

pub page_again : (parts : PartLaws) (laws : WordLaws) (raw old : WordRaw) (satellite : ℕ) (page : PageBits) → IsSat Gal satellite
    → IsContent (content_in raw) → IsPageOf (content_in raw) satellite page
    → IsReadAs (word_read page (record { system = Gal; number = satellite })) old (content_in raw)
page_again parts laws raw old satellite page is = again_by parts laws old (content_in raw) (record { system = Gal; number = satellite }) page (omega (arith, is))
