-- The parts of a word have the satellite and stamp given, and their fields within their widths in bits.
use Rattle.std.proofs.Common.{◌≡◌, ℕ, ◌<◌, ◌≤◌, ◌^◌, ◌||◌, IfSome, List, [], ◌∷◌, Option, None, Some, All, nat_eq, nat_le, nat_lt, true, false, Bool, Result, Ok, Err, inl, inr, refl, sym, ap, ◌∙◌, subst, arith}
use Rattle.std.proofs.lemmas.Bool.{cond_both, eqb-true, leb-true, ltb-true}
use Rattle.std.proofs.lemmas.List.Elements.{All-from_recursion}
use Rattle.std.specs.List.{AllByRecursion}
use Rattle.nav_bits.specs.Bits.{number_at, signed_at}
use Rattle.nav_bits.specs.Laws.{number_at-lt}
use Rattle.nav_bits.specs.Signed.{IsSigned}
use Rattle.nav_bits.proofs.Surface.{signed_of-fits}
use Rattle.nav_eph.specs.Bodies.{IsGalHealth, IsGalIon}
use Rattle.nav_eph.specs.Conditions.{HasGpsWeek, IsPart, system_of}
use Rattle.nav_eph.specs.Ranges.{IsGalWord1, IsGalWord2, IsGalWord3, IsGalWord4}
use Rattle.nav_eph.specs.Satellite.{Satellite}
use Rattle.nav_eph.specs.Steps.{IsSisa, IsStep60}
use Rattle.nav_eph.specs.Values.{HasBodyRanges, IsBodyValue, IsPartValue}
use Rattle.nav_eph.specs.declared.sat.System.TheVariants.{Gal}
use Rattle.nav_eph.specs.declared.part.Part.{Part}
use Rattle.inav.specs.declared.word.Word.{Word}
use Rattle.inav.specs.declared.word.Word.TheVariants.{One, Two, Three, Four, Five, Other}
use Rattle.inav.specs.declared.word_fault.WordFault.{WordFault}
use Rattle.inav.specs.declared.parts.WordParts.{WordParts}
use Rattle.inav.specs.Reading.{all_parts, health_of, ion_of, is_sisa, orbit1_of, orbit2_of, orbit3_of, orbit4_of, reading, reading_of, word_in}
use Rattle.inav.specs.Words.{word1_at, word2_at, word3_at, word4_at, word5_at}

record IsReceivedPart (sat : Satellite) (stamp : ℕ) (p : Part) : Type 0 where
  at : p.stamp ≡ stamp
  from : p.sat ≡ sat
  value : IsBodyValue p.body
  ranges : HasBodyRanges p.body
  system : system_of p.body ≡ Gal
  week : HasGpsWeek p.body

abbrev AreWordsReceived : Satellite → ℕ → Result WordParts WordFault → Type 0
AreWordsReceived sat stamp (Ok parts) = IsReceivedPart sat stamp parts.first × IfSome parts.second (IsReceivedPart sat stamp)
AreWordsReceived sat stamp (Err fault) = Unit {0}

-- the fields of a word are within their widths in bits; those that are tested, after the test
abbrev Fits : Word → Type 0
Fits (One w) = IsStep60 w.toe → IsGalWord1 (orbit1_of w)
Fits (Two w) = IsGalWord2 (orbit2_of w)
Fits (Three w) = IsSisa w.sisa → IsGalWord3 (orbit3_of w)
Fits (Four w) = IsStep60 w.toc → IsGalWord4 (orbit4_of w)
Fits (Five w) = IsGalHealth (health_of w) × IsGalIon (ion_of w) × (w.wn < 4096)
Fits _ = Unit {0}

signed_fits : (bits : List ℕ) (at w : ℕ) → 1 ≤ w → IsSigned w (signed_at bits at w)
signed_fits bits at w some = signed_of-fits w (number_at bits at w) some (number_at-lt bits at w)

one_fits : (bits : List ℕ) → Fits (One (word1_at bits 0))
one_fits bits = λ time. record {
  iodnav = number_at-lt bits 6 10;
  toe = time;
  m0 = signed_fits bits 30 32 (omega arith);
  e = number_at-lt bits 62 32;
  root_a = number_at-lt bits 94 32;
}

two_fits : (bits : List ℕ) → Fits (Two (word2_at bits 0))
two_fits bits = record {
  iodnav = number_at-lt bits 6 10;
  omega0 = signed_fits bits 16 32 (omega arith);
  i0 = signed_fits bits 48 32 (omega arith);
  omega = signed_fits bits 80 32 (omega arith);
  idot = signed_fits bits 112 14 (omega arith);
}

three_fits : (bits : List ℕ) → Fits (Three (word3_at bits 0))
three_fits bits = λ sisa. record {
  iodnav = number_at-lt bits 6 10;
  omega_dot = signed_fits bits 16 24 (omega arith);
  delta_n = signed_fits bits 40 16 (omega arith);
  cuc = signed_fits bits 56 16 (omega arith);
  cus = signed_fits bits 72 16 (omega arith);
  crc = signed_fits bits 88 16 (omega arith);
  crs = signed_fits bits 104 16 (omega arith);
  sisa = sisa;
}

four_fits : (bits : List ℕ) → Fits (Four (word4_at bits 0))
four_fits bits = λ time. record {
  iodnav = number_at-lt bits 6 10;
  cic = signed_fits bits 22 16 (omega arith);
  cis = signed_fits bits 38 16 (omega arith);
  toc = time;
  af0 = signed_fits bits 68 31 (omega arith);
  af1 = signed_fits bits 99 21 (omega arith);
  af2 = signed_fits bits 120 6 (omega arith);
}

sisa_is : (n : ℕ) → is_sisa n ≡ true → IsSisa n
sisa_is n e = by_first (nat_le n 125) refl e
  where
    by_first : (b : Bool) → nat_le n 125 ≡ b → (b || nat_eq n 255) ≡ true → IsSisa n
    by_first true is e = inl (leb-true n 125 is)
    by_first false is e = inr (eqb-true n 255 e)

five_fits : (bits : List ℕ) → Fits (Five (word5_at bits 0))
five_fits bits = (
  record {
    bgd_a = signed_fits bits 47 10 (omega arith);
    bgd_b = signed_fits bits 57 10 (omega arith);
    hs_e5b = number_at-lt bits 67 2;
    hs_e1b = number_at-lt bits 69 2;
    dvs_e5b = number_at-lt bits 71 1;
    dvs_e1b = number_at-lt bits 72 1;
  },
  record {
    ai0 = number_at-lt bits 6 11;
    ai1 = signed_fits bits 17 11 (omega arith);
    ai2 = signed_fits bits 28 14 (omega arith);
    regions = number_at-lt bits 42 5;
  },
  number_at-lt bits 73 12,
)

word_fits : (bits : List ℕ) → Fits (word_in bits)
word_fits bits =
    let n = number_at bits 0 6 in
    cond_both (nat_eq n 1) _ _ Fits (λ e. one_fits bits) (λ e. cond_both (nat_eq n 2) _ _ Fits (λ e. two_fits bits) (λ e.
    cond_both (nat_eq n 3) _ _ Fits (λ e. three_fits bits) (λ e. cond_both (nat_eq n 4) _ _ Fits (λ e. four_fits bits) (λ e.
    cond_both (nat_eq n 5) _ _ Fits (λ e. five_fits bits) (λ e. tt)))))

heard_word : (sat : Satellite) (stamp : ℕ) (word : Word) → Fits word → AreWordsReceived sat stamp (reading sat stamp word)
heard_word sat stamp (One w) fits =
    cond_both (nat_lt w.toe 10080) _ _ (AreWordsReceived sat stamp) (λ e. (record { at = refl; from = refl; value = tt; ranges = fits (ltb-true w.toe 10080 e); system = refl; week = tt }, tt)) (λ e. tt)
heard_word sat stamp (Two w) fits = (record { at = refl; from = refl; value = tt; ranges = fits; system = refl; week = tt }, tt)
heard_word sat stamp (Three w) fits =
    cond_both (is_sisa w.sisa) _ _ (AreWordsReceived sat stamp) (λ e. (record { at = refl; from = refl; value = tt; ranges = fits (sisa_is w.sisa e); system = refl; week = tt }, tt)) (λ e. tt)
heard_word sat stamp (Four w) fits =
    cond_both (nat_eq w.svid sat.number) _ _ (AreWordsReceived sat stamp)
    (λ named. cond_both (nat_lt w.toc 10080) _ _ (AreWordsReceived sat stamp) (λ e. (record { at = refl; from = refl; value = tt; ranges = fits (ltb-true w.toc 10080 e); system = refl; week = tt }, tt)) (λ e. tt))
    (λ e. tt)
heard_word sat stamp (Five w) fits =
    cond_both (nat_lt w.tow 604800) _ _ (AreWordsReceived sat stamp)
    (λ e. let second : w.tow < 604800 = ltb-true w.tow 604800 e in (
      record { at = refl; from = refl; value = (fits.0, (fits.2, second)); ranges = fits.0; system = refl; week = tt },
      record { at = refl; from = refl; value = (fits.1, second); ranges = fits.1; system = refl; week = tt },
    ))
    (λ e. tt)
heard_word sat stamp (Other number) fits = tt

heard : (bits : List ℕ) (sat : Satellite) (stamp : ℕ) (parts : WordParts) → reading_of bits sat stamp ≡ Ok parts → AreWordsReceived sat stamp (Ok parts)
heard bits sat stamp parts e = subst (AreWordsReceived sat stamp) e (heard_word sat stamp (word_in bits) (word_fits bits))

each : (P : Part → Type 0) (sat : Satellite) (stamp : ℕ) (first : Part) (second : Option Part) → ((p : Part) → IsReceivedPart sat stamp p → P p)
    → AreWordsReceived sat stamp (Ok (record { first = first; second = second })) → All P (all_parts (record { first = first; second = second }))
each P sat stamp first None f h = let one : AllByRecursion P (first ∷ []) = (f first h.0, tt) in All-from_recursion P (first ∷ []) one
each P sat stamp first (Some second) f h = let two : AllByRecursion P (first ∷ second ∷ []) = (f first h.0, (f second h.1, tt)) in All-from_recursion P (first ∷ second ∷ []) two

pub parts_stamp : (bits : List ℕ) (sat : Satellite) (stamp : ℕ) (parts : WordParts) → reading_of bits sat stamp ≡ Ok parts → All (λ part. part.stamp ≡ stamp) (all_parts parts)
parts_stamp bits sat stamp parts e = each _ sat stamp parts.first parts.second (λ p h. h.at) (heard bits sat stamp parts e)

pub parts_sat : (bits : List ℕ) (sat : Satellite) (stamp : ℕ) (parts : WordParts) → reading_of bits sat stamp ≡ Ok parts → All (λ part. part.sat ≡ sat) (all_parts parts)
parts_sat bits sat stamp parts e = each _ sat stamp parts.first parts.second (λ p h. h.from) (heard bits sat stamp parts e)

pub parts_sendable : (bits : List ℕ) (sat : Satellite) (stamp : ℕ) (parts : WordParts) → sat.system ≡ Gal → reading_of bits sat stamp ≡ Ok parts
    → All (λ part. IsPart part.sat part.body) (all_parts parts)
parts_sendable bits sat stamp parts gal e =
    each (λ part. IsPart part.sat part.body) sat stamp parts.first parts.second (λ p h. record { system = ap (λ x. x.system) h.from ∙ gal ∙ sym h.system; week = h.week }) (heard bits sat stamp parts e)

pub parts_value : (bits : List ℕ) (sat : Satellite) (stamp : ℕ) (parts : WordParts) → stamp < 2 ^ 32 → reading_of bits sat stamp ≡ Ok parts
    → All IsPartValue (all_parts parts)
parts_value bits sat stamp parts low e =
    each IsPartValue sat stamp parts.first parts.second (λ p h. record { stamp = subst (λ n. n < 2 ^ 32) (sym h.at) low; body = h.value }) (heard bits sat stamp parts e)

pub parts_ranges : (bits : List ℕ) (sat : Satellite) (stamp : ℕ) (parts : WordParts) → reading_of bits sat stamp ≡ Ok parts
    → All (λ part. HasBodyRanges part.body) (all_parts parts)
parts_ranges bits sat stamp parts e =
    each (λ part. HasBodyRanges part.body) sat stamp parts.first parts.second (λ p h. h.ranges) (heard bits sat stamp parts e)
