-- The bytes of a word hold its table, and no others do.
use Rattle.std.proofs.Common.{◌≡◌, ℕ, ◌<◌, List, lit<, inl, inr, refl, ap, arith}
use Rattle.nav_eph.specs.Weeks.{IsSecond}
use Rattle.nav_bits.specs.Fields.{StandFrom}
use Rattle.nav_bits.specs.Packed.{AllFit, AreBytes, ZerosFrom}
use Rattle.nav_bits.proofs.Surface.{are_bytes, fields_stand, zeros_stand, only_packed}
use Rattle.nav_eph.specs.Bodies.{IsGalHealth, IsGalIon}
use Rattle.nav_eph.specs.Steps.{IsSisa}
use Rattle.nav_eph.specs.Ranges.{IsGalWord1, IsGalWord2, IsGalWord3, IsGalWord4}
use Rattle.nav_eph.specs.declared.galileo.GalWord1.{GalWord1}
use Rattle.nav_eph.specs.declared.galileo.GalWord2.{GalWord2}
use Rattle.nav_eph.specs.declared.galileo.GalWord3.{GalWord3}
use Rattle.nav_eph.specs.declared.galileo.GalWord4.{GalWord4}
use Rattle.nav_eph.specs.declared.galileo.GalHealth.{GalHealth}
use Rattle.nav_eph.specs.declared.ion.GalIon.{GalIon}
use Rattle.inav.specs.Words.{fields_word1, fields_word2, fields_word3, fields_word4, fields_word5, word1_at, word2_at, word3_at, word4_at, word5_at, word1_rest, word2_rest, word3_rest, word4_rest, word5_rest}
use Rattle.inav.specs.Writing.{word1_bytes, word2_bytes, word3_bytes, word4_bytes, word5_bytes, written_word1, written_word2, written_word3, written_word4, written_word5}

-- word 1
fits1 : (w : GalWord1) → IsGalWord1 w → AllFit (fields_word1 (written_word1 w))
fits1 w is = (lit< tt, (is.iodnav, (omega (arith, is.toe), (omega arith, is.m0, (is.e, (is.root_a, tt))))))

only1 : (w : GalWord1) (bits : List ℕ) → IsGalWord1 w → AreBytes 16 bits → StandFrom bits 0 0 (fields_word1 (written_word1 w)) → ZerosFrom bits 0 0 (fields_word1 (written_word1 w)) → bits ≡ word1_bytes w
unfolding word1_bytes
only1 w bits is are stand zeros = only_packed 16 (fields_word1 (written_word1 w)) bits (fits1 w is) refl are stand zeros

pub is_word1 : (w : GalWord1) (bits : List ℕ) → IsGalWord1 w → AreBytes 16 bits → word1_at bits 0 ≡ written_word1 w → word1_rest bits 0 → bits ≡ word1_bytes w
is_word1 w bits is are f rest = only1 w bits is are (rest.0, (ap (λ r. r.iodnav) f, (ap (λ r. r.toe) f, (ap (λ r. r.m0) f, (ap (λ r. r.e) f, (ap (λ r. r.root_a) f, tt)))))) (rest.1, tt)

pub stand1 : (w : GalWord1) → IsGalWord1 w → StandFrom (word1_bytes w) 0 0 (fields_word1 (written_word1 w))
unfolding word1_bytes
stand1 w is = fields_stand 16 (fields_word1 (written_word1 w)) (fits1 w is) refl

pub zeros1 : (w : GalWord1) → IsGalWord1 w → ZerosFrom (word1_bytes w) 0 0 (fields_word1 (written_word1 w))
unfolding word1_bytes
zeros1 w is = zeros_stand 16 (fields_word1 (written_word1 w)) (fits1 w is) refl

pub bytes1 : (w : GalWord1) → AreBytes 16 (word1_bytes w)
unfolding word1_bytes
bytes1 w = are_bytes 16 _

pub only_word1 : (w : GalWord1) (bits : List ℕ) → IsGalWord1 w → AreBytes 16 bits → StandFrom bits 0 0 (fields_word1 (written_word1 w)) → ZerosFrom bits 0 0 (fields_word1 (written_word1 w)) → bits ≡ word1_bytes w
only_word1 = only1

-- word 2
fits2 : (w : GalWord2) → IsGalWord2 w → AllFit (fields_word2 (written_word2 w))
fits2 w is = (lit< tt, (is.iodnav, (omega arith, is.omega0, (omega arith, is.i0, (omega arith, is.omega, (omega arith, is.idot, tt))))))

only2 : (w : GalWord2) (bits : List ℕ) → IsGalWord2 w → AreBytes 16 bits → StandFrom bits 0 0 (fields_word2 (written_word2 w)) → ZerosFrom bits 0 0 (fields_word2 (written_word2 w)) → bits ≡ word2_bytes w
unfolding word2_bytes
only2 w bits is are stand zeros = only_packed 16 (fields_word2 (written_word2 w)) bits (fits2 w is) refl are stand zeros

pub is_word2 : (w : GalWord2) (bits : List ℕ) → IsGalWord2 w → AreBytes 16 bits → word2_at bits 0 ≡ written_word2 w → word2_rest bits 0 → bits ≡ word2_bytes w
is_word2 w bits is are f rest = only2 w bits is are (rest.0, (ap (λ r. r.iodnav) f, (ap (λ r. r.omega0) f, (ap (λ r. r.i0) f, (ap (λ r. r.omega) f, (ap (λ r. r.idot) f, tt)))))) (rest.1, tt)

pub stand2 : (w : GalWord2) → IsGalWord2 w → StandFrom (word2_bytes w) 0 0 (fields_word2 (written_word2 w))
unfolding word2_bytes
stand2 w is = fields_stand 16 (fields_word2 (written_word2 w)) (fits2 w is) refl

pub zeros2 : (w : GalWord2) → IsGalWord2 w → ZerosFrom (word2_bytes w) 0 0 (fields_word2 (written_word2 w))
unfolding word2_bytes
zeros2 w is = zeros_stand 16 (fields_word2 (written_word2 w)) (fits2 w is) refl

pub bytes2 : (w : GalWord2) → AreBytes 16 (word2_bytes w)
unfolding word2_bytes
bytes2 w = are_bytes 16 _

pub only_word2 : (w : GalWord2) (bits : List ℕ) → IsGalWord2 w → AreBytes 16 bits → StandFrom bits 0 0 (fields_word2 (written_word2 w)) → ZerosFrom bits 0 0 (fields_word2 (written_word2 w)) → bits ≡ word2_bytes w
only_word2 = only2

sisa-lt : (n : ℕ) → IsSisa n → n < 256
sisa-lt n (inl few) = omega (arith, few)
sisa-lt n (inr none) = omega (arith, none)

-- word 3
fits3 : (w : GalWord3) → IsGalWord3 w → AllFit (fields_word3 (written_word3 w))
fits3 w is = (lit< tt, (is.iodnav, (omega arith, is.omega_dot, (omega arith, is.delta_n, (omega arith, is.cuc, (omega arith, is.cus, (omega arith, is.crc, (omega arith, is.crs, (sisa-lt w.sisa is.sisa, tt)))))))))

only3 : (w : GalWord3) (bits : List ℕ) → IsGalWord3 w → AreBytes 16 bits → StandFrom bits 0 0 (fields_word3 (written_word3 w)) → ZerosFrom bits 0 0 (fields_word3 (written_word3 w)) → bits ≡ word3_bytes w
unfolding word3_bytes
only3 w bits is are stand zeros = only_packed 16 (fields_word3 (written_word3 w)) bits (fits3 w is) refl are stand zeros

pub is_word3 : (w : GalWord3) (bits : List ℕ) → IsGalWord3 w → AreBytes 16 bits → word3_at bits 0 ≡ written_word3 w → word3_rest bits 0 → bits ≡ word3_bytes w
is_word3 w bits is are f rest = only3 w bits is are (rest, (ap (λ r. r.iodnav) f, (ap (λ r. r.omega_dot) f, (ap (λ r. r.delta_n) f, (ap (λ r. r.cuc) f, (ap (λ r. r.cus) f, (ap (λ r. r.crc) f, (ap (λ r. r.crs) f, (ap (λ r. r.sisa) f, tt))))))))) tt

pub stand3 : (w : GalWord3) → IsGalWord3 w → StandFrom (word3_bytes w) 0 0 (fields_word3 (written_word3 w))
unfolding word3_bytes
stand3 w is = fields_stand 16 (fields_word3 (written_word3 w)) (fits3 w is) refl

pub zeros3 : (w : GalWord3) → IsGalWord3 w → ZerosFrom (word3_bytes w) 0 0 (fields_word3 (written_word3 w))
unfolding word3_bytes
zeros3 w is = zeros_stand 16 (fields_word3 (written_word3 w)) (fits3 w is) refl

pub bytes3 : (w : GalWord3) → AreBytes 16 (word3_bytes w)
unfolding word3_bytes
bytes3 w = are_bytes 16 _

pub only_word3 : (w : GalWord3) (bits : List ℕ) → IsGalWord3 w → AreBytes 16 bits → StandFrom bits 0 0 (fields_word3 (written_word3 w)) → ZerosFrom bits 0 0 (fields_word3 (written_word3 w)) → bits ≡ word3_bytes w
only_word3 = only3

-- word 4
fits4 : (w : GalWord4) (svid : ℕ) → IsGalWord4 w → svid < 64 → AllFit (fields_word4 (written_word4 w svid))
fits4 w svid is number_fits = (lit< tt, (is.iodnav, (number_fits, (omega arith, is.cic, (omega arith, is.cis, (omega (arith, is.toc), (omega arith, is.af0, (omega arith, is.af1, (omega arith, is.af2, tt)))))))))

only4 : (w : GalWord4) (svid : ℕ) (bits : List ℕ) → IsGalWord4 w → svid < 64 → AreBytes 16 bits → StandFrom bits 0 0 (fields_word4 (written_word4 w svid)) → ZerosFrom bits 0 0 (fields_word4 (written_word4 w svid)) → bits ≡ word4_bytes w svid
unfolding word4_bytes
only4 w svid bits is number_fits are stand zeros = only_packed 16 (fields_word4 (written_word4 w svid)) bits (fits4 w svid is number_fits) refl are stand zeros

pub is_word4 : (w : GalWord4) (svid : ℕ) (bits : List ℕ) → IsGalWord4 w → svid < 64 → AreBytes 16 bits → word4_at bits 0 ≡ written_word4 w svid → word4_rest bits 0 → bits ≡ word4_bytes w svid
is_word4 w svid bits is number_fits are f rest = only4 w svid bits is number_fits are (rest.0, (ap (λ r. r.iodnav) f, (ap (λ r. r.svid) f, (ap (λ r. r.cic) f, (ap (λ r. r.cis) f, (ap (λ r. r.toc) f, (ap (λ r. r.af0) f, (ap (λ r. r.af1) f, (ap (λ r. r.af2) f, tt))))))))) (rest.1, tt)

pub stand4 : (w : GalWord4) (svid : ℕ) → IsGalWord4 w → svid < 64 → StandFrom (word4_bytes w svid) 0 0 (fields_word4 (written_word4 w svid))
unfolding word4_bytes
stand4 w svid is number_fits = fields_stand 16 (fields_word4 (written_word4 w svid)) (fits4 w svid is number_fits) refl

pub zeros4 : (w : GalWord4) (svid : ℕ) → IsGalWord4 w → svid < 64 → ZerosFrom (word4_bytes w svid) 0 0 (fields_word4 (written_word4 w svid))
unfolding word4_bytes
zeros4 w svid is number_fits = zeros_stand 16 (fields_word4 (written_word4 w svid)) (fits4 w svid is number_fits) refl

pub bytes4 : (w : GalWord4) (svid : ℕ) → AreBytes 16 (word4_bytes w svid)
unfolding word4_bytes
bytes4 w svid = are_bytes 16 _

pub only_word4 : (w : GalWord4) (svid : ℕ) (bits : List ℕ) → IsGalWord4 w → svid < 64 → AreBytes 16 bits → StandFrom bits 0 0 (fields_word4 (written_word4 w svid)) → ZerosFrom bits 0 0 (fields_word4 (written_word4 w svid)) → bits ≡ word4_bytes w svid
only_word4 = only4

-- word 5
fits5 : (h : GalHealth) (i : GalIon) (wn second : ℕ) → IsGalHealth h → IsGalIon i → wn < 4096 → IsSecond second → AllFit (fields_word5 (written_word5 h i wn second))
fits5 h i wn second health ion wn_fits second_fits = (lit< tt, (ion.ai0, (omega arith, ion.ai1, (omega arith, ion.ai2, (ion.regions, (omega arith, health.bgd_a, (omega arith, health.bgd_b, (health.hs_e5b, (health.hs_e1b, (health.dvs_e5b, (health.dvs_e1b, (wn_fits, (omega (arith, second_fits), tt)))))))))))))

only5 : (h : GalHealth) (i : GalIon) (wn second : ℕ) (bits : List ℕ) → IsGalHealth h → IsGalIon i → wn < 4096 → IsSecond second → AreBytes 16 bits → StandFrom bits 0 0 (fields_word5 (written_word5 h i wn second)) → ZerosFrom bits 0 0 (fields_word5 (written_word5 h i wn second)) → bits ≡ word5_bytes h i wn second
unfolding word5_bytes
only5 h i wn second bits health ion wn_fits second_fits are stand zeros = only_packed 16 (fields_word5 (written_word5 h i wn second)) bits (fits5 h i wn second health ion wn_fits second_fits) refl are stand zeros

pub is_word5 : (h : GalHealth) (i : GalIon) (wn second : ℕ) (bits : List ℕ) → IsGalHealth h → IsGalIon i → wn < 4096 → IsSecond second → AreBytes 16 bits → word5_at bits 0 ≡ written_word5 h i wn second → word5_rest bits 0 → bits ≡ word5_bytes h i wn second
is_word5 h i wn second bits health ion wn_fits second_fits are f rest = only5 h i wn second bits health ion wn_fits second_fits are (rest.0, (ap (λ r. r.ai0) f, (ap (λ r. r.ai1) f, (ap (λ r. r.ai2) f, (ap (λ r. r.regions) f, (ap (λ r. r.bgd_a) f, (ap (λ r. r.bgd_b) f, (ap (λ r. r.hs_e5b) f, (ap (λ r. r.hs_e1b) f, (ap (λ r. r.dvs_e5b) f, (ap (λ r. r.dvs_e1b) f, (ap (λ r. r.wn) f, (ap (λ r. r.tow) f, tt))))))))))))) (rest.1, tt)

pub stand5 : (h : GalHealth) (i : GalIon) (wn second : ℕ) → IsGalHealth h → IsGalIon i → wn < 4096 → IsSecond second → StandFrom (word5_bytes h i wn second) 0 0 (fields_word5 (written_word5 h i wn second))
unfolding word5_bytes
stand5 h i wn second health ion wn_fits second_fits = fields_stand 16 (fields_word5 (written_word5 h i wn second)) (fits5 h i wn second health ion wn_fits second_fits) refl

pub zeros5 : (h : GalHealth) (i : GalIon) (wn second : ℕ) → IsGalHealth h → IsGalIon i → wn < 4096 → IsSecond second → ZerosFrom (word5_bytes h i wn second) 0 0 (fields_word5 (written_word5 h i wn second))
unfolding word5_bytes
zeros5 h i wn second health ion wn_fits second_fits = zeros_stand 16 (fields_word5 (written_word5 h i wn second)) (fits5 h i wn second health ion wn_fits second_fits) refl

pub bytes5 : (h : GalHealth) (i : GalIon) (wn second : ℕ) → AreBytes 16 (word5_bytes h i wn second)
unfolding word5_bytes
bytes5 h i wn second = are_bytes 16 _

pub only_word5 : (h : GalHealth) (i : GalIon) (wn second : ℕ) (bits : List ℕ) → IsGalHealth h → IsGalIon i → wn < 4096 → IsSecond second → AreBytes 16 bits → StandFrom bits 0 0 (fields_word5 (written_word5 h i wn second)) → ZerosFrom bits 0 0 (fields_word5 (written_word5 h i wn second)) → bits ≡ word5_bytes h i wn second
only_word5 = only5
