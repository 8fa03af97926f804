-- The fields and bytes of written words.
use Rattle.std.specs.Prelude.{ℕ, List}
use Rattle.nav_bits.specs.Packed.{packed}
use Rattle.nav_eph.specs.declared.galileo.GalWord1.{GalWord1}
use Rattle.nav_eph.specs.declared.galileo.GalWord2.{GalWord2}
use Rattle.nav_eph.specs.declared.galileo.GalWord3.{GalWord3}
use Rattle.nav_eph.specs.declared.galileo.GalWord4.{GalWord4}
use Rattle.nav_eph.specs.declared.galileo.GalHealth.{GalHealth}
use Rattle.nav_eph.specs.declared.ion.GalIon.{GalIon}
use Rattle.inav.specs.Words.{fields_word1, fields_word2, fields_word3, fields_word4, fields_word5}
use Rattle.inav.specs.declared.word1.Word1.{Word1}
use Rattle.inav.specs.declared.word2.Word2.{Word2}
use Rattle.inav.specs.declared.word3.Word3.{Word3}
use Rattle.inav.specs.declared.word4.Word4.{Word4}
use Rattle.inav.specs.declared.word5.Word5.{Word5}

-- the fields of word type 1
abbrev pub written_word1 : GalWord1 → Word1
written_word1 w = record { iodnav = w.iodnav; toe = w.toe; m0 = w.m0; e = w.e; root_a = w.root_a }

-- the fields of word type 2
abbrev pub written_word2 : GalWord2 → Word2
written_word2 w = record { iodnav = w.iodnav; omega0 = w.omega0; i0 = w.i0; omega = w.omega; idot = w.idot }

-- the fields of word type 3
abbrev pub written_word3 : GalWord3 → Word3
written_word3 w = record { iodnav = w.iodnav; omega_dot = w.omega_dot; delta_n = w.delta_n; cuc = w.cuc; cus = w.cus; crc = w.crc; crs = w.crs; sisa = w.sisa }

-- the fields of word type 4 of the satellite with that SVID
abbrev pub written_word4 : GalWord4 → ℕ → Word4
written_word4 w svid = record { iodnav = w.iodnav; svid = svid; cic = w.cic; cis = w.cis; toc = w.toc; af0 = w.af0; af1 = w.af1; af2 = w.af2 }

-- the fields of word type 5, sent at that week number and TOW
abbrev pub written_word5 : GalHealth → GalIon → ℕ → ℕ → Word5
written_word5 h i wn second = record {
  ai0 = i.ai0;
  ai1 = i.ai1;
  ai2 = i.ai2;
  regions = i.regions;
  bgd_a = h.bgd_a;
  bgd_b = h.bgd_b;
  hs_e5b = h.hs_e5b;
  hs_e1b = h.hs_e1b;
  dvs_e5b = h.dvs_e5b;
  dvs_e1b = h.dvs_e1b;
  wn = wn;
  tow = second;
}

-- the 16 bytes of word type 1: its table, packed
unfoldable pub word1_bytes : GalWord1 → List ℕ
word1_bytes w = packed 16 (fields_word1 (written_word1 w))

-- the 16 bytes of word type 2
unfoldable pub word2_bytes : GalWord2 → List ℕ
word2_bytes w = packed 16 (fields_word2 (written_word2 w))

-- the 16 bytes of word type 3
unfoldable pub word3_bytes : GalWord3 → List ℕ
word3_bytes w = packed 16 (fields_word3 (written_word3 w))

-- the 16 bytes of word type 4 of the satellite with that SVID
unfoldable pub word4_bytes : GalWord4 → ℕ → List ℕ
word4_bytes w svid = packed 16 (fields_word4 (written_word4 w svid))

-- the 16 bytes of word type 5, sent at that week number and TOW
unfoldable pub word5_bytes : GalHealth → GalIon → ℕ → ℕ → List ℕ
word5_bytes h i wn second = packed 16 (fields_word5 (written_word5 h i wn second))
