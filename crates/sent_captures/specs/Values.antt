-- The broadcast values, random field by field. The numbers after `draw x` are the index of the draw
-- and the width of the field in bits, that of RTCM 10403.3, messages 1019 and 1046.
use Rattle.std.specs.Prelude.{ℕ, ◌+◌, ◌-◌, ◌*◌, ◌%◌}
use Rattle.nav_eph.specs.declared.ion.GpsIon.{GpsIon}
use Rattle.nav_eph.specs.declared.ion.GalIon.{GalIon}
use Rattle.sent_captures.specs.declared.values.GpsValues.{GpsValues}
use Rattle.sent_captures.specs.declared.values.GalValues.{GalValues}
use Rattle.sent_captures.specs.Draws.{draw, draw_signed, state_after}

-- a GPS satellite, 24 draws: URA, code on L2, IDOT, af2, af1, af0, IODC, Crs, delta n, M0, Cuc, e, Cus, root A, Cic,
-- Omega0, Cis, i0, Crc, omega, Omega dot, TGD, L2 P flag, fit flag. IODE is the low eight bits of IODC; toc and toe are
-- 7,200 s; the satellite is healthy.
unfoldable pub gps_values : ℕ → GpsValues
gps_values x = record {
  clock = record {
    iodc = draw x 6 10;
    toc = 450;
    af2 = draw_signed x 3 8;
    af1 = draw_signed x 4 16;
    af0 = draw_signed x 5 22;
    tgd = draw_signed x 21 8;
  };
  side = record { l2_code = draw x 1 2; ura = draw x 0 4; health = 0; l2p = draw x 22 1 };
  a = record {
    iode = draw x 6 10 % 256;
    crs = draw_signed x 7 16;
    delta_n = draw_signed x 8 16;
    m0 = draw_signed x 9 32;
    cuc = draw_signed x 10 16;
    e = draw x 11 32;
    cus = draw_signed x 12 16;
    root_a = draw x 13 32;
    toe = 450;
  };
  fit = draw x 23 1;
  b = record {
    iode = draw x 6 10 % 256;
    cic = draw_signed x 14 16;
    omega0 = draw_signed x 15 32;
    cis = draw_signed x 16 16;
    i0 = draw_signed x 17 32;
    crc = draw_signed x 18 16;
    omega = draw_signed x 19 32;
    omega_dot = draw_signed x 20 24;
    idot = draw_signed x 2 14;
  };
}

-- a Galileo satellite, 21 draws: IODnav, IDOT, af2, af1, af0, Crs, delta n, M0, Cuc, e, Cus, root A, Cic, Omega0, Cis,
-- i0, Crc, omega, Omega dot, BGD E1-E5a, BGD E1-E5b. toc and toe are 7,200 s, SISA is 107, and the satellite is healthy.
unfoldable pub gal_values : ℕ → GalValues
gal_values x = record {
  w1 = record { iodnav = draw x 0 10; toe = 120; m0 = draw_signed x 7 32; e = draw x 9 32; root_a = draw x 11 32 };
  w2 = record {
    iodnav = draw x 0 10;
    omega0 = draw_signed x 13 32;
    i0 = draw_signed x 15 32;
    omega = draw_signed x 17 32;
    idot = draw_signed x 1 14;
  };
  w3 = record {
    iodnav = draw x 0 10;
    omega_dot = draw_signed x 18 24;
    delta_n = draw_signed x 6 16;
    cuc = draw_signed x 8 16;
    cus = draw_signed x 10 16;
    crc = draw_signed x 16 16;
    crs = draw_signed x 5 16;
    sisa = 107;
  };
  w4 = record {
    iodnav = draw x 0 10;
    cic = draw_signed x 12 16;
    cis = draw_signed x 14 16;
    toc = 120;
    af0 = draw_signed x 4 31;
    af1 = draw_signed x 3 21;
    af2 = draw_signed x 2 6;
  };
  health = record {
    bgd_a = draw_signed x 19 10;
    bgd_b = draw_signed x 20 10;
    hs_e5b = 0;
    hs_e1b = 0;
    dvs_e5b = 0;
    dvs_e1b = 0;
  };
}

-- the ionosphere of GPS, eight draws
unfoldable pub gps_ion : ℕ → GpsIon
gps_ion x = record {
  alpha0 = draw_signed x 0 8;
  alpha1 = draw_signed x 1 8;
  alpha2 = draw_signed x 2 8;
  alpha3 = draw_signed x 3 8;
  beta0 = draw_signed x 4 8;
  beta1 = draw_signed x 5 8;
  beta2 = draw_signed x 6 8;
  beta3 = draw_signed x 7 8;
}

-- the ionosphere of Galileo, four draws
unfoldable pub gal_ion : ℕ → GalIon
gal_ion x = record { ai0 = draw x 0 11; ai1 = draw_signed x 1 11; ai2 = draw_signed x 2 14; regions = draw x 3 5 }

-- With n satellites of each system the draws from the seed are, in this order, those of the GPS satellites, the Galileo
-- satellites, the ionosphere of GPS and that of Galileo.
-- The values of the GPS satellite with a number.
unfoldable pub gps_of : ℕ → ℕ → GpsValues
gps_of seed number = gps_values (state_after seed (24 * (number - 1)))

-- the values of the Galileo satellite with a number
unfoldable pub gal_of : ℕ → ℕ → ℕ → GalValues
gal_of seed n number = gal_values (state_after seed (24 * n + 21 * (number - 1)))

-- the ionosphere that every GPS satellite sends
unfoldable pub gps_ion_of : ℕ → ℕ → GpsIon
gps_ion_of seed n = gps_ion (state_after seed (24 * n + 21 * n))

-- the ionosphere that every Galileo satellite sends
unfoldable pub gal_ion_of : ℕ → ℕ → GalIon
gal_ion_of seed n = gal_ion (state_after seed (24 * n + 21 * n + 8))
