-- The drawn values are within the widths of their fields.
use Rattle.std.proofs.Common.{ℕ, ◌%◌, ◌^◌, ◌<◌, ◌≤◌, nat_eq, inl, lit<, arith}
use Rattle.std.specs.Prelude.{◌/◌}
use Rattle.std.proofs.lemmas.Bool.{cond_both}
use Rattle.std.proofs.lemmas.Nat.{mod_below}
use Rattle.nav_bits.specs.Signed.{IsSigned}
use Rattle.nav_bits.proofs.Surface.{signed_of-fits}
use Rattle.nav_eph.specs.Bodies.{IsGalHealth, IsGalIon, IsGpsIon, IsGpsSide}
use Rattle.nav_eph.specs.Ranges.{IsGalWord1, IsGalWord2, IsGalWord3, IsGalWord4, IsGpsClock, IsGpsOrbitA, IsGpsOrbitB}
use Rattle.nav_eph.specs.declared.ion.GpsIon.{GpsIon}
use Rattle.lnav_subframe.specs.Bytes.{HasBits}
use Rattle.sent_captures.specs.declared.values.GpsValues.{GpsValues}
use Rattle.sent_captures.specs.declared.values.GalValues.{GalValues}
use Rattle.sent_captures.specs.Draws.{draw, draw_signed, state_after}
use Rattle.sent_captures.specs.Lines.{subframe_of}
use Rattle.sent_captures.specs.Values.{gal_ion, gal_ion_of, gal_of, gal_values, gps_ion, gps_ion_of, gps_of, gps_values}
use Rattle.sent_captures.proofs.States.{draw-lt}

draw_fits : (x k w : ℕ) → w ≤ 64 → draw x k w < 2 ^ w
unfolding draw state_after
draw_fits x k w most = draw-lt (state_after x k) w most

signed_fits : (x k w : ℕ) → 1 ≤ w → w ≤ 64 → IsSigned w (draw_signed x k w)
signed_fits x k w some most = signed_of-fits w (draw x k w) some (draw_fits x k w most)

-- the values of a satellite are within the widths of their fields
pub record AreGpsValues (v : GpsValues) : Type 0 where
  pub clock : IsGpsClock v.clock
  pub side : IsGpsSide v.side
  pub a : IsGpsOrbitA v.a
  pub fit : v.fit < 2 ^ 1
  pub b : IsGpsOrbitB v.b

pub record AreGalValues (v : GalValues) : Type 0 where
  pub w1 : IsGalWord1 v.w1
  pub w2 : IsGalWord2 v.w2
  pub w3 : IsGalWord3 v.w3
  pub w4 : IsGalWord4 v.w4
  pub health : IsGalHealth v.health

gps_fit : (x : ℕ) → AreGpsValues (gps_values x)
unfolding gps_values
gps_fit x = record {
  clock = record {
    iodc = draw_fits x 6 10 (omega arith);
    toc = lit< tt;
    af2 = signed_fits x 3 8 (omega arith) (omega arith);
    af1 = signed_fits x 4 16 (omega arith) (omega arith);
    af0 = signed_fits x 5 22 (omega arith) (omega arith);
    tgd = signed_fits x 21 8 (omega arith) (omega arith);
  };
  side = record {
    l2_code = draw_fits x 1 2 (omega arith);
    ura = draw_fits x 0 4 (omega arith);
    health = lit< tt;
    l2p = draw_fits x 22 1 (omega arith);
  };
  a = record {
    iode = mod_below (draw x 6 10) 256 (lit< tt);
    crs = signed_fits x 7 16 (omega arith) (omega arith);
    delta_n = signed_fits x 8 16 (omega arith) (omega arith);
    m0 = signed_fits x 9 32 (omega arith) (omega arith);
    cuc = signed_fits x 10 16 (omega arith) (omega arith);
    e = draw_fits x 11 32 (omega arith);
    cus = signed_fits x 12 16 (omega arith) (omega arith);
    root_a = draw_fits x 13 32 (omega arith);
    toe = lit< tt;
  };
  fit = draw_fits x 23 1 (omega arith);
  b = record {
    iode = mod_below (draw x 6 10) 256 (lit< tt);
    cic = signed_fits x 14 16 (omega arith) (omega arith);
    omega0 = signed_fits x 15 32 (omega arith) (omega arith);
    cis = signed_fits x 16 16 (omega arith) (omega arith);
    i0 = signed_fits x 17 32 (omega arith) (omega arith);
    crc = signed_fits x 18 16 (omega arith) (omega arith);
    omega = signed_fits x 19 32 (omega arith) (omega arith);
    omega_dot = signed_fits x 20 24 (omega arith) (omega arith);
    idot = signed_fits x 2 14 (omega arith) (omega arith);
  };
}

gal_fit : (x : ℕ) → AreGalValues (gal_values x)
unfolding gal_values
gal_fit x = record {
  w1 = record {
    iodnav = draw_fits x 0 10 (omega arith);
    toe = lit< tt;
    m0 = signed_fits x 7 32 (omega arith) (omega arith);
    e = draw_fits x 9 32 (omega arith);
    root_a = draw_fits x 11 32 (omega arith);
  };
  w2 = record {
    iodnav = draw_fits x 0 10 (omega arith);
    omega0 = signed_fits x 13 32 (omega arith) (omega arith);
    i0 = signed_fits x 15 32 (omega arith) (omega arith);
    omega = signed_fits x 17 32 (omega arith) (omega arith);
    idot = signed_fits x 1 14 (omega arith) (omega arith);
  };
  w3 = record {
    iodnav = draw_fits x 0 10 (omega arith);
    omega_dot = signed_fits x 18 24 (omega arith) (omega arith);
    delta_n = signed_fits x 6 16 (omega arith) (omega arith);
    cuc = signed_fits x 8 16 (omega arith) (omega arith);
    cus = signed_fits x 10 16 (omega arith) (omega arith);
    crc = signed_fits x 16 16 (omega arith) (omega arith);
    crs = signed_fits x 5 16 (omega arith) (omega arith);
    sisa = inl (omega arith);
  };
  w4 = record {
    iodnav = draw_fits x 0 10 (omega arith);
    cic = signed_fits x 12 16 (omega arith) (omega arith);
    cis = signed_fits x 14 16 (omega arith) (omega arith);
    toc = lit< tt;
    af0 = signed_fits x 4 31 (omega arith) (omega arith);
    af1 = signed_fits x 3 21 (omega arith) (omega arith);
    af2 = signed_fits x 2 6 (omega arith) (omega arith);
  };
  health = record {
    bgd_a = signed_fits x 19 10 (omega arith) (omega arith);
    bgd_b = signed_fits x 20 10 (omega arith) (omega arith);
    hs_e5b = lit< tt;
    hs_e1b = lit< tt;
    dvs_e5b = lit< tt;
    dvs_e1b = lit< tt;
  };
}

gps_ion_fit : (x : ℕ) → IsGpsIon (gps_ion x)
unfolding gps_ion
gps_ion_fit x = record {
  alpha0 = signed_fits x 0 8 (omega arith) (omega arith);
  alpha1 = signed_fits x 1 8 (omega arith) (omega arith);
  alpha2 = signed_fits x 2 8 (omega arith) (omega arith);
  alpha3 = signed_fits x 3 8 (omega arith) (omega arith);
  beta0 = signed_fits x 4 8 (omega arith) (omega arith);
  beta1 = signed_fits x 5 8 (omega arith) (omega arith);
  beta2 = signed_fits x 6 8 (omega arith) (omega arith);
  beta3 = signed_fits x 7 8 (omega arith) (omega arith);
}

gal_ion_fit : (x : ℕ) → IsGalIon (gal_ion x)
unfolding gal_ion
gal_ion_fit x = record {
  ai0 = draw_fits x 0 11 (omega arith);
  ai1 = signed_fits x 1 11 (omega arith) (omega arith);
  ai2 = signed_fits x 2 14 (omega arith) (omega arith);
  regions = draw_fits x 3 5 (omega arith);
}

pub gps_of_fit : (seed number : ℕ) → AreGpsValues (gps_of seed number)
unfolding gps_of
gps_of_fit seed number = gps_fit _

pub gal_of_fit : (seed n number : ℕ) → AreGalValues (gal_of seed n number)
unfolding gal_of
gal_of_fit seed n number = gal_fit _

pub gps_ion_of_fit : (seed n : ℕ) → IsGpsIon (gps_ion_of seed n)
unfolding gps_ion_of
gps_ion_of_fit seed n = gps_ion_fit _

pub gal_ion_of_fit : (seed n : ℕ) → IsGalIon (gal_ion_of seed n)
unfolding gal_ion_of
gal_ion_of_fit seed n = gal_ion_fit _

-- each subframe of the hour has its fields within their widths in bits
pub subframe_fits : (v : GpsValues) (ion : GpsIon) (r k : ℕ) → AreGpsValues v → IsGpsIon ion → HasBits (subframe_of v ion r k)
unfolding subframe_of
subframe_fits v ion r k fits ion_fits =
    cond_both (nat_eq (k % 5) 0) _ _ HasBits (λ e. (fits.clock, fits.side, mod_below r 1024 (lit< tt)))
    (λ e. cond_both (nat_eq (k % 5) 1) _ _ HasBits (λ e. (fits.a, fits.fit))
    (λ e. cond_both (nat_eq (k % 5) 2) _ _ HasBits (λ e. fits.b)
    (λ e. cond_both (nat_eq (k % 5) 3) _ _ HasBits
    (λ e. cond_both (nat_eq (k / 5 % 25) 17) _ _ HasBits (λ e. ion_fits) (λ e. (lit< tt, lit< tt)))
    (λ e. (lit< tt, lit< tt)))))
