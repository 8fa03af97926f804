-- An ephemeris of GPS in the numbers that C has of it: each field is the number of the same name.
use Rattle.nav_eph.specs.declared.sat.System.TheVariants.{Gps}
use Rattle.nav_eph.specs.declared.gps.GpsClock.{GpsClock}
use Rattle.nav_eph.specs.declared.gps.GpsSide.{GpsSide}
use Rattle.nav_eph.specs.declared.gps.GpsOrbitA.{GpsOrbitA}
use Rattle.nav_eph.specs.declared.gps.GpsOrbitB.{GpsOrbitB}
use Rattle.nav_eph.specs.declared.items.GpsEph.{GpsEph}
use Rattle.raw_values.specs.declared.gps_raw.GpsClockRaw.{GpsClockRaw}
use Rattle.raw_values.specs.declared.gps_raw.GpsSideRaw.{GpsSideRaw}
use Rattle.raw_values.specs.declared.gps_raw.GpsOrbitARaw.{GpsOrbitARaw}
use Rattle.raw_values.specs.declared.gps_raw.GpsOrbitBRaw.{GpsOrbitBRaw}
use Rattle.raw_values.specs.declared.gps_raw.GpsRaw.{GpsRaw}
use Rattle.raw_values.specs.Sent.{raw_sent, sent_in}

abbrev pub clock_in : GpsClockRaw → GpsClock
clock_in raw = record { iodc = raw.iodc; toc = raw.toc; af2 = raw.af2; af1 = raw.af1; af0 = raw.af0; tgd = raw.tgd }

abbrev pub raw_clock : GpsClock → GpsClockRaw
raw_clock value = record { iodc = value.iodc; toc = value.toc; af2 = value.af2; af1 = value.af1; af0 = value.af0; tgd = value.tgd }

abbrev pub side_in : GpsSideRaw → GpsSide
side_in raw = record { l2_code = raw.l2_code; ura = raw.ura; health = raw.health; l2p = raw.l2p }

abbrev pub raw_side : GpsSide → GpsSideRaw
raw_side value = record { l2_code = value.l2_code; ura = value.ura; health = value.health; l2p = value.l2p }

abbrev pub orbit_a_in : GpsOrbitARaw → GpsOrbitA
orbit_a_in raw = record { iode = raw.iode; crs = raw.crs; delta_n = raw.delta_n; m0 = raw.m0; cuc = raw.cuc; e = raw.e; cus = raw.cus; root_a = raw.root_a; toe = raw.toe }

abbrev pub raw_orbit_a : GpsOrbitA → GpsOrbitARaw
raw_orbit_a value = record { iode = value.iode; crs = value.crs; delta_n = value.delta_n; m0 = value.m0; cuc = value.cuc; e = value.e; cus = value.cus; root_a = value.root_a; toe = value.toe }

abbrev pub orbit_b_in : GpsOrbitBRaw → GpsOrbitB
orbit_b_in raw = record { iode = raw.iode; cic = raw.cic; omega0 = raw.omega0; cis = raw.cis; i0 = raw.i0; crc = raw.crc; omega = raw.omega; omega_dot = raw.omega_dot; idot = raw.idot }

abbrev pub raw_orbit_b : GpsOrbitB → GpsOrbitBRaw
raw_orbit_b value = record { iode = value.iode; cic = value.cic; omega0 = value.omega0; cis = value.cis; i0 = value.i0; crc = value.crc; omega = value.omega; omega_dot = value.omega_dot; idot = value.idot }

-- the ephemeris of the numbers; whether each is within its digits is another question
abbrev pub gps_in : GpsRaw → GpsEph
gps_in raw = record {
  sat = record { system = Gps; number = raw.satellite };
  clock = clock_in raw.clock;
  side = side_in raw.side;
  a = orbit_a_in raw.a;
  fit = raw.fit;
  b = orbit_b_in raw.b;
  toe_week = raw.toe_week;
  sent = sent_in raw.sent;
}

-- its numbers
abbrev pub raw_gps : GpsEph → GpsRaw
raw_gps value = record {
  satellite = value.sat.number;
  toe_week = value.toe_week;
  sent = raw_sent value.sent;
  clock = raw_clock value.clock;
  side = raw_side value.side;
  a = raw_orbit_a value.a;
  b = raw_orbit_b value.b;
  fit = value.fit;
}
