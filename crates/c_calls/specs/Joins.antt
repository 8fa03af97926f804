-- Ephemerides joined of the contents of subframes and words: dated as the issues of a capture are.
use Rattle.std.specs.Prelude.{◌≡◌, ◌*◌, ◌%◌, ◌<◌, ◌^◌, ℕ, pos}
use Rattle.nav_eph.specs.Weeks.{IsSecond}
use Rattle.nav_eph.specs.Ranges.{IsGalItem, IsGpsItem}
use Rattle.nav_eph.specs.declared.items.GalEph.{GalEph}
use Rattle.nav_eph.specs.declared.items.GpsEph.{GpsEph}
use Rattle.nav_eph.specs.declared.tag.SentTag.{SentTag}
use Rattle.nav_eph.specs.declared.tag.SentTag.TheVariants.{Sent}
use Rattle.periods.specs.Items.{gal_moment, gps_moment, sent_second, toe_week_of}
use Rattle.raw_values.specs.Gal.{gal_in}
use Rattle.raw_values.specs.Gps.{gps_in}
use Rattle.raw_values.specs.declared.gal_raw.GalRaw.{GalRaw}
use Rattle.raw_values.specs.declared.gps_raw.GpsRaw.{GpsRaw}
use Rattle.c_calls.specs.declared.page_raw.WordsRaw.{WordsRaw}
use Rattle.c_calls.specs.declared.subframe_raw.SubframesRaw.{SubframesRaw}

-- ---- GPS

-- the numbers of subframes 1 to 3, as those of an ephemeris of any week whose transmission time is not known
abbrev pub gps_undated : ℕ → SubframesRaw → GpsRaw
gps_undated satellite s = record {
  satellite = satellite;
  toe_week = 1;
  sent = record { is_known = 0; second = pos 0 };
  clock = s.one.clock;
  side = s.one.side;
  a = s.two.a;
  b = s.three.b;
  fit = s.two.fit;
}

-- they are subframes 1 to 3 of one issue, with each field in its range: IODE is the low eight bits of IODC (IS-GPS-200, 20.3.4.4)
pub record AreOfIssue (satellite : ℕ) (s : SubframesRaw) : Type 0 where
  pub one : s.one.number ≡ 1
  pub two : s.two.number ≡ 2
  pub three : s.three.number ≡ 3
  pub issue : s.one.clock.iodc % 256 ≡ s.two.a.iode
  pub wn : s.one.wn < 2 ^ 10
  pub second : IsSecond s.one.second
  pub ranges : IsGpsItem (gps_in (gps_undated satellite s))

-- when subframe 1 was sent
abbrev pub gps_tag : SubframesRaw → SentTag
gps_tag s = Sent s.one.wn s.one.second

-- an ephemeris with the week of its toe and its transmission time, by the tag near reference week r
abbrev pub gps_dated : ℕ → SentTag → GpsEph → GpsEph
gps_dated r tag e = record e {
  toe_week = toe_week_of (gps_moment r tag) (16 * e.a.toe);
  sent = sent_second tag (gps_moment r tag) (toe_week_of (gps_moment r tag) (16 * e.a.toe));
}

-- the ephemeris of subframes 1 to 3 near reference week r
abbrev pub gps_joined : ℕ → ℕ → SubframesRaw → GpsEph
gps_joined r satellite s = gps_dated r (gps_tag s) (gps_in (gps_undated satellite s))

-- ---- Galileo

-- the numbers of words 1 to 5, as those of an ephemeris of any week whose transmission time is not known
abbrev pub gal_undated : ℕ → WordsRaw → GalRaw
gal_undated satellite w = record {
  satellite = satellite;
  toe_week = 1;
  sent = record { is_known = 0; second = pos 0 };
  w1 = w.one.w1;
  w2 = w.two.w2;
  w3 = w.three.w3;
  w4 = w.four.w4;
  health = w.five.health;
}

-- they are words 1 to 5, of which 1 to 4 are of one issue, with each field in its range
pub record AreWords (satellite : ℕ) (w : WordsRaw) : Type 0 where
  pub one : w.one.number ≡ 1
  pub two : w.two.number ≡ 2
  pub three : w.three.number ≡ 3
  pub four : w.four.number ≡ 4
  pub five : w.five.number ≡ 5
  pub wn : w.five.wn < 2 ^ 12
  pub second : IsSecond w.five.second
  pub ranges : IsGalItem (gal_in (gal_undated satellite w))

-- when word 5 was sent
abbrev pub gal_tag : WordsRaw → SentTag
gal_tag w = Sent w.five.wn w.five.second

-- an ephemeris with the week of its toe and its transmission time, by the tag near reference week r
abbrev pub gal_dated : ℕ → SentTag → GalEph → GalEph
gal_dated r tag e = record e {
  toe_week = toe_week_of (gal_moment r tag) (60 * e.w1.toe);
  sent = sent_second tag (gal_moment r tag) (toe_week_of (gal_moment r tag) (60 * e.w1.toe));
}

-- the ephemeris of words 1 to 5 near reference week r
abbrev pub gal_joined : ℕ → ℕ → WordsRaw → GalEph
gal_joined r satellite w = gal_dated r (gal_tag w) (gal_in (gal_undated satellite w))
