-- The numbers of a message from which its times are taken.
use Rattle.std.proofs.Common.{◌≡◌, ℕ, ◌-◌, ◌*◌, ◌/◌, ◌^◌, ◌<◌, ◌≤◌, ◌&&◌, true, List}
use Rattle.std.proofs.Common.{length, arith, ℤ, pos, negsuc, ◌≤ℤ◌, int_le, unsigned_abs}
use Rattle.std.proofs.Common.{mul-le-mul}
use Rattle.std.specs.Prelude.{nat_le, nat_lt}
use Rattle.std.proofs.Math.Nat.{mul-div-le, div-le_self, pow-le-pow_right}
use Rattle.std.proofs.lemmas.Nat.{pow_pos}
use Rattle.std.proofs.lemmas.Int.{ints}
use Rattle.std.proofs.lemmas.Bool.{leb-true, ltb-true}
use Rattle.nav_tables.specs.declared.field.Field.{Field as TableField}
use Rattle.nav_tables.specs.Messages.{AreInRange}
use Rattle.nav_tables.proofs.Surface.{both, le_z_true, range_length}
use Rattle.nav_tables.specs.Links.{nth, field_at}
use Rattle.nav_tables.proofs.Surface.{inside_at}
use Rattle.nav_tables.specs.Weeks.{first_week, is_week_rule}
use Rattle.nav_rows.specs.declared.kind.WeekClock.{WeekClock}
use Rattle.nav_rows.specs.declared.kind.Clock.{Clock}
use Rattle.nav_rows.specs.declared.kind.Clock.TheVariants.{Frame, Weeks, Daily}
use Rattle.nav_rows.specs.Kinds.{is_within, has_frame, has_week, has_times, is_week_clock}
use Rattle.nav_rows.specs.Times.{number, IsNumber, IsSatellite, HasFrame, HasWeek, HasTimes}

abs_few : (z : ℤ) (n : ℕ) → pos 0 ≤ℤ z → z ≤ℤ pos n → unsigned_abs z ≤ n
abs_few (pos m) n a b = omega (arith, ints)
abs_few (negsuc m) n a b = absurd (omega (arith, ints))

-- number k is there, from 0 to high
record IsBelow (zs : List ℤ) (k high : ℕ) : Type 0 where
  pub inside : k < length zs
  pub from : pos 0 ≤ℤ nth zs k
  pub to : nth zs k ≤ℤ pos high
  pub few : number zs k ≤ high

below : (fs : List TableField) (zs : List ℤ) (k high : ℕ) → is_within fs k high ≡ true
    → AreInRange fs zs → IsBelow zs k high
below fs zs k high e h =
    let a = both (nat_lt k (length fs) && int_le (pos 0) (field_at fs k).low)
    (int_le (field_at fs k).high (pos high)) e in
    let b = both (nat_lt k (length fs)) (int_le (pos 0) (field_at fs k).low) a.0 in
    let few : k < length fs = ltb-true k (length fs) b.0 in
    let i = inside_at fs zs k h few in
    let x = le_z_true (pos 0) (field_at fs k).low b.1 in
    let y = le_z_true (field_at fs k).high (pos high) a.1 in
    let from : pos 0 ≤ℤ nth zs k = omega (arith, ints, x, i.0) in
    let to : nth zs k ≤ℤ pos high = omega (arith, ints, y, i.1) in
    record {
      inside = omega (arith, few, range_length fs zs h);
      from = from;
      to = to;
      few = abs_few (nth zs k) high from to;
    }

numbered : (zs : List ℤ) (k n : ℕ) → n ≤ 604799 → IsBelow zs k n → IsNumber zs k
numbered zs k n few h = record {
  inside = h.inside;
  from = h.from;
  to = omega (arith, ints, few, h.to);
}

pub satellite_is : (fs : List TableField) (zs : List ℤ) → is_within fs 1 99 ≡ true
    → AreInRange fs zs → IsSatellite zs
satellite_is fs zs e h = let b
    = below fs zs 1 99 e h in record { number = numbered zs 1 99 (omega arith) b; to = b.to }

frame_is : (fs : List TableField) (zs : List ℤ) → has_frame fs ≡ true → AreInRange fs zs
    → HasFrame zs
frame_is fs zs e h =
    let n2 = is_within fs 32 1 in
    let n3 = is_within fs 35 31 in
    let n4 = is_within fs 30 1461 in
    let n5 = is_within fs 6 23 in
    let n6 = is_within fs 7 59 in
    let n7 = is_within fs 8 1 in
    let n8 = is_within fs 11 95 in
    let e7 = both (n2 && n3 && n4 && n5 && n6 && n7) n8 e in
    let e6 = both (n2 && n3 && n4 && n5 && n6) n7 e7.0 in
    let e5 = both (n2 && n3 && n4 && n5) n6 e6.0 in
    let e4 = both (n2 && n3 && n4) n5 e5.0 in
    let e3 = both (n2 && n3) n4 e4.0 in
    let e2 = both n2 n3 e3.0 in
    let additional = below fs zs 32 1 e2.0 h in
    let period = below fs zs 35 31 e2.1 h in
    let day = below fs zs 30 1461 e3.1 h in
    let hour = below fs zs 6 23 e4.1 h in
    let minute = below fs zs 7 59 e5.1 h in
    let half = below fs zs 8 1 e6.1 h in
    let quarter = below fs zs 11 95 e7.1 h in
    record {
      additional = numbered zs 32 1 (omega arith) additional;
      period = numbered zs 35 31 (omega arith) period;
      day = numbered zs 30 1461 (omega arith) day;
      hour = numbered zs 6 23 (omega arith) hour;
      minute = numbered zs 7 59 (omega arith) minute;
      half = numbered zs 8 1 (omega arith) half;
      quarter = numbered zs 11 95 (omega arith) quarter;
      range = record {
        period = period.few;
        hour = hour.few;
        minute = minute.few;
        half = half.few;
        quarter = quarter.few;
      };
    }

-- ---- weeks

-- what the test of a clock of weeks says
pub record IsGoodClock (c : WeekClock) : Type 0 where
  pub rule : is_week_rule c.rule ≡ true
  pub zero : c.zero ≤ c.rule.zero
  pub step : 1 ≤ c.step
  pub most : c.step ≤ 604800
  pub bits : c.rule.bits ≤ 13
  pub late : c.rule.zero ≤ 7000
  pub some : 1 ≤ first_week c.rule 1024

pub good_clock : (c : WeekClock) → is_week_clock c ≡ true → IsGoodClock c
good_clock c e =
    let z = both (is_week_rule c.rule && nat_le c.zero c.rule.zero && nat_le 1 c.step)
    (nat_le c.step 604800) e in
    let a = both (is_week_rule c.rule && nat_le c.zero c.rule.zero) (nat_le 1 c.step) z.0 in
    let b = both (is_week_rule c.rule) (nat_le c.zero c.rule.zero) a.0 in
    let r = both (nat_le 1 c.rule.bits && nat_le c.rule.bits 13 && nat_le c.rule.zero 7000)
    (nat_le 1 (first_week c.rule 1024)) b.0 in
    let s = both (nat_le 1 c.rule.bits && nat_le c.rule.bits 13) (nat_le c.rule.zero 7000) r.0 in
    let t = both (nat_le 1 c.rule.bits) (nat_le c.rule.bits 13) s.0 in
    record {
      rule = b.0;
      zero = leb-true c.zero c.rule.zero b.1;
      step = leb-true 1 c.step a.1;
      most = leb-true c.step 604800 z.1;
      bits = leb-true c.rule.bits 13 t.1;
      late = leb-true c.rule.zero 7000 s.1;
      some = leb-true 1 (first_week c.rule 1024) r.1;
    }

-- the clock of a table with weeks
pub clock_of : (c : WeekClock) (fs : List TableField) → has_week c fs ≡ true → IsGoodClock c
clock_of c fs e =
    let last = 604799 / c.step in
    let weeks = 2 ^ c.rule.bits - 1 in
    let a = both (is_week_clock c && is_within fs c.week weeks && is_within fs c.toe last)
    (is_within fs c.toc last) e in
    let b = both (is_week_clock c && is_within fs c.week weeks) (is_within fs c.toe last) a.0 in
    good_clock c (both (is_week_clock c) (is_within fs c.week weeks) b.0).0

-- a time of week in units of some seconds
second_is : (step n : ℕ) → n ≤ 604799 / step → step * n < 604800
second_is step n few =
    let more : step * n ≤ step * (604799 / step) = mul-le-mul (omega arith) few in
    let most = mul-div-le 604799 step in
    omega arith

week_is : (c : WeekClock) (fs : List TableField) (zs : List ℤ) → has_week c fs ≡ true
    → AreInRange fs zs → (is_week_clock c ≡ true) × HasWeek c zs
week_is c fs zs e h =
    let last = 604799 / c.step in
    let weeks = 2 ^ c.rule.bits - 1 in
    let a = both (is_week_clock c && is_within fs c.week weeks && is_within fs c.toe last)
    (is_within fs c.toc last) e in
    let b = both (is_week_clock c && is_within fs c.week weeks) (is_within fs c.toe last) a.0 in
    let d = both (is_week_clock c) (is_within fs c.week weeks) b.0 in
    let g = good_clock c d.0 in
    let some : 0 < 2 ^ c.rule.bits = pow_pos c.rule.bits in
    let most : 2 ^ c.rule.bits ≤ 2 ^ 13 = pow-le-pow_right (omega arith) g.bits in
    let short : last ≤ 604799 = div-le_self 604799 c.step in
    let week = below fs zs c.week weeks d.1 h in
    let toe = below fs zs c.toe last b.1 h in
    let toc = below fs zs c.toc last a.1 h in (
      d.0,
      record {
        week = numbered zs c.week weeks (omega arith) week;
        toe = numbered zs c.toe last short toe;
        toc = numbered zs c.toc last short toc;
        week_to = omega (arith, some, week.few);
        toe_to = second_is c.step (number zs c.toe) toe.few;
        toc_to = second_is c.step (number zs c.toc) toc.few;
      },
    )

pub times_are : (clock : Clock) (fs : List TableField) (zs : List ℤ) → has_times clock fs ≡ true
    → AreInRange fs zs → HasTimes clock zs
times_are Frame fs zs e h = frame_is fs zs e h
times_are (Weeks c) fs zs e h = week_is c fs zs e h
times_are (Daily step) fs zs e h = tt
