use Rattle.std.proofs.Common.{◌≡◌, pos, ◌-ℤ◌, refl, arith, w32, to_z, of_z}
use Rattle.std.proofs.lemmas.Int.{ints}
use Rattle.rinex_lines.specs.Mirrors.{IsExponentRead}
use Rattle.rinex_lines.proofs.Spans.{below_power, reading_is}
use Rattle.rinex_lines.proofs.decimal.reading.Goals as goal

pub returns : goal.returns
returns c =
    let m = c.read_mantissa-mantissa in
    let e = c.in_ok-exponent.exponent in
    let known = c.in_ok-exponent.ensures in
    let within : IsExponentRead e = known.1 in
    let exponent : to_z w32 (of_z w32 (to_z w32 (of_z w32 e) -ℤ to_z w32 m.result.places)) ≡ e -ℤ pos m.result.places
    = omega (arith, ints, within.from, within.to, m.ensures.places) in (
      reading_is c.args.text.now _ e _ m.ensures.read c.if-mantissa-lt1.false c.if-mantissa-gt18.false known.0 exponent,
      record {
        below = below_power m.result.number m.result.count 18 m.ensures.number c.if-mantissa-gt18.false;
        from = omega (arith, ints, within.from, within.to, m.ensures.places);
        to = omega (arith, ints, within.from, within.to, m.ensures.places);
      },
      refl,
    )
