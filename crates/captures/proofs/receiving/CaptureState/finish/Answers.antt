use Rattle.std.proofs.Common.{◌+◌, ◌≤◌, length, refl, arith}
use Rattle.capture_log.specs.Log.{watermark_after}
use Rattle.captures.proofs.Prefixes.{LogLaws}
use Rattle.captures.proofs.Steps.{last_watermark, stands_counted, stands_stood, wrote_all}
use Rattle.captures.proofs.receiving.CaptureState.finish.Goals as goal

pub write_closed-requires : goal.write_closed-requires
write_closed-requires g c =
    let n = c.requires in
    let low : watermark_after n.head.window n.lines ≤ last_watermark = omega (arith, n.stands.counted.greatest_is) in
    record {
      stood = stands_stood c.args.to.now n.head _ last_watermark n.lines c.args.self.now _ _ _ _ n.stands low;
      room = stands_counted c.args.to.now n.head _ last_watermark (1 + length n.lines) n.lines c.args.self.now _ _ _ _ n.stands low refl n.few;
    }

pub returns : goal.returns
returns g c head lines start told reported s =
    let laws : LogLaws = record { later = c.what_is_closed_stays.ensures.later; rise = c.what_is_closed_stays.ensures.rise; prefix = c.what_is_closed_stays.ensures.prefix; values = c.parts_of_lines_are_values.ensures } in
    let low : watermark_after head.window lines ≤ last_watermark = omega (arith, s.counted.greatest_is) in
    wrote_all laws c.args.to.now head lines c.args.self.now c.write_closed.new.assembly c.write_closed.new.said start _ _ told reported _ _ c.write_closed.result
    s low c.write_closed.ensures.ok c.write_closed.ensures.err c.write_closed.ensures.cause
