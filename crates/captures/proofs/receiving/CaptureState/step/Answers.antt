use Rattle.std.proofs.Common.{◌≤◌, ◌∷◌, [], ◌++◌, sym, arith, length-append}
use Rattle.capture_log.specs.Log.{watermark_after}
use Rattle.captures.proofs.Prefixes.{LogLaws}
use Rattle.captures.proofs.Logs.{known_of}
use Rattle.captures.proofs.Steps.{broke_item, watermark_rises, stands_counted, stands_keeps, stands_open, stands_room, stands_stood, took_line, wrote_line}
use Rattle.captures.proofs.receiving.CaptureState.step.Goals as goal

pub item-requires-clause-open : goal.item-requires-clause-open
item-requires-clause-open g c = stands_open _ c.requires.next.head c.requires.next.lines c.args.self.now _ _ _ _ c.requires.next.stands

pub item-requires-clause-room : goal.item-requires-clause-room
item-requires-clause-room g c =
    stands_room _ c.requires.next.head c.args.number c.requires.next.lines c.args.self.now _ _ _ _ c.requires.next.stands c.requires.next.number_is (omega (arith, c.ranges.number.fits))

pub returns-in-Err : goal.returns-in-Err
returns-in-Err g c head lines line start told number item s =
    let laws : LogLaws = record { later = c.what_is_closed_stays.ensures.later; rise = c.what_is_closed_stays.ensures.rise; prefix = c.what_is_closed_stays.ensures.prefix; values = c.parts_of_lines_are_values.ensures } in
    broke_item laws c.args.to.now head c.args.number lines line c.args.item.now c.args.self.now start _ told _ _ _ _ _ c.in-Err.fault s number item
    (c.in-Err.ensures (known_of head.window lines) (sym s.counted.greatest_is) (stands_keeps _ head lines c.args.self.now _ _ _ _ s))

pub write_risen-requires : goal.write_risen-requires
write_risen-requires g c =
    let laws : LogLaws = record { later = c.what_is_closed_stays.ensures.later; rise = c.what_is_closed_stays.ensures.rise; prefix = c.what_is_closed_stays.ensures.prefix; values = c.parts_of_lines_are_values.ensures } in
    let n = c.requires.next in
    let taken =
    took_line laws c.args.to.now n.head c.args.number n.lines n.line c.args.item.now c.args.self.now c.item.new.self n.start (g.T.Sink.written c.args.output.now) n.told _ _ n.stands n.number_is n.item_is
    (c.in-Ok.ensures (known_of n.head.window n.lines) (sym n.stands.counted.greatest_is) (stands_keeps _ n.head n.lines c.args.self.now _ _ _ _ n.stands)).0 in
    let rises =
    watermark_rises c.args.to.now n.head c.watermark-before.result c.watermark-watermark.result n.lines n.line c.args.self.now c.item.new.self _ _ _ _ _ _ _ _ n.stands c.watermark-before.ensures taken c.watermark-watermark.ensures in
    let low : watermark_after n.head.window n.lines ≤ c.watermark-watermark.result = omega (arith, rises.0, rises.2) in
    record {
      low = rises.2;
      stood = stands_stood c.args.to.now n.head _ c.watermark-watermark.result (n.lines ++ n.line ∷ []) c.item.new.self _ _ _ _ taken low;
      room = stands_counted c.args.to.now n.head _ c.watermark-watermark.result c.args.number (n.lines ++ n.line ∷ []) c.item.new.self _ _ _ _ taken low
          (omega (arith, n.number_is, length-append n.lines (n.line ∷ []))) (omega (arith, c.ranges.number.fits));
    }

pub returns : goal.returns
returns g c head lines line start told number item s =
    let laws : LogLaws = record { later = c.what_is_closed_stays.ensures.later; rise = c.what_is_closed_stays.ensures.rise; prefix = c.what_is_closed_stays.ensures.prefix; values = c.parts_of_lines_are_values.ensures } in
    let took = c.in-Ok.ensures (known_of head.window lines) (sym s.counted.greatest_is) (stands_keeps _ head lines c.args.self.now _ _ _ _ s) in
    let taken = took_line laws c.args.to.now head c.args.number lines line c.args.item.now c.args.self.now c.item.new.self start _ told _ _ s number item took.0 in
    let rises =
    watermark_rises c.args.to.now head c.watermark-before.result c.watermark-watermark.result lines line c.args.self.now c.item.new.self _ _ _ _ _ _ _ _ s c.watermark-before.ensures taken c.watermark-watermark.ensures in
    wrote_line laws c.args.to.now head c.watermark-before.result c.watermark-watermark.result lines line c.item.new.self c.write_risen.new.assembly c.write_risen.new.said start _ _ told _ _ _ _ _ c.write_risen.result
    taken rises.0 rises.1 c.write_risen.ensures.reference c.write_risen.ensures.window c.write_risen.ensures.ok c.write_risen.ensures.err c.write_risen.ensures.cause took.1
