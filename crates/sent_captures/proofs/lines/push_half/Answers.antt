use Rattle.std.proofs.Common.{◌+◌, ◌++◌, length, ap, ◌∙◌, arith}
use Rattle.nav_eph.specs.declared.signal.Signal.TheVariants.{E1b}
use Rattle.capture_lines.specs.Texts.{half_text}
use Rattle.sent_captures.specs.Slots.{half_item}
use Rattle.sent_captures.proofs.Lengths.{half_short}
use Rattle.sent_captures.proofs.lines.push_half.Goals as goal

pub push_line-requires : goal.push_line-requires
push_line-requires c =
    let short = half_short c.args.stamp c.args.sat E1b c.write_half-bits.result c.ranges.stamp.fits c.are_bytes.ensures.count_is in
    let size = ap length c.write_half_line.ensures.text in
    omega (arith, short, size, c.requires.room)

pub returns-clause-text : goal.returns-clause-text
unfolding half_item
returns-clause-text c =
    c.push_line.ensures.text
    ∙ ap (λ t. c.args.text.now.items ++ t) (c.write_half_line.ensures.text ∙ ap (half_text c.args.stamp c.args.sat E1b) c.write_half-bits.ensures.bytes)

pub returns-clause-len : goal.returns-clause-len
returns-clause-len c =
    let short = half_short c.args.stamp c.args.sat E1b c.write_half-bits.result c.ranges.stamp.fits c.are_bytes.ensures.count_is in
    let size = ap length c.write_half_line.ensures.text in
    omega (arith, short, size, c.push_line.ensures.len)
