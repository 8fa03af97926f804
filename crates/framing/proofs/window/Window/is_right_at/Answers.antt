use Rattle.std.proofs.Common.{◌+◌, ◌≤◌, length, sym, ap, ◌∙◌, arith}
use Rattle.framing.proofs.StateLaws.{after_body, before-lt}
use Rattle.framing.proofs.window.Window.is_right_at.Goals as goal

pub has_right_checksum_by-requires-clause-before : goal.has_right_checksum_by-requires-clause-before
has_right_checksum_by-requires-clause-before c =
    before-lt c.as_slice-2.result.now c.extend.new.states.items c.as_slice-3.result.now c.extend.ensures.states c.as_slice-3.ensures.value c.args.place
    (omega (arith, c.extend.ensures.reaches))

pub has_right_checksum_by-requires-clause-after : goal.has_right_checksum_by-requires-clause-after
has_right_checksum_by-requires-clause-after c =
    let inside : c.args.place + c.args.size ≤ length c.as_slice-2.result.now = omega (arith, ap length c.as_slice-2.ensures.value, ap length c.self.view_is) in
    after_body c.as_slice-2.result.now c.extend.new.states.items c.as_slice-3.result.now c.as_slice-4.result.now c.as_slice-5.result.now
    c.extend.ensures.states c.as_slice-3.ensures.value c.as_slice-4.ensures.value (c.as_slice-5.ensures.value ∙ sym c.as_slice-2.ensures.value)
    c.args.place c.args.size c.requires.shortest inside (omega (arith, c.extend.ensures.reaches))
