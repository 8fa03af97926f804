use Rattle.std.proofs.Common.{◌≡◌, ◌+◌, ◌-◌, ◌*◌, ◌/◌, ap, get_or, ◌∙◌, arith}
use Rattle.framing.specs.SbfRegister.{shift}
use Rattle.framing.proofs.SbfCrcSteps.{right_by}
use Rattle.framing.proofs.sbf_states.has_right_crc_by.Goals as goal

pub returns : goal.returns
returns c =
    let count : 32 * (c.args.size / 4 - 1) ≡ 8 * (c.args.size - 4) =
    omega (arith, c.requires.fours, c.requires.shortest) in
    let moved : c.moved_by.result ≡ shift (8 * (c.args.size - 4))
    (get_or c.args.states.now (c.args.place + 4) 0) =
    c.moved_by.ensures (32 * (c.args.size / 4 - 1)) c.power.ensures.value
    ∙ ap (λ n. shift n c.from-before.result) count
    ∙ ap (shift (8 * (c.args.size - 4))) c.from-before.ensures in
    rw (c.from-after.ensures, c.from.ensures, c.from-2.ensures)
    (right_by c.args.bytes.now c.args.states.now c.requires.states c.args.place c.args.size
    c.moved_by.result c.requires.shortest c.requires.inside c.requires.reached moved)
