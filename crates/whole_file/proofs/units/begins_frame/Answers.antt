use Rattle.std.proofs.Common.{ap, arith, refl, sym, nat_lt}
use Rattle.std.proofs.lemmas.Bool.{false≢true}
use Rattle.whole_file.proofs.FrameForms.{held_none, held_whole, size_few, size_long, size_other}
use Rattle.whole_file.proofs.units.begins_frame.Goals as goal

pub returns-then-bytes-lt3 : goal.returns-then-bytes-lt3
returns-then-bytes-lt3 c = sym (ap (nat_lt 0) (size_few c.args.bytes.now (omega arith)))

pub returns-then-bytes : goal.returns-then-bytes
returns-then-bytes c = sym (ap (nat_lt 0) (size_other c.args.bytes.now (omega arith) c.if-bytes.true))

pub returns-then-bytes-size : goal.returns-then-bytes-size
returns-then-bytes-size c =
    sym (ap (nat_lt 0) (size_long c.args.bytes.now (omega arith) c.if-bytes.false (omega (arith, c.size_reported-size.ensures, c.if-bytes-size.true))))

pub returns-in-Some : goal.returns-in-Some
returns-in-Some c =
    sym (held_whole c.args.bytes.now c.size_reported-size.result (omega arith) c.if-bytes.false c.size_reported-size.ensures (omega (arith, c.if-bytes-size.false))
    (c.in-Some.ensures.whole.0 refl))

pub returns-in-None : goal.returns-in-None
returns-in-None c =
    sym (held_none c.args.bytes.now c.size_reported-size.result (omega arith) c.if-bytes.false c.size_reported-size.ensures (omega (arith, c.if-bytes-size.false))
    (λ frame. false≢true (c.in-None.ensures.whole.1 frame)))
