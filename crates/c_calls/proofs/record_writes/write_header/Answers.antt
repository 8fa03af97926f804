use Rattle.std.proofs.Common.{◌∙◌, subst}
use Rattle.raw_values.specs.Rooms.{StandsIn}
use Rattle.c_calls.proofs.SameHeader.{stands_too}
use Rattle.c_calls.proofs.record_writes.write_header.Goals as goal

pub returns-in-Some-clause-written : goal.returns-in-Some-clause-written
returns-in-Some-clause-written c = λ version words is said.
    stands_too c.args.version c.args.header.now c.in-Some.words words c.args.into.now c.put.new.into c.put.result c.in-Some.ensures.same said
    (subst (StandsIn c.args.into.now c.put.new.into c.put.result) (c.bytes.ensures.bytes ∙ c.header_of.ensures) c.put.ensures)
