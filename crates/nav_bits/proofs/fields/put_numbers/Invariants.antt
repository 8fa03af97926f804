use Rattle.std.proofs.Common.{drop}
use Rattle.nav_bits.proofs.PutFields.{ArePut}
use Rattle.nav_bits.proofs.fields.put_numbers.Given as goal

abbrev pub invariant-loop-field : goal.invariant-loop-field
invariant-loop-field l = ArePut l.initial.bytes l.bytes l.at l.place l.fields (drop l.field-index l.fields)
