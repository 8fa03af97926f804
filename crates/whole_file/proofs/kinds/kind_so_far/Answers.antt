use Rattle.std.proofs.Common.{◌++◌, arith, sym}
use Rattle.whole_file.proofs.FirstUnit.{same_head, told_by_head, told_so_far}
use Rattle.whole_file.proofs.kinds.kind_so_far.Goals as goal

pub returns-then-is_head-clause-kind : goal.returns-then-is_head-clause-kind
returns-then-is_head-clause-kind c = λ following.
    told_by_head (c.args.prefix.now ++ following) c.prefix_kind-head.result
    (same_head c.args.prefix.now following c.prefix_kind-head.result (omega arith) c.prefix_kind-head.ensures) (sym c.if-is_head.ensures)

pub returns-clause-kind : goal.returns-clause-kind
returns-clause-kind c =
    told_so_far c.args.prefix.now c.args.place.now c.find_unit-past.result.0 c.prefix_kind-head.result c.find_unit-past.result.1 (omega arith)
    c.requires.few c.prefix_kind-head.ensures (sym c.if-is_head.ensures) c.requires.past c.find_unit-past.ensures.passed c.find_unit-past.ensures.whole
