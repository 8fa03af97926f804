use Rattle.std.proofs.Common.{◌<◌, ◌^◌, subst, sym}
use Rattle.nav_bits.proofs.LookupLemmas.{one_place, one_place_back}
use Rattle.nav_bits.proofs.RegisterLaws.{stepped-lt}
use Rattle.nav_bits.proofs.shifts.moved_1.Goals as goal

pub returns-then-longer-clause-value : goal.returns-then-longer-clause-value
returns-then-longer-clause-value c = one_place c.args.state c.if-longer.true c.requires

pub returns-else-longer-clause-value : goal.returns-else-longer-clause-value
returns-else-longer-clause-value c = one_place_back c.args.state c.if-longer.false c.requires

pub returns-else-longer-clause-fits : goal.returns-else-longer-clause-fits
returns-else-longer-clause-fits c =
    subst (λ n. n < 2 ^ 24) (sym (one_place_back c.args.state c.if-longer.false c.requires)) (stepped-lt c.args.state c.requires)
