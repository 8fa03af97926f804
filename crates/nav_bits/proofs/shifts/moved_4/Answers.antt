use Rattle.std.proofs.Common.{◌<◌, ◌^◌, subst, sym}
use Rattle.nav_bits.proofs.LookupLemmas.{four_places}
use Rattle.nav_bits.proofs.RegisterLaws.{shift-lt}
use Rattle.nav_bits.proofs.shifts.moved_4.Goals as goal

pub returns-clause-value : goal.returns-clause-value
returns-clause-value c = four_places c.args.state c.moved_8.result c.requires c.moved_8.ensures

pub returns-clause-fits : goal.returns-clause-fits
returns-clause-fits c =
    subst (λ n. n < 2 ^ 24) (sym (four_places c.args.state c.moved_8.result c.requires c.moved_8.ensures)) (shift-lt 4 c.args.state c.requires)
