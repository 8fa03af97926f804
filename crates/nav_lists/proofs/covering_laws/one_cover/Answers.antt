use Rattle.std.proofs.Common.{◌⊎◌}
use Rattle.nav_lists.specs.Covering.{CoversSecond, IsIn}
use Rattle.nav_lists.proofs.CoverLemmas.{one_cover}
use Rattle.nav_lists.proofs.covering_laws.one_cover.Goals as goal

pub returns : goal.returns
returns c = λ old xs ys item h k. one_cover (λ sat m. IsIn old sat m ⊎ CoversSecond item sat m) xs ys h k
