use Rattle.std.proofs.Common.{Contains, ◌++◌}
use Rattle.periods.proofs.Surface.{later_parts}
use Rattle.nav_laws.proofs.DueLemmas.{old_far}
use Rattle.nav_laws.proofs.far.old_is_far.Goals as goal

pub returns : goal.returns
returns c = λ w watermark parts later last q s none from h after far. old_far w watermark (Contains parts) (Contains (parts ++ later)) last q s (later_parts watermark parts later from) none h after far
