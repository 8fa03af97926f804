use Rattle.std.proofs.Common.{◌++◌, ◌+◌, ◌<◌}
use Rattle.std.proofs.lemmas.List.Elements.{All-contains}
use Rattle.periods.proofs.ExistLemmas.{all_values, later_parts, closed_of-later, closed_of-rise, closed_of-prefix, closed_of-all}
use Rattle.periods.proofs.laws.closed_stays.Goals as goal

pub returns : goal.returns
returns c = record {
  later = λ r w watermark parts later all from. closed_of-later r w watermark parts later (all_values (parts ++ later) all) (later_parts watermark parts later from);
  rise = λ r w watermark higher parts l. closed_of-rise r w watermark higher parts l;
  prefix = λ r w watermark parts. closed_of-prefix r w watermark parts;
  all = λ r w watermark parts low. closed_of-all r w watermark parts (λ p i. All-contains (λ x. x.stamp + w < watermark) parts p low i);
}
