use Rattle.periods.proofs.ExistLemmas.{all_values, periods_of-are, periods_of-only, closed_of-are, closed_of-only}
use Rattle.periods.proofs.laws.periods_are.Goals as goal

pub returns : goal.returns
returns c = record {
  are = λ r w parts all. periods_of-are r w parts (all_values parts all);
  only = λ r w parts xs all h. periods_of-only r w parts xs (all_values parts all) h;
  closed = λ r w watermark parts all. closed_of-are r w watermark parts (all_values parts all);
  only_closed = λ r w watermark parts xs all h. closed_of-only r w watermark parts xs (all_values parts all) h;
}
