use Rattle.nav_lists.proofs.RankedLemmas.{is_ranked, ranked_only, ranked_set, ranked_again}
use Rattle.nav_lists.proofs.ranked_laws.ranking.Goals as goal

pub returns-clause-are : goal.returns-clause-are
returns-clause-are g c = is_ranked g.K.Ord.cmp g.K.Ranked.choice g.met.K.Ord.total g.met.K.Ranked.choice_total

pub returns-clause-only : goal.returns-clause-only
returns-clause-only g c = ranked_only g.K.Ord.cmp g.K.Ranked.choice g.met.K.Ord.total g.met.K.Ranked.choice_total

pub returns-clause-set : goal.returns-clause-set
returns-clause-set g c = ranked_set g.K.Ord.cmp g.K.Ranked.choice g.met.K.Ord.total g.met.K.Ranked.choice_total

pub returns-clause-again : goal.returns-clause-again
returns-clause-again g c = ranked_again g.K.Ord.cmp g.K.Ranked.choice g.met.K.Ord.total g.met.K.Ranked.choice_total
