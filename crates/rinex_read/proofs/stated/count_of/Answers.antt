use Rattle.std.proofs.Common.{ℕ, ◌≤◌, List, length, sym, subst}
use Rattle.rinex_read.proofs.TakenLemmas.{some_rows}
use Rattle.rinex_read.proofs.stated.count_of.Goals as goal

pub returns-clause-some : goal.returns-clause-some
returns-clause-some c = subst (λ (ns : List ℕ). 1 ≤ length ns) (sym c.layout_of.ensures.rows) (some_rows c.args.kind)
