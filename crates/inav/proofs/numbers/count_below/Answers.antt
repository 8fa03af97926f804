use Rattle.std.proofs.Common.{arith}
use Rattle.std.proofs.lemmas.List.Sorted.{searched}
use Rattle.std.specs.Prelude.{Err}
use Rattle.inav.proofs.Ascending.{not_falling}
use Rattle.inav.proofs.numbers.count_below.Goals as goal

pub returns-in-Err-clause-below : goal.returns-in-Err-clause-below
returns-in-Err-clause-below c =
    (searched c.args.numbers.now c.args.first (Err c.in-Err.place) c.in-Err.ensures.position (not_falling c.args.numbers.now c.requires)).1

pub returns-in-Err-clause-above : goal.returns-in-Err-clause-above
returns-in-Err-clause-above c =
    let above = (searched c.args.numbers.now c.args.first (Err c.in-Err.place) c.in-Err.ensures.position (not_falling c.args.numbers.now c.requires)).2 in
    λ k low high. let less = above k low high in omega (arith, less)
