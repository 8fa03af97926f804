-- Running sums stay right when more bytes come.
use Rattle.std.proofs.Common.{ℕ, ◌+◌, ◌%◌, List, ◌++◌, get_or, sym, ap, ◌∙◌}
use Rattle.std.proofs.Common.{arith, length-append}
use Rattle.std.proofs.lemmas.List.{get_or_append_left}
use Rattle.framing.specs.UbxSums.{AreSums}

pub sums_stay : (xs ys sums runs : List ℕ) → AreSums xs sums runs → AreSums (xs ++ ys) sums runs
sums_stay xs ys sums runs are = record {
  some = are.some;
  most = omega (arith, length-append xs ys, are.most);
  same = are.same;
  sum_steps = λ i less. are.sum_steps i less
      ∙ ap (λ n. (get_or sums i 0 + n) % 256)
      (sym (get_or_append_left xs ys 0 i (omega (arith, are.most))));
  run_steps = are.run_steps;
}
