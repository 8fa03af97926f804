-- CRC registers stay right when more bytes come.
use Rattle.std.proofs.Common.{ℕ, List, ◌++◌, get_or, sym, ap, ◌∙◌}
use Rattle.std.proofs.Common.{arith, length-append}
use Rattle.std.proofs.lemmas.List.{get_or_append_left}
use Rattle.framing.specs.SbfRegister.{with_byte_of}
use Rattle.framing.specs.SbfStates.{AreStates}

pub states_stay : (xs ys states : List ℕ) → AreStates xs states → AreStates (xs ++ ys) states
states_stay xs ys states are = record {
  some = are.some;
  most = omega (arith, length-append xs ys, are.most);
  first = are.first;
  steps = λ i less.
      are.steps i less ∙ ap (with_byte_of (get_or states i 0))
      (sym (get_or_append_left xs ys 0 i (omega (arith, are.most))));
}
