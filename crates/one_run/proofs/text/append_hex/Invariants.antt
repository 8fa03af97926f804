use Rattle.std.proofs.Common.{◌≡◌, ◌+◌, ◌≤◌, ◌++◌}
use Rattle.arrayvec.specs.ArrayVec.{array_vec_len}
use Rattle.one_run.specs.Texts.{hex_digits}
use Rattle.one_run.proofs.text.append_hex.Given as goal

abbrev pub invariant-loop-left : goal.invariant-loop-left
invariant-loop-left l = record {
  within : l.left ≤ l.count;
  items : l.text.items ++ hex_digits l.left l.number ≡ l.fn.text.items ++ hex_digits l.count l.number;
  len : array_vec_len l.text + l.left ≡ array_vec_len l.fn.text + l.count;
}

abbrev pub decreases-loop-left : goal.decreases-loop-left
decreases-loop-left l = l.left
