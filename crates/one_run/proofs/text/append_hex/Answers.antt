use Rattle.std.proofs.Common.{◌≡◌, ℕ, List, [], ◌∷◌, ◌-◌, ◌++◌, sym, ap, ◌∙◌, append-nil, arith}
use Rattle.one_run.specs.Texts.{hex_digits}
use Rattle.one_run.proofs.Digits.{hex_digits-none, hex_digits_one}
use Rattle.one_run.proofs.text.append_hex.Goals as goal

pub loop-left-preserved : goal.loop-left-preserved
loop-left-preserved c = record {
  within = omega (arith, c.loop-left.invariant.within);
  items =
      ap (λ (l : List ℕ). l ++ hex_digits (c.loop-left.left - 1) c.args.number)
      (c.append.ensures.items ∙ ap (λ (digit : ℕ). c.loop-left.text.items ++ digit ∷ []) c.hex_digit.ensures)
      ∙ hex_digits_one c.loop-left.text.items c.loop-left.left c.args.number c.loop-left-test.true ∙ c.loop-left.invariant.items;
  len = omega (arith, c.loop-left.invariant.len, c.append.ensures.len);
}

pub returns-clause-items : goal.returns-clause-items
returns-clause-items c =
    let none : c.loop-left.left ≡ 0 = omega (arith, c.loop-left-test.false) in
    sym (append-nil c.loop-left.text.items) ∙ ap (λ (l : List ℕ). c.loop-left.text.items ++ l) (sym (hex_digits-none c.args.number c.loop-left.left none)) ∙ c.loop-left.invariant.items
