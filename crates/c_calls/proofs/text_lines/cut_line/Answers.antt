use Rattle.std.proofs.Common.{◌≡◌, ◌+◌, ◌-◌, List, ℕ, ◌∷◌, length, take, drop, sym, ap, ◌∙◌, arith, length-drop}
use Rattle.std.proofs.lemmas.List.{take_all}
use Rattle.rinex_read.specs.Lines.{lines_of}
use Rattle.c_calls.proofs.LinesOfText.{line_first}
use Rattle.c_calls.proofs.text_lines.cut_line.Goals as goal

pub returns-in-Some : goal.returns-in-Some
returns-in-Some c =
    let text = c.args.text.now in
    let n = c.in-Some.end in
    let all : take (length text - (n + 1)) (drop (n + 1) text) ≡ drop (n + 1) text =
    take_all (length text - (n + 1)) (drop (n + 1) text) (omega (arith, length-drop (n + 1) text)) in
    line_first text c.without_end.result.now n c.in-Some.ensures.some c.without_end.ensures
    ∙ ap (λ (l : List ℕ). c.without_end.result.now ∷ lines_of l) (sym all)
