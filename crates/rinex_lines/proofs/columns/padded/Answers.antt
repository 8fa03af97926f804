use Rattle.std.proofs.Common.{◌++◌, ◌∙◌, ℕ, List, ap, drop, take, replicate}
use Rattle.std.proofs.lemmas.List.{take_min}
use Rattle.rinex_lines.proofs.columns.padded.Goals as goal

pub returns : goal.returns
returns c =
    let line : List ℕ = c.args.line.now in
    ap (λ (l : List ℕ). l ++ drop c.min-count.result (replicate 80 32))
    (c.copy_from_slice.ensures.after ∙ ap (λ (k : ℕ). take k line) c.min-count.ensures ∙ take_min 80 line)
    ∙ ap (λ (k : ℕ). take 80 line ++ drop k (replicate 80 32)) c.min-count.ensures
