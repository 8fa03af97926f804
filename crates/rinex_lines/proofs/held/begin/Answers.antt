use Rattle.std.proofs.Common.{◌≡◌, ◌++◌, ◌-◌, ◌∙◌, ℕ, List, ap, arith, drop, length, take}
use Rattle.std.proofs.lemmas.List.{take_rest}
use Rattle.nav_io.specs.Lines.{ends}
use Rattle.rinex_lines.proofs.Cuts.{ends_append, ends_take, filled}
use Rattle.rinex_lines.proofs.held.begin.Goals as goal

pub returns-clause-items : goal.returns-clause-items
returns-clause-items c =
    let rest : List ℕ = drop c.args.start c.args.bytes.now in
    let all : take (length c.args.bytes.now - c.args.start) rest ≡ rest = take_rest c.args.bytes.now c.args.start in
    c.append.ensures.items ∙ ap (λ (l : List ℕ). c.args.begun.now.items ++ take c.min.result l) all
    ∙ filled 81 c.min.result c.args.begun.now.items rest (omega (arith, c.len-room.ensures.value, c.len-room.ensures.fits))
    (omega (arith, c.min.ensures, c.len-room.ensures.value, ap length all))

pub returns-clause-plain : goal.returns-clause-plain
returns-clause-plain c =
    let rest : List ℕ = drop c.args.start c.args.bytes.now in
    ap ends (returns-clause-items c)
    ∙ ends_take 81 (c.args.begun.now.items ++ rest) (ends_append c.args.begun.now.items rest c.requires.plain c.requires.none)
