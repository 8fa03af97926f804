use Rattle.std.proofs.Common.{◌≡◌, ◌-◌, ◌∙◌, List, ℕ, false, length, take, drop, ap, subst, arith}
use Rattle.std.proofs.lemmas.List.{take_rest}
use Rattle.nav_io.specs.Lines.{ends}
use Rattle.nav_io.specs.Mirrors.{EndsAt}
use Rattle.nav_io.proofs.LineEnds.{EndsAt-behind, ends-behind}
use Rattle.nav_io.proofs.lines.Lines.end_behind.Goals as goal

-- the bytes that were searched
seen : (xs ys : List ℕ) (n : ℕ) → ys ≡ xs → take (length ys - n) (drop n ys) ≡ drop n xs
seen xs ys n e = take_rest ys n ∙ ap (drop n) e

pub returns-in-Some-clause-some : goal.returns-in-Some-clause-some
returns-in-Some-clause-some c =
    let e = seen c.args.self.now.rest c.rest.result.now c.args.looked c.rest.ensures in
    (EndsAt-behind c.args.self.now.rest c.args.looked c.in-Some.place c.requires.none (subst (λ (l : List ℕ). EndsAt l c.in-Some.place) e c.in-Some.ensures.some), omega arith)

pub returns-in-None-clause-none : goal.returns-in-None-clause-none
returns-in-None-clause-none c =
    let e = seen c.args.self.now.rest c.rest.result.now c.args.looked c.rest.ensures in
    ends-behind c.args.self.now.rest c.args.looked c.requires.none (subst (λ (l : List ℕ). ends l ≡ false) e c.in-None.ensures.none)
