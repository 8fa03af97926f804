use Rattle.std.proofs.Common.{◌≡◌, ℕ, List, map, take, subst, ap, ◌∙◌, arith}
use Rattle.std.proofs.lemmas.List.{take_all}
use Rattle.rinex_read.specs.Kept.{padded}
use Rattle.rinex_read.proofs.record.RecordLines.are_kept.Goals as goal

pub returns : goal.returns
returns c =
    let kept = take c.self.inside.count c.self.inside.lines in
    subst (λ (ls : List (List ℕ)). map padded (take 18 ls) ≡ ls) c.self.view_is
    (ap (map padded) (take_all 18 kept (omega (arith, c.self.invariant.0))) ∙ c.self.invariant.1)
