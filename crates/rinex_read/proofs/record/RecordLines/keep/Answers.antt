use Rattle.std.proofs.Common.{◌≡◌, ℕ, ◌+◌, List, map, set, take, sym, subst, add-one, arith}
use Rattle.rinex_read.specs.Kept.{padded}
use Rattle.rinex_read.proofs.AlikeLemmas.{kept_more}
use Rattle.rinex_read.proofs.record.RecordLines.keep.Goals as goal

pub invariant_of-self : goal.invariant_of-self
invariant_of-self c =
    let n = c.self.inside.count in
    let xs = c.self.inside.lines in
    let all = kept_more n xs c.args.line.now (omega (arith, c.self.told, c.if-self-lt18.true)) c.self.invariant.1 in (
      omega (arith, c.if-self-lt18.true),
      subst (λ (k : List ℕ). map padded (take (n + 1) (set xs n k)) ≡ take (n + 1) (set xs n k)) (sym c.padded.ensures)
          (subst (λ (m : ℕ). map padded (take m (set xs n (padded c.args.line.now))) ≡ take m (set xs n (padded c.args.line.now))) (sym (add-one n)) all),
    )
