use Rattle.std.proofs.Common.{◌≡◌, ℕ, List, [], ◌∷◌, length, refl, ap, arith}
use Rattle.rinex_read.specs.declared.judged.Judged.TheVariants as judgments
use Rattle.rinex_read.specs.Judging.{judged}
use Rattle.rinex_read.proofs.record.RecordLines.judge.Goals as goal

none : (ls : List (List ℕ)) → length ls ≡ 0 → judgments.PassedOver ≡ judged ls
unfolding judged
none [] h = refl
none (l ∷ ls) h = absurd (omega arith)

pub returns-in-empty : goal.returns-in-empty
returns-in-empty c =
    let few : length c.args.self.now ≡ 0 = omega (arith, ap length c.self.view_is, c.in-empty.len_below) in
    none c.args.self.now few
