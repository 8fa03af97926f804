use Rattle.std.proofs.Common.{◌≡◌, [], length, take, drop, arith, ap, length-drop, ◌∙◌, sym}
use Rattle.std.proofs.lemmas.List.{drop_all}
use Rattle.whole_file.proofs.Known.{behind, again}
use Rattle.whole_file.proofs.peeked.PeekedSource.read.Goals as goal

pub returns-then-self-len-clause-bytes : goal.returns-then-self-len-clause-bytes
returns-then-self-len-clause-bytes g c =
    let none : drop c.args.self.now.place c.args.self.now.prefix.items ≡ [] = drop_all c.args.self.now.place c.args.self.now.prefix.items (omega arith) in
    behind _ _ _ _ _ none c.read.ensures.bytes

pub returns-clause-bytes : goal.returns-clause-bytes
returns-clause-bytes g c = (
  again _ c.args.self.now.prefix.items _ c.args.self.now.place _ (c.give-count.ensures.bytes ∙ ap (take c.give-count.result) c.kept.ensures),
  λ zero room. absurd (omega (arith, simp length-drop at (ap length (sym c.kept.ensures ∙ c.give-count.ensures.end zero room)))),
)
