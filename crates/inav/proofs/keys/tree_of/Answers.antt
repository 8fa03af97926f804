use Rattle.std.proofs.Common.{ℕ, ◌↔◌, List, map, subst, arith}
use Rattle.std.proofs.lemmas.List.{take_all}
use Rattle.std.specs.Prelude.{Contains}
use Rattle.inav.specs.Mirrors.{key_at}
use Rattle.inav.proofs.Shown.{tree_more}
use Rattle.inav.proofs.keys.tree_of.Goals as goal

pub loop-number-preserved : goal.loop-number-preserved
loop-number-preserved c =
    let room = c.in_ok-put_key.ensures.room in
    let before = c.loop-number.invariant.1 in (
      tree_more c.args.stamp c.args.numbers.now c.loop-number.number-index c.loop-number.keys.keys c.put_key.new.keys.keys c.key_of.result
          c.loop-number-test.true c.key_of.ensures c.loop-number.invariant.0 c.in_ok-put_key.ensures.keys,
      omega (arith, room, before),
    )

pub returns-clause-keys : goal.returns-clause-keys
returns-clause-keys c = λ key.
    let P : List ℕ → Type 0 = λ xs. Contains c.loop-number.keys.keys key ↔ Contains (map (key_at c.args.stamp) xs) key in
    subst P (take_all c.loop-number.number-index c.args.numbers.now c.loop-number-test.false) (c.loop-number.invariant.0 key)
