use Rattle.std.proofs.Common.{◌≡◌, ℕ, ◌⊎◌, ◌↔◌, List, ap, subst, ◌∙◌, sym}
use Rattle.std.specs.Prelude.{Contains, OnOk}
use Rattle.inav.specs.Mirrors.{key_at, KeysOfSecond}
use Rattle.inav.proofs.Placing.{of_same}
use Rattle.inav.proofs.second.Second.put.Goals as goal

pub returns-then-self-stamp-clause-keys : goal.returns-then-self-stamp-clause-keys
returns-then-self-stamp-clause-keys c =
    let old = c.args.self.now in
    let new = c.add.new.self.keys in
    let same : old.stamp ≡ c.args.stamp = sym (ap (λ (v : KeysOfSecond). v.stamp) c.self.view_is) ∙ c.if-self-stamp.true in
    let P : ℕ → Type 0 = λ stamp. OnOk c.add.result
    ((other : ℕ × ℕ) → Contains new other ↔ (Contains old.keys other ⊎ (key_at stamp c.args.number ≡ other))) in
    let Q : List (ℕ × ℕ) → Type 0 = λ keys. OnOk c.add.result
    ((other : ℕ × ℕ) → Contains new other ↔ (Contains keys other ⊎ (key_at c.args.stamp c.args.number ≡ other))) in
    subst Q (sym (of_same c.args.stamp old same)) (subst P same c.add.ensures.keys)
