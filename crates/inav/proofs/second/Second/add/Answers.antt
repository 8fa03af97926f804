use Rattle.std.proofs.Common.{◌≡◌, ℕ, ◌⊎◌, ◌↔◌, List, [], length, map, ap, subst, ◌∙◌, sym, ⊎_elim}
use Rattle.std.proofs.lemmas.Result.{IfOk-weaker}
use Rattle.std.specs.Prelude.{Contains, IfOk, IsTrue, OnOk}
use Rattle.inav.specs.Mirrors.{key_at, keys_shown, KeysOfSecond}
use Rattle.inav.proofs.Shown.{add_few, add_many, none_of_length, spilled, spilled_there, there_few}
use Rattle.inav.proofs.Taking.{on_ok_then}
use Rattle.inav.proofs.second.Second.add.Goals as goal

pub returns-then-len-ne0-clause-keys : goal.returns-then-len-ne0-clause-keys
returns-then-len-ne0-clause-keys c =
    let stamp = c.self.inside.stamp in
    let few = c.self.inside.few.items in
    let many = c.self.inside.many.keys in
    let none : few ≡ [] =
    ⊎_elim
    (λ (e : few ≡ []). e)
    (λ (e : many ≡ []). absurd (c.if-len-ne0.true (c.len.ensures.len ∙ ap length e)))
    c.self.invariant.1 in
    let P : KeysOfSecond → Type 0 = λ v. OnOk c.put_key.result
    ((other : ℕ × ℕ) → Contains (keys_shown stamp few c.put_key.new.keys.keys) other ↔ (Contains v.keys other ⊎ (key_at v.stamp c.args.number ≡ other))) in
    subst P c.self.view_is
    (on_ok_then c.put_key.result _ _
    (λ got. add_many stamp few many c.put_key.new.keys.keys c.key_of.result c.args.number none c.key_of.ensures got)
    c.put_key.ensures.keys)

pub returns-then-len-lt-FEW-clause-there : goal.returns-then-len-lt-FEW-clause-there
returns-then-len-lt-FEW-clause-there c =
    let stamp = c.self.inside.stamp in
    let few = c.self.inside.few.items in
    let many = c.self.inside.many.keys in
    let none = none_of_length many (sym c.len.ensures.len ∙ c.if-len-ne0.false) in
    let P : KeysOfSecond → Type 0 = λ v. IfOk c.put_number.result (λ there. IsTrue there ↔ Contains v.keys (key_at v.stamp c.args.number)) in
    subst P c.self.view_is
    (IfOk-weaker c.put_number.result (λ there. IsTrue there ↔ Contains few c.args.number)
    (λ there. IsTrue there ↔ Contains (keys_shown stamp few many) (key_at stamp c.args.number))
    (λ there is. there_few stamp few many c.args.number there none is) c.put_number.ensures.there)

pub returns-then-len-lt-FEW-clause-keys : goal.returns-then-len-lt-FEW-clause-keys
returns-then-len-lt-FEW-clause-keys c =
    let stamp = c.self.inside.stamp in
    let few = c.self.inside.few.items in
    let many = c.self.inside.many.keys in
    let P : KeysOfSecond → Type 0 = λ v. OnOk c.put_number.result
    ((other : ℕ × ℕ) → Contains (keys_shown stamp c.put_number.new.numbers.items many) other ↔ (Contains v.keys other ⊎ (key_at v.stamp c.args.number ≡ other))) in
    subst P c.self.view_is
    (on_ok_then c.put_number.result _ _
    (λ got. add_few stamp few c.put_number.new.numbers.items many c.args.number got)
    c.put_number.ensures.numbers)

pub returns-clause-there : goal.returns-clause-there
returns-clause-there c =
    let stamp = c.self.inside.stamp in
    let few = c.self.inside.few.items in
    let many = c.self.inside.many.keys in
    let none = none_of_length many (sym c.len.ensures.len ∙ c.if-len-ne0.false) in
    let tree = c.in_ok-keys.keys.keys in
    let Are : List ℕ → Type 0 = λ numbers. (key : ℕ × ℕ) → Contains tree key ↔ Contains (map (key_at stamp) numbers) key in
    let P : KeysOfSecond → Type 0 = λ v. IsTrue c.in_ok-there.there ↔ Contains v.keys (key_at v.stamp c.args.number) in
    subst P c.self.view_is
    (spilled_there stamp few many tree c.key_of-2.result c.args.number c.in_ok-there.there none c.key_of-2.ensures
    (subst Are c.deref.ensures.value c.in_ok-keys.ensures.keys) c.in_ok-there.ensures.there)

pub returns-clause-keys : goal.returns-clause-keys
returns-clause-keys c =
    let stamp = c.self.inside.stamp in
    let few = c.self.inside.few.items in
    let many = c.self.inside.many.keys in
    let none = none_of_length many (sym c.len.ensures.len ∙ c.if-len-ne0.false) in
    let tree = c.in_ok-keys.keys.keys in
    let new = c.put_key-2.new.keys.keys in
    let Are : List ℕ → Type 0 = λ numbers. (key : ℕ × ℕ) → Contains tree key ↔ Contains (map (key_at stamp) numbers) key in
    let P : KeysOfSecond → Type 0 = λ v.
    (other : ℕ × ℕ) → Contains (keys_shown stamp c.new.result.items new) other ↔ (Contains v.keys other ⊎ (key_at v.stamp c.args.number ≡ other)) in
    subst P c.self.view_is
    (spilled stamp few many tree c.new.result.items new c.key_of-2.result c.args.number none c.new.ensures.items c.key_of-2.ensures
    (subst Are c.deref.ensures.value c.in_ok-keys.ensures.keys) c.in_ok-there.ensures.keys)
