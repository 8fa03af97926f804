use Rattle.std.proofs.Common.{◌≡◌, ℕ, ◌+◌, ◌^◌, ◌<◌, ◌≤◌, ◌↔◌, List, [], length, ap, subst, ◌∙◌, sym, ⊎_elim, arith}
use Rattle.std.proofs.lemmas.Result.{IfOk-weaker}
use Rattle.std.specs.Prelude.{Contains}
use Rattle.inav.specs.Pages.{kind_of}
use Rattle.inav.specs.Mirrors.{bucket_of, first_number, keys_shown, lane_of, place_of, remainder_of, words_in_bucket, words_of_numbers, AreKeys, AreWordsIn, KeysOfSecond}
use Rattle.inav.proofs.Partners.{words_in_tree}
use Rattle.inav.proofs.Shown.{none_of_length, shown_many, words_in_few}
use Rattle.inav.proofs.second.Second.words.Goals as goal

pub returns-then-len-eq0 : goal.returns-then-len-eq0
returns-then-len-eq0 c =
    let stamp = c.self.inside.stamp in
    let few = c.self.inside.few.items in
    let many = c.self.inside.many.keys in
    let half = c.args.half.now in
    let those = c.between.result.now in
    let first = c.first_other-first.result in
    let none = none_of_length many (sym c.len.ensures.len ∙ c.if-len-eq0.true) in
    let first_is : first ≡ first_number (lane_of c.args.number c.args.signal) (kind_of half) =
    c.first_other-first.ensures.same
    ∙ ap (λ lane. first_number lane c.kind.result) c.lane-lane.ensures.same
    ∙ ap (first_number (lane_of c.args.number c.args.signal)) c.kind.ensures in
    let Range : List ℕ → Type 0 = λ all. (q : ℕ) → Contains those q ↔ (Contains all q × (first ≤ q) × (q < first + 2 ^ 119)) in
    let Fewer : List ℕ → Type 0 = λ all. length those ≤ length all in
    let are : AreWordsIn (keys_shown stamp few many) (place_of stamp c.args.number c.args.signal) half (words_of_numbers (kind_of half) half those) =
    words_in_few stamp few those many c.args.number c.args.signal half first none first_is c.between.ensures.rises
    (subst Fewer c.deref.ensures.value c.between.ensures.fewer) (subst Range c.deref.ensures.value c.between.ensures.those) in
    let Are : KeysOfSecond → Type 0 = λ v. AreWordsIn v.keys (place_of v.stamp c.args.number c.args.signal) half (words_of_numbers (kind_of half) half those) in
    let seen : Are c.args.self.now = subst Are c.self.view_is are in
    let With : List (List ℕ) → Type 0 = AreWordsIn c.args.self.now.keys (place_of c.args.self.now.stamp c.args.number c.args.signal) half in
    IfOk-weaker c.words_among.result (λ words. words.items ≡ words_of_numbers (kind_of half) half those) (λ words. With words.items)
    (λ words is. subst With (sym is) seen) c.words_among.ensures

pub returns : goal.returns
returns c =
    let stamp = c.self.inside.stamp in
    let few = c.self.inside.few.items in
    let many = c.self.inside.many.keys in
    let half = c.args.half.now in
    let place = place_of stamp c.args.number c.args.signal in
    let none : few ≡ [] =
    ⊎_elim
    (λ (e : few ≡ []). e)
    (λ (e : many ≡ []). absurd (c.if-len-eq0.false (c.len.ensures.len ∙ ap length e)))
    c.self.invariant.1 in
    let shown : keys_shown stamp few many ≡ many = shown_many stamp few many none in
    let keys_are : AreKeys many =
    subst AreKeys (sym (ap (λ (v : KeysOfSecond). v.keys) c.self.view_is) ∙ shown) c.requires.keys in
    let remainder : c.remainder.result ≡ remainder_of half = c.remainder.ensures.same ∙ ap remainder_of c.number.ensures.same in
    let lane : c.lane-lane.result ≡ lane_of c.args.number c.args.signal = c.lane-lane.ensures.same in
    let bucket : c.bucket.result ≡ bucket_of place (remainder_of half) =
    let is = c.bucket.ensures.same in
    omega (arith, is, lane, remainder) in
    let tree : AreWordsIn many place half (words_in_bucket many c.bucket.result half) =
    words_in_tree many place half c.bucket.result keys_are c.words_with.ensures.ordered bucket in
    let At : List (ℕ × ℕ) → Type 0 = λ keys. AreWordsIn keys place half (words_in_bucket many c.bucket.result half) in
    let Are : KeysOfSecond → Type 0 = λ v. AreWordsIn v.keys (place_of v.stamp c.args.number c.args.signal) half (words_in_bucket many c.bucket.result half) in
    let seen : Are c.args.self.now = subst Are c.self.view_is (subst At (sym shown) tree) in
    let With : List (List ℕ) → Type 0 = AreWordsIn c.args.self.now.keys (place_of c.args.self.now.stamp c.args.number c.args.signal) half in
    IfOk-weaker c.words_with.result (λ words. words.items ≡ words_in_bucket many c.bucket.result half) (λ words. With words.items)
    (λ words is. subst With (sym is) seen) c.words_with.ensures.words
