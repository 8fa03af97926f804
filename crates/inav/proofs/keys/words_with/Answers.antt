use Rattle.std.proofs.Common.{◌≡◌, map, rules, ◌∙◌, ap}
use Rattle.std.proofs.lemmas.Map.Iter.{iter_end}
use Rattle.std.specs.Map.Iter.{deref}
use Rattle.inav.specs.Pages.{kind_of}
use Rattle.inav.specs.Mirrors.{keys_in_bucket, words_by}
use Rattle.inav.proofs.Partners.{found_more, range_is}
use Rattle.inav.proofs.keys.words_with.Goals as goal

pub loop-key-init : goal.loop-key-init
loop-key-init c = c.new-words.ensures.items

pub loop-key-preserved : goal.loop-key-preserved
loop-key-preserved c =
    c.in_ok-push.ensures.items
    ∙ found_more deref c.kind-kind.result c.number-number.result c.loop-key.yielded c.in-Some.key c.loop-key.words.items c.word_of_two.result
    c.loop-key.invariant c.word_of_two.ensures

pub returns-clause-words : goal.returns-clause-words
returns-clause-words c =
    let kind = c.kind-kind.result in
    let keys = c.args.kept.now.keys in
    let bucket = c.args.bucket in
    let all : map deref c.loop-key.yielded ≡ c.range-key-items.result = search (rules, iter_end) in
    let range : c.range-key-items.result ≡ keys_in_bucket keys bucket kind =
    c.range-key-items.ensures.between tt ∙ range_is keys bucket kind c.others_in.result.start c.others_in.result.end c.others_in.ensures.start c.others_in.ensures.end in
    c.loop-key.invariant
    ∙ ap (words_by kind c.number-number.result) (all ∙ range)
    ∙ ap (λ k. words_by k c.number-number.result (keys_in_bucket keys bucket k)) c.kind-kind.ensures
    ∙ ap (λ n. words_by (kind_of c.args.half.now) n (keys_in_bucket keys bucket (kind_of c.args.half.now))) c.number-number.ensures.same
