use Rattle.std.proofs.Common.{ap, ◌∙◌, map}
use Rattle.std.specs.String.{string_bytes}
use Rattle.c_calls.proofs.TextWords.{text_next, word_fails}
use Rattle.c_calls.proofs.words.texts_of.Goals as goal

pub unreachable-requires : goal.unreachable-requires
unreachable-requires c = word_fails _ _ c.loop-word.word-index _ c.loop-word-test.true c.in-Err.ensures.cases.0 c.requires

pub loop-word-preserved : goal.loop-word-preserved
loop-word-preserved c =
    ap (map string_bytes) c.in_ok-push-in-Ok.ensures.items
    ∙ text_next _ string_bytes _ _ _ c.loop-word.word-index _ c.loop-word-test.true
    (c.in_ok-from_str-in-Ok.ensures.ok ∙ c.in-Ok.ensures.cases.0) c.loop-word.invariant
