use Rattle.std.proofs.Common.{◌≡◌, true, false, refl, sym, ◌∙◌}
use Rattle.c_calls.proofs.TextWords.{word_fails, word_next, words_end}
use Rattle.c_calls.proofs.words.are_texts.Goals as goal

pub returns-then-not-is_text : goal.returns-then-not-is_text
returns-then-not-is_text c = (
  λ no. let e : false ≡ true = no in cc,
  λ all. absurd (word_fails _ _ c.loop-word.word-index _ c.loop-word-test.true
      (λ is. let e : false ≡ true = sym c.if-not-is_text.true ∙ c.is_text.ensures.1 is in cc) all),
)

pub loop-word-preserved : goal.loop-word-preserved
loop-word-preserved c =
    word_next _ _ c.loop-word.word-index _ c.loop-word-test.true (c.is_text.ensures.0 c.if-not-is_text.false) c.loop-word.invariant

pub returns : goal.returns
returns c = (λ yes. words_end _ _ c.loop-word.word-index c.loop-word-test.false c.loop-word.invariant, λ all. refl)
