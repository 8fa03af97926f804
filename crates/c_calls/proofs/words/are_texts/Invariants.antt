use Rattle.std.proofs.Common.{take, map}
use Rattle.std.specs.Prelude.{All, IsUtf8}
use Rattle.c_calls.proofs.words.are_texts.Given as goal

abbrev pub invariant-loop-word : goal.invariant-loop-word
invariant-loop-word l = All IsUtf8 (take l.word-index (map (λ word. word.now) l.words))
