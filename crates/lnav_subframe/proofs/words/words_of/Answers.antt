use Rattle.std.proofs.Common.{◌+◌, ◌*◌, ◌%◌, refl, sym, ◌∙◌, ap, arith}
use Rattle.nav_bits.specs.Bits.{number_at}
use Rattle.nav_bits.specs.Laws.{number_at-lt, number_at-zero, number_at-after}
use Rattle.lnav_subframe.specs.Words.{IsWord, last_before}
use Rattle.lnav_subframe.proofs.Places.{last_more, words_more}
use Rattle.lnav_subframe.proofs.words.words_of.Goals as goal

pub loop-k-init : goal.loop-k-init
unfolding last_before
loop-k-init c = record {
  words = λ k h. absurd (omega arith);
  behind = rw c.zero-bits.ensures (number_at-zero 38 300 4);
  last = refl;
  fits = omega arith;
}

pub word_at-word-requires-clause-bits : goal.word_at-word-requires-clause-bits
word_at-word-requires-clause-bits c = omega (arith, c.get.ensures, number_at-lt c.args.source.now (30 * c.loop-k.k) 24)

pub loop-k-preserved : goal.loop-k-preserved
loop-k-preserved c =
    let word : IsWord c.loop-k.k c.word_at-word.result (last_before c.loop-k.bits c.loop-k.k) (number_at c.args.source.now (30 * c.loop-k.k) 24) =
    rw (← c.loop-k.invariant.last, ← c.get.ensures) c.word_at-word.ensures.word in
    record {
      words = words_more c.args.source.now c.loop-k.bits c.put.new.self c.loop-k.k c.word_at-word.result c.loop-k.invariant.words c.put.ensures word;
      behind = number_at-after c.loop-k.bits c.put.new.self (30 * c.loop-k.k) (30 * c.loop-k.k + 30) c.put.ensures.others 300 4 (omega arith) ∙ c.loop-k.invariant.behind;
      last = ap (λ w. w % 4) (sym c.put.ensures.number) ∙ sym (last_more c.put.new.self c.loop-k.k);
      fits = omega arith;
    }
