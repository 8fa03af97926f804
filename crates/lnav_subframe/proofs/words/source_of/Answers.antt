use Rattle.std.proofs.Common.{◌≡◌, ◌+◌, ◌-◌, ◌*◌, ◌%◌, refl, sym, ◌∙◌, ap, arith}
use Rattle.nav_bits.specs.Laws.{number_at-lt}
use Rattle.lnav_subframe.specs.Parity.{IsGood}
use Rattle.lnav_subframe.specs.Words.{last_before, word_of}
use Rattle.lnav_subframe.proofs.Places.{goods_more, last_more, sources_more, stands_already, stay_more}
use Rattle.lnav_subframe.proofs.words.source_of.Goals as goal

pub loop-k-init : goal.loop-k-init
unfolding last_before
loop-k-init c = record {
  good = λ k h. absurd (omega arith);
  source = λ k h. absurd (omega arith);
  stay = record { same = λ i h. refl };
  last = refl;
  fits = omega arith;
}

pub from_bits-requires : goal.from_bits-requires
from_bits-requires c = omega (arith, c.get-word.ensures, number_at-lt c.args.bits.now (30 * c.loop-k.k) 30)

pub returns-in-None-clause-fault : goal.returns-in-None-clause-fault
returns-in-None-clause-fault c =
    let word : c.from_bits.result ≡ word_of c.args.bits.now c.loop-k.k = c.from_bits.ensures ∙ c.get-word.ensures in
    let last : c.from_bits-in-loop-k.result ≡ last_before c.args.bits.now c.loop-k.k = c.from_bits-in-loop-k.ensures ∙ c.loop-k.invariant.last in
    let bad : IsGood (word_of c.args.bits.now c.loop-k.k) (last_before c.args.bits.now c.loop-k.k) → ⊥ =
    rw (← word, ← last) (λ good. let no = c.in-None.ensures.good.1 good in cc) in
    let e : c.loop-k.k + 1 - 1 ≡ c.loop-k.k = omega arith in
    record {
      low = omega arith;
      high = omega arith;
      before = rw e c.loop-k.invariant.good;
      bad = rw e bad;
    }

pub put_source-requires-clause-upright : goal.put_source-requires-clause-upright
put_source-requires-clause-upright c = λ even.
    let word : c.from_bits.result ≡ word_of c.args.bits.now c.loop-k.k = c.from_bits.ensures ∙ c.get-word.ensures in
    let last : c.from_bits-in-loop-k.result ≡ last_before c.args.bits.now c.loop-k.k = c.from_bits-in-loop-k.ensures ∙ c.loop-k.invariant.last in
    stands_already c.args.bits.now c.loop-k.source c.loop-k.k c.value.result c.loop-k.invariant.stay (rw (← word, ← last, c.value.ensures.same) c.in-Some.ensures.bits) (ap (λ n. n % 2) (sym c.loop-k.invariant.last) ∙ even)

pub loop-k-preserved : goal.loop-k-preserved
loop-k-preserved c =
    let word : c.from_bits.result ≡ word_of c.args.bits.now c.loop-k.k = c.from_bits.ensures ∙ c.get-word.ensures in
    let last : c.from_bits-in-loop-k.result ≡ last_before c.args.bits.now c.loop-k.k = c.from_bits-in-loop-k.ensures ∙ c.loop-k.invariant.last in
    record {
      good = goods_more c.args.bits.now c.loop-k.k c.loop-k.invariant.good (rw (← word, ← last) (c.in-Some.ensures.good.0 refl));
      source = sources_more c.args.bits.now c.loop-k.source c.put_source.new.source c.loop-k.k c.value.result c.loop-k.invariant.source c.put_source.ensures (rw (← word, ← last, c.value.ensures.same) c.in-Some.ensures.bits);
      stay = stay_more c.args.bits.now c.loop-k.source c.put_source.new.source c.loop-k.k c.value.result c.loop-k.invariant.stay c.put_source.ensures;
      last = ap (λ w. w % 4) c.get-word.ensures ∙ sym (last_more c.args.bits.now c.loop-k.k);
      fits = omega arith;
    }

pub returns-clause-good : goal.returns-clause-good
returns-clause-good c = λ k h. c.loop-k.invariant.good k (omega arith)
