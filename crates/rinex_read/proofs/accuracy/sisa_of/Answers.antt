use Rattle.std.proofs.Common.{◌≡◌, ℕ, ◌≤◌, ℤ, pos, negsuc, ◌≤ℤ◌, ◌<ℤ◌, unsigned_abs, if◌then◌else◌, refl, ap, sym, ◌∙◌, arith, to_z, of_z, w64}
use Rattle.std.proofs.lemmas.Bool.{le-leb, lt-leb}
use Rattle.std.proofs.lemmas.Int.{ints}
use Rattle.rinex_write.specs.Accuracies.{sisa_of, sisa_from}
use Rattle.rinex_read.specs.Mirrors.{sisa_index}
use Rattle.rinex_read.proofs.AccuracyLemmas.{sisa_index_is}
use Rattle.rinex_read.proofs.accuracy.sisa_of.Goals as goal

negative : (z : ℤ) → z <ℤ pos 0 → pos 255 ≡ sisa_of z
unfolding sisa_of
negative (pos n) h = absurd (omega (arith, ints))
negative (negsuc n) h = refl

large : (z : ℤ) → pos 0 ≤ℤ z → pos 600 <ℤ z → pos 255 ≡ sisa_of z
unfolding sisa_of
large (pos n) from h = sym (ap (λ b. if b then pos (sisa_from 125 0 n) else pos 255) (lt-leb n 600 (omega (arith, ints))))
large (negsuc n) from h = absurd (omega (arith, ints))

within : (z r : ℤ) (n i : ℕ) → z ≡ pos n → n ≤ 600 → i ≡ sisa_index n → r ≡ pos i → r ≡ sisa_of z
unfolding sisa_of
within z r n i is small index value =
    let read : sisa_of (pos n) ≡ pos (sisa_index n) = ap (λ b. if b then pos (sisa_from 125 0 n) else pos 255) (le-leb n 600 small) ∙ ap pos (sisa_index_is n small) in
    value ∙ ap pos index ∙ sym read ∙ ap sisa_of (sym is)

pub returns-then-value-lt0 : goal.returns-then-value-lt0
returns-then-value-lt0 c = negative c.args.value (omega (arith, ints))

pub returns-then-value-gt600 : goal.returns-then-value-gt600
returns-then-value-gt600 c = large c.args.value (omega (arith, ints)) (omega (arith, ints))

pub returns : goal.returns
returns c = within c.args.value _ (unsigned_abs (to_z w64 (of_z w64 c.args.value))) c.sisa_index.result (omega (arith, ints)) (omega (arith, ints)) c.sisa_index.ensures.index (omega (arith, ints))
