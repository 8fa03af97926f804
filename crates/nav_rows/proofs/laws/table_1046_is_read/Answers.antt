use Rattle.std.proofs.Common.{◌≡◌, ◌≤◌, refl, sym, ap, subst, ◌∙◌, true, Ok, length, arith}
use Rattle.std.proofs.lemmas.Int.{ints}
use Rattle.nav_tables.specs.Messages.{are_fields, numbers_at}
use Rattle.rtcm_eph.specs.Messages.{message1046_at}
use Rattle.nav_rows.specs.Tied.{numbers_1046}
use Rattle.nav_rows.proofs.TieLemmas.{AreTaken, is_taken, taken, gal_taken, gal_content}
use Rattle.nav_rows.proofs.laws.table_1046_is_read.Goals as goal

pub returns-clause-numbers : goal.returns-clause-numbers
unfolding numbers_at
returns-clause-numbers c bytes = refl

pub returns-clause-taken : goal.returns-clause-taken
returns-clause-taken c t bytes content f b h =
    let m = gal_taken bytes content h in
    let n = m.number_is in
    let few : t.bytes ≤ length bytes = omega (arith, b, m.few) in
    let good : are_fields t.fields.now ≡ true = subst (λ fs. are_fields fs ≡ true) (sym f) refl in
    let told : AreTaken bytes 0 t.fields.now = subst (AreTaken bytes 0) (sym f) (
      (omega (arith, ints, n), omega (arith, ints, n)),
      (
        (omega (arith, ints, m.some), omega (arith, ints, m.most_is)),
        (
          (omega (arith, ints), omega (arith, ints, m.toc_is)),
          ((omega (arith, ints), omega (arith, ints, m.toe_is)), tt),
        ),
      ),
    ) in
    taken t bytes good few told ∙ ap (λ fs. Ok (numbers_at bytes 0 fs)) f
    ∙ ap Ok (returns-clause-numbers c bytes)
    ∙ ap (λ k. Ok (numbers_1046 k (message1046_at bytes 0))) n

pub returns-clause-back : goal.returns-clause-back
returns-clause-back c t bytes numbers f b h sisa =
    let is = is_taken t bytes numbers h in
    let told = subst (AreTaken bytes 0) f is.taken in
    gal_content bytes (record {
      few = omega (arith, b, is.few);
      number_is = omega (arith, ints, told.0.0, told.0.1);
      some = omega (arith, ints, told.1.0.0);
      most_is = omega (arith, ints, told.1.0.1);
      toe_is = omega (arith, ints, told.1.1.1.0.1);
      toc_is = omega (arith, ints, told.1.1.0.1);
    }) sisa
