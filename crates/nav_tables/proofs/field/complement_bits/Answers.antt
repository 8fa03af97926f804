use Rattle.std.proofs.Common.{◌≡◌, w64, of_z, to_z, ap, subst, sym, ◌∙◌, ◌<◌, ◌^◌, arith}
use Rattle.std.proofs.lemmas.Int.{to_z-of_z}
use Rattle.nav_bits.proofs.Surface.{unsigned_of-lt}
use Rattle.nav_tables.proofs.FieldLemmas.{complement}
use Rattle.nav_tables.proofs.field.complement_bits.Goals as goal

pub returns-clause-same : goal.returns-clause-same
returns-clause-same c =
    let z = c.args.number in
    let same : to_z w64 (of_z w64 z) ≡ z = to_z-of_z w64 z c.ranges.number in
    complement c.args.width c.cast_unsigned.result z c.requires.some (omega arith) c.requires.range
    (c.cast_unsigned.ensures ∙ ap (of_z w64) same)

pub returns-clause-fits : goal.returns-clause-fits
returns-clause-fits c =
    let w = c.args.width in
    subst (λ n. n < 2 ^ w) (sym (returns-clause-same c))
    (unsigned_of-lt w c.args.number c.requires.some c.requires.range)
