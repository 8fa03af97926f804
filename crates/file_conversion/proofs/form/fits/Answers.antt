use Rattle.std.proofs.Common.{arith}
use Rattle.std.proofs.lemmas.List.{drop_all}
use Rattle.file_conversion.proofs.Passing.{at_end}
use Rattle.file_conversion.proofs.form.fits.Goals as goal

pub returns : goal.returns
returns c =
    at_end c.args.form.now c.loop-byte.left.now c.args.text.now _ _ c.is_empty.ensures (drop_all c.loop-byte.byte-index c.args.text.now (omega (arith, c.loop-byte.auto.byte-index-end))) c.loop-byte.invariant
