use Rattle.std.proofs.Common.{length, refl, sym, arith, ◌∙◌}
use Rattle.std.proofs.lemmas.List.{take_all}
use Rattle.rinex_read.proofs.LineLemmas.{padded_is, columns_of}
use Rattle.rinex_read.proofs.line.padded.Goals as goal

pub returns-then-line-ge80 : goal.returns-then-line-ge80
returns-then-line-ge80 c = c.copy_from_slice.ensures.after ∙ columns_of 0 80 80 c.args.line.now refl (omega (arith, c.if-line-ge80.true))

pub returns : goal.returns
returns c =
    let line = c.args.line.now in
    padded_is (length line) c.copy_from_slice-2.new.self line (omega (arith, c.if-line-ge80.false))
    (c.copy_from_slice-2.ensures.after ∙ sym (take_all (length line) line (omega arith)))
