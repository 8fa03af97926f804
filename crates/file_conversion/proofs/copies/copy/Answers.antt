use Rattle.std.proofs.Common.{◌∙◌, ◌++◌, arith, take, length-append}
use Rattle.file_conversion.proofs.Copying.{appends_more, consumes_more, stayed_ok, written_ok}
use Rattle.file_conversion.proofs.copies.copy.Goals as goal

pub loop-taken-preserved : goal.loop-taken-preserved
loop-taken-preserved g c =
    let so_far = c.loop-taken.invariant in
    let moved = so_far.0 in (
      (
        moved.0 ++ take c.in-Ok.count c.read_piece.new.piece,
        omega (arith, moved.1, c.in-Ok.ensures.count, length-append moved.0 (take c.in-Ok.count c.read_piece.new.piece)),
        consumes_more _ _ _ _ _ moved.2 c.in-Ok.ensures.bytes.0,
        appends_more _ _ _ _ _ moved.3 (written_ok c.write.result c.is_err.result _ _ c.is_err.ensures.value c.if-is_err.false c.write.ensures.bytes),
      ),
      c.in-Ok.ensures.most,
      c.in-Ok.ensures.cause.stays ∙ so_far.2,
      stayed_ok c.write.result c.is_err.result _ c.is_err.ensures.value c.if-is_err.false c.write.ensures.cause.stays ∙ so_far.3,
    )
