use Rattle.std.proofs.Common.{arith}
use Rattle.std.specs.Prelude.{bit_or, nat_lt}
use Rattle.hex.proofs.Pairs.{decode_sized-pairs}
use Rattle.capture_lines.proofs.HexPairs.{decoded_all, decoded_more}
use Rattle.capture_lines.proofs.HexValues.{both_below}
use Rattle.capture_lines.proofs.digits.decode.Goals as goal

pub bytes-preserved : goal.bytes-preserved
bytes-preserved c =
    rw (
      both_below (bit_or c.bytes.all c.value_of-high.result) c.value_of-low.result,
      both_below c.bytes.all c.value_of-high.result,
      c.value_of-high.ensures.digit,
      c.value_of-low.ensures.digit,
    )
    (decoded_more c.args.digits.now c.bytes.into c.bytes.i c.value_of-high.result c.value_of-low.result
    (nat_lt c.bytes.all 16) c.bytes.invariant (omega arith) (omega arith) c.value_of-high.ensures.value c.value_of-low.ensures.value)

pub returns : goal.returns
returns c =
    let sized = decode_sized-pairs c.args.digits.now _ c.if-digits-ne0.false c.if-digits-count.false in
    rw sized (decoded_all c.args.digits.now c.bytes.into c.bytes.i (nat_lt c.bytes.all 16) c.bytes.invariant (omega arith) (omega arith))
