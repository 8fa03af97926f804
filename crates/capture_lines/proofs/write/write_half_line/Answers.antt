use Rattle.std.proofs.Common.{◌≡◌, List, ℕ, length, ap, ◌∙◌, sym, subst, arith}
use Rattle.std.proofs.lemmas.Grind.{common_steps}
use Rattle.hex.specs.Hex.{IsBytes}
use Rattle.capture_lines.specs.Texts.{half_text}
use Rattle.capture_lines.specs.Spellings.{IsEnded, IsHalfLine}
use Rattle.capture_lines.proofs.Written.{half_written}
use Rattle.capture_lines.proofs.write.write_half_line.Goals as goal

pub returns-clause-line : goal.returns-clause-line
returns-clause-line c =
    let text : c.push-4.new.self.items ≡ half_text c.args.stamp c.args.sat c.args.signal c.args.bits.now = grind (arith, common_steps) in
    let bytes : IsBytes c.args.bits.now = subst IsBytes c.bytes.ensures c.push_hex.ensures.bytes in
    let size : length c.bytes.result.now ≡ 15 = omega arith in
    subst (λ (xs : List ℕ). IsEnded (IsHalfLine c.args.stamp c.args.sat c.args.signal c.args.bits.now) xs) (sym text)
    (half_written c.args.stamp c.args.sat c.args.signal c.args.bits.now (omega arith) c.requires.system c.number.ensures.fits bytes
    (ap length (sym c.bytes.ensures) ∙ size))
