use Rattle.std.proofs.Common.{◌≡◌, List, ℕ, length, ap, ◌∙◌, sym, subst, arith}
use Rattle.std.proofs.lemmas.Grind.{common_steps}
use Rattle.hex.specs.Hex.{IsBytes}
use Rattle.capture_lines.specs.Texts.{lnav_text}
use Rattle.capture_lines.specs.Spellings.{IsEnded, IsLnavLine}
use Rattle.capture_lines.proofs.Written.{lnav_written}
use Rattle.capture_lines.proofs.write.write_lnav.Goals as goal

pub returns-clause-line : goal.returns-clause-line
returns-clause-line c =
    let text : c.push-2.new.self.items ≡ lnav_text c.args.stamp c.args.sat c.args.bits.now = grind (arith, common_steps) in
    let bytes : IsBytes c.args.bits.now = subst IsBytes c.bytes.ensures c.push_hex.ensures.bytes in
    let size : length c.bytes.result.now ≡ 38 = omega arith in
    subst (λ (xs : List ℕ). IsEnded (IsLnavLine c.args.stamp c.args.sat c.args.bits.now) xs) (sym text)
    (lnav_written c.args.stamp c.args.sat c.args.bits.now (omega arith) c.requires.system c.number.ensures.fits bytes
    (ap length (sym c.bytes.ensures) ∙ size))
