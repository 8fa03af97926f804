use Rattle.std.proofs.Common.{◌≡◌, List, ℕ, sym, subst, arith}
use Rattle.std.proofs.lemmas.Grind.{common_steps}
use Rattle.capture_lines.specs.Texts.{frame_text}
use Rattle.capture_lines.specs.Spellings.{IsEnded, IsFrameLine}
use Rattle.capture_lines.proofs.Written.{frame_written}
use Rattle.capture_lines.proofs.write.write_rtcm.Goals as goal

pub returns-clause-line : goal.returns-clause-line
returns-clause-line c =
    let text : c.push.new.self.items ≡ frame_text c.args.stamp c.args.frame.now = grind (arith, common_steps) in
    subst (λ (xs : List ℕ). IsEnded (IsFrameLine c.args.stamp c.args.frame.now) xs) (sym text)
    (frame_written c.args.stamp c.args.frame.now (omega arith) c.push_hex.ensures.bytes c.requires.shortest c.requires.longest)
