use Rattle.std.proofs.Common.{◌≡◌, sym, subst, arith}
use Rattle.std.proofs.lemmas.Grind.{common_steps}
use Rattle.capture_lines.specs.Reading.{item_of}
use Rattle.capture_lines.specs.Spellings.{StandsFor}
use Rattle.capture_lines.specs.declared.item.LineItem.{LineItem}
use Rattle.capture_lines.specs.declared.item.LineItem.TheVariants.{Malformed}
use Rattle.capture_lines.proofs.Items.{stands}
use Rattle.capture_lines.proofs.line.read_line_into.Goals as goal

pub returns-in-Some-clause-stands : goal.returns-in-Some-clause-stands
unfolding item_of
returns-in-Some-clause-stands c =
    let is : c.read_form.new.item ≡ item_of c.args.line.now = grind (arith, common_steps) in
    subst (λ (item : LineItem). StandsFor item c.args.line.now) (sym is) (stands c.args.line.now)

pub returns-in-None-clause-stands : goal.returns-in-None-clause-stands
unfolding item_of
returns-in-None-clause-stands c =
    let is : Malformed ≡ item_of c.args.line.now = grind (arith, common_steps) in
    subst (λ (item : LineItem). StandsFor item c.args.line.now) (sym is) (stands c.args.line.now)
