use Rattle.std.proofs.Common.{◌≡◌, Some, None, arith}
use Rattle.std.proofs.lemmas.Grind.{common_steps}
use Rattle.capture_lines.specs.Heads.{head_of}
use Rattle.capture_lines.proofs.Heads.{answered}
use Rattle.capture_lines.proofs.head.read_first.Goals as goal

pub returns-then-eq-clause-exactly : goal.returns-then-eq-clause-exactly
unfolding head_of
returns-then-eq-clause-exactly c =
    let is : Some (record { window = 7200; week = None }) ≡ head_of c.args.line.now = grind (arith, common_steps) in
    (answered c.args.line.now (Some (record { window = 7200; week = None })) is).0

pub returns-clause-exactly : goal.returns-clause-exactly
unfolding head_of
returns-clause-exactly c =
    let is : c.week_and_window.result ≡ head_of c.args.line.now = grind (arith, common_steps) in
    (answered c.args.line.now c.week_and_window.result is).0

pub returns-clause-range : goal.returns-clause-range
unfolding head_of
returns-clause-range c =
    let is : c.week_and_window.result ≡ head_of c.args.line.now = grind (arith, common_steps) in
    (answered c.args.line.now c.week_and_window.result is).1
