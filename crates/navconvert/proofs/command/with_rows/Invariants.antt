use Rattle.std.proofs.Common.{◌≡◌, map, take}
use Rattle.clap.specs.Words.{app_of}
use Rattle.navconvert.specs.Commands.{command_with, row_rule}
use Rattle.navconvert.proofs.command.with_rows.Given as goal

-- one option more for each row
abbrev pub invariant-loop-row : goal.invariant-loop-row
invariant-loop-row l = app_of l.command ≡ command_with (map row_rule (take l.row-index l.rows))
