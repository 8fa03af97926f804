use Rattle.std.proofs.Common.{◌≡◌, map, take}
use Rattle.clap.specs.Words.{app_of}
use Rattle.bridge_engine.specs.Commands.{options_command}
use Rattle.bridge_engine.proofs.command.command_of.Given as goal

abbrev pub invariant-loop-name : goal.invariant-loop-name
invariant-loop-name l = app_of l.command ≡ options_command (map (λ n. n.now) (take l.name-index l.names))
