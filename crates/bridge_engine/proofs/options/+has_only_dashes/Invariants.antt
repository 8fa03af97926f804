use Rattle.std.proofs.Common.{length}
use Rattle.bridge_engine.proofs.options.+has_only_dashes.Given as goal

abbrev pub decreases-has_only_dashes : goal.decreases-has_only_dashes
decreases-has_only_dashes l = length l.words.now
