use Rattle.std.proofs.Common.{◌∙◌}
use Rattle.inav.specs.Pages.{word_of}
use Rattle.inav.proofs.page.word.Goals as goal

pub returns : goal.returns
unfolding word_of
returns c = c.from_bytes.ensures ∙ c.to_be_bytes.ensures
