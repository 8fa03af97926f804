use Rattle.nav_files.proofs.KeptLemmas.{cover_kept}
use Rattle.nav_files.proofs.cover.cover_item.Goals as goal

pub returns : goal.returns
returns c = cover_kept c.args.item.now c.args.cover.now c.add.new.self c.in_ok-add.ensures.form c.in_ok-add.ensures.covers
