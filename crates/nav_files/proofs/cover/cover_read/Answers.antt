use Rattle.nav_files.proofs.cover.cover_read.Goals as goal

pub returns-in-Ok-clause-kept : goal.returns-in-Ok-clause-kept
returns-in-Ok-clause-kept c = rw c.in-Item.is (λ items held. c.in-Ok.ensures items held)
