use Rattle.whole_file.proofs.kinds.is_labelled.Goals as goal

pub returns : goal.returns
returns c = c.stands_at.ensures
