use Rattle.std.proofs.Common.{Err, Ok, refl}
use Rattle.file_conversion.specs.declared.done.Done.TheVariants as dones
use Rattle.file_conversion.proofs.Running.{accepts_by, breaks_of, broke_for, complete_by, counts_read, ended_for, ended_well, text_by}
use Rattle.file_conversion.proofs.tasks.do_system_merge.Goals as goal

pub returns-in-Ok-clause-text : goal.returns-in-Ok-clause-text
returns-in-Ok-clause-text g c = text_by _ _ _ (Ok c.in-Ok.counts) refl c.in-Ok.ensures

pub returns-in-Ok-clause-counts : goal.returns-in-Ok-clause-counts
returns-in-Ok-clause-counts g c = counts_read dones.Merged _ _ _ c.in-Ok.counts refl c.in-Ok.ensures

pub returns-in-Ok-clause-complete : goal.returns-in-Ok-clause-complete
returns-in-Ok-clause-complete g c = ended_well _ _ _ _ _ _ tt

pub returns-in-Err-clause-complete : goal.returns-in-Err-clause-complete
returns-in-Err-clause-complete g c = complete_by _ _ _ (Err c.in-Err.fault) refl refl c.in-Err.ensures

pub returns-in-Ok-clause-accepts : goal.returns-in-Ok-clause-accepts
returns-in-Ok-clause-accepts g c = accepts_by _ _ _ c.in-Ok.counts refl refl c.in-Ok.ensures

pub returns-in-Ok-clause-causes : goal.returns-in-Ok-clause-causes
returns-in-Ok-clause-causes g c = ended_for _ _ _ c.in-Ok.counts c.in-Ok.ensures

pub returns-in-Err-clause-causes : goal.returns-in-Err-clause-causes
returns-in-Err-clause-causes g c = broke_for _ _ _ c.in-Err.fault c.in-Err.ensures

pub returns-in-Err-clause-breaks : goal.returns-in-Err-clause-breaks
returns-in-Err-clause-breaks g c = breaks_of _ _ _ c.in-Err.fault refl refl c.in-Err.ensures
