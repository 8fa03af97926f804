use Rattle.file_conversion.proofs.Running.{copy_accepts, copy_ends}
use Rattle.file_conversion.proofs.tasks.TaskRunConversion.run.Goals as goal

pub returns-in-Does-clause-complete : goal.returns-in-Does-clause-complete
returns-in-Does-clause-complete g c = rw c.in-Does.is c.do_job.ensures.complete

pub returns-in-Does-clause-accepts : goal.returns-in-Does-clause-accepts
returns-in-Does-clause-accepts g c = rw c.in-Does.is c.do_job.ensures.accepts

pub returns-in-Does-clause-causes : goal.returns-in-Does-clause-causes
returns-in-Does-clause-causes g c = c.do_job.ensures.causes

pub returns-in-Does-clause-breaks : goal.returns-in-Does-clause-breaks
returns-in-Does-clause-breaks g c = rw c.in-Does.is c.do_job.ensures.breaks

pub returns-in-Copied-clause-accepts : goal.returns-in-Copied-clause-accepts
returns-in-Copied-clause-accepts g c = rw c.in-Copied.is (copy_accepts _ _ c.copy.ensures.accepts)

pub returns-in-Copied-clause-causes : goal.returns-in-Copied-clause-causes
returns-in-Copied-clause-causes g c = copy_ends _ _ _ _ _ _ c.copy.ensures.causes

pub returns-in-Copied-clause-breaks : goal.returns-in-Copied-clause-breaks
returns-in-Copied-clause-breaks g c = rw c.in-Copied.is c.copy.ensures.breaks

pub returns-in-Systems-clause-complete : goal.returns-in-Systems-clause-complete
returns-in-Systems-clause-complete g c = rw c.in-Systems.is c.do_systems.ensures.complete

pub returns-in-Systems-clause-accepts : goal.returns-in-Systems-clause-accepts
returns-in-Systems-clause-accepts g c = rw c.in-Systems.is c.do_systems.ensures.accepts

pub returns-in-Systems-clause-causes : goal.returns-in-Systems-clause-causes
returns-in-Systems-clause-causes g c = c.do_systems.ensures.causes

pub returns-in-Systems-clause-breaks : goal.returns-in-Systems-clause-breaks
returns-in-Systems-clause-breaks g c = rw c.in-Systems.is c.do_systems.ensures.breaks

pub returns-in-SystemFile-clause-complete : goal.returns-in-SystemFile-clause-complete
returns-in-SystemFile-clause-complete g c = rw c.in-SystemFile.is c.do_system_file.ensures.complete

pub returns-in-SystemFile-clause-accepts : goal.returns-in-SystemFile-clause-accepts
returns-in-SystemFile-clause-accepts g c = rw c.in-SystemFile.is c.do_system_file.ensures.accepts

pub returns-in-SystemFile-clause-causes : goal.returns-in-SystemFile-clause-causes
returns-in-SystemFile-clause-causes g c = c.do_system_file.ensures.causes

pub returns-in-SystemFile-clause-breaks : goal.returns-in-SystemFile-clause-breaks
returns-in-SystemFile-clause-breaks g c = rw c.in-SystemFile.is c.do_system_file.ensures.breaks

pub returns-in-SystemMerge-clause-complete : goal.returns-in-SystemMerge-clause-complete
returns-in-SystemMerge-clause-complete g c = rw c.in-SystemMerge.is c.do_system_merge.ensures.complete

pub returns-in-SystemMerge-clause-accepts : goal.returns-in-SystemMerge-clause-accepts
returns-in-SystemMerge-clause-accepts g c = rw c.in-SystemMerge.is c.do_system_merge.ensures.accepts

pub returns-in-SystemMerge-clause-causes : goal.returns-in-SystemMerge-clause-causes
returns-in-SystemMerge-clause-causes g c = c.do_system_merge.ensures.causes

pub returns-in-SystemMerge-clause-breaks : goal.returns-in-SystemMerge-clause-breaks
returns-in-SystemMerge-clause-breaks g c = rw c.in-SystemMerge.is c.do_system_merge.ensures.breaks
