use Rattle.std.proofs.Common.{inr}
use Rattle.nav_io.specs.Causes.{Rose}
use Rattle.whole_file.specs.Files.{Publishes, Stays}
use Rattle.whole_file.proofs.Putting.{accepts_by, breaks_by, complete_by, counts_by, ends_by, failed_by, named_by, put_by, refuted, stays_by}
use Rattle.whole_file.proofs.step.put_output.Goals as goal

-- a count that has risen refutes that nothing failed
pub returns-in-Err-clause-failed : goal.returns-in-Err-clause-failed
returns-in-Err-clause-failed g c = inr (inr c.in-Err.ensures.cause.failed)

pub returns-in-Err-clause-complete : goal.returns-in-Err-clause-complete
returns-in-Err-clause-complete g c = refuted _ _ _ _ _ _ _ c.in-Err.ensures.cause.failed

pub returns-clause-put : goal.returns-clause-put
returns-clause-put g c =
    let mid = g.F.Folder.files c.draft.new.self in
    let new = g.F.Folder.files c.finished.new.folder in
    put_by (Stays mid new c.args.part.now) (g.A.Namer.gives c.args.names.now)
    (Rose (g.A.Namer.faults c.args.names.now) (g.A.Namer.faults c.finished.new.names)) (g.F.Draft.Sink.faults c.run-ran.new.output)
    (g.F.Folder.faults c.draft.new.self) (g.F.Folder.faults c.finished.new.folder) _ mid new _ _ (g.C.Conversion.makes c.args.conversion.now) _
    (g.F.Draft.Sink.written c.run-ran.new.output) c.run-ran.result c.finished.result
    c.finished.ensures.ends c.draft.ensures.others c.in-Ok.ensures.empty c.run-ran.ensures.text

pub returns-clause-counts : goal.returns-clause-counts
returns-clause-counts g c =
    let mid = g.F.Folder.files c.draft.new.self in
    let new = g.F.Folder.files c.finished.new.folder in
    counts_by (Publishes mid new c.args.part.now) (Stays mid new c.args.part.now) (g.A.Namer.gives c.args.names.now)
    (Rose (g.A.Namer.faults c.args.names.now) (g.A.Namer.faults c.finished.new.names)) (g.F.Draft.Sink.written c.run-ran.new.output)
    (g.F.Draft.Sink.faults c.run-ran.new.output) (g.F.Folder.faults c.draft.new.self) (g.F.Folder.faults c.finished.new.folder)
    (g.S.Source.left c.args.input.now) (g.C.Conversion.counts c.args.conversion.now) c.run-ran.result c.finished.result
    c.finished.ensures.ends c.run-ran.ensures.counts

pub returns-clause-named : goal.returns-clause-named
returns-clause-named g c =
    let mid = g.F.Folder.files c.draft.new.self in
    let new = g.F.Folder.files c.finished.new.folder in
    named_by (Publishes mid new c.args.part.now) (Stays mid new c.args.part.now) (g.A.Namer.gives c.args.names.now)
    (Rose (g.A.Namer.faults c.args.names.now) (g.A.Namer.faults c.finished.new.names)) (g.F.Draft.Sink.written c.run-ran.new.output)
    (g.F.Draft.Sink.faults c.run-ran.new.output) (g.F.Folder.faults c.draft.new.self) (g.F.Folder.faults c.finished.new.folder)
    c.run-ran.result c.finished.result c.finished.ensures.ends

pub returns-clause-accepts : goal.returns-clause-accepts
returns-clause-accepts g c =
    let mid = g.F.Folder.files c.draft.new.self in
    let new = g.F.Folder.files c.finished.new.folder in
    accepts_by (Publishes mid new c.args.part.now) (Stays mid new c.args.part.now) (g.A.Namer.gives c.args.names.now)
    (Rose (g.A.Namer.faults c.args.names.now) (g.A.Namer.faults c.finished.new.names)) (g.F.Draft.Sink.written c.run-ran.new.output)
    (g.F.Draft.Sink.faults c.run-ran.new.output) (g.F.Folder.faults c.draft.new.self) (g.F.Folder.faults c.finished.new.folder)
    _ c.run-ran.result c.finished.result c.finished.ensures.ends c.run-ran.ensures.accepts

pub returns-clause-breaks : goal.returns-clause-breaks
returns-clause-breaks g c =
    let mid = g.F.Folder.files c.draft.new.self in
    let new = g.F.Folder.files c.finished.new.folder in
    breaks_by (Publishes mid new c.args.part.now) (Stays mid new c.args.part.now) (g.A.Namer.gives c.args.names.now)
    (Rose (g.A.Namer.faults c.args.names.now) (g.A.Namer.faults c.finished.new.names)) (g.F.Draft.Sink.written c.run-ran.new.output)
    (g.F.Draft.Sink.faults c.run-ran.new.output) (g.F.Folder.faults c.draft.new.self) (g.F.Folder.faults c.finished.new.folder)
    (g.S.Source.left c.args.input.now) (g.C.Conversion.breaks c.args.conversion.now) c.run-ran.result c.finished.result
    c.finished.ensures.ends c.run-ran.ensures.breaks

pub returns-clause-causes : goal.returns-clause-causes
returns-clause-causes g c =
    let mid = g.F.Folder.files c.draft.new.self in
    let new = g.F.Folder.files c.finished.new.folder in
    ends_by (Publishes mid new c.args.part.now) (Stays mid new c.args.part.now) (g.A.Namer.gives c.args.names.now)
    (g.F.Draft.Sink.written c.run-ran.new.output) g.C.Conversion.cause_of
    (g.A.Namer.faults c.args.names.now) (g.A.Namer.faults c.finished.new.names) _ _ _ _ (g.F.Draft.Sink.faults c.in-Ok.draft)
    (g.F.Draft.Sink.faults c.run-ran.new.output) (g.F.Folder.faults c.args.folder.now)
    (g.F.Folder.faults c.draft.new.self) (g.F.Folder.faults c.finished.new.folder)
    c.run-ran.result c.finished.result c.finished.ensures.ends c.in-Ok.ensures.cause.stays c.in-Ok.ensures.fresh
    c.run-ran.ensures.causes c.finished.ensures.counts
