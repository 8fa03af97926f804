use Rattle.std.proofs.Common.{Some, ap, refl}
use Rattle.std.specs.String.{string_bytes}
use Rattle.nav_io.specs.Causes.{Rose}
use Rattle.whole_file.specs.Files.{Publishes}
use Rattle.file_conversion.specs.Steps.{Made}
use Rattle.file_conversion.proofs.Closing.{counts_of, lacks_of, made_of, none_begun, none_ok, on_ended, on_failed, stays_still, stopped_lack, tells, untold}
use Rattle.file_conversion.proofs.Causing.{accepted_of, comes_ahead, comes_of, never_accepted, no_rise, rejected_of, unnamed_of, unread_ahead, unread_of, unreported_of, unwritten_ahead, unwritten_of}
use Rattle.file_conversion.proofs.convert.convert_source.Goals as goal

pub returns-in-Ok-clause-puts : goal.returns-in-Ok-clause-puts
returns-in-Ok-clause-puts g c =
    on_ended _ _ _ _ _ c.ended.ensures.done
    (λ (made : Made). made_of c.args.plan.now _ _ _ (λ text. Publishes (g.F.Folder.files c.args.folder.now) (g.F.Folder.files c.put_output-done.new.folder)
    c.args.part.now (string_bytes made.name) (Some text)) c.in-Ok.ensures.begun)
    c.put_output-done.ensures.put

pub returns-in-Ok-clause-counts : goal.returns-in-Ok-clause-counts
returns-in-Ok-clause-counts g c =
    on_ended _ _ _ _ _ c.ended.ensures.done (λ (made : Made). counts_of c.args.plan.now _ _ _ made.done c.in-Ok.ensures.begun) c.put_output-done.ensures.counts

pub returns-in-Ok-clause-named : goal.returns-in-Ok-clause-named
returns-in-Ok-clause-named g c =
    let gives : Made → Type 0 = λ made. g.A.Namer.gives c.args.names.now made.done (string_bytes made.name) in
    on_ended _ _ _ gives gives c.ended.ensures.done (λ made given. given) c.put_output-done.ensures.named

pub returns-in-Ok-clause-stays : goal.returns-in-Ok-clause-stays
returns-in-Ok-clause-stays g c = on_failed _ _ _ _ _ c.ended.ensures.done (λ stays. stays) c.put_output-done.ensures.stays

pub returns-in-Ok-clause-later : goal.returns-in-Ok-clause-later
returns-in-Ok-clause-later g c = c.put_output-done.ensures.later

pub returns-in-Ok-clause-form : goal.returns-in-Ok-clause-form
returns-in-Ok-clause-form g c = tells c.args.plan.now _ _ _ _ c.ended.ensures.kind c.in-Ok.ensures.form

pub returns-in-Ok-clause-complete : goal.returns-in-Ok-clause-complete
returns-in-Ok-clause-complete g c =
    lacks_of c.args.plan.now _ _ _ (Rose (g.A.Namer.faults c.args.names.now) (g.A.Namer.faults c.put_output-done.new.names))
    (Rose (g.F.Folder.faults c.args.folder.now) (g.F.Folder.faults c.put_output-done.new.folder))
    _ _ _ _ _ _ _ _ _ _ _ c.in-Ok.ensures.begun c.ended.ensures.done c.in-Ok.ensures.faults c.ended.ensures.faults
    (ap g.U.Sink.faults c.in-Ok.ensures.report) (ap g.U.Sink.faults c.ended.ensures.report)
    c.put_output-done.ensures.failed c.put_output-done.ensures.complete

pub returns-in-Ok-clause-none : goal.returns-in-Ok-clause-none
returns-in-Ok-clause-none g c = none_begun c.args.plan.now _ _ _ _ _ c.in-Ok.ensures.begun

pub returns-in-Err-clause-puts : goal.returns-in-Err-clause-puts
returns-in-Err-clause-puts g c = none_ok _ _ c.in-Err.ensures.stopped.never

pub returns-in-Err-clause-counts : goal.returns-in-Err-clause-counts
returns-in-Err-clause-counts g c = none_ok _ _ c.in-Err.ensures.stopped.never

pub returns-in-Err-clause-named : goal.returns-in-Err-clause-named
returns-in-Err-clause-named g c = none_ok _ _ c.in-Err.ensures.stopped.never

pub returns-in-Err-clause-stays : goal.returns-in-Err-clause-stays
returns-in-Err-clause-stays g c = stays_still _ _ _ _ refl

pub returns-in-Err-clause-form : goal.returns-in-Err-clause-form
returns-in-Err-clause-form g c = untold c.args.plan.now _ _ _ c.in-Err.ensures.stopped.never c.in-Err.ensures.form

pub returns-in-Err-clause-complete : goal.returns-in-Err-clause-complete
returns-in-Err-clause-complete g c = stopped_lack _ _ _ _ _ _ _ _ c.in-Err.ensures.stopped

pub returns-in-Err-clause-none : goal.returns-in-Err-clause-none
returns-in-Err-clause-none g c = c.in-Err.ensures.stopped.none

-- ---- why it stopped

pub returns-in-Ok-clause-accepted : goal.returns-in-Ok-clause-accepted
returns-in-Ok-clause-accepted g c =
    accepted_of c.args.plan.now _ _ _ _ _ _ c.in-Ok.ensures.begun c.ended.ensures.done c.put_output-done.ensures.accepts

pub returns-in-Ok-clause-cause : goal.returns-in-Ok-clause-cause
returns-in-Ok-clause-cause g c =
    comes_of c.args.plan.now _ _ _ _ _ _ _ _ _ _ _ _ _ _ _ _ _ _ _ c.in-Ok.ensures.begun c.ended.ensures.stopped
    c.in-Ok.ensures.faults c.ended.ensures.faults
    (ap g.U.Sink.faults c.in-Ok.ensures.report) (ap g.U.Sink.faults c.ended.ensures.report)
    c.put_output-done.ensures.causes c.put_output-done.ensures.breaks

pub returns-in-Ok-clause-unread : goal.returns-in-Ok-clause-unread
returns-in-Ok-clause-unread g c =
    unread_of _ _ _ _ _ _ _ _ _ _ _ _ _ _ c.ended.ensures.stopped c.in-Ok.ensures.faults c.ended.ensures.most c.put_output-done.ensures.causes

pub returns-in-Ok-clause-unreported : goal.returns-in-Ok-clause-unreported
returns-in-Ok-clause-unreported g c =
    unreported_of _ _ _ _ _ _ _ _ _ _ _ _ _ _ c.ended.ensures.stopped
    (ap g.U.Sink.faults c.in-Ok.ensures.report) (ap g.U.Sink.faults c.ended.ensures.report) c.put_output-done.ensures.causes

pub returns-in-Ok-clause-unnamed : goal.returns-in-Ok-clause-unnamed
returns-in-Ok-clause-unnamed g c = unnamed_of _ _ _ _ _ _ _ _ _ _ _ _ c.ended.ensures.stopped c.put_output-done.ensures.causes

pub returns-in-Ok-clause-unwritten : goal.returns-in-Ok-clause-unwritten
returns-in-Ok-clause-unwritten g c =
    unwritten_of c.args.plan.now _ _ _ _ _ _ _ _ _ _ _ _ _ _ _ c.ended.ensures.stopped refl refl c.put_output-done.ensures.causes
    (returns-in-Ok-clause-cause g c)

pub returns-in-Ok-clause-rejected : goal.returns-in-Ok-clause-rejected
returns-in-Ok-clause-rejected g c = rejected_of c.args.plan.now _ _ _ _ (returns-in-Ok-clause-accepted g c) (returns-in-Ok-clause-cause g c)

pub returns-in-Err-clause-accepted : goal.returns-in-Err-clause-accepted
returns-in-Err-clause-accepted g c = never_accepted _ _ c.in-Err.ensures.stopped.never

pub returns-in-Err-clause-cause : goal.returns-in-Err-clause-cause
returns-in-Err-clause-cause g c = comes_ahead c.args.plan.now _ _ _ _ _ _ _ _ _ _ c.in-Err.ensures.ahead

pub returns-in-Err-clause-unread : goal.returns-in-Err-clause-unread
returns-in-Err-clause-unread g c = unread_ahead c.args.plan.now _ _ _ _ c.in-Err.ensures.stopped.never c.in-Err.ensures.ahead

pub returns-in-Err-clause-unreported : goal.returns-in-Err-clause-unreported
returns-in-Err-clause-unreported g c = no_rise _ _ (ap g.U.Sink.faults c.in-Err.ensures.unreported)

pub returns-in-Err-clause-unnamed : goal.returns-in-Err-clause-unnamed
returns-in-Err-clause-unnamed g c = no_rise _ _ refl

pub returns-in-Err-clause-unwritten : goal.returns-in-Err-clause-unwritten
returns-in-Err-clause-unwritten g c = unwritten_ahead _ _ _ _ _ _ _ _ refl

pub returns-in-Err-clause-rejected : goal.returns-in-Err-clause-rejected
returns-in-Err-clause-rejected g c = rejected_of c.args.plan.now _ _ _ _ (returns-in-Err-clause-accepted g c) (returns-in-Err-clause-cause g c)
