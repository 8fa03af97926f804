use Rattle.std.specs.String.{string_bytes}
use Rattle.nav_io.specs.Causes.{Rose}
use Rattle.file_conversion.specs.Steps.{Made}
use Rattle.file_conversion.proofs.Closing.{closed, closed_none, converts_of, counts_file, none_ok, not_missing, not_opened, not_opened_none, on_ended, on_failed, stays_of, stays_still, tells_file, unmade, untold}
use Rattle.std.proofs.Common.{ap, refl}
use Rattle.file_conversion.proofs.Causing.{accepted_file, comes_file, failed_of, never_accepted, no_rise, rejected_file, stops_told, unnamed_told}
use Rattle.file_conversion.proofs.convert.convert_one.Goals as goal

pub returns-in-Ok-clause-converts : goal.returns-in-Ok-clause-converts
returns-in-Ok-clause-converts g c =
    on_ended _ _ _ _ _ c.decided_by.ensures.ends
    (λ (made : Made). converts_of c.args.plan.now _ _ _ _ c.args.from.now c.args.part.now (string_bytes made.name) _ c.in-Ok.ensures.same c.close-closed.ensures.same c.in-Ok.ensures.bytes)
    c.convert_source-left.ensures.puts

pub returns-in-Ok-clause-counts : goal.returns-in-Ok-clause-counts
returns-in-Ok-clause-counts g c =
    on_ended _ _ _ _ _ c.decided_by.ensures.ends (λ (made : Made). counts_file c.args.plan.now _ _ _ made.done c.in-Ok.ensures.bytes)
    c.convert_source-left.ensures.counts

pub returns-in-Ok-clause-named : goal.returns-in-Ok-clause-named
returns-in-Ok-clause-named g c =
    let gives : Made → Type 0 = λ made. g.A.Namer.gives c.args.names.now made.done (string_bytes made.name) in
    on_ended _ _ _ gives gives c.decided_by.ensures.ends (λ made given. given) c.convert_source-left.ensures.named

pub returns-in-Ok-clause-stays : goal.returns-in-Ok-clause-stays
returns-in-Ok-clause-stays g c =
    on_failed _ _ _ _ _ c.decided_by.ensures.ends (stays_of _ _ _ _ _ c.in-Ok.ensures.same c.close-closed.ensures.same)
    c.convert_source-left.ensures.stays

pub returns-in-Ok-clause-form : goal.returns-in-Ok-clause-form
returns-in-Ok-clause-form g c =
    rw c.decided_by.ensures.kind
    (tells_file c.args.plan.now _ _ _ _ _ _ c.in-Ok.ensures.bytes c.decided_by.ensures.ends c.convert_source-left.ensures.form)

pub returns-in-Ok-clause-complete : goal.returns-in-Ok-clause-complete
returns-in-Ok-clause-complete g c =
    rw c.decided_by.ensures.report
    (closed c.args.plan.now _ _ _
    (Rose (g.U.Sink.faults c.args.observers.report) (g.U.Sink.faults c.convert_source-left.result.outcome.report) → ⊥)
    (Rose (g.A.Namer.faults c.args.names.now) (g.A.Namer.faults c.convert_source-left.new.names) → ⊥)
    _ _ _ _ _ _ _ _ c.in-Ok.ensures.bytes c.decided_by.ensures.ends c.in-Ok.ensures.fresh c.in-Ok.ensures.cause.stays
    c.convert_source-left.ensures.later c.close-closed.ensures.cause.later c.close-closed.ensures.told c.convert_source-left.ensures.complete)

pub returns-in-Ok-clause-missing : goal.returns-in-Ok-clause-missing
returns-in-Ok-clause-missing g c = not_missing _ _ _ _ c.in-Ok.ensures.bytes

pub returns-in-Ok-clause-none : goal.returns-in-Ok-clause-none
returns-in-Ok-clause-none g c =
    closed_none c.args.plan.now _ _ _ _ _ _ _ _ _ _ _ _ c.in-Ok.ensures.bytes c.decided_by.ensures.told c.in-Ok.ensures.fresh c.in-Ok.ensures.cause.stays
    c.convert_source-left.ensures.later c.close-closed.ensures.told c.convert_source-left.ensures.none

pub returns-in-Err-clause-converts : goal.returns-in-Err-clause-converts
returns-in-Err-clause-converts g c = none_ok _ _ (unmade _ _ c.stopped.ensures.done)

pub returns-in-Err-clause-counts : goal.returns-in-Err-clause-counts
returns-in-Err-clause-counts g c = none_ok _ _ (unmade _ _ c.stopped.ensures.done)

pub returns-in-Err-clause-named : goal.returns-in-Err-clause-named
returns-in-Err-clause-named g c = none_ok _ _ (unmade _ _ c.stopped.ensures.done)

pub returns-in-Err-clause-stays : goal.returns-in-Err-clause-stays
returns-in-Err-clause-stays g c = stays_still _ _ _ _ c.in-Err.ensures.same

pub returns-in-Err-clause-form : goal.returns-in-Err-clause-form
returns-in-Err-clause-form g c = untold c.args.plan.now _ _ _ (unmade _ _ c.stopped.ensures.done) c.stopped.ensures.kind

pub returns-in-Err-clause-complete : goal.returns-in-Err-clause-complete
returns-in-Err-clause-complete g c = not_opened _ _ _ _ _ _ _ c.in-Err.ensures.cause.failed

pub returns-in-Err-clause-missing : goal.returns-in-Err-clause-missing
returns-in-Err-clause-missing g c = rw c.stopped.ensures.done (λ missing. tt)

pub returns-in-Err-clause-none : goal.returns-in-Err-clause-none
returns-in-Err-clause-none g c = not_opened_none _ _ _ _ _ c.in-Err.ensures.cause.failed

-- ---- why it stopped

pub returns-in-Ok-clause-accepted : goal.returns-in-Ok-clause-accepted
returns-in-Ok-clause-accepted g c =
    accepted_file c.args.plan.now _ _ _ _ _ c.in-Ok.ensures.bytes c.decided_by.ensures.ends c.convert_source-left.ensures.accepted

pub returns-in-Ok-clause-cause : goal.returns-in-Ok-clause-cause
returns-in-Ok-clause-cause g c =
    rw c.decided_by.ensures.report
    (comes_file c.args.plan.now _ _ _ _ _ _ _ _ _ _ _ _ _ _ _ _ c.in-Ok.ensures.bytes c.decided_by.ensures.told c.in-Ok.ensures.fresh
    c.in-Ok.ensures.cause.stays c.convert_source-left.ensures.later c.close-closed.ensures.cause.later c.close-closed.ensures.told
    c.convert_source-left.ensures.cause)

pub returns-in-Ok-clause-unreported : goal.returns-in-Ok-clause-unreported
returns-in-Ok-clause-unreported g c =
    rw c.decided_by.ensures.report (λ rise. stops_told _ _ _ _ c.decided_by.ensures.told (c.convert_source-left.ensures.unreported rise))

pub returns-in-Ok-clause-unnamed : goal.returns-in-Ok-clause-unnamed
returns-in-Ok-clause-unnamed g c = λ rise. unnamed_told _ _ _ c.decided_by.ensures.told (c.convert_source-left.ensures.unnamed rise)

pub returns-in-Ok-clause-rejected : goal.returns-in-Ok-clause-rejected
returns-in-Ok-clause-rejected g c =
    rejected_file c.args.plan.now _ _ _ _ refl refl (returns-in-Ok-clause-accepted g c) (returns-in-Ok-clause-cause g c)

pub returns-in-Ok-clause-failed : goal.returns-in-Ok-clause-failed
returns-in-Ok-clause-failed g c = failed_of c.args.plan.now _ _ _ _ (returns-in-Ok-clause-cause g c)

pub returns-in-Err-clause-accepted : goal.returns-in-Err-clause-accepted
returns-in-Err-clause-accepted g c = never_accepted _ _ (unmade _ _ c.stopped.ensures.done)

pub returns-in-Err-clause-cause : goal.returns-in-Err-clause-cause
returns-in-Err-clause-cause g c = rw c.stopped.ensures.done c.in-Err.ensures.cause.failed

pub returns-in-Err-clause-unreported : goal.returns-in-Err-clause-unreported
returns-in-Err-clause-unreported g c = no_rise _ _ (ap g.U.Sink.faults c.stopped.ensures.report)

pub returns-in-Err-clause-unnamed : goal.returns-in-Err-clause-unnamed
returns-in-Err-clause-unnamed g c = no_rise _ _ refl

pub returns-in-Err-clause-rejected : goal.returns-in-Err-clause-rejected
returns-in-Err-clause-rejected g c =
    rejected_file c.args.plan.now _ _ _ _ refl refl (returns-in-Err-clause-accepted g c) (returns-in-Err-clause-cause g c)

pub returns-in-Err-clause-failed : goal.returns-in-Err-clause-failed
returns-in-Err-clause-failed g c = failed_of c.args.plan.now _ _ _ _ (returns-in-Err-clause-cause g c)
