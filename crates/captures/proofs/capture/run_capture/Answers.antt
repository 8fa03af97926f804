use Rattle.std.proofs.Common.{◌≡◌, ℕ, [], refl, ap, ◌∙◌, Err, arith}
use Rattle.one_run.specs.Causes.{Faults}
use Rattle.one_run.specs.declared.fault.BridgeFault.TheVariants.{ReadFault, WriteFault}
use Rattle.captures.specs.Flushed.{with_counts}
use Rattle.captures.proofs.CaptureEnds.{IsFresh, ahead_of, all_done, all_taken, begin_cause, end_cause, end_form, end_quiet, end_read, end_stopped, one_line, convert_cause, convert_stops, converted_form, head_cause, head_part, head_stops, stopped_by, write_form, write_read}
use Rattle.captures.proofs.Converting.{stands_start}
use Rattle.captures.proofs.Prefixes.{LogLaws}
use Rattle.captures.proofs.capture.run_capture.Goals as goal

pub returns-in-Err-clause-ended : goal.returns-in-Err-clause-ended
returns-in-Err-clause-ended g c =
    let fresh : IsFresh c.new-lines.result = record { rest = c.new-lines.ensures.rest; ended = c.new-lines.ensures.ended; taken = c.new-lines.ensures.taken; number = c.new-lines.ensures.number } in
    stopped_by c.args.to.now c.target-target.result c.args.week _ _ c.in-Err.fault c.target-target.ensures
    (head_stops c.target-target.result c.args.week _ _ _ _ c.new-lines.result c.first_line.new.lines c.in-Err.fault fresh c.in-Err.ensures.broken)
    (head_cause c.args.week _ _ c.new-lines.result c.first_line.new.lines _ _ _ _ c.in-Err.fault c.in-Err.ensures.broken (λ e. c.in-Err.ensures.read (ap Err e))
    (λ other. c.in-Err.ensures.still (λ e. other (let same : c.in-Err.fault ≡ ReadFault = cc in same))))
    (λ e quiet. (c.in-Err.ensures.never quiet).0 (ap Err e)) (λ e. (refl, refl))

pub returns-in-Err-clause-ahead : goal.returns-in-Err-clause-ahead
returns-in-Err-clause-ahead g c =
    let fresh : IsFresh c.new-lines.result = record { rest = c.new-lines.ensures.rest; ended = c.new-lines.ensures.ended; taken = c.new-lines.ensures.taken; number = c.new-lines.ensures.number } in
    ahead_of c.args.to.now c.target-target.result c.args.week _ _ _ _ _ _ c.in-Err.fault c.target-target.ensures
    (head_stops c.target-target.result c.args.week _ _ _ _ c.new-lines.result c.first_line.new.lines c.in-Err.fault fresh c.in-Err.ensures.broken)

pub returns-in-Err-begin-clause-ended : goal.returns-in-Err-begin-clause-ended
returns-in-Err-begin-clause-ended g c =
    let fresh : IsFresh c.new-lines.result = record { rest = c.new-lines.ensures.rest; ended = c.new-lines.ensures.ended; taken = c.new-lines.ensures.taken; number = c.new-lines.ensures.number } in
    stopped_by c.args.to.now c.target-target.result c.args.week _ _ WriteFault c.target-target.ensures
    (head_part c.target-target.result c.args.week _ _ _ _ _ c.new-lines.result c.first_line.new.lines c.in-Ok.head fresh c.in-Ok.ensures.accepted c.in-Err-begin.ensures.bytes)
    (begin_cause _ _ _ _ _ c.in-Err-begin.ensures.cause.failed c.in-Ok.ensures.quiet) (λ e quiet. write_read e) (λ e. absurd (write_form e))

pub returns-in-Err-begin-clause-ahead : goal.returns-in-Err-begin-clause-ahead
returns-in-Err-begin-clause-ahead g c =
    let fresh : IsFresh c.new-lines.result = record { rest = c.new-lines.ensures.rest; ended = c.new-lines.ensures.ended; taken = c.new-lines.ensures.taken; number = c.new-lines.ensures.number } in
    ahead_of c.args.to.now c.target-target.result c.args.week _ _ _ _ _ _ WriteFault c.target-target.ensures
    (head_part c.target-target.result c.args.week _ _ _ _ _ c.new-lines.result c.first_line.new.lines c.in-Ok.head fresh c.in-Ok.ensures.accepted c.in-Err-begin.ensures.bytes)

pub convert-requires-clause-past : goal.convert-requires-clause-past
convert-requires-clause-past g c =
    let fresh : IsFresh c.new-lines.result = record { rest = c.new-lines.ensures.rest; ended = c.new-lines.ensures.ended; taken = c.new-lines.ensures.taken; number = c.new-lines.ensures.number } in
    let first = one_line _ _ _ _ _ _ fresh c.in-Ok.ensures.accepted in
    record {
      head = c.in-Ok.head;
      past = [];
      start = _;
      told = _;
      number_is = first;
      few = omega (arith, first);
      stands = stands_start _ c.in-Ok.head c.new-receiving.result _ _ c.in-Ok.ensures.most c.new-receiving.ensures;
    }

pub returns-in-Err-convert-clause-ended : goal.returns-in-Err-convert-clause-ended
returns-in-Err-convert-clause-ended g c =
    let laws : LogLaws = record { later = c.what_is_closed_stays.ensures.later; rise = c.what_is_closed_stays.ensures.rise; prefix = c.what_is_closed_stays.ensures.prefix; values = c.parts_of_lines_are_values.ensures } in
    let fresh : IsFresh c.new-lines.result = record { rest = c.new-lines.ensures.rest; ended = c.new-lines.ensures.ended; taken = c.new-lines.ensures.taken; number = c.new-lines.ensures.number } in
    let broke = c.in-Err-convert.ensures.converts c.in-Ok.head [] _ _ (one_line _ _ _ _ _ _ fresh c.in-Ok.ensures.accepted) (stands_start _ c.in-Ok.head c.new-receiving.result _ _ c.in-Ok.ensures.most c.new-receiving.ensures) in
    stopped_by c.args.to.now c.target-target.result c.args.week _ _ c.in-Err-convert.fault c.target-target.ensures
    (convert_stops laws c.target-target.result c.args.week _ _ _ _ _ _ _ _ c.new-lines.result c.first_line.new.lines c.convert.new.lines c.convert.new.receiving c.in-Ok.head c.in-Err-convert.fault fresh c.in-Ok.ensures.accepted
    c.in-Ok-begin.ensures.bytes broke)
    (convert_cause _ _ _ _ _ _ c.in-Err-convert.fault c.in-Err-convert.ensures.cause c.in-Ok.ensures.quiet c.in-Ok-begin.ensures.cause.stays)
    (λ e quiet. c.in-Err-convert.ensures.never (c.in-Ok.ensures.never quiet).1 (ap Err e))
    (λ e. absurd (converted_form _ _ _ _ _ _ _ _ _ _ _ _ c.in-Err-convert.fault broke e))

pub returns-in-Err-convert-clause-ahead : goal.returns-in-Err-convert-clause-ahead
returns-in-Err-convert-clause-ahead g c =
    let laws : LogLaws = record { later = c.what_is_closed_stays.ensures.later; rise = c.what_is_closed_stays.ensures.rise; prefix = c.what_is_closed_stays.ensures.prefix; values = c.parts_of_lines_are_values.ensures } in
    let fresh : IsFresh c.new-lines.result = record { rest = c.new-lines.ensures.rest; ended = c.new-lines.ensures.ended; taken = c.new-lines.ensures.taken; number = c.new-lines.ensures.number } in
    ahead_of c.args.to.now c.target-target.result c.args.week _ _ _ _ _ _ c.in-Err-convert.fault c.target-target.ensures
    (convert_stops laws c.target-target.result c.args.week _ _ _ _ _ _ _ _ c.new-lines.result c.first_line.new.lines c.convert.new.lines c.convert.new.receiving c.in-Ok.head c.in-Err-convert.fault fresh c.in-Ok.ensures.accepted
    c.in-Ok-begin.ensures.bytes (c.in-Err-convert.ensures.converts c.in-Ok.head [] _ _ (one_line _ _ _ _ _ _ fresh c.in-Ok.ensures.accepted) (stands_start _ c.in-Ok.head c.new-receiving.result _ _ c.in-Ok.ensures.most c.new-receiving.ensures)))

pub returns-in-Ok-end_run-clause-ended : goal.returns-in-Ok-end_run-clause-ended
returns-in-Ok-end_run-clause-ended g c =
    let fresh : IsFresh c.new-lines.result = record { rest = c.new-lines.ensures.rest; ended = c.new-lines.ensures.ended; taken = c.new-lines.ensures.taken; number = c.new-lines.ensures.number } in
    let converted = c.in-Ok-convert.ensures.converts c.in-Ok.head [] _ _ (one_line _ _ _ _ _ _ fresh c.in-Ok.ensures.accepted) (stands_start _ c.in-Ok.head c.new-receiving.result _ _ c.in-Ok.ensures.most c.new-receiving.ensures) in
    let taken = all_taken c.target-target.result c.args.week _ _ _ _ _ _ _ _ c.new-lines.result c.first_line.new.lines c.convert.new.lines c.in-Ok.head
    c.convert.new.receiving.receiver.tally c.convert.new.receiving.said c.counts_with-counts.result fresh c.in-Ok.ensures.accepted c.in-Ok-begin.ensures.bytes
    converted (c.counts_with-counts.ensures ∙ ap (λ (n : ℕ). with_counts n c.convert.new.receiving.receiver.tally c.convert.new.receiving.said) c.number.ensures) in
    all_done c.args.to.now c.target-target.result c.args.week _ _ _ _ c.in-Ok.head c.counts_with-counts.result c.target-target.ensures taken c.in-Ok-end_run.ensures.text c.in-Ok-end_run.ensures.report
    (end_quiet _ _ _ _ _ _ _ _ _ _ c.in-Ok-end_run.ensures.cause c.in-Ok-convert.ensures.cause c.in-Ok.ensures.quiet c.in-Ok-begin.ensures.cause.stays)

pub returns-clause-ended : goal.returns-clause-ended
returns-clause-ended g c =
    let laws : LogLaws = record { later = c.what_is_closed_stays.ensures.later; rise = c.what_is_closed_stays.ensures.rise; prefix = c.what_is_closed_stays.ensures.prefix; values = c.parts_of_lines_are_values.ensures } in
    let fresh : IsFresh c.new-lines.result = record { rest = c.new-lines.ensures.rest; ended = c.new-lines.ensures.ended; taken = c.new-lines.ensures.taken; number = c.new-lines.ensures.number } in
    let converted = c.in-Ok-convert.ensures.converts c.in-Ok.head [] _ _ (one_line _ _ _ _ _ _ fresh c.in-Ok.ensures.accepted) (stands_start _ c.in-Ok.head c.new-receiving.result _ _ c.in-Ok.ensures.most c.new-receiving.ensures) in
    let taken = all_taken c.target-target.result c.args.week _ _ _ _ _ _ _ _ c.new-lines.result c.first_line.new.lines c.convert.new.lines c.in-Ok.head
    c.convert.new.receiving.receiver.tally c.convert.new.receiving.said c.counts_with-counts.result fresh c.in-Ok.ensures.accepted c.in-Ok-begin.ensures.bytes
    converted (c.counts_with-counts.ensures ∙ ap (λ (n : ℕ). with_counts n c.convert.new.receiving.receiver.tally c.convert.new.receiving.said) c.number.ensures) in
    let kind = c.in-Err-end_run.ensures.kind in
    stopped_by c.args.to.now c.target-target.result c.args.week _ _ c.in-Err-end_run.fault c.target-target.ensures
    (end_stopped laws c.target-target.result c.args.week _ _ _ _ _ _ _ _ c.in-Ok.head c.counts_with-counts.result c.in-Err-end_run.fault taken c.in-Err-end_run.ensures.part c.in-Err-end_run.ensures.report_part
    (λ e. c.in-Err-end_run.ensures.untold (ap Err e)) (λ e. c.in-Err-end_run.ensures.wrote (ap Err e)) kind)
    (end_cause _ _ _ _ _ _ _ _ c.in-Err-end_run.fault kind c.in-Err-end_run.ensures.cause (ap (λ (f : Faults). f.output) c.in-Ok-convert.ensures.cause ∙ c.in-Ok-begin.ensures.cause.stays)
    (ap (λ (f : Faults). f.report) c.in-Ok-convert.ensures.cause) (ap (λ (f : Faults). f.input) c.in-Ok-convert.ensures.cause ∙ c.in-Ok.ensures.quiet))
    (λ e quiet. end_read c.in-Err-end_run.fault kind e) (λ e. absurd (end_form c.in-Err-end_run.fault kind e))

pub returns-clause-ahead : goal.returns-clause-ahead
returns-clause-ahead g c =
    let laws : LogLaws = record { later = c.what_is_closed_stays.ensures.later; rise = c.what_is_closed_stays.ensures.rise; prefix = c.what_is_closed_stays.ensures.prefix; values = c.parts_of_lines_are_values.ensures } in
    let fresh : IsFresh c.new-lines.result = record { rest = c.new-lines.ensures.rest; ended = c.new-lines.ensures.ended; taken = c.new-lines.ensures.taken; number = c.new-lines.ensures.number } in
    let converted = c.in-Ok-convert.ensures.converts c.in-Ok.head [] _ _ (one_line _ _ _ _ _ _ fresh c.in-Ok.ensures.accepted) (stands_start _ c.in-Ok.head c.new-receiving.result _ _ c.in-Ok.ensures.most c.new-receiving.ensures) in
    let taken = all_taken c.target-target.result c.args.week _ _ _ _ _ _ _ _ c.new-lines.result c.first_line.new.lines c.convert.new.lines c.in-Ok.head
    c.convert.new.receiving.receiver.tally c.convert.new.receiving.said c.counts_with-counts.result fresh c.in-Ok.ensures.accepted c.in-Ok-begin.ensures.bytes
    converted (c.counts_with-counts.ensures ∙ ap (λ (n : ℕ). with_counts n c.convert.new.receiving.receiver.tally c.convert.new.receiving.said) c.number.ensures) in
    ahead_of c.args.to.now c.target-target.result c.args.week _ _ _ _ _ _ c.in-Err-end_run.fault c.target-target.ensures
    (end_stopped laws c.target-target.result c.args.week _ _ _ _ _ _ _ _ c.in-Ok.head c.counts_with-counts.result c.in-Err-end_run.fault taken c.in-Err-end_run.ensures.part c.in-Err-end_run.ensures.report_part
    (λ e. c.in-Err-end_run.ensures.untold (ap Err e)) (λ e. c.in-Err-end_run.ensures.wrote (ap Err e)) c.in-Err-end_run.ensures.kind)
