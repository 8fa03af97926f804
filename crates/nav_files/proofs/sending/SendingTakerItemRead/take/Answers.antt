use Rattle.std.proofs.Common.{[], ◌∙◌}
use Rattle.std.proofs.lemmas.Result.{err_from_is_err_and}
use Rattle.sent_captures.specs.Sendable.{sent_head}
use Rattle.nav_files.specs.Sends.{outcome_report, outcome_text}
use Rattle.nav_files.proofs.SentLemmas.{counts_room, counts_with, slot_with, told_between, reported_more}
use Rattle.nav_files.proofs.Tolds.{room_for}
use Rattle.nav_files.proofs.sending.SendingTakerItemRead.take.Goals as goal

pub returns-in_err-tell-clause-output : goal.returns-in_err-tell-clause-output
returns-in_err-tell-clause-output g c =
    let p = err_from_is_err_and c.from_residual.result c.from_residual.ensures.1 in
    rw p.1 (λ reads start held so_far. told_between sent_head outcome_text c.args.self.now.r _ reads c.args.read.now _ start _ _ held.1 c.outcome_of-told.ensures.told so_far c.in_err-tell.ensures.part)

pub returns-in_err-tell-clause-report : goal.returns-in_err-tell-clause-report
returns-in_err-tell-clause-report g c =
    let p = err_from_is_err_and c.from_residual.result c.from_residual.ensures.1 in
    rw p.1 (λ reads start held so_far. told_between [] outcome_report c.args.self.now.r _ reads c.args.read.now _ start _ _ held.1 c.outcome_of-told.ensures.told so_far c.in_err-tell.ensures.report_part)

pub count_outcome-requires-clause-room : goal.count_outcome-requires-clause-room
count_outcome-requires-clause-room g c = let few = c.requires.few in counts_room c.args.self.now.r few.0 _ few.1.0 few.2

pub next_slot-slot-requires : goal.next_slot-slot-requires
next_slot-slot-requires g c = let few = c.requires.few in room_for c.args.self.now.r _ few.0 few.1.1

pub returns-clause-output : goal.returns-clause-output
returns-clause-output g c = λ reads start held so_far. reported_more sent_head outcome_text c.args.self.now.r _ reads c.args.read.now _ start _ _ held.1 c.outcome_of-told.ensures.told so_far c.in_ok-tell.ensures.output

pub returns-clause-report : goal.returns-clause-report
returns-clause-report g c = λ reads start held so_far. reported_more [] outcome_report c.args.self.now.r _ reads c.args.read.now _ start _ _ held.1 c.outcome_of-told.ensures.told so_far c.in_ok-tell.ensures.report

pub returns-clause-held : goal.returns-clause-held
returns-clause-held g c = λ reads held. (
  c.count_outcome.ensures.counts ∙ counts_with c.args.self.now.r _ reads c.args.read.now _ _ held.1 c.outcome_of-told.ensures.told held.0,
  c.next_slot-slot.ensures ∙ slot_with c.args.self.now.r _ reads c.args.read.now _ held.1 c.outcome_of-told.ensures.told,
  c.count_outcome.ensures.counted,
)
