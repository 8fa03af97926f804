use Rattle.std.proofs.Common.{refl, ap, subst, ◌∙◌}
use Rattle.std.specs.Prelude.{Option, IfSome}
use Rattle.std.proofs.lemmas.Result.{err_from_is_err_and}
use Rattle.nav_files.proofs.RecordLemmas.{none_read, some_read}
use Rattle.nav_files.proofs.TakenLemmas.{part_of_break, part_of_take, room_for, taken_more, taken_start, takes_all}
use Rattle.nav_files.proofs.taker.process_records.Goals as goal

pub records-init : goal.records-init
records-init g c = record {
  follow = c.steps_compose.ensures.near;
  follow_early = c.steps_compose.ensures.early;
  nears = c.steps_compose.ensures.early_near;
  header = c.requires.header;
  taken = taken_start (g.F.FileForm.form c.args.form.now) _ _ _ _ _ _ _ (c.steps_compose.ensures.near_none _ _) c.requires.nothing;
  read = refl;
  write = refl;
  report = refl;
  never = λ quiet. quiet;
}

pub returns-in-Err-clause-broken : goal.returns-in-Err-clause-broken
returns-in-Err-clause-broken g c =
    part_of_break (g.F.FileForm.form c.args.form.now) _ _ _ g.K.Taker.memory _ _ _ _ _ _ _ _ _ _ _ c.records.invariant.follow_early c.requires.grows c.requires.tells c.records.invariant.taken c.in-Err.ensures.broken

pub returns-in-Ok-None-clause-all : goal.returns-in-Ok-None-clause-all
returns-in-Ok-None-clause-all g c =
    takes_all (g.F.FileForm.form c.args.form.now) _ _ _ _ _ _ _ _ _ _ _ _ _ c.records.invariant.follow c.records.invariant.taken
    (none_read (g.F.FileForm.form c.args.form.now) _ _ _ _ _ c.in-Ok-None.field-0-is c.in-Ok-None.ensures.read)

pub returns-in_err-take-in-Ok-Some-clause-broken : goal.returns-in_err-take-in-Ok-Some-clause-broken
returns-in_err-take-in-Ok-Some-clause-broken g c =
    let p = err_from_is_err_and c.from_residual.result c.from_residual.ensures.1 in
    let gives = some_read (g.F.FileForm.form c.args.form.now) _ _ _ _ _ _ c.in-Ok-Some.field-0-is c.in-Ok-Some.ensures.read in
    let take = c.in_err-take-in-Ok-Some.ensures in
    rw (p.1, p.2) (part_of_take (g.F.FileForm.form c.args.form.now) _ _ _ g.K.Taker.memory _ _ _ _ _ _ _ _ _ _ _ _ _ _ c.records.invariant.follow c.records.invariant.nears c.records.invariant.taken gives take.output take.report take.kinds)

pub records-preserved : goal.records-preserved
records-preserved g c =
    let gives = some_read (g.F.FileForm.form c.args.form.now) _ _ _ _ _ _ c.in-Ok-Some.field-0-is c.in-Ok-Some.ensures.read in
    let take = c.in_ok-take-in-Ok-Some.ensures in
    record {
      follow = c.records.invariant.follow;
      follow_early = c.records.invariant.follow_early;
      nears = c.records.invariant.nears;
      header = c.next_read.ensures.header;
      taken = taken_more (g.F.FileForm.form c.args.form.now) _ _ _ _ _ _ _ _ _ _ _ _ _ _ _ _ _ c.records.invariant.follow c.records.invariant.taken gives take.held take.output take.report;
      read = ap (λ f. f.input) c.in-Ok-Some.ensures.cause ∙ c.records.invariant.read;
      write = ap (λ f. f.output) take.cause ∙ c.records.invariant.write;
      report = ap (λ f. f.report) take.cause ∙ c.records.invariant.report;
      never = λ quiet. (c.in-Ok-Some.ensures.never (c.records.invariant.never quiet)).1;
    }

pub take-requires-clause-few : goal.take-requires-clause-few
take-requires-clause-few g c =
    let taken = c.records.invariant.taken in
    (taken.given, taken.held, room_for (g.F.FileForm.form c.args.form.now) _ _ _ _ _ _ _ _ _ _ _ taken)

pub take-requires-clause-known : goal.take-requires-clause-known
take-requires-clause-known g c = c.requires.known _ (subst (λ (o : Option _). IfSome o g.F.FileForm.whole) c.in-Ok-Some.field-0-is c.in-Ok-Some.ensures.whole)
