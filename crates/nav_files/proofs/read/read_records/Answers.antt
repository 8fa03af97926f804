use Rattle.std.proofs.Common.{refl, ap, ◌∙◌}
use Rattle.std.proofs.lemmas.Result.{err_from_is_err_and}
use Rattle.nav_files.proofs.ReadLemmas.{all_read, breaks_later, breaks_taking, none_read, room_for, some_more, some_read, some_start}
use Rattle.nav_files.proofs.read.read_records.Goals as goal

pub records-init : goal.records-init
records-init g c = record {
  follow = c.steps_compose.ensures.records;
  header = c.requires.header;
  some = some_start (g.F.FileForm.form c.args.form.now) _ _ _ _ _ (c.steps_compose.ensures.none _ _) c.requires.counts;
  read = refl;
  never = λ quiet. quiet;
}

pub returns-in-Err-clause-broken : goal.returns-in-Err-clause-broken
returns-in-Err-clause-broken g c =
    breaks_later (g.F.FileForm.form c.args.form.now) _ _ _ _ _ _ _ _ _ _ _ c.records.invariant.follow c.records.invariant.some c.in-Err.ensures.broken

pub returns-in-Ok-None-clause-all : goal.returns-in-Ok-None-clause-all
returns-in-Ok-None-clause-all g c =
    all_read (g.F.FileForm.form c.args.form.now) _ _ _ _ _ _ _ _ _ _ c.records.invariant.follow c.records.invariant.some
    (none_read (g.F.FileForm.form c.args.form.now) _ _ _ _ _ c.in-Ok-None.field-0-is c.in-Ok-None.ensures.read)

pub returns-in_err-take_read-in-Ok-Some-clause-broken : goal.returns-in_err-take_read-in-Ok-Some-clause-broken
returns-in_err-take_read-in-Ok-Some-clause-broken g c =
    let p = err_from_is_err_and c.from_residual.result c.from_residual.ensures.1 in
    let gives = some_read (g.F.FileForm.form c.args.form.now) _ _ _ _ _ _ c.in-Ok-Some.field-0-is c.in-Ok-Some.ensures.read in
    rw (p.1, p.2) (breaks_taking (g.F.FileForm.form c.args.form.now) _ _ _ _ _ _ _ _ _ _ _ _ c.records.invariant.follow c.records.invariant.some gives c.in_err-take_read-in-Ok-Some.ensures.fault)

pub records-preserved : goal.records-preserved
records-preserved g c =
    let gives = some_read (g.F.FileForm.form c.args.form.now) _ _ _ _ _ _ c.in-Ok-Some.field-0-is c.in-Ok-Some.ensures.read in
    record {
      follow = c.records.invariant.follow;
      header = c.next_read.ensures.header;
      some = some_more (g.F.FileForm.form c.args.form.now) _ _ _ _ _ _ _ _ _ _ _ _ _ c.records.invariant.follow c.records.invariant.some gives c.in_ok-take_read-in-Ok-Some.ensures.items c.count_read.ensures;
      read = ap (λ f. f.input) c.in-Ok-Some.ensures.cause ∙ c.records.invariant.read;
      never = λ quiet. (c.in-Ok-Some.ensures.never (c.records.invariant.never quiet)).1;
    }

pub count_read-requires : goal.count_read-requires
count_read-requires g c = room_for (g.F.FileForm.form c.args.form.now) _ _ _ _ _ _ _ _ c.records.invariant.some
