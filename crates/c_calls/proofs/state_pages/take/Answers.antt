use Rattle.std.proofs.Common.{◌≡◌, true, false, refl, subst}
use Rattle.std.specs.Prelude.{Some}
use Rattle.c_calls.specs.PagePairs.{PagesState, TakesBits}
use Rattle.c_calls.proofs.PageLemmas.{kept_at, takes}
use Rattle.c_calls.proofs.state_pages.take.Goals as goal

pub returns-in-Ok-take : goal.returns-in-Ok-take
returns-in-Ok-take c =
    let s = c.state.inside in
    let new : PagesState = kept_at c.take.new.self (Some c.in-Ok-take.joined) 0 in
    let took = c.in-Ok-take.ensures in
    subst (λ (old : PagesState). TakesBits old new c.args.part.now.bytes c.args.stamp c.args.satellite c.args.signal 0) c.state.view_is
    (takes (kept_at s.halves s.joined s.given) new c.args.part.now.bytes c.from_bytes.result c.args.stamp c.args.satellite c.args.signal c.in-Some.sat c.in-Some-signal_of.signal c.in-Ok.half
    (c.in-Some.ensures.exactly.0 refl) c.in-Some.ensures.same c.from_bytes.ensures (λ alert. let no : false ≡ true = c.in-Ok.ensures.alert.1 alert in cc) c.in-Ok.ensures.half c.in-Some-signal_of.ensures
    (record {
      words = took.words;
      again = took.again;
      stamp = took.stamp;
      kept = took.kept;
      greatest = took.greatest;
      window = c.take.ensures.window;
    }))
