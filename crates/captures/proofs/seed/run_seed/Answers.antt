use Rattle.std.proofs.Common.{◌<◌, ◌^◌, ℕ, List, Some, length, refl, sym, subst, ◌∙◌}
use Rattle.std.specs.Prelude.{IsSome}
use Rattle.std.proofs.KnownBytes.{Appends-nil}
use Rattle.captures.specs.Captures.{capture_of}
use Rattle.captures.specs.Seeds.{generated}
use Rattle.captures.proofs.SeedEnds.{ended_capture, ended_count, is_accepted, no_memory}
use Rattle.captures.proofs.seed.run_seed.Goals as goal

pub returns-in-Err : goal.returns-in-Err
returns-in-Err g c = no_memory c.args.to c.args.seed c.args.sats c.args.week _

pub returns-in-Capture : goal.returns-in-Capture
returns-in-Capture g c =
    ended_capture c.args.to c.args.seed c.args.sats c.args.week c.as_slice.result.now _ _ c.write_text.result c.in-Capture.is (c.as_slice.ensures.value ∙ c.in-Ok.ensures.text) refl refl refl refl
    (Appends-nil (g.U.Sink.written c.args.report.now)) c.write_text.ensures

pub count_text-requires-clause-short : goal.count_text-requires-clause-short
count_text-requires-clause-short g c =
    subst (λ (l : List ℕ). length l < 2 ^ 32) (sym c.in-Ok.ensures.text) (c.captures_are_short.ensures.function c.args.seed c.args.sats c.args.week c.value-count.ensures.fits.1)

pub count_text-requires-clause-accepted : goal.count_text-requires-clause-accepted
count_text-requires-clause-accepted g c =
    subst (λ (l : List ℕ). IsSome (capture_of (Some c.args.week) l)) (sym c.in-Ok.ensures.text)
    (is_accepted _ (generated c.args.seed c.args.sats c.args.week) (c.generated_captures_are_accepted.ensures.capture c.args.seed c.args.sats c.args.week))

pub returns-in-Count : goal.returns-in-Count
returns-in-Count g c =
    let laws = c.generated_captures_are_accepted.ensures in
    ended_count c.args.to c.args.seed c.args.sats c.args.week c.in-Ok.text.items _ _ c.count_text.result c.in-Count.is c.in-Ok.ensures.text (laws.capture c.args.seed c.args.sats c.args.week)
    (laws.output c.args.seed c.args.sats c.args.week) (laws.report c.args.seed c.args.sats c.args.week) refl refl c.count_text.ensures
