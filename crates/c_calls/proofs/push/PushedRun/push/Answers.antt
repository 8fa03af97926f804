use Rattle.std.proofs.Common.{[], sym, subst}
use Rattle.std.specs.Prelude.{IfErr, OnOk}
use Rattle.c_calls.specs.Mirrors.{BreaksOff, GoesOn, KeepsReleased}
use Rattle.c_calls.specs.Pending.{all_of}
use Rattle.c_calls.specs.declared.push.PushedRun.{PushedRun}
use Rattle.c_calls.specs.declared.push.PushedRun.TheVariants.{Capture, Stream}
use Rattle.c_calls.proofs.Marks.{capture_keeps, capture_off, capture_on, stream_keeps, stream_off, stream_on}
use Rattle.c_calls.proofs.RunLemmas.{capture_breaks, capture_goes, either, either_on, if_err, on_err, on_ok, on_ok3, stream_breaks, stream_goes}
use Rattle.c_calls.proofs.push.PushedRun.push.Goals as goal

pub returns-in-Capture : goal.returns-in-Capture
returns-in-Capture c =
    let o = c.args.output.now in
    let r = c.args.report.now in
    let o' = c.push.new.output in
    let r' = c.push.new.report in
    let piece = c.args.piece.now in
    let run = c.in-Capture.run' in
    let run' = c.push.new.self in
    record {
      goes = subst (λ (old : PushedRun). OnOk c.push.result (GoesOn old (Capture run') piece (all_of o) (all_of o') (all_of r) (all_of r'))) (sym c.in-Capture.is)
          (on_ok c.push.result c.push.ensures.pushed
          (λ goes. capture_goes run run' piece (all_of o) (all_of o') (all_of r) (all_of r') c.push.ensures.same (λ bytes is. (capture_on o o' r r' run run' piece goes bytes is).0)));
      breaks = subst (λ (old : PushedRun). IfErr c.push.result (BreaksOff old piece (all_of o) (all_of o') (all_of r) (all_of r'))) (sym c.in-Capture.is)
          (if_err c.push.result c.push.ensures.short
          (λ fault short. capture_breaks run piece (all_of o) (all_of o') (all_of r) (all_of r') fault (λ bytes more is. (capture_off o o' r r' run piece fault short bytes more is).0)));
      kept = subst (λ (old : PushedRun). KeepsReleased old o o' r r') (sym c.in-Capture.is)
          (either c.push.result c.push.ensures.pushed c.push.ensures.short
          (λ goes. capture_keeps o o' r r' run (λ bytes is. (capture_on o o' r r' run run' piece goes bytes is).1))
          (λ fault short. capture_keeps o o' r r' run (λ bytes is. (capture_off o o' r r' run piece fault short bytes [] is).1)));
    }

pub returns-in-Stream : goal.returns-in-Stream
returns-in-Stream c =
    let call = c.push-in-Stream in
    let o = c.args.output.now in
    let r = c.args.report.now in
    let o' = call.new.output in
    let r' = call.new.report in
    let piece = c.args.piece.now in
    let run = c.in-Stream.run' in
    let run' = call.new.self in
    record {
      goes = subst (λ (old : PushedRun). OnOk call.result (GoesOn old (Stream run') piece (all_of o) (all_of o') (all_of r) (all_of r'))) (sym c.in-Stream.is)
          (on_ok3 call.result call.ensures.pushed call.ensures.taken call.ensures.open
          (λ goes taken going. stream_goes run run' piece (all_of o) (all_of o') (all_of r) (all_of r') call.ensures.same (λ bytes is. (stream_on o o' r r' run run' piece goes bytes is).0) taken going));
      breaks = subst (λ (old : PushedRun). IfErr call.result (BreaksOff old piece (all_of o) (all_of o') (all_of r) (all_of r'))) (sym c.in-Stream.is)
          (on_err call.result call.ensures.short call.ensures.kinds
          (λ fault short kind. stream_breaks run piece (all_of o) (all_of o') (all_of r) (all_of r') fault (λ bytes more is. (stream_off o o' r r' run piece short bytes more is).0) kind));
      kept = subst (λ (old : PushedRun). KeepsReleased old o o' r r') (sym c.in-Stream.is)
          (either_on call.result call.ensures.pushed call.ensures.short
          (λ goes. stream_keeps o o' r r' run (λ bytes is. (stream_on o o' r r' run run' piece goes bytes is).1))
          (λ short. stream_keeps o o' r r' run (λ bytes is. (stream_off o o' r r' run piece short bytes [] is).1)));
    }
