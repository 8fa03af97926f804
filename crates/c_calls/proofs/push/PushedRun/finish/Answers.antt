use Rattle.std.proofs.Common.{sym, subst}
use Rattle.c_calls.specs.Mirrors.{Ends, EndsShort, KeepsReleased}
use Rattle.c_calls.specs.Pending.{all_of}
use Rattle.c_calls.specs.declared.push.PushedRun.{PushedRun}
use Rattle.c_calls.proofs.Marks.{capture_all, capture_keeps, capture_short, stream_all, stream_keeps, stream_short}
use Rattle.c_calls.proofs.RunLemmas.{capture_ends, capture_ends_short, stream_ends, stream_ends_short}
use Rattle.c_calls.proofs.push.PushedRun.finish.Goals as goal

pub returns-in-Ok : goal.returns-in-Ok
returns-in-Ok c =
    let o = c.args.output.now in
    let r = c.args.report.now in
    let o' = c.finish.new.output in
    let r' = c.finish.new.report in
    let run = c.in-Capture.run' in
    let all = capture_all o o' r r' run c.in-Ok.field-0 c.in-Ok.ensures.whole in
    record {
      ends = subst (λ (old : PushedRun). Ends old (all_of o) (all_of o') (all_of r) (all_of r')) (sym c.in-Capture.is)
          (capture_ends run (all_of o) (all_of o') (all_of r) (all_of r') c.in-Ok.field-0 (λ bytes is. (all bytes is).0));
      short = tt;
      kept = subst (λ (old : PushedRun). KeepsReleased old o o' r r') (sym c.in-Capture.is) (capture_keeps o o' r r' run (λ bytes is. (all bytes is).1));
    }

pub returns-in-Err : goal.returns-in-Err
returns-in-Err c =
    let o = c.args.output.now in
    let r = c.args.report.now in
    let o' = c.finish.new.output in
    let r' = c.finish.new.report in
    let run = c.in-Capture.run' in
    let short = capture_short o o' r r' run c.in-Err.fault c.in-Err.ensures.short in
    record {
      ends = tt;
      short = subst (λ (old : PushedRun). EndsShort old (all_of o) (all_of o') (all_of r) (all_of r') c.in-Err.fault) (sym c.in-Capture.is)
          (capture_ends_short run (all_of o) (all_of o') (all_of r) (all_of r') c.in-Err.fault (λ bytes is. (short bytes is).0));
      kept = subst (λ (old : PushedRun). KeepsReleased old o o' r r') (sym c.in-Capture.is) (capture_keeps o o' r r' run (λ bytes is. (short bytes is).1));
    }

pub returns-in-Ok-finish : goal.returns-in-Ok-finish
returns-in-Ok-finish c =
    let o = c.args.output.now in
    let r = c.args.report.now in
    let o' = c.finish-in-Stream.new.output in
    let r' = c.finish-in-Stream.new.report in
    let run = c.in-Stream.run' in
    let all = stream_all o o' r r' run c.in-Ok-finish.ensures.whole in
    record {
      ends = subst (λ (old : PushedRun). Ends old (all_of o) (all_of o') (all_of r) (all_of r')) (sym c.in-Stream.is)
          (stream_ends run (all_of o) (all_of o') (all_of r) (all_of r') (λ bytes is. (all bytes is).0));
      short = tt;
      kept = subst (λ (old : PushedRun). KeepsReleased old o o' r r') (sym c.in-Stream.is) (stream_keeps o o' r r' run (λ bytes is. (all bytes is).1));
    }

pub returns-in-Err-finish : goal.returns-in-Err-finish
returns-in-Err-finish c =
    let o = c.args.output.now in
    let r = c.args.report.now in
    let o' = c.finish-in-Stream.new.output in
    let r' = c.finish-in-Stream.new.report in
    let run = c.in-Stream.run' in
    let short = stream_short o o' r r' run c.in-Err-finish.ensures.short in
    record {
      ends = tt;
      short = subst (λ (old : PushedRun). EndsShort old (all_of o) (all_of o') (all_of r) (all_of r') c.in-Err-finish.fault) (sym c.in-Stream.is)
          (stream_ends_short run (all_of o) (all_of o') (all_of r) (all_of r') c.in-Err-finish.fault (λ bytes is. (short bytes is).0) c.in-Err-finish.ensures.kinds);
      kept = subst (λ (old : PushedRun). KeepsReleased old o o' r r') (sym c.in-Stream.is) (stream_keeps o o' r r' run (λ bytes is. (short bytes is).1));
    }
