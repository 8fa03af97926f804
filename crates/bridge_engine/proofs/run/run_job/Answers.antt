use Rattle.std.proofs.Common.{refl}
use Rattle.streams.specs.FrameLines.{frames_meaning}
use Rattle.bridge_engine.specs.declared.done.Done.{Done}
use Rattle.bridge_engine.specs.declared.done.Done.TheVariants as dones
use Rattle.bridge_engine.proofs.Beside.{beside_input, beside_report, whatever_bytes}
use Rattle.one_run.proofs.Surface.{given_as, ahead_given, ahead_given_by}
use Rattle.bridge_engine.proofs.run.run_job.Goals as goal

pub returns-in-StreamToFrames : goal.returns-in-StreamToFrames
returns-in-StreamToFrames g c = rw c.in-StreamToFrames.is (record { ended = given_as dones.Frames _ _ _ _ _ c.frames.ensures (beside_report frames_meaning _ _ c.args.report.now (g.U.Sink.written c.args.report.now) (g.U.Sink.faults c.args.report.now) _ refl refl refl c.run_frames.ensures.ended); also = ahead_given_by dones.Frames _ _ _ _ _ c.frames.ensures (beside_report frames_meaning _ _ c.args.report.now (g.U.Sink.written c.args.report.now) (g.U.Sink.faults c.args.report.now) _ refl refl refl c.run_frames.ensures.ended) })

pub returns-in-Capture : goal.returns-in-Capture
returns-in-Capture g c = rw c.in-Capture.is (record { ended = given_as dones.Capture _ _ _ _ _ c.capture.ensures c.run_capture.ensures.ended; also = ahead_given _ dones.Capture _ _ c.capture.ensures c.run_capture.ensures.ahead })

pub returns-in-Stream : goal.returns-in-Stream
returns-in-Stream g c = rw c.in-Stream.is (record { ended = given_as dones.Stream _ _ _ _ _ c.stream.ensures c.run_stream.ensures.ended; also = ahead_given_by dones.Stream _ _ _ _ _ c.stream.ensures c.run_stream.ensures.ended })

pub returns-in-Rinex : goal.returns-in-Rinex
returns-in-Rinex g c = rw c.in-Rinex.is (record { ended = given_as dones.File _ _ _ _ _ c.file.ensures c.run_rinex.ensures; also = ahead_given_by dones.File _ _ _ _ _ c.file.ensures c.run_rinex.ensures })

pub returns-in-Rinex3 : goal.returns-in-Rinex3
returns-in-Rinex3 g c = rw c.in-Rinex3.is (record { ended = given_as dones.File _ _ _ _ _ c.file-in-Rinex3.ensures c.run_rinex3.ensures; also = ahead_given_by dones.File _ _ _ _ _ c.file-in-Rinex3.ensures c.run_rinex3.ensures })

pub returns-in-SendRinex : goal.returns-in-SendRinex
returns-in-SendRinex g c = rw c.in-SendRinex.is (record { ended = given_as dones.Sent _ _ _ _ _ c.sent.ensures c.send_rinex.ensures; also = ahead_given_by dones.Sent _ _ _ _ _ c.sent.ensures c.send_rinex.ensures })

pub returns-in-SendRinex3 : goal.returns-in-SendRinex3
returns-in-SendRinex3 g c = rw c.in-SendRinex3.is (record { ended = given_as dones.Sent _ _ _ _ _ c.sent-in-SendRinex3.ensures c.send_rinex3.ensures; also = ahead_given_by dones.Sent _ _ _ _ _ c.sent-in-SendRinex3.ensures c.send_rinex3.ensures })

pub returns-in-Merge : goal.returns-in-Merge
returns-in-Merge g c = rw c.in-Merge.is (record { ended = given_as dones.Merged _ _ _ _ _ c.merged.ensures c.run_merge.ensures; also = ahead_given_by dones.Merged _ _ _ _ _ c.merged.ensures c.run_merge.ensures })

pub returns-in-Cover : goal.returns-in-Cover
returns-in-Cover g c = rw c.in-Cover.is (record { ended = given_as dones.Covered _ _ _ _ _ c.covered.ensures c.run_cover.ensures; also = ahead_given_by dones.Covered _ _ _ _ _ c.covered.ensures c.run_cover.ensures })

pub returns-in-Seed : goal.returns-in-Seed
returns-in-Seed g c = rw c.in-Seed.is (record { ended = given_as dones.Generated _ _ _ _ _ c.generated.ensures (beside_input _ _ _ c.args.input.now (g.S.Source.left c.args.input.now) (g.S.Source.never_fails c.args.input.now) (g.S.Source.faults c.args.input.now) _ refl c.run_seed.ensures); also = whatever_bytes {C = Done} _ (g.S.Source.left c.args.input.now) c.generated.result (ahead_given_by dones.Generated _ _ _ _ _ c.generated.ensures (beside_input _ _ _ c.args.input.now (g.S.Source.left c.args.input.now) (g.S.Source.never_fails c.args.input.now) (g.S.Source.faults c.args.input.now) _ refl c.run_seed.ensures)) })
