use Rattle.capture_lines.proofs.Written.{lnav_written, half_written, frame_written}
use Rattle.capture_lines.proofs.laws.texts_stand_for_their_items.Goals as goal

pub returns-clause-lnav : goal.returns-clause-lnav
returns-clause-lnav c = lnav_written

pub returns-clause-half : goal.returns-clause-half
returns-clause-half c = half_written

pub returns-clause-frame : goal.returns-clause-frame
returns-clause-frame c = frame_written
