use Rattle.nav_tables.proofs.FrameLemmas.{frame_is}
use Rattle.nav_tables.proofs.day_laws.frames_are_of_times.Goals as goal

pub returns : goal.returns
returns c = frame_is
