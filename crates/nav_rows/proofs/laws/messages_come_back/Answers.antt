use Rattle.nav_rows.proofs.EncodeLemmas.{frames_back, weeks_back}
use Rattle.nav_rows.proofs.laws.messages_come_back.Goals as goal

pub returns-clause-weeks : goal.returns-clause-weeks
returns-clause-weeks c = weeks_back

pub returns-clause-frames : goal.returns-clause-frames
returns-clause-frames c = frames_back
