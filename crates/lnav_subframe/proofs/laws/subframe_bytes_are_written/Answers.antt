use Rattle.lnav_subframe.proofs.Stand.{are_subframe_bytes, bytes_read, is_written}
use Rattle.lnav_subframe.proofs.laws.subframe_bytes_are_written.Goals as goal

pub returns-clause-written : goal.returns-clause-written
returns-clause-written c = is_written

pub returns-clause-size : goal.returns-clause-size
returns-clause-size c = are_subframe_bytes

pub returns-clause-read : goal.returns-clause-read
returns-clause-read c = bytes_read
