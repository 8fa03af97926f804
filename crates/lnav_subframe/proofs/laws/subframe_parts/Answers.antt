use Rattle.lnav_subframe.proofs.Values.{part_sat, part_sendable, part_stamp, part_value}
use Rattle.lnav_subframe.proofs.Ranges.{part_ranges}
use Rattle.lnav_subframe.proofs.laws.subframe_parts.Goals as goal

pub returns-clause-stamp : goal.returns-clause-stamp
returns-clause-stamp c = part_stamp

pub returns-clause-satellite : goal.returns-clause-satellite
returns-clause-satellite c = part_sat

pub returns-clause-sendable : goal.returns-clause-sendable
returns-clause-sendable c = part_sendable

pub returns-clause-value : goal.returns-clause-value
returns-clause-value c = part_value

pub returns-clause-ranges : goal.returns-clause-ranges
returns-clause-ranges c = part_ranges
