use Rattle.rtcm_eph.proofs.Items.{parts_ranges, parts_sendable, parts_stamp, parts_value}
use Rattle.rtcm_eph.proofs.laws.message_parts.Goals as goal

pub returns-clause-stamps : goal.returns-clause-stamps
returns-clause-stamps c = parts_stamp

pub returns-clause-sendable : goal.returns-clause-sendable
returns-clause-sendable c = parts_sendable

pub returns-clause-values : goal.returns-clause-values
returns-clause-values c = parts_value

pub returns-clause-ranges : goal.returns-clause-ranges
returns-clause-ranges c = parts_ranges
