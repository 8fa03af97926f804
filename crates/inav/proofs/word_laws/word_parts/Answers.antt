use Rattle.inav.proofs.Values.{parts_ranges, parts_sat, parts_sendable, parts_stamp, parts_value}
use Rattle.inav.proofs.word_laws.word_parts.Goals as goal

pub returns-clause-stamps : goal.returns-clause-stamps
returns-clause-stamps c = parts_stamp

pub returns-clause-satellites : goal.returns-clause-satellites
returns-clause-satellites c = parts_sat

pub returns-clause-sendable : goal.returns-clause-sendable
returns-clause-sendable c = parts_sendable

pub returns-clause-values : goal.returns-clause-values
returns-clause-values c = parts_value

pub returns-clause-ranges : goal.returns-clause-ranges
returns-clause-ranges c = parts_ranges
