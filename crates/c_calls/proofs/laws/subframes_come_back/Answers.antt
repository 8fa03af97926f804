use Rattle.std.proofs.Common.{subst}
use Rattle.nav_eph.specs.Conditions.{IsPart}
use Rattle.nav_eph.specs.Satellite.{Satellite}
use Rattle.c_calls.proofs.SubframesAgain.{can_be_written, written_again}
use Rattle.c_calls.proofs.laws.subframes_come_back.Goals as goal

pub returns-clause-written : goal.returns-clause-written
returns-clause-written c = written_again (record { read = c.subframe_bytes_are_written.ensures.read })

pub returns-clause-read : goal.returns-clause-read
returns-clause-read c = λ bits sat part old gps is.
    let same = c.subframe_parts.ensures.satellite bits sat 0 part is in
    can_be_written sat part.body old gps
    (subst (λ (s : Satellite). IsPart s part.body) same (c.subframe_parts.ensures.sendable bits sat 0 part gps is))
    (c.subframe_parts.ensures.ranges bits sat 0 part is)
