use Rattle.std.proofs.Common.{arith, pos, ◌≤ℤ◌, Ok, Err}
use Rattle.nav_eph.specs.declared.calendar.WeekFault.TheVariants.{NoSuchDate, BeforeEpoch, TooFar}
use Rattle.jiff_core.proofs.SignedLemmas.{signed_arith}
use Rattle.nav_eph.proofs.Days.{first_day-is, days_after, moment-of, one_civil}
use Rattle.nav_eph.proofs.DateFunctions.{moment_to-only}
use Rattle.nav_eph.proofs.dates.moment_of.Goals as goal

pub returns-then-number-lt-FIRST_DAY-clause-answer : goal.returns-then-number-lt-FIRST_DAY-clause-answer
returns-then-number-lt-FIRST_DAY-clause-answer c = (c.in-Some.ensures.0, omega (arith, signed_arith, first_day-is, c.in-Some.ensures.1, c.in-Some.ensures.2))

pub returns-then-number-ge-DAYS-clause-answer : goal.returns-then-number-ge-DAYS-clause-answer
returns-then-number-ge-DAYS-clause-answer c = (c.in-Some.ensures.0, omega (arith, signed_arith, first_day-is, c.in-Some.ensures.1, c.in-Some.ensures.2))

pub from_seconds-requires : goal.from_seconds-requires
from_seconds-requires c =
    let from : pos 3657 ≤ℤ c.in-Some.number = omega (arith, signed_arith, c.in-Some.ensures.2) in
    let to : c.in-Some.number ≤ℤ pos 200000 = omega (arith, signed_arith, c.in-Some.ensures.2) in
    let after = days_after c.in-Some.number from to in
    omega (arith, signed_arith, after, c.in-Some.ensures.0.1, c.in-Some.ensures.0.2, c.in-Some.ensures.0.3, c.in-Some.ensures.2)

pub returns-clause-answer : goal.returns-clause-answer
returns-clause-answer c =
    let from : pos 3657 ≤ℤ c.in-Some.number = omega (arith, signed_arith, c.in-Some.ensures.2) in
    let to : c.in-Some.number ≤ℤ pos 200000 = omega (arith, signed_arith, c.in-Some.ensures.2) in
    let after = days_after c.in-Some.number from to in
    moment-of c.args.date.now c.in-Some.number _ c.time_of.result c.from_seconds.result c.in-Some.ensures.0 c.in-Some.ensures.1 after
    (omega (arith, signed_arith, after, c.in-Some.ensures.2)) c.time_of.ensures c.from_seconds.ensures

pub returns-clause-again : goal.returns-clause-again
returns-clause-again c = λ d of_m. one_civil d c.args.date.now c.from_seconds.result of_m (returns-clause-answer c).0

pub returns-in_default-clause-value : goal.returns-in_default-clause-value
returns-in_default-clause-value c = moment_to-only c.args.date.now (Err NoSuchDate) c.in_default.ensures

pub returns-then-number-lt-FIRST_DAY-clause-value : goal.returns-then-number-lt-FIRST_DAY-clause-value
returns-then-number-lt-FIRST_DAY-clause-value c =
    moment_to-only c.args.date.now (Err BeforeEpoch) (returns-then-number-lt-FIRST_DAY-clause-answer c)

pub returns-then-number-ge-DAYS-clause-value : goal.returns-then-number-ge-DAYS-clause-value
returns-then-number-ge-DAYS-clause-value c =
    moment_to-only c.args.date.now (Err TooFar) (returns-then-number-ge-DAYS-clause-answer c)

pub returns-clause-value : goal.returns-clause-value
returns-clause-value c = moment_to-only c.args.date.now (Ok c.from_seconds.result) (returns-clause-answer c)
