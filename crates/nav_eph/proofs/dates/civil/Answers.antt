use Rattle.std.proofs.Common.{◌≡◌, ◌+◌, ◌/◌, ◌≤◌, ◌∙◌, arith, pos, ap}
use Rattle.jiff_core.proofs.SignedLemmas.{signed_arith}
use Rattle.nav_eph.proofs.Days.{year_from_1970, as_day, as_year, year_fits, civil-of}
use Rattle.nav_eph.proofs.DateFunctions.{civil_to-only}
use Rattle.nav_eph.proofs.dates.civil.Goals as goal

pub date_of-date-requires-clause-last : goal.date_of-date-requires-clause-last
date_of-date-requires-clause-last c =
    let few : 3657 + c.value-days.result / 86400 ≤ 200000 = omega (arith, c.value-days.ensures.fits) in
    omega (arith, signed_arith, as_day (3657 + c.value-days.result / 86400) few)

pub overflow_cast-result : goal.overflow_cast-result
overflow_cast-result c =
    let few : 3657 + c.value-days.result / 86400 ≤ 200000 = omega (arith, c.value-days.ensures.fits) in
    let day = c.date_of-date.ensures ∙ as_day (3657 + c.value-days.result / 86400) few in
    let from = year_from_1970 c.date_of-date.result (omega (arith, signed_arith, day)) in
    year_fits c.date_of-date.result.year from (omega (arith, signed_arith, c.date_of-date.result.year_in))

pub returns-clause-date : goal.returns-clause-date
returns-clause-date c =
    let few : 3657 + c.value-days.result / 86400 ≤ 200000 = omega (arith, c.value-days.ensures.fits) in
    let same : c.value-days.result ≡ c.args.moment = c.value-days.ensures.same in
    let day = c.date_of-date.ensures ∙ as_day (3657 + c.value-days.result / 86400) few ∙ ap (λ n. pos (3657 + n / 86400)) same in
    let from = year_from_1970 c.date_of-date.result (omega (arith, signed_arith, day)) in
    civil-of c.date_of-date.result _ _ _ _ c.args.moment (as_year c.date_of-date.result.year from (omega (arith, signed_arith, c.date_of-date.result.year_in))) day (omega arith) (omega arith) (omega arith)

pub returns-clause-again : goal.returns-clause-again
returns-clause-again c = (returns-clause-date c, c.value-days.ensures.fits)

pub returns-clause-value : goal.returns-clause-value
returns-clause-value c =
    civil_to-only _ c.args.moment (returns-clause-date c) (returns-clause-again c).1
