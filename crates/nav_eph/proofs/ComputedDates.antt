-- Values of the functions of dates and weeks, computed.
use Rattle.std.proofs.Common.{◌≡◌, Ok, refl}
use Rattle.nav_eph.specs.Functions.{civil_to, galileo_week_to, gps_week_to, moment_near, moment_to, month_from, year_from}
use Rattle.jiff_core.specs.Calendar.{day_count, days_of_months, days_of_years}

-- GPS time 1,388,016,000 is 2023-12-31 00:00:00
new_years_eve : civil_to 1388016000 ≡ record {
  year = 2023;
  month = 12;
  day = 31;
  hour = 0;
  minute = 0;
  second = 0;
}
unfolding civil_to year_from month_from
new_years_eve = refl

-- the last GPS time is 2294-01-06 23:59:59
last_moment : civil_to 9909043199 ≡ record {
  year = 2294;
  month = 1;
  day = 6;
  hour = 23;
  minute = 59;
  second = 59;
}
unfolding civil_to year_from month_from
last_moment = refl

-- GPS time 1,393,286,399 is the last second of a leap day
leap_day : civil_to 1393286399 ≡ record {
  year = 2024;
  month = 2;
  day = 29;
  hour = 23;
  minute = 59;
  second = 59;
}
unfolding civil_to year_from month_from
leap_day = refl

-- the same the other way
leap_day-again : moment_to (record { year = 2024; month = 2; day = 29; hour = 23; minute = 59; second = 59 }) ≡ Ok 1393286399
unfolding moment_to day_count days_of_years days_of_months
leap_day-again = refl

-- the ten-bit number 759 and the twelve-bit number 4095 near week 2295
gps_number : gps_week_to 2295 759 ≡ 1783
unfolding gps_week_to
gps_number = refl

galileo_number : galileo_week_to 2295 4095 ≡ 5119
unfolding galileo_week_to
galileo_number = refl

-- the later of two GPS times equally near
later_of_two : moment_near 1388016000 302400 ≡ 1388318400
unfolding moment_near
later_of_two = refl
