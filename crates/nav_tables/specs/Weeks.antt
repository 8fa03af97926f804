-- Weeks of any width.
use Rattle.std.specs.Prelude.{◌≡◌, ℕ, ◌+◌, ◌-◌, ◌/◌, ◌%◌, ◌^◌, ◌<◌, ◌≤◌, ◌&&◌, max, Bool, nat_le}
use Rattle.nav_eph.specs.Functions.{first_from}
use Rattle.nav_tables.specs.declared.week.WeekRule.{WeekRule}

-- the first week for which a number can stand near the reference week r
abbrev pub first_week : WeekRule → ℕ → ℕ
first_week rule r = max rule.zero (r - 2 ^ rule.bits / 2)

-- w is the week of the number n near the reference week r
pub record IsWeekNear (rule : WeekRule) (r n w : ℕ) : Type 0 where
  pub same : w % 2 ^ rule.bits ≡ (n + rule.zero) % 2 ^ rule.bits
  pub from : first_week rule r ≤ w
  pub to : w < first_week rule r + 2 ^ rule.bits

-- 1 to 13 bits, week 0 before week 7000, and no reference week near which a number means week 0
abbrev pub is_week_rule : WeekRule → Bool
is_week_rule rule = nat_le 1 rule.bits && nat_le rule.bits 13 && nat_le rule.zero 7000
    && nat_le 1 (first_week rule 1024)

-- the week of a number
unfoldable pub week_to : WeekRule → ℕ → ℕ → ℕ
week_to rule r n = first_from (2 ^ rule.bits) (first_week rule r) (n + rule.zero)

-- the number of a week
abbrev pub number_of_week : WeekRule → ℕ → ℕ
number_of_week rule w = (w + 2 ^ rule.bits - rule.zero % 2 ^ rule.bits) % 2 ^ rule.bits
