-- Weeks of any width.
use Rattle.std.proofs.Common.{◌≡◌, ℕ, ◌+◌, ◌-◌, ◌*◌, ◌/◌, ◌%◌, ◌^◌, ◌<◌, ◌≤◌, ◌&&◌, ◌⊎◌, inl, inr}
use Rattle.std.proofs.Common.{Bool, true, false, refl, sym, ap, ◌∙◌, arith, mul-le-mul}
use Rattle.std.proofs.Math.Nat.{add-mul-mod_self_right}
use Rattle.std.specs.Prelude.{nat_le}
use Rattle.std.proofs.Math.Nat.{mod-eq_of_lt, pow-le-pow_right, mod-add-div'}
use Rattle.std.proofs.lemmas.Nat.{mod_below, pow_pos}
use Rattle.std.proofs.lemmas.Bool.{leb-true}
use Rattle.nav_tables.specs.declared.week.WeekRule.{WeekRule}
use Rattle.nav_eph.specs.Functions.{first_from}
use Rattle.nav_tables.specs.Weeks.{IsWeekNear, first_week, is_week_rule, number_of_week, week_to}

-- numbers that differ by multiples of p
same_rest : (a b m n p : ℕ) → a + m * p ≡ b + n * p → a % p ≡ b % p
same_rest a b m n p e = sym (add-mul-mod_self_right a m p) ∙ ap (λ x. x % p) e
    ∙ add-mul-mod_self_right b n p

-- the first number from low on with the rest of x
pub record IsFirst (p low x w : ℕ) : Type 0 where
  pub same : w % p ≡ x % p
  pub from : low ≤ w
  pub to : w < low + p

pub first_is : (p low x : ℕ) → 0 < p → IsFirst p low x (first_from p low x)
first_is p low x some =
    let s = low % p in
    let less : s < p = mod_below low p some in
    let whole = mod-add-div' low p in
    let y = x + p - s in
    let rest = mod-add-div' y p in
    let below : y % p < p = mod_below y p some in
    let turned : (low + y % p) + (y / p) * p ≡ x + (low / p + 1) * p
    = omega (arith, less, whole, rest) in
    record {
      same = same_rest (low + y % p) x (y / p) (low / p + 1) p turned;
      from = omega arith;
      to = omega (arith, below);
    }

apart : (p a b q r s : ℕ) → a ≡ s + q * p → b ≡ s + r * p → q < r → a + p ≤ b
apart p a b q r s a_is b_is less = let more : (q + 1) * p ≤ r * p
    = mul-le-mul (omega arith) (omega arith) in omega arith

three : (q r : ℕ) → (q < r) ⊎ ((r < q) ⊎ (q ≡ r))
three q r = grind arith

first_by : (p low x v w q r : ℕ) → IsFirst p low x v → IsFirst p low x w → v ≡ x % p + q * p
    → w ≡ x % p + r * p → v ≡ w
first_by p low x v w q r a b v_is w_is = elim (three q r) [
  | inl h ↦ let far = apart p v w q r (x % p) v_is w_is h in absurd (omega (arith, a.from, b.to))
  | inr (inl h) ↦ let far
      = apart p w v r q (x % p) w_is v_is h in absurd (omega (arith, b.from, a.to))
  | inr (inr h) ↦ v_is ∙ ap (λ n. x % p + n * p) h ∙ sym w_is
]

pub first_only : (p low x v w : ℕ) → 0 < p → IsFirst p low x v → IsFirst p low x w → v ≡ w
first_only p low x v w some a b =
    let v_is : v ≡ x % p + (v / p) * p = sym (mod-add-div' v p)
    ∙ ap (λ n. n + (v / p) * p) a.same in
    let w_is : w ≡ x % p + (w / p) * p = sym (mod-add-div' w p)
    ∙ ap (λ n. n + (w / p) * p) b.same in
    first_by p low x v w (v / p) (w / p) a b v_is w_is

pub near_is : (rule : WeekRule) (r n : ℕ) → IsWeekNear rule r n (week_to rule r n)
unfolding week_to
near_is rule r n =
    let f = first_is (2 ^ rule.bits) (first_week rule r) (n + rule.zero) (pow_pos rule.bits) in
    record { same = f.same; from = f.from; to = f.to }

pub near_only : (rule : WeekRule) (r n v w : ℕ) → IsWeekNear rule r n v → IsWeekNear rule r n w
    → v ≡ w
near_only rule r n v w a b =
    first_only (2 ^ rule.bits) (first_week rule r) (n + rule.zero) v w (pow_pos rule.bits)
    (record { same = a.same; from = a.from; to = a.to }) (record {
      same = b.same;
      from = b.from;
      to = b.to;
    })

-- the number of a week stands for it
pub number_near : (rule : WeekRule) (r w : ℕ) → first_week rule r ≤ w
    → w < first_week rule r + 2 ^ rule.bits → IsWeekNear rule r (number_of_week rule w) w
number_near rule r w from to =
    let p = 2 ^ rule.bits in
    let some : 0 < p = pow_pos rule.bits in
    let s = rule.zero % p in
    let less : s < p = mod_below rule.zero p some in
    let whole = mod-add-div' rule.zero p in
    let y = w + p - s in
    let rest = mod-add-div' y p in
    let turned : w + (rule.zero / p + 1) * p ≡ (y % p + rule.zero) + (y / p) * p
    = omega (arith, less, whole, rest) in
    record {
      same = same_rest w (y % p + rule.zero) (rule.zero / p + 1) (y / p) p turned;
      from = from;
      to = to;
    }

pub week_again : (rule : WeekRule) (r w : ℕ) → first_week rule r ≤ w
    → w < first_week rule r + 2 ^ rule.bits → week_to rule r (number_of_week rule w) ≡ w
week_again rule r w from to =
    near_only rule r (number_of_week rule w) _ w (near_is rule r (number_of_week rule w))
    (number_near rule r w from to)

-- the week of a number has it
pub number_again : (rule : WeekRule) (r n : ℕ) → n < 2 ^ rule.bits
    → number_of_week rule (week_to rule r n) ≡ n
number_again rule r n few =
    let p = 2 ^ rule.bits in
    let some : 0 < p = pow_pos rule.bits in
    let w = week_to rule r n in
    let s = rule.zero % p in
    let less : s < p = mod_below rule.zero p some in
    let same : w % p ≡ (n + rule.zero) % p = (near_is rule r n).same in
    let whole = mod-add-div' rule.zero p in
    let of_week = mod-add-div' w p in
    let of_number = mod-add-div' (n + rule.zero) p in
    let y = w + p - s in
    let turned : y + ((n + rule.zero) / p) * p ≡ n + (w / p + rule.zero / p + 1) * p
    = omega (arith, less, same, whole, of_week, of_number) in
    same_rest y n ((n + rule.zero) / p) (w / p + rule.zero / p + 1) p turned ∙ mod-eq_of_lt few

-- what a rule of weeks keeps
pub record IsGoodRule (rule : WeekRule) : Type 0 where
  pub some : 2 ≤ 2 ^ rule.bits
  pub most : 2 ^ rule.bits ≤ 8192
  pub zero_few : rule.zero ≤ 7000

pub both : (a b : Bool) → (a && b) ≡ true → (a ≡ true) × (b ≡ true)
both true true e = (refl, refl)
both true false e = (refl, e)
both false b e = (e, (cc))

pub good_rule : (rule : WeekRule) → is_week_rule rule ≡ true → IsGoodRule rule
good_rule rule e =
    let a = both (nat_le 1 rule.bits && nat_le rule.bits 13 && nat_le rule.zero 7000)
    (nat_le 1 (first_week rule 1024)) e in
    let b = both (nat_le 1 rule.bits && nat_le rule.bits 13) (nat_le rule.zero 7000) a.0 in
    let c = both (nat_le 1 rule.bits) (nat_le rule.bits 13) b.0 in
    let low : 2 ^ 1 ≤ 2 ^ rule.bits = pow-le-pow_right (omega arith) (leb-true 1 rule.bits c.0) in
    let high : 2 ^ rule.bits ≤ 2 ^ 13
    = pow-le-pow_right (omega arith) (leb-true rule.bits 13 c.1) in
    record { some = omega arith; most = omega arith; zero_few = leb-true rule.zero 7000 b.1 }
