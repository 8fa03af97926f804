-- The numbers of frames, from their times.
use Rattle.std.proofs.Common.{◌≡◌, ℕ, suc, ◌+◌, ◌-◌, ◌*◌, ◌/◌, ◌%◌, ◌<◌, ◌≤◌, ◌&&◌, not, Bool, true}
use Rattle.std.proofs.Common.{false, refl, sym, ap, ap₂, ◌∙◌, subst, arith, Some, Result, Ok, Err}
use Rattle.std.proofs.Common.{if◌then◌else◌}
use Rattle.std.specs.Prelude.{nat_le, nat_lt, nat_eq}
use Rattle.std.proofs.lemmas.Bool.{leb-true, ltb-true, le-leb, le-ltb, lt-ltb}
use Rattle.std.proofs.lemmas.Bool.Decides.{nat_tests}
use Rattle.nav_eph.specs.Functions.{first_from}
use Rattle.nav_tables.specs.declared.times.FrameTime.{FrameTime}
use Rattle.nav_tables.specs.declared.times.Times.{Times}
use Rattle.nav_tables.specs.declared.times.TimeFault.TheVariants.{Epoch, Sent, Day}
use Rattle.nav_tables.specs.Times.{IsTimeOf, epoch_at, frame_in, frame_numbers, has_day, is_sent}
use Rattle.nav_tables.specs.Times.{time_of}
use Rattle.nav_tables.specs.Days.{start, days_of, day_of_number, period_of}
use Rattle.nav_tables.proofs.WeekLemmas.{both}
use Rattle.nav_tables.proofs.DayLemmas.{IsDayOf}

-- day d has a number in period n
record IsNumbered (n d : ℕ) : Type 0 where
  pub some : 1 ≤ n
  pub few : n ≤ 31
  pub is : IsDayOf n (d - start n + 1) d

few_days : (n nt : ℕ) (b : Bool) → nat_eq n 27 ≡ b → nt ≤ 1461 → (n ≡ 27 → nt ≤ 1460)
    → nt ≤ days_of n
few_days n nt true e most last = rw e (last (let same : n ≡ 27 = grind (arith, nat_tests) in same))
few_days n nt false e most last = rw e most

numbered : (d : ℕ) (b : Bool) → nat_lt d 45285 ≡ b → 5839 ≤ d → d < 51129
    → IsNumbered (period_of d) d
numbered d true e from to =
    let n = (d - 4378) / 1461 in
    let same : period_of d ≡ n = rw e refl in
    let less : d < 45285 = ltb-true d 45285 e in
    let few : n < 28 = omega arith in
    let first : start n ≡ 4378 + 1461 * n = rw (lt-ltb n 28 few) (omega arith) in
    subst (λ p. IsNumbered p d) (sym same) (record {
      some = omega arith;
      few = omega arith;
      is = record {
        some = omega arith;
        few = few_days n (d - start n + 1) (nat_eq n 27) refl (omega (arith, first))
            (λ last. omega (arith, first, last));
        is = omega (arith, first);
      };
    })
numbered d false e from to =
    let n = (d + 1 - 4378) / 1461 in
    let same : period_of d ≡ n = rw e refl in
    let late : 45285 ≤ d = grind (arith, nat_tests) in
    let more : 28 ≤ n = omega arith in
    let first : start n ≡ 4377 + 1461 * n = rw (le-ltb n 28 more) (omega arith) in
    subst (λ p. IsNumbered p d) (sym same) (record {
      some = omega arith;
      few = omega arith;
      is = record {
        some = omega arith;
        few = few_days n (d - start n + 1) (nat_eq n 27) refl (omega (arith, first))
            (λ last. omega (arith, more, last));
        is = omega (arith, first);
      };
    })

day_numbered : (n nt d : ℕ) → IsDayOf n nt d → day_of_number n nt ≡ Some d
day_numbered n nt d h =
    let same : start n + nt - 1 ≡ d = omega (arith, h.is) in
    rw (le-leb 1 nt h.some, le-leb nt (days_of n) h.few) (ap Some same)

-- the time of day again
time_again : (s : ℕ) → s % 30 ≡ 0 → s < 86400
    → 3600 * (s / 3600) + 60 * (s / 60 % 60) + 30 * (s / 30 % 2) ≡ s
time_again s half less = omega arith

epoch_again : (e f : ℕ) → e % 900 ≡ 0 → f < e + 43200 → e < f + 43200 → 504489600 ≤ f
    → first_from 86400 (f - 43199) (900 * (e % 86400 / 900)) ≡ e
epoch_again e f quarter before after late = omega arith

told_is : (t : Times) → (t.epoch + 10800) % 900 ≡ 0 → (t.frame + 10800) % 30 ≡ 0
    → t.frame < t.epoch + 43200 → t.epoch < t.frame + 43200
    → 504489600 ≤ t.frame + 10800 → t.frame + 10800 < 4417545600
    → IsTimeOf (frame_numbers (t.epoch + 10800) (t.frame + 10800)) t
told_is t quarter half before after from to =
    let e = t.epoch + 10800 in
    let f = t.frame + 10800 in
    let d = f / 86400 in
    let x = frame_numbers e f in
    let n = numbered d (nat_lt d 45285) refl (omega arith) (omega arith) in
    let near : 86400 * d + time_of x ≡ f
    = omega (arith, time_again (f % 86400) (omega arith) (omega arith)) in
    let epoch : epoch_at (86400 * d + time_of x) x.quarter ≡ t.epoch
    = ap (λ m. epoch_at m x.quarter) near
    ∙ omega (arith, epoch_again e f quarter (omega arith) (omega arith) from) in
    let frame : 86400 * d + time_of x - 10800 ≡ t.frame = omega (arith, near) in
    record {
      range = record {
        period = n.few;
        hour = omega arith;
        minute = omega arith;
        half = omega arith;
        quarter = omega arith;
      };
      some = n.some;
      day = day_numbered x.period x.day d n.is;
      time = ap₂ {C = Times} (λ a b. record { epoch = a; frame = b }) epoch frame;
    }

-- a condition that is passed on the way to an answer
pub passed : {A E : Type 0} → (b : Bool) (fault : E) (rest : Result A E) (x : A)
    → (if not b then Err fault else rest) ≡ Ok x → (b ≡ true) × (rest ≡ Ok x)
passed true fault rest x h = (refl, h)
passed false fault rest x h = absurd cc

-- two answers of one question
pub ok_same : {A E : Type 0} → (r : Result A E) (x y : A) → r ≡ Ok x → r ≡ Ok y → x ≡ y
ok_same (Ok z) x y e f = cc
ok_same (Err z) x y e f = absurd cc

pub frame_is : (times : Times) (t : FrameTime) → frame_in times ≡ Ok t
    → IsTimeOf t times × (t.additional ≡ 0)
unfolding frame_in
frame_is times t h =
    let e = times.epoch + 10800 in
    let f = times.frame + 10800 in
    let a = passed (nat_eq (e % 900) 0) Epoch _ t h in
    let b = passed (is_sent e f) Sent _ t a.1 in
    let c = passed (has_day f) Day (Ok (frame_numbers e f)) t b.1 in
    let sent = both (nat_eq (f % 30) 0 && nat_lt f (e + 43200)) (nat_lt e (f + 43200)) b.0 in
    let half = both (nat_eq (f % 30) 0) (nat_lt f (e + 43200)) sent.0 in
    let day = both (nat_le 504489600 f) (nat_lt f 4417545600) c.0 in
    let quarter : e % 900 ≡ 0 = grind (arith, nat_tests, a.0) in
    let whole : f % 30 ≡ 0 = grind (arith, nat_tests, half.0) in
    let before = ltb-true f (e + 43200) half.1 in
    let after = ltb-true e (f + 43200) sent.1 in
    let is = told_is times quarter whole (omega (arith, before)) (omega (arith, after))
    (leb-true 504489600 f day.0) (ltb-true f 4417545600 day.1) in
    subst (λ x. IsTimeOf x times × (x.additional ≡ 0))
    (ok_same (Ok (frame_numbers e f)) (frame_numbers e f) t refl c.1) (is, refl)

pub frame_epoch : (times : Times) (t : FrameTime) → frame_in times ≡ Ok t → times.epoch % 900 ≡ 0
unfolding frame_in
frame_epoch times t h =
    let a = passed (nat_eq ((times.epoch + 10800) % 900) 0) Epoch _ t h in
    let quarter : (times.epoch + 10800) % 900 ≡ 0 = grind (arith, nat_tests, a.0) in
    omega (arith, quarter)
