use Rattle.std.proofs.Common.{◌≡◌, ℕ, ◌+◌, ◌*◌, ◌-◌, ap, ap₂, ◌∙◌}
use Rattle.nav_eph.specs.Functions.{moment_near}
use Rattle.nav_eph.proofs.Surface.{moment_near-only}
use Rattle.nav_tables.specs.Weeks.{week_to}
use Rattle.nav_rows.specs.declared.times.RowTimes.{RowTimes}
use Rattle.nav_rows.specs.Times.{number}
use Rattle.nav_rows.proofs.times.week_times.Goals as goal

pub returns-clause-value : goal.returns-clause-value
returns-clause-value c =
    let k = c.args.clock.now in
    let zs = c.args.numbers.now in
    let told : ℕ = week_to k.rule c.args.reference (number zs k.week) in
    let week : c.week_near-week.result ≡ told = c.week_near-week.ensures.value
    ∙ ap (week_to k.rule c.args.reference) c.number_at.ensures in
    let toe : c.toe_of.result ≡ 604800 * told + k.step * number zs k.toe
    = c.toe_of.ensures.same ∙ ap₂ (λ w n. 604800 * w + k.step * n) week c.number_at-2.ensures in
    let toc : c.from_number.result ≡ k.step * number zs k.toc = c.from_number.ensures
    ∙ ap (λ n. k.step * n) c.number_at-3.ensures in
    let epoch : c.nearest_moment.result ≡ moment_near (604800 * told + k.step * number zs k.toe)
    (k.step * number zs k.toc)
    = moment_near-only c.toe_of.result c.from_number.result c.nearest_moment.result
    c.nearest_moment.ensures ∙ ap₂ moment_near toe toc in
    ap₂ {C = RowTimes} (λ m w. record {
      epoch = m;
      week = w - k.zero;
      sent = 0;
    }) epoch (c.value.ensures.same ∙ week)
