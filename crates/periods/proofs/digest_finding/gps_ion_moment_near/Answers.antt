use Rattle.std.proofs.Common.{◌≡◌, ◌+◌, ◌*◌, ap, ◌∙◌, arith}
use Rattle.nav_eph.specs.Functions.{moment_near}
use Rattle.nav_eph.proofs.Surface.{moment_near-only}
use Rattle.periods.proofs.digest_finding.gps_ion_moment_near.Goals as goal

pub returns : goal.returns
returns c =
    let near : c.from_seconds-near.result ≡ 604800 * c.args.r + c.args.transmission.now.stamp = grind arith in
    moment_near-only c.from_seconds-near.result c.args.transmission.now.second c.nearest_moment.result c.nearest_moment.ensures ∙ ap (λ t. moment_near t c.args.transmission.now.second) near
