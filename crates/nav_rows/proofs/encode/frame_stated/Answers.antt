use Rattle.std.proofs.Common.{◌≡◌, ◌/◌, ◌<◌, ◌≤◌, sym, ap, ◌∙◌, refl, arith}
use Rattle.std.proofs.lemmas.Bool.{le-leb, lt-ltb}
use Rattle.nav_eph.specs.Functions.{moment_near}
use Rattle.nav_eph.proofs.Surface.{moment_near-only}
use Rattle.nav_tables.specs.Times.{frame_in}
use Rattle.nav_rows.specs.Encoding.{frame_stated}
use Rattle.nav_rows.proofs.encode.frame_stated.Goals as goal

pub returns : goal.returns
returns c =
    let m = c.args.moment in
    let s = c.args.sent in
    let few : s < 604800 = omega arith in
    let some : 1 ≤ m / 604800 = omega arith in
    let most : m / 604800 ≤ 16382 = omega arith in
    let frame : c.nearest_moment-frame.result ≡ moment_near m s
    = moment_near-only m c.from_number.result c.nearest_moment-frame.result
    c.nearest_moment-frame.ensures
    ∙ ap (moment_near m) c.from_number.ensures in
    let said : frame_stated m s ≡ frame_in (record { epoch = m; frame = moment_near m s })
    = rw (lt-ltb s 604800 few, le-leb 1 (m / 604800) some, le-leb (m / 604800) 16382 most) refl in
    c.frame_time.ensures.value ∙ ap (λ f. frame_in (record { epoch = m; frame = f })) frame
    ∙ sym said
