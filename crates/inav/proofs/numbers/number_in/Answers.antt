use Rattle.std.proofs.Common.{◌≡◌, ℕ, ◌+◌, ◌*◌, ◌^◌, sym, ap, subst, ◌∙◌}
use Rattle.nav_eph.specs.declared.sat.System.TheVariants.{Gal}
use Rattle.inav.specs.Keeping.{stamped}
use Rattle.inav.specs.Mirrors.{half_of, key_at, lane_of, number_of}
use Rattle.inav.proofs.Shown.{half_of_number}
use Rattle.inav.proofs.numbers.number_in.Goals as goal

pub returns-clause-part : goal.returns-clause-part
returns-clause-part c = λ stamp.
    let half = c.args.half.now in
    let lane : c.from.result ≡ lane_of c.args.number c.args.signal = c.from.ensures ∙ c.lane.ensures.same in
    let is : c.from.result * 2 ^ 120 + c.number.result ≡ number_of c.args.number c.args.signal half =
    ap (λ n. n * 2 ^ 120 + c.number.result) lane ∙ ap (λ n. lane_of c.args.number c.args.signal * 2 ^ 120 + n) c.number.ensures.same in
    let P : ℕ → Type 0 = λ n. half_of (key_at stamp n) ≡ stamped stamp (record { system = Gal; number = c.args.number }) c.args.signal half in
    subst P (sym is) (half_of_number stamp c.args.number c.args.signal half c.requires c.number.ensures.form.fits)
