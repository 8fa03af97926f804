use Rattle.std.proofs.Common.{sym, ◌∙◌, arith}
use Rattle.std.proofs.lemmas.Bool.{true≢false}
use Rattle.nav_eph.specs.Satellite.{Satellite}
use Rattle.nav_eph.specs.declared.sat.System.TheVariants.{Gal}
use Rattle.inav.specs.Keeping.{stamped}
use Rattle.inav.specs.Mirrors.{key_at}
use Rattle.inav.specs.Kept.{keys_in}
use Rattle.inav.proofs.Placing.{are_keys}
use Rattle.inav.proofs.Shown.{is_key}
use Rattle.inav.proofs.Taking.{in_key, key_in}
use Rattle.inav.proofs.joining.keep.Goals as goal

pub returns-then-branch-clause-words : goal.returns-then-branch-clause-words
returns-then-branch-clause-words c =
    let sat : Satellite = record { system = Gal; number = c.args.number } in
    let key = key_at c.args.stamp c.number_in.result in
    let taken = stamped c.args.stamp sat c.args.signal c.args.half.now in
    λ fresh. absurd (fresh (key_in (keys_in c.args.kept.now) key taken (c.number_in.ensures.part c.args.stamp) (c.in_ok-put.ensures.there.0 c.if-branch.true)))

pub returns-then-branch-clause-kept : goal.returns-then-branch-clause-kept
returns-then-branch-clause-kept c =
    (key_at c.args.stamp c.number_in.result, c.number_in.ensures.part c.args.stamp, c.in_ok-put.ensures.kept)

pub returns-then-branch-clause-held : goal.returns-then-branch-clause-held
returns-then-branch-clause-held c =
    (key_at c.args.stamp c.number_in.result, c.number_in.ensures.part c.args.stamp, c.in_ok-put.ensures.held)

pub returns-clause-kept : goal.returns-clause-kept
returns-clause-kept c = (key_at c.args.stamp c.number_in.result, c.number_in.ensures.part c.args.stamp, c.in_ok-put.ensures.kept)

pub returns-clause-held : goal.returns-clause-held
returns-clause-held c = (key_at c.args.stamp c.number_in.result, c.number_in.ensures.part c.args.stamp, c.in_ok-put.ensures.held)

pub returns-clause-again : goal.returns-clause-again
returns-clause-again c =
    let sat : Satellite = record { system = Gal; number = c.args.number } in
    let key = key_at c.args.stamp c.number_in.result in
    let taken = stamped c.args.stamp sat c.args.signal c.args.half.now in
    λ there. absurd (true≢false (sym (c.in_ok-put.ensures.there.1
    (in_key (keys_in c.args.kept.now) key taken (are_keys c.args.kept.now c.requires.seconds)
    (is_key c.args.stamp c.number_in.result (omega arith) c.number_in.ensures.fits) (c.number_in.ensures.part c.args.stamp) there))
    ∙ c.if-branch.false))
