use Rattle.std.proofs.Common.{◌≡◌, ◌+◌, ◌≤◌, ◌⊎◌, ◌↔◌, inl, length, map, ap, subst, ◌∙◌, arith}
use Rattle.std.specs.Prelude.{Contains, IfOk, OnOk}
use Rattle.nav_eph.specs.Satellite.{Satellite}
use Rattle.inav.specs.Received.{StampedHalf, AreWordsWith}
use Rattle.inav.specs.Keeping.{Keeping, stamped, HoldsOneSecond, IsKeptWith}
use Rattle.inav.specs.Mirrors.{half_of}
use Rattle.inav.specs.Kept.{keys_held, keys_in}
use Rattle.inav.proofs.Holding.{fewer_halves, held_after, one_second}
use Rattle.inav.proofs.Taking.{if_ok, kept_after, kept_without, not_among, on_ok, on_ok_then, satellite_is}
use Rattle.inav.proofs.halves.Halves.take.Goals as goal

pub returns-then-is_too_old-clause-again : goal.returns-then-is_too_old-clause-again
returns-then-is_too_old-clause-again c =
    let taken = stamped c.args.stamp c.args.sat c.args.signal c.args.half.now in
    let old = c.is_too_old.ensures.0 c.if-is_too_old.true in
    let Is : Keeping → Type 0 = λ v. Contains v.kept taken → ⊥ in
    let absent : Is c.args.self.now = subst Is c.self.view_is (not_among c.self.inside.kept taken c.self.invariant old) in
    if_ok c.join_with_kept.result _ (λ joined there. absurd (absent there))

pub returns-then-is_too_old-clause-kept : goal.returns-then-is_too_old-clause-kept
returns-then-is_too_old-clause-kept c =
    let taken = stamped c.args.stamp c.args.sat c.args.signal c.args.half.now in
    let old = c.is_too_old.ensures.0 c.if-is_too_old.true in
    let Stays : Keeping → Type 0 = λ v. (other : StampedHalf) → Contains v.kept other ↔ IsKeptWith v taken v.greatest other in
    on_ok c.join_with_kept.result _ (subst Stays c.self.view_is (kept_without c.self.inside.kept taken c.self.invariant old))

pub returns-clause-words : goal.returns-clause-words
returns-clause-words c =
    let Are : Keeping → Satellite → Type 0 = λ v s. IfOk c.keep.result (λ joined.
    (Contains v.kept (stamped c.args.stamp s c.args.signal c.args.half.now) → ⊥)
    → AreWordsWith (Contains v.kept) (stamped c.args.stamp s c.args.signal c.args.half.now) joined.words) in
    let Is : Keeping → Type 0 = λ v. Are v c.args.sat in
    let Own : Satellite → Type 0 = λ s. IfOk c.keep.result (λ joined.
    (Contains (map half_of (keys_in c.self.inside.kept)) (stamped c.args.stamp s c.args.signal c.args.half.now) → ⊥)
    → AreWordsWith (Contains (map half_of (keys_in c.self.inside.kept))) (stamped c.args.stamp s c.args.signal c.args.half.now) joined.words) in
    subst Is c.self.view_is (subst Own (satellite_is c.args.sat c.number-number.result c.requires c.number-number.ensures.same) c.keep.ensures.words)

pub returns-clause-kept : goal.returns-clause-kept
returns-clause-kept c =
    let taken = stamped c.args.stamp c.args.sat c.args.signal c.args.half.now in
    let new = c.keep.new.kept in
    let Stays : Keeping → Type 0 = λ v. OnOk c.keep.result
    ((other : StampedHalf) → Contains (map half_of (keys_in new)) other ↔ IsKeptWith v taken new.greatest other) in
    let sat_is = satellite_is c.args.sat c.number-number.result c.requires c.number-number.ensures.same in
    subst Stays c.self.view_is
    (on_ok_then c.keep.result _ _
    (λ got. kept_after (keys_in c.self.inside.kept) (keys_in new) got.0 taken c.self.inside.kept.window new.greatest
    (got.1 ∙ ap (λ (s : Satellite). stamped c.args.stamp s c.args.signal c.args.half.now) sat_is) got.2.0)
    c.keep.ensures.kept)

pub returns-then-is_too_old-clause-held : goal.returns-then-is_too_old-clause-held
returns-then-is_too_old-clause-held c = on_ok c.join_with_kept.result _ (λ other there. inl there)

pub returns-then-is_too_old-clause-held_room : goal.returns-then-is_too_old-clause-held_room
returns-then-is_too_old-clause-held_room c = on_ok c.join_with_kept.result _ (omega arith)

pub returns-then-is_too_old-clause-held_seconds : goal.returns-then-is_too_old-clause-held_seconds
returns-then-is_too_old-clause-held_seconds c = subst HoldsOneSecond c.self.view_is (one_second c.self.inside.kept c.self.invariant)

pub returns-clause-held : goal.returns-clause-held
returns-clause-held c =
    let taken = stamped c.args.stamp c.args.sat c.args.signal c.args.half.now in
    let old = keys_held c.self.inside.kept.places.items in
    let new = keys_held c.keep.new.kept.places.items in
    let Holds : Keeping → Type 0 = λ v. OnOk c.keep.result
    ((other : StampedHalf) → Contains (map half_of new) other → Contains v.held other ⊎ (taken ≡ other)) in
    let sat_is = satellite_is c.args.sat c.number-number.result c.requires c.number-number.ensures.same in
    subst Holds c.self.view_is
    (on_ok_then c.keep.result _ _
    (λ got. held_after old new got.0 taken (got.1 ∙ ap (λ (s : Satellite). stamped c.args.stamp s c.args.signal c.args.half.now) sat_is) got.2.0)
    c.keep.ensures.held)

pub returns-clause-held_room : goal.returns-clause-held_room
returns-clause-held_room c =
    let old = keys_held c.self.inside.kept.places.items in
    let new = keys_held c.keep.new.kept.places.items in
    let Fewer : Keeping → Type 0 = λ v. OnOk c.keep.result (length (map half_of new) ≤ length v.held + 1) in
    subst Fewer c.self.view_is (on_ok_then c.keep.result _ _ (λ got. fewer_halves old new got.2.1) c.keep.ensures.held)

pub returns-clause-held_seconds : goal.returns-clause-held_seconds
returns-clause-held_seconds c = one_second c.keep.new.kept c.keep.ensures.seconds
