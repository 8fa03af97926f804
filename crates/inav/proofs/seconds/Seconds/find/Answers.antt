use Rattle.std.proofs.Common.{◌≡◌, List, Some, None, length, refl, sym, subst, ◌∙◌}
use Rattle.std.proofs.lemmas.Bool.{true≢false}
use Rattle.std.proofs.lemmas.Option.{slice_get_past, slice_get_read}
use Rattle.std.specs.List.{slice_get}
use Rattle.inav.specs.declared.second.Second.{Second}
use Rattle.inav.proofs.Placing.{found, none_of_another, none_outside, none_too_old}
use Rattle.inav.proofs.seconds.Seconds.find.Goals as goal

pub returns-then-is_too_old-clause-none : goal.returns-then-is_too_old-clause-none
returns-then-is_too_old-clause-none c = none_too_old c.args.self.now c.args.stamp c.requires (c.is_too_old.ensures.0 c.if-is_too_old.true)

pub returns-in_default-clause-none : goal.returns-in_default-clause-none
returns-in_default-clause-none c =
    let place = c.place.result in
    let P : List Second → Type 0 = λ seconds. slice_get seconds place ≡ None in
    none_outside c.args.self.now c.args.stamp place c.requires
    (subst P c.deref.ensures.value (slice_get_past c.deref.result.now place c.in_default.ensures.lookup.3)) c.place.ensures.same

pub returns-then-stamp-clause-none : goal.returns-then-stamp-clause-none
returns-then-stamp-clause-none c =
    let place = c.place.result in
    let all = c.deref.result.now in
    let second = c.in-Some.second.now in
    let lookup = c.in-Some.ensures.lookup in
    let P : List Second → Type 0 = λ seconds. slice_get seconds place ≡ Some second in
    none_of_another c.args.self.now c.args.stamp place second c.requires
    (subst P c.deref.ensures.value (slice_get_read all (length all) place second refl lookup.3.0 lookup.1)) c.place.ensures.same
    (λ same. c.if-stamp.true (c.stamp.ensures ∙ same))

pub returns-clause-there : goal.returns-clause-there
returns-clause-there c =
    let place = c.place.result in
    let all = c.deref.result.now in
    let second = c.in-Some.second.now in
    let lookup = c.in-Some.ensures.lookup in
    let P : List Second → Type 0 = λ seconds. slice_get seconds place ≡ Some second in
    found c.args.self.now c.args.stamp place second c.requires
    (subst P c.deref.ensures.value (slice_get_read all (length all) place second refl lookup.3.0 lookup.1)) c.place.ensures.same
    (λ old. true≢false (sym (c.is_too_old.ensures.1 old) ∙ c.if-is_too_old.false)) (sym c.stamp.ensures ∙ c.if-stamp.false)
