use Rattle.std.proofs.Common.{◌≡◌, ℕ, List, length, refl, sym, ap, subst, ◌∙◌}
use Rattle.std.specs.Prelude.{Option, Some, slice_get}
use Rattle.std.proofs.lemmas.Bool.Decides.{Decides-eqb}
use Rattle.std.proofs.lemmas.Option.{slice_get_read}
use Rattle.std.proofs.lemmas.Slice.Eq.{slice_eq-Decides}
use Rattle.streams.proofs.seen.RecentMessages.holds.Goals as goal

pub returns-in-Some-Some : goal.returns-in-Some-Some
returns-in-Some-Some g c = λ yes.
    let same : c.args.payload.now ≡ c.as_slice.result.now =
    (slice_eq-Decides Decides-eqb _ _ _ c.eq.ensures).0 yes in
    let found = c.in-Some-Some.ensures.lookup in
    let read = slice_get_read c.args.self.now.places (length c.args.self.now.places) c.from.result c.in-Some-Some.field-0.now refl found.3.0 (found.3.1 c.in-Some-Some.field-0.now) in
    subst (λ (i : ℕ). slice_get c.args.self.now.places i ≡ Some c.in-Some-Some.field-0.now) c.from.ensures read
    ∙ ap (λ (place : Option (List ℕ)). Some place) (c.in-Some-Some.field-0-is ∙ ap (λ (payload : List ℕ). Some payload) (sym c.as_slice.ensures ∙ sym same))
