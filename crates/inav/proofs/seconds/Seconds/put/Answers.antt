use Rattle.std.proofs.Common.{◌≡◌, ℕ, ◌+◌, ◌≤◌, max, List, ◌⊎◌, ◌↔◌, length, refl, sym, ap, subst, ◌∙◌, arith, Some}
use Rattle.std.proofs.lemmas.List.{set-get_or}
use Rattle.std.proofs.lemmas.Option.{slice_get_read}
use Rattle.std.specs.Prelude.{Contains, IsTrue}
use Rattle.std.specs.List.{slice_get, slice_set}
use Rattle.inav.specs.declared.second.Second.{Second}
use Rattle.inav.specs.declared.seconds.Seconds.{Seconds}
use Rattle.inav.specs.Keeping.{IsRecent}
use Rattle.inav.specs.Mirrors.{half_of, key_at}
use Rattle.inav.specs.Kept.{keys_among, keys_held, ArePlaced, AreSeconds}
use Rattle.inav.proofs.Holding.{on_err, put_held}
use Rattle.inav.proofs.Shown.{is_key, stamp_of_key}
use Rattle.inav.proofs.Placing.{HasPut, put_kept, put_placed, put_room, stored_where_there}
use Rattle.inav.proofs.seconds.Seconds.put.Goals as goal

pub returns-in_err-make_places-clause-seconds : goal.returns-in_err-make_places-clause-seconds
returns-in_err-make_places-clause-seconds c = record {
  small = c.requires.seconds.small;
  placed = (c.make_places.ensures.same c.args.self.now.window c.args.self.now.greatest).1 c.requires.seconds.placed;
}

pub returns-in_err-there-clause-seconds : goal.returns-in_err-there-clause-seconds
returns-in_err-there-clause-seconds c =
    let window = c.args.self.now.window in
    let greatest = c.args.self.now.greatest in
    let all = c.make_places.new.places.items in
    let place = c.place-place.result in
    let was = c.index_mut.result.now in
    let same : slice_set all place c.put.new.self ≡ all = ap (slice_set all place) (c.in_err-there.ensures.err ∙ c.index_mut.ensures.value) ∙ set-get_or all place was in
    let P : List Second → Type 0 = ArePlaced window greatest in
    record {
      small = c.requires.seconds.small;
      placed = subst P (sym same) ((c.make_places.ensures.same window greatest).1 c.requires.seconds.placed);
    }

pub returns-clause-kept : goal.returns-clause-kept
returns-clause-kept c =
    let window = c.args.self.now.window in
    let greatest = c.args.self.now.greatest in
    let stamp = c.args.stamp in
    let key = key_at c.args.stamp c.args.number in
    let all = c.make_places.new.places.items in
    let place = c.place-place.result in
    let was = c.index_mut.result.now in
    let second = c.put.new.self in
    let kept = c.make_places.ensures.same window greatest in
    let put : HasPut stamp was key second =
    record { stamp_is = c.in_ok-there.ensures.stamp; keys = c.in_ok-there.ensures.keys; room = c.in_ok-there.ensures.room } in
    let enough = c.in_ok-make_places.ensures.enough in
    let fits = c.place-place.ensures.fits in
    let at : slice_get all place ≡ Some was = slice_get_read all (length all) place was refl (omega (arith, enough, fits)) c.index_mut.ensures.value in
    let P : List (ℕ × ℕ) → Type 0 = λ old.
    ((q : ℕ × ℕ) → Contains (keys_among window (max greatest stamp) (slice_set all place second)) q
    ↔ ((Contains old q ⊎ (key ≡ q)) × IsRecent window (max greatest stamp) (half_of q)))
    × (length (keys_among window (max greatest stamp) (slice_set all place second)) ≤ length old + 1) in
    let Q : ℕ → Type 0 = λ raised.
    ((q : ℕ × ℕ) → Contains (keys_among window raised (slice_set all place second)) q
    ↔ ((Contains (keys_among window greatest c.args.self.now.places.items) q ⊎ (key ≡ q)) × IsRecent window raised (half_of q)))
    × (length (keys_among window raised (slice_set all place second)) ≤ length (keys_among window greatest c.args.self.now.places.items) + 1) in
    subst Q (sym c.max-self.ensures) (subst P kept.0 (
      put_kept window greatest stamp place all was second key (kept.1 c.requires.seconds.placed) at c.place-place.ensures.same put (stamp_of_key c.args.stamp c.args.number c.requires.fits) c.requires.recent,
      put_room window greatest stamp place all was second key (kept.1 c.requires.seconds.placed) at c.place-place.ensures.same put (stamp_of_key c.args.stamp c.args.number c.requires.fits) c.requires.recent,
    ))

pub returns-clause-seconds : goal.returns-clause-seconds
returns-clause-seconds c =
    let window = c.args.self.now.window in
    let greatest = c.args.self.now.greatest in
    let stamp = c.args.stamp in
    let key = key_at c.args.stamp c.args.number in
    let all = c.make_places.new.places.items in
    let place = c.place-place.result in
    let was = c.index_mut.result.now in
    let second = c.put.new.self in
    let kept = c.make_places.ensures.same window greatest in
    let put : HasPut stamp was key second =
    record { stamp_is = c.in_ok-there.ensures.stamp; keys = c.in_ok-there.ensures.keys; room = c.in_ok-there.ensures.room } in
    let enough = c.in_ok-make_places.ensures.enough in
    let fits = c.place-place.ensures.fits in
    let at : slice_get all place ≡ Some was = slice_get_read all (length all) place was refl (omega (arith, enough, fits)) c.index_mut.ensures.value in
    let P : ℕ → Type 0 = λ raised. ArePlaced window raised (slice_set all place second) in
    record {
      small = c.requires.seconds.small;
      placed = subst P (sym c.max-self.ensures)
          (put_placed window greatest stamp place all was second key (kept.1 c.requires.seconds.placed) at c.place-place.ensures.same put (stamp_of_key c.args.stamp c.args.number c.requires.fits)
          c.requires.recent (is_key c.args.stamp c.args.number (omega arith) c.requires.fits));
    }

pub returns-clause-held : goal.returns-clause-held
returns-clause-held c =
    let stamp = c.args.stamp in
    let key = key_at c.args.stamp c.args.number in
    let all = c.make_places.new.places.items in
    let place = c.place-place.result in
    let was = c.index_mut.result.now in
    let second = c.put.new.self in
    let put : HasPut stamp was key second =
    record { stamp_is = c.in_ok-there.ensures.stamp; keys = c.in_ok-there.ensures.keys; room = c.in_ok-there.ensures.room } in
    let enough = c.in_ok-make_places.ensures.enough in
    let fits = c.place-place.ensures.fits in
    let at : slice_get all place ≡ Some was = slice_get_read all (length all) place was refl (omega (arith, enough, fits)) c.index_mut.ensures.value in
    let P : List (ℕ × ℕ) → Type 0 = λ old.
    ((q : ℕ × ℕ) → Contains (keys_held (slice_set all place second)) q → Contains old q ⊎ (key ≡ q))
    × (length (keys_held (slice_set all place second)) ≤ length old + 1) in
    subst P c.make_places.ensures.held (put_held stamp place all was second key at put)

pub returns-in_err-there-clause-err_held : goal.returns-in_err-there-clause-err_held
returns-in_err-there-clause-err_held c =
    let all = c.make_places.new.places.items in
    let place = c.place-place.result in
    let was = c.index_mut.result.now in
    let same : slice_set all place c.put.new.self ≡ all = ap (slice_set all place) (c.in_err-there.ensures.err ∙ c.index_mut.ensures.value) ∙ set-get_or all place was in
    on_err c.from_residual-in_err-there.result _ (ap keys_held same ∙ c.make_places.ensures.held)

pub returns-clause-there : goal.returns-clause-there
returns-clause-there c =
    let window = c.args.self.now.window in
    let greatest = c.args.self.now.greatest in
    let all = c.make_places.new.places.items in
    let place = c.place-place.result in
    let was = c.index_mut.result.now in
    let kept = c.make_places.ensures.same window greatest in
    let enough = c.in_ok-make_places.ensures.enough in
    let fits = c.place-place.ensures.fits in
    let at : slice_get all place ≡ Some was = slice_get_read all (length all) place was refl (omega (arith, enough, fits)) c.index_mut.ensures.value in
    let mid : Seconds = record { window = window; greatest = greatest; places = c.make_places.new.places } in
    let are : AreSeconds mid = record { small = c.requires.seconds.small; placed = kept.1 c.requires.seconds.placed } in
    let is = stored_where_there mid place was (key_at c.args.stamp c.args.number) c.args.stamp are at c.place-place.ensures.same (stamp_of_key c.args.stamp c.args.number c.requires.fits) c.requires.recent in
    let P : List (ℕ × ℕ) → Type 0 = λ keys. IsTrue c.in_ok-there.there ↔ Contains keys (key_at c.args.stamp c.args.number) in
    subst P kept.0 (λ h. is.0 (c.in_ok-there.ensures.there.0 h), λ h. c.in_ok-there.ensures.there.1 (is.1 h))
