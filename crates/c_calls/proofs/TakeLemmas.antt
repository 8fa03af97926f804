-- What taking leaves: the bytes that are retained are those behind the ones released.
use Rattle.std.proofs.Common.{◌≡◌, ℕ, ◌+◌, ◌-◌, ◌*◌, ◌≤◌, Bool, true, false, List, ◌++◌, length, take, drop, refl, sym, ap, ◌∙◌, subst, arith, length-append, drop-drop, drop_at}
use Rattle.std.specs.Prelude.{min, nat_le, if◌then◌else◌}
use Rattle.std.proofs.lemmas.Bool.{leb-false}
use Rattle.raw_values.specs.Rooms.{StandsIn}
use Rattle.c_calls.specs.Pending.{all_of, released_by}
use Rattle.c_calls.specs.Pushes.{PushState, RetainsFew, Takes, taken_more, reported_more}
use Rattle.c_calls.specs.declared.pending.Pending.{Pending}
use Rattle.c_calls.specs.declared.push.PushedRun.{PushedRun}
use Rattle.c_calls.proofs.PushLemmas.{state}

drop_behind : (gone bytes : List ℕ) (at : ℕ) → drop (length gone + at) (gone ++ bytes) ≡ drop at bytes
drop_behind gone bytes at = sym (drop-drop at (length gone) (gone ++ bytes)) ∙ ap (drop at) (drop_at gone bytes (length gone) refl)

left_behind : (gone bytes : List ℕ) (at : ℕ) → length bytes - at ≡ length (gone ++ bytes) - (length gone + at)
left_behind gone bytes at = omega (arith, length-append gone bytes)

pub takes_behind : (gone bytes : List ℕ) (at : ℕ) (old new : List ℕ) (count : ℕ) → Takes bytes at old new count → Takes (gone ++ bytes) (length gone + at) old new count
takes_behind gone bytes at old new count it = record {
  most = it.most ∙ ap (min (length new)) (left_behind gone bytes at);
  stands = subst (λ (l : List ℕ). StandsIn old new count (take count l)) (sym (drop_behind gone bytes at)) it.stands;
}

few_by : (written taken released : ℕ) (b : Bool) → nat_le (written - taken) (taken - released) ≡ b
    → written - (if b then min taken written else released) ≤ 2 * (written - taken)
few_by written taken released true is = omega arith
few_by written taken released false is = omega (arith, leb-false (written - taken) (taken - released) is)

few : (written taken released : ℕ) → RetainsFew written taken (released_by written taken released)
few written taken released = few_by written taken released (nat_le (written - taken) (taken - released)) refl

-- ---- the state once some were taken

module _ (run : PushedRun) (o o' : Pending) (at at' : ℕ) (r r' : Pending) (told told' status count : ℕ) where
  abbrev old : PushState
  old = state run o at r told status

  taken_is : (a b g : ℕ) → g ≡ a + (b + count) → g ≡ (a + b) + count
  taken_is a b g is = omega (arith, is)

  released_is : (written a b g : ℕ) → g ≡ released_by written (a + (b + count)) a → g ≡ released_by written ((a + b) + count) a
  released_is written a b g is =
      let same : a + (b + count) ≡ (a + b) + count = omega arith in
      subst (λ (n : ℕ). g ≡ released_by written n a) same is

  abbrev with_output : List ℕ → ℕ → ℕ → PushState
  with_output all taken released = record {
    run = run;
    output = all;
    taken = taken;
    released = released;
    report = all_of r;
    told = length r.released.text + told;
    report_released = length r.released.text;
    status = status;
  }

  abbrev with_report : List ℕ → ℕ → ℕ → PushState
  with_report all taken released = record {
    run = run;
    output = all_of o;
    taken = length o.released.text + at;
    released = length o.released.text;
    report = all;
    told = taken;
    report_released = released;
    status = status;
  }

  pub output_taken : all_of o' ≡ all_of o → length o'.released.text + at' ≡ length o.released.text + (at + count)
      → length o'.released.text ≡ released_by (length (all_of o)) (length o.released.text + (at + count)) (length o.released.text)
      → state run o' at' r told status ≡ taken_more old count
  output_taken same taken released =
      ap (λ (l : List ℕ). with_output l (length o'.released.text + at') (length o'.released.text)) same
      ∙ ap (λ (n : ℕ). with_output (all_of o) n (length o'.released.text)) (taken_is (length o.released.text) at (length o'.released.text + at') taken)
      ∙ ap (λ (n : ℕ). with_output (all_of o) ((length o.released.text + at) + count) n) (released_is (length (all_of o)) (length o.released.text) at (length o'.released.text) released)

  pub output_few : all_of o' ≡ all_of o → length o'.released.text + at' ≡ length o.released.text + (at + count)
      → length o'.released.text ≡ released_by (length (all_of o)) (length o.released.text + (at + count)) (length o.released.text)
      → RetainsFew (length (all_of o')) (length o'.released.text + at') (length o'.released.text)
  output_few same taken released =
      subst (λ (l : List ℕ). RetainsFew (length l) (length o'.released.text + at') (length o'.released.text)) (sym same)
      (subst (λ (n : ℕ). RetainsFew (length (all_of o)) n (length o'.released.text)) (sym taken)
      (subst (λ (n : ℕ). RetainsFew (length (all_of o)) (length o.released.text + (at + count)) n) (sym released)
      (few (length (all_of o)) (length o.released.text + (at + count)) (length o.released.text))))

  pub report_taken : all_of r' ≡ all_of r → length r'.released.text + told' ≡ length r.released.text + (told + count)
      → length r'.released.text ≡ released_by (length (all_of r)) (length r.released.text + (told + count)) (length r.released.text)
      → state run o at r' told' status ≡ reported_more old count
  report_taken same taken released =
      ap (λ (l : List ℕ). with_report l (length r'.released.text + told') (length r'.released.text)) same
      ∙ ap (λ (n : ℕ). with_report (all_of r) n (length r'.released.text)) (taken_is (length r.released.text) told (length r'.released.text + told') taken)
      ∙ ap (λ (n : ℕ). with_report (all_of r) ((length r.released.text + told) + count) n) (released_is (length (all_of r)) (length r.released.text) told (length r'.released.text) released)
