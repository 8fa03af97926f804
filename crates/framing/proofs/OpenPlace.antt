-- The decided frames are the chosen ones before the first unfinished one.
use Rattle.std.proofs.Common.{◌≡◌, ℕ, zero, suc, ◌+◌, ◌-◌, ◌<◌, ◌≤◌, ◌&&◌, nat_lt, Bool, true, false, List, [], ◌∷◌, take, drop, refl, sym, ap, ◌∙◌, inl, inr, arith}
use Rattle.std.proofs.lemmas.Bool.{ltb-true, ltb-false, lt-ltb, le-ltb, and_right, both_ways, cases_eq}
use Rattle.std.proofs.lemmas.List.{drop-drop, drop_all}
use Rattle.framing.specs.Frames.{frame_size, is_open, frames_past, open_past}
use Rattle.framing.specs.Places.{AreChosen, size_at, frames_from, IsUnfinished, IsOpenPlace}
use Rattle.framing.proofs.FormLaws.{none_open}
use Rattle.framing.proofs.Reaching.{Reaches, inside_is_passed, none_is_passed, outside_is_chosen, next_inside, next_outside, next_begun, behind}

-- the chosen offsets before this one
abbrev before : (ℕ → Bool) → ℕ → ℕ → Bool
before chosen place = λ p. chosen p && nat_lt p place

-- from the offset on no chosen one is before it
none_behind : (chosen : ℕ → Bool) (place : ℕ) (rest : List ℕ) (p : ℕ) → place ≤ p → frames_from (before chosen place) p rest ≡ []
none_behind chosen place [] p h = refl
none_behind chosen place (x ∷ xs) p h =
    let past : nat_lt p place ≡ false = le-ltb _ _ h in
    let closed : (chosen p && nat_lt p place) ≡ false = and_right (chosen p) _ past in
    rw closed (none_behind chosen place xs (p + 1) (omega arith))

-- no byte is at an offset or after it where none is at an earlier one
no_byte : (bytes : List ℕ) (p place : ℕ) → p ≤ place → [] ≡ drop p bytes → drop place bytes ≡ []
no_byte bytes p place h e =
    let from_p : drop (place - p) (drop p bytes) ≡ drop (p + (place - p)) bytes = drop-drop (place - p) p bytes in
    let there : p + (place - p) ≡ place = omega arith in
    sym (rw there at from_p) ∙ ap (drop (place - p)) (sym e) ∙ drop_all (place - p) [] (omega arith)

-- from offset p on, the first k bytes being inside the last chosen frame
abbrev Stand : List ℕ → (ℕ → Bool) → ℕ → List ℕ → ℕ → ℕ → Type 0
Stand bytes chosen place rest p k =
    rest ≡ drop p bytes → Reaches bytes chosen p k → p + k ≤ place
    → (frames_from (before chosen place) p rest ≡ frames_past true rest k) × (open_past rest k ≡ drop place bytes)

stand_none : (bytes : List ℕ) (chosen : ℕ → Bool) (place : ℕ) → IsOpenPlace bytes chosen place → (p k : ℕ) → Stand bytes chosen place [] p k
stand_none bytes chosen place o p k e r h =
    let none : drop place bytes ≡ [] = no_byte bytes p place (omega arith) e in
    let opens : is_open [] ≡ true = rw none at o.unfinished.opens in
    absurd (none_open opens)

stand_inside : (bytes : List ℕ) (chosen : ℕ → Bool) (place : ℕ) → AreChosen bytes chosen → (x : ℕ) (xs : List ℕ) (p k : ℕ)
    → Stand bytes chosen place xs (p + 1) k → Stand bytes chosen place (x ∷ xs) p (suc k)
stand_inside bytes chosen place set x xs p k go e r h =
    let closed = inside_is_passed bytes chosen set p k r in
    rw closed (go (behind bytes p x xs e) (next_inside bytes chosen p k closed r) (omega arith))

-- an incomplete frame outside the chosen ones is unfinished
unfinished_at : (bytes : List ℕ) (chosen : ℕ → Bool) (x : ℕ) (xs : List ℕ) (p : ℕ) → x ∷ xs ≡ drop p bytes → is_open (x ∷ xs) ≡ true
    → Reaches bytes chosen p 0 → IsUnfinished bytes chosen p
unfinished_at bytes chosen x xs p e o r = record {
  opens = rw e at o;
  outside = λ q c h. omega (arith, r.before q c h);
}

-- an incomplete frame up to the first unfinished one is that one
held_at : (bytes : List ℕ) (chosen : ℕ → Bool) (place : ℕ) → IsOpenPlace bytes chosen place → (x : ℕ) (xs : List ℕ) (p : ℕ) → x ∷ xs ≡ drop p bytes
    → is_open (x ∷ xs) ≡ true → Reaches bytes chosen p 0 → p ≤ place → p ≡ place
held_at bytes chosen place open_place x xs p e o r h =
    elim (cases_eq p place) [
      | inl same ↦ same
      | inr other ↦ absurd (open_place.least p (omega arith) (unfinished_at bytes chosen x xs p e o r))
    ]

-- an offset up to the first unfinished one without an incomplete frame is before it
before_at : (bytes : List ℕ) (chosen : ℕ → Bool) (place : ℕ) → IsOpenPlace bytes chosen place → (x : ℕ) (xs : List ℕ) (p : ℕ) → x ∷ xs ≡ drop p bytes
    → is_open (x ∷ xs) ≡ false → p ≤ place → p < place
before_at bytes chosen place open_place x xs p e o h =
    elim (cases_eq p place) [
      | inl same ↦
          let opens : is_open (drop p bytes) ≡ true = rw same open_place.unfinished.opens in
          absurd (both_ways _ o (rw e opens))
      | inr other ↦ omega arith
    ]

stand_at : (bytes : List ℕ) (chosen : ℕ → Bool) (place : ℕ) → AreChosen bytes chosen → IsOpenPlace bytes chosen place → (x : ℕ) (xs : List ℕ) (p : ℕ)
    → ((k : ℕ) → Stand bytes chosen place xs (p + 1) k)
    → (held : Bool) → is_open (x ∷ xs) ≡ held → (found : Bool) → nat_lt 0 (frame_size (x ∷ xs)) ≡ found → Stand bytes chosen place (x ∷ xs) p 0
stand_at bytes chosen place set open_place x xs p go true o found f e r h =
    let same : p ≡ place = held_at bytes chosen place open_place x xs p e o r (omega arith) in
    let rest : x ∷ xs ≡ drop place bytes = rw same at e in
    (rw o (none_behind chosen place (x ∷ xs) p (omega arith)), rw o rest)
stand_at bytes chosen place set open_place x xs p go false o true f e r h =
    let early : p < place = before_at bytes chosen place open_place x xs p e o (omega arith) in
    let is_early : nat_lt p place ≡ true = lt-ltb _ _ early in
    let size : size_at bytes p ≡ frame_size (x ∷ xs) = ap frame_size (sym e) in
    let some : 0 < frame_size (x ∷ xs) = ltb-true _ _ f in
    let here = outside_is_chosen bytes chosen set p (omega arith) r in
    let ends = open_place.unfinished.outside p here early in
    let next : Reaches bytes chosen (p + 1) (frame_size (x ∷ xs) - 1) = rw size at (next_begun bytes chosen p here (omega arith) r) in
    let behind_it = go (frame_size (x ∷ xs) - 1) (behind bytes p x xs e) next (omega arith) in
    rw (here, is_early, o, f) (ap (λ rest. take (frame_size (x ∷ xs)) (x ∷ xs) ∷ rest) behind_it.0, behind_it.1)
stand_at bytes chosen place set open_place x xs p go false o false f e r h =
    let early : p < place = before_at bytes chosen place open_place x xs p e o (omega arith) in
    let size : size_at bytes p ≡ frame_size (x ∷ xs) = ap frame_size (sym e) in
    let none : frame_size (x ∷ xs) ≤ 0 = ltb-false _ _ f in
    let closed = none_is_passed bytes chosen set p (omega arith) in
    rw (closed, o, f) (go 0 (behind bytes p x xs e) (next_outside bytes chosen p closed r) (omega arith))

pub stand_before : (bytes : List ℕ) (chosen : ℕ → Bool) (place : ℕ) → AreChosen bytes chosen → IsOpenPlace bytes chosen place
    → (rest : List ℕ) (p k : ℕ) → Stand bytes chosen place rest p k
stand_before bytes chosen place set open_place [] p k = stand_none bytes chosen place open_place p k
stand_before bytes chosen place set open_place (x ∷ xs) p zero =
    stand_at bytes chosen place set open_place x xs p (stand_before bytes chosen place set open_place xs (p + 1)) _ refl _ refl
stand_before bytes chosen place set open_place (x ∷ xs) p (suc k) =
    stand_inside bytes chosen place set x xs p k (stand_before bytes chosen place set open_place xs (p + 1) k)

-- from offset p on, all frames are decided
abbrev Whole : List ℕ → (ℕ → Bool) → List ℕ → ℕ → ℕ → Type 0
Whole bytes chosen rest p k =
    rest ≡ drop p bytes → Reaches bytes chosen p k → (frames_past true rest k ≡ frames_past false rest k) × (open_past rest k ≡ [])

whole_at : (bytes : List ℕ) (chosen : ℕ → Bool) → AreChosen bytes chosen → ((place : ℕ) → IsUnfinished bytes chosen place → ⊥) → (x : ℕ) (xs : List ℕ) (p : ℕ)
    → ((k : ℕ) → Whole bytes chosen xs (p + 1) k)
    → (held : Bool) → is_open (x ∷ xs) ≡ held → (found : Bool) → nat_lt 0 (frame_size (x ∷ xs)) ≡ found → Whole bytes chosen (x ∷ xs) p 0
whole_at bytes chosen set finished x xs p go true o found f e r = absurd (finished p (unfinished_at bytes chosen x xs p e o r))
whole_at bytes chosen set finished x xs p go false o true f e r =
    let size : size_at bytes p ≡ frame_size (x ∷ xs) = ap frame_size (sym e) in
    let some : 0 < frame_size (x ∷ xs) = ltb-true _ _ f in
    let here = outside_is_chosen bytes chosen set p (omega arith) r in
    let next : Reaches bytes chosen (p + 1) (frame_size (x ∷ xs) - 1) = rw size at (next_begun bytes chosen p here (omega arith) r) in
    let behind_it = go (frame_size (x ∷ xs) - 1) (behind bytes p x xs e) next in
    rw (o, f) (ap (λ rest. take (frame_size (x ∷ xs)) (x ∷ xs) ∷ rest) behind_it.0, behind_it.1)
whole_at bytes chosen set finished x xs p go false o false f e r =
    let size : size_at bytes p ≡ frame_size (x ∷ xs) = ap frame_size (sym e) in
    let none : frame_size (x ∷ xs) ≤ 0 = ltb-false _ _ f in
    let closed = none_is_passed bytes chosen set p (omega arith) in
    rw (o, f) (go 0 (behind bytes p x xs e) (next_outside bytes chosen p closed r))

pub whole_frames : (bytes : List ℕ) (chosen : ℕ → Bool) → AreChosen bytes chosen → ((place : ℕ) → IsUnfinished bytes chosen place → ⊥)
    → (rest : List ℕ) (p k : ℕ) → Whole bytes chosen rest p k
whole_frames bytes chosen set finished [] p k = λ e r. (refl, refl)
whole_frames bytes chosen set finished (x ∷ xs) p zero =
    whole_at bytes chosen set finished x xs p (whole_frames bytes chosen set finished xs (p + 1)) _ refl _ refl
whole_frames bytes chosen set finished (x ∷ xs) p (suc k) = λ e r.
    let closed = inside_is_passed bytes chosen set p k r in
    whole_frames bytes chosen set finished xs (p + 1) k (behind bytes p x xs e) (next_inside bytes chosen p k closed r)
