-- The step of a deframer: it takes a frame, or none.
use Rattle.std.proofs.Common.{get_or, ◌≡◌, ℕ, ◌+◌, ◌-◌, ◌<◌, ◌&&◌, nat_lt, Bool, true, false, if◌then◌else◌, List, [], ◌∷◌, ◌++◌, length, take, drop, refl, sym, ◌∙◌, inl, inr, arith, length-drop, length-take}
use Rattle.std.proofs.lemmas.Bool.{lt-ltb, le-ltb, false_from_ne_true, and_right, and_parts, false≢true}
use Rattle.std.proofs.lemmas.List.{take-append-le, drop-append-le, drop_more, take_rest}
use Rattle.framing.specs.Frames.{frame_size, is_open, frames_past, frames, undecided, after_first}
use Rattle.framing.specs.State.{IsWaiting, TakesFrame, TakesNone}
use Rattle.framing.specs.Mirrors.{from_first}
use Rattle.framing.proofs.FormLaws.{size-append, size_le, size_least, size_most, size_of_open}
use Rattle.framing.proofs.FrameLaws.{frames_past-drop, drop_first}
use Rattle.framing.proofs.FirstPlace.{IsHeld, first_is_held, length-from_first, frames_from_first, past_from_first, after_from_first, open_from_first}

-- no frame begins in no bytes
none_size : 0 < frame_size [] → ⊥
none_size h = omega (arith, size_le [])

-- a whole frame is not incomplete
closed_by : (xs : List ℕ) → 0 < frame_size xs → is_open xs ≡ false
closed_by xs h = false_from_ne_true _ (λ o. omega (arith, size_of_open xs o))

-- a frame at the start, with bytes after it
pub frames-prefix : (r c : List ℕ) → 0 < frame_size r → frames (r ++ c) ≡ take (frame_size r) r ∷ frames (drop (frame_size r) r ++ c)
frames-prefix [] c h = absurd (none_size h)
frames-prefix (x ∷ xs) c h =
    let n = frame_size (x ∷ xs) in
    let f : nat_lt 0 (frame_size (x ∷ xs)) ≡ true = lt-ltb _ _ h in
    let size = size_le (x ∷ xs) in
    let prefix : take (frame_size (x ∷ xs)) (x ∷ (xs ++ c)) ≡ take (frame_size (x ∷ xs)) (x ∷ xs) = take-append-le (frame_size (x ∷ xs)) (x ∷ xs) c size in
    let rest : drop (frame_size (x ∷ xs) - 1) (xs ++ c) ≡ drop (frame_size (x ∷ xs) - 1) xs ++ c = drop-append-le (frame_size (x ∷ xs) - 1) xs c (omega arith) in
    let behind : drop (frame_size (x ∷ xs)) (x ∷ xs) ≡ drop (frame_size (x ∷ xs) - 1) xs = drop_first x xs (frame_size (x ∷ xs)) h in
    rw (size-append x xs c (closed_by (x ∷ xs) h), f, prefix, behind, frames_past-drop false (xs ++ c) (frame_size (x ∷ xs) - 1), rest) refl

-- a frame at the start
past-prefix : (more : Bool) (r : List ℕ) → 0 < frame_size r → frames_past more r 0 ≡ take (frame_size r) r ∷ frames_past more (drop (frame_size r) r) 0
past-prefix more [] h = absurd (none_size h)
past-prefix more (x ∷ xs) h =
    let f : nat_lt 0 (frame_size (x ∷ xs)) ≡ true = lt-ltb _ _ h in
    let closed : (more && is_open (x ∷ xs)) ≡ false = and_right more _ (closed_by (x ∷ xs) h) in
    let behind : drop (frame_size (x ∷ xs)) (x ∷ xs) ≡ drop (frame_size (x ∷ xs) - 1) xs = drop_first x xs (frame_size (x ∷ xs)) h in
    rw (closed, f, behind, frames_past-drop more xs (frame_size (x ∷ xs) - 1)) refl

after-prefix : (r : List ℕ) → 0 < frame_size r → after_first r ≡ drop (frame_size r) r
after-prefix [] h = absurd (none_size h)
after-prefix (x ∷ xs) h = let f : nat_lt 0 (frame_size (x ∷ xs)) ≡ true = lt-ltb _ _ h in rw f refl

-- the first frame is taken
pub takes_frame : (more : Bool) (old : List ℕ) → 0 < frame_size (from_first more old)
    → TakesFrame more old (take (frame_size (from_first more old)) (from_first more old)) (drop (frame_size (from_first more old)) (from_first more old))
takes_frame more old h = record {
  stream = λ following last. frames_from_first more following last old ∙ frames-prefix (from_first more old) following h;
  first = past_from_first more old ∙ past-prefix more (from_first more old) h;
  rest = sym (after_from_first more old ∙ after-prefix (from_first more old) h);
  shorter = omega (arith, length-from_first more old, size_le (from_first more old), length-drop (frame_size (from_first more old)) (from_first more old));
}

-- what is held has no frame, and all of it is undecided
held_none : (more : Bool) (r : List ℕ) → IsHeld more r → frames_past more r 0 ≡ []
held_none more [] held = refl
held_none more (x ∷ xs) held = elim held [ inl e ↦ cc | inr h ↦ rw (h.0, h.1) refl ]

held_open : (r : List ℕ) → IsHeld true r → undecided r ≡ r
held_open [] held = refl
held_open (x ∷ xs) held = elim held [ inl e ↦ cc | inr h ↦ rw h.1 refl ]

held_waits : (more : Bool) (r : List ℕ) → IsHeld more r → IsWaiting r
held_waits more r held = elim held [ inl e ↦ inl e | inr h ↦ inr h.1 ]

held_rest : (more : Bool) (old : List ℕ) → IsHeld more (from_first more old) → from_first more old ≡ (if more then undecided old else [])
held_rest true old held = sym (open_from_first old ∙ held_open (from_first true old) held)
held_rest false old held = elim held [ inl e ↦ e | inr h ↦ absurd (false≢true h.0) ]

-- where no frame begins at the first offset, none is taken
pub takes_none : (more : Bool) (old : List ℕ) → frame_size (from_first more old) ≡ 0 → TakesNone more old (from_first more old)
takes_none more old none =
    let held = first_is_held more old none in
    record {
      none = past_from_first more old ∙ held_none more (from_first more old) held;
      rest = held_rest more old held;
      waiting = held_waits more (from_first more old) held;
      stream = λ following last. frames_from_first more following last old;
      no_longer = length-from_first more old;
    }

waiting_first : (rest : List ℕ) → IsWaiting rest → from_first true rest ≡ rest
waiting_first [] w = refl
waiting_first (x ∷ xs) w = elim w [ inl e ↦ cc | inr o ↦ rw o refl ]

waiting_size : (rest : List ℕ) → IsWaiting rest → frame_size rest ≡ 0
waiting_size rest w = elim w [ inl e ↦ rw e (omega (arith, size_le [])) | inr o ↦ size_of_open rest o ]

-- while bytes wait, none is taken
pub waits_for_more : (rest : List ℕ) → IsWaiting rest → TakesNone true rest rest
waits_for_more rest w =
    let same = waiting_first rest w in
    let none : frame_size (from_first true rest) ≡ 0 = rw same (waiting_size rest w) in
    rw same at (takes_none true rest none)

pub waiting_decided : (rest : List ℕ) → IsWaiting rest → frames_past true rest 0 ≡ []
waiting_decided [] w = refl
waiting_decided (x ∷ xs) w = elim w [ inl e ↦ cc | inr o ↦ rw o refl ]

pub waiting_undecided : (rest : List ℕ) → IsWaiting rest → undecided rest ≡ rest
waiting_undecided [] w = refl
waiting_undecided (x ∷ xs) w = elim w [ inl e ↦ cc | inr o ↦ rw o refl ]

-- the same at the bytes from the first place on
pub none_at_first : (more : Bool) (old rest : List ℕ) → rest ≡ from_first more old → frame_size rest ≡ 0 → TakesNone more old rest
none_at_first more old rest e none =
    let nothing : frame_size (from_first more old) ≡ 0 = rw e at none in rw e (takes_none more old nothing)

pub waits_at_first : (more : Bool) (old rest : List ℕ) → rest ≡ from_first more old → frame_size rest ≡ 0 → IsWaiting rest
waits_at_first more old rest e none = (none_at_first more old rest e none).waiting

pub frame_at_first : (more : Bool) (old rest frame : List ℕ) (size : ℕ) → rest ≡ from_first more old → size ≡ frame_size rest → 0 < size → frame ≡ take size rest
    → TakesFrame more old frame (drop size rest)
frame_at_first more old rest frame size e n some f =
    let there : 0 < frame_size (from_first more old) = rw (n, e) at some in rw (f, n, e) (takes_frame more old there)

-- where the bytes are held, they are from their first place on
pub first_at_held : (more : Bool) (b : List ℕ) → (more && is_open b) ≡ true → from_first more b ≡ b
first_at_held more [] h = refl
first_at_held more (x ∷ xs) h = rw h refl

pub size_at_held : (more : Bool) (b : List ℕ) → (more && is_open b) ≡ true → frame_size b ≡ 0
size_at_held more b h = size_of_open b (and_parts more (is_open b) h).1

pub size_at_end : (b : List ℕ) → length b ≡ 0 → frame_size b ≡ 0
size_at_end b h = omega (arith, size_le b)

-- and so where a frame begins
pub first_at_frame : (more : Bool) (b : List ℕ) → 0 < frame_size b → from_first more b ≡ b
first_at_frame more [] h = refl
first_at_frame more (x ∷ xs) h =
    let f : nat_lt 0 (frame_size (x ∷ xs)) ≡ true = lt-ltb _ _ h in
    let closed : (more && is_open (x ∷ xs)) ≡ false = and_right more _ (closed_by (x ∷ xs) h) in
    rw (closed, f) refl

passed_prefix : (more : Bool) (x : ℕ) (xs b : List ℕ) → b ≡ x ∷ xs → (more && is_open b) ≡ false → frame_size b ≡ 0 → from_first more b ≡ from_first more xs
passed_prefix more x xs b e closed none =
    let f : nat_lt 0 (frame_size b) ≡ false = le-ltb _ _ (omega arith) in
    rw e (rw (rw e at closed, rw e at f) refl)

-- a byte where nothing begins is passed
pub first_passed : (more : Bool) (b : List ℕ) (i : ℕ) → i < length b → (more && is_open (drop i b)) ≡ false → frame_size (drop i b) ≡ 0 → from_first more (drop i b) ≡ from_first more (drop (i + 1) b)
first_passed more b i h closed none = passed_prefix more (get_or b i 0) (drop (i + 1) b) (drop i b) (drop_more b i 0 h) closed none

pub ruleset steps = (first_at_held, size_at_held, size_at_end, first_at_frame, first_passed, size_le, length-drop, take_rest)

pub ruleset sizes = (size_le, size_least, size_most, length-drop, length-take)
