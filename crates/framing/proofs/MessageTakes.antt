-- The step of a deframer at the first offset: it finds a message, or none.
use Rattle.std.proofs.Common.{get_or, ◌≡◌, ℕ, ◌+◌, ◌-◌, ◌<◌, ◌&&◌, nat_lt}
use Rattle.std.proofs.Common.{Bool, true, false, if◌then◌else◌, List, [], ◌∷◌, ◌++◌, length, take}
use Rattle.std.proofs.Common.{drop, refl, sym, ◌∙◌, inl, inr, arith, length-drop}
use Rattle.std.proofs.lemmas.Bool.{lt-ltb, le-ltb, false_from_ne_true, and_right, and_parts}
use Rattle.std.proofs.lemmas.Bool.{false≢true}
use Rattle.std.proofs.lemmas.List.{take-append-le, drop-append-le, drop_more}
use Rattle.framing.specs.Messages.{Format, IsFormat, messages_past, messages, undecided}
use Rattle.framing.specs.Messages.{after_first}
use Rattle.framing.specs.MessageState.{IsWaiting, TakesMessage, TakesNone}
use Rattle.framing.specs.MessageMirrors.{from_first}
use Rattle.framing.proofs.MessageLaws.{messages_past-drop, drop_first}
use Rattle.framing.proofs.MessageFirstPlace.{IsHeld, first_is_held, length-from_first, messages_from_first}
use Rattle.framing.proofs.MessageFirstPlace.{past_from_first, after_from_first, open_from_first}

-- no message begins where there are no bytes
none_size : (format : Format) → IsFormat format → 0 < format.size [] → ⊥
none_size format laws h = omega (arith, laws.size_le [])

-- a complete message is not incomplete
closed_by : (format : Format) → IsFormat format → (xs : List ℕ) → 0 < format.size xs
    → format.is_open xs ≡ false
closed_by format laws xs h = false_from_ne_true _ (λ o. omega (arith, laws.size_of_open xs o))

-- a first message, with bytes following
pub messages-prefix : (format : Format) → IsFormat format → (r c : List ℕ) → 0 < format.size r
    → messages format (r ++ c) ≡ take (format.size r) r
    ∷ messages format (drop (format.size r) r ++ c)
messages-prefix format laws [] c h = absurd (none_size format laws h)
messages-prefix format laws (x ∷ xs) c h =
    let n = format.size (x ∷ xs) in
    let f : nat_lt 0 (format.size (x ∷ xs)) ≡ true = lt-ltb _ _ h in
    let size = laws.size_le (x ∷ xs) in
    let prefix : take (format.size (x ∷ xs)) (x ∷ (xs ++ c)) ≡ take (format.size (x ∷ xs)) (x ∷ xs) =
    take-append-le (format.size (x ∷ xs)) (x ∷ xs) c size in
    let rest : drop (format.size (x ∷ xs) - 1) (xs ++ c) ≡ drop (format.size (x ∷ xs) - 1) xs ++ c =
    drop-append-le (format.size (x ∷ xs) - 1) xs c (omega arith) in
    let behind : drop (format.size (x ∷ xs)) (x ∷ xs) ≡ drop (format.size (x ∷ xs) - 1) xs =
    drop_first x xs (format.size (x ∷ xs)) h in
    rw (
      laws.size_append x xs c (closed_by format laws (x ∷ xs) h),
      f,
      prefix,
      behind,
      messages_past-drop format false (xs ++ c) (format.size (x ∷ xs) - 1),
      rest,
    ) refl

-- a first message
past-prefix : (format : Format) → IsFormat format → (more : Bool) (r : List ℕ) → 0 < format.size r
    → messages_past format more r 0 ≡ take (format.size r) r
    ∷ messages_past format more (drop (format.size r) r) 0
past-prefix format laws more [] h = absurd (none_size format laws h)
past-prefix format laws more (x ∷ xs) h =
    let f : nat_lt 0 (format.size (x ∷ xs)) ≡ true = lt-ltb _ _ h in
    let closed : (more && format.is_open (x ∷ xs)) ≡ false =
    and_right more _ (closed_by format laws (x ∷ xs) h) in
    let behind : drop (format.size (x ∷ xs)) (x ∷ xs) ≡ drop (format.size (x ∷ xs) - 1) xs =
    drop_first x xs (format.size (x ∷ xs)) h in
    rw (closed, f, behind, messages_past-drop format more xs (format.size (x ∷ xs) - 1)) refl

after-prefix : (format : Format) → IsFormat format → (r : List ℕ) → 0 < format.size r
    → after_first format r ≡ drop (format.size r) r
after-prefix format laws [] h = absurd (none_size format laws h)
after-prefix format laws (x ∷ xs) h = let f : nat_lt 0 (format.size (x ∷ xs)) ≡ true =
    lt-ltb _ _ h in rw f refl

-- the message that begins at the first offset is found
pub takes_message : (format : Format) → IsFormat format → (more : Bool) (old : List ℕ)
    → 0 < format.size (from_first format more old)
    → TakesMessage format more old (take (format.size (from_first format more old))
    (from_first format more old)) (drop (format.size (from_first format more old))
    (from_first format more old))
takes_message format laws more old h = record {
  stream = λ following last. messages_from_first format laws more following last old
      ∙ messages-prefix format laws (from_first format more old) following h;
  first = past_from_first format more old
      ∙ past-prefix format laws more (from_first format more old) h;
  rest = sym (after_from_first format more old
      ∙ after-prefix format laws (from_first format more old) h);
  shorter = omega (
    arith,
    length-from_first format more old,
    laws.size_le
        (from_first format more old),
    length-drop (format.size (from_first format more old))
        (from_first format more old),
  );
}

-- the bytes held have no message, and are undecided
held_none : (format : Format) → (more : Bool) (r : List ℕ) → IsHeld format more r
    → messages_past format more r 0 ≡ []
held_none format more [] held = refl
held_none format more (x ∷ xs) held = elim held [ inl e ↦ cc | inr h ↦ rw (h.0, h.1) refl ]

held_open : (format : Format) → (r : List ℕ) → IsHeld format true r → undecided format r ≡ r
held_open format [] held = refl
held_open format (x ∷ xs) held = elim held [ inl e ↦ cc | inr h ↦ rw h.1 refl ]

held_waits : (format : Format) → (more : Bool) (r : List ℕ) → IsHeld format more r
    → IsWaiting format r
held_waits format more r held = elim held [ inl e ↦ inl e | inr h ↦ inr h.1 ]

held_rest : (format : Format) → (more : Bool) (old : List ℕ)
    → IsHeld format more (from_first format more old)
    → from_first format more old ≡ (if more then undecided format old else [])
held_rest format true old held = sym (open_from_first format old
    ∙ held_open format (from_first format true old) held)
held_rest format false old held = elim held [ inl e ↦ e | inr h ↦ absurd (false≢true h.0) ]

-- where no message begins at the first offset, none is found
pub takes_none : (format : Format) → IsFormat format → (more : Bool) (old : List ℕ)
    → format.size (from_first format more old) ≡ 0
    → TakesNone format more old (from_first format more old)
takes_none format laws more old none =
    let held = first_is_held format more old none in
    record {
      none = past_from_first format more old
          ∙ held_none format more (from_first format more old) held;
      rest = held_rest format more old held;
      waiting = held_waits format more (from_first format more old) held;
      stream = λ following last. messages_from_first format laws more following last old;
      no_longer = length-from_first format more old;
    }

waiting_first : (format : Format) → (rest : List ℕ) → IsWaiting format rest
    → from_first format true rest ≡ rest
waiting_first format [] w = refl
waiting_first format (x ∷ xs) w = elim w [ inl e ↦ cc | inr o ↦ rw o refl ]

waiting_size : (format : Format) → IsFormat format → (rest : List ℕ) → IsWaiting format rest
    → format.size rest ≡ 0
waiting_size format laws rest w = elim w
    [ inl e ↦ rw e (omega (arith, laws.size_le [])) | inr o ↦ laws.size_of_open rest o ]

-- while bytes wait, none is found
pub waits_for_more : (format : Format) → IsFormat format → (rest : List ℕ) → IsWaiting format rest
    → TakesNone format true rest rest
waits_for_more format laws rest w =
    let same = waiting_first format rest w in
    let none : format.size (from_first format true rest) ≡ 0 =
    rw same (waiting_size format laws rest w) in
    rw same at (takes_none format laws true rest none)

pub waiting_decided : (format : Format) → (rest : List ℕ) → IsWaiting format rest
    → messages_past format true rest 0 ≡ []
waiting_decided format [] w = refl
waiting_decided format (x ∷ xs) w = elim w [ inl e ↦ cc | inr o ↦ rw o refl ]

pub waiting_undecided : (format : Format) → (rest : List ℕ) → IsWaiting format rest
    → undecided format rest ≡ rest
waiting_undecided format [] w = refl
waiting_undecided format (x ∷ xs) w = elim w [ inl e ↦ cc | inr o ↦ rw o refl ]

-- the same for the bytes from the first offset on
pub none_at_first : (format : Format) → IsFormat format → (more : Bool) (old rest : List ℕ)
    → rest ≡ from_first format more old → format.size rest ≡ 0 → TakesNone format more old rest
none_at_first format laws more old rest e none =
    let nothing : format.size (from_first format more old) ≡ 0 = rw e at none in
    rw e (takes_none format laws more old nothing)

pub waits_at_first : (format : Format) → IsFormat format → (more : Bool) (old rest : List ℕ)
    → rest ≡ from_first format more old → format.size rest ≡ 0 → IsWaiting format rest
waits_at_first format laws more old rest e none =
    (none_at_first format laws more old rest e none).waiting

pub message_at_first : (format : Format) → IsFormat format
    → (more : Bool) (old rest frame : List ℕ) (size : ℕ) → rest ≡ from_first format more old
    → size ≡ format.size rest → 0 < size → frame ≡ take size rest
    → TakesMessage format more old frame (drop size rest)
message_at_first format laws more old rest frame size e n some f =
    let there : 0 < format.size (from_first format more old) = rw (n, e) at some in
    rw (f, n, e) (takes_message format laws more old there)

-- where the bytes are held, the first offset is 0
pub first_at_held : (format : Format) → (more : Bool) (b : List ℕ)
    → (more && format.is_open b) ≡ true → from_first format more b ≡ b
first_at_held format more [] h = refl
first_at_held format more (x ∷ xs) h = rw h refl

pub size_at_held : (format : Format) → IsFormat format → (more : Bool) (b : List ℕ)
    → (more && format.is_open b) ≡ true → format.size b ≡ 0
size_at_held format laws more b h = laws.size_of_open b (and_parts more (format.is_open b) h).1

pub size_at_end : (format : Format) → IsFormat format → (b : List ℕ) → length b ≡ 0
    → format.size b ≡ 0
size_at_end format laws b h = omega (arith, laws.size_le b)

-- and so where a message begins
pub first_at_message : (format : Format) → IsFormat format → (more : Bool) (b : List ℕ)
    → 0 < format.size b → from_first format more b ≡ b
first_at_message format laws more [] h = refl
first_at_message format laws more (x ∷ xs) h =
    let f : nat_lt 0 (format.size (x ∷ xs)) ≡ true = lt-ltb _ _ h in
    let closed : (more && format.is_open (x ∷ xs)) ≡ false =
    and_right more _ (closed_by format laws (x ∷ xs) h) in
    rw (closed, f) refl

passed_prefix : (format : Format) → (more : Bool) (x : ℕ) (xs b : List ℕ) → b ≡ x ∷ xs
    → (more && format.is_open b) ≡ false → format.size b ≡ 0
    → from_first format more b ≡ from_first format more xs
passed_prefix format more x xs b e closed none =
    let f : nat_lt 0 (format.size b) ≡ false = le-ltb _ _ (omega arith) in
    rw e (rw (rw e at closed, rw e at f) refl)

-- a byte where nothing begins is passed
pub first_passed : (format : Format) → (more : Bool) (b : List ℕ) (i : ℕ) → i < length b
    → (more && format.is_open (drop i b)) ≡ false → format.size (drop i b) ≡ 0
    → from_first format more (drop i b) ≡ from_first format more (drop (i + 1) b)
first_passed format more b i h closed none =
    passed_prefix format more (get_or b i 0) (drop (i + 1) b) (drop i b)
    (drop_more b i 0 h) closed none
