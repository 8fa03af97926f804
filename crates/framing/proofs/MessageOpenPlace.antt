-- The decided messages are the chosen ones before the first incomplete one.
use Rattle.std.proofs.Common.{◌≡◌, ℕ, zero, suc, ◌+◌, ◌-◌, ◌<◌, ◌≤◌, ◌&&◌, nat_lt, Bool, true}
use Rattle.std.proofs.Common.{false, List, [], ◌∷◌, take, drop, refl, sym, ap, ◌∙◌, inl, inr, arith}
use Rattle.std.proofs.lemmas.Bool.{ltb-true, ltb-false, lt-ltb, le-ltb, and_right, both_ways}
use Rattle.std.proofs.lemmas.Bool.{cases_eq}
use Rattle.std.proofs.lemmas.List.{drop-drop, drop_all}
use Rattle.framing.specs.Messages.{Format, IsFormat, messages_past, open_past}
use Rattle.framing.specs.MessagePlaces.{AreChosen, size_at, messages_from, IsUnfinished, IsOpenPlace}
use Rattle.framing.proofs.MessageReaching.{Reaches, inside_is_passed, none_is_passed, outside_is_chosen}
use Rattle.framing.proofs.MessageReaching.{next_inside, next_outside, next_begun, behind}

-- the chosen offsets before this one
abbrev before : (ℕ → Bool) → ℕ → ℕ → Bool
before chosen place = λ p. chosen p && nat_lt p place

-- from the offset on no offset is before it
none_behind : (format : Format) → (chosen : ℕ → Bool) (place : ℕ) (rest : List ℕ) (p : ℕ)
    → place ≤ p → messages_from format (before chosen place) p rest ≡ []
none_behind format chosen place [] p h = refl
none_behind format chosen place (x ∷ xs) p h =
    let past : nat_lt p place ≡ false = le-ltb _ _ h in
    let closed : (chosen p && nat_lt p place) ≡ false = and_right (chosen p) _ past in
    rw closed (none_behind format chosen place xs (p + 1) (omega arith))

-- past the end of the bytes there is no byte
no_byte : (bytes : List ℕ) (p place : ℕ) → p ≤ place → [] ≡ drop p bytes → drop place bytes ≡ []
no_byte bytes p place h e =
    let from_p : drop (place - p) (drop p bytes) ≡ drop (p + (place - p)) bytes =
    drop-drop (place - p) p bytes in
    let there : p + (place - p) ≡ place = omega arith in
    sym (rw there at from_p) ∙ ap (drop (place - p)) (sym e) ∙ drop_all (place - p) [] (omega arith)

-- from offset p on, of which the first k bytes are in the last chosen message
abbrev Stand : Format → List ℕ → (ℕ → Bool) → ℕ → List ℕ → ℕ → ℕ → Type 0
Stand format bytes chosen place rest p k =
    rest ≡ drop p bytes → Reaches format bytes chosen p k → p + k ≤ place
    → (messages_from format (before chosen place) p rest ≡ messages_past format true rest k)
    × (open_past format rest k ≡ drop place bytes)

stand_none : (format : Format) → IsFormat format → (bytes : List ℕ) (chosen : ℕ → Bool) (place : ℕ)
    → IsOpenPlace format bytes chosen place → (p k : ℕ) → Stand format bytes chosen place [] p k
stand_none format laws bytes chosen place o p k e r h =
    let none : drop place bytes ≡ [] = no_byte bytes p place (omega arith) e in
    let opens : format.is_open [] ≡ true = rw none at o.unfinished.opens in
    absurd (laws.none_open opens)

stand_inside : (format : Format) → (bytes : List ℕ) (chosen : ℕ → Bool) (place : ℕ)
    → AreChosen format bytes chosen → (x : ℕ) (xs : List ℕ) (p k : ℕ)
    → Stand format bytes chosen place xs (p + 1) k
    → Stand format bytes chosen place (x ∷ xs) p (suc k)
stand_inside format bytes chosen place set x xs p k go e r h =
    let closed = inside_is_passed format bytes chosen set p k r in
    rw closed (go (behind bytes p x xs e) (next_inside format bytes chosen p k closed r)
    (omega arith))

-- an incomplete message outside the chosen ones is unfinished
unfinished_at : (format : Format) → (bytes : List ℕ) (chosen : ℕ → Bool) (x : ℕ) (xs : List ℕ)
    (p : ℕ) → x ∷ xs ≡ drop p bytes → format.is_open (x ∷ xs) ≡ true
    → Reaches format bytes chosen p 0 → IsUnfinished format bytes chosen p
unfinished_at format bytes chosen x xs p e o r = record {
  opens = rw e at o;
  outside = λ q c h. omega (arith, r.before q c h);
}

-- an incomplete message at an offset up to the open one is the open one
held_at : (format : Format) → (bytes : List ℕ) (chosen : ℕ → Bool) (place : ℕ)
    → IsOpenPlace format bytes chosen place → (x : ℕ) (xs : List ℕ) (p : ℕ) → x ∷ xs ≡ drop p bytes
    → format.is_open (x ∷ xs) ≡ true → Reaches format bytes chosen p 0 → p ≤ place → p ≡ place
held_at format bytes chosen place open_place x xs p e o r h =
    elim (cases_eq p place) [
      | inl same ↦ same
      | inr other ↦ absurd (open_place.least p (omega arith)
          (unfinished_at format bytes chosen x xs p e o r))
    ]

-- another offset up to the open one is before it
before_at : (format : Format) → (bytes : List ℕ) (chosen : ℕ → Bool) (place : ℕ)
    → IsOpenPlace format bytes chosen place → (x : ℕ) (xs : List ℕ) (p : ℕ) → x ∷ xs ≡ drop p bytes
    → format.is_open (x ∷ xs) ≡ false → p ≤ place → p < place
before_at format bytes chosen place open_place x xs p e o h =
    elim (cases_eq p place) [
      | inl same ↦
          let opens : format.is_open (drop p bytes) ≡ true = rw same open_place.unfinished.opens in
          absurd (both_ways _ o (rw e opens))
      | inr other ↦ omega arith
    ]

stand_at : (format : Format) → (bytes : List ℕ) (chosen : ℕ → Bool) (place : ℕ)
    → AreChosen format bytes chosen → IsOpenPlace format bytes chosen place
    → (x : ℕ) (xs : List ℕ) (p : ℕ)
    → ((k : ℕ) → Stand format bytes chosen place xs (p + 1) k)
    → (held : Bool) → format.is_open (x ∷ xs) ≡ held → (found : Bool)
    → nat_lt 0 (format.size (x ∷ xs)) ≡ found → Stand format bytes chosen place (x ∷ xs) p 0
stand_at format bytes chosen place set open_place x xs p go true o found f e r h =
    let same : p ≡ place = held_at format bytes chosen place open_place x xs p e o r
    (omega arith) in
    let rest : x ∷ xs ≡ drop place bytes = rw same at e in
    (rw o (none_behind format chosen place (x ∷ xs) p (omega arith)), rw o rest)
stand_at format bytes chosen place set open_place x xs p go false o true f e r h =
    let early : p < place = before_at format bytes chosen place open_place x xs p e o
    (omega arith) in
    let is_early : nat_lt p place ≡ true = lt-ltb _ _ early in
    let size : size_at format bytes p ≡ format.size (x ∷ xs) = ap format.size (sym e) in
    let some : 0 < format.size (x ∷ xs) = ltb-true _ _ f in
    let here = outside_is_chosen format bytes chosen set p (omega arith) r in
    let ends = open_place.unfinished.outside p here early in
    let next : Reaches format bytes chosen (p + 1) (format.size (x ∷ xs) - 1) =
    rw size at (next_begun format bytes chosen p here (omega arith) r) in
    let behind_it = go (format.size (x ∷ xs) - 1) (behind bytes p x xs e) next (omega arith) in
    rw (here, is_early, o, f) (
      ap (λ rest. take (format.size (x ∷ xs)) (x ∷ xs) ∷ rest) behind_it.0,
      behind_it.1,
    )
stand_at format bytes chosen place set open_place x xs p go false o false f e r h =
    let early : p < place = before_at format bytes chosen place open_place x xs p e o
    (omega arith) in
    let size : size_at format bytes p ≡ format.size (x ∷ xs) = ap format.size (sym e) in
    let none : format.size (x ∷ xs) ≤ 0 = ltb-false _ _ f in
    let closed = none_is_passed format bytes chosen set p (omega arith) in
    rw (closed, o, f) (go 0 (behind bytes p x xs e) (next_outside format bytes chosen p closed r)
    (omega arith))

pub stand_before : (format : Format) → IsFormat format
    → (bytes : List ℕ) (chosen : ℕ → Bool) (place : ℕ) → AreChosen format bytes chosen
    → IsOpenPlace format bytes chosen place
    → (rest : List ℕ) (p k : ℕ) → Stand format bytes chosen place rest p k
stand_before format laws bytes chosen place set open_place [] p k =
    stand_none format laws bytes chosen place open_place p k
stand_before format laws bytes chosen place set open_place (x ∷ xs) p zero =
    stand_at format bytes chosen place set open_place x xs p
    (stand_before format laws bytes chosen place set open_place xs (p + 1)) _ refl _ refl
stand_before format laws bytes chosen place set open_place (x ∷ xs) p (suc k) =
    stand_inside format bytes chosen place set x xs p k
    (stand_before format laws bytes chosen place set open_place xs (p + 1) k)

-- from offset p on, all messages are decided
abbrev Whole : Format → List ℕ → (ℕ → Bool) → List ℕ → ℕ → ℕ → Type 0
Whole format bytes chosen rest p k =
    rest ≡ drop p bytes → Reaches format bytes chosen p k
    → (messages_past format true rest k ≡ messages_past format false rest k)
    × (open_past format rest k ≡ [])

whole_at : (format : Format) → (bytes : List ℕ) (chosen : ℕ → Bool) → AreChosen format bytes chosen
    → ((place : ℕ) → IsUnfinished format bytes chosen place → ⊥) → (x : ℕ) (xs : List ℕ) (p : ℕ)
    → ((k : ℕ) → Whole format bytes chosen xs (p + 1) k)
    → (held : Bool) → format.is_open (x ∷ xs) ≡ held → (found : Bool)
    → nat_lt 0 (format.size (x ∷ xs)) ≡ found → Whole format bytes chosen (x ∷ xs) p 0
whole_at format bytes chosen set finished x xs p go true o found f e r =
    absurd (finished p (unfinished_at format bytes chosen x xs p e o r))
whole_at format bytes chosen set finished x xs p go false o true f e r =
    let size : size_at format bytes p ≡ format.size (x ∷ xs) = ap format.size (sym e) in
    let some : 0 < format.size (x ∷ xs) = ltb-true _ _ f in
    let here = outside_is_chosen format bytes chosen set p (omega arith) r in
    let next : Reaches format bytes chosen (p + 1) (format.size (x ∷ xs) - 1) =
    rw size at (next_begun format bytes chosen p here (omega arith) r) in
    let behind_it = go (format.size (x ∷ xs) - 1) (behind bytes p x xs e) next in
    rw (o, f) (ap (λ rest. take (format.size (x ∷ xs)) (x ∷ xs) ∷ rest) behind_it.0, behind_it.1)
whole_at format bytes chosen set finished x xs p go false o false f e r =
    let size : size_at format bytes p ≡ format.size (x ∷ xs) = ap format.size (sym e) in
    let none : format.size (x ∷ xs) ≤ 0 = ltb-false _ _ f in
    let closed = none_is_passed format bytes chosen set p (omega arith) in
    rw (o, f) (go 0 (behind bytes p x xs e) (next_outside format bytes chosen p closed r))

pub whole_messages : (format : Format) → (bytes : List ℕ) (chosen : ℕ → Bool)
    → AreChosen format bytes chosen → ((place : ℕ) → IsUnfinished format bytes chosen place → ⊥)
    → (rest : List ℕ) (p k : ℕ) → Whole format bytes chosen rest p k
whole_messages format bytes chosen set finished [] p k = λ e r. (refl, refl)
whole_messages format bytes chosen set finished (x ∷ xs) p zero =
    whole_at format bytes chosen set finished x xs p
    (whole_messages format bytes chosen set finished xs (p + 1)) _ refl _ refl
whole_messages format bytes chosen set finished (x ∷ xs) p (suc k) = λ e r.
    let closed = inside_is_passed format bytes chosen set p k r in
    whole_messages format bytes chosen set finished xs (p + 1) k (behind bytes p x xs e)
    (next_inside format bytes chosen p k closed r)
