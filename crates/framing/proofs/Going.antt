-- The decided messages of a format with a heading, with more bytes following.
use Rattle.std.proofs.Common.{◌≡◌, ℕ, zero, suc, ◌-◌, ◌≤◌, nat_lt, Bool, true, false, List}
use Rattle.std.proofs.Common.{[], ◌∷◌, ◌++◌, length, take, drop, refl, sym, ap, ◌∙◌, inl, inr}
use Rattle.std.proofs.Common.{arith, length-append}
use Rattle.std.proofs.lemmas.Bool.{and_left, and_right, cases_Bool, le-ltb, ltb-true, ltb-false}
use Rattle.std.proofs.lemmas.List.{take-append-le}
use Rattle.framing.specs.Headings.{Heading, IsHeading, format_of}
use Rattle.framing.specs.Messages.{Format, IsFormat, messages_past, decided, open_past, undecided}
use Rattle.framing.specs.Messages.{after_first}
use Rattle.framing.specs.MessageState.{TakesMessage, TakesNone}
use Rattle.framing.proofs.HeadingLaws.{heading_is_format}
use Rattle.framing.proofs.MessageLaws.{drop_first, open_past-drop}

-- more bytes do not make a message incomplete
abbrev KeepsClosed : Format → Type 0
KeepsClosed f = (x : ℕ) (xs ys : List ℕ) → f.is_open (x ∷ xs) ≡ false
    → f.is_open (x ∷ (xs ++ ys)) ≡ false

keeps_closed : (h : Heading) → IsHeading h → KeepsClosed (format_of h)
keeps_closed h laws x xs ys closed =
    elim (cases_Bool (h.begins (x ∷ xs))) [
      | inl begun ↦
          let short : nat_lt (length (x ∷ xs)) (h.wanted (x ∷ xs)) ≡ false = rw begun at closed in
          let whole = laws.whole (x ∷ xs) ys begun (ltb-false _ _ short) in
          let longer = length-append xs ys in
          let fits = ltb-false _ _ short in
          and_right (h.begins (x ∷ (xs ++ ys))) _
          (le-ltb _ _ (omega (arith, whole.1, longer, fits)))
      | inr not ↦ and_left (h.begins (x ∷ (xs ++ ys))) _ (laws.refused (x ∷ xs) ys not)
    ]

-- the decided messages with more bytes following, after the first k bytes
abbrev Decide : Format → List ℕ → List ℕ → ℕ → Type 0
Decide f bytes more k =
    messages_past f true (bytes ++ more) k
    ≡ messages_past f true bytes k ++ messages_past f true (open_past f bytes k ++ more) 0

module _ (f : Format) (laws : IsFormat f) (closed : KeepsClosed f) where
  decide_at : (x : ℕ) (xs more : List ℕ) → ((k : ℕ) → k ≤ length xs → Decide f xs more k)
      → (held : Bool) → f.is_open (x ∷ xs) ≡ held → (found : Bool)
      → nat_lt 0 (f.size (x ∷ xs)) ≡ found
      → Decide f (x ∷ xs) more 0
  decide_at x xs more go true o found e = rw o refl
  decide_at x xs more go false o true e =
      let same : take (f.size (x ∷ xs)) (x ∷ (xs ++ more)) ≡ take (f.size (x ∷ xs)) (x ∷ xs) =
      take-append-le (f.size (x ∷ xs)) (x ∷ xs) more (laws.size_le (x ∷ xs)) in
      let within = laws.size_le (x ∷ xs) in
      rw (laws.size_append x xs more o, closed x xs more o, o, e, same)
      (ap (λ rest. take (f.size (x ∷ xs)) (x ∷ xs) ∷ rest)
      (go (f.size (x ∷ xs) - 1) (omega (arith, within))))
  decide_at x xs more go false o false e =
      rw (laws.size_append x xs more o, closed x xs more o, o, e) (go 0 (omega arith))

  decide_past : (bytes more : List ℕ) (k : ℕ) → k ≤ length bytes → Decide f bytes more k
  decide_past [] more zero h = refl
  decide_past [] more (suc k) h = absurd (omega arith)
  decide_past (x ∷ xs) more zero h = decide_at x xs more (decide_past xs more) _ refl _ refl
  decide_past (x ∷ xs) more (suc k) h = decide_past xs more k (omega arith)

  -- where a message is decided, the bytes after the first leave the same undecided
  abbrev Leaves : List ℕ → Type 0
  Leaves bytes = (m : List ℕ) (ms : List (List ℕ)) → decided f bytes ≡ m ∷ ms
      → undecided f bytes ≡ undecided f (after_first f bytes)

  leaves_at : (x : ℕ) (xs : List ℕ) → Leaves xs → (held : Bool) → f.is_open (x ∷ xs) ≡ held
      → (found : Bool) → nat_lt 0 (f.size (x ∷ xs)) ≡ found → Leaves (x ∷ xs)
  leaves_at x xs go true o found e m ms is = absurd (omega (arith, ap length (rw o at is)))
  leaves_at x xs go false o true e m ms is =
      let passed : drop (f.size (x ∷ xs)) (x ∷ xs) ≡ drop (f.size (x ∷ xs) - 1) xs =
      drop_first x xs (f.size (x ∷ xs)) (ltb-true _ _ e) in
      rw (o, e, passed) (open_past-drop f xs (f.size (x ∷ xs) - 1))
  leaves_at x xs go false o false e m ms is = rw (o, e) (go m ms (rw (o, e) at is))

  leaves : (bytes : List ℕ) → Leaves bytes
  leaves [] m ms is = absurd (omega (arith, ap length is))
  leaves (x ∷ xs) m ms is = leaves_at x xs (leaves xs) _ refl _ refl m ms is

-- decided messages stay; the other messages are those of the undecided bytes and what follows
pub decided_behind : (h : Heading) → IsHeading h → (bytes more : List ℕ)
    → decided (format_of h) (bytes ++ more)
    ≡ decided (format_of h) bytes ++ decided (format_of h) (undecided (format_of h) bytes ++ more)
decided_behind h laws bytes more =
    decide_past (format_of h) (heading_is_format h laws) (keeps_closed h laws) bytes more 0
    (omega arith)

-- a message that is found is the first decided one, whatever bytes follow
pub decided_message : (h : Heading) → IsHeading h → (old message new : List ℕ)
    → TakesMessage (format_of h) true old message new → (following : List ℕ)
    → decided (format_of h) (old ++ following) ≡ message ∷ decided (format_of h) (new ++ following)
decided_message h laws old message new takes following =
    let f = format_of h in
    let same : undecided f old ≡ undecided f new =
    leaves f (heading_is_format h laws) (keeps_closed h laws) old message
    (decided f new) takes.first
    ∙ ap (undecided f) (sym takes.rest) in
    decided_behind h laws old following
    ∙ ap (λ (l : List (List ℕ)). l ++ decided f (undecided f old ++ following)) takes.first
    ∙ ap (λ (l : List ℕ). message ∷ (decided f new ++ decided f (l ++ following))) same
    ∙ ap (λ (l : List (List ℕ)). message ∷ l) (sym (decided_behind h laws new following))

-- where none is found, none is decided before the bytes kept, whatever bytes follow
pub decided_none : (h : Heading) → IsHeading h → (old new : List ℕ)
    → TakesNone (format_of h) true old new
    → (following : List ℕ) → decided (format_of h) (old ++ following)
    ≡ decided (format_of h) (new ++ following)
decided_none h laws old new none following =
    let f = format_of h in
    decided_behind h laws old following
    ∙ ap (λ (l : List (List ℕ)). l ++ decided f (undecided f old ++ following)) none.none
    ∙ ap (λ (l : List ℕ). decided f (l ++ following)) (sym none.rest)
