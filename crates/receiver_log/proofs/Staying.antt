-- What is decided of the first bytes of a log stays, whatever bytes follow.
use Rattle.std.proofs.Common.{◌≡◌, ℕ, zero, suc, ◌+◌, ◌-◌, ◌<◌, ◌≤◌, ◌&&◌, nat_le, nat_lt, not, Bool, true, false}
use Rattle.std.proofs.Common.{List, [], ◌∷◌, ◌++◌, map, take, refl, sym, ap, subst, ◌∙◌, arith}
use Rattle.std.proofs.Common.{append_assoc}
use Rattle.std.proofs.lemmas.Bool.{le-leb, leb-false, leb-true}
use Rattle.std.proofs.lemmas.List.{map-append}
use Rattle.std.specs.Prelude.{Option, Some, None}
use Rattle.framing.specs.Headings.{Heading, format_of}
use Rattle.framing.specs.Messages.{Format, decided, messages, messages_past, undecided}
use Rattle.receiver_log.specs.Systems.{SaysTimes}
use Rattle.receiver_log.specs.declared.content.LogContent.{LogContent}
use Rattle.receiver_log.specs.declared.content.LogMessage.{LogMessage}
use Rattle.receiver_log.specs.declared.content.LogMessage.TheVariants.{Other, Time, Received, Dated}
use Rattle.receiver_log.specs.declared.reception.Reception.{Reception}
use Rattle.receiver_log.specs.Log.{one_more}
use Rattle.receiver_log.specs.Mirrors.{behind_time, decision, stamped}
use Rattle.receiver_log.specs.Receptions.{decided_receptions, has_time, nearest, parts_to}
use Rattle.receiver_log.specs.Receptions.{received_from, receptions_of}
use Rattle.receiver_log.proofs.Comings.{comes_as_defined, decision_crowded}

-- ---- the time

-- a time message that has come decides
timed : (says more : List LogMessage) → has_time says ≡ true
    → (nearest (says ++ more) ≡ nearest says) × (parts_to (says ++ more) ≡ parts_to says)
    × (has_time (says ++ more) ≡ true)
timed [] more none = cc
timed (Other ∷ says) more some = timed says more some
timed (Time next ∷ says) more some = (refl, refl, refl)
timed (Received content ∷ says) more some =
    let rest = timed says more some in (rest.0, ap (λ n. n + 1) rest.1, rest.2)
timed (Dated own content ∷ says) more some =
    let rest = timed says more some in (rest.0, ap (λ n. n + 1) rest.1, rest.2)

-- with more messages as many stand before the next time message, or more
parts_more : (says more : List LogMessage) → parts_to says ≤ parts_to (says ++ more)
parts_more [] more = omega arith
parts_more (Other ∷ says) more = parts_more says more
parts_more (Time next ∷ says) more = omega arith
parts_more (Received content ∷ says) more = omega (arith, parts_more says more)
parts_more (Dated own content ∷ says) more = omega (arith, parts_more says more)

-- a time that is decided stays
decision_stays : (b : Bool) (first : ℕ) (says more : List LogMessage) (parts : ℕ) (seen few : Bool)
    → has_time says ≡ seen → nat_le (parts + parts_to says) 1024 ≡ few → (not seen && few) ≡ false
    → decision b (Some first) (says ++ more) (parts + parts_to (says ++ more))
    ≡ decision true (Some first) says (parts + parts_to says)
decision_stays b first says more parts true few some room shut =
    let same = timed says more some in
    rw (same.0, same.1, same.2, some) refl
decision_stays b first says more parts false true some room shut = cc
decision_stays b first says more parts false false some room shut =
    let many : 1024 < parts + parts_to says = leb-false _ _ room in
    decision_crowded b first (says ++ more) (parts + parts_to (says ++ more))
    (omega (arith, many, parts_more says more))
    ∙ sym (decision_crowded true first says (parts + parts_to says) many)

-- ---- receptions

-- each of them has times of its own, or else none has
abbrev AllSay : Bool → List LogMessage → Type 0
AllSay has_times [] = Unit {0}
AllSay has_times (s ∷ says) = SaysTimes has_times s × AllSay has_times says

-- while the time is open nothing is received
all_open : (first parts number : ℕ) (says : List LogMessage) → AllSay false says
    → has_time says ≡ false → parts + parts_to says ≤ 1024
    → behind_time true (Some first) parts number says ≡ []
all_open first parts number [] times none few = refl
all_open first parts number (Other ∷ says) times none few =
    all_open first parts (one_more number) says times.1 none few
all_open first parts number (Time next ∷ says) times none few = cc
all_open first parts number (Received content ∷ says) times none few =
    let room : nat_le (parts + 1 + parts_to says) 1024 ≡ true = le-leb _ _ (omega (arith, few)) in
    rw (none, room) (all_open first (parts + 1) (one_more number) says times.1 none
    (omega (arith, few)))
all_open first parts number (Dated own content ∷ says) times none few =
    let no : false ≡ true = times.0 in cc

-- one that waits, with this time
abbrev one_at : ℕ → LogContent → Option (Option ℕ) → List Reception
one_at number content d = stamped d (record { number = one_more number; content = content } ∷ [])

-- what is received of messages begins what is received of them and more, where yet more may come or not
abbrev Stays : Bool → Option ℕ → ℕ → ℕ → List LogMessage → List LogMessage → Type 0
Stays b time parts number says more =
    (rest : List Reception)
    × (behind_time b time parts number (says ++ more)
    ≡ behind_time true time parts number says ++ rest)

-- a subframe or a page, with what stays of the messages behind it
heard_stays : (b : Bool) (time : Option ℕ) (parts number : ℕ) (content : LogContent) (says more : List LogMessage)
    → AllSay false says → Stays b time (parts + 1) (one_more number) says more
    → Stays b time parts number (Received content ∷ says) more
heard_stays b time parts number content says more untimed tail = by_time time refl where
  -- where its time is decided
  decided_here : decision b time (says ++ more) (parts + 1 + parts_to (says ++ more))
      ≡ decision true time says (parts + 1 + parts_to says)
      → Stays b time parts number (Received content ∷ says) more
  decided_here same =
      let here = one_at number content (decision true time says (parts + 1 + parts_to says)) in (
        tail.0,
        ap (λ d. one_at number content d
            ++ behind_time b time (parts + 1) (one_more number) (says ++ more)) same
            ∙ ap (λ t. here ++ t) tail.1
            ∙ sym (append_assoc here (behind_time true time (parts + 1) (one_more number) says)
            tail.0),
      )

  by_room : (first : ℕ) (seen few : Bool) → time ≡ Some first → has_time says ≡ seen
      → nat_le (parts + 1 + parts_to says) 1024 ≡ few
      → Stays b time parts number (Received content ∷ says) more
  by_room first true few is some room =
      decided_here (rw is (decision_stays b first says more (parts + 1) true few some room refl))
  by_room first false false is some room =
      decided_here (rw is (decision_stays b first says more (parts + 1) false false some room refl))
  by_room first false true is some room =
      let nothing : behind_time true time parts number (Received content ∷ says) ≡ [] =
      rw is (rw (some, room) (all_open first (parts + 1) (one_more number) says untimed some
      (leb-true _ _ room))) in (
        behind_time b time parts number ((Received content ∷ says) ++ more),
        ap (λ t. t ++ behind_time b time parts number ((Received content ∷ says) ++ more))
            (sym nothing),
      )

  by_time : (t : Option ℕ) → time ≡ t → Stays b time parts number (Received content ∷ says) more
  by_time None is = decided_here (rw is refl)
  by_time (Some first) is = by_room first _ _ is refl refl

pub receptions_stay : (b has_times : Bool) (time : Option ℕ) (parts number : ℕ)
    (says more : List LogMessage)
    → AllSay has_times says → Stays b time parts number says more
receptions_stay b has_times time parts number [] more times =
    (behind_time b time parts number more, refl)
receptions_stay b has_times time parts number (Other ∷ says) more times =
    receptions_stay b has_times time parts (one_more number) says more times.1
receptions_stay b has_times time parts number (Time next ∷ says) more times =
    receptions_stay b has_times next 0 (one_more number) says more times.1
receptions_stay b has_times time parts number (Dated own content ∷ says) more times =
    let next = receptions_stay b has_times time (parts + 1) (one_more number) says more times.1 in
    let here : Reception = record { number = one_more number; time = own; content = content } in
    (next.0, ap (λ t. here ∷ t) next.1)
receptions_stay b has_times time parts number (Received content ∷ says) more times =
    heard_stays b time parts number content says more
    (subst (λ b. AllSay b says) times.0 times.1)
    (receptions_stay b has_times time (parts + 1) (one_more number) says more times.1)

-- ---- a log

-- what is decided of bytes begins what is decided of them and more, and what is received of them and more
abbrev pub Grows : Heading → (List ℕ → LogMessage) → Type 0
Grows h said = (bytes more : List ℕ) → ((rest : List Reception)
    × (decided_receptions said (decided (format_of h) (bytes ++ more))
    ≡ decided_receptions said (decided (format_of h) bytes) ++ rest))
    × ((rest : List Reception)
    × (receptions_of said (messages (format_of h) (bytes ++ more))
    ≡ decided_receptions said (decided (format_of h) bytes) ++ rest))

says_times : (has_times : Bool) (said : List ℕ → LogMessage)
    → ((message : List ℕ) → SaysTimes has_times (said message)) → (messages : List (List ℕ)) → AllSay has_times (map said messages)
says_times has_times said each [] = tt
says_times has_times said each (m ∷ ms) = (each m, says_times has_times said each ms)

-- the messages begin with the decided ones
abbrev WithDecided : Format → List ℕ → ℕ → Type 0
WithDecided format bytes k =
    (rest : List (List ℕ))
    × (messages_past format false bytes k ≡ messages_past format true bytes k ++ rest)

with_decided : (format : Format) (bytes : List ℕ) (k : ℕ) → WithDecided format bytes k
with_decided format [] k = ([], refl)
with_decided format (x ∷ xs) (suc k) = with_decided format xs k
with_decided format (x ∷ xs) zero = by_open (λ k. with_decided format xs k) _ refl where
  by_size : ((k : ℕ) → WithDecided format xs k) → (some : Bool) → format.is_open (x ∷ xs) ≡ false
      → nat_lt 0 (format.size (x ∷ xs)) ≡ some → WithDecided format (x ∷ xs) zero
  by_size each true closed some =
      let next = each (format.size (x ∷ xs) - 1) in
      rw (closed, some) (next.0, ap (λ l. take (format.size (x ∷ xs)) (x ∷ xs) ∷ l) next.1)
  by_size each false closed some = rw (closed, some) (each 0)

  by_open : ((k : ℕ) → WithDecided format xs k) → (begun : Bool) → format.is_open (x ∷ xs) ≡ begun
      → WithDecided format (x ∷ xs) zero
  by_open each true is =
      let none : messages_past format true (x ∷ xs) zero ≡ [] = rw is refl in (
        messages_past format false (x ∷ xs) zero,
        ap (λ l. l ++ messages_past format false (x ∷ xs) zero) (sym none),
      )
  by_open each false is = by_size each _ is refl

pub grows : (h : Heading) (said : List ℕ → LogMessage) (has_times : Bool)
    → ((message : List ℕ) → SaysTimes has_times (said message))
    → ((bytes more : List ℕ) → decided (format_of h) (bytes ++ more)
    ≡ decided (format_of h) bytes ++ decided (format_of h) (undecided (format_of h) bytes ++ more))
    → Grows h said
grows h said has_times each stay bytes more =
    let first = decided (format_of h) bytes in
    let last = decided (format_of h) (undecided (format_of h) bytes ++ more) in
    let whole = with_decided (format_of h) (bytes ++ more) 0 in
    let begin : (b : Bool) (behind : List (List ℕ)) → (rest : List Reception)
    × (received_from b [] (map said (first ++ behind))
    ≡ decided_receptions said first ++ rest) =
    λ b behind.
    let all = receptions_stay b has_times None 0 0 (map said first) (map said behind)
    (says_times has_times said each first) in (
      all.0,
      comes_as_defined b [] (map said (first ++ behind))
          ∙ ap (behind_time b None 0 0) (map-append said first behind)
          ∙ all.1
          ∙ ap (λ t. t ++ all.0) (sym (comes_as_defined true [] (map said first))),
    ) in
    let some = begin true last in
    let all = begin false (last ++ whole.0) in (
      (some.0, ap (decided_receptions said) (stay bytes more) ∙ some.1),
      (
        all.0,
        ap (receptions_of said) (whole.1 ∙ ap (λ l. l ++ whole.0) (stay bytes more)
            ∙ append_assoc first last whole.0) ∙ all.1,
      ),
    )
