-- One step of a log: what waited is given, a message is taken, or the end is reached.
use Rattle.std.proofs.Common.{◌≡◌, ℕ, Bool, true, false, not, List, [], ◌∷◌, ◌++◌, length, map}
use Rattle.std.proofs.Common.{refl, sym, ap, subst, ◌∙◌, append-nil, inl, inr, arith}
use Rattle.std.specs.Prelude.{None, Option}
use Rattle.receiver_log.specs.declared.content.LogReason.{LogReason}
use Rattle.framing.specs.Headings.{Heading, IsHeading, format_of}
use Rattle.framing.specs.Messages.{messages, decided}
use Rattle.framing.specs.MessageState.{IsWaiting, TakesMessage, TakesNone}
use Rattle.framing.proofs.Surface.{decided_message, decided_none}
use Rattle.receiver_log.specs.declared.content.LogMessage.{LogMessage}
use Rattle.receiver_log.specs.declared.reception.Reception.{Reception}
use Rattle.receiver_log.specs.declared.state.LogState.{LogState}
use Rattle.receiver_log.specs.declared.state.MessageCounts.{MessageCounts}
use Rattle.receiver_log.specs.Capture.{counts_after, given, refusal_line}
use Rattle.receiver_log.specs.Log.{counted}
use Rattle.receiver_log.specs.Mirrors.{QueueState, to_come}
use Rattle.receiver_log.specs.Steps.{ReceivesOne, IsIdle, LogView}

-- both queues have the same to come
abbrev pub Same : QueueState → QueueState → Type 0
Same q q1 = (more : Bool) (n : ℕ) (says : List LogMessage) → to_come more q n says ≡ to_come more q1 n says

-- a log with these parts
abbrev at : List ℕ → QueueState → MessageCounts → Bool → LogState → ℕ → LogView
at rest q c f s taken = record {
  place = record { rest = rest; queue = q; counts = c };
  ended = f;
  state = s;
  taken = taken;
}

ended : {f : Bool} → not f ≡ false → f ≡ true
ended {f = true} e = refl
ended {f = false} e = cc e

module _ (h : Heading) (said : List ℕ → LogMessage) where
  -- what waited is given
  pub given_step : (f : Bool) (taken : ℕ) (rest : List ℕ) (c : MessageCounts) (q q1 : QueueState)
      (s s1 : LogState) (l l1 : List ℕ) (r : Reception) (tells : List ℕ → Type 0)
      (why : Option LogReason)
      → ((m : Bool) (n : ℕ) (says : List LogMessage) → to_come m q n says ≡ r ∷ to_come m q1 n says)
      → s1 ≡ (given s r).state → l1 ≡ l ++ (given s r).text
      → why ≡ (given s r).refused → tells (refusal_line r.number why)
      → ReceivesOne h said (at rest q c f s taken) (at rest q1 c f s1 taken) l l1 tells
  given_step f taken rest c q q1 s s1 l l1 r tells why first state lines is told = (
    record {
      heard = r ∷ [];
      passes = record {
        stream = λ following last. first false c.messages _;
        decides = λ on following. first true c.messages _;
        counts = λ following last. refl;
        stays = λ over. (over, refl);
      };
      state_is = state;
      lines_are = lines ∙ ap (λ t. l ++ t) (sym (append-nil (given s r).text));
      told = subst tells (ap (refusal_line r.number) is
          ∙ sym (append-nil (refusal_line r.number (given s r).refused))) told;
    },
    omega arith,
  )

  -- a message is taken
  pub message_step : IsHeading h → (f : Bool) (taken : ℕ) (rest rest1 m : List ℕ)
      (c c1 : MessageCounts) (q q1 q2 : QueueState) (s : LogState) (l : List ℕ)
      (tells : List ℕ → Type 0)
      → TakesMessage (format_of h) (not f) rest m rest1 → Same q q1
      → ((b : Bool) (says : List LogMessage)
      → to_come b q1 c.messages (said m ∷ says) ≡ to_come b q2 c1.messages says)
      → c1 ≡ counted c (length m) (said m) → tells []
      → ReceivesOne h said (at rest q c f s taken) (at rest1 q2 c1 f s taken) l l tells
  message_step laws f taken rest rest1 m c c1 q q1 q2 s l tells takes same comes counts told = (
    record {
      heard = [];
      passes = record {
        stream = λ following last.
            ap (λ ms. to_come false q c.messages (map said ms))
            (takes.stream following (λ over. last (ended over)))
            ∙ same false c.messages _ ∙ comes false _;
        decides = λ on following.
            ap (λ ms. to_come true q c.messages (map said ms))
            (decided_message h laws rest m rest1
            (subst (λ (t : Bool). TakesMessage (format_of h) (not t) rest m rest1) on takes) following)
            ∙ same true c.messages _ ∙ comes true _;
        counts = λ following last.
            ap (counts_after said c) (takes.stream following (λ over. last (ended over)))
            ∙ ap (λ t. counts_after said t (messages (format_of h) (rest1 ++ following))) (sym counts);
        stays = λ over. (over, refl);
      };
      state_is = refl;
      lines_are = sym (append-nil l);
      told = told;
    },
    omega arith,
  )

  -- no message is found
  pub none_step : IsHeading h → (f : Bool) (taken : ℕ) (rest rest1 : List ℕ) (c : MessageCounts)
      (q q1 : QueueState) (s : LogState) (l : List ℕ) (tells : List ℕ → Type 0)
      → TakesNone (format_of h) (not f) rest rest1 → Same q q1 → tells []
      → ReceivesOne h said (at rest q c f s taken) (at rest1 q1 c f s taken) l l tells
  none_step laws f taken rest rest1 c q q1 s l tells none same told = (
    record {
      heard = [];
      passes = record {
        stream = λ following last.
            ap (λ ms. to_come false q c.messages (map said ms))
            (none.stream following (λ over. last (ended over)))
            ∙ same false c.messages _;
        decides = λ on following.
            ap (λ ms. to_come true q c.messages (map said ms))
            (decided_none h laws rest rest1
            (subst (λ (t : Bool). TakesNone (format_of h) (not t) rest rest1) on none) following)
            ∙ same true c.messages _;
        counts = λ following last.
            ap (counts_after said c) (none.stream following (λ over. last (ended over)));
        stays = λ over. (over, refl);
      };
      state_is = refl;
      lines_are = sym (append-nil l);
      told = told;
    },
    omega arith,
  )

  -- the end: what waits has no time
  pub end_step : (f : Bool) (taken : ℕ) (rest rest1 : List ℕ) (c : MessageCounts)
      (q q1 q2 : QueueState) (s : LogState) (l : List ℕ) (tells : List ℕ → Type 0)
      → f ≡ true → TakesNone (format_of h) (not f) rest rest1 → Same q q1
      → ((n : ℕ) → to_come false q1 n [] ≡ to_come false q2 n []) → tells []
      → ReceivesOne h said (at rest q c f s taken) (at rest1 q2 c f s taken) l l tells
  end_step f taken rest rest1 c q q1 q2 s l tells over none same ends told =
      let empty : rest1 ≡ [] = none.rest ∙ (rw over refl) in (
        record {
          heard = [];
          passes = record {
            stream = λ following last.
                let no_more : rest1 ++ following ≡ [] = rw (empty, last over) refl in
                ap (λ ms. to_come false q c.messages (map said ms))
                (none.stream following (λ off. last over))
                ∙ same false c.messages _
                ∙ ap (λ t. to_come false q1 c.messages (map said (messages (format_of h) t))) no_more
                ∙ ends c.messages
                ∙ sym (ap (λ t. to_come false q2 c.messages (map said (messages (format_of h) t)))
                no_more);
            decides = λ on. cc (on, over);
            counts = λ following last.
                ap (counts_after said c) (none.stream following (λ off. last over));
            stays = λ on. (on, refl);
          };
          state_is = refl;
          lines_are = sym (append-nil l);
          told = told;
        },
        omega arith,
      )

  -- no message is decided of bytes that wait
  waiting_decided : (rest : List ℕ) → IsWaiting (format_of h) rest
      → decided (format_of h) rest ≡ []
  waiting_decided [] w = refl
  waiting_decided (x ∷ xs) w = elim w [ inl e ↦ cc | inr o ↦ rw o refl ]

  -- nothing more is decided
  pub idle : (f : Bool) (taken : ℕ) (rest : List ℕ) (c : MessageCounts) (q : QueueState)
      (s : LogState) → IsWaiting (format_of h) rest → (f ≡ true → rest ≡ [])
      → ((n : ℕ) → to_come true q n [] ≡ [])
      → (f ≡ true → (n : ℕ) → to_come false q n [] ≡ [])
      → IsIdle h said (at rest q c f s taken)
  idle false taken rest c q s waits none goes ends = record {
    waiting = waits;
    last = ap (λ t. to_come true q c.messages (map said (decided (format_of h) t))) (append-nil rest)
        ∙ ap (λ ms. to_come true q c.messages (map said ms)) (waiting_decided rest waits)
        ∙ goes c.messages;
    rest = none;
  }
  idle true taken rest c q s waits none goes ends = record {
    waiting = waits;
    last = ap (λ t. to_come false q c.messages (map said (messages (format_of h) (t ++ []))))
        (none refl) ∙ ends refl c.messages;
    rest = none;
  }

pub empty_ends : (q : QueueState) → q.settled ≡ None → q.waiting ≡ [] → (n : ℕ)
    → to_come false q n [] ≡ []
empty_ends q unset empty n = rw (unset, empty) refl
