-- What is to come of a log's subframes and pages, message by message.
use Rattle.std.proofs.Common.{◌≡◌, ℕ, suc, ◌+◌, ◌-◌, ◌<◌, ◌≤◌, ◌^◌, ◌&&◌, nat_le, min, not, Bool, true, false}
use Rattle.std.proofs.Common.{List, [], ◌∷◌, ◌++◌, length, refl, sym, ap, ◌∙◌, arith}
use Rattle.std.proofs.Common.{append_assoc, drop, length-append}
use Rattle.std.proofs.lemmas.Bool.{both_ways, le-leb, lt-leb}
use Rattle.std.specs.Prelude.{Option, Some, None, if◌then◌else◌}
use Rattle.std.specs.Option.{is_some}
use Rattle.receiver_log.specs.declared.content.LogContent.{LogContent}
use Rattle.receiver_log.specs.declared.content.LogMessage.{LogMessage}
use Rattle.receiver_log.specs.declared.content.LogMessage.TheVariants.{Other, Time, Received, Dated}
use Rattle.receiver_log.specs.declared.queue.Pending.{Pending}
use Rattle.receiver_log.specs.Log.{one_more}
use Rattle.receiver_log.specs.Mirrors.{QueueState, behind_time, decision, stamped, to_come}
use Rattle.receiver_log.specs.Receptions.{between, has_time, is_open, nearest, parts_to}
use Rattle.receiver_log.specs.Receptions.{received, received_from}

-- ---- the time

and_false : (b : Bool) → (b && false) ≡ false
and_false true = refl
and_false false = refl

and3_false : (a b : Bool) → (a && b && false) ≡ false
and3_false true true = refl
and3_false true false = refl
and3_false false b = refl

between_crowded : (first : ℕ) (second : Option ℕ) (parts : ℕ) → 1024 < parts
    → between (Some first) second parts ≡ None
between_crowded first None parts many = refl
between_crowded first (Some second) parts many =
    let few : nat_le parts 1024 ≡ false = lt-leb parts 1024 many in
    rw (few, and3_false (nat_le first (second + 1)) (nat_le second (first + 60))) refl

-- with too many between, there is no time
pub decision_crowded : (more : Bool) (first : ℕ) (says : List LogMessage) (parts : ℕ) → 1024 < parts
    → decision more (Some first) says parts ≡ Some None
decision_crowded more first says parts many =
    let few : nat_le parts 1024 ≡ false = lt-leb parts 1024 many in
    rw (between_crowded first (nearest says) parts many, few, and_false (not (has_time says))) refl

-- a time message decides
pub decision_time : (more : Bool) (time next : Option ℕ) (says : List LogMessage) (parts : ℕ)
    → decision more time (Time next ∷ says) parts ≡ Some (between time next parts)
decision_time more None next says parts = refl
decision_time more (Some first) next says parts = refl

-- a subframe or a page is counted
decision_heard : (more : Bool) (time : Option ℕ) (content : LogContent) (says : List LogMessage) (parts : ℕ)
    → decision more time (Received content ∷ says) parts ≡ decision more time says parts
decision_heard more None content says parts = refl
decision_heard more (Some first) content says parts = refl

pub decision_other : (more : Bool) (time : Option ℕ) (says : List LogMessage) (parts : ℕ)
    → decision more time (Other ∷ says) parts ≡ decision more time says parts
decision_other more None says parts = refl
decision_other more (Some first) says parts = refl

-- at the end there is no time
decision_end : (time : Option ℕ) (parts : ℕ) → decision false time [] parts ≡ Some None
decision_end None parts = refl
decision_end (Some first) parts = rw (and_false (nat_le parts 1024)) refl

-- while more may come, what waits is open
pub decision_open : (first parts : ℕ) → parts ≤ 1024 → decision true (Some first) [] parts ≡ None
decision_open first parts few =
    let is : nat_le parts 1024 ≡ true = le-leb parts 1024 few in
    rw is refl

-- ---- lists

pub stamped_append : (time : Option (Option ℕ)) (xs ys : List Pending)
    → stamped time (xs ++ ys) ≡ stamped time xs ++ stamped time ys
stamped_append time [] ys = refl
stamped_append None (x ∷ xs) [] = refl
stamped_append None (x ∷ xs) (y ∷ ys) = refl
stamped_append (Some time) (x ∷ xs) ys = ap
    (λ t. record { number = x.number; time = time; content = x.content } ∷ t)
    (stamped_append (Some time) xs ys)

-- ---- messages behind a time message

-- without a time before, it is nothing how many there were
behind_none : (more : Bool) (p q n : ℕ) (says : List LogMessage)
    → behind_time more None p n says ≡ behind_time more None q n says
behind_none more p q n [] = refl
behind_none more p q n (Other ∷ says) = behind_none more p q (one_more n) says
behind_none more p q n (Time next ∷ says) = refl
behind_none more p q n (Received content ∷ says) = ap
    (λ t. record { number = one_more n; time = None; content = content } ∷ t)
    (behind_none more (p + 1) (q + 1) (one_more n) says)
behind_none more p q n (Dated own content ∷ says) = ap
    (λ t. record { number = one_more n; time = own; content = content } ∷ t)
    (behind_none more (p + 1) (q + 1) (one_more n) says)

-- too many behind a time are as those behind none
behind_crowded : (more : Bool) (first p q n : ℕ) (says : List LogMessage) → 1024 < p
    → behind_time more (Some first) p n says ≡ behind_time more None q n says
behind_crowded more first p q n [] many = refl
behind_crowded more first p q n (Other ∷ says) many =
    behind_crowded more first p q (one_more n) says many
behind_crowded more first p q n (Time next ∷ says) many = refl
behind_crowded more first p q n (Received content ∷ says) many =
    let x : Pending = record { number = one_more n; content = content } in
    ap (λ d. stamped d (x ∷ []) ++ behind_time more (Some first) (p + 1) (one_more n) says)
    (decision_crowded more first says (p + 1 + parts_to says) (omega (arith, many)))
    ∙ ap (λ t. record { number = one_more n; time = None; content = content } ∷ t)
    (behind_crowded more first (p + 1) (q + 1) (one_more n) says (omega (arith, many)))
behind_crowded more first p q n (Dated own content ∷ says) many = ap
    (λ t. record { number = one_more n; time = own; content = content } ∷ t)
    (behind_crowded more first (p + 1) (q + 1) (one_more n) says (omega (arith, many)))

-- ---- the queue

-- a message of another type
pub other_comes : (more : Bool) (q : QueueState) (n : ℕ) (says : List LogMessage) → q.settled ≡ None
    → to_come more q n (Other ∷ says) ≡ to_come more q (one_more n) says
other_comes more q n says unset =
    rw unset (ap (λ d. stamped d q.waiting
    ++ behind_time more q.time (length q.waiting) (one_more n) says)
    (decision_other more q.time says (length q.waiting + parts_to says)))

-- a time message
pub time_comes : (more : Bool) (waiting : List Pending) (time next at : Option ℕ) (n : ℕ)
    (says : List LogMessage)
    → at ≡ between time next (length waiting)
    → to_come more (record { waiting = waiting; time = time; settled = None }) n (Time next ∷ says)
    ≡ to_come more (record { waiting = waiting; time = next; settled = Some at }) (one_more n) says
time_comes more waiting time next at n says is =
    ap (λ d. stamped d waiting ++ behind_time more next 0 (one_more n) says)
    (decision_time more time next says (length waiting + 0)
    ∙ ap (λ k. Some (between time next k)) (no_more (length waiting)) ∙ ap Some (sym is))
  where
    no_more : (k : ℕ) → k + 0 ≡ k
    no_more k = omega arith

-- one more waits, with a time before
heard_waits : (more : Bool) (waiting : List Pending) (x : Pending) (time : Option ℕ) (n : ℕ)
    (says : List LogMessage) (d : Option (Option ℕ))
    → x.number ≡ one_more n
    → decision more time says (length waiting + 1 + parts_to says) ≡ d
    → to_come more (record { waiting = waiting; time = time; settled = None }) n
    (Received x.content ∷ says)
    ≡ stamped d (waiting ++ x ∷ []) ++ behind_time more time (length waiting + 1) (one_more n) says
heard_waits more waiting x time n says d number is =
    let here : decision more time (Received x.content ∷ says) (length waiting + (parts_to says + 1)) ≡ d =
    decision_heard more time x.content says (length waiting + (parts_to says + 1))
    ∙ ap (λ k. decision more time says k) (moved (length waiting) (parts_to says)) ∙ is in
    let rest = behind_time more time (length waiting + 1) (one_more n) says in
    ap (λ e. stamped e waiting ++ (stamped (decision more time says
    (length waiting + 1 + parts_to says))
    (record { number = one_more n; content = x.content } ∷ []) ++ rest)) here
    ∙ ap (λ e. stamped d waiting ++ (stamped e
    (record { number = one_more n; content = x.content } ∷ []) ++ rest)) is
    ∙ ap (λ k. stamped d waiting ++ (stamped d (record { number = k; content = x.content } ∷ [])
    ++ rest)) (sym number)
    ∙ sym (append_assoc (stamped d waiting) (stamped d (x ∷ [])) rest)
    ∙ ap (λ t. t ++ rest) (sym (stamped_append d waiting (x ∷ [])))
  where
    moved : (a b : ℕ) → a + (b + 1) ≡ a + 1 + b
    moved a b = omega arith

pub part_waits : (more : Bool) (waiting : List Pending) (x : Pending) (time : Option ℕ) (n : ℕ)
    (says : List LogMessage)
    → x.number ≡ one_more n
    → to_come more (record { waiting = waiting; time = time; settled = None }) n
    (Received x.content ∷ says)
    ≡ to_come more (record { waiting = waiting ++ x ∷ []; time = time; settled = None }) x.number says
part_waits more waiting x time n says number =
    let more_wait : length (waiting ++ x ∷ []) ≡ length waiting + 1 = length-append waiting (x ∷ []) in
    heard_waits more waiting x time n says _ number refl
    ∙ ap (λ k. stamped (decision more time says (k + parts_to says)) (waiting ++ x ∷ [])
    ++ behind_time more time k (one_more n) says) (sym more_wait)
    ∙ ap (λ k. stamped (decision more time says (length (waiting ++ x ∷ []) + parts_to says))
    (waiting ++ x ∷ []) ++ behind_time more time (length (waiting ++ x ∷ [])) k says) (sym number)

-- one comes without a time before
pub part_untimed : (more : Bool) (waiting : List Pending) (x : Pending) (n : ℕ) (says : List LogMessage)
    → x.number ≡ one_more n
    → to_come more (record { waiting = waiting; time = None; settled = None }) n
    (Received x.content ∷ says)
    ≡ to_come more (record { waiting = waiting ++ x ∷ []; time = None; settled = Some None })
    x.number says
part_untimed more waiting x n says number =
    heard_waits more waiting x None n says (Some None) number refl
    ∙ ap (λ t. stamped (Some None) (waiting ++ x ∷ []) ++ t)
    (behind_none more (length waiting + 1) 0 (one_more n) says)
    ∙ ap (λ k. stamped (Some None) (waiting ++ x ∷ []) ++ behind_time more None 0 k says) (sym number)

-- too many wait
pub part_crowded : (more : Bool) (waiting : List Pending) (x : Pending) (first n : ℕ)
    (says : List LogMessage)
    → x.number ≡ one_more n → 1024 ≤ length waiting
    → to_come more (record { waiting = waiting; time = Some first; settled = None }) n
    (Received x.content ∷ says)
    ≡ to_come more (record { waiting = waiting ++ x ∷ []; time = None; settled = Some None })
    x.number says
part_crowded more waiting x first n says number many =
    heard_waits more waiting x (Some first) n says (Some None) number
    (decision_crowded more first says (length waiting + 1 + parts_to says) (omega (arith, many)))
    ∙ ap (λ t. stamped (Some None) (waiting ++ x ∷ []) ++ t)
    (behind_crowded more first (length waiting + 1) 0 (one_more n) says (omega (arith, many)))
    ∙ ap (λ k. stamped (Some None) (waiting ++ x ∷ []) ++ behind_time more None 0 k says) (sym number)

-- one comes with its own time
pub dated_comes : (more : Bool) (x : Pending) (own : Option ℕ) (n : ℕ) (says : List LogMessage)
    → x.number ≡ one_more n
    → to_come more (record { waiting = []; time = None; settled = None }) n
    (Dated own x.content ∷ says)
    ≡ to_come more (record { waiting = x ∷ []; time = None; settled = Some own }) x.number says
dated_comes more x own n says number =
    ap (λ t. record { number = one_more n; time = own; content = x.content } ∷ t)
    (behind_none more 1 0 (one_more n) says)
    ∙ ap (λ k. record { number = k; time = own; content = x.content }
    ∷ behind_time more None 0 k says) (sym number)

-- the end
pub end_comes : (waiting : List Pending) (time : Option ℕ) (n : ℕ)
    → to_come false (record { waiting = waiting; time = time; settled = None }) n []
    ≡ to_come false (record { waiting = waiting; time = None; settled = Some None }) n []
end_comes waiting time n = ap (λ d. stamped d waiting ++ []) (decision_end time (length waiting + 0))

-- nothing more is decided
pub none_comes : (waiting : List Pending) (time : Option ℕ) (n : ℕ) → length waiting ≤ 1024
    → (time ≡ None → waiting ≡ [])
    → to_come true (record { waiting = waiting; time = time; settled = None }) n [] ≡ []
none_comes waiting None n few none = rw (none refl) refl
none_comes waiting (Some first) n few none =
    ap (λ d. stamped d waiting ++ []) (decision_open first (length waiting + 0) (omega (arith, few)))
    ∙ nothing waiting
  where
    nothing : (xs : List Pending) → stamped None xs ++ [] ≡ []
    nothing [] = refl
    nothing (x ∷ xs) = refl

-- ---- in the words of the code

pub queue_is : (q : QueueState) (items : List Pending) (taken : ℕ) (time : Option ℕ)
    (settled : Option (Option ℕ))
    → record { waiting = drop taken items; time = time; settled = settled } ≡ q
    → q.settled ≡ None → taken ≡ 0
    → q ≡ record { waiting = items; time = time; settled = None }
queue_is q items taken time settled view unset zero =
    sym view
    ∙ ap (λ t. record { waiting = drop t items; time = time; settled = settled }) zero
    ∙ ap (λ s. record { waiting = items; time = time; settled = s })
    (ap (λ p. p.settled) view ∙ unset)

module _ (more : Bool) (q : QueueState) (items new : List Pending) (taken : ℕ) (time : Option ℕ)
    (x : Pending) (n : ℕ) (says : List LogMessage)
    (is : q ≡ record { waiting = items; time = time; settled = None }) (zero : taken ≡ 0)
    (new_is : new ≡ items ++ x ∷ []) (number : x.number ≡ one_more n) where
  over_by : (t : Option ℕ) → 1024 ≤ length items
      → to_come more (record { waiting = items; time = t; settled = None }) n (Received x.content ∷ says)
      ≡ to_come more (record { waiting = items ++ x ∷ []; time = None; settled = Some None })
      x.number says
  over_by None many = part_untimed more items x n says number
  over_by (Some first) many = part_crowded more items x first n says number many

  pub put_over : 1024 < length new
      → to_come more q n (Received x.content ∷ says)
      ≡ stamped (Some None) (drop taken new) ++ behind_time more None 0 x.number says
  put_over many =
      let size : length new ≡ length items + 1 = ap length new_is ∙ length-append items (x ∷ []) in
      ap (λ p. to_come more p n (Received x.content ∷ says)) is
      ∙ over_by time (omega (arith, many, size))
      ∙ sym (ap (λ t. stamped (Some None) (drop t new) ++ behind_time more None 0 x.number says) zero
      ∙ ap (λ t. stamped (Some None) t ++ behind_time more None 0 x.number says) new_is)

  untimed_by : (t : Option ℕ) → is_some t ≡ false
      → to_come more (record { waiting = items; time = t; settled = None }) n (Received x.content ∷ says)
      ≡ stamped (Some None) (items ++ x ∷ []) ++ behind_time more t 0 x.number says
  untimed_by None none = part_untimed more items x n says number
  untimed_by (Some first) none = absurd (both_ways _ none refl)

  pub put_untimed : is_some time ≡ false
      → to_come more q n (Received x.content ∷ says)
      ≡ stamped (Some None) (drop taken new) ++ behind_time more time 0 x.number says
  put_untimed none =
      ap (λ p. to_come more p n (Received x.content ∷ says)) is ∙ untimed_by time none
      ∙ sym (ap (λ t. stamped (Some None) (drop t new) ++ behind_time more time 0 x.number says) zero
      ∙ ap (λ t. stamped (Some None) t ++ behind_time more time 0 x.number says) new_is)

  pub put_waits : (settled : Option (Option ℕ)) → settled ≡ None
      → to_come more q n (Received x.content ∷ says)
      ≡ to_come more (record { waiting = drop taken new; time = time; settled = settled })
      x.number says
  put_waits settled unset =
      ap (λ p. to_come more p n (Received x.content ∷ says)) is
      ∙ part_waits more items x time n says number
      ∙ sym (ap (λ t. to_come more (record { waiting = drop t new; time = time; settled = settled })
      x.number says) zero
      ∙ ap (λ t. to_come more (record { waiting = t; time = time; settled = settled })
      x.number says) new_is
      ∙ ap (λ t. to_come more (record { waiting = items ++ x ∷ []; time = time; settled = t })
      x.number says) unset)

  pub put_dated : (own : Option ℕ) → time ≡ None → items ≡ []
      → to_come more q n (Dated own x.content ∷ says)
      ≡ stamped (Some own) (drop taken new) ++ behind_time more time 0 x.number says
  put_dated own none empty =
      ap (λ p. to_come more p n (Dated own x.content ∷ says)) is
      ∙ ap (λ t. to_come more (record { waiting = items; time = t; settled = None }) n
      (Dated own x.content ∷ says)) none
      ∙ ap (λ t. to_come more (record { waiting = t; time = None; settled = None }) n
      (Dated own x.content ∷ says)) empty
      ∙ dated_comes more x own n says number
      ∙ sym (ap (λ t. stamped (Some own) (drop t new) ++ behind_time more time 0 x.number says) zero
      ∙ ap (λ t. stamped (Some own) t ++ behind_time more time 0 x.number says) new_is
      ∙ ap (λ t. stamped (Some own) (t ++ x ∷ []) ++ behind_time more time 0 x.number says) empty
      ∙ ap (λ t. stamped (Some own) (x ∷ []) ++ behind_time more t 0 x.number says) none)

-- ---- the definition

number_more : (k : ℕ) → one_more (min k (2 ^ 64 - 1)) ≡ min (k + 1) (2 ^ 64 - 1)
number_more k = omega arith

number_next : (k : ℕ) → min (suc k) (2 ^ 64 - 1) ≡ one_more (min k (2 ^ 64 - 1))
number_next k = omega arith

pub comes_as_defined : (more : Bool) (before says : List LogMessage)
    → received_from more before says
    ≡ behind_time more (nearest before) (parts_to before) (min (length before) (2 ^ 64 - 1)) says
comes_as_defined more before [] = refl
comes_as_defined more before (Other ∷ says) =
    comes_as_defined more (Other ∷ before) says
    ∙ ap (λ k. behind_time more (nearest before) (parts_to before) k says)
    (number_next (length before))
comes_as_defined more before (Time next ∷ says) =
    comes_as_defined more (Time next ∷ before) says
    ∙ ap (λ k. behind_time more next 0 k says) (number_next (length before))
comes_as_defined more before (Dated own content ∷ says) =
    ap (λ t. record { number = min (length before + 1) (2 ^ 64 - 1); time = own; content = content }
    ∷ t)
    (comes_as_defined more (Dated own content ∷ before) says
    ∙ ap (λ k. behind_time more (nearest before) (parts_to before + 1) k says)
    (number_next (length before)))
    ∙ ap (λ k. record { number = k; time = own; content = content }
    ∷ behind_time more (nearest before) (parts_to before + 1)
    (one_more (min (length before) (2 ^ 64 - 1))) says) (sym (number_more (length before)))
comes_as_defined more before (Received content ∷ says) =
    let parts = parts_to before + 1 + parts_to says in
    let rest = behind_time more (nearest before) (parts_to before + 1)
    (one_more (min (length before) (2 ^ 64 - 1))) says in
    ap (λ t. received more before (Received content) says ++ t)
    (comes_as_defined more (Received content ∷ before) says
    ∙ ap (λ k. behind_time more (nearest before) (parts_to before + 1) k says)
    (number_next (length before)))
    ∙ ap (λ t. t ++ rest)
    (chosen (is_open (nearest before) says parts && more)
    (between (nearest before) (nearest says) parts) (min (length before + 1) (2 ^ 64 - 1)) content)
    ∙ ap (λ k. stamped (decision more (nearest before) says parts)
    (record { number = k; content = content } ∷ []) ++ rest) (sym (number_more (length before)))
  where
    chosen : (b : Bool) (time : Option ℕ) (number : ℕ) (content : LogContent)
        → (if b then [] else record { number = number; time = time; content = content } ∷ [])
        ≡ stamped (if b then None else Some time) (record { number = number; content = content } ∷ [])
    chosen true time number content = refl
    chosen false time number content = refl
