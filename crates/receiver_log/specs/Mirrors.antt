-- What is still to come of a log's subframes and pages while messages come; cited by private functions.
use Rattle.std.specs.Prelude.{ℕ, min, ◌+◌, ◌*◌, ◌&&◌, Bool, if◌then◌else◌, List, [], ◌∷◌}
use Rattle.std.specs.Prelude.{◌++◌, length, map, Option, Some, None}
use Rattle.framing.specs.Headings.{Heading, format_of}
use Rattle.framing.specs.Messages.{messages_past}
use Rattle.receiver_log.specs.declared.content.LogMessage.{LogMessage}
use Rattle.receiver_log.specs.declared.content.LogMessage.TheVariants.{Other, Time, Received, Dated}
use Rattle.receiver_log.specs.declared.queue.Pending.{Pending}
use Rattle.receiver_log.specs.declared.reception.Reception.{Reception}
use Rattle.receiver_log.specs.declared.state.MessageCounts.{MessageCounts}
use Rattle.receiver_log.specs.Log.{none_counted, one_more}
use Rattle.receiver_log.specs.Receptions.{between, is_open, nearest, parts_to}

-- the time of what lies after a time message; none yet if it is open
abbrev pub decision : Bool → Option ℕ → List LogMessage → ℕ → Option (Option ℕ)
decision more time behind parts =
    if is_open time behind parts && more then None else Some (between time (nearest behind) parts)

-- what waits, with this time
abbrev pub stamped : Option (Option ℕ) → List Pending → List Reception
stamped time [] = []
stamped None (x ∷ xs) = []
stamped (Some time) (x ∷ xs) =
    record { number = x.number; time = time; content = x.content } ∷ stamped (Some time) xs

-- the receptions of messages after a time message, and so many subframes and pages; `number` is
-- that of the message before
abbrev pub behind_time : Bool → Option ℕ → ℕ → ℕ → List LogMessage → List Reception
behind_time more time parts number [] = []
behind_time more time parts number (Other ∷ says) =
    behind_time more time parts (one_more number) says
behind_time more time parts number (Time next ∷ says) =
    behind_time more next 0 (one_more number) says
behind_time more time parts number (Received content ∷ says) =
    stamped (decision more time says (parts + 1 + parts_to says))
    (record { number = one_more number; content = content } ∷ [])
    ++ behind_time more time (parts + 1) (one_more number) says
behind_time more time parts number (Dated own content ∷ says) =
    record { number = one_more number; time = own; content = content }
    ∷ behind_time more time (parts + 1) (one_more number) says

-- what a contract sees of the subframes and pages that wait
pub record QueueState : Type 0 where
  -- those after the last time message, or those left of them once their time is settled
  pub waiting : List Pending
  -- the second that the last time message gave
  pub time : Option ℕ
  -- their time, once it is settled
  pub settled : Option (Option ℕ)

-- a queue before the first message
abbrev pub empty_queue : QueueState
empty_queue = record { waiting = []; time = None; settled = None }

-- the same, by their time
abbrev pub to_come_by : Bool → Option (Option ℕ) → QueueState → ℕ → List LogMessage → List Reception
to_come_by more (Some time) q number says =
    stamped (Some time) q.waiting ++ behind_time more q.time 0 number says
to_come_by more None q number says =
    stamped (decision more q.time says (length q.waiting + parts_to says)) q.waiting
    ++ behind_time more q.time (length q.waiting) number says

-- the receptions to come of what waits, and of the messages to come
abbrev pub to_come : Bool → QueueState → ℕ → List LogMessage → List Reception
to_come more q number says = to_come_by more q.settled q number says

-- where a run over a log is: the bytes fed and not yet passed, what waits, and the counts of the
-- messages before
pub record Place : Type 0 where
  pub rest : List ℕ
  pub queue : QueueState
  pub counts : MessageCounts

-- a place before the first message of these bytes
abbrev pub start_of : List ℕ → Place
start_of bytes = record { rest = bytes; queue = empty_queue; counts = none_counted }

-- the same place, with more bytes fed
abbrev pub fed_with : Place → List ℕ → Place
fed_with p bytes = record p { rest = p.rest ++ bytes }

-- the receptions to come from a place, if these bytes follow; with more to come, those that are
-- decided
abbrev pub ahead : Heading → (List ℕ → LogMessage) → Bool → Place → List ℕ → List Reception
ahead h said more p following =
    to_come more p.queue p.counts.messages
    (map said (messages_past (format_of h) more (p.rest ++ following) 0))

-- one if a time is not settled, and so many wait for it
abbrev pub unsettled : Option (Option ℕ) → ℕ → ℕ
unsettled None parts = min parts 1
unsettled (Some time) parts = 0

-- A bound on the steps to come: each passes a message, settles a time, or gives what waited.
abbrev pub work_left : Place → ℕ
work_left p =
    3 * length p.rest + length p.queue.waiting
    + unsettled p.queue.settled (length p.queue.waiting)
