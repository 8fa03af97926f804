-- The subframes and pages of a log, each with its time of reception.
use Rattle.std.specs.Prelude.{ℕ, ◌+◌, ◌-◌, ◌^◌, ◌&&◌, nat_le, min, not, Bool, true, false}
use Rattle.std.specs.Prelude.{if◌then◌else◌, List, [], ◌∷◌, ◌++◌, length, map, Option, Some, None}
use Rattle.receiver_log.specs.declared.content.LogMessage.{LogMessage}
use Rattle.receiver_log.specs.declared.content.LogMessage.TheVariants.{Other, Time, Received, Dated}
use Rattle.receiver_log.specs.declared.reception.Reception.{Reception}

-- the second that the nearest time message gives; none if it gives none, or if there is none
abbrev pub nearest : List LogMessage → Option ℕ
nearest [] = None
nearest (Other ∷ says) = nearest says
nearest (Time time ∷ says) = time
nearest (Received content ∷ says) = nearest says
nearest (Dated time content ∷ says) = nearest says

-- how many subframes and pages stand before the nearest time message, or before the end
abbrev pub parts_to : List LogMessage → ℕ
parts_to [] = 0
parts_to (Other ∷ says) = parts_to says
parts_to (Time time ∷ says) = 0
parts_to (Received content ∷ says) = parts_to says + 1
parts_to (Dated time content ∷ says) = parts_to says + 1

-- whether there is a time message
abbrev pub has_time : List LogMessage → Bool
has_time [] = false
has_time (Other ∷ says) = has_time says
has_time (Time time ∷ says) = true
has_time (Received content ∷ says) = has_time says
has_time (Dated time content ∷ says) = has_time says

-- the second of what lies between two time messages: that of the first, if that of the second is 1
-- s before to 60 s after it, and at most 1,024 subframes and pages lie between
abbrev pub between : Option ℕ → Option ℕ → ℕ → Option ℕ
between (Some first) (Some second) parts =
    if nat_le first (second + 1) && nat_le second (first + 60) && nat_le parts 1024
    then Some first else None
between (Some first) None parts = None
between None second parts = None

-- whether the next time message may give what lies after the last one its time: none has come yet,
-- and there is room
abbrev pub is_open : Option ℕ → List LogMessage → ℕ → Bool
is_open (Some first) behind parts = not (has_time behind) && nat_le parts 1024
is_open None behind parts = false

-- how many subframes and pages lie between the time messages on both sides of one of them
abbrev pub parts_round : List LogMessage → List LogMessage → ℕ
parts_round before behind = parts_to before + 1 + parts_to behind

-- the reception that a message gives: its number in the log, from 1; its time, which is its own or
-- that between the messages before and after it, the nearest first; what it contains. Where more
-- messages may come, none while its time is open
abbrev pub received : Bool → List LogMessage → LogMessage → List LogMessage → List Reception
received more before Other behind = []
received more before (Time time) behind = []
received more before (Dated time content) behind =
    record { number = min (length before + 1) (2 ^ 64 - 1); time = time; content = content } ∷ []
received more before (Received content) behind =
    if is_open (nearest before) behind (parts_round before behind) && more then []
    else record {
      number = min (length before + 1) (2 ^ 64 - 1);
      time = between (nearest before) (nearest behind) (parts_round before behind);
      content = content;
    } ∷ []

-- the receptions of messages after those before, the nearest first
abbrev pub received_from : Bool → List LogMessage → List LogMessage → List Reception
received_from more before [] = []
received_from more before (said ∷ behind) =
    received more before said behind ++ received_from more (said ∷ before) behind

-- the receptions of a log's messages
abbrev pub receptions_of : (List ℕ → LogMessage) → List (List ℕ) → List Reception
receptions_of said messages = received_from false [] (map said messages)

-- those that stay, whatever messages follow
abbrev pub decided_receptions : (List ℕ → LogMessage) → List (List ℕ) → List Reception
decided_receptions said messages = received_from true [] (map said messages)
