-- The outcome of a record, and the counts with one record more. Private functions cite these.
use Rattle.std.specs.Prelude.{◌≡◌, ◌+◌, ℕ, None}
use Rattle.nav_eph.specs.Ranges.{IsItem}
use Rattle.nav_eph.specs.declared.items.NavItem.{NavItem}
use Rattle.nav_files.specs.declared.counts.RinexCounts.{RinexCounts}
use Rattle.sent_captures.specs.Sendable.{IsEphemeris, send_fault}
use Rattle.nav_files.specs.declared.outcome.SendOutcome.{SendOutcome}
use Rattle.nav_files.specs.declared.outcome.SendOutcome.TheVariants.{Sent, NotSent, Withheld, Refused, PassedOver}
use Rattle.nav_files.specs.Sends.{is_item, is_passed, is_rejection}

-- the item is an ephemeris that may be transmitted in the slot
pub record MaySend (r slot : ℕ) (item : NavItem) : Type 0 where
  pub ephemeris : IsEphemeris item
  pub whole : IsItem item
  pub fault : send_fault r item slot ≡ None

-- an ephemeris that is transmitted may be
abbrev pub IsSendReported : ℕ → SendOutcome → Type 0
IsSendReported r (Sent slot item) = MaySend r slot item
IsSendReported r NotSent = Unit {0}
IsSendReported r (Withheld line fault) = Unit {0}
IsSendReported r (Refused line reason) = Unit {0}
IsSendReported r PassedOver = Unit {0}

-- the counts with one record more
abbrev pub counted : RinexCounts → SendOutcome → RinexCounts
counted c x = record {
  records = c.records + 1;
  refused = c.refused + is_rejection x;
  passed = c.passed + is_passed x;
  items = c.items + is_item x;
  times = c.times;
}

-- every record counted is rejected, skipped or an item
abbrev pub AreCounted : RinexCounts → Type 0
AreCounted c = c.refused + c.passed + c.items ≡ c.records
