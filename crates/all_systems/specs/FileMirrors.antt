-- A record while it is read and counted. Private functions cite these.
use Rattle.std.specs.Prelude.{◌≡◌, ◌+◌, ◌≤◌, Bool, if◌then◌else◌, length, Ok, Err}
use Rattle.std.proofs.Common.{inl, inr}
use Rattle.rinex_write.specs.Columns.{AreFields}
use Rattle.nav_rows.specs.Kinds.{IsKind}
use Rattle.nav_rows.specs.Rows.{value}
use Rattle.all_systems.specs.Files.{times_after}
use Rattle.all_systems.specs.FileReadings.{Reading, refused, carried, passed, is_carried, is_item, is_passed, is_refused}
use Rattle.all_systems.specs.declared.counts.SystemCounts.{SystemCounts}
use Rattle.all_systems.specs.declared.file_read.Given.{Given}
use Rattle.all_systems.specs.declared.file_read.Given.TheVariants.{Nav, Further, Refused, Carried, Passed}

-- what was read, as the definitions have it
abbrev pub view_given : Given → Reading
view_given (Nav item) = Ok (inl item)
view_given (Further kind row) = Ok (inr (record { kind = kind; row = value row }))
view_given (Refused reason) = Err (refused reason)
view_given (Carried lines) = Err (carried lines.items)
view_given Passed = Err passed

-- the columns of a row are those of its kind, and no more than 12 lines are carried
abbrev pub HasFields : Given → Type 0
HasFields (Nav item) = Unit {0}
HasFields (Further kind row) = IsKind kind × AreFields kind.layout.columns.now row.columns.items
HasFields (Refused reason) = Unit {0}
HasFields (Carried lines) = length lines.items ≤ 12
HasFields Passed = Unit {0}

-- the counts with one reading more, whose item has a text or has not
abbrev pub counted : SystemCounts → Bool → Reading → SystemCounts
counted c written x = record {
  records = c.records + 1;
  refused = c.refused + is_refused x;
  passed = c.passed + is_passed x;
  carried = c.carried + is_carried x;
  items = c.items + is_item x;
  unwritten = c.unwritten + (if written then 0 else 1);
  times = times_after c.times x;
}

-- every record counted is rejected, of a kind that is not read, carried, or an item, and no more are unwritten
abbrev pub AreCounted : SystemCounts → Type 0
AreCounted c = (c.refused + c.passed + c.carried + c.items ≡ c.records) × (c.unwritten ≤ c.records)
