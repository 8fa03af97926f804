-- What was written and counted of the periods while a capture is read. Private functions cite these.
use Rattle.std.specs.Prelude.{◌≡◌, ℕ, ◌+◌, ◌^◌, ◌<◌, ◌≤◌, List, length, Option, Result, Ok, Err}
use Rattle.std.specs.Io.KnownBytes.{Appends}
use Rattle.nav_io.specs.Causes.{Rose}
use Rattle.nav_eph.specs.declared.part.Part.{Part}
use Rattle.periods.specs.PeriodLists.{item_in, items_in}
use Rattle.periods.specs.PeriodsOf.{closed_of, periods_of}
use Rattle.periods.specs.declared.closed.Closed.{Closed}
use Rattle.periods.specs.declared.closed.Verdict.{Verdict}
use Rattle.slot_assembly.specs.Standing.{Standing}
use Rattle.slot_assembly.specs.Given.{flushed}
use Rattle.streams.specs.Times.{times_of, times_with}
use Rattle.streams.specs.declared.target.Target.{Target}
use Rattle.captures.specs.declared.counts.CaptureCounts.{CaptureCounts}
use Rattle.captures.specs.declared.counts.EventCounts.{EventCounts}
use Rattle.captures.specs.declared.counts.VerdictCounts.{VerdictCounts}
use Rattle.one_run.specs.declared.fault.BridgeFault.{BridgeFault}
use Rattle.one_run.specs.declared.fault.BridgeFault.TheVariants.{WriteFault, NoMemory}
use Rattle.captures.specs.Captures.{texts_of, verdicts, is_whole, is_partial, is_contradicted, is_nohealth, is_again}

-- the verdict counts with one period more
abbrev pub said : VerdictCounts → Verdict → VerdictCounts
said s verdict = record {
  whole = s.whole + is_whole verdict;
  partial = s.partial + is_partial verdict;
  contradicted = s.contradicted + is_contradicted verdict;
  nohealth = s.nohealth + is_nohealth verdict;
  again = s.again + is_again verdict;
  times = times_with s.times (item_in verdict);
}

-- the number of periods that were counted
abbrev pub total_said : VerdictCounts → ℕ
total_said s = s.whole + s.partial + s.contradicted + s.nohealth + s.again

-- the verdict counts of periods
abbrev pub said_of : List Closed → VerdictCounts
said_of cs = record {
  whole = verdicts is_whole cs;
  partial = verdicts is_partial cs;
  contradicted = verdicts is_contradicted cs;
  nohealth = verdicts is_nohealth cs;
  again = verdicts is_again cs;
  times = times_of (items_in cs);
}

-- the counts of a capture with this number of lines
abbrev pub with_counts : ℕ → EventCounts → VerdictCounts → CaptureCounts
with_counts lines t s = record {
  lines = lines;
  malformed = t.malformed;
  late = t.late;
  refused = t.refused;
  unused = t.unused;
  whole = s.whole;
  partial = s.partial;
  contradicted = s.contradicted;
  nohealth = s.nohealth;
  again = s.again;
  times = s.times;
}

-- the assembly has the parts and is flushed at the watermark: the texts of all periods closed there were written, and the
-- periods counted
pub record Flushed (now : Standing → Type 0) (r window : ℕ) (to : Target) (parts : List Part) (watermark : ℕ) (written written_new : Option (List ℕ)) (counted : VerdictCounts) : Type 0 where
  pub stands : now (flushed r window parts watermark)
  pub text : Appends written written_new (texts_of to (closed_of r window watermark parts))
  pub counts : counted ≡ said_of (closed_of r window watermark parts)

-- the assembly has parts of fewer than 2^64 periods, at a watermark not above this one, and the periods closed there were
-- counted
pub record HasRoom (now : Standing → Type 0) (r window watermark : ℕ) (counted : VerdictCounts) : Type 0 where
  pub parts : List Part
  pub before : ℕ
  pub low : before ≤ watermark
  pub few : length (periods_of r window parts) < 2 ^ 64
  pub stands : now (flushed r window parts before)
  pub counts : counted ≡ said_of (closed_of r window before parts)

-- how writing ends: the output's error count rose exactly if the output failed, and the only other
-- error is out of memory
abbrev pub IsWriting : {T : Type 0} → ℕ → ℕ → Result T BridgeFault → Type 0
IsWriting before now (Ok x) = now ≡ before
IsWriting before now (Err WriteFault) = Rose before now
IsWriting before now (Err NoMemory) = now ≡ before
IsWriting before now (Err _) = ⊥
