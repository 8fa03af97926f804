-- What a call of `Lines::next` returns.
use Rattle.std.specs.Prelude.{ℕ, true, false, List, Option}
use Rattle.nav_io.specs.LinesState.{LinesState, GivesLine, GivesEnd, BreaksRead, BreaksLong}
use Rattle.nav_io.specs.declared.lines.LineKind.{LineKind}
use Rattle.nav_io.specs.declared.lines.LineKind.TheVariants.{Text, Long, End}
use Rattle.nav_io.specs.declared.lines.LineFault.{LineFault}
use Rattle.nav_io.specs.declared.lines.LineFault.TheVariants.{ReadFault, TooLong}

-- a line, whose text is new.text, or the end
abbrev pub Answers : LineKind → Option (List ℕ) → Option (List ℕ) → LinesState → LinesState → Type 0
Answers Text left left_new old new = GivesLine left left_new old new (record { text = new.text; long = false })
Answers Long left left_new old new = GivesLine left left_new old new (record { text = new.text; long = true })
Answers End left left_new old new = GivesEnd left left_new old new

-- an error; no byte read is lost
abbrev pub Breaks : LineFault → Option (List ℕ) → Option (List ℕ) → LinesState → LinesState → Type 0
Breaks ReadFault left left_new old new = BreaksRead left left_new old new
Breaks TooLong left left_new old new = BreaksLong left left_new old new
