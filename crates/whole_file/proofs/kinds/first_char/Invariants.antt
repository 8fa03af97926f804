use Rattle.std.proofs.Common.{◌≡◌, drop}
use Rattle.whole_file.specs.Kinds.{first_char}
use Rattle.whole_file.proofs.kinds.first_char.Given as goal

-- what was passed were blanks
abbrev pub invariant-loop-byte : goal.invariant-loop-byte
invariant-loop-byte l = first_char l.text ≡ first_char (drop l.byte-index l.text)
