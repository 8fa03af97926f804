use Rattle.std.proofs.Common.{◌≡◌, ◌-◌, ◌++◌, map, take, drop}
use Rattle.lnav_subframe.proofs.words.inverted.Given as goal

abbrev pub invariant-loop-byte : goal.invariant-loop-byte
invariant-loop-byte l = l.byte-items ≡ map (λ byte. 255 - byte) (take l.byte-index l.initial.byte-items) ++ drop l.byte-index l.initial.byte-items
