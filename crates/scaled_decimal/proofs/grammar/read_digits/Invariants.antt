use Rattle.std.proofs.Common.{◌≡◌, ◌+◌, ◌^◌, ◌<◌, drop}
use Rattle.scaled_decimal.specs.NumberReading.{span}
use Rattle.scaled_decimal.proofs.grammar.read_digits.Given as goal

abbrev pub invariant-loop-place : goal.invariant-loop-place
invariant-loop-place l =
    (span l.fn.number l.count l.text ≡ span l.number (l.count + l.place) (drop l.place l.text)) × (l.number < 10 ^ (l.count + l.place))
