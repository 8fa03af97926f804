use Rattle.std.proofs.Common.{◌≡◌, ◌+◌, ◌*◌, ◌%◌, ◌^◌, subst, sym, ap, ◌∙◌, arith}
use Rattle.std.specs.Int.Bits.{bit_xor}
use Rattle.std.proofs.lemmas.Nat.{xor_lt}
use Rattle.nav_bits.specs.Division.{IsCrc}
use Rattle.nav_bits.specs.Register.{stepped}
use Rattle.nav_bits.proofs.DivisionLemmas.{with_digit}
use Rattle.nav_bits.proofs.shifts.with_bit.Goals as goal

pub moved_1-requires : goal.moved_1-requires
moved_1-requires c = xor_lt 24 c.args.state (c.args.bit * 2 ^ 23 % 2 ^ 32) c.requires.state (omega arith)

pub returns-clause-grows : goal.returns-clause-grows
returns-clause-grows c p is =
    let digit : c.args.bit * 2 ^ 23 % 2 ^ 32 ≡ c.args.bit * 2 ^ 23 = omega arith in
    subst (IsCrc (p * 2 + c.args.bit)) (sym (c.moved_1.ensures.value ∙ ap (λ n. stepped (bit_xor c.args.state n)) digit))
    (with_digit p c.args.state c.args.bit c.requires.bit is)
