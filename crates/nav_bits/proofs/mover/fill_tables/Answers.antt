use Rattle.std.proofs.Common.{◌≡◌, ℕ, ◌*◌, ◌+◌, ◌^◌, ◌<◌, ◌∙◌, sym, subst, arith}
use Rattle.nav_bits.specs.Register.{shift}
use Rattle.nav_bits.proofs.RegisterLaws.{shift-lt}
use Rattle.nav_bits.proofs.MoverLemmas.{next_power, in_middle, at_head}
use Rattle.nav_bits.proofs.mover.fill_tables.Goals as goal

pub with_byte-next-requires : goal.with_byte-next-requires
with_byte-next-requires c = subst (λ n. n < 2 ^ 24) (sym c.power-one.ensures) (shift-lt (8 * c.args.count) 1 (omega arith))

pub fill-requires : goal.fill-requires
fill-requires c = subst (λ n. n < 2 ^ 24) (sym c.power-one.ensures) (shift-lt (8 * c.args.count) 1 (omega arith))

pub returns : goal.returns
returns c =
    let n : ℕ = 8 * c.args.count in
    let next : c.with_byte-next.result ≡ shift (n + 8) 1 = next_power n _ _ c.power-one.ensures c.with_byte-next.ensures.value in
    let last : c.with_byte.result ≡ shift (n + 8 + 8) 1 = next_power (n + 8) _ _ next c.with_byte.ensures.value in
    record {
      ends = c.fill.ensures n c.power-one.ensures;
      middles = λ d h. c.fill-2.ensures (n + 8) next d h ∙ in_middle n d h;
      heads = λ d h. c.fill-3.ensures (n + 8 + 8) last d h ∙ at_head n d h;
    }
