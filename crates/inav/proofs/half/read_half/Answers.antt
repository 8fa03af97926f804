use Rattle.std.proofs.Common.{◌≡◌, ℕ, ◌^◌, ◌<◌, sym, ap, subst, ◌∙◌, arith}
use Rattle.nav_bits.specs.Bits.{number_at}
use Rattle.nav_bits.specs.Laws.{number_at-lt}
use Rattle.inav.specs.Pages.{kept_of, IsHalf}
use Rattle.inav.proofs.PageNumbers.{number_is_read, type_of_number, kept_is_half}
use Rattle.inav.proofs.half.read_half.Goals as goal

pub kept-requires : goal.kept-requires
kept-requires c =
    let bits = c.args.bits.now in
    let P : ℕ → Type 0 = λ n. n < 2 ^ 120 in
    subst P (sym (number_is_read bits c.from.result c.from-2.result (c.from.ensures ∙ c.get-2.ensures) (c.from-2.ensures ∙ c.get-3.ensures))) (number_at-lt bits 0 120)

pub of_number-requires : goal.of_number-requires
of_number-requires c =
    let bits = c.args.bits.now in
    let read = number_is_read bits c.from.result c.from-2.result (c.from.ensures ∙ c.get-2.ensures) (c.from-2.ensures ∙ c.get-3.ensures) in
    let nominal : number_at bits 1 1 ≡ 0 = omega (arith, c.get.ensures, c.if-get-eq1.false, number_at-lt bits 1 1) in
    let P : ℕ → Type 0 = IsHalf in
    subst P (sym (c.kept.ensures ∙ ap kept_of read)) (kept_is_half (number_at bits 0 120) (number_at-lt bits 0 120) (type_of_number bits ∙ nominal))

pub returns-clause-half : goal.returns-clause-half
returns-clause-half c =
    let bits = c.args.bits.now in
    c.of_number.ensures ∙ c.kept.ensures
    ∙ ap kept_of (number_is_read bits c.from.result c.from-2.result (c.from.ensures ∙ c.get-2.ensures) (c.from-2.ensures ∙ c.get-3.ensures))
