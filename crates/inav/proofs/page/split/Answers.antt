use Rattle.std.proofs.Common.{List, slice_index, ◌≡◌, ℕ, ◌+◌, ◌*◌, ◌^◌, ◌<◌, rules, sym, ap, subst, ◌∙◌, arith}
use Rattle.std.proofs.lemmas.Bool.{cond-true, lt-ltb}
use Rattle.nav_bits.specs.Bits.{number_at}
use Rattle.nav_bits.specs.Laws.{number_at-lt}
use Rattle.inav.specs.Pages.{IsHalf, IsSplit, HasRightCrc, bits_at, page_crc}
use Rattle.inav.proofs.PageNumbers.{only_parts, split_even, split_odd, even_of_word, odd_of_word, crc_in_place, crc_is_right, word_again}
use Rattle.inav.proofs.page.split.Goals as goal

pub overflow_add-odd : goal.overflow_add-odd
overflow_add-odd c =
    let low : c.from-3.result < 2 ^ 16 = omega (arith, c.from-3.ensures, c.get-3.ensures, number_at-lt c.args.word.now 112 16) in
    search (rules, low)

pub overflow_add-odd-2 : goal.overflow_add-odd-2
overflow_add-odd-2 c =
    let low : c.from-3.result < 2 ^ 16 = omega (arith, c.from-3.ensures, c.get-3.ensures, number_at-lt c.args.word.now 112 16) in
    let fits : c.from-4.result < 2 ^ 24 = omega (arith, c.from-4.ensures, c.crc_of-crc.ensures.fits) in
    search (rules, low, fits)

pub of_number-requires : goal.of_number-requires
of_number-requires c =
    let word = c.args.word.now in
    let P : ℕ → Type 0 = IsHalf in
    subst P (sym (split_even word c.from.result c.from-2.result (c.from.ensures ∙ c.get.ensures) (c.from-2.ensures ∙ c.get-2.ensures))) (even_of_word word)

pub of_number-requires-2 : goal.of_number-requires-2
of_number-requires-2 c =
    let word = c.args.word.now in
    let crc = c.from-4.result in
    let fits : crc < 2 ^ 24 = omega (arith, c.from-4.ensures, c.crc_of-crc.ensures.fits) in
    let P : ℕ → Type 0 = λ n. IsHalf (n + crc * 2 ^ 14) in
    subst P (sym (split_odd word c.from-3.result (c.from-3.ensures ∙ c.get-3.ensures))) (odd_of_word word crc fits)

pub returns-clause-parts : goal.returns-clause-parts
returns-clause-parts c =
    let word = c.args.word.now in
    let d = number_at word 112 16 in
    let crc = c.from-4.result in
    let fits : crc < 2 ^ 24 = omega (arith, c.from-4.ensures, c.crc_of-crc.ensures.fits) in
    let even_is : c.of_number.result ≡ number_at word 0 112 * 2 ^ 6 =
    c.of_number.ensures ∙ split_even word c.from.result c.from-2.result (c.from.ensures ∙ c.get.ensures) (c.from-2.ensures ∙ c.get-2.ensures) in
    let first = split_odd word c.from-3.result (c.from-3.ensures ∙ c.get-3.ensures) in
    let odd_is : c.of_number-2.result ≡ 2 ^ 119 + d * 2 ^ 102 + crc * 2 ^ 14 =
    c.of_number-2.ensures ∙ ap (λ n. n + crc * 2 ^ 14) first in
    let in_place : bits_at c.of_number-2.result 82 24 ≡ crc =
    ap (λ n. bits_at n 82 24) odd_is ∙ crc_in_place d crc (number_at-lt word 112 16) fits in
    let crc_is : crc ≡ page_crc c.of_number.result (2 ^ 119 + d * 2 ^ 102) =
    c.from-4.ensures ∙ c.crc_of-crc.ensures.same ∙ ap (page_crc _) first ∙ ap (λ e. page_crc e (2 ^ 119 + d * 2 ^ 102)) (sym c.of_number.ensures) in
    let P : ℕ → Type 0 = HasRightCrc c.of_number.result in
    record {
      even_is = even_is;
      odd_is = odd_is ∙ ap (λ n. 2 ^ 119 + d * 2 ^ 102 + n * 2 ^ 14) (sym in_place);
      crc = subst P (sym odd_is) (crc_is_right c.of_number.result d crc (number_at-lt word 112 16) fits crc_is);
    }

pub returns-clause-halves : goal.returns-clause-halves
returns-clause-halves c =
    let word = c.args.word.now in
    let d = number_at word 112 16 in
    let crc = c.from-4.result in
    let fits : crc < 2 ^ 24 = omega (arith, c.from-4.ensures, c.crc_of-crc.ensures.fits) in
    let even_is : c.of_number.result ≡ number_at word 0 112 * 2 ^ 6 =
    c.of_number.ensures ∙ split_even word c.from.result c.from-2.result (c.from.ensures ∙ c.get.ensures) (c.from-2.ensures ∙ c.get-2.ensures) in
    let first = split_odd word c.from-3.result (c.from-3.ensures ∙ c.get-3.ensures) in
    let odd_is : c.of_number-2.result ≡ 2 ^ 119 + d * 2 ^ 102 + crc * 2 ^ 14 =
    c.of_number-2.ensures ∙ ap (λ n. n + crc * 2 ^ 14) first in
    let in_place : bits_at c.of_number-2.result 82 24 ≡ crc =
    ap (λ n. bits_at n 82 24) odd_is ∙ crc_in_place d crc (number_at-lt word 112 16) fits in
    let crc_is : crc ≡ page_crc c.of_number.result (2 ^ 119 + d * 2 ^ 102) =
    c.from-4.ensures ∙ c.crc_of-crc.ensures.same ∙ ap (page_crc _) first ∙ ap (λ e. page_crc e (2 ^ 119 + d * 2 ^ 102)) (sym c.of_number.ensures) in
    let P : ℕ → Type 0 = HasRightCrc c.of_number.result in
    let is : IsSplit word c.of_number.result c.of_number-2.result =
    record {
      even_is = even_is;
      odd_is = odd_is ∙ ap (λ n. 2 ^ 119 + d * 2 ^ 102 + n * 2 ^ 14) (sym in_place);
      crc = subst P (sym odd_is) (crc_is_right c.of_number.result d crc (number_at-lt word 112 16) fits crc_is);
    } in
    only_parts word c.of_number.result c.of_number-2.result is

pub returns-clause-even : goal.returns-clause-even
returns-clause-even c =
    let word = c.args.word.now in
    let even_is : c.of_number.result ≡ number_at word 0 112 * 2 ^ 6 =
    c.of_number.ensures ∙ split_even word c.from.result c.from-2.result (c.from.ensures ∙ c.get.ensures) (c.from-2.ensures ∙ c.get-2.ensures) in
    cond-true _ _ _ (lt-ltb c.of_number.result (2 ^ 119) (omega (arith, even_is, number_at-lt word 0 112)))

pub returns-clause-again : goal.returns-clause-again
returns-clause-again c =
    let word = c.args.word.now in
    let crc = c.from-4.result in
    let fits : crc < 2 ^ 24 = omega (arith, c.from-4.ensures, c.crc_of-crc.ensures.fits) in
    let even_is : c.of_number.result ≡ number_at word 0 112 * 2 ^ 6 =
    c.of_number.ensures ∙ split_even word c.from.result c.from-2.result (c.from.ensures ∙ c.get.ensures) (c.from-2.ensures ∙ c.get-2.ensures) in
    let odd_is : c.of_number-2.result ≡ 2 ^ 119 + number_at word 112 16 * 2 ^ 102 + crc * 2 ^ 14 =
    c.of_number-2.ensures ∙ ap (λ n. n + crc * 2 ^ 14) (split_odd word c.from-3.result (c.from-3.ensures ∙ c.get-3.ensures)) in
    let P : List ℕ → Type 0 = λ w. (i : ℕ) → slice_index w i < 256 in
    word_again word c.of_number.result c.of_number-2.result crc (search rules) (subst P c.bytes.ensures c.are_bytes.ensures) even_is odd_is fits
