use Rattle.std.proofs.Common.{◌≡◌, ◌<◌, ◌^◌, List, ℕ, get_or, subst, ◌∙◌, arith}
use Rattle.std.proofs.lemmas.Grind.{get_or_default_zero}
use Rattle.nav_bits.specs.Packed.{AreBytes}
use Rattle.receiver_log.proofs.Packing.{words_packed}
use Rattle.receiver_log.proofs.words.subframe_bits.Goals as goal

pub returns : goal.returns
returns c =
    let w : List ℕ = c.args.words.now in
    let s = c.put_numbers.ensures.stand in
    let e0 : c.value.result ≡ get_or w 0 0 =
    c.value.ensures.same ∙ get_or_default_zero w 0 _ (omega (arith, c.told-words)) in
    let e1 : c.value-2.result ≡ get_or w 1 0 =
    c.value-2.ensures.same ∙ get_or_default_zero w 1 _ (omega (arith, c.told-words)) in
    let e2 : c.value-3.result ≡ get_or w 2 0 =
    c.value-3.ensures.same ∙ get_or_default_zero w 2 _ (omega (arith, c.told-words)) in
    let e3 : c.value-4.result ≡ get_or w 3 0 =
    c.value-4.ensures.same ∙ get_or_default_zero w 3 _ (omega (arith, c.told-words)) in
    let e4 : c.value-5.result ≡ get_or w 4 0 =
    c.value-5.ensures.same ∙ get_or_default_zero w 4 _ (omega (arith, c.told-words)) in
    let e5 : c.value-6.result ≡ get_or w 5 0 =
    c.value-6.ensures.same ∙ get_or_default_zero w 5 _ (omega (arith, c.told-words)) in
    let e6 : c.value-7.result ≡ get_or w 6 0 =
    c.value-7.ensures.same ∙ get_or_default_zero w 6 _ (omega (arith, c.told-words)) in
    let e7 : c.value-8.result ≡ get_or w 7 0 =
    c.value-8.ensures.same ∙ get_or_default_zero w 7 _ (omega (arith, c.told-words)) in
    let e8 : c.value-9.result ≡ get_or w 8 0 =
    c.value-9.ensures.same ∙ get_or_default_zero w 8 _ (omega (arith, c.told-words)) in
    let e9 : c.value-10.result ≡ get_or w 9 0 =
    c.value-10.ensures.same ∙ get_or_default_zero w 9 _ (omega (arith, c.told-words)) in
    let f0 : get_or w 0 0 < 2 ^ 30 =
    omega (arith, e0, c.value.ensures.fits, c.value.ensures.same) in
    let f1 : get_or w 1 0 < 2 ^ 30 =
    omega (arith, e1, c.value-2.ensures.fits, c.value-2.ensures.same) in
    let f2 : get_or w 2 0 < 2 ^ 30 =
    omega (arith, e2, c.value-3.ensures.fits, c.value-3.ensures.same) in
    let f3 : get_or w 3 0 < 2 ^ 30 =
    omega (arith, e3, c.value-4.ensures.fits, c.value-4.ensures.same) in
    let f4 : get_or w 4 0 < 2 ^ 30 =
    omega (arith, e4, c.value-5.ensures.fits, c.value-5.ensures.same) in
    let f5 : get_or w 5 0 < 2 ^ 30 =
    omega (arith, e5, c.value-6.ensures.fits, c.value-6.ensures.same) in
    let f6 : get_or w 6 0 < 2 ^ 30 =
    omega (arith, e6, c.value-7.ensures.fits, c.value-7.ensures.same) in
    let f7 : get_or w 7 0 < 2 ^ 30 =
    omega (arith, e7, c.value-8.ensures.fits, c.value-8.ensures.same) in
    let f8 : get_or w 8 0 < 2 ^ 30 =
    omega (arith, e8, c.value-9.ensures.fits, c.value-9.ensures.same) in
    let f9 : get_or w 9 0 < 2 ^ 30 =
    omega (arith, e9, c.value-10.ensures.fits, c.value-10.ensures.same) in
    let same : c.from_bytes-bits.result ≡ c.put_numbers.new.bytes = c.from_bytes-bits.ensures in
    same ∙ words_packed w c.put_numbers.new.bytes
    (f0, (f1, (f2, (f3, (f4, (f5, (f6, (f7, (f8, (f9, tt))))))))))
    (subst (AreBytes 38) same c.are_bytes.ensures) (
      s.0 ∙ e0,
      (
        s.1.0 ∙ e1,
        (
          s.1.1.0
              ∙ e2,
          (
            s.1.1.1.0 ∙ e3,
            (
              s.1.1.1.1.0
                  ∙ e4,
              (
                s.1.1.1.1.1.0 ∙ e5,
                (
                  s.1.1.1.1.1.1.0
                      ∙ e6,
                  (
                    s.1.1.1.1.1.1.1.0 ∙ e7,
                    (
                      s.1.1.1.1.1.1.1.1.0
                          ∙ e8,
                      (s.1.1.1.1.1.1.1.1.1.0 ∙ e9, (s.1.1.1.1.1.1.1.1.1.1.0, tt)),
                    ),
                  ),
                ),
              ),
            ),
          ),
        ),
      ),
    )
