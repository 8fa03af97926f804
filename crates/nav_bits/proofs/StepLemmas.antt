-- One step of each loop: the register over the rest of a list, and the bits of a register that is advanced.
use Rattle.std.proofs.Common.{◌≡◌, ℕ, zero, suc, ◌+◌, ◌-◌, ◌*◌, ◌/◌, ◌%◌, ◌^◌, ◌<◌, ◌≤◌, List, [], ◌∷◌, length, get_or, drop, refl, sym, ap, subst, ◌∙◌, arith, zero-add}
use Rattle.std.proofs.lemmas.List.{drop_more, drop_all}
use Rattle.std.proofs.lemmas.Nat.{and_mask, shr-shr, shr_le, xor_lt}
use Rattle.std.specs.Int.Bits.{bit_and, bit_xor}
use Rattle.nav_bits.specs.Register.{stepped, shift, with_byte_of, crc_from}
use Rattle.nav_bits.proofs.RegisterLaws.{stepped_small, shift-lt, shift-xor, shift-add, shift-zero, crc_from-append, crc_from-lt, crc_from-parts}
use Rattle.nav_bits.proofs.LookupLemmas.{next_bits}

pub byte_step : (state next i : ℕ) (xs : List ℕ) → i < length xs → next ≡ with_byte_of state (get_or xs i 0) → crc_from next (drop (i + 1) xs) ≡ crc_from state (drop i xs)
unfolding crc_from
byte_step state next i xs h is = ap (λ n. crc_from n (drop (i + 1) xs)) is ∙ sym (ap (crc_from state) (drop_more xs i 0 h))

pub no_bytes_left : (state i : ℕ) (xs : List ℕ) → length xs ≤ i → crc_from state (drop i xs) ≡ state
unfolding crc_from
no_bytes_left state i xs h = ap (crc_from state) (drop_all i xs h)

four_more : (xs : List ℕ) (n : ℕ) → n + 4 ≤ length xs → drop n xs ≡ get_or xs n 0 ∷ get_or xs (n + 1) 0 ∷ get_or xs (n + 2) 0 ∷ get_or xs (n + 3) 0 ∷ drop (n + 4) xs
four_more xs n h =
    let second : n + 1 + 1 ≡ n + 2 = omega arith in
    let third : n + 2 + 1 ≡ n + 3 = omega arith in
    let fourth : n + 3 + 1 ≡ n + 4 = omega arith in
    drop_more xs n 0 (omega arith)
    ∙ ap (λ ys. get_or xs n 0 ∷ ys)
    (drop_more xs (n + 1) 0 (omega arith) ∙ ap (λ m. get_or xs (n + 1) 0 ∷ drop m xs) second
    ∙ ap (λ ys. get_or xs (n + 1) 0 ∷ ys)
    (drop_more xs (n + 2) 0 (omega arith) ∙ ap (λ m. get_or xs (n + 2) 0 ∷ drop m xs) third
    ∙ ap (λ ys. get_or xs (n + 2) 0 ∷ ys)
    (drop_more xs (n + 3) 0 (omega arith) ∙ ap (λ m. get_or xs (n + 3) 0 ∷ drop m xs) fourth)))

pub four_step : (state next n m : ℕ) (xs : List ℕ) → n + 4 ≡ m → m ≤ length xs
    → next ≡ crc_from state (get_or xs n 0 ∷ get_or xs (n + 1) 0 ∷ get_or xs (n + 2) 0 ∷ get_or xs (n + 3) 0 ∷ [])
    → crc_from next (drop m xs) ≡ crc_from state (drop n xs)
four_step state next n m xs places inside is =
    ap (λ k. crc_from next (drop k xs)) (sym places) ∙ ap (λ k. crc_from k (drop (n + 4) xs)) is
    ∙ sym (ap (crc_from state) (four_more xs n (omega arith))
    ∙ crc_from-append state (get_or xs n 0 ∷ get_or xs (n + 1) 0 ∷ get_or xs (n + 2) 0 ∷ get_or xs (n + 3) 0 ∷ []) (drop (n + 4) xs))

four_on : (s : ℕ) (xs : List ℕ) → s < 2 ^ 24 → length xs ≡ 4 → crc_from s xs ≡ bit_xor (shift 32 s) (crc_from 0 xs)
four_on s xs fits long =
    crc_from-parts s xs fits ∙ ap (λ n. bit_xor (shift (8 * n) s) (crc_from 0 xs)) long

-- the register after four groups of four bytes, each by itself
pub four_groups : (s : ℕ) (g h k l : List ℕ) → s < 2 ^ 24 → length g ≡ 4 → length h ≡ 4 → length k ≡ 4 → length l ≡ 4
    → bit_xor (bit_xor (bit_xor (shift 96 (crc_from s g)) (shift 64 (crc_from 0 h))) (shift 32 (crc_from 0 k))) (crc_from 0 l)
    ≡ crc_from (crc_from (crc_from (crc_from s g) h) k) l
four_groups s g h k l fits g4 h4 k4 l4 =
    let one : ℕ = crc_from s g in
    let one_lt : one < 2 ^ 24 = crc_from-lt s g fits in
    let h_lt : crc_from 0 h < 2 ^ 24 = crc_from-lt 0 h (omega arith) in
    let k_lt : crc_from 0 k < 2 ^ 24 = crc_from-lt 0 k (omega arith) in
    let two_lt : crc_from one h < 2 ^ 24 = crc_from-lt one h one_lt in
    let three_lt : crc_from (crc_from one h) k < 2 ^ 24 = crc_from-lt (crc_from one h) k two_lt in
    let two : crc_from one h ≡ bit_xor (shift 32 one) (crc_from 0 h) = four_on one h one_lt h4 in
    let two_on : shift 32 (crc_from one h) ≡ bit_xor (shift 64 one) (shift 32 (crc_from 0 h)) =
    ap (shift 32) two ∙ shift-xor 32 (shift 32 one) (crc_from 0 h) (shift-lt 32 one one_lt) h_lt
    ∙ ap (λ n. bit_xor n (shift 32 (crc_from 0 h))) (sym (shift-add 32 32 one)) in
    let three : crc_from (crc_from one h) k ≡ bit_xor (bit_xor (shift 64 one) (shift 32 (crc_from 0 h))) (crc_from 0 k) =
    four_on (crc_from one h) k two_lt k4 ∙ ap (λ n. bit_xor n (crc_from 0 k)) two_on in
    let parts_lt : bit_xor (shift 64 one) (shift 32 (crc_from 0 h)) < 2 ^ 24 =
    xor_lt 24 (shift 64 one) (shift 32 (crc_from 0 h)) (shift-lt 64 one one_lt) (shift-lt 32 (crc_from 0 h) h_lt) in
    let three_on : shift 32 (crc_from (crc_from one h) k)
    ≡ bit_xor (bit_xor (shift 96 one) (shift 64 (crc_from 0 h))) (shift 32 (crc_from 0 k)) =
    ap (shift 32) three
    ∙ shift-xor 32 (bit_xor (shift 64 one) (shift 32 (crc_from 0 h))) (crc_from 0 k) parts_lt k_lt
    ∙ ap (λ n. bit_xor n (shift 32 (crc_from 0 k)))
    (shift-xor 32 (shift 64 one) (shift 32 (crc_from 0 h)) (shift-lt 64 one one_lt) (shift-lt 32 (crc_from 0 h) h_lt)
    ∙ ap (λ n. bit_xor n (shift 32 (shift 32 (crc_from 0 h)))) (sym (shift-add 32 64 one))
    ∙ ap (bit_xor (shift 96 one)) (sym (shift-add 32 32 (crc_from 0 h)))) in
    sym (four_on (crc_from (crc_from one h) k) l three_lt l4 ∙ ap (λ n. bit_xor n (crc_from 0 l)) three_on)

-- the four bytes at an offset
abbrev pub four_at : List ℕ → ℕ → List ℕ
four_at xs n = get_or xs n 0 ∷ get_or xs (n + 1) 0 ∷ get_or xs (n + 2) 0 ∷ get_or xs (n + 3) 0 ∷ []

four_off : (s n m : ℕ) (xs : List ℕ) → n + 4 ≡ m → m ≤ length xs
    → crc_from (crc_from s (four_at xs n)) (drop m xs) ≡ crc_from s (drop n xs)
four_off s n m xs places inside = four_step s (crc_from s (four_at xs n)) n m xs places inside refl

pub sixteen_step : (s next n : ℕ) (xs : List ℕ) → s < 2 ^ 24 → n + 16 ≤ length xs
    → next ≡ bit_xor (bit_xor (bit_xor (shift 96 (crc_from s (four_at xs n)))
    (shift 64 (crc_from 0 (get_or xs (n + 4) 0 ∷ get_or xs (n + 5) 0 ∷ get_or xs (n + 6) 0 ∷ get_or xs (n + 7) 0 ∷ []))))
    (shift 32 (crc_from 0 (get_or xs (n + 8) 0 ∷ get_or xs (n + 9) 0 ∷ get_or xs (n + 10) 0 ∷ get_or xs (n + 11) 0 ∷ []))))
    (crc_from 0 (get_or xs (n + 12) 0 ∷ get_or xs (n + 13) 0 ∷ get_or xs (n + 14) 0 ∷ get_or xs (n + 15) 0 ∷ []))
    → crc_from next (drop (n + 16) xs) ≡ crc_from s (drop n xs)
sixteen_step s next n xs fits inside is =
    let g : List ℕ = four_at xs n in
    let h : List ℕ = get_or xs (n + 4) 0 ∷ get_or xs (n + 5) 0 ∷ get_or xs (n + 6) 0 ∷ get_or xs (n + 7) 0 ∷ [] in
    let k : List ℕ = get_or xs (n + 8) 0 ∷ get_or xs (n + 9) 0 ∷ get_or xs (n + 10) 0 ∷ get_or xs (n + 11) 0 ∷ [] in
    let l : List ℕ = get_or xs (n + 12) 0 ∷ get_or xs (n + 13) 0 ∷ get_or xs (n + 14) 0 ∷ get_or xs (n + 15) 0 ∷ [] in
    ap (λ m. crc_from m (drop (n + 16) xs)) (is ∙ four_groups s g h k l fits refl refl refl refl)
    ∙ at (n + 12) (n + 16) l (crc_from (crc_from (crc_from s g) h) k) (omega arith) (omega arith) (sym (further 12))
    ∙ at (n + 8) (n + 12) k (crc_from (crc_from s g) h) (omega arith) (omega arith) (sym (further 8))
    ∙ at (n + 4) (n + 8) h (crc_from s g) (omega arith) (omega arith) (sym (further 4))
    ∙ four_off s n (n + 4) xs refl (omega arith)
  where
    further : (i : ℕ) → four_at xs (n + i)
        ≡ get_or xs (n + i) 0 ∷ get_or xs (n + (i + 1)) 0 ∷ get_or xs (n + (i + 2)) 0 ∷ get_or xs (n + (i + 3)) 0 ∷ []
    further i =
        let one : n + i + 1 ≡ n + (i + 1) = omega arith in
        let two : n + i + 2 ≡ n + (i + 2) = omega arith in
        let three : n + i + 3 ≡ n + (i + 3) = omega arith in
        ap (λ m. get_or xs (n + i) 0 ∷ get_or xs m 0 ∷ get_or xs (n + i + 2) 0 ∷ get_or xs (n + i + 3) 0 ∷ []) one
        ∙ ap (λ m. get_or xs (n + i) 0 ∷ get_or xs (n + (i + 1)) 0 ∷ get_or xs m 0 ∷ get_or xs (n + i + 3) 0 ∷ []) two
        ∙ ap (λ m. get_or xs (n + i) 0 ∷ get_or xs (n + (i + 1)) 0 ∷ get_or xs (n + (i + 2)) 0 ∷ get_or xs m 0 ∷ []) three

    at : (p q : ℕ) (ys : List ℕ) (r : ℕ) → p + 4 ≡ q → q ≤ length xs → ys ≡ four_at xs p
        → crc_from (crc_from r ys) (drop q xs) ≡ crc_from r (drop p xs)
    at p q ys r places within same =
        ap (λ zs. crc_from (crc_from r zs) (drop q xs)) same ∙ four_off r p q xs places within

-- the four look-ups, joined
pub sixteen_is : {p q r s a b c d : ℕ} → p ≡ a → q ≡ b → r ≡ c → s ≡ d
    → bit_xor (bit_xor (bit_xor p q) r) s ≡ bit_xor (bit_xor (bit_xor a b) c) d
sixteen_is {p} {q} {r} {s} {a} {b} {c} {d} e f g h =
    ap (λ n. bit_xor (bit_xor (bit_xor n q) r) s) e ∙ ap (λ n. bit_xor (bit_xor (bit_xor a n) r) s) f
    ∙ ap (λ n. bit_xor (bit_xor (bit_xor a b) n) s) g ∙ ap (bit_xor (bit_xor (bit_xor a b) c)) h

moved_lt : (m x p : ℕ) → x < 2 ^ 24 → p ≡ shift m x → p < 2 ^ 24
moved_lt m x p fits is = subst (λ n. n < 2 ^ 24) (sym is) (shift-lt m x fits)

pub sixteen_fits : (p q r s i j k t : ℕ) (g h l : List ℕ) → t < 2 ^ 24 → p ≡ shift i (crc_from t g) → q ≡ shift j (crc_from 0 h) → r ≡ shift k (crc_from 0 l)
    → s < 2 ^ 24 → bit_xor (bit_xor (bit_xor p q) r) s < 2 ^ 24
sixteen_fits p q r s i j k t g h l fits e f d last =
    let p_lt = moved_lt i (crc_from t g) p (crc_from-lt t g fits) e in
    let q_lt = moved_lt j (crc_from 0 h) q (crc_from-lt 0 h (omega arith)) f in
    let r_lt = moved_lt k (crc_from 0 l) r (crc_from-lt 0 l (omega arith)) d in
    xor_lt 24 (bit_xor (bit_xor p q) r) s (xor_lt 24 (bit_xor p q) r (xor_lt 24 p q p_lt q_lt) r_lt) last

-- ---- the register advanced by its bits

pub bit_step : (n state k sum moved digit : ℕ) → state < 2 ^ 24 → k < 6 → sum ≡ shift n (state / 2 ^ (24 - 4 * k)) → moved ≡ shift 4 sum
    → digit ≡ shift n (bit_and (state / 2 ^ (20 - 4 * k)) 15) → bit_xor moved digit ≡ shift n (state / 2 ^ (24 - 4 * (k + 1)))
bit_step n state k sum moved digit fits h sum_is moved_is digit_is =
    let rest : ℕ = state / 2 ^ (20 - 4 * k) in
    let inside : rest ≤ state = shr_le state (20 - 4 * k) in
    let further : 20 - 4 * k + 4 ≡ 24 - 4 * k = omega arith in
    let after : 20 - 4 * k ≡ 24 - 4 * (k + 1) = omega arith in
    let before : state / 2 ^ (24 - 4 * k) ≡ rest / 16 = sym (shr-shr state (20 - 4 * k) 4 ∙ ap (λ m. state / 2 ^ m) further) in
    let whole : rest / 16 * 16 + rest % 16 ≡ rest = omega arith in
    let last : bit_and rest 15 ≡ rest % 16 = and_mask rest 4 in
    ap (λ m. bit_xor m digit) (moved_is ∙ ap (shift 4) (sum_is ∙ ap (shift n) before))
    ∙ ap (bit_xor (shift 4 (shift n (rest / 16)))) (digit_is ∙ ap (shift n) last)
    ∙ sym (next_bits n (rest / 16) (rest % 16) (omega arith) (omega arith))
    ∙ ap (shift n) (whole ∙ ap (λ m. state / 2 ^ m) after)

pub shifted_fits : (n state m sum : ℕ) → state < 2 ^ 24 → sum ≡ shift n (state / 2 ^ m) → sum < 2 ^ 24
shifted_fits n state m sum fits is =
    let inside : state / 2 ^ m ≤ state = shr_le state m in
    subst (λ k. k < 2 ^ 24) (sym is) (shift-lt n (state / 2 ^ m) (omega arith))

pub no_bits : (n state : ℕ) → state < 2 ^ 24 → 0 ≡ shift n (state / 2 ^ 24)
no_bits n state fits =
    let none : state / 2 ^ 24 ≡ 0 = omega arith in
    sym (ap (shift n) none ∙ shift-zero n)

-- ---- the sixteen multiples

-- each number of a list is f of its index, counted from i
abbrev Are : (ℕ → ℕ) → ℕ → List ℕ → Type 0
Are f i [] = Unit {0}
Are f i (x ∷ xs) = (x ≡ f i) × Are f (suc i) xs

are_at : (f : ℕ → ℕ) (i : ℕ) (xs : List ℕ) → Are f i xs → (k : ℕ) → k < length xs → get_or xs k 0 ≡ f (i + k)
are_at f i [] all k h = absurd (omega arith)
are_at f i (x ∷ xs) all zero h =
    let same : i ≡ i + 0 = omega arith in
    all.0 ∙ ap f same
are_at f i (x ∷ xs) all (suc k) h =
    let next : suc i + k ≡ i + suc k = omega arith in
    are_at f (suc i) xs all.1 k (omega arith) ∙ ap f next

pub twice : (n m x y : ℕ) → m < 2 ^ 23 → x ≡ shift n m → y ≡ stepped x → y ≡ shift n (m * 2)
unfolding shift
twice n m x y h x_is y_is =
    let order : suc n ≡ n + 1 = omega arith in
    y_is ∙ ap stepped x_is ∙ ap (λ k. shift k m) order ∙ shift-add n 1 m ∙ ap (shift n) (stepped_small m h)

pub both : (n a b x y : ℕ) → a < 2 ^ 24 → b < 2 ^ 24 → x ≡ shift n a → y ≡ shift n b → bit_xor x y ≡ shift n (bit_xor a b)
both n a b x y ha hb x_is y_is = ap (λ k. bit_xor k y) x_is ∙ ap (bit_xor (shift n a)) y_is ∙ sym (shift-xor n a b ha hb)

pub multiple_is : (n one two four eight : ℕ) → one ≡ shift n 1 → two ≡ stepped one → four ≡ stepped two → eight ≡ stepped four → (d : ℕ) → d < 16
    → get_or (0 ∷ one ∷ two ∷ bit_xor two one ∷ four ∷ bit_xor four one ∷ bit_xor four two ∷ bit_xor four (bit_xor two one)
    ∷ eight ∷ bit_xor eight one ∷ bit_xor eight two ∷ bit_xor eight (bit_xor two one)
    ∷ bit_xor eight four ∷ bit_xor eight (bit_xor four one) ∷ bit_xor eight (bit_xor four two) ∷ bit_xor eight (bit_xor four (bit_xor two one)) ∷ []) d 0 ≡ shift n d
multiple_is n one two four eight is1 two_is four_is eight_is d h =
    let is2 : two ≡ shift n 2 = twice n 1 one two (omega arith) is1 two_is in
    let is3 : bit_xor two one ≡ shift n 3 = both n 2 1 two one (omega arith) (omega arith) is2 is1 in
    let is4 : four ≡ shift n 4 = twice n 2 two four (omega arith) is2 four_is in
    let is5 : bit_xor four one ≡ shift n 5 = both n 4 1 four one (omega arith) (omega arith) is4 is1 in
    let is6 : bit_xor four two ≡ shift n 6 = both n 4 2 four two (omega arith) (omega arith) is4 is2 in
    let is7 : bit_xor four (bit_xor two one) ≡ shift n 7 = both n 4 3 four (bit_xor two one) (omega arith) (omega arith) is4 is3 in
    let is8 : eight ≡ shift n 8 = twice n 4 four eight (omega arith) is4 eight_is in
    let above : (m x : ℕ) → m < 8 → x ≡ shift n m → bit_xor eight x ≡ shift n (bit_xor 8 m) = λ m x less is. both n 8 m eight x (omega arith) (omega arith) is8 is in
    let all : Are (shift n) 0 (0 ∷ one ∷ two ∷ bit_xor two one ∷ four ∷ bit_xor four one ∷ bit_xor four two ∷ bit_xor four (bit_xor two one)
    ∷ eight ∷ bit_xor eight one ∷ bit_xor eight two ∷ bit_xor eight (bit_xor two one)
    ∷ bit_xor eight four ∷ bit_xor eight (bit_xor four one) ∷ bit_xor eight (bit_xor four two) ∷ bit_xor eight (bit_xor four (bit_xor two one)) ∷ []) = (
      sym (shift-zero n),
      (
        is1,
        (
          is2,
          (
            is3,
            (
              is4,
              (
                is5,
                (
                  is6,
                  (
                    is7,
                    (
                      is8,
                      (
                        above 1 one (omega arith) is1,
                        (
                          above 2 two (omega arith) is2,
                          (
                            above 3 (bit_xor two one) (omega arith) is3,
                            (
                              above 4 four (omega arith) is4,
                              (
                                above 5 (bit_xor four one) (omega arith) is5,
                                (above 6 (bit_xor four two) (omega arith) is6, (above 7 (bit_xor four (bit_xor two one)) (omega arith) is7, tt)),
                              ),
                            ),
                          ),
                        ),
                      ),
                    ),
                  ),
                ),
              ),
            ),
          ),
        ),
      ),
    ) in
    are_at (shift n) 0 (0 ∷ one ∷ two ∷ bit_xor two one ∷ four ∷ bit_xor four one ∷ bit_xor four two ∷ bit_xor four (bit_xor two one)
    ∷ eight ∷ bit_xor eight one ∷ bit_xor eight two ∷ bit_xor eight (bit_xor two one)
    ∷ bit_xor eight four ∷ bit_xor eight (bit_xor four one) ∷ bit_xor eight (bit_xor four two) ∷ bit_xor eight (bit_xor four (bit_xor two one)) ∷ []) all d h
    ∙ ap (shift n) (zero-add d)
