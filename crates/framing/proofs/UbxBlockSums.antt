-- Sums of blocks of bytes, and how far sums go.
use Rattle.std.proofs.Common.{◌≡◌, ℕ, zero, suc, ◌+◌, ◌*◌, ◌≤◌, List, [], ◌∷◌, ◌++◌, length}
use Rattle.std.proofs.Common.{take, drop, get_or, refl, sym, ap, ◌∙◌, arith, w8}
use Rattle.std.proofs.Math.Seq.{take-add}
use Rattle.std.proofs.lemmas.List.{length-take-le}
use Rattle.std.proofs.lemmas.Simd.{chunk-fits, bytes_below, sum_bound, sum_by-ones, sum_dots}
use Rattle.std.proofs.lemmas.Simd.{length-chunk, length-replicate}
use Rattle.std.specs.Prelude.{replicate}
use lib.Lanes.{Each1, sum_l, products, dots}
use mir.Val.{Fits}
use Rattle.framing.specs.UbxForm.{total, running}

-- how often each of n bytes is in their running sums
abbrev pub turns : ℕ → List ℕ
turns zero = []
turns (suc n) = suc n ∷ turns n

length-turns : (n : ℕ) → length (turns n) ≡ n
length-turns zero = refl
length-turns (suc n) = ap suc (length-turns n)

pub total_is : (xs : List ℕ) → total xs ≡ sum_l xs
total_is [] = refl
total_is (x ∷ xs) = ap (λ n. x + n) (total_is xs)

turned : (a x n s : ℕ) → (a + x) + (n * (a + x) + s) ≡ suc n * a + (suc n * x + s)
turned a x n s = grind arith

more_times : (x n s : ℕ) → x * suc n + s ≡ suc n * x + s
more_times x n s = grind arith

pub running_is : (a : ℕ) (xs : List ℕ)
    → running a xs ≡ length xs * a + sum_l (products xs (turns (length xs)))
running_is a [] = omega arith
running_is a (x ∷ xs) =
    let rest = sum_l (products xs (turns (length xs))) in
    ap (λ n. (a + x) + n) (running_is (a + x) xs)
    ∙ turned a x (length xs) rest
    ∙ ap (λ n. suc (length xs) * a + n) (sym (more_times x (length xs) rest))

total_append : (xs ys : List ℕ) → total (xs ++ ys) ≡ total xs + total ys
total_append [] ys = omega arith
total_append (x ∷ xs) ys = omega (arith, total_append xs ys)

running_append : (a : ℕ) (xs ys : List ℕ)
    → running a (xs ++ ys) ≡ running a xs + running (a + total xs) ys
running_append a [] ys =
    let same : a + 0 ≡ a = omega arith in
    omega (arith, ap (λ n. running n ys) same)
running_append a (x ∷ xs) ys =
    let same : a + x + total xs ≡ a + (x + total xs) = omega arith in
    omega (arith, running_append (a + x) xs ys, ap (λ n. running n ys) same)

running_from : (a : ℕ) (xs : List ℕ) → running a xs ≡ length xs * a + running 0 xs
running_from a xs =
    let none : length xs * 0 ≡ 0 = grind arith in
    omega (arith, running_is a xs, running_is 0 xs, none)

-- one more block
pub total_block : (n p : ℕ) (xs : List ℕ)
    → total (take (p + n) xs) ≡ total (take p xs) + total (take n (drop p xs))
total_block n p xs = ap total (take-add p n xs) ∙ total_append (take p xs) (take n (drop p xs))

pub running_block : (n p : ℕ) (xs : List ℕ) → p + n ≤ length xs
    → running 0 (take (p + n) xs)
    ≡ running 0 (take p xs) + (n * total (take p xs) + running 0 (take n (drop p xs)))
running_block n p xs inside =
    let none : 0 + total (take p xs) ≡ total (take p xs) = omega arith in
    ap (running 0) (take-add p n xs) ∙ running_append 0 (take p xs) (take n (drop p xs))
    ∙ ap (λ a. running 0 (take p xs) + running a (take n (drop p xs))) none
    ∙ ap (λ s. running 0 (take p xs) + s) (running_from (total (take p xs)) (take n (drop p xs))
    ∙ ap (λ k. k * total (take p xs) + running 0 (take n (drop p xs))) (length-chunk p n xs inside))

-- how far the sums of the first p bytes go
pub total_le : (xs : List ℕ) → ((k : ℕ) → Fits w8 (get_or xs k 0)) → (p : ℕ) → p ≤ length xs
    → total (take p xs) ≤ 255 * p
total_le xs fit p inside =
    omega (
      arith,
      total_is (take p xs),
      length-take-le p xs inside,
      sum_bound 255 (take p xs) (bytes_below (take p xs) (chunk-fits w8 0 p xs fit)),
    )

run_step : (a x n r m : ℕ) → a + x ≤ m → r ≤ m * n → (a + x) + r ≤ m * suc n
run_step a x n r m h g =
    let more : m * suc n ≡ m * n + m = grind arith in
    omega (arith, more)

run_le : (m a : ℕ) (xs : List ℕ) → a + total xs ≤ m → running a xs ≤ m * length xs
run_le m a [] h = omega arith
run_le m a (x ∷ xs) h =
    run_step a x (length xs) (running (a + x) xs) m (omega arith) (run_le m (a + x) xs (omega arith))

pub running_le : (xs : List ℕ) → ((k : ℕ) → Fits w8 (get_or xs k 0)) → (p : ℕ) → p ≤ length xs
    → p ≤ 98304 → running 0 (take p xs) ≤ 25067520 * p
running_le xs fit p inside few =
    omega (
      arith,
      length-take-le p xs inside,
      run_le 25067520 0 (take p xs) (omega (arith, total_le xs fit p inside)),
    )

-- the sums t and r of the first p bytes, and s and u of the next n, give those of all
pub next_block : (n p q : ℕ) (xs : List ℕ) → ((k : ℕ) → Fits w8 (get_or xs k 0))
    → p + n ≡ q → q ≤ length xs → q ≤ 98304
    → (t r s u : ℕ) → t ≡ total (take p xs) → r ≡ running 0 (take p xs)
    → s ≡ total (take n (drop p xs)) → u ≡ running 0 (take n (drop p xs))
    → ((t + s ≡ total (take q xs)) × (r + (n * t + u) ≡ running 0 (take q xs)))
    × ((t + s ≤ 25067520) × (r + (n * t + u) ≤ 2464237486080))
next_block n p q xs fit reach inside few t r s u t_is r_is s_is u_is =
    let sum : t + s ≡ total (take q xs) =
    omega (arith, total_block n p xs, ap (λ k. total (take k xs)) reach) in
    let run : r + (n * t + u) ≡ running 0 (take q xs) =
    omega (
      arith,
      running_block n p xs (omega arith),
      ap (λ k. running 0 (take k xs)) reach,
      ap (λ k. n * k) t_is,
    ) in (
      (sum, run),
      (omega (arith, total_le xs fit q inside), omega (arith, running_le xs fit q inside few)),
    )

-- the sums of a block of m bytes by products
pub total_dots : (n m : ℕ) (xs : List ℕ) → length xs ≡ m → m ≡ 4 * n
    → sum_l (dots xs (replicate m 1)) ≡ total xs
total_dots n m xs long e =
    (sum_dots n xs (replicate m 1) (long ∙ e) (length-replicate m 1 ∙ e)).0
    ∙ ap (λ k. sum_l (products xs (replicate k 1))) (sym long) ∙ sum_by-ones xs ∙ sym (total_is xs)

pub running_dots : (n m : ℕ) (xs : List ℕ) → length xs ≡ m → m ≡ 4 * n
    → sum_l (dots xs (turns m)) ≡ running 0 xs
running_dots n m xs long e =
    let none : length xs * 0 ≡ 0 = grind arith in
    (sum_dots n xs (turns m) (long ∙ e) (length-turns m ∙ e)).0
    ∙ ap (λ k. sum_l (products xs (turns k))) (sym long) ∙ omega (arith, running_is 0 xs, none)

-- they are small
pub small_total : (m : ℕ) (xs : List ℕ) → Each1 (Fits w8) xs → length xs ≡ m → m ≤ 64
    → total xs ≤ 16320
small_total m xs fit long few =
    omega (arith, total_is xs, sum_bound 255 xs (bytes_below xs fit))

pub small_running : (m : ℕ) (xs : List ℕ) → Each1 (Fits w8) xs → length xs ≡ m → m ≤ 64
    → running 0 xs ≤ 1044480
small_running m xs fit long few =
    omega (arith, run_le 16320 0 xs (omega (arith, small_total m xs fit long few)))
