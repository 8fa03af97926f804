-- Sums byte by byte, and sums of a range of bytes from the running sums at its ends.
use Rattle.std.proofs.Common.{◌≡◌, ℕ, zero, suc, ◌+◌, ◌-◌, ◌*◌, ◌%◌, ◌<◌, ◌≤◌, ◌&&◌, ◌⊎◌, inl}
use Rattle.std.proofs.Common.{inr, nat_eq, true, List, [], ◌∷◌, ◌++◌, length, get_or, take, drop}
use Rattle.std.proofs.Common.{sym, ap, ◌∙◌, arith, add-zero, length-drop}
use Rattle.std.proofs.lemmas.Bool.{eqb-true, eq-eqb, cases_lt}
use Rattle.std.proofs.lemmas.Bool.Decides.{same_from_decides}
use Rattle.std.proofs.lemmas.List.{take-take, drop-take, drop-drop, length-take-le, take_more}
use Rattle.std.proofs.lemmas.List.{get_or-take, get_or-drop, get_or_append_left, get_or_push}
use Rattle.std.proofs.lemmas.List.{length_push}
use Rattle.framing.specs.UbxForm.{total, running, body_of, has_right_sums}
use Rattle.framing.specs.UbxSums.{AreSums}

pub sum_more : (xs : List ℕ) (y : ℕ) → total (xs ++ y ∷ []) ≡ total xs + y
sum_more [] y = omega arith
sum_more (x ∷ xs) y = omega (arith, sum_more xs y)

pub running_more : (a : ℕ) (xs : List ℕ) (y : ℕ)
    → running a (xs ++ y ∷ []) ≡ running a xs + (a + total xs + y)
running_more a [] y = omega arith
running_more a (x ∷ xs) y = omega (arith, running_more (a + x) xs y)

-- one more byte
pub sum_next : (xs : List ℕ) (i : ℕ) → i < length xs
    → total (take (i + 1) xs) ≡ total (take i xs) + get_or xs i 0
sum_next xs i h = ap total (take_more xs i 0 h) ∙ sum_more (take i xs) (get_or xs i 0)

pub running_next : (xs : List ℕ) (i : ℕ) → i < length xs
    → running 0 (take (i + 1) xs) ≡ running 0 (take i xs) + total (take (i + 1) xs)
running_next xs i h =
    ap (running 0) (take_more xs i 0 h) ∙ running_more 0 (take i xs) (get_or xs i 0)
    ∙ ap (λ n. running 0 (take i xs) + n) (omega (arith, sum_next xs i h))

next_sum : (a b c d x : ℕ) → a ≡ (b + x) % 256 → b % 256 ≡ (c + d) % 256
    → a % 256 ≡ (c + (d + x)) % 256
next_sum a b c d x e f = omega arith

next_run : (a b s r c d x y z : ℕ) → a ≡ (b + s) % 256 → b % 256 ≡ (r + (c + d)) % 256
    → s % 256 ≡ (x + y) % 256 → z ≡ c + x
    → a % 256 ≡ (r + (z + (d + y))) % 256
next_run a b s r c d x y z e f g h = omega arith

once_more : (n s : ℕ) → suc n * s ≡ n * s + s
once_more n s = grind arith

-- a running sum is an earlier one plus the bytes between
pub sum_after : (bytes sums runs : List ℕ) → AreSums bytes sums runs → (p n : ℕ)
    → p + n < length sums
    → get_or sums (p + n) 0 % 256 ≡ (get_or sums p 0 + total (take n (drop p bytes))) % 256
sum_after bytes sums runs are p zero h =
    ap (λ n. get_or sums n 0 % 256) (add-zero p)
    ∙ ap (λ n. n % 256) (sym (add-zero (get_or sums p 0)))
sum_after bytes sums runs are p (suc n) h =
    let place : p + suc n ≡ p + n + 1 = omega arith in
    let count : n + 1 ≡ suc n = omega arith in
    let inside : n < length (drop p bytes) = omega (arith, length-drop p bytes, are.most) in
    let step : get_or sums (p + n + 1) 0
    ≡ (get_or sums (p + n) 0 + get_or (drop p bytes) n 0) % 256 =
    are.sum_steps (p + n) (omega arith)
    ∙ ap (λ x. (get_or sums (p + n) 0 + x) % 256) (sym (get_or-drop p bytes n 0)) in
    ap (λ m. get_or sums m 0 % 256) place
    ∙ next_sum (get_or sums (p + n + 1) 0) (get_or sums (p + n) 0) (get_or sums p 0)
    (total (take n (drop p bytes))) (get_or (drop p bytes) n 0) step
    (sum_after bytes sums runs are p n (omega arith))
    ∙ ap (λ t. (get_or sums p 0 + t) % 256) (sym (sum_next (drop p bytes) n inside)
    ∙ ap (λ m. total (take m (drop p bytes))) count)

-- the same for the sum of running sums
pub run_after : (bytes sums runs : List ℕ) → AreSums bytes sums runs → (p n : ℕ)
    → p + n < length sums
    → get_or runs (p + n) 0 % 256 ≡ (get_or runs p
    0 + (n * get_or sums p 0 + running 0 (take n (drop p bytes)))) % 256
run_after bytes sums runs are p zero h =
    let none : get_or runs p 0 + (0 * get_or sums p 0 + 0) ≡ get_or runs p 0 = omega arith in
    ap (λ n. get_or runs n 0 % 256) (add-zero p) ∙ ap (λ n. n % 256) (sym none)
run_after bytes sums runs are p (suc n) h =
    let place : p + suc n ≡ p + n + 1 = omega arith in
    let count : n + 1 ≡ suc n = omega arith in
    let inside : n < length (drop p bytes) = omega (arith, length-drop p bytes, are.most) in
    let sums_at : get_or sums (p + n + 1) 0 % 256
    ≡ (get_or sums p 0 + total (take (n + 1) (drop p bytes))) % 256 =
    ap (λ m. get_or sums m 0 % 256) (sym place ∙ ap (λ m. p + m) (sym count))
    ∙ sum_after bytes sums runs are p (n + 1) (omega arith) in
    ap (λ m. get_or runs m 0 % 256) place
    ∙ next_run (get_or runs (p + n + 1) 0) (get_or runs (p + n) 0) (get_or sums (p + n + 1) 0)
    (get_or runs p 0) (n * get_or sums p 0) (running 0 (take n (drop p bytes)))
    (get_or sums p 0) (total (take (n + 1) (drop p bytes))) (suc n * get_or sums p 0)
    (are.run_steps (p + n) (omega arith)) (run_after bytes sums runs are p n (omega arith)) sums_at
    (once_more n (get_or sums p 0))
    ∙ ap (λ t. (get_or runs p 0 + (suc n * get_or sums p 0 + t)) % 256)
    (sym (running_next (drop p bytes) n inside) ∙ ap (λ m. running 0 (take m (drop p bytes))) count)

-- a byte is a checksum exactly where adding it to the earlier sum gives the later one
pub same_byte : (x t a e : ℕ) → a < 256 → e < 256 → e % 256 ≡ (x + t) % 256
    → nat_eq ((x + a) % 256) e ≡ nat_eq (t % 256) a
same_byte x t a e small less is =
    same_from_decides (nat_eq ((x + a) % 256) e) (nat_eq (t % 256) a) (
      λ h. let same : (x + a) % 256 ≡ e = eqb-true _ _ h in eq-eqb _ _ (back same),
      λ h. let same : t % 256 ≡ a = eqb-true _ _ h in forth same,
    )
    (λ h. h, λ h. h)
  where
    back : (x + a) % 256 ≡ e → t % 256 ≡ a
    back h = omega arith

    forth : t % 256 ≡ a → nat_eq ((x + a) % 256) e ≡ true
    forth h = eq-eqb _ _ (omega arith)

-- one more running sum
pub sums_more : (bytes sums runs : List ℕ) (place a b : ℕ) → AreSums bytes sums runs
    → length sums ≡ place + 1 → place < length bytes
    → a ≡ (get_or sums place 0 + get_or bytes place 0) % 256 → b ≡ (get_or runs place 0 + a) % 256
    → AreSums bytes (sums ++ a ∷ []) (runs ++ b ∷ [])
sums_more bytes sums runs place a b are count inside a_is b_is = record {
  some = omega (arith, length_push sums a);
  most = omega (arith, length_push sums a);
  same = omega (arith, length_push sums a, length_push runs b, are.same);
  sum_steps = λ i less. sum_step i (omega (arith, length_push sums a)) (cases_lt i place);
  run_steps = λ i less. run_step i (omega (arith, length_push sums a)) (cases_lt i place);
}
  where
    before : (i : ℕ) → i < length sums → get_or (sums ++ a ∷ []) i 0 ≡ get_or sums i 0
    before i h = get_or_append_left sums (a ∷ []) 0 i h

    run_before : (i : ℕ) → i < length sums → get_or (runs ++ b ∷ []) i 0 ≡ get_or runs i 0
    run_before i h = get_or_append_left runs (b ∷ []) 0 i (omega (arith, are.same))

    sum_step : (i : ℕ) → i ≤ place → (i < place) ⊎ (place ≤ i)
        → get_or (sums ++ a ∷ []) (i + 1) 0 ≡ (get_or (sums ++ a ∷ []) i 0 + get_or bytes i 0) % 256
    sum_step i most (inl less) =
        before (i + 1) (omega arith) ∙ are.sum_steps i (omega arith)
        ∙ ap (λ r. (r + get_or bytes i 0) % 256) (sym (before i (omega arith)))
    sum_step i most (inr more) =
        let same : place ≡ i = omega arith in
        let at : length sums ≡ i + 1 = omega arith in
        get_or_push sums a 0 (i + 1) at ∙ a_is
        ∙ ap (λ n. (get_or sums n 0 + get_or bytes n 0) % 256) same
        ∙ ap (λ r. (r + get_or bytes i 0) % 256) (sym (before i (omega arith)))

    run_step : (i : ℕ) → i ≤ place → (i < place) ⊎ (place ≤ i)
        → get_or (runs ++ b ∷ []) (i + 1) 0
        ≡ (get_or (runs ++ b ∷ []) i 0 + get_or (sums ++ a ∷ []) (i + 1) 0) % 256
    run_step i most (inl less) =
        run_before (i + 1) (omega arith) ∙ are.run_steps i (omega arith)
        ∙ ap (λ r. (r + get_or sums (i + 1) 0) % 256) (sym (run_before i (omega arith)))
        ∙ ap (λ s. (get_or (runs ++ b ∷ []) i 0 + s) % 256) (sym (before (i + 1) (omega arith)))
    run_step i most (inr more) =
        let same : place ≡ i = omega arith in
        let at : length sums ≡ i + 1 = omega arith in
        let run_at : length runs ≡ i + 1 = omega (arith, are.same) in
        get_or_push runs b 0 (i + 1) run_at ∙ b_is ∙ ap (λ n. (get_or runs n 0 + a) % 256) same
        ∙ ap (λ r. (r + a) % 256) (sym (run_before i (omega arith)))
        ∙ ap (λ s. (get_or (runs ++ b ∷ []) i 0 + s) % 256) (sym (get_or_push sums a 0 (i + 1) at))

-- the running sums tell whether a message has the right checksum
pub right_by : (bytes sums runs : List ℕ) → AreSums bytes sums runs → (place size : ℕ) → 8 ≤ size
    → place + size ≤ length bytes
    → place + size - 2 < length sums
    → get_or bytes (place + size - 2) 0 < 256 → get_or bytes (place + size - 2 + 1) 0 < 256
    → get_or sums (place + size - 2) 0 < 256 → get_or runs (place + size - 2) 0 < 256
    → (nat_eq ((get_or sums (place + 2) 0 + get_or bytes (place + size - 2) 0) % 256)
    (get_or sums (place + size - 2) 0)
    && nat_eq ((get_or runs (place + 2) 0 + (size - 4) * get_or sums (place + 2) 0 + get_or bytes
    (place + size - 2 + 1) 0) % 256) (get_or runs (place + size - 2) 0))
    ≡ has_right_sums (take size (drop place bytes))
unfolding has_right_sums
right_by bytes sums runs are place size long inside reached byte_a byte_b sum_lt run_lt =
    let count : length (take size (drop place bytes)) ≡ size =
    length-take-le size (drop place bytes) (omega (arith, length-drop place bytes)) in
    let parts : 2 + (size - 4) ≤ size = omega arith in
    let whole : 2 + (size - 2) ≡ size = omega arith in
    let body : body_of (take size (drop place bytes)) ≡ take (size - 4) (drop (place + 2) bytes) =
    ap (λ n. take (n - 4) (drop 2 (take size (drop place bytes)))) count
    ∙ ap (λ n. take (size - 4) (drop 2 (take n (drop place bytes)))) (sym whole)
    ∙ ap (take (size - 4)) (drop-take 2 (size - 2) (drop place bytes))
    ∙ take-take (size - 4) (size - 2) (drop 2 (drop place bytes)) (omega arith)
    ∙ ap (take (size - 4)) (drop-drop 2 place bytes) in
    let first_at : place + (size - 2) ≡ place + size - 2 = omega arith in
    let second_at : place + (size - 1) ≡ place + size - 2 + 1 = omega arith in
    let first : get_or (take size (drop place bytes)) (length (take size (drop place bytes)) - 2) 0
    ≡ get_or bytes (place + size - 2) 0 =
    ap (λ n. get_or (take size (drop place bytes)) (n - 2) 0) count
    ∙ get_or-take size (drop place bytes) (size - 2) 0 (omega arith)
    ∙ get_or-drop place bytes (size - 2) 0 ∙ ap (λ n. get_or bytes n 0) first_at in
    let second : get_or (take size (drop place bytes)) (length (take size (drop place bytes)) - 1) 0
    ≡ get_or bytes (place + size - 2 + 1) 0 =
    ap (λ n. get_or (take size (drop place bytes)) (n - 1) 0) count
    ∙ get_or-take size (drop place bytes) (size - 1) 0 (omega arith)
    ∙ get_or-drop place bytes (size - 1) 0 ∙ ap (λ n. get_or bytes n 0) second_at in
    let end : place + 2 + (size - 4) ≡ place + size - 2 = omega arith in
    let total_at : get_or sums (place + size - 2) 0 % 256
    ≡ (get_or sums (place + 2) 0 + total (take (size - 4) (drop (place + 2) bytes))) % 256 =
    ap (λ n. get_or sums n 0 % 256) (sym end)
    ∙ sum_after bytes sums runs are (place + 2) (size - 4) (omega arith) in
    let run_at : get_or runs (place + size - 2) 0 % 256
    ≡ (get_or runs (place + 2) 0 + ((size - 4) * get_or sums (place + 2) 0 + running 0
    (take (size - 4) (drop (place + 2) bytes)))) % 256 =
    ap (λ n. get_or runs n 0 % 256) (sym end)
    ∙ run_after bytes sums runs are (place + 2) (size - 4) (omega arith) in
    let run_sum : get_or runs (place + size - 2) 0 % 256
    ≡ (get_or runs (place + 2) 0 + (size - 4) * get_or sums (place + 2) 0 + running 0
    (take (size - 4) (drop (place + 2) bytes))) % 256 =
    run_at ∙ ap (λ n. n % 256) (regroup (get_or runs (place + 2) 0)
    ((size - 4) * get_or sums (place + 2) 0)
    (running 0 (take (size - 4) (drop (place + 2) bytes)))) in
    ap (λ b. b && nat_eq ((get_or runs (place + 2) 0 + (size - 4) * get_or sums
    (place + 2) 0 + get_or bytes (place + size - 2 + 1) 0) % 256)
    (get_or runs (place + size - 2) 0))
    (same_byte (get_or sums (place + 2) 0) (total (take (size - 4) (drop (place + 2) bytes)))
    (get_or bytes (place + size - 2) 0) (get_or sums (place + size - 2) 0) byte_a sum_lt total_at)
    ∙ ap (λ b. nat_eq (total (take (size - 4) (drop (place + 2) bytes)) % 256)
    (get_or bytes (place + size - 2) 0) && b)
    (same_byte (get_or runs (place + 2) 0 + (size - 4) * get_or sums (place + 2) 0)
    (running 0 (take (size - 4) (drop (place + 2) bytes))) (get_or bytes (place + size - 2 + 1) 0)
    (get_or runs (place + size - 2) 0) byte_b run_lt run_sum)
    ∙ sym (ap (λ xs. nat_eq (total xs % 256)
    (get_or (take size (drop place bytes)) (length (take size (drop place bytes)) - 2) 0)
    && nat_eq (running 0 xs % 256) (get_or (take size (drop place bytes))
    (length (take size (drop place bytes)) - 1) 0)) body
    ∙ ap (λ n. nat_eq (total (take (size - 4) (drop (place + 2) bytes)) % 256) n
    && nat_eq (running 0 (take (size - 4) (drop (place + 2) bytes)) % 256)
    (get_or (take size (drop place bytes)) (length (take size (drop place bytes)) - 1) 0)) first
    ∙ ap (λ n. nat_eq (total (take (size - 4) (drop (place + 2) bytes)) % 256)
    (get_or bytes (place + size - 2) 0)
    && nat_eq (running 0 (take (size - 4) (drop (place + 2) bytes)) % 256) n) second)
  where
    regroup : (a b d : ℕ) → a + (b + d) ≡ a + b + d
    regroup a b d = omega arith
