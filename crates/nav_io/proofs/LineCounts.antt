-- How many lines end in a prefix of some bytes.
use Rattle.std.proofs.Common.{◌≡◌, ℕ, ◌+◌, ◌-◌, ◌≤◌, Bool, true, false, List, [], ◌∷◌, ◌++◌, length, take, drop, map, refl, sym, ap, ◌∙◌, arith, append-nil, length-append}
use Rattle.std.specs.Prelude.{◌==◌, if◌then◌else◌}
use Rattle.std.proofs.lemmas.List.{take-append-le, take-append-drop, length-map, map-append}
use Rattle.nav_io.specs.Lines.{Line, ends, line_of, lines_by, pieces, with_prefix}

-- the first list of lines is a prefix of the second
abbrev pub IsPrefixOf : List Line → List Line → Type 0
IsPrefixOf xs ys = (rest : List Line) × (ys ≡ xs ++ rest)

-- ---- lines of a prefix

prefix_step : (b m : Bool) (x : ℕ) (p q : List (List ℕ))
    → (rest : List (List ℕ)) × ((if b then [] ∷ (p ++ q) else with_prefix m x (p ++ q)) ≡ (if b then [] ∷ p else with_prefix true x p) ++ rest)
prefix_step true m x p q = (q, refl)
prefix_step false m x [] q = (with_prefix m x q, refl)
prefix_step false m x (line ∷ p) q = (q, refl)

pieces_prefix : (m : Bool) (p q : List ℕ) → (rest : List (List ℕ)) × (pieces m (p ++ q) ≡ pieces true p ++ rest)
pieces_prefix m [] q = (pieces m q, refl)
pieces_prefix m (x ∷ p) q =
    let before = pieces_prefix m p q in
    let step = prefix_step (x == 10) m x (pieces true p) before.0 in
    (step.0, ap (λ (l : List (List ℕ)). if x == 10 then [] ∷ l else with_prefix m x l) before.1 ∙ step.1)

-- the lines that have ended in a prefix of the bytes are a prefix of their lines
pub lines_prefix : (m : Bool) (p q : List ℕ) → IsPrefixOf (lines_by true p) (lines_by m (p ++ q))
lines_prefix m p q =
    let prefix = pieces_prefix m p q in
    (map line_of prefix.0, ap (map line_of) prefix.1 ∙ map-append line_of (pieces true p) prefix.0)

-- ---- how many

more_prefix : (m : Bool) (x : ℕ) (q : List (List ℕ)) → length q ≤ length (with_prefix m x q)
more_prefix m x [] = omega arith
more_prefix m x (line ∷ q) = omega arith

same_prefix : (x : ℕ) (p : List (List ℕ)) → length (with_prefix true x p) ≡ length p
same_prefix x [] = refl
same_prefix x (line ∷ p) = refl

few_step : (b m : Bool) (x n : ℕ) (p q : List (List ℕ)) → length p + n ≤ length q
    → length (if b then [] ∷ p else with_prefix true x p) + n ≤ length (if b then [] ∷ q else with_prefix m x q)
few_step true m x n p q l = omega (arith, l)
few_step false m x n p q l = omega (arith, l, more_prefix m x q, same_prefix x p)

-- no more lines end in both parts than in the whole
pub few_pieces : (m : Bool) (p q : List ℕ) → length (pieces true p) + length (pieces m q) ≤ length (pieces m (p ++ q))
few_pieces m [] q = omega arith
few_pieces m (x ∷ p) q = few_step (x == 10) m x (length (pieces m q)) (pieces true p) (pieces m (p ++ q)) (few_pieces m p q)

sum_step : (b : Bool) (x n : ℕ) (p q : List (List ℕ)) → length q ≡ length p + n
    → length (if b then [] ∷ q else with_prefix true x q) ≡ length (if b then [] ∷ p else with_prefix true x p) + n
sum_step true x n p q l = omega (arith, l)
sum_step false x n p q l = omega (arith, l, same_prefix x q, same_prefix x p)

-- as many end in the whole as in both parts
pub sum_pieces : (p q : List ℕ) → length (pieces true (p ++ q)) ≡ length (pieces true p) + length (pieces true q)
sum_pieces [] q = omega arith
sum_pieces (x ∷ p) q = sum_step (x == 10) x (length (pieces true q)) (pieces true p) (pieces true (p ++ q)) (sum_pieces p q)

none_step : (b e : Bool) (x : ℕ) (p : List (List ℕ)) → (if b then true else e) ≡ false → (e ≡ false → p ≡ [])
    → (if b then [] ∷ p else with_prefix true x p) ≡ []
none_step true e x p h f = absurd cc
none_step false e x p h f = ap (with_prefix true x) (f h)

-- none has ended where no line ends
pub no_pieces : (p : List ℕ) → ends p ≡ false → pieces true p ≡ []
no_pieces [] h = refl
no_pieces (x ∷ p) h = none_step (x == 10) (ends p) x (pieces true p) h (no_pieces p)

pub no_lines : (p : List ℕ) → ends p ≡ false → lines_by true p ≡ []
no_lines p h = ap (map line_of) (no_pieces p h)

-- ---- all but the last bytes

pub lines_length : (m : Bool) (p : List ℕ) → length (lines_by m p) ≡ length (pieces m p)
lines_length m p = length-map (pieces m p) line_of

-- no more lines end in all but the last 4,096 bytes than in a prefix that has all but 4,096
pub recent_within : (t p q : List ℕ) (n : ℕ) → t ≡ p ++ q → length q ≤ 4096 → length (pieces true p) ≤ n → length (lines_by true (take (length t - 4096) t)) ≤ n
recent_within t p q n e few l =
    let k = length t - 4096 in
    let short : k ≤ length p = omega (arith, ap length e, length-append p q) in
    let prefix : take k t ≡ take k p = ap (take k) e ∙ take-append-le k p q short in
    let whole = ap (λ (b : List ℕ). length (pieces true b)) (take-append-drop k p) in
    omega (arith, lines_length true (take k t), ap (λ (b : List ℕ). length (pieces true b)) prefix, few_pieces true (take k p) (drop k p), whole, l)

-- as many lines as stand before those of the rest
pub ended_before : (p q : List ℕ) (lines : List Line) → lines_by false (p ++ q) ≡ lines ++ lines_by false q → length (pieces true p) ≤ length lines
ended_before p q lines e =
    omega (arith, few_pieces false p q, lines_length false (p ++ q), lines_length false q, ap length e, length-append lines (lines_by false q))

pub recent_lines : (t p q : List ℕ) (lines : List Line) → t ≡ p ++ q → length q ≤ 4096 → lines_by false t ≡ lines ++ lines_by false q
    → length (lines_by true (take (length t - 4096) t)) ≤ length lines
recent_lines t p q lines e few all = recent_within t p q (length lines) e few (ended_before p q lines (ap (lines_by false) (sym e) ∙ all))

-- as many as have ended in all
pub recent_ended : (t : List ℕ) (lines : List Line) → lines_by true t ≡ lines → length (lines_by true (take (length t - 4096) t)) ≤ length lines
recent_ended t lines all =
    recent_within t t [] (length lines) (sym (append-nil t)) (omega arith) (omega (arith, lines_length true t, ap length all))

-- ---- a prefix of lines

-- a prefix that is no longer than the first of two lists is a prefix of that
pub prefix_within : (xs ys zs : List Line) → IsPrefixOf xs (ys ++ zs) → length xs ≤ length ys → IsPrefixOf xs ys
prefix_within [] ys zs prefix l = (ys, refl)
prefix_within (x ∷ xs) [] zs prefix l = absurd (omega (arith, l))
prefix_within (x ∷ xs) (y ∷ ys) zs (rest, e) l =
    let tail = prefix_within xs ys zs (rest, ap (drop 1) e) (omega (arith, l)) in
    let head : y ≡ x = ap (λ (l : List Line). head_or y l) e in
    (tail.0, ap (λ (z : Line). z ∷ ys) head ∙ ap (λ (l : List Line). x ∷ l) tail.1)
  where
    head_or : Line → List Line → Line
    head_or d [] = d
    head_or d (z ∷ zs) = z
