-- Laws of the frames by recursion.
use Rattle.std.proofs.Common.{◌≡◌, ℕ, zero, suc, ◌-◌, ◌<◌, ◌≤◌, nat_lt, Bool, true, false, List, [], ◌∷◌, ◌++◌, length, take, drop, refl, sym, ap, arith}
use Rattle.std.proofs.lemmas.List.{take-append-le}
use Rattle.std.proofs.lemmas.Bool.{ltb-true}
use Rattle.framing.specs.Frames.{frame_size, is_open, frames_past, frames, open_past, after_first}
use Rattle.framing.proofs.FormLaws.{size-append, size_le}

-- the decided frames stay, past the first k bytes
abbrev Stay : List ℕ → List ℕ → ℕ → Type 0
Stay bytes more k = frames_past false (bytes ++ more) k ≡ frames_past true bytes k ++ frames_past false (open_past bytes k ++ more) 0

stay_at : (x : ℕ) (xs more : List ℕ) → ((k : ℕ) → k ≤ length xs → Stay xs more k)
    → (held : Bool) → is_open (x ∷ xs) ≡ held → (found : Bool) → nat_lt 0 (frame_size (x ∷ xs)) ≡ found → Stay (x ∷ xs) more 0
stay_at x xs more go true o found f = rw o refl
stay_at x xs more go false o true f =
    let size = size_le (x ∷ xs) in
    let same : take (frame_size (x ∷ xs)) (x ∷ (xs ++ more)) ≡ take (frame_size (x ∷ xs)) (x ∷ xs) = take-append-le (frame_size (x ∷ xs)) (x ∷ xs) more size in
    rw (size-append x xs more o, o, f, same) (ap (λ rest. take (frame_size (x ∷ xs)) (x ∷ xs) ∷ rest) (go (frame_size (x ∷ xs) - 1) (omega arith)))
stay_at x xs more go false o false f = rw (size-append x xs more o, o, f) (go 0 (omega arith))

pub frames_stay : (bytes more : List ℕ) (k : ℕ) → k ≤ length bytes → Stay bytes more k
frames_stay [] more zero h = refl
frames_stay [] more (suc k) h = absurd (omega arith)
frames_stay (x ∷ xs) more zero h = stay_at x xs more (frames_stay xs more) _ refl _ refl
frames_stay (x ∷ xs) more (suc k) h = frames_stay xs more k (omega arith)

-- passing the first bytes is looking at the rest
pub frames_past-drop : (more : Bool) (xs : List ℕ) (k : ℕ) → frames_past more xs k ≡ frames_past more (drop k xs) 0
frames_past-drop more [] zero = refl
frames_past-drop more [] (suc k) = refl
frames_past-drop more (x ∷ xs) zero = refl
frames_past-drop more (x ∷ xs) (suc k) = frames_past-drop more xs k

pub open_past-drop : (xs : List ℕ) (k : ℕ) → open_past xs k ≡ open_past (drop k xs) 0
open_past-drop [] zero = refl
open_past-drop [] (suc k) = refl
open_past-drop (x ∷ xs) zero = refl
open_past-drop (x ∷ xs) (suc k) = open_past-drop xs k

-- dropping a positive count from a list that begins with x
pub drop_first : {A : Type 0} (x : A) (xs : List A) (n : ℕ) → 0 < n → drop n (x ∷ xs) ≡ drop (n - 1) xs
drop_first x xs zero h = absurd (omega arith)
drop_first x xs (suc n) h = let same : suc n - 1 ≡ n = omega arith in rw same refl

abbrev pub After : List ℕ → Type 0
After bytes = frames (after_first bytes) ≡ drop 1 (frames bytes)

after_at : (x : ℕ) (xs : List ℕ) → After xs → (found : Bool) → nat_lt 0 (frame_size (x ∷ xs)) ≡ found → After (x ∷ xs)
after_at x xs go true f =
    let passed : drop (frame_size (x ∷ xs)) (x ∷ xs) ≡ drop (frame_size (x ∷ xs) - 1) xs = drop_first x xs (frame_size (x ∷ xs)) (ltb-true _ _ f) in
    rw (f, passed) (sym (frames_past-drop false xs (frame_size (x ∷ xs) - 1)))
after_at x xs go false f = rw f go

pub frames_after : (bytes : List ℕ) → After bytes
frames_after [] = refl
frames_after (x ∷ xs) = after_at x xs (frames_after xs) _ refl
