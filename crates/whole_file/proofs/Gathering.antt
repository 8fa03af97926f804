-- The bytes of a buffer that are written, and the rest of them.
use Rattle.std.proofs.Common.{◌≡◌, ◌+◌, ◌-◌, ℕ, List, ◌++◌, length, take, drop, Option, None, Some, sym, ap, ◌∙◌, append_assoc}
use Rattle.std.proofs.lemmas.List.{drop-drop, take-append-drop, take_rest}
use Rattle.std.specs.Io.KnownBytes.{Appends, Keeps, append_known}

-- this many more bytes are written
pub out_more : (whole old new : Option (List ℕ)) (kept : List ℕ) (out n : ℕ) → Keeps whole (append_known old (drop out kept))
    → Appends old new (take n (drop out kept)) → Keeps whole (append_known new (drop (out + n) kept))
out_more None old new kept out n h k = tt
out_more (Some xs) None new kept out n h k = absurd h
out_more (Some xs) (Some ys) None kept out n h k = k
out_more (Some xs) (Some ys) (Some zs) kept out n h k =
    ap (λ (s : List ℕ). s ++ drop (out + n) kept) k ∙ append_assoc ys (take n (drop out kept)) (drop (out + n) kept)
    ∙ ap (λ (s : List ℕ). ys ++ s) (ap (λ (s : List ℕ). take n (drop out kept) ++ s) (sym (drop-drop n out kept)) ∙ take-append-drop n (drop out kept))
    ∙ h

-- the same, of the kept bytes as a slice has them
pub out_seen : (whole old new : Option (List ℕ)) (kept seen : List ℕ) (out n : ℕ) → seen ≡ kept → Keeps whole (append_known old (drop out kept))
    → Appends old new (take n (take (length seen - out) (drop out seen))) → Keeps whole (append_known new (drop (out + n) kept))
out_seen whole old new kept seen out n e h k =
    out_more whole old new kept out n h (rw (take_rest seen out, e) at k)
