-- A piece is fed a part at a time.
use Rattle.std.proofs.Common.{◌≡◌, ◌+◌, ℕ, List, ◌++◌, take, drop, true, subst, sym, ap, ◌∙◌, append_assoc}
use Rattle.std.specs.Prelude.{Option}
use Rattle.std.proofs.lemmas.List.{take-append-drop}
use Rattle.std.proofs.Math.Seq.{take-add}
use Rattle.streams.specs.FrameRuns.{Goes, Breaks}
use Rattle.streams.proofs.Goings.{goes_on, goes_fed}
use Rattle.streams.proofs.Breakings.{breaks_on, breaks_fed}

-- a part more was fed
fed_more : (rest piece : List ℕ) (i n : ℕ) → (rest ++ take i piece) ++ take n (drop i piece) ≡ rest ++ take (i + n) piece
fed_more rest piece i n = append_assoc rest (take i piece) (take n (drop i piece)) ∙ ap (λ (l : List ℕ). rest ++ l) (sym (take-add i n piece))

pub goes_part : (line : List ℕ → List ℕ) (rest piece now after : List ℕ) (i n : ℕ) (u v w : Option (List ℕ)) (k m l : ℕ)
    → Goes line true (rest ++ take i piece) now u v k m → Goes line true (now ++ take n (drop i piece)) after v w m l
    → Goes line true (rest ++ take (i + n) piece) after u w k l
goes_part line rest piece now after i n u v w k m l before part =
    goes_on line true _ (now ++ take n (drop i piece)) after u v w k m l
    (subst (λ (b : List ℕ). Goes line true b (now ++ take n (drop i piece)) u v k m) (fed_more rest piece i n)
    (goes_fed line (rest ++ take i piece) now (take n (drop i piece)) u v k m before))
    part

-- what is left of a part that was fed
pub breaks_rest : (line : List ℕ → List ℕ) (rest piece : List ℕ) (n : ℕ) (v w : Option (List ℕ))
    → Breaks line true (rest ++ take n piece) v w → Breaks line true (rest ++ piece) v w
breaks_rest line rest piece n v w broken =
    let whole : (rest ++ take n piece) ++ drop n piece ≡ rest ++ piece =
    append_assoc rest (take n piece) (drop n piece) ∙ ap (λ (l : List ℕ). rest ++ l) (take-append-drop n piece) in
    subst (λ (l : List ℕ). Breaks line true l v w) whole (breaks_fed line (rest ++ take n piece) (drop n piece) v w broken)

pub breaks_part : (line : List ℕ → List ℕ) (rest piece now : List ℕ) (i : ℕ) (u v w : Option (List ℕ)) (k m : ℕ)
    → Goes line true (rest ++ take i piece) now u v k m → Breaks line true (now ++ drop i piece) v w
    → Breaks line true (rest ++ piece) u w
breaks_part line rest piece now i u v w k m before part =
    let whole : (rest ++ take i piece) ++ drop i piece ≡ rest ++ piece =
    append_assoc rest (take i piece) (drop i piece) ∙ ap (λ (l : List ℕ). rest ++ l) (take-append-drop i piece) in
    subst (λ (l : List ℕ). Breaks line true l u w) whole
    (breaks_on line true _ (now ++ drop i piece) u v w k m
    (goes_fed line (rest ++ take i piece) now (drop i piece) u v k m before) part)
