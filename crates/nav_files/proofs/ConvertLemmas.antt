-- What is written and reported of records of a file that is converted, with a record more.
use Rattle.std.proofs.Common.{◌≡◌, ℕ, List, [], ◌∷◌, ◌++◌, sym, ap, subst, ◌∙◌, append_assoc, append-nil}
use Rattle.std.specs.Prelude.{Option}
use Rattle.std.specs.List.{flat_map}
use Rattle.std.specs.Io.KnownBytes.{Appends}
use Rattle.std.proofs.KnownBytes.{Appends-trans}
use Rattle.std.proofs.lemmas.Grind.{flat_map-append}
use Rattle.nav_io.specs.Prefix.{AppendsPrefix, IsPrefix}
use Rattle.one_run.specs.Runs.{AppendsBetween}
use Rattle.one_run.proofs.Surface.{between_behind, prefix_same}

-- the texts of elements with one more
pub texts_more : {X : Type 0} (text : X → List ℕ) (xs : List X) (x : X) → flat_map text (xs ++ x ∷ []) ≡ flat_map text xs ++ text x
texts_more text xs x = flat_map-append text xs (x ∷ []) ∙ ap (λ (l : List ℕ). flat_map text xs ++ l) (append-nil (text x))

-- after a prefix
behind : {X : Type 0} (prefix : List ℕ) (text : X → List ℕ) (xs : List X) (x : X) → prefix ++ flat_map text (xs ++ x ∷ []) ≡ (prefix ++ flat_map text xs) ++ text x
behind prefix text xs x = ap (λ (l : List ℕ). prefix ++ l) (texts_more text xs x) ∙ sym (append_assoc prefix (flat_map text xs) (text x))

pub grew_more : {X : Type 0} (prefix : List ℕ) (text : X → List ℕ) (xs : List X) (x : X) (start w w1 : Option (List ℕ))
    → Appends start w (prefix ++ flat_map text xs) → Appends w w1 (text x) → Appends start w1 (prefix ++ flat_map text (xs ++ x ∷ []))
grew_more prefix text xs x start w w1 so_far more = subst (Appends start w1) (sym (behind prefix text xs x)) (Appends-trans start w w1 _ _ so_far more)

-- ---- between what was written and all of it

-- all of a longer text
pub between_all : (start w : Option (List ℕ)) (some text : List ℕ) → IsPrefix some text → Appends start w text → AppendsBetween start w some text
between_all start w some text prefix whole = record { prefix = text; within = prefix_same text; no_less = prefix; grew = whole }

pub grew_between : {X : Type 0} (prefix : List ℕ) (text : X → List ℕ) (xs : List X) (x : X) (start w w1 : Option (List ℕ))
    → Appends start w (prefix ++ flat_map text xs) → AppendsPrefix w w1 (text x) → AppendsBetween start w1 (prefix ++ flat_map text xs) (prefix ++ flat_map text (xs ++ x ∷ []))
grew_between prefix text xs x start w w1 so_far more =
    subst (AppendsBetween start w1 (prefix ++ flat_map text xs)) (sym (behind prefix text xs x)) (between_behind start w w1 _ _ so_far more)
