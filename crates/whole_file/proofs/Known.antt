-- Known bytes, with those that were looked at in front.
use Rattle.std.proofs.Common.{◌≡◌, ◌+◌, ℕ, List, [], ◌++◌, take, drop, Option, None, Some, Result, refl, sym, ap, ◌∙◌, append_assoc}
use Rattle.std.proofs.lemmas.List.{drop-drop, take-append-drop}
use Rattle.std.specs.Io.KnownBytes.{Consumes, ReadConsumes, prepend_known}

pub prepend_none : (prefix : List ℕ) (known : Option (List ℕ)) → prefix ≡ [] → prepend_known prefix known ≡ known
prepend_none prefix None e = refl
prepend_none prefix (Some xs) e = ap (λ (s : List ℕ). Some (s ++ xs)) e

-- a read after a prefix that was given again
pub behind : {E : Type 0} (prefix : List ℕ) (old new : Option (List ℕ)) (r : Result ℕ E) (into : List ℕ) → prefix ≡ []
    → ReadConsumes old new r into → ReadConsumes (prepend_known prefix old) (prepend_known prefix new) r into
behind prefix old new r into e h = rw (prepend_none prefix old e, prepend_none prefix new e) h

-- bytes of the prefix that are given again
pub again : (known : Option (List ℕ)) (prefix into : List ℕ) (place n : ℕ) → take n into ≡ take n (drop place prefix)
    → Consumes (prepend_known (drop place prefix) known) (prepend_known (drop (place + n) prefix) known) (take n into)
again None prefix into place n e = tt
again (Some xs) prefix into place n e =
    ap (λ (s : List ℕ). s ++ xs) (sym (take-append-drop n (drop place prefix)) ∙ ap (λ (s : List ℕ). s ++ drop n (drop place prefix)) (sym e)
    ∙ ap (λ (s : List ℕ). take n into ++ s) (drop-drop n place prefix))
    ∙ append_assoc (take n into) (drop (place + n) prefix) xs
