-- Words that are texts, one after another.
use Rattle.std.proofs.Common.{◌≡◌, ◌+◌, ◌<◌, ◌≤◌, ◌++◌, ℕ, List, [], ◌∷◌, length, take, get_or, map, sym, ap, ◌∙◌, subst, arith}
use Rattle.std.specs.Prelude.{All, IsUtf8}
use Rattle.std.proofs.lemmas.List.{get_or-map, length-map, map-append, take_all, take_more}
use Rattle.std.proofs.lemmas.List.Elements.{All-more}

module _ {X : Type 0} (f : X → List ℕ) where
  -- one of them is no text
  pub word_fails : (xs : List X) (i : ℕ) (d : X) → i < length xs → (IsUtf8 (f (get_or xs i d)) → ⊥) → All IsUtf8 (map f xs) → ⊥
  word_fails xs i d within fails all =
      fails (subst IsUtf8 (get_or-map f xs i d (f d) within) (all i (f d) (omega (arith, within, length-map xs f))))

  -- one more of them is one
  pub word_next : (xs : List X) (i : ℕ) (d : X) → i < length xs → IsUtf8 (f (get_or xs i d)) → All IsUtf8 (take i (map f xs)) → All IsUtf8 (take (i + 1) (map f xs))
  word_next xs i d within is all =
      All-more IsUtf8 (map f xs) i (f d) (omega (arith, within, length-map xs f)) all (subst IsUtf8 (sym (get_or-map f xs i d (f d) within)) is)

  -- all of them are
  pub words_end : (xs : List X) (i : ℕ) → length xs ≤ i → All IsUtf8 (take i (map f xs)) → All IsUtf8 (map f xs)
  words_end xs i end all = subst (All IsUtf8) (take_all i (map f xs) (omega (arith, end, length-map xs f))) all

  -- the texts of some of them, and of one more
  pub text_next : {S : Type 0} (g : S → List ℕ) (ts : List S) (t : S) (xs : List X) (i : ℕ) (d : X) → i < length xs → g t ≡ f (get_or xs i d)
      → map g ts ≡ take i (map f xs) → map g (ts ++ t ∷ []) ≡ take (i + 1) (map f xs)
  text_next g ts t xs i d within is so_far =
      map-append g ts (t ∷ []) ∙ ap (λ (l : List (List ℕ)). l ++ g t ∷ []) so_far
      ∙ ap (λ (x : List ℕ). take i (map f xs) ++ x ∷ []) (is ∙ sym (get_or-map f xs i d (f d) within))
      ∙ sym (take_more (map f xs) i (f d) (omega (arith, within, length-map xs f)))
