-- Lists as sets: membership in a list, and in a part of it.
use Rattle.std.proofs.Common.{◌≡◌, ℕ, zero, suc, ◌<◌, ◌⊎◌, ◌↔◌, List, [], ◌∷◌, Bool, slice_index_or, true, length, map, inl, inr, refl, sym, ap, ◌∙◌, ⊎_elim, arith}
use Rattle.std.proofs.lemmas.Bool.{cond_both, true≢false}
use Rattle.std.specs.List.{Contains, filter}

-- x is in the list
abbrev pub In : {X : Type 0} → List X → X → Type 0
In [] x = ⊥
In (y ∷ ys) x = (y ≡ x) ⊎ In ys x

module _ {X : Type 0} where
  pub contains_from_In : (xs : List X) (x : X) → In xs x → Contains xs x
  contains_from_In [] x h = absurd h
  contains_from_In (y ∷ ys) x h =
      ⊎_elim
      (λ (here : y ≡ x). (0, omega arith, here))
      (λ (later : In ys x). let there = contains_from_In ys x later in (suc there.0, omega (arith, there.1), there.2))
      h

  pub In-from_contains : (xs : List X) (x : X) → Contains xs x → In xs x
  In-from_contains [] x h = absurd (omega (arith, h.1))
  In-from_contains (y ∷ ys) x h =
      let P : ℕ → Type 0 = λ k. k < length (y ∷ ys) → slice_index_or (y ∷ ys) k x ≡ x → In (y ∷ ys) x in
      let at : (k : ℕ) → P k = λ k.
      elim k as P [
        | zero ↦ λ low e. inl e
        | suc j ↦ λ low e. inr (In-from_contains ys x (j, omega (arith, low), e))
      ] in
      at h.0 h.1 h.2

  -- membership in a list with one more element
  pub contains_cons : (y : X) (ys : List X) (x : X) → Contains (y ∷ ys) x ↔ ((y ≡ x) ⊎ Contains ys x)
  contains_cons y ys x = (
    λ h. ⊎_elim
        (λ (here : y ≡ x). inl here)
        (λ (later : In ys x). inr (contains_from_In ys x later))
        (In-from_contains (y ∷ ys) x h),
    λ h. contains_from_In (y ∷ ys) x
        (⊎_elim (λ (here : y ≡ x). inl here) (λ (later : Contains ys x). inr (In-from_contains ys x later)) h),
  )

  -- what a filter keeps
  pub filter_in : (p : X → Bool) (xs : List X) (x : X) → In (filter p xs) x → In xs x × (p x ≡ true)
  filter_in p [] x h = absurd h
  filter_in p (y ∷ ys) x h =
      let Q : List X → Type 0 = λ zs. In zs x → In (y ∷ ys) x × (p x ≡ true) in
      let step : In (filter p ys) x → In (y ∷ ys) x × (p x ≡ true) = λ later. let rest = filter_in p ys x later in (inr rest.0, rest.1) in
      cond_both (p y) (y ∷ filter p ys) (filter p ys) Q
      (λ passes. λ there. ⊎_elim (λ (here : y ≡ x). (inl here, sym (ap p here) ∙ passes)) step there)
      (λ fails. step) h

  pub in_filter : (p : X → Bool) (xs : List X) (x : X) → In xs x → p x ≡ true → In (filter p xs) x
  in_filter p [] x h passes = absurd h
  in_filter p (y ∷ ys) x h passes =
      let Q : List X → Type 0 = λ zs. In zs x in
      cond_both (p y) (y ∷ filter p ys) (filter p ys) Q
      (λ first. ⊎_elim (λ (here : y ≡ x). inl here) (λ (later : In ys x). inr (in_filter p ys x later passes)) h)
      (λ fails. ⊎_elim (λ (here : y ≡ x). absurd (true≢false (sym passes ∙ sym (ap p here) ∙ fails))) (λ (later : In ys x). in_filter p ys x later passes) h)

module _ {X Y : Type 0} (f : X → Y) where
  pub in_map : (xs : List X) (x : X) → In xs x → In (map f xs) (f x)
  in_map [] x h = absurd h
  in_map (y ∷ ys) x h = ⊎_elim (λ (here : y ≡ x). inl (ap f here)) (λ (later : In ys x). inr (in_map ys x later)) h

  pub map_in : (xs : List X) (y : Y) → In (map f xs) y → (x : X) × In xs x × (f x ≡ y)
  map_in [] y h = absurd h
  map_in (x ∷ xs) y h =
      ⊎_elim
      (λ (here : f x ≡ y). (x, inl refl, here))
      (λ (later : In (map f xs) y). let rest = map_in xs y later in (rest.0, inr rest.1, rest.2))
      h
