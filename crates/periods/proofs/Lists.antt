-- The laws of ends for the stamps of a list.
use Rattle.std.proofs.Common.{◌≡◌, ℕ, ◌≤◌, inl, inr, List, [], ◌∷◌, ◌++◌, Some, All, Contains, refl, subst}
use Rattle.std.proofs.lemmas.List.Elements.{All-contains, Contains-append_left, Contains-append_cases, Contains-push, Contains-push_cases}
use Rattle.periods.specs.Ends.{IsLaterSet}
use Rattle.periods.specs.Joining.{IsWith}
use Rattle.periods.proofs.Membership.{In, In-from_contains, contains_from_In}
use Rattle.periods.proofs.EndLemmas.{IsKnown, IsKnown-same, ReadOf, known_list}

pub known_stamps : (w : ℕ) (stamps : List ℕ) → IsKnown w (Contains stamps)
known_stamps w stamps = IsKnown-same w (ReadOf (λ (s : ℕ). Some s) stamps) (Contains stamps) (record {
  to = λ s h. contains_from_In stamps s (let e : h.0 ≡ s = let f : Some h.0 ≡ Some s = h.2 in cc in subst (λ (x : ℕ). In stamps x) e h.1);
  from = λ s h. (s, In-from_contains stamps s h, refl);
}) (known_list w (λ (s : ℕ). Some s) stamps)

pub with_stamp : (stamps : List ℕ) (s : ℕ) → IsWith (Contains stamps) (Contains (stamps ++ s ∷ [])) s
with_stamp stamps s = record {
  keeps = λ x h. Contains-append_left stamps (s ∷ []) x h;
  has = Contains-push stamps s;
  only = λ x h. Contains-push_cases stamps s x h;
}

pub later_list : (watermark : ℕ) (stamps later : List ℕ) → All (λ s. watermark ≤ s) later → IsLaterSet watermark (Contains stamps) (Contains (stamps ++ later))
later_list watermark stamps later all = record {
  keeps = λ x h. Contains-append_left stamps later x h;
  later = λ x h. elim (Contains-append_cases stamps later x h) [
    | inl a ↦ inl a
    | inr b ↦ inr (All-contains (λ s. watermark ≤ s) later x all b)
  ];
}
