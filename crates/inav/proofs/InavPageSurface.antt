-- Lemmas that other crates cite: laws on the words received, for any predicate on page parts, and the page parts of a word.
use Rattle.std.proofs.Common.{◌≡◌, ℕ, ◌<◌, Bool, true, false, List, [], ◌∷◌, ◌⊎◌, ◌↔◌, map, inl, inr, refl, sym, ap, ◌∙◌, ⊎_elim, arith}
use Rattle.std.proofs.lemmas.Bool.{true≢false}
use Rattle.inav.specs.declared.half.HalfKind.{HalfKind}
use Rattle.inav.specs.declared.half.HalfKind.TheVariants.{Even, Odd}
use Rattle.inav.specs.Pages.{kind_of}
use Rattle.inav.specs.Received.{StampedHalf, IsAbove, IsAscending, AreWordsWith, IsReceived, IsReceivedWith, word_with}
use Rattle.inav.proofs.Membership.{In, contains_from_In, In-from_contains}
pub use Rattle.inav.proofs.PageNumbers.{only_parts, parts_split}

abbrev is_odd : HalfKind → Bool
is_odd Even = false
is_odd Odd = true

-- no page part is both even and odd
pub not_both : (kind : HalfKind) → kind ≡ Even → kind ≡ Odd → ⊥
not_both kind even odd = true≢false (ap is_odd (sym odd ∙ even))

-- ---- uniqueness of the words

above : (bits : ℕ) (xs : List StampedHalf) (x : StampedHalf) → IsAbove bits xs → In xs x → bits < x.half
above bits [] x h there = absurd there
above bits (y ∷ ys) x h there =
    ⊎_elim (λ (here : y ≡ x). let e : y.half ≡ x.half = ap (λ z. z.half) here in omega (arith, h.0, e)) (λ (later : In ys x). above bits ys x h.1 later) there

-- ascending lists with the same members are equal
pub one_ascending : (xs ys : List StampedHalf) → IsAscending xs → IsAscending ys
    → ((x : StampedHalf) → In xs x → In ys x) → ((x : StampedHalf) → In ys x → In xs x) → xs ≡ ys
one_ascending [] [] a b f g = refl
one_ascending [] (y ∷ ys) a b f g = absurd (g y (inl refl))
one_ascending (x ∷ xs) [] a b f g = absurd (f x (inl refl))
one_ascending (x ∷ xs) (y ∷ ys) a b f g =
    let heads : y ≡ x =
    ⊎_elim
    (λ (here : y ≡ x). here)
    (λ (later : In ys x).
    ⊎_elim
    (λ (here : x ≡ y). sym here)
    (λ (later' : In xs y). absurd (omega (arith, above y.half ys x b.0 later, above x.half xs y a.0 later')))
    (g y (inl refl)))
    (f x (inl refl)) in
    let forth : (z : StampedHalf) → In xs z → In ys z = λ z h.
    ⊎_elim
    (λ (here : y ≡ z). let e : x.half ≡ z.half = ap (λ s. s.half) (sym heads ∙ here) in absurd (omega (arith, above x.half xs z a.0 h, e)))
    (λ (later : In ys z). later)
    (f z (inr h)) in
    let back : (z : StampedHalf) → In ys z → In xs z = λ z h.
    ⊎_elim
    (λ (here : x ≡ z). let e : y.half ≡ z.half = ap (λ s. s.half) (heads ∙ here) in absurd (omega (arith, above y.half ys z b.0 h, e)))
    (λ (later : In xs z). later)
    (g z (inr h)) in
    ap (λ z. z ∷ xs) (sym heads) ∙ ap (λ zs. y ∷ zs) (one_ascending xs ys a.1 b.1 forth back)

pub one_list_of : (among : StampedHalf → Type 0) (taken : StampedHalf) (words more : List (List ℕ))
    → AreWordsWith among taken words → AreWordsWith among taken more → words ≡ more
one_list_of among taken words more a b =
    a.words_are
    ∙ ap (map (word_with taken))
    (one_ascending a.partners b.partners a.ascending b.ascending
    (λ x h. In-from_contains b.partners x ((b.each x).1 ((a.each x).0 (contains_from_In a.partners x h))))
    (λ x h. In-from_contains a.partners x ((a.each x).1 ((b.each x).0 (contains_from_In b.partners x h)))))
    ∙ sym b.words_are

-- ---- one more page part

pub heard_with_one_more : (among : StampedHalf → Type 0) (taken even odd : StampedHalf)
    → IsReceived (λ half. (taken ≡ half) ⊎ among half) even odd ↔ (IsReceived among even odd ⊎ IsReceivedWith among taken even odd)
heard_with_one_more among taken even odd = (
  λ h. ⊎_elim
      (λ (first : taken ≡ even). ⊎_elim
      (λ (second : taken ≡ odd). absurd (not_both (kind_of even.half) h.make.is_even (ap (λ s. kind_of s.half) (sym first ∙ second) ∙ h.make.is_odd)))
      (λ (second : among odd). inr (h.make, inl (first, second)))
      h.odd_among)
      (λ (first : among even). ⊎_elim
      (λ (second : taken ≡ odd). inr (h.make, inr (first, second)))
      (λ (second : among odd). inl (record { even_among = first; odd_among = second; make = h.make }))
      h.odd_among)
      h.even_among,
  λ h. ⊎_elim
      (λ (was : IsReceived among even odd). record { even_among = inr was.even_among; odd_among = inr was.odd_among; make = was.make })
      (λ (new : IsReceivedWith among taken even odd). ⊎_elim
      (λ (first : (taken ≡ even) × among odd). record { even_among = inl first.0; odd_among = inr first.1; make = new.0 })
      (λ (second : among even × (taken ≡ odd)). record { even_among = inr second.0; odd_among = inl second.1; make = new.0 })
      new.1)
      h,
)

-- words received stay where page parts are added
pub still_heard : (among more : StampedHalf → Type 0) (even odd : StampedHalf)
    → ((half : StampedHalf) → among half → more half) → IsReceived among even odd → IsReceived more even odd
still_heard among more even odd all h = record {
  even_among = all even h.even_among;
  odd_among = all odd h.odd_among;
  make = h.make;
}
