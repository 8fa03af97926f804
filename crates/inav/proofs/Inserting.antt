-- The elements of a set of keys after an insertion.
use Rattle.std.proofs.Common.{◌≡◌, ℕ, ◌⊎◌, ◌↔◌, Bool, true, false, cond, inl, inr, refl, sym, ap, subst, ◌∙◌, ⊎_elim}
use Rattle.std.proofs.lemmas.Bool.{cases_Bool, cond-true, cond-false, true≢false}
use Rattle.std.proofs.lemmas.Map.Views.{btree_set_contains_iff}
use Rattle.std.specs.Prelude.{Contains, IsTrue, not}
use Rattle.std.specs.BTreeSet.{BTreeSet, contains, Updates}
use Rattle.std.specs.Cmp.{Equal-is}
use Rattle.std.specs.Ordering.{is_eq}
use Rattle.inav.specs.Mirrors.{key_cmp}
use Rattle.inav.proofs.KeyOrder.{key_cmp_total, key_cmp_exact, key_cmp_same}

pub in_set : (s : BTreeSet (ℕ × ℕ)) (q : ℕ × ℕ) → Contains s.keys q → contains key_cmp s q ≡ true
in_set s q h = (btree_set_contains_iff key_cmp_total key_cmp_exact s q).1 h

pub set_in : (s : BTreeSet (ℕ × ℕ)) (q : ℕ × ℕ) → contains key_cmp s q ≡ true → Contains s.keys q
set_in s q h = (btree_set_contains_iff key_cmp_total key_cmp_exact s q).0 h

-- the elements before, and the key
pub in_inserted : (old new : BTreeSet (ℕ × ℕ)) (key : ℕ × ℕ) → Updates key_cmp old new key true → (q : ℕ × ℕ) → Contains new.keys q ↔ (Contains old.keys q ⊎ (key ≡ q))
in_inserted old new key updates q =
    let is : contains key_cmp new q ≡ cond (is_eq (key_cmp key q)) true (contains key_cmp old q) = updates.0 q in (
      λ h. ⊎_elim
          (λ (here : is_eq (key_cmp key q) ≡ true). inr (key_cmp_exact key q ((Equal-is (key_cmp key q)).0 here)))
          (λ (apart : is_eq (key_cmp key q) ≡ false). inl (set_in old q (sym (cond-false (is_eq (key_cmp key q)) true (contains key_cmp old q) apart) ∙ sym is ∙ in_set new q h)))
          (cases_Bool (is_eq (key_cmp key q))),
      λ h. set_in new q (is ∙ ⊎_elim
          (λ (here : is_eq (key_cmp key q) ≡ true). cond-true (is_eq (key_cmp key q)) true (contains key_cmp old q) here)
          (λ (apart : is_eq (key_cmp key q) ≡ false).
          cond-false (is_eq (key_cmp key q)) true (contains key_cmp old q) apart
          ∙ ⊎_elim
          (λ (was : Contains old.keys q). in_set old q was)
          (λ (same : key ≡ q). sym (cond-false (is_eq (key_cmp key q)) true (contains key_cmp old q) apart)
          ∙ cond-true (is_eq (key_cmp key q)) true (contains key_cmp old q) (ap is_eq (key_cmp_same key q same)))
          h)
          (cases_Bool (is_eq (key_cmp key q)))),
    )

-- a key that an insertion does not add was there
added_or_there : (b added : Bool) → added ≡ not b → (IsTrue (not added) → b ≡ true) × (b ≡ true → IsTrue (not added))
added_or_there true added e = (λ h. refl, λ h. subst (λ (a : Bool). IsTrue (not a)) (sym e) refl)
added_or_there false added e = (λ h. subst (λ (a : Bool). IsTrue (not a)) e h, λ h. absurd (true≢false (sym h)))

pub there_not_added : (s : BTreeSet (ℕ × ℕ)) (key : ℕ × ℕ) (added : Bool) → added ≡ not (contains key_cmp s key)
    → IsTrue (not added) ↔ Contains s.keys key
there_not_added s key added e =
    let is = added_or_there (contains key_cmp s key) added e in
    (λ h. set_in s key (is.0 h), λ h. is.1 (in_set s key h))
