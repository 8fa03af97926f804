-- A format with two sync bytes and a header of fixed size has a heading.
use Rattle.std.proofs.Common.{◌≡◌, ℕ, ◌+◌, ◌<◌, ◌≤◌, ◌&&◌, nat_lt, nat_eq, Bool}
use Rattle.std.proofs.Common.{true, false, List, [], ◌∷◌, ◌++◌, length, get_or, refl, sym, ap, ◌∙◌}
use Rattle.std.proofs.Common.{inl, inr, arith, append-nil, length-append}
use Rattle.std.proofs.lemmas.Bool.{lt-ltb, le-ltb, cases_lt, ne_eqb}
use Rattle.std.proofs.lemmas.Bool.{both_ways}
use Rattle.std.proofs.lemmas.List.{get_or_append_left}
use Rattle.framing.specs.Headings.{IsHeading}
use Rattle.framing.specs.Syncs.{Sync, IsSync, begins_by, wanted_by, heading_by}

pub wanted_none : (s : Sync) (xs : List ℕ) → length xs < 1 → wanted_by s xs ≡ 1
unfolding wanted_by
wanted_none s xs h = let e : nat_lt (length xs) 1 ≡ true = lt-ltb _ _ h in rw e refl

pub wanted_one : (s : Sync) (xs : List ℕ) → 1 ≤ length xs → length xs < 2 → wanted_by s xs ≡ 2
unfolding wanted_by
wanted_one s xs some h =
    let e : nat_lt (length xs) 1 ≡ false = le-ltb _ _ some in
    let f : nat_lt (length xs) 2 ≡ true = lt-ltb _ _ h in
    rw (e, f) refl

pub wanted_few : (s : Sync) (xs : List ℕ) → 2 ≤ length xs → length xs < s.header
    → wanted_by s xs ≡ s.header
unfolding wanted_by
wanted_few s xs some h =
    let e : nat_lt (length xs) 1 ≡ false = le-ltb _ _ (omega arith) in
    let f : nat_lt (length xs) 2 ≡ false = le-ltb _ _ some in
    let g : nat_lt (length xs) s.header ≡ true = lt-ltb _ _ h in
    rw (e, f, g) refl

pub wanted_many : (s : Sync) (xs : List ℕ) → 2 ≤ length xs → s.header ≤ length xs
    → wanted_by s xs ≡ s.size xs
unfolding wanted_by
wanted_many s xs some h =
    let e : nat_lt (length xs) 1 ≡ false = le-ltb _ _ (omega arith) in
    let f : nat_lt (length xs) 2 ≡ false = le-ltb _ _ some in
    let g : nat_lt (length xs) s.header ≡ false = le-ltb _ _ h in
    rw (e, f, g) refl

pub begins_none : (s : Sync) (xs : List ℕ) → length xs < 1 → begins_by s xs ≡ true
unfolding begins_by
begins_none s xs h = let e : nat_lt (length xs) 1 ≡ true = lt-ltb _ _ h in rw e refl

pub begins_one : (s : Sync) (xs : List ℕ) → 1 ≤ length xs → length xs < 2
    → begins_by s xs ≡ (nat_eq (get_or xs 0 0) s.first && true)
unfolding begins_by
begins_one s xs some h =
    let e : nat_lt (length xs) 1 ≡ false = le-ltb _ _ some in
    let f : nat_lt (length xs) 2 ≡ true = lt-ltb _ _ h in
    rw (e, f) refl

pub begins_few : (s : Sync) (xs : List ℕ) → 2 ≤ length xs → length xs < s.header
    → begins_by s xs ≡ (nat_eq (get_or xs 0 0) s.first && (nat_eq (get_or xs 1 0) s.second && true))
unfolding begins_by
begins_few s xs some h =
    let e : nat_lt (length xs) 1 ≡ false = le-ltb _ _ (omega arith) in
    let f : nat_lt (length xs) 2 ≡ false = le-ltb _ _ some in
    let g : nat_lt (length xs) s.header ≡ true = lt-ltb _ _ h in
    rw (e, f, g) refl

pub begins_many : (s : Sync) (xs : List ℕ) → 2 ≤ length xs → s.header ≤ length xs
    → begins_by s xs ≡ (nat_eq (get_or xs 0 0) s.first
    && (nat_eq (get_or xs 1 0) s.second && s.fits xs))
unfolding begins_by
begins_many s xs some h =
    let e : nat_lt (length xs) 1 ≡ false = le-ltb _ _ (omega arith) in
    let f : nat_lt (length xs) 2 ≡ false = le-ltb _ _ some in
    let g : nat_lt (length xs) s.header ≡ false = le-ltb _ _ h in
    rw (e, f, g) refl

-- bytes whose first byte is not the first sync byte begin no message
pub begins_other : (s : Sync) (xs : List ℕ) → 1 ≤ length xs → nat_eq (get_or xs 0 0) s.first ≡ false
    → begins_by s xs ≡ false
unfolding begins_by
begins_other s xs some other = let e : nat_lt (length xs) 1 ≡ false = le-ltb _ _ some in
    rw (e, other) refl

-- nor do those whose second byte is not the second sync byte
pub begins_other_second : (s : Sync) (xs : List ℕ) → 2 ≤ length xs
    → nat_eq (get_or xs 1 0) s.second ≡ false → begins_by s xs ≡ false
unfolding begins_by
begins_other_second s xs some other =
    let e : nat_lt (length xs) 1 ≡ false = le-ltb _ _ (omega arith) in
    let f : nat_lt (length xs) 2 ≡ false = le-ltb _ _ some in
    rw (e, f, other) (false_behind (nat_eq (get_or xs 0 0) s.first))
  where
    false_behind : (b : Bool) → (b && false) ≡ false
    false_behind true = refl
    false_behind false = refl

no_more : (xs ys : List ℕ) → length ys < 1 → xs ++ ys ≡ xs
no_more xs [] h = append-nil xs
no_more xs (y ∷ ys) h = absurd (omega arith)

same_first : (xs ys : List ℕ) (i : ℕ) → i < length xs → get_or (xs ++ ys) i 0 ≡ get_or xs i 0
same_first xs ys i h = get_or_append_left xs ys 0 i h

refused_few : (s : Sync) (xs ys : List ℕ) → IsSync s → 2 ≤ length xs → length xs < s.header
    → begins_by s xs ≡ false
    → (first second : Bool) → nat_eq (get_or xs 0 0) s.first ≡ first
    → nat_eq (get_or xs 1 0) s.second ≡ second → begins_by s (xs ++ ys) ≡ false
refused_few s xs ys sync some few e false second f g =
    begins_other s (xs ++ ys) (omega (arith, length-append xs ys))
    (ap (λ n. nat_eq n s.first) (same_first xs ys 0 (omega arith)) ∙ f)
refused_few s xs ys sync some few e true false f g =
    begins_other_second s (xs ++ ys) (omega (arith, length-append xs ys))
    (ap (λ n. nat_eq n s.second) (same_first xs ys 1 (omega arith)) ∙ g)
refused_few s xs ys sync some few e true true f g =
    let both : begins_by s xs ≡ true = begins_few s xs some few ∙ (rw (f, g) refl) in
    absurd (both_ways _ e both)

same_begins_few : (s : Sync) (xs ys : List ℕ) → 2 ≤ length xs → length xs + length ys < s.header
    → begins_by s (xs ++ ys) ≡ begins_by s xs
same_begins_few s xs ys some few =
    begins_few s (xs ++ ys) (omega (arith, length-append xs ys))
    (omega (arith, length-append xs ys))
    ∙ (rw (same_first xs ys 0 (omega arith), same_first xs ys 1 (omega arith)) refl)
    ∙ sym (begins_few s xs some (omega arith))

same_begins_many : (s : Sync) (xs ys : List ℕ) → IsSync s → 2 ≤ length xs → s.header ≤ length xs
    → begins_by s (xs ++ ys) ≡ begins_by s xs
same_begins_many s xs ys sync some many =
    begins_many s (xs ++ ys) (omega (arith, length-append xs ys))
    (omega (arith, length-append xs ys))
    ∙ (rw (
      same_first xs ys 0 (omega arith),
      same_first xs ys 1
          (omega arith),
      sync.fits_prefix xs ys many,
    ) refl)
    ∙ sym (begins_many s xs some many)

same_wanted_many : (s : Sync) (xs ys : List ℕ) → IsSync s → 2 ≤ length xs → s.header ≤ length xs
    → wanted_by s (xs ++ ys) ≡ wanted_by s xs
same_wanted_many s xs ys sync some many =
    wanted_many s (xs ++ ys) (omega (arith, length-append xs ys))
    (omega (arith, length-append xs ys))
    ∙ sync.size_prefix xs ys many
    ∙ sym (wanted_many s xs some many)

-- a complete message has its complete header
pub whole_has_header : (s : Sync) (xs : List ℕ) → IsSync s → wanted_by s xs ≤ length xs
    → s.header ≤ length xs
whole_has_header s xs sync h =
    elim (cases_lt (length xs) 1) [
      | inl none ↦ absurd (omega (arith, wanted_none s xs none))
      | inr some ↦ elim (cases_lt (length xs) 2) [
        | inl one ↦ absurd (omega (arith, wanted_one s xs some one))
        | inr two ↦ elim (cases_lt (length xs) s.header) [
          | inl few ↦ absurd (omega (arith, wanted_few s xs two few))
          | inr many ↦ many
        ]
      ]
    ]

refused : (s : Sync) → IsSync s → (xs ys : List ℕ) → begins_by s xs ≡ false
    → begins_by s (xs ++ ys) ≡ false
refused s sync xs ys e =
    elim (cases_lt (length xs) 1) [
      | inl none ↦ absurd (both_ways _ e (begins_none s xs none))
      | inr some ↦ elim (cases_lt (length xs) 2) [
        | inl one ↦ begins_other s (xs ++ ys) (omega (arith, length-append xs ys))
            (ap (λ n. nat_eq n s.first) (same_first xs ys 0 (omega arith))
            ∙ other (nat_eq (get_or xs 0 0) s.first) (sym (begins_one s xs some one) ∙ e))
        | inr two ↦ elim (cases_lt (length xs) s.header) [
          | inl few ↦ refused_few s xs ys sync two few e _ _ refl refl
          | inr many ↦ same_begins_many s xs ys sync two many ∙ e
        ]
      ]
    ]
  where
    other : (b : Bool) → (b && true) ≡ false → b ≡ false
    other true h = h
    other false h = refl

waits : (s : Sync) → IsSync s → (xs ys : List ℕ) → begins_by s xs ≡ true
    → length xs + length ys < wanted_by s xs
    → (begins_by s (xs ++ ys) ≡ true) × (wanted_by s (xs ++ ys) ≡ wanted_by s xs)
waits s sync xs ys e short =
    elim (cases_lt (length xs) 1) [
      | inl none ↦ nothing (omega (arith, wanted_none s xs none))
      | inr some ↦ elim (cases_lt (length xs) 2) [
        | inl one ↦ nothing (omega (arith, wanted_one s xs some one))
        | inr two ↦ elim (cases_lt (length xs) s.header) [
          | inl few ↦ within two few
          | inr many ↦ (
            same_begins_many s xs ys sync two many
                ∙ e,
            same_wanted_many s xs ys sync two many,
          )
        ]
      ]
    ]
  where
    nothing : length ys < 1 → (begins_by s (xs ++ ys) ≡ true)
        × (wanted_by s (xs ++ ys) ≡ wanted_by s xs)
    nothing h = (ap (begins_by s) (no_more xs ys h) ∙ e, ap (wanted_by s) (no_more xs ys h))

    within : 2 ≤ length xs → length xs < s.header
        → (begins_by s (xs ++ ys) ≡ true) × (wanted_by s (xs ++ ys) ≡ wanted_by s xs)
    within two few =
        let less : length xs + length ys < s.header = omega (arith, wanted_few s xs two few) in (
          same_begins_few s xs ys two less ∙ e,
          wanted_few s (xs ++ ys) (omega (arith, length-append xs ys))
              (omega (arith, length-append xs ys)) ∙ sym (wanted_few s xs two few),
        )

bounds : (s : Sync) → IsSync s → (xs : List ℕ) → (0 < wanted_by s xs) × (wanted_by s xs ≤ s.longest)
bounds s sync xs =
    elim (cases_lt (length xs) 1) [
      | inl none ↦ (
        omega (arith, wanted_none s xs none),
        omega
            (arith, wanted_none s xs none, sync.two, sync.within),
      )
      | inr some ↦ elim (cases_lt (length xs) 2) [
        | inl one ↦ (
          omega (arith, wanted_one s xs some one),
          omega
              (arith, wanted_one s xs some one, sync.two, sync.within),
        )
        | inr two ↦ elim (cases_lt (length xs) s.header) [
          | inl few ↦ (
            omega (arith, wanted_few s xs two few, sync.two),
            omega
                (arith, wanted_few s xs two few, sync.within),
          )
          | inr many ↦ (
            omega (arith, wanted_many s xs two many, sync.some xs),
            omega
                (arith, wanted_many s xs two many, sync.most xs),
          )
        ]
      ]
    ]

pub sync_is_heading : (s : Sync) → IsSync s → IsHeading (heading_by s)
sync_is_heading s sync = record {
  starts = λ x xs other. begins_other s (x ∷ xs) (omega arith) (ne_eqb _ _ other);
  some = λ xs. (bounds s sync xs).0;
  most = λ xs. (bounds s sync xs).1;
  refused = refused s sync;
  whole = λ xs ys e h.
      let many = whole_has_header s xs sync h in
      let two : 2 ≤ length xs = omega (arith, sync.two) in
      (same_begins_many s xs ys sync two many ∙ e, same_wanted_many s xs ys sync two many);
  waits = waits s sync;
}
