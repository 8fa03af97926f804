-- Ends: at most one for a stamp, one for each stamp of a list, and those that later stamps keep.
use Rattle.std.proofs.Common.{◌≡◌, ℕ, zero, suc, ◌+◌, ◌<◌, ◌≤◌, ◌⊎◌, inl, inr, List, [], ◌∷◌, Option, Some, None, max, refl, sym, ap, ◌∙◌, arith}
use Rattle.std.proofs.lemmas.Bool.{cases_lt}
use Rattle.periods.specs.Ends.{IsEnd, IsEndOf, IsLaterSet}
use Rattle.periods.proofs.Membership.{In}

-- two sets are the same
pub record Same {X : Type 0} (one other : X → Type 0) : Type 0 where
  pub to : (x : X) → one x → other x
  pub from : (x : X) → other x → one x

pub same_sym : {X : Type 0} (a b : X → Type 0) → Same a b → Same b a
same_sym a b s = record { to = s.from; from = s.to }

pub IsEnd-same : (w : ℕ) (a b : ℕ → Type 0) (e : ℕ) → Same a b → IsEnd w a e → IsEnd w b e
IsEnd-same w a b e same h = record { heard = same.to e h.heard; quiet = λ s hs. h.quiet s (same.from s hs) }

pub IsEndOf-same : (w : ℕ) (a b : ℕ → Type 0) (e s : ℕ) → Same a b → IsEndOf w a e s → IsEndOf w b e s
IsEndOf-same w a b e s same h = record {
  is_end = IsEnd-same w a b e same h.is_end;
  after = h.after;
  first = λ o io. h.first o (IsEnd-same w b a o (same_sym a b same) io);
}

-- an end is the end of itself
pub own_end : (w : ℕ) (at : ℕ → Type 0) (e : ℕ) → IsEnd w at e → IsEndOf w at e e
own_end w at e h = record { is_end = h; after = omega arith; first = λ o io l. l }

-- a stamp has one end
pub IsEndOf-one : (w : ℕ) (at : ℕ → Type 0) (d e s : ℕ) → IsEndOf w at d s → IsEndOf w at e s → d ≡ e
IsEndOf-one w at d e s a b = omega (arith, a.first e b.is_end b.after, b.first d a.is_end a.after)

-- the end of a stamp is that of another one where no end lies between them
pub carried : (w : ℕ) (at : ℕ → Type 0) (e x y : ℕ) → IsEndOf w at e x
    → ((o : ℕ) → IsEnd w at o → x ≤ o → o < y → ⊥) → ((o : ℕ) → IsEnd w at o → y ≤ o → o < x → ⊥) → IsEndOf w at e y
carried w at e x y h up down = record {
  is_end = h.is_end;
  after = elim (cases_lt e y) [ inl l ↦ absurd (up e h.is_end h.after l) | inr l ↦ l ];
  first = λ o io l. elim (cases_lt o x) [ inl k ↦ absurd (down o io l k) | inr k ↦ h.first o io k ];
}

-- a later stamp up to the end has that end too
pub between : (w : ℕ) (at : ℕ → Type 0) (e x y : ℕ) → IsEndOf w at e x → x ≤ y → y ≤ e → IsEndOf w at e y
between w at e x y h l k = record { is_end = h.is_end; after = k; first = λ o io m. h.first o io (omega arith) }

-- the stamps have a greatest one, and after each number a next one within the window, or none
pub record IsKnown (window : ℕ) (received_at : ℕ → Type 0) : Type 0 where
  pub greatest : ℕ
  pub bound : (s : ℕ) → received_at s → s ≤ greatest
  pub next : (x : ℕ) → ((y : ℕ) × received_at y × (x < y) × (y ≤ x + window)) ⊎ ((y : ℕ) → received_at y → x < y → x + window < y)

pub IsKnown-same : (w : ℕ) (a b : ℕ → Type 0) → Same a b → IsKnown w a → IsKnown w b
IsKnown-same w a b same k = record {
  greatest = k.greatest;
  bound = λ s h. k.bound s (same.from s h);
  next = λ x. elim (k.next x) [ inl n ↦ inl (n.0, same.to n.0 n.1, n.2, n.3) | inr q ↦ inr (λ y h. q y (same.from y h)) ];
}

-- a stamp after the next one
next_end : (w : ℕ) (at : ℕ → Type 0) (e s y : ℕ) → s < y → y ≤ s + w → at y → IsEndOf w at e y → IsEndOf w at e s
next_end w at e s y l k hy h = carried w at e y s h (λ o io a b. absurd (omega arith)) (λ o io a b. omega (arith, io.quiet y hy b))

-- each stamp has an end
covered_by : (n w : ℕ) (at : ℕ → Type 0) (k : IsKnown w at) (s : ℕ) → at s → k.greatest < s + n → (e : ℕ) × IsEndOf w at e s
covered_by zero w at k s h l = absurd (omega (arith, k.bound s h))
covered_by (suc n) w at k s h l = elim (k.next s) [
  | inl y ↦ let r = covered_by n w at k y.0 y.1 (omega (arith, y.2)) in (r.0, next_end w at r.0 s y.0 y.2 y.3 y.1 r.1)
  | inr q ↦ (s, own_end w at s (record { heard = h; quiet = q }))
]

pub covered : (w : ℕ) (at : ℕ → Type 0) → IsKnown w at → (s : ℕ) → at s → (e : ℕ) × IsEndOf w at e s
covered w at k s h = covered_by (suc k.greatest) w at k s h (omega arith)

-- between a stamp and its end no gap is longer than the window
bridge_by : (n w : ℕ) (at : ℕ → Type 0) (k : IsKnown w at) (e z x : ℕ) → at z → IsEndOf w at e z → z ≤ x → x < e → x < z + n
    → (y : ℕ) × at y × IsEndOf w at e y × (x < y) × (y ≤ x + w)
bridge_by zero w at k e z x hz h l m b = absurd (omega arith)
bridge_by (suc n) w at k e z x hz h l m b = elim (k.next z) [
  | inl y ↦
      let low : y.0 ≤ e = elim (cases_lt e y.0) [ inl g ↦ absurd (omega (arith, h.is_end.quiet y.0 y.1 g, y.3)) | inr g ↦ g ] in
      let end_is = between w at e z y.0 h (omega (arith, y.2)) low in
      elim (cases_lt x y.0) [
        | inl g ↦ (y.0, y.1, end_is, g, omega (arith, y.3))
        | inr g ↦ bridge_by n w at k e y.0 x y.1 end_is g m (omega (arith, y.2))
      ]
  | inr q ↦ absurd (omega (arith, h.first z (record { heard = hz; quiet = q }) (omega arith)))
]

pub bridge : (w : ℕ) (at : ℕ → Type 0) (k : IsKnown w at) (e z x : ℕ) → at z → IsEndOf w at e z → z ≤ x → x < e
    → (y : ℕ) × at y × IsEndOf w at e y × (x < y) × (y ≤ x + w)
bridge w at k e z x hz h l m = bridge_by (suc x) w at k e z x hz h l m (omega arith)

-- whether a stamp is one of a list's elements is decidable
known_none : (w : ℕ) (at : ℕ → Type 0) → ((s : ℕ) → at s → ⊥) → IsKnown w at
known_none w at none = record { greatest = 0; bound = λ s h. absurd (none s h); next = λ x. inr (λ y h. absurd (none y h)) }

known_more : (w t : ℕ) (a b : ℕ → Type 0) → ((s : ℕ) → b s → (t ≡ s) ⊎ a s) → ((s : ℕ) → a s → b s) → b t → IsKnown w a → IsKnown w b
known_more w t a b cases keeps here k = record {
  greatest = max t k.greatest;
  bound = λ s h. elim (cases s h) [ inl e ↦ omega arith | inr o ↦ omega (arith, k.bound s o) ];
  next = λ x. elim (k.next x) [
    | inl n ↦ inl (n.0, keeps n.0 n.1, n.2, n.3)
    | inr q ↦ elim (cases_lt x t) [
      | inl l ↦ elim (cases_lt (x + w) t) [
        | inl far ↦ inr (λ y h g. elim (cases y h) [ inl e ↦ omega arith | inr o ↦ q y o g ])
        | inr near ↦ inl (t, here, l, near)
      ]
      | inr l ↦ inr (λ y h g. elim (cases y h) [ inl e ↦ absurd (omega arith) | inr o ↦ q y o g ])
    ]
  ];
}

-- a value read from some element of a list
abbrev pub ReadOf : {X V : Type 0} → (X → Option V) → List X → V → Type 0
ReadOf {X} read xs v = (x : X) × In xs x × (read x ≡ Some v)

known_at : {X : Type 0} (w : ℕ) (read : X → Option ℕ) (x : X) (xs : List X) (o : Option ℕ) → read x ≡ o → IsKnown w (ReadOf read xs) → IsKnown w (ReadOf read (x ∷ xs))
known_at w read x xs None e k = IsKnown-same w _ _ (record {
  to = λ s h. (h.0, inr h.1, h.2);
  from = λ s h. elim h.1 [ inl same ↦ absurd (let n : None ≡ Some s = sym e ∙ ap read same ∙ h.2 in cc) | inr there ↦ (h.0, there, h.2) ];
}) k
known_at w read x xs (Some t) e k = known_more w t (ReadOf read xs) (ReadOf read (x ∷ xs))
    (λ s h. elim h.1 [ inl same ↦ inl (let n : Some t ≡ Some s = sym e ∙ ap read same ∙ h.2 in cc) | inr there ↦ inr (h.0, there, h.2) ])
    (λ s h. (h.0, inr h.1, h.2)) (x, inl refl, e) k

pub known_list : {X : Type 0} (w : ℕ) (read : X → Option ℕ) (xs : List X) → IsKnown w (ReadOf read xs)
known_list w read [] = known_none w _ (λ s h. h.1)
known_list w read (x ∷ xs) = known_at w read x xs (read x) refl (known_list w read xs)

-- later stamps keep the ends that are closed at the watermark, with their stamps
pub IsEnd-later : (w watermark : ℕ) (old new : ℕ → Type 0) (e : ℕ) → IsLaterSet watermark old new → e + w < watermark → IsEnd w old e → IsEnd w new e
IsEnd-later w watermark old new e later low h = record {
  heard = later.keeps e h.heard;
  quiet = λ s hs l. elim (later.later s hs) [ inl o ↦ h.quiet s o l | inr m ↦ omega arith ];
}

pub IsEnd-was : (w watermark : ℕ) (old new : ℕ → Type 0) (e : ℕ) → IsLaterSet watermark old new → e < watermark → IsEnd w new e → IsEnd w old e
IsEnd-was w watermark old new e later low h = record {
  heard = elim (later.later e h.heard) [ inl o ↦ o | inr m ↦ absurd (omega arith) ];
  quiet = λ s hs. h.quiet s (later.keeps s hs);
}

pub IsEndOf-later : (w watermark : ℕ) (old new : ℕ → Type 0) (e s : ℕ) → IsLaterSet watermark old new → e + w < watermark → IsEndOf w old e s → IsEndOf w new e s
IsEndOf-later w watermark old new e s later low h = record {
  is_end = IsEnd-later w watermark old new e later low h.is_end;
  after = h.after;
  first = λ o io l. elim (cases_lt o e) [
    | inl k ↦ h.first o (IsEnd-was w watermark old new o later (omega arith) io) l
    | inr k ↦ k
  ];
}

pub IsEndOf-was : (w watermark : ℕ) (old new : ℕ → Type 0) (e s : ℕ) → IsLaterSet watermark old new → e + w < watermark → IsEndOf w new e s → IsEndOf w old e s
IsEndOf-was w watermark old new e s later low h = record {
  is_end = IsEnd-was w watermark old new e later (omega arith) h.is_end;
  after = h.after;
  first = λ o io l. elim (cases_lt o e) [
    | inl k ↦ h.first o (IsEnd-later w watermark old new o later (omega arith) io) l
    | inr k ↦ k
  ];
}
