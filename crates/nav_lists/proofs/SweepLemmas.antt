-- Sorted spans and the ranges that they are joined to.
use Rattle.std.proofs.Common.{◌≡◌, ℕ, ◌<◌, ◌≤◌, ◌==◌, ◌&&◌, Bool, true, false, cond, leb, List, [], ◌∷◌, ◌⊎◌, inl, inr, refl, sym, ap, subst, ◌∙◌, arith}
use Rattle.std.specs.BTreeSet.{insert_key}
use Rattle.std.specs.Ordering.{match_ordering, nat_cmp, ordering_reverse, ordering_then}
use Rattle.std.specs.declared.cmp.Ordering.{Ordering}
use Rattle.std.specs.declared.cmp.Ordering.TheVariants.{Less, Equal, Greater}
use Rattle.std.proofs.lemmas.Bool.Decides.{nat_tests}
use Rattle.nav_eph.specs.Satellite.{Satellite, IsBefore, place_of}
use Rattle.nav_eph.specs.declared.sat.System.{System}
use Rattle.nav_eph.specs.declared.sat.System.TheVariants.{Gps, Gal}
use Rattle.nav_lists.specs.declared.range.CoverRange.{CoverRange}
use Rattle.nav_lists.specs.Ranges.{InRange, by_place, by_place_total, is_of_one, touches, drawn_out, joined_from}

-- ---- satellites

pub before_through : (s t u : Satellite) → IsBefore s t → IsBefore t u → IsBefore s u
before_through s t u (inl h) (inl k) = inl (omega (arith, h, k))
before_through s t u (inl h) (inr k) = inl (subst (λ (y : System). place_of s.system < place_of y) k.0 h)
before_through s t u (inr h) (inl k) = inl (subst (λ (y : System). place_of y < place_of u.system) (sym h.0) k)
before_through s t u (inr h) (inr k) = inr (h.0 ∙ k.0, omega (arith, h.1, k.1))

pub not_before_itself : (s : Satellite) → IsBefore s s → ⊥
not_before_itself s (inl h) = omega (arith, h)
not_before_itself s (inr h) = omega (arith, h.1)

one_system : (a b : System) → place_of a ≡ place_of b → a ≡ b
one_system Gps Gps e = refl
one_system Gps Gal e = absurd (omega (arith, e))
one_system Gal Gps e = absurd (omega (arith, e))
one_system Gal Gal e = refl

pub one_sat : (s t : Satellite) → place_of s.system ≡ place_of t.system → s.number ≡ t.number → s ≡ t
one_sat s t e f =
    let h = one_system s.system t.system e in
    λ i. record { system = h i; number = f i }

sat_of_one : (a b : CoverRange) → is_of_one a b ≡ true → a.sat ≡ b.sat
sat_of_one a b h = one_sat a.sat b.sat (grind (arith, nat_tests)) (grind (arith, nat_tests))

itself_one : (p n : ℕ) → ((p == p) && (n == n)) ≡ true
itself_one p n = grind (arith, nat_tests)

one_of_sat : (a b : CoverRange) → a.sat ≡ b.sat → is_of_one a b ≡ true
one_of_sat a b e = subst (λ (s : Satellite). ((place_of a.sat.system == place_of s.system) && (a.sat.number == s.number)) ≡ true) e (itself_one (place_of a.sat.system) a.sat.number)

-- ---- touching

touch_true : (a b : CoverRange) → touches a b ≡ true → (a.sat ≡ b.sat) × (b.from ≤ a.to)
touch_true a b h = (sat_of_one a b (grind (arith, nat_tests)), grind (arith, nat_tests))

touch_false : (a b : CoverRange) → a.sat ≡ b.sat → touches a b ≡ false → a.to < b.from
touch_false a b e h =
    let k : is_of_one a b ≡ true = one_of_sat a b e in
    let l : leb b.from a.to ≡ false = ap (λ x. x && leb b.from a.to) (sym k) ∙ h in
    grind (arith, nat_tests)

-- ---- the order of starts

-- the second range starts no earlier than the first, or is of a later satellite
abbrev pub Upto : CoverRange → CoverRange → Type 0
Upto a b = IsBefore a.sat b.sat ⊎ ((a.sat ≡ b.sat) × (a.from ≤ b.from))

upto_through : (a b c : CoverRange) → Upto a b → Upto b c → Upto a c
upto_through a b c (inl h) (inl k) = inl (before_through a.sat b.sat c.sat h k)
upto_through a b c (inl h) (inr k) = inl (subst (λ (s : Satellite). IsBefore a.sat s) k.0 h)
upto_through a b c (inr h) (inl k) = inl (subst (λ (s : Satellite). IsBefore s c.sat) (sym h.0) k)
upto_through a b c (inr h) (inr k) = inr (h.0 ∙ k.0, omega (arith, h.1, k.1))

sats : (s t : Satellite) → IsBefore s t ⊎ ((s ≡ t) ⊎ IsBefore t s)
sats s t = at (cases (place_of s.system) (place_of t.system)) (cases s.number t.number)
  where
    cases : (x y : ℕ) → (x < y) ⊎ ((x ≡ y) ⊎ (y < x))
    cases x y = grind arith

    at : (place_of s.system < place_of t.system) ⊎ ((place_of s.system ≡ place_of t.system) ⊎ (place_of t.system < place_of s.system)) → (s.number < t.number) ⊎ ((s.number ≡ t.number) ⊎ (t.number < s.number)) → IsBefore s t ⊎ ((s ≡ t) ⊎ IsBefore t s)
    at (inl h) k = inl (inl h)
    at (inr (inr h)) k = inr (inr (inl h))
    at (inr (inl e)) (inl k) = inl (inr (one_system s.system t.system e, k))
    at (inr (inl e)) (inr (inl f)) = inr (inl (one_sat s t e f))
    at (inr (inl e)) (inr (inr k)) = inr (inr (inr (one_system t.system s.system (sym e), k)))

later_greater : (a b : CoverRange) → IsBefore b.sat a.sat → by_place a b ≡ Greater
later_greater a b (inl h) = grind (arith, nat_tests)
later_greater a b (inr h) =
    let e : place_of b.sat.system ≡ place_of a.sat.system = ap place_of h.0 in
    let l : b.sat.number < a.sat.number = h.1 in
    grind (arith, nat_tests)

from_less : (p n f g t u : ℕ) → ordering_then (nat_cmp p p) (ordering_then (nat_cmp n n) (ordering_then (nat_cmp f g) (nat_cmp t u))) ≡ Less → f ≤ g
from_less p n f g t u h = grind (arith, nat_tests)

greater_less : {P : Type 0} (o : Ordering) → o ≡ Greater → o ≡ Less → P
greater_less {P} o e f = absurd (no (sym e ∙ f))
  where
    no : Greater ≡ Less → ⊥
    no h = cc

pub less_upto : (a b : CoverRange) → by_place a b ≡ Less → Upto a b
less_upto a b h = at (sats a.sat b.sat)
  where
    at : IsBefore a.sat b.sat ⊎ ((a.sat ≡ b.sat) ⊎ IsBefore b.sat a.sat) → Upto a b
    at (inl k) = inl k
    at (inr (inl e)) = inr (
      e,
      from_less (place_of a.sat.system) a.sat.number a.from b.from a.to b.to
          (ap (λ (s : Satellite). ordering_then (nat_cmp (place_of a.sat.system) (place_of s.system)) (ordering_then (nat_cmp a.sat.number s.number) (ordering_then (nat_cmp a.from b.from) (nat_cmp a.to b.to)))) e ∙ h),
    )
    at (inr (inr k)) = greater_less (by_place a b) (later_greater a b k) h

-- spans that compare equal are equal
tied_numbers : (p q n l f g t u : ℕ) → ordering_then (nat_cmp p q) (ordering_then (nat_cmp n l) (ordering_then (nat_cmp f g) (nat_cmp t u))) ≡ Equal → (p ≡ q) × (n ≡ l) × (f ≡ g) × (t ≡ u)
tied_numbers p q n l f g t u h = (grind (arith, nat_tests), grind (arith, nat_tests), grind (arith, nat_tests), grind (arith, nat_tests))

pub one_range : (a b : CoverRange) → by_place a b ≡ Equal → a ≡ b
one_range a b h =
    let k = tied_numbers (place_of a.sat.system) (place_of b.sat.system) a.sat.number b.sat.number a.from b.from a.to b.to h in
    let e = one_sat a.sat b.sat k.0 k.1 in
    λ i. record { sat = e i; from = k.2 i; to = k.3 i }

-- ---- spans in order

-- each span starts no earlier than the one before, and is not empty
abbrev pub Rises : CoverRange → List CoverRange → Type 0
Rises start [] = Unit {0}
Rises start (x ∷ xs) = Upto start x × (x.from < x.to) × Rises x xs

abbrev pub Rising : List CoverRange → Type 0
Rising [] = Unit {0}
Rising (x ∷ xs) = (x.from < x.to) × Rises x xs

start_sooner : (a b : CoverRange) (xs : List CoverRange) → Upto a b → Rises b xs → Rises a xs
start_sooner a b [] l r = tt
start_sooner a b (x ∷ xs) l r = (upto_through a b x l r.0, r.1, r.2)

drawn_rises : (a b : CoverRange) (xs : List CoverRange) → Rises a xs → Rises (drawn_out a b) xs
drawn_rises a b [] r = tt
drawn_rises a b (x ∷ xs) r = r

rises_insert : (start : CoverRange) (xs : List CoverRange) (k : CoverRange) → Rises start xs → Upto start k → k.from < k.to → Rises start (insert_key by_place xs k)
rises_insert start [] k r l f = (l, f, tt)
rises_insert start (x ∷ xs) k r l f = at (rises_insert x xs k r.2) (by_place k x) refl
  where
    at : (Upto x k → k.from < k.to → Rises x (insert_key by_place xs k)) → (o : Ordering) → by_place k x ≡ o → Rises start (match_ordering o (k ∷ x ∷ xs) (x ∷ xs) (x ∷ insert_key by_place xs k))
    at g Less e = (l, f, (less_upto k x e, r.1, r.2))
    at g Equal e = r
    at g Greater e = (r.0, r.1, g (less_upto x k (by_place_total.antisymm x k ∙ ap ordering_reverse e)) f)

pub rising_insert : (xs : List CoverRange) (k : CoverRange) → Rising xs → k.from < k.to → Rising (insert_key by_place xs k)
rising_insert [] k r f = (f, tt)
rising_insert (x ∷ xs) k r f = at (by_place k x) refl
  where
    at : (o : Ordering) → by_place k x ≡ o → Rising (match_ordering o (k ∷ x ∷ xs) (x ∷ xs) (x ∷ insert_key by_place xs k))
    at Less e = (f, (less_upto k x e, r.0, r.1))
    at Equal e = r
    at Greater e = (r.0, rises_insert x xs k r.1 (less_upto x k (by_place_total.antisymm x k ∙ ap ordering_reverse e)) f)

-- ---- the seconds in some ranges

abbrev pub Lies : List CoverRange → Satellite → ℕ → Type 0
Lies [] sat m = ⊥
Lies (x ∷ xs) sat m = InRange x sat m ⊎ Lies xs sat m

pub lies_put : (xs : List CoverRange) (k : CoverRange) (sat : Satellite) (m : ℕ) → Lies xs sat m ⊎ InRange k sat m → Lies (insert_key by_place xs k) sat m
lies_put [] k sat m (inl h) = absurd h
lies_put [] k sat m (inr h) = inl h
lies_put (x ∷ xs) k sat m h = at (lies_put xs k sat m) (by_place k x) refl h
  where
    at : (Lies xs sat m ⊎ InRange k sat m → Lies (insert_key by_place xs k) sat m) → (o : Ordering) → by_place k x ≡ o → Lies (x ∷ xs) sat m ⊎ InRange k sat m → Lies (match_ordering o (k ∷ x ∷ xs) (x ∷ xs) (x ∷ insert_key by_place xs k)) sat m
    at g Less e (inl i) = inr i
    at g Less e (inr i) = inl i
    at g Equal e (inl i) = i
    at g Equal e (inr i) = inl (subst (λ r. InRange r sat m) (one_range k x e) i)
    at g Greater e (inl (inl i)) = inl i
    at g Greater e (inl (inr i)) = inr (g (inl i))
    at g Greater e (inr i) = inr (g (inr i))

pub lies_back : (xs : List CoverRange) (k : CoverRange) (sat : Satellite) (m : ℕ) → Lies (insert_key by_place xs k) sat m → Lies xs sat m ⊎ InRange k sat m
lies_back [] k sat m (inl h) = inr h
lies_back [] k sat m (inr h) = absurd h
lies_back (x ∷ xs) k sat m h = at (lies_back xs k sat m) (by_place k x) h
  where
    lift : Lies xs sat m ⊎ InRange k sat m → Lies (x ∷ xs) sat m ⊎ InRange k sat m
    lift (inl i) = inl (inr i)
    lift (inr i) = inr i

    at : (Lies (insert_key by_place xs k) sat m → Lies xs sat m ⊎ InRange k sat m) → (o : Ordering) → Lies (match_ordering o (k ∷ x ∷ xs) (x ∷ xs) (x ∷ insert_key by_place xs k)) sat m → Lies (x ∷ xs) sat m ⊎ InRange k sat m
    at g Less (inl i) = inr i
    at g Less (inr i) = inl i
    at g Equal i = inl i
    at g Greater (inl i) = inl (inl i)
    at g Greater (inr i) = lift (g i)

-- joining spans keeps their seconds
drawn_to : (a b : CoverRange) (sat : Satellite) (m : ℕ) → a.sat ≡ b.sat → b.from ≤ a.to → InRange (drawn_out a b) sat m → InRange a sat m ⊎ InRange b sat m
drawn_to a b sat m e t h = at (cases m a.to)
  where
    cases : (x y : ℕ) → (x < y) ⊎ (y ≤ x)
    cases x y = grind arith

    at : (m < a.to) ⊎ (a.to ≤ m) → InRange a sat m ⊎ InRange b sat m
    at (inl l) = inl (h.0, h.1, l)
    at (inr l) = inr (sym e ∙ h.0, omega (arith, t, l), omega (arith, l, h.2))

drawn_from : (a b : CoverRange) (sat : Satellite) (m : ℕ) → Upto a b → a.sat ≡ b.sat → InRange a sat m ⊎ InRange b sat m → InRange (drawn_out a b) sat m
drawn_from a b sat m u e (inl h) = (h.0, h.1, omega (arith, h.2))
drawn_from a b sat m (inl k) e (inr h) = absurd (not_before_itself b.sat (subst (λ (s : Satellite). IsBefore s b.sat) e k))
drawn_from a b sat m (inr k) e (inr h) = (e ∙ h.0, omega (arith, k.1, h.1), omega (arith, h.2))

pub lies_to : (range : CoverRange) (rest : List CoverRange) (sat : Satellite) (m : ℕ) → Lies (joined_from range rest) sat m → InRange range sat m ⊎ Lies rest sat m
lies_to range [] sat m h = h
lies_to range (next ∷ rest) sat m h = at (lies_to (drawn_out range next) rest sat m) (lies_to next rest sat m) (touches range next) refl h
  where
    split : (touches range next ≡ true) → InRange (drawn_out range next) sat m ⊎ Lies rest sat m → InRange range sat m ⊎ (InRange next sat m ⊎ Lies rest sat m)
    split t (inr k) = inr (inr k)
    split t (inl k) = let e = touch_true range next t in elim (drawn_to range next sat m e.0 e.1 k) [ inl i ↦ inl i | inr i ↦ inr (inl i) ]

    at : (Lies (joined_from (drawn_out range next) rest) sat m → InRange (drawn_out range next) sat m ⊎ Lies rest sat m) → (Lies (joined_from next rest) sat m → InRange next sat m ⊎ Lies rest sat m)
        → (b : Bool) → touches range next ≡ b → Lies (cond b (joined_from (drawn_out range next) rest) (range ∷ joined_from next rest)) sat m → InRange range sat m ⊎ (InRange next sat m ⊎ Lies rest sat m)
    at f g true t k = split t (f k)
    at f g false t (inl k) = inl k
    at f g false t (inr k) = inr (g k)

pub lies_from : (range : CoverRange) (rest : List CoverRange) (sat : Satellite) (m : ℕ) → Rises range rest → InRange range sat m ⊎ Lies rest sat m → Lies (joined_from range rest) sat m
lies_from range [] sat m r h = h
lies_from range (next ∷ rest) sat m r h =
    at (lies_from (drawn_out range next) rest sat m (drawn_rises range next rest (start_sooner range next rest r.0 r.2))) (lies_from next rest sat m r.2) (touches range next) refl h
  where
    at : (InRange (drawn_out range next) sat m ⊎ Lies rest sat m → Lies (joined_from (drawn_out range next) rest) sat m) → (InRange next sat m ⊎ Lies rest sat m → Lies (joined_from next rest) sat m)
        → (b : Bool) → touches range next ≡ b → InRange range sat m ⊎ (InRange next sat m ⊎ Lies rest sat m) → Lies (cond b (joined_from (drawn_out range next) rest) (range ∷ joined_from next rest)) sat m
    at f g true t (inl k) = f (inl (drawn_from range next sat m r.0 (touch_true range next t).0 (inl k)))
    at f g true t (inr (inl k)) = f (inl (drawn_from range next sat m r.0 (touch_true range next t).0 (inr k)))
    at f g true t (inr (inr k)) = f (inr k)
    at f g false t (inl k) = inl k
    at f g false t (inr k) = inr (g k)

-- ---- the form of joined ranges

abbrev pub In : CoverRange → List CoverRange → Type 0
In m [] = ⊥
In m (x ∷ xs) = (m ≡ x) ⊎ In m xs

-- one range ends before the other starts, or is of an earlier satellite
abbrev pub Ends : CoverRange → CoverRange → Type 0
Ends a b = IsBefore a.sat b.sat ⊎ ((a.sat ≡ b.sat) × (a.to < b.from))

abbrev pub Apart : List CoverRange → Type 0
Apart [] = Unit {0}
Apart (x ∷ xs) = ((m : CoverRange) → In m xs → Ends x m) × Apart xs

pub record Formed (start : CoverRange) (xs : List CoverRange) : Type 0 where
  pub behind : (m : CoverRange) → In m xs → Upto start m
  pub filled : (m : CoverRange) → In m xs → m.from < m.to
  pub apart : Apart xs

gap : (range next m : CoverRange) → touches range next ≡ false → Upto range next → Upto next m → Ends range m
gap range next m t (inl h) (inl k) = inl (before_through range.sat next.sat m.sat h k)
gap range next m t (inl h) (inr k) = inl (subst (λ (s : Satellite). IsBefore range.sat s) k.0 h)
gap range next m t (inr h) (inl k) = inl (subst (λ (s : Satellite). IsBefore s m.sat) (sym h.0) k)
gap range next m t (inr h) (inr k) = let l = touch_false range next h.0 t in inr (h.0 ∙ k.0, omega (arith, l, k.1))

upto_itself : (a m : CoverRange) → m ≡ a → Upto a m
upto_itself a m e = subst (Upto a) (sym e) (inr (refl, omega arith))

pub formed : (range : CoverRange) (rest : List CoverRange) → range.from < range.to → Rises range rest → Formed range (joined_from range rest)
formed range [] f r = record {
  behind = behind;
  filled = filled;
  apart = (λ m h. absurd h, tt);
}
  where
    behind : (m : CoverRange) → In m (range ∷ []) → Upto range m
    behind m (inl e) = upto_itself range m e
    behind m (inr h) = absurd h

    filled : (m : CoverRange) → In m (range ∷ []) → m.from < m.to
    filled m (inl e) = subst (λ (x : CoverRange). x.from < x.to) (sym e) f
    filled m (inr h) = absurd h
formed range (next ∷ rest) f r =
    at (formed (drawn_out range next) rest (omega (arith, f)) (drawn_rises range next rest (start_sooner range next rest r.0 r.2))) (formed next rest r.1 r.2) (touches range next) refl
  where
    at : Formed (drawn_out range next) (joined_from (drawn_out range next) rest) → Formed next (joined_from next rest)
        → (b : Bool) → touches range next ≡ b → Formed range (cond b (joined_from (drawn_out range next) rest) (range ∷ joined_from next rest))
    at g h true t = record { behind = g.behind; filled = g.filled; apart = g.apart }
    at g h false t = record {
      behind = behind;
      filled = filled;
      apart = (λ m i. gap range next m t r.0 (h.behind m i), h.apart);
    }
      where
        behind : (m : CoverRange) → In m (range ∷ joined_from next rest) → Upto range m
        behind m (inl e) = upto_itself range m e
        behind m (inr i) = upto_through range next m r.0 (h.behind m i)

        filled : (m : CoverRange) → In m (range ∷ joined_from next rest) → m.from < m.to
        filled m (inl e) = subst (λ (x : CoverRange). x.from < x.to) (sym e) f
        filled m (inr i) = h.filled m i
