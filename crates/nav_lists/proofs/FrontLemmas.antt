-- Where what comes first in the rank differs, it decides the order.
use Rattle.std.proofs.Common.{◌≡◌, ℕ, ◌+◌, ◌*◌, ◌<◌, ℤ, pos, ◌∷◌, drop, min, refl, sym, ap, subst, ◌∙◌, arith}
use Rattle.std.specs.Cmp.Lexicographic.{slice_cmp}
use Rattle.std.specs.Ordering.{MatchOrdering, int_cmp, nat_cmp, ordering_then}
use Rattle.std.specs.declared.cmp.Ordering.{Ordering}
use Rattle.std.specs.declared.cmp.Ordering.TheVariants.{Less, Equal, Greater}
use Rattle.std.proofs.lemmas.Bool.Decides.{nat_tests}
use Rattle.std.proofs.lemmas.Cmp.{int_cmp_total, nat_cmp_total, ranked, tied_itself}
use Rattle.std.proofs.lemmas.Map.Lookups.{exact_unsigned}
use Rattle.nav_eph.specs.Ranks.{rank}
use Rattle.nav_eph.specs.Satellite.{place_of}
use Rattle.nav_eph.specs.declared.ion.IonContent.{IonContent}
use Rattle.nav_eph.specs.declared.ion.IonContent.TheVariants.{Gps as OfGps, Gal as OfGal}
use Rattle.nav_eph.specs.declared.items.NavItem.{NavItem}
use Rattle.nav_eph.specs.declared.items.NavItem.TheVariants.{Gps, Gal, Ion}
use Rattle.nav_eph.specs.declared.sat.System.{System}
use Rattle.nav_eph.specs.declared.sat.System.TheVariants.{Gps as GpsSystem, Gal as GalSystem}
use Rattle.nav_lists.specs.Fronts.{front_of, satellite_of}
use Rattle.nav_lists.specs.Merging.{by_rank, class_of, class_of_content, moment_of}

-- ---- numbers

less : (x y : ℕ) → x < y → nat_cmp x y ≡ Less
less x y h = at (nat_cmp x y) (ranked x y _ refl)
  where
    at : (o : Ordering) → MatchOrdering o (x < y) (x ≡ y) (y < x) → o ≡ Less
    at Less k = refl
    at Equal k = absurd (omega (arith, h, k))
    at Greater k = absurd (omega (arith, h, k))

greater : (x y : ℕ) → y < x → nat_cmp x y ≡ Greater
greater x y h = at (nat_cmp x y) (ranked x y _ refl)
  where
    at : (o : Ordering) → MatchOrdering o (x < y) (x ≡ y) (y < x) → o ≡ Greater
    at Less k = absurd (omega (arith, h, k))
    at Equal k = absurd (omega (arith, h, k))
    at Greater k = refl

equal : (x y : ℕ) → x ≡ y → nat_cmp x y ≡ Equal
equal x y h = ap (λ z. nat_cmp z y) h ∙ tied_itself nat_cmp_total y

pos_cmp : (x y : ℕ) → int_cmp (pos x) (pos y) ≡ nat_cmp x y
pos_cmp x y = grind (arith, nat_tests)

-- the digits of two numbers decide their order, the first that differ
digits : (m c s n m' c' s' n' : ℕ) → c < 4 → c' < 4 → s < 2 → s' < 2 → n < 64 → n' < 64
    → nat_cmp (((m * 4 + c) * 2 + s) * 64 + n) (((m' * 4 + c') * 2 + s') * 64 + n')
    ≡ ordering_then (ordering_then (ordering_then (nat_cmp m m') (nat_cmp c c')) (nat_cmp s s')) (nat_cmp n n')
digits m c s n m' c' s' n' h1 h2 h3 h4 h5 h6 =
    at (nat_cmp m m') (nat_cmp c c') (nat_cmp s s') (nat_cmp n n') (ranked m m' _ refl) (ranked c c' _ refl) (ranked s s' _ refl) (ranked n n' _ refl)
  where
    x : ℕ
    x = ((m * 4 + c) * 2 + s) * 64 + n

    y : ℕ
    y = ((m' * 4 + c') * 2 + s') * 64 + n'

    at : (o p q r : Ordering) → MatchOrdering o (m < m') (m ≡ m') (m' < m) → MatchOrdering p (c < c') (c ≡ c') (c' < c)
        → MatchOrdering q (s < s') (s ≡ s') (s' < s) → MatchOrdering r (n < n') (n ≡ n') (n' < n)
        → nat_cmp x y ≡ ordering_then (ordering_then (ordering_then o p) q) r
    at Less p q r a b d e = less x y (omega arith)
    at Greater p q r a b d e = greater x y (omega arith)
    at Equal Less q r a b d e = less x y (omega arith)
    at Equal Greater q r a b d e = greater x y (omega arith)
    at Equal Equal Less r a b d e = less x y (omega arith)
    at Equal Equal Greater r a b d e = greater x y (omega arith)
    at Equal Equal Equal Less a b d e = less x y (omega arith)
    at Equal Equal Equal Greater a b d e = greater x y (omega arith)
    at Equal Equal Equal Equal a b d e = equal x y (omega arith)

-- ---- the front of an item

class_small : (x : NavItem) → class_of x < 4
class_small (Gps e) = omega arith
class_small (Gal e) = omega arith
class_small (Ion e) = of_content e.content
  where
    of_content : (k : IonContent) → class_of_content k < 4
    of_content (OfGps x) = omega arith
    of_content (OfGal x) = omega arith

place_small : (s : System) → place_of s < 2
place_small GpsSystem = omega arith
place_small GalSystem = omega arith

-- the rank begins with the kind, which follows from the class, and the satellite
abbrev kind_of : ℕ → ℤ
kind_of c = pos (min c 2)

begins : (x : NavItem) → rank x ≡ kind_of (class_of x) ∷ pos (place_of (satellite_of x).system) ∷ pos (satellite_of x).number ∷ drop 3 (rank x)
begins (Gps e) = refl
begins (Gal e) = refl
begins (Ion e) = λ i. kind e.content i ∷ pos (place_of e.sat.system) ∷ pos e.sat.number ∷ drop 3 (rank (Ion e))
  where
    kind : (k : IonContent) → pos 2 ≡ kind_of (class_of_content k)
    kind (OfGps x) = refl
    kind (OfGal x) = refl

-- one comparison behind others
first : (m c k s f n rest r : Ordering) → (c ≡ Equal → k ≡ Equal) → (f ≡ Less → n ≡ Less) → (f ≡ Greater → n ≡ Greater)
    → r ≡ ordering_then k (ordering_then s (ordering_then n rest))
    → ordering_then m (ordering_then c r) ≡ ordering_then (ordering_then (ordering_then (ordering_then m c) s) f) r
first Less c k s f n rest r h i j e = refl
first Greater c k s f n rest r h i j e = refl
first Equal Less k s f n rest r h i j e = refl
first Equal Greater k s f n rest r h i j e = refl
first Equal Equal k s f n rest r h i j e = third s f (e ∙ ap (λ o. ordering_then o (ordering_then s (ordering_then n rest))) (h refl)) i j
  where
    third : (s f : Ordering) → r ≡ ordering_then s (ordering_then n rest) → (f ≡ Less → n ≡ Less) → (f ≡ Greater → n ≡ Greater) → r ≡ ordering_then (ordering_then s f) r
    third Less f e i j = e
    third Greater f e i j = e
    third Equal Less e i j = e ∙ ap (λ o. ordering_then o rest) (i refl)
    third Equal Equal e i j = refl
    third Equal Greater e i j = e ∙ ap (λ o. ordering_then o rest) (j refl)

-- where numbers that are cut at 63 differ, the numbers differ so
cut_less : (m n : ℕ) → nat_cmp (min m 63) (min n 63) ≡ Less → nat_cmp m n ≡ Less
cut_less m n h = let k : min m 63 < min n 63 = ranked (min m 63) (min n 63) Less (sym h) in less m n (omega (arith, k))

cut_greater : (m n : ℕ) → nat_cmp (min m 63) (min n 63) ≡ Greater → nat_cmp m n ≡ Greater
cut_greater m n h = let k : min n 63 < min m 63 = ranked (min m 63) (min n 63) Greater (sym h) in greater m n (omega (arith, k))

by_front : (a b : NavItem) → by_rank a b ≡ ordering_then (nat_cmp (front_of a) (front_of b)) (slice_cmp int_cmp (rank a) (rank b))
by_front a b =
    first (int_cmp (pos m) (pos m')) (int_cmp (pos c) (pos c')) (int_cmp (kind_of c) (kind_of c')) (int_cmp (pos s) (pos s')) cut (int_cmp (pos n) (pos n'))
    (slice_cmp int_cmp (drop 3 (rank a)) (drop 3 (rank b))) fields same (λ t. pos_cmp n n' ∙ cut_less n n' t) (λ t. pos_cmp n n' ∙ cut_greater n n' t)
    (λ i. slice_cmp int_cmp (begins a i) (begins b i))
    ∙ ap (λ o. ordering_then o fields) ((λ i. ordering_then (ordering_then (ordering_then (pos_cmp m m' i) (pos_cmp c c' i)) (pos_cmp s s' i)) cut)
    ∙ sym (digits m c s (min n 63) m' c' s' (min n' 63) (class_small a) (class_small b) (place_small (satellite_of a).system) (place_small (satellite_of b).system) (omega arith) (omega arith)))
  where
    m : ℕ
    m = moment_of a

    m' : ℕ
    m' = moment_of b

    c : ℕ
    c = class_of a

    c' : ℕ
    c' = class_of b

    s : ℕ
    s = place_of (satellite_of a).system

    s' : ℕ
    s' = place_of (satellite_of b).system

    n : ℕ
    n = (satellite_of a).number

    n' : ℕ
    n' = (satellite_of b).number

    cut : Ordering
    cut = nat_cmp (min n 63) (min n' 63)

    fields : Ordering
    fields = slice_cmp int_cmp (rank a) (rank b)

    same : int_cmp (pos c) (pos c') ≡ Equal → int_cmp (kind_of c) (kind_of c') ≡ Equal
    same t = subst (λ d. int_cmp (kind_of c) (kind_of d) ≡ Equal) (exact_unsigned c c' (sym (pos_cmp c c') ∙ t)) (tied_itself int_cmp_total (kind_of c))

-- the order of items whose fronts are compared first
pub fronts : (a b : NavItem) (p q : ℕ) (o : Ordering) → p ≡ front_of a → q ≡ front_of b → o ≡ nat_cmp p q → by_rank a b ≡ ordering_then o (slice_cmp int_cmp (rank a) (rank b))
fronts a b p q o e f g = by_front a b ∙ ap (λ r. ordering_then r (slice_cmp int_cmp (rank a) (rank b))) ((λ i. nat_cmp (sym e i) (sym f i)) ∙ sym g)
