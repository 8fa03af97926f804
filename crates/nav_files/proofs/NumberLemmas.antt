-- The lines of the numbers of two items.
use Rattle.std.proofs.Common.{◌≡◌, ℕ, ◌+◌, ◌<◌, ◌≤◌, ◌&&◌, Bool, true, false, leb, ℤ, List, [], ◌∷◌, ◌++◌, length, map, refl, sym, ap, ◌∙◌, arith, get_or, drop, add-one, drop-cons, zero, suc, min}
use Rattle.std.specs.Prelude.{Option, None, Some}
use Rattle.nav_eph.specs.declared.ion.IonContent.{IonContent}
use Rattle.nav_eph.specs.declared.ion.IonContent.TheVariants.{Gps as OfGps, Gal as OfGal}
use Rattle.nav_eph.specs.declared.items.NavItem.{NavItem}
use Rattle.nav_eph.specs.declared.items.NavItem.TheVariants.{Gps, Gal, Ion}
use Rattle.nav_files.specs.Differences.{number_text, numbers_text}
use Rattle.nav_files.specs.DiffMirrors.{are_short}
use Rattle.nav_files.specs.Numbers.{content_names, names_of}

-- the names are short
content_short : (content : IonContent) → are_short (content_names content) ≡ true
content_short (OfGps x) = refl
content_short (OfGal x) = refl

pub names_short : (item : NavItem) → are_short (names_of item) ≡ true
names_short (Gps e) = refl
names_short (Gal e) = refl
names_short (Ion e) = content_short e.content

both_true : (a b : Bool) → (a && b) ≡ true → (a ≡ true) × (b ≡ true)
both_true true true e = (refl, refl)
both_true true false e = (refl, e)
both_true false b e = absurd (no e)
  where
    no : false ≡ true → ⊥
    no h = cc

pub first_short : (name : List ℕ) (names : List (List ℕ)) → are_short (name ∷ names) ≡ true → leb (length name) 20 ≡ true
first_short name names e = (both_true (leb (length name) 20) (are_short names) e).0

pub others_short : (name : List ℕ) (names : List (List ℕ)) → are_short (name ∷ names) ≡ true → are_short names ≡ true
others_short name names e = (both_true (leb (length name) 20) (are_short names) e).1

-- nothing is left where there is no name or no number more
pub no_name : (head : List ℕ) (names : List (List ℕ)) (xs ys : List ℤ) → length names ≡ 0 → numbers_text head names xs ys ≡ []
no_name head [] xs ys e = refl
no_name head (n ∷ ns) xs ys e = absurd (omega (arith, e))

pub no_first : (head : List ℕ) (names : List (List ℕ)) (xs ys : List ℤ) → length xs ≡ 0 → numbers_text head names xs ys ≡ []
no_first head [] xs ys e = refl
no_first head (n ∷ ns) [] ys e = refl
no_first head (n ∷ ns) (x ∷ xs) ys e = absurd (omega (arith, e))

pub no_second : (head : List ℕ) (names : List (List ℕ)) (xs ys : List ℤ) → length ys ≡ 0 → numbers_text head names xs ys ≡ []
no_second head [] xs ys e = refl
no_second head (n ∷ ns) [] ys e = refl
no_second head (n ∷ ns) (x ∷ xs) [] e = refl
no_second head (n ∷ ns) (x ∷ xs) (y ∷ ys) e = absurd (omega (arith, e))

-- the next of a slice
pub next_at : {X : Type 0} (xs : List X) (i : ℕ) (d : X) → i < length xs → drop i xs ≡ get_or xs i d ∷ drop (i + 1) xs
next_at xs i d h = drop-cons xs i d h ∙ (λ j. get_or xs i d ∷ drop (sym (add-one i) j) xs)

-- the lines from a place on begin with that of the numbers there
pub text_at : {X : Type 0} (f : X → List ℕ) (head : List ℕ) (names : List X) (xs ys : List ℤ) (i : ℕ) (name : X) (x y : ℤ)
    → drop i names ≡ name ∷ drop (i + 1) names → drop i xs ≡ x ∷ drop (i + 1) xs → drop i ys ≡ y ∷ drop (i + 1) ys
    → numbers_text head (map f (drop i names)) (drop i xs) (drop i ys)
    ≡ number_text head (f name) x y ++ numbers_text head (map f (drop (i + 1) names)) (drop (i + 1) xs) (drop (i + 1) ys)
text_at f head names xs ys i name x y a b d = λ j. numbers_text head (map f (a j)) (b j) (d j)

-- behind the last place of one of them there is no line
pub numbers_end : {X : Type 0} (f : X → List ℕ) (head : List ℕ) (names : List X) (xs ys : List ℤ) (i : ℕ)
    → min (min (length names) (length xs)) (length ys) ≤ i → numbers_text head (map f (drop i names)) (drop i xs) (drop i ys) ≡ []
numbers_end f head [] xs ys zero h = refl
numbers_end f head (n ∷ ns) [] ys zero h = refl
numbers_end f head (n ∷ ns) (x ∷ xs) [] zero h = refl
numbers_end f head (n ∷ ns) (x ∷ xs) (y ∷ ys) zero h = absurd (omega (arith, h))
numbers_end f head [] xs ys (suc i) h = refl
numbers_end f head (n ∷ ns) [] ys (suc i) h = no_first head (map f (drop i ns)) [] (drop (suc i) ys) refl
numbers_end f head (n ∷ ns) (x ∷ xs) [] (suc i) h = no_second head (map f (drop i ns)) (drop i xs) [] refl
numbers_end f head (n ∷ ns) (x ∷ xs) (y ∷ ys) (suc i) h = numbers_end f head ns xs ys i (omega (arith, h))
