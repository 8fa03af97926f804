-- Executable counterparts of the code's loops and choices, which only private functions cite; the
-- functions of digests and periods use them.
use Rattle.std.specs.Prelude.{ℕ, ◌+◌, Bool, true, false, ◌&&◌, ◌||◌, ◌==◌, nat_lt, nat_le, if◌then◌else◌, List, [], ◌∷◌, Option, None, Some}
use Rattle.nav_eph.specs.declared.galileo.GalHealth.{GalHealth}
use Rattle.nav_eph.specs.declared.tag.SentTag.{SentTag}
use Rattle.periods.specs.declared.digest.Seen.{Seen}
use Rattle.periods.specs.declared.digest.GpsDigest.{GpsDigest}
use Rattle.periods.specs.declared.digest.GalDigest.{GalDigest}
use Rattle.periods.specs.declared.digest.Seen.TheVariants.{Nothing, One, Different}

-- lexicographic order, as a test
abbrev pub is_below : List ℕ → List ℕ → Bool
is_below [] [] = false
is_below [] (y ∷ ys) = true
is_below (x ∷ xs) [] = false
is_below (x ∷ xs) (y ∷ ys) = nat_lt x y || ((x == y) && is_below xs ys)

-- the first value is below the second by its numbers
abbrev pub earlier : {X : Type 0} → (X → List ℕ) → X → X → Bool
earlier numbers a b = is_below (numbers a) (numbers b)

-- the first value is above the second by its numbers
abbrev pub later : {X : Type 0} → (X → List ℕ) → X → X → Bool
later numbers a b = is_below (numbers b) (numbers a)

-- there is no best so far, or this value is better
abbrev pub is_better : {V : Type 0} → (V → V → Bool) → Option V → V → Bool
is_better better None v = true
is_better better (Some b) v = better v b

-- the better of the best so far and a further value that passes the test
abbrev pub best_with : {V : Type 0} → (V → Bool) → (V → V → Bool) → Option V → Option V → Option V
best_with test better best None = best
best_with test better best (Some v) = if test v && is_better better best v then Some v else best

-- the best of the values that are read and pass the test
abbrev pub best_among : {X V : Type 0} → (X → Option V) → (V → Bool) → (V → V → Bool) → List X → Option V → Option V
best_among read test better [] best = best
best_among read test better (x ∷ xs) best = best_among read test better xs (best_with test better best (read x))

-- the better of two bests
abbrev pub best_join : {V : Type 0} → (V → V → Bool) → Option V → Option V → Option V
best_join better None b = b
best_join better (Some x) None = Some x
best_join better (Some x) (Some y) = if better y x then Some y else Some x

-- the first option, or the second if it is none
abbrev pub or_else : {V : Type 0} → Option V → Option V → Option V
or_else None b = b
or_else (Some x) b = Some x

-- the contents of one kind in one part
abbrev pub seen_of : {X : Type 0} → Option X → Seen X
seen_of None = Nothing
seen_of (Some x) = One x

-- the contents of one kind in the union of two sets
abbrev pub seen_join : {X : Type 0} → (X → X → Bool) → Seen X → Seen X → Seen X
seen_join eq Nothing b = b
seen_join eq (One x) Nothing = One x
seen_join eq (One x) (One y) = if eq x y then One x else Different
seen_join eq (One x) Different = Different
seen_join eq Different b = Different

-- two contents differ
abbrev pub seen_differs : {X : Type 0} → Seen X → Bool
seen_differs Different = true
seen_differs Nothing = false
seen_differs (One x) = false

-- there is no content
abbrev pub seen_nothing : {X : Type 0} → Seen X → Bool
seen_nothing Nothing = true
seen_nothing (One x) = false
seen_nothing Different = false

-- a kind of part of a GPS ephemeris is missing, and none differs
abbrev pub gps_lacks : GpsDigest → Bool
gps_lacks d =
    if seen_differs d.clock || (seen_differs d.a || seen_differs d.b) then false
    else seen_nothing d.clock || (seen_nothing d.a || seen_nothing d.b)

-- a word of a Galileo ephemeris is missing, and none differs
abbrev pub gal_lacks : GalDigest → Bool
gal_lacks d =
    if seen_differs d.w1 || (seen_differs d.w2 || (seen_differs d.w3 || seen_differs d.w4)) then false
    else seen_nothing d.w1 || (seen_nothing d.w2 || (seen_nothing d.w3 || seen_nothing d.w4))

-- the content, if there is exactly one
abbrev pub seen_only : {X : Type 0} → Seen X → Option X
seen_only (One x) = Some x
seen_only Nothing = None
seen_only Different = None

-- health lies in the window up to the end e
abbrev pub up_to_end : ℕ → ℕ → ℕ × GalHealth × SentTag → Bool
up_to_end window e h = nat_le h.0 e && nat_le e (h.0 + window)

-- health lies in the window after the end e
abbrev pub behind_end : ℕ → ℕ → ℕ × GalHealth × SentTag → Bool
behind_end window e h = nat_lt e h.0 && nat_le h.0 (e + window)
