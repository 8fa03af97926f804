-- The walk over the items that each of two sets lacks.
use Rattle.std.proofs.Common.{◌≡◌, ◌↔◌, ℕ, ◌<◌, Bool, true, false, List, [], ◌∷◌, ◌++◌, length, drop, refl, sym, ap, subst, ◌∙◌, arith}
use Rattle.std.specs.Prelude.{Option, None, Some, MatchOption, IsTrue}
use Rattle.std.specs.List.{flat_map}
use Rattle.std.specs.Ordering.{match_ordering}
use Rattle.std.specs.declared.cmp.Ordering.{Ordering}
use Rattle.std.specs.declared.cmp.Ordering.TheVariants.{Less, Equal, Greater}
use Rattle.nav_eph.specs.declared.items.NavItem.{NavItem}
use Rattle.nav_files.specs.Differences.{beside, difference_text, paired}
use Rattle.nav_files.specs.DiffMirrors.{begun_by}
use Rattle.nav_files.specs.Numbers.{by_key}
use Rattle.nav_files.specs.declared.difference.Difference.{Difference}
use Rattle.nav_files.specs.declared.difference.Difference.TheVariants.{OnlyFirst, OnlySecond, Both}

-- ---- the next difference

pub none_left : (xs ys : List NavItem) → xs ≡ [] → ys ≡ [] → paired xs ys ≡ []
none_left xs ys e f = λ i. paired (e i) (f i)

pub only_first : (xs ys rest : List NavItem) (x : NavItem) → xs ≡ x ∷ rest → ys ≡ [] → paired xs ys ≡ OnlyFirst x ∷ paired rest ys
only_first xs ys rest x e f = (λ i. paired (e i) (f i)) ∙ ap (λ (l : List NavItem). OnlyFirst x ∷ paired rest l) (sym f)

pub only_second : (xs ys rest : List NavItem) (y : NavItem) → xs ≡ [] → ys ≡ y ∷ rest → paired xs ys ≡ OnlySecond y ∷ paired xs rest
only_second xs ys rest y e f = (λ i. paired (e i) (f i)) ∙ ap (λ (l : List NavItem). OnlySecond y ∷ paired l rest) (sym e)

-- what follows items of both by the order of their keys
stands : (x y : NavItem) (xs ys : List NavItem) (o : Ordering) → by_key x y ≡ o
    → paired (x ∷ xs) (y ∷ ys) ≡ match_ordering o (OnlyFirst x ∷ paired xs (y ∷ ys)) (Both x y ∷ paired xs ys) (OnlySecond y ∷ paired (x ∷ xs) ys)
stands x y xs ys o k =
    ap (λ r. match_ordering r (OnlyFirst x ∷ paired xs (y ∷ ys)) (Both x y ∷ paired xs ys) (OnlySecond y ∷ paired (x ∷ xs) ys)) k

pub first_before : (xs ys rest more : List NavItem) (x y : NavItem) → xs ≡ x ∷ rest → ys ≡ y ∷ more → by_key x y ≡ Less → paired xs ys ≡ OnlyFirst x ∷ paired rest ys
first_before xs ys rest more x y e f k =
    (λ i. paired (e i) (f i)) ∙ stands x y rest more Less k ∙ ap (λ (l : List NavItem). OnlyFirst x ∷ paired rest l) (sym f)

pub both_there : (xs ys rest more : List NavItem) (x y : NavItem) → xs ≡ x ∷ rest → ys ≡ y ∷ more → by_key x y ≡ Equal → paired xs ys ≡ Both x y ∷ paired rest more
both_there xs ys rest more x y e f k = (λ i. paired (e i) (f i)) ∙ stands x y rest more Equal k

pub second_before : (xs ys rest more : List NavItem) (x y : NavItem) → xs ≡ x ∷ rest → ys ≡ y ∷ more → by_key x y ≡ Greater → paired xs ys ≡ OnlySecond y ∷ paired xs more
second_before xs ys rest more x y e f k =
    (λ i. paired (e i) (f i)) ∙ stands x y rest more Greater k ∙ ap (λ (l : List NavItem). OnlySecond y ∷ paired l more) (sym e)

-- ---- the items that are left

pub next_is : (o : Option NavItem) (left : List NavItem) → MatchOption o (begun_by o left ≡ []) (λ item. begun_by o left ≡ item ∷ drop 1 (begun_by o left))
next_is None left = refl
next_is (Some x) left = refl

pub passed : (o : Option NavItem) (left rest : List NavItem) → 0 < length (begun_by o left) → left ≡ rest → rest ≡ drop 1 (begun_by o left)
passed None left rest some e = absurd (omega (arith, some))
passed (Some x) left rest some e = sym e

-- the text of the differences begins with that of the next
pub text_next : (all rest : List Difference) (d : Difference) → all ≡ d ∷ rest → flat_map difference_text all ≡ difference_text d ++ flat_map difference_text rest
text_next all rest d e = ap (flat_map difference_text) e

-- ---- whether there is a difference

nothing : {P : Type 0} (d : Difference) (ds : List Difference) → d ∷ ds ≡ [] → P
nothing {P} d ds e = absurd (no e)
  where
    no : d ∷ ds ≡ [] → ⊥
    no h = cc

pub some_seen : (same : Bool) (all walk rest : List Difference) (d : Difference) → (same ≡ true → walk ≡ all) → (same ≡ false → all ≡ [] → ⊥)
    → walk ≡ d ∷ rest → all ≡ [] → ⊥
some_seen true all walk rest d none some e is = nothing d rest (sym e ∙ none refl ∙ is)
some_seen false all walk rest d none some e is = some refl is

pub seen_all : (same : Bool) (all walk : List Difference) → (same ≡ true → walk ≡ all) → (same ≡ false → all ≡ [] → ⊥) → walk ≡ []
    → IsTrue same ↔ (all ≡ [])
seen_all true all walk none some e = (λ t. sym (none refl) ∙ e, λ is. refl)
seen_all false all walk none some e = (λ t. absurd (no t), λ is. absurd (some refl is))
  where
    no : false ≡ true → ⊥
    no h = cc
