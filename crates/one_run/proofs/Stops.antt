-- Where a run that fails has stopped: in one step of what it does with its input.
use Rattle.std.proofs.Common.{◌≡◌, ◌⊎◌, inl, inr, ℕ, List, [], ◌∷◌, ◌++◌, Option, None, Some, refl, sym, ap, subst, ◌∙◌}
use Rattle.std.specs.Prelude.{IfSome}
use Rattle.std.specs.Io.KnownBytes.{Appends}
use Rattle.std.proofs.KnownBytes.{Appends-nil}
use Rattle.nav_io.specs.Prefix.{AppendsPrefix, IsPrefix}
use Rattle.one_run.specs.Runs.{AppendsAll, AppendsBetween, StopAtOnePlace, Texts}
use Rattle.one_run.proofs.Prefixes.{no_prefix, prefix_nil, prefix_same, prefix_trans, prefix_within}

-- ---- what grew by all of a text

pub all_of : (w w1 : Option (List ℕ)) (least text : List ℕ) → AppendsBetween w w1 least text → AppendsAll w w1 least
all_of w w1 least text b = (b.prefix, b.no_less, b.grew)

pub all_within : (w w1 : Option (List ℕ)) (text longer : List ℕ) → IsPrefix text longer → AppendsAll w w1 longer → AppendsAll w w1 text
all_within w w1 text longer behind (all, begins, grew) = (all, prefix_trans text longer all behind begins, grew)

pub all_whole : (w w1 : Option (List ℕ)) (text : List ℕ) → Appends w w1 text → AppendsAll w w1 text
all_whole w w1 text grew = (text, prefix_same text, grew)

pub all_nothing : (w : Option (List ℕ)) → AppendsAll w w []
all_nothing w = ([], prefix_nil [], Appends-nil w)

-- ---- two beginnings of one list

-- a list begins with these
abbrev pub BeginsWith : {X : Type 0} → List X → List X → Type 0
BeginsWith {X} all some = (rest : List X) × (all ≡ some ++ rest)

tail_is : {X : Type 0} (x y : X) (xs ys : List X) → x ∷ xs ≡ y ∷ ys → (x ≡ y) × (xs ≡ ys)
tail_is {X} x y xs ys e = (
  ap (λ (l : List X). first x l) e,
  ap (λ (l : List X). tail l) e,
)
  where
    first : X → List X → X
    first d [] = d
    first d (z ∷ zs) = z

    tail : List X → List X
    tail [] = []
    tail (z ∷ zs) = zs

-- of what was done and the beginning of a list one begins with the other
pub no_more_or_beyond : {X : Type 0} (done some rest left : List X) (x : X) → done ++ x ∷ left ≡ some ++ rest
    → BeginsWith done some ⊎ BeginsWith some (done ++ x ∷ [])
no_more_or_beyond done [] rest left x e = inl (done, refl)
no_more_or_beyond [] (y ∷ ys) rest left x e =
    inr (ys, ap (λ z. z ∷ ys) (sym (tail_is x y left (ys ++ rest) e).0))
no_more_or_beyond {X} (d ∷ ds) (y ∷ ys) rest left x e = step (no_more_or_beyond ds ys rest left x (tail_is d y (ds ++ x ∷ left) (ys ++ rest) e).1)
  where
    same : d ≡ y
    same = (tail_is d y (ds ++ x ∷ left) (ys ++ rest) e).0

    step : BeginsWith ds ys ⊎ BeginsWith ys (ds ++ x ∷ []) → BeginsWith (d ∷ ds) (y ∷ ys) ⊎ BeginsWith (y ∷ ys) (d ∷ ds ++ x ∷ [])
    step (inl (more, is)) = inl (more, ap (λ (l : List X). d ∷ l) is ∙ ap (λ z. z ∷ ys ++ more) same)
    step (inr (more, is)) = inr (more, ap (λ (l : List X). y ∷ l) is ∙ ap (λ z. z ∷ (ds ++ x ∷ []) ++ more) (sym same))

-- ---- where a run stops

-- nothing was written and nothing reported
pub nothing_stopped : (flushed : Option Texts) (o w w' u u' : Option (List ℕ)) → w' ≡ w → u' ≡ u → StopAtOnePlace flushed o w w' u u'
nothing_stopped None o w w' u u' same silent = tt
nothing_stopped (Some texts) None w w' u u' same silent = tt
nothing_stopped (Some texts) (Some bytes) w w' u u' same silent = λ front begins. inr (
  subst (λ (x : Option (List ℕ)). AppendsPrefix w x (texts.output front)) (sym same) (no_prefix w (texts.output front)),
  subst (λ (x : Option (List ℕ)). AppendsPrefix u x (texts.report front)) (sym silent) (no_prefix u (texts.report front)),
)

-- all that any beginning of the input decides was written and reported
pub all_stopped : (texts : Texts) (o w w' u u' : Option (List ℕ))
    → IfSome o (λ bytes. (front : List ℕ) → IsPrefix front bytes → AppendsAll w w' (texts.output front) × AppendsAll u u' (texts.report front))
    → StopAtOnePlace (Some texts) o w w' u u'
all_stopped texts None w w' u u' each = tt
all_stopped texts (Some bytes) w w' u u' each = λ front begins. inl (each front begins)

-- Some steps were done, and the run stopped in the next one: each beginning of the input decides some of the steps.
pub stopped_in : {X : Type 0} (texts : Texts) (steps decides : List ℕ → List X) (text told : List X → List ℕ)
    → ((xs ys : List X) → IsPrefix (text xs) (text (xs ++ ys))) → ((xs ys : List X) → IsPrefix (told xs) (told (xs ++ ys)))
    → (bytes : List ℕ) (done left : List X) (x : X) → steps bytes ≡ done ++ x ∷ left
    → ((front : List ℕ) → IsPrefix front bytes → BeginsWith (steps bytes) (decides front))
    → ((front : List ℕ) → IsPrefix front bytes → texts.output front ≡ text (decides front))
    → ((front : List ℕ) → IsPrefix front bytes → texts.report front ≡ told (decides front))
    → (w w' u u' : Option (List ℕ))
    → AppendsBetween w w' (text done) (text (done ++ x ∷ [])) → AppendsBetween u u' (told done) (told (done ++ x ∷ []))
    → StopAtOnePlace (Some texts) (Some bytes) w w' u u'
stopped_in {X} texts steps decides text told longer_text longer_told bytes done left x all begin output report w w' u u' written reported =
    λ front begins. at front begins (no_more_or_beyond done (decides front) (begin front begins).0 left x (sym all ∙ (begin front begins).1))
  where
    within : (f : List X → List ℕ) → ((xs ys : List X) → IsPrefix (f xs) (f (xs ++ ys))) → (some all : List X) → BeginsWith all some → IsPrefix (f some) (f all)
    within f longer some all (rest, is) = subst (λ (l : List X). IsPrefix (f some) (f l)) (sym is) (longer some rest)

    at : (front : List ℕ) → IsPrefix front bytes → BeginsWith done (decides front) ⊎ BeginsWith (decides front) (done ++ x ∷ [])
        → (AppendsAll w w' (texts.output front) × AppendsAll u u' (texts.report front)) ⊎ (AppendsPrefix w w' (texts.output front) × AppendsPrefix u u' (texts.report front))
    at front begins (inl no_more) = inl (
      subst (AppendsAll w w') (sym (output front begins)) (all_within w w' _ _ (within text longer_text (decides front) done no_more) (all_of w w' _ _ written)),
      subst (AppendsAll u u') (sym (report front begins)) (all_within u u' _ _ (within told longer_told (decides front) done no_more) (all_of u u' _ _ reported)),
    )
    at front begins (inr beyond) = inr (
      subst (AppendsPrefix w w') (sym (output front begins))
          (prefix_within w w' _ _ (within text longer_text (done ++ x ∷ []) (decides front) beyond) (written.prefix, written.within, written.grew)),
      subst (AppendsPrefix u u') (sym (report front begins))
          (prefix_within u u' _ _ (within told longer_told (done ++ x ∷ []) (decides front) beyond) (reported.prefix, reported.within, reported.grew)),
    )
