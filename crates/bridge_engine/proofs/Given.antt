-- The words give one list of values, and a value in their first word is that of its option.
use Rattle.std.proofs.Common.{◌≡◌, ◌∙◌, ℕ, suc, zero, List, [], ◌∷◌, ◌++◌, Option, Some, refl, sym, ap, subst, arith}
use Rattle.std.specs.Prelude.{Contains, codes}
use Rattle.bridge_engine.specs.Job.{IsJob}
use Rattle.bridge_engine.specs.Options.{AreOnce, Begins, Choice, Holds, OptionsGiven, GiveValues, HaveValues, Spells, choice}
use Rattle.bridge_engine.specs.declared.job.Job.TheVariants.{Seed}
use Rattle.bridge_engine.specs.declared.job.SeedJob.{SeedJob}
use Rattle.bridge_engine.proofs.Spellings.{begins_once, begins_one, spells_once}
use Rattle.bridge_engine.proofs.Listings.{holds_once}

-- words give one list of values
abbrev given : Option (List ℕ) → Option (List ℕ) → Option (List ℕ) → Option (List ℕ) → Option (List ℕ) → Option (List ℕ) → Option (List ℕ) → OptionsGiven
given from to week leap date seed sats =
    record { from = from; to = to; week = week; leap = leap; date = date; seed = seed; sats = sats }

pub same_given : (words : List (List ℕ)) (g h : OptionsGiven) → GiveValues words g → GiveValues words h → g ≡ h
same_given words g h (s, v) (t, w) =
    let one = spells_once words s.options t.options s.spelled t.spelled in
    let w : HaveValues s.options h = subst (λ (os : List Choice). HaveValues os h) (sym one) w in
    let both = holds_once s.options s.once in
    ap (λ (x : Option (List ℕ)). given x g.to g.week g.leap g.date g.seed g.sats) (both _ _ _ v.from w.from)
    ∙ ap (λ (x : Option (List ℕ)). given h.from x g.week g.leap g.date g.seed g.sats) (both _ _ _ v.to w.to)
    ∙ ap (λ (x : Option (List ℕ)). given h.from h.to x g.leap g.date g.seed g.sats) (both _ _ _ v.week w.week)
    ∙ ap (λ (x : Option (List ℕ)). given h.from h.to h.week x g.date g.seed g.sats) (both _ _ _ v.leap w.leap)
    ∙ ap (λ (x : Option (List ℕ)). given h.from h.to h.week h.leap x g.seed g.sats) (both _ _ _ v.date w.date)
    ∙ ap (λ (x : Option (List ℕ)). given h.from h.to h.week h.leap h.date x g.sats) (both _ _ _ v.seed w.seed)
    ∙ ap (λ (x : Option (List ℕ)). given h.from h.to h.week h.leap h.date h.seed x) (both _ _ _ v.sats w.sats)

-- ---- the value of an option that stands first, in one word with its name

begins_first : (name value : List ℕ) (more : List (List ℕ)) → ¬ Contains name 61
    → Begins ((45 ∷ 45 ∷ ((name ++ 61 ∷ []) ++ value)) ∷ more) (choice name value) more
begins_first name value more free =
    begins_one _ more (45 ∷ 45 ∷ ((name ++ 61 ∷ []) ++ value)) ((name ++ 61 ∷ []) ++ value) name value refl refl free refl

in_turn : (option other : Choice) (options : List Choice) (A : Type 0) → (option ≡ other → A) → (Contains options other → A)
    → Contains (option ∷ options) other → A
in_turn option other options A first later (zero, below, is) = first is
in_turn option other options A first later (suc k, below, is) = later (k, omega (arith, below), is)

first_value : (name value held : List ℕ) (more : List (List ℕ)) (options : List Choice) → ¬ Contains name 61
    → Spells ((45 ∷ 45 ∷ ((name ++ 61 ∷ []) ++ value)) ∷ more) options → AreOnce options → Contains options (choice name held) → value ≡ held
first_value name value held more [] free spells once has =
    absurd (let no : (45 ∷ 45 ∷ ((name ++ 61 ∷ []) ++ value)) ∷ more ≡ [] = spells in cc)
first_value name value held more (option ∷ options) free (rest, begins, others) (alone, once) has =
    let same : option ≡ choice name value =
    (begins_once _ option (choice name value) rest more begins (begins_first name value more free)).0 in
    in_turn option (choice name held) options (value ≡ held)
    (λ is. ap (λ (c : Choice). c.value) (sym same ∙ is))
    (λ later. absurd (alone held (subst (λ (n : List ℕ). Contains options (choice n held)) (sym (ap (λ (c : Choice). c.name) same)) later)))
    has

-- ---- the value of `--from`, where a capture is generated

-- its name has no `=` in it
from_free : ¬ Contains (codes "from") 61
from_free (zero, below, e) = absurd (omega (arith, e))
from_free (suc zero, below, e) = absurd (omega (arith, e))
from_free (suc (suc zero), below, e) = absurd (omega (arith, e))
from_free (suc (suc (suc zero)), below, e) = absurd (omega (arith, e))
from_free (suc (suc (suc (suc k))), below, e) = absurd (omega (arith, below))

pub seed_is_first : (from : List ℕ) (more : List (List ℕ)) (job : SeedJob) → IsJob ((codes "--from=" ++ from) ∷ more) (Seed job)
    → from ≡ codes "seed"
seed_is_first from more job gives =
    let spelling = gives.options.0 in
    let has : Holds spelling.options (codes "from") (Some (codes "seed")) =
    subst (λ (o : Option (List ℕ)). Holds spelling.options (codes "from") o) gives.asks.from gives.options.1.from in
    first_value (codes "from") from (codes "seed") more spelling.options from_free spelling.spelled spelling.once has
