-- Words ask for at most one job.
use Rattle.std.proofs.Common.{◌≡◌, ℕ, List, Option, Some, None, refl, sym, ap, ◌∙◌, subst}
use Rattle.bridge_engine.specs.declared.job.Job.{Job}
use Rattle.bridge_engine.specs.declared.values.OptionValues.{OptionValues}
use Rattle.bridge_engine.specs.Options.{OptionsGiven}
use Rattle.bridge_engine.proofs.Given.{same_given}
use Rattle.bridge_engine.specs.Job.{IsWeekText, IsLeapText, IsDateText, IsSeedText, IsSatsText, Reads, ReadsAs, Row, Asks, IsJob, row_of}
use Rattle.bridge_engine.proofs.RowJobs.{same_job}

pub reads_once : {A : Type 0} (kind : List ℕ → A → Type 0) → ((t : List ℕ) (a b : A) → kind t a → kind t b → a ≡ b)
    → (t : Option (List ℕ)) (a b : Option A) → Reads kind t a → Reads kind t b → a ≡ b
reads_once kind once None None None x y = refl
reads_once kind once None None (Some b) x y = absurd y
reads_once kind once None (Some a) b x y = absurd x
reads_once kind once (Some t) None b x y = absurd x
reads_once kind once (Some t) (Some a) None x y = absurd y
reads_once kind once (Some t) (Some a) (Some b) x y = ap Some (once t a b x y)

-- the values of options are one list
abbrev values_of : Option ℕ → Option ℕ → Option (List ℕ) → Option ℕ → Option ℕ → OptionValues
values_of week leap date seed sats = record { week = week; leap = leap; date = date; seed = seed; sats = sats }

pub same_values : (v w : OptionValues) → v.week ≡ w.week → v.leap ≡ w.leap → v.date ≡ w.date → v.seed ≡ w.seed → v.sats ≡ w.sats → v ≡ w
same_values v w week leap date seed sats =
    ap (λ (x : Option ℕ). values_of x v.leap v.date v.seed v.sats) week
    ∙ ap (λ (x : Option ℕ). values_of w.week x v.date v.seed v.sats) leap
    ∙ ap (λ (x : Option (List ℕ)). values_of w.week w.leap x v.seed v.sats) date
    ∙ ap (λ (x : Option ℕ). values_of w.week w.leap w.date x v.sats) seed
    ∙ ap (λ (x : Option ℕ). values_of w.week w.leap w.date w.seed x) sats

pub reads_same : (g : OptionsGiven) (v w : OptionValues) → ReadsAs g v → ReadsAs g w → v ≡ w
reads_same g v w a b =
    same_values v w (reads_once IsWeekText (λ t x y p q. sym p.0.value ∙ q.0.value) g.week v.week w.week a.week b.week)
    (reads_once IsLeapText (λ t x y p q. sym p.0.value ∙ q.0.value) g.leap v.leap w.leap a.leap b.leap)
    (reads_once IsDateText (λ t x y p q. p.same ∙ sym q.same) g.date v.date w.date a.date b.date)
    (reads_once IsSeedText (λ t x y p q. sym p.0.value ∙ q.0.value) g.seed v.seed w.seed a.seed b.seed)
    (reads_once IsSatsText (λ t x y p q. sym p.0.value ∙ q.0.value) g.sats v.sats w.sats a.sats b.sats)

-- a row has one list of values, and one job
inside : (a b : List ℕ) → Some a ≡ Some b → a ≡ b
inside a b e = cc

abbrev row_with : List ℕ → List ℕ → OptionValues → Row
row_with from to values = record { from = from; to = to; values = values }

same_row : (r s : Row) → r.from ≡ s.from → r.to ≡ s.to → r.values ≡ s.values → r ≡ s
same_row r s from to values =
    ap (λ (x : List ℕ). row_with x r.to r.values) from ∙ ap (λ (x : List ℕ). row_with s.from x r.values) to ∙ ap (row_with s.from s.to) values

same_asked : (g : OptionsGiven) (a b : Job) → Asks g a → Asks g b → a ≡ b
same_asked g a b x y =
    same_job a b
    (same_row (row_of a) (row_of b) (inside _ _ (sym x.from ∙ y.from)) (inside _ _ (sym x.to ∙ y.to))
    (reads_same g (row_of a).values (row_of b).values x.values y.values))

pub one_job : (words : List (List ℕ)) (job other : Job) → IsJob words job → IsJob words other → job ≡ other
one_job words job other a b =
    same_asked b.given job other (subst (λ (g : OptionsGiven). Asks g job) (same_given words a.given b.given a.options b.options) a.asks) b.asks
