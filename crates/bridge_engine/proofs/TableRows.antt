-- The options of a job, and the row of the table that they are.
use Rattle.std.proofs.Common.{◌≡◌, ℕ, List, Option, Some, None, sym, ap, ◌∙◌, subst}
use Rattle.std.specs.Prelude.{MatchOption}
use Rattle.bridge_engine.specs.declared.job.Job.{Job}
use Rattle.bridge_engine.specs.declared.values.OptionValues.{OptionValues}
use Rattle.bridge_engine.specs.Options.{OptionsGiven, GiveValues}
use Rattle.bridge_engine.specs.Found.{IsRow}
use Rattle.bridge_engine.specs.Job.{ReadsAs, row_of, Asks, IsJob, GivesJob}
use Rattle.bridge_engine.proofs.Given.{same_given}
use Rattle.bridge_engine.proofs.OneJob.{reads_same, same_values}

asks_in : (g : OptionsGiven) (v : OptionValues) (from to : List ℕ) (job : Job) → g.from ≡ Some from → g.to ≡ Some to → ReadsAs g v → IsRow (row_of job) from to v → Asks g job
asks_in g v from to job f t reads (ef, et, w, l, d, s, n) = record {
  from = f ∙ ap Some ef;
  to = t ∙ ap Some et;
  values = subst (λ (x : OptionValues). ReadsAs g x) (same_values v (row_of job).values w l d s n) reads;
}

inside : (a b : List ℕ) → Some a ≡ Some b → a ≡ b
inside a b e = cc

in_asks : (g : OptionsGiven) (v : OptionValues) (from to : List ℕ) (job : Job) → g.from ≡ Some from → g.to ≡ Some to → ReadsAs g v → Asks g job → IsRow (row_of job) from to v
in_asks g v from to job f t reads asks =
    let e = reads_same g v (row_of job).values reads asks.values in (
      inside from (row_of job).from (sym f ∙ asks.from),
      inside to (row_of job).to (sym t ∙ asks.to),
      ap (λ (x : OptionValues). x.week) e,
      ap (λ (x : OptionValues). x.leap) e,
      ap (λ (x : OptionValues). x.date) e,
      ap (λ (x : OptionValues). x.seed) e,
      ap (λ (x : OptionValues). x.sats) e,
    )

-- the job between two forms that has the values that were read is the job that is asked for
pub asked : (g : OptionsGiven) (v : OptionValues) (from to : List ℕ) (r : Option Job) → g.from ≡ Some from → g.to ≡ Some to → ReadsAs g v
    → MatchOption r ((job : Job) → IsRow (row_of job) from to v → ⊥) (λ job. IsRow (row_of job) from to v)
    → MatchOption r ((job : Job) → Asks g job → ⊥) (λ job. Asks g job)
asked g v from to None f t reads none = λ job asks. none job (in_asks g v from to job f t reads asks)
asked g v from to (Some job) f t reads is = asks_in g v from to job f t reads is

-- the job that the values of the words ask for is the one that the words give
pub gives : (words : List (List ℕ)) (g : OptionsGiven) (r : Option Job) → GiveValues words g
    → MatchOption r ((job : Job) → Asks g job → ⊥) (λ job. Asks g job) → MatchOption r (GivesJob words → ⊥) (λ job. IsJob words job)
gives words g None values none = λ given.
    none given.0 (subst (λ (h : OptionsGiven). Asks h given.0) (same_given words given.1.given g given.1.options values) given.1.asks)
gives words g (Some job) values asks = record { given = g; options = values; asks = asks }

-- the job that was found is one that the words give
pub given_job : (words : List (List ℕ)) (r : Option Job) (job : Job) → r ≡ Some job → MatchOption r (GivesJob words → ⊥) (λ j. IsJob words j) → IsJob words job
given_job words r job is h = subst (λ (o : Option Job). MatchOption o (GivesJob words → ⊥) (λ j. IsJob words j)) is h
