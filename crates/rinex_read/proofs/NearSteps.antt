-- Steps of a reader of records, and what is held of the bytes behind them.
use Rattle.std.proofs.Common.{List, [], ◌++◌, ℕ}
use Rattle.std.specs.Prelude.{Option}
use Rattle.rinex_read.specs.Forms.{Form}
use Rattle.rinex_read.specs.States.{EarlyHeader, EarlySteps, NearHeader, NearSteps, RecordsState}
use Rattle.rinex_read.proofs.NearLemmas.{early_behind, early_near, near_more, near_none}
use Rattle.rinex_read.proofs.StepLemmas.{header_steps_more, header_steps_none, steps_more, steps_none}

pub near_steps_none : {R : Type 0} (f : Form R) (o : Option (List ℕ)) (s : RecordsState) → NearSteps f o o s s []
near_steps_none f o s = record { steps = steps_none f o s; near = near_none s.lines }

pub near_steps_more : {R : Type 0} (f : Form R) (o p q : Option (List ℕ)) (s t u : RecordsState) (g h : List R) → NearSteps f o p s t g → NearSteps f p q t u h → NearSteps f o q s u (g ++ h)
near_steps_more f o p q s t u g h a b = record {
  steps = steps_more f o p q s t u g h a.steps b.steps;
  near = near_more s.lines t.lines u.lines a.steps.reads.taken b.steps.reads.taken a.near b.near;
}

-- what is held at the end of steps has no line that ended before the last bytes
pub early_steps : {R : Type 0} (f : Form R) (o p : Option (List ℕ)) (s t : RecordsState) (g : List R) → NearSteps f o p s t g → EarlySteps f o p s t g
early_steps f o p s t g a = record { steps = a.steps; early = early_near o p s.lines t.lines a.steps.lines a.steps.reads a.near }

pub early_steps_more : {R : Type 0} (f : Form R) (o p q : Option (List ℕ)) (s t u : RecordsState) (g h : List R) → NearSteps f o p s t g → EarlySteps f p q t u h → EarlySteps f o q s u (g ++ h)
early_steps_more f o p q s t u g h a b = record {
  steps = steps_more f o p q s t u g h a.steps b.steps;
  early = early_behind o p s.lines t.lines a.steps.lines b.steps.lines b.steps.reads.taken a.steps.reads a.near b.early;
}

pub near_header_none : {R : Type 0} (f : Form R) (o : Option (List ℕ)) (s : RecordsState) → NearHeader f o o s s
near_header_none f o s = record { steps = header_steps_none f o s; near = near_none s.lines }

pub near_header_more : {R : Type 0} (f : Form R) (o p q : Option (List ℕ)) (s t u : RecordsState) → NearHeader f o p s t → NearHeader f p q t u → NearHeader f o q s u
near_header_more f o p q s t u a b = record {
  steps = header_steps_more f o p q s t u a.steps b.steps;
  near = near_more s.lines t.lines u.lines a.steps.reads.taken b.steps.reads.taken a.near b.near;
}

pub early_header : {R : Type 0} (f : Form R) (o p : Option (List ℕ)) (s t : RecordsState) → NearHeader f o p s t → EarlyHeader f o p s t
early_header f o p s t a = record { steps = a.steps; early = early_near o p s.lines t.lines a.steps.lines a.steps.reads a.near }

pub early_header_more : {R : Type 0} (f : Form R) (o p q : Option (List ℕ)) (s t u : RecordsState) → NearHeader f o p s t → EarlyHeader f p q t u → EarlyHeader f o q s u
early_header_more f o p q s t u a b = record {
  steps = header_steps_more f o p q s t u a.steps b.steps;
  early = early_behind o p s.lines t.lines a.steps.lines b.steps.lines b.steps.reads.taken a.steps.reads a.near b.early;
}
