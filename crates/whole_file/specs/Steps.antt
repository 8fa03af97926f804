-- What converting one file does.
use Rattle.std.specs.Prelude.{◌≡◌, ℕ, List, Option, None, Some, Result, Ok, Err}
use Rattle.std.specs.String.{string_bytes}
use Rattle.nav_io.specs.Causes.{Rose}
use Rattle.whole_file.specs.declared.step.Named.{Named}
use Rattle.whole_file.specs.declared.step.StepFault.{StepFault}
use Rattle.whole_file.specs.declared.step.StepFault.TheVariants.{Begin, Run, Unnamed, Publish}

-- the conversion broke off
abbrev pub BrokeOff : {E : Type 0} → StepFault E → Type 0
BrokeOff (Begin file) = ⊥
BrokeOff (Run fault told) = Unit {0}
BrokeOff Unnamed = ⊥
BrokeOff (Publish file) = ⊥

-- the conversion broke off for want of something, such as memory, that its bytes do not decide
abbrev pub Lacks : {E : Type 0} → (E → Type 0) → StepFault E → Type 0
Lacks lacks (Begin file) = ⊥
Lacks lacks (Run fault told) = lacks fault
Lacks lacks Unnamed = ⊥
Lacks lacks (Publish file) = ⊥

-- what makes a conversion break off: a read of its input, a write of its output or another call failed, or no call did
pub data Cause : Type 0 where
  Read : Cause
  Write : Cause
  Other : Cause
  NoCall : Cause

-- the counts of errors of an input, of an output, and of other calls
pub record ErrorCounts : Type 0 where
  pub input : ℕ
  pub output : ℕ
  pub other : ℕ

-- the three counts
abbrev pub error_counts : ℕ → ℕ → ℕ → ErrorCounts
error_counts input output other = record { input = input; output = output; other = other }

-- The count of what failed rose, and no other, but for that of the output: to give it up may fail too.
abbrev pub RoseFor : Cause → ErrorCounts → ErrorCounts → Type 0
RoseFor Read before now = Rose before.input now.input × (now.other ≡ before.other)
RoseFor Write before now = (now.input ≡ before.input) × (now.other ≡ before.other) × Rose before.output now.output
RoseFor Other before now = (now.input ≡ before.input) × Rose before.other now.other
RoseFor NoCall before now = (now.input ≡ before.input) × (now.other ≡ before.other)

-- the same of a conversion that ended so; no count rose if it was done
abbrev pub EndsFor : {D E : Type 0} → (E → Cause) → ErrorCounts → ErrorCounts → Result D E → Type 0
EndsFor cause_of before now (Ok done) = (now.input ≡ before.input) × (now.other ≡ before.other) × (now.output ≡ before.output)
EndsFor cause_of before now (Err fault) = RoseFor (cause_of fault) before now

-- What a step ended for: the count of what failed rose, and no other. The output is that of the directory, and the namer's count
-- rose exactly if it gave no name.
abbrev pub StepEndsFor : {D E : Type 0} → (E → Cause) → ErrorCounts → ErrorCounts → ℕ → ℕ → Result D (StepFault E) → Type 0
StepEndsFor cause_of before now names names_new (Ok done) =
    (now.input ≡ before.input) × (now.other ≡ before.other) × (now.output ≡ before.output) × (names_new ≡ names)
StepEndsFor cause_of before now names names_new (Err (Begin file)) = RoseFor Write before now × (names_new ≡ names)
StepEndsFor cause_of before now names names_new (Err (Run fault told)) = RoseFor (cause_of fault) before now × (names_new ≡ names)
StepEndsFor cause_of before now names names_new (Err Unnamed) = RoseFor NoCall before now × Rose names names_new
StepEndsFor cause_of before now names names_new (Err (Publish file)) = RoseFor Write before now × (names_new ≡ names)

-- the conversion broke off with a fault of which this is so, or the step stopped otherwise
abbrev pub IfBrokeOff : {E : Type 0} → (E → Type 0) → StepFault E → Type 0
IfBrokeOff breaks (Begin file) = Unit {0}
IfBrokeOff breaks (Run fault told) = breaks fault
IfBrokeOff breaks Unnamed = Unit {0}
IfBrokeOff breaks (Publish file) = Unit {0}

-- the bytes of the file of this name, if the directory states them and it exists
abbrev pub bytes_of : Option (List ℕ → Option (List ℕ)) → List ℕ → Option (List ℕ)
bytes_of None name = None
bytes_of (Some files) name = files name

-- What a step comes to after a conversion has ended so, with these bytes and this count of failed
-- writes: the output has its name; or it has none, by its namer; or it was not published, for a
-- call of the directory that failed; or it was given up, which fails if a write had failed.
abbrev pub Finishes : {D E : Type 0} → (List ℕ → Option (List ℕ) → Type 0) → Type 0 → (D → List ℕ → Type 0) → Type 0 → Option (List ℕ)
    → ℕ → ℕ → ℕ → Result D E → Result (Named D) (StepFault E) → Type 0
Finishes puts stays gives unnamed written wrote old new (Ok done) (Ok named) =
    puts (string_bytes named.name) written × (wrote ≡ 0) × (named.done ≡ done) × gives done (string_bytes named.name)
Finishes puts stays gives unnamed written wrote old new (Ok done) (Err Unnamed) = stays × unnamed
Finishes puts stays gives unnamed written wrote old new (Ok done) (Err (Publish file)) = stays × Rose old new
Finishes puts stays gives unnamed written wrote old new (Err fault) (Err (Run same told)) = (same ≡ fault) × stays × (Rose 0 wrote → Rose old new)
Finishes puts stays gives unnamed written wrote old new ran result = ⊥

-- The counts of the namer and of the directory after a conversion has ended.
abbrev pub FinishCounts : {D E : Type 0} → ℕ → ℕ → ℕ → ℕ → Result D (StepFault E) → Type 0
FinishCounts names names_new folder folder_new (Ok named) = (names_new ≡ names) × (folder_new ≡ folder)
FinishCounts names names_new folder folder_new (Err (Begin file)) = ⊥
FinishCounts names names_new folder folder_new (Err (Run fault told)) = names_new ≡ names
FinishCounts names names_new folder folder_new (Err Unnamed) = Unit {0}
FinishCounts names names_new folder folder_new (Err (Publish file)) = names_new ≡ names
