-- What a step leaves under the names of a folder, by what its calls do.
use Rattle.std.proofs.Common.{◌≡◌, ◌≤◌, ◌⊎◌, inl, inr, refl, ◌∙◌, ℕ, List, [], Option, None, Some, Result, Ok, Err, ap, arith, subst, sym}
use Rattle.std.specs.Prelude.{IfErr, IfOk, IfSome, OnErr, OnOk}
use Rattle.std.specs.String.{string_bytes}
use Rattle.std.specs.Io.KnownBytes.{Appends}
use Rattle.nav_io.specs.Causes.{Rose}
use Rattle.whole_file.specs.Files.{Begins, Publishes, Stays}
use Rattle.whole_file.specs.Steps.{BrokeOff, Cause, EndsFor, FinishCounts, Finishes, IfBrokeOff, Lacks, RoseFor, StepEndsFor, error_counts}
use Rattle.whole_file.specs.Steps.Cause.{Read, Write, Other, NoCall}
use Rattle.whole_file.specs.declared.faults.FileFault.{FileFault}
use Rattle.whole_file.specs.declared.step.Named.{Named}
use Rattle.whole_file.specs.declared.step.StepFault.{StepFault}
use Rattle.whole_file.specs.declared.step.StepFault.TheVariants.{Begin, Run, Unnamed, Publish}

abbrev pub Folders : Type 0
Folders = Option (List ℕ → Option (List ℕ))

stays_more : (old mid new : Folders) (part : List ℕ) → Stays old mid part → Stays mid new part → Stays old new part
stays_more None mid new part h k = tt
stays_more (Some old) None new part h k = absurd h
stays_more (Some old) (Some mid) None part h k = k
stays_more (Some old) (Some mid) (Some new) part h k = λ name other. k name other ∙ h name other

put_more : (old mid new : Folders) (part name bytes : List ℕ) → Stays old mid part → Publishes mid new part name (Some bytes)
    → Publishes old new part name (Some bytes)
put_more None mid new part name bytes h k = tt
put_more (Some old) None new part name bytes h k = absurd h
put_more (Some old) (Some mid) None part name bytes h k = k
put_more (Some old) (Some mid) (Some new) part name bytes h k =
    record { there = k.there; gone = k.gone; others = λ other apart away. k.others other apart away ∙ h other apart }

-- what is appended to nothing is all
all_written : (after : Option (List ℕ)) (made : List ℕ) → Appends (Some []) after made → after ≡ Some made
all_written None made never = absurd never
all_written (Some bytes) made is = ap Some is

-- what the conversion wrote has the name
put_made : (old mid new : Folders) (part name : List ℕ) (left : Option (List ℕ)) (makes : List ℕ → List ℕ) (before after : Option (List ℕ))
    → Stays old mid part → Begins old part before → IfSome left (λ bytes. Appends before after (makes bytes)) → Publishes mid new part name after
    → IfSome left (λ bytes. Publishes old new part name (Some (makes bytes)))
put_made old mid new part name None makes before after h begins wrote puts = tt
put_made None mid new part name (Some bytes) makes before after h begins wrote puts = tt
put_made (Some old) mid new part name (Some bytes) makes before after h begins wrote puts =
    put_more (Some old) mid new part name (makes bytes) h
    (subst (Publishes mid new part name) (all_written after (makes bytes) (subst (λ (o : Option (List ℕ)). Appends o after (makes bytes)) begins.1 wrote)) puts)

-- a count that rises from a later one rises
rose_more : (a b c : ℕ) → a ≤ b → Rose b c → Rose a c
rose_more a b c h rose = grind (arith)

-- ---- a step that has ended, by how its conversion ended

-- what is so of each way in which a step ends is so of the step
by_end : {D E : Type 0} (puts : List ℕ → Option (List ℕ) → Type 0) (stays : Type 0) (gives : D → List ℕ → Type 0) (unnamed : Type 0)
    (written : Option (List ℕ)) (wrote a b : ℕ) (P : Result D E → Result (Named D) (StepFault E) → Type 0)
    → ((done : D) (named : Named D) → puts (string_bytes named.name) written → named.done ≡ done → gives done (string_bytes named.name)
    → P (Ok done) (Ok named))
    → ((done : D) → stays → unnamed → P (Ok done) (Err Unnamed))
    → ((done : D) (file : FileFault) → stays → Rose a b → P (Ok done) (Err (Publish file)))
    → ((fault same : E) (told : Result (Unit {0}) FileFault) → same ≡ fault → stays → (Rose 0 wrote → Rose a b) → P (Err fault) (Err (Run same told)))
    → (ran : Result D E) (result : Result (Named D) (StepFault E)) → Finishes puts stays gives unnamed written wrote a b ran result → P ran result
by_end puts stays gives unnamed written wrote a b P named none unput broke (Ok done) (Ok it) (put, whole, same, given) = named done it put same given
by_end puts stays gives unnamed written wrote a b P named none unput broke (Ok done) (Err (Begin file)) ends = absurd ends
by_end puts stays gives unnamed written wrote a b P named none unput broke (Ok done) (Err (Run same told)) ends = absurd ends
by_end puts stays gives unnamed written wrote a b P named none unput broke (Ok done) (Err Unnamed) (still, why) = none done still why
by_end puts stays gives unnamed written wrote a b P named none unput broke (Ok done) (Err (Publish file)) (still, rose) = unput done file still rose
by_end puts stays gives unnamed written wrote a b P named none unput broke (Err fault) (Ok it) ends = absurd ends
by_end puts stays gives unnamed written wrote a b P named none unput broke (Err fault) (Err (Begin file)) ends = absurd ends
by_end puts stays gives unnamed written wrote a b P named none unput broke (Err fault) (Err (Run same told)) (is, still, gave_up) =
    broke fault same told is still gave_up
by_end puts stays gives unnamed written wrote a b P named none unput broke (Err fault) (Err Unnamed) ends = absurd ends
by_end puts stays gives unnamed written wrote a b P named none unput broke (Err fault) (Err (Publish file)) ends = absurd ends

pub put_by : {D E : Type 0} (stays : Type 0) (gives : D → List ℕ → Type 0) (unnamed : Type 0) (wrote a b : ℕ) (old mid new : Folders)
    (part : List ℕ) (left : Option (List ℕ)) (makes : List ℕ → List ℕ) (before after : Option (List ℕ))
    (ran : Result D E) (result : Result (Named D) (StepFault E))
    → Finishes (Publishes mid new part) stays gives unnamed after wrote a b ran result
    → Stays old mid part → Begins old part before → OnOk ran (IfSome left (λ bytes. Appends before after (makes bytes)))
    → IfOk result (λ named. IfSome left (λ bytes. Publishes old new part (string_bytes named.name) (Some (makes bytes))))
put_by stays gives unnamed wrote a b old mid new part left makes before after ran result ends others begins =
    by_end (Publishes mid new part) stays gives unnamed after wrote a b
    (λ ran result. OnOk ran (IfSome left (λ bytes. Appends before after (makes bytes)))
    → IfOk result (λ named. IfSome left (λ bytes. Publishes old new part (string_bytes named.name) (Some (makes bytes)))))
    (λ done named puts same given wrote_all.
    put_made old mid new part (string_bytes named.name) left makes before after others begins wrote_all puts)
    (λ done still why all. tt) (λ done file still rose all. tt) (λ fault same told is still gave_up all. tt) ran result ends

pub counts_by : {D E : Type 0} (puts : List ℕ → Option (List ℕ) → Type 0) (stays : Type 0) (gives : D → List ℕ → Type 0) (unnamed : Type 0)
    (written : Option (List ℕ)) (wrote a b : ℕ) (left : Option (List ℕ)) (counts : List ℕ → D → Type 0)
    (ran : Result D E) (result : Result (Named D) (StepFault E)) → Finishes puts stays gives unnamed written wrote a b ran result
    → IfOk ran (λ done. IfSome left (λ bytes. counts bytes done)) → IfOk result (λ named. IfSome left (λ bytes. counts bytes named.done))
counts_by {D = D} puts stays gives unnamed written wrote a b left counts ran result ends =
    by_end puts stays gives unnamed written wrote a b
    (λ ran result. IfOk ran (λ done. IfSome left (λ bytes. counts bytes done)) → IfOk result (λ named. IfSome left (λ bytes. counts bytes named.done)))
    (λ done named put same given all. subst (λ (d : D). IfSome left (λ bytes. counts bytes d)) (sym same) all)
    (λ done still why all. tt) (λ done file still rose all. tt) (λ fault same told is still gave_up all. tt) ran result ends

pub named_by : {D E : Type 0} (puts : List ℕ → Option (List ℕ) → Type 0) (stays : Type 0) (gives : D → List ℕ → Type 0) (unnamed : Type 0)
    (written : Option (List ℕ)) (wrote a b : ℕ) (ran : Result D E) (result : Result (Named D) (StepFault E))
    → Finishes puts stays gives unnamed written wrote a b ran result → IfOk result (λ named. gives named.done (string_bytes named.name))
named_by {D = D} puts stays gives unnamed written wrote a b ran result ends =
    by_end puts stays gives unnamed written wrote a b (λ ran result. IfOk result (λ named. gives named.done (string_bytes named.name)))
    (λ done named put same given. subst (λ (d : D). gives d (string_bytes named.name)) (sym same) given)
    (λ done still why. tt) (λ done file still rose. tt) (λ fault same told is still gave_up. tt) ran result ends

pub stays_by : {D E : Type 0} (puts : List ℕ → Option (List ℕ) → Type 0) (gives : D → List ℕ → Type 0) (unnamed : Type 0)
    (written : Option (List ℕ)) (wrote a b : ℕ) (old mid new : Folders) (part : List ℕ) (ran : Result D E) (result : Result (Named D) (StepFault E))
    → Finishes puts (Stays mid new part) gives unnamed written wrote a b ran result → Stays old mid part → OnErr result (Stays old new part)
stays_by puts gives unnamed written wrote a b old mid new part ran result ends others =
    by_end puts (Stays mid new part) gives unnamed written wrote a b (λ ran result. OnErr result (Stays old new part))
    (λ done named put same given. tt) (λ done still why. stays_more old mid new part others still)
    (λ done file still rose. stays_more old mid new part others still)
    (λ fault same told is still gave_up. stays_more old mid new part others still) ran result ends

pub failed_by : {D E : Type 0} (puts : List ℕ → Option (List ℕ) → Type 0) (stays : Type 0) (gives : D → List ℕ → Type 0) (unnamed : Type 0)
    (written : Option (List ℕ)) (wrote first a b : ℕ) (ran : Result D E) (result : Result (Named D) (StepFault E))
    → Finishes puts stays gives unnamed written wrote a b ran result → first ≤ a → IfErr result (λ fault. BrokeOff fault ⊎ (unnamed ⊎ Rose first b))
failed_by puts stays gives unnamed written wrote first a b ran result ends later =
    by_end puts stays gives unnamed written wrote a b (λ ran result. IfErr result (λ fault. BrokeOff fault ⊎ (unnamed ⊎ Rose first b)))
    (λ done named put same given. tt) (λ done still why. inr (inl why))
    (λ done file still rose. inr (inr (rose_more first a b later rose))) (λ fault same told is still gave_up. inl tt) ran result ends

-- where nothing failed, it lacks what its conversion lacks
pub lacks_by : {D E : Type 0} (puts : List ℕ → Option (List ℕ) → Type 0) (stays : Type 0) (gives : D → List ℕ → Type 0) (unnamed : Type 0)
    (written : Option (List ℕ)) (lacks : E → Type 0) (fresh wrote first a b : ℕ) (ran : Result D E) (result : Result (Named D) (StepFault E))
    → Finishes puts stays gives unnamed written wrote a b ran result → first ≤ a → fresh ≡ 0 → ¬ unnamed → ¬ Rose first b
    → (¬ Rose fresh wrote → IfErr ran lacks) → IfErr result (Lacks lacks)
lacks_by puts stays gives unnamed written lacks fresh wrote first a b ran result ends later zero has none =
    by_end puts stays gives unnamed written wrote a b (λ ran result. (¬ Rose fresh wrote → IfErr ran lacks) → IfErr result (Lacks lacks))
    (λ done named put same given ended. tt) (λ done still why ended. absurd (has why))
    (λ done file still rose ended. absurd (none (rose_more first a b later rose)))
    (λ fault same told is still gave_up ended.
    subst lacks (sym is) (ended (λ rose. none (rose_more first a b later (gave_up (subst (λ n. Rose n wrote) zero rose))))))
    ran result ends

pub complete_by : {D E : Type 0} (puts : List ℕ → Option (List ℕ) → Type 0) (stays : Type 0) (gives : D → List ℕ → Type 0) (unnamed : Type 0)
    (written : Option (List ℕ)) (lacks : E → Type 0) (fresh wrote first a b : ℕ) (left : Option (List ℕ)) (can : List ℕ → Type 0) (A B : Type 0)
    (ran : Result D E) (result : Result (Named D) (StepFault E))
    → Finishes puts stays gives unnamed written wrote a b ran result → first ≤ a → fresh ≡ 0
    → IfSome left (λ bytes. can bytes → ¬ A → ¬ Rose fresh wrote → ¬ B → IfErr ran lacks)
    → IfSome left (λ bytes. can bytes → ¬ A → ¬ B → ¬ unnamed → ¬ Rose first b → IfErr result (Lacks lacks))
complete_by puts stays gives unnamed written lacks fresh wrote first a b None can A B ran result ends later zero complete = tt
complete_by puts stays gives unnamed written lacks fresh wrote first a b (Some bytes) can A B ran result ends later zero complete =
    λ accepted read told has none.
    lacks_by puts stays gives unnamed written lacks fresh wrote first a b ran result ends later zero has none
    (λ written. complete accepted read written told)

-- where something failed nothing is to be shown of the known bytes
pub refuted : (left : Option (List ℕ)) (can : List ℕ → Type 0) (A B U R X : Type 0) → R
    → IfSome left (λ bytes. can bytes → ¬ A → ¬ B → ¬ U → ¬ R → X)
refuted None can A B U R X rose = tt
refuted (Some bytes) can A B U R X rose = λ accepted read told has none. absurd (none rose)

-- ---- what a step ended for

-- it is done only where its conversion is
pub accepts_by : {D E : Type 0} (puts : List ℕ → Option (List ℕ) → Type 0) (stays : Type 0) (gives : D → List ℕ → Type 0) (unnamed : Type 0)
    (written : Option (List ℕ)) (wrote a b : ℕ) (A : Type 0) (ran : Result D E) (result : Result (Named D) (StepFault E))
    → Finishes puts stays gives unnamed written wrote a b ran result → OnOk ran A → OnOk result A
accepts_by puts stays gives unnamed written wrote a b A ran result ends =
    by_end puts stays gives unnamed written wrote a b (λ ran result. OnOk ran A → OnOk result A)
    (λ done named put same given all. all)
    (λ done still why all. tt) (λ done file still rose all. tt) (λ fault same told is still gave_up all. tt) ran result ends

nothing_asked : (left : Option (List ℕ)) → IfSome left (λ bytes. Unit {0})
nothing_asked None = tt
nothing_asked (Some bytes) = tt

-- a fault of its conversion is that with which the conversion broke off
pub breaks_by : {D E : Type 0} (puts : List ℕ → Option (List ℕ) → Type 0) (stays : Type 0) (gives : D → List ℕ → Type 0) (unnamed : Type 0)
    (written : Option (List ℕ)) (wrote a b : ℕ) (left : Option (List ℕ)) (breaks : List ℕ → E → Type 0)
    (ran : Result D E) (result : Result (Named D) (StepFault E)) → Finishes puts stays gives unnamed written wrote a b ran result
    → IfErr ran (λ fault. IfSome left (λ bytes. breaks bytes fault))
    → IfErr result (λ fault. IfSome left (λ bytes. IfBrokeOff (breaks bytes) fault))
breaks_by {E = E} puts stays gives unnamed written wrote a b left breaks ran result ends =
    by_end puts stays gives unnamed written wrote a b
    (λ ran result. IfErr ran (λ fault. IfSome left (λ bytes. breaks bytes fault))
    → IfErr result (λ fault. IfSome left (λ bytes. IfBrokeOff (breaks bytes) fault)))
    (λ done named put same given all. tt) (λ done still why all. nothing_asked left) (λ done file still rose all. nothing_asked left)
    (λ fault same told is still gave_up all. subst (λ (f : E). IfSome left (λ bytes. breaks bytes f)) (sym is) all) ran result ends

-- what a conversion broke off for is what its step did; a write that failed fails to give up the output
gave_up_for : (cause : Cause) (input input_new other other_new fresh wrote first b : ℕ)
    → RoseFor cause (error_counts input fresh other) (error_counts input_new wrote other_new) → (Rose fresh wrote → Rose first b)
    → RoseFor cause (error_counts input first other) (error_counts input_new b other_new)
gave_up_for Read input input_new other other_new fresh wrote first b rose more = rose
gave_up_for Write input input_new other other_new fresh wrote first b (same, still, rose) more = (same, still, more rose)
gave_up_for Other input input_new other other_new fresh wrote first b rose more = rose
gave_up_for NoCall input input_new other other_new fresh wrote first b rose more = rose

pub ends_by : {D E : Type 0} (puts : List ℕ → Option (List ℕ) → Type 0) (stays : Type 0) (gives : D → List ℕ → Type 0)
    (written : Option (List ℕ)) (cause_of : E → Cause) (names names_new input input_new other other_new fresh wrote first a b : ℕ)
    (ran : Result D E) (result : Result (Named D) (StepFault E))
    → Finishes puts stays gives (Rose names names_new) written wrote a b ran result → a ≡ first → fresh ≡ 0
    → EndsFor cause_of (error_counts input fresh other) (error_counts input_new wrote other_new) ran
    → FinishCounts names names_new a b result
    → StepEndsFor cause_of (error_counts input first other) (error_counts input_new b other_new) names names_new result
ends_by {E = E} puts stays gives written cause_of names names_new input input_new other other_new fresh wrote first a b ran result ends opened zero =
    by_end puts stays gives (Rose names names_new) written wrote a b
    (λ ran result. EndsFor cause_of (error_counts input fresh other) (error_counts input_new wrote other_new) ran
    → FinishCounts names names_new a b result
    → StepEndsFor cause_of (error_counts input first other) (error_counts input_new b other_new) names names_new result)
    (λ done named put same given ended counts. (ended.0, ended.1, counts.1 ∙ opened, counts.0))
    (λ done still why ended counts. ((ended.0, ended.1), why))
    (λ done file still rose ended counts. ((ended.0, ended.1, subst (λ (n : ℕ). Rose n b) opened rose), counts))
    (λ fault same told is still gave_up ended counts. (
      subst (λ (f : E). RoseFor (cause_of f) (error_counts input first other) (error_counts input_new b other_new)) (sym is)
          (gave_up_for (cause_of fault) input input_new other other_new fresh wrote first b ended
          (λ rose. subst (λ (n : ℕ). Rose n b) opened (gave_up (subst (λ (n : ℕ). Rose n wrote) zero rose)))),
      counts,
    ))
    ran result ends
