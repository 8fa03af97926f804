-- How a conversion over memory ends, by how a run ended.
use Rattle.std.proofs.Common.{◌≡◌, ◌≤◌, ◌<◌, ◌^◌, ◌⊎◌, inl, inr, refl, sym, ap, ◌∙◌, subst, arith, ℕ, Bool, true, false, List, [], ◌++◌, length, append-nil, length-append}
use Rattle.std.proofs.lemmas.Bool.{eq-eqb, eqb-true, ltb-true, ltb-false}
use Rattle.std.specs.Prelude.{All, IsUtf8, Option, None, Some, Result, Ok, Err, IfSome, IsSome, nat_lt, ◌==◌, if◌then◌else◌}
use Rattle.std.specs.Io.KnownBytes.{Appends, Consumes, IsAtEnd}
use Rattle.nav_io.specs.Prefix.{AppendsPrefix, IsPrefix}
use Rattle.one_run.specs.declared.fault.BridgeFault.{BridgeFault}
use Rattle.one_run.specs.declared.fault.BridgeFault.TheVariants.{ReadFault, WriteFault, ReportFault, NotThisForm, TooLong, NoMemory}
use Rattle.one_run.specs.Runs.{IsBroken, IsDone, Ended, Meaning, StopAtOnePlace, Texts, World, world}
use Rattle.one_run.specs.Ends.{status_of, uncounted}
use Rattle.one_run.proofs.Surface.{forget, forgotten, status_forgotten}
use Rattle.bridge_engine.specs.Job.{GivesJob, IsJob}
use Rattle.bridge_engine.specs.Meanings.{meaning_of}
use Rattle.bridge_engine.proofs.Surface.{limit_of}
use Rattle.bridge_engine.specs.declared.job.Job.{Job}
use Rattle.raw_values.specs.Rooms.{StandsIn}
use Rattle.navbridge_c.specs.Conversions.{Converts, ForJob, HasEnded, IsBegun, IsWhole, Made, made_of, nothing, read_by}
use Rattle.navbridge_c.specs.Mirrors.{HasEndedInMemory, in_memory, in_room}

-- ---- each end by itself

-- two numerals that differ
no : (a b : ℕ) → (a == b) ≡ false → a ≡ b → ⊥
no a b differ same = let both : false ≡ true = sym differ ∙ eq-eqb a b same in cc

whole_end : (words : List (List ℕ)) (input : List ℕ) (made : Made) (job : Job) → All IsUtf8 words → IsJob words job → IsWhole job input made → HasEndedInMemory words input made 0
whole_end words input made job texts is whole = record {
  done = λ e. (job, is, (whole, omega arith, omega arith));
  no_job = λ e. absurd (no 0 2 refl e);
  reads = no 0 3 refl;
  output_short = λ e. absurd (no 0 4 refl e);
  not_this_form = λ e. absurd (no 0 5 refl e);
  no_memory = λ e. absurd (no 0 6 refl e);
  report_short = λ e. absurd (no 0 7 refl e);
  too_long = λ e. absurd (no 0 8 refl e);
  no_text = (λ e. absurd (no 0 9 refl e), λ not. absurd (not texts));
  nothing_of_it = λ e. absurd (no 0 9 refl e);
  known = omega arith;
  not_one = no 0 1 refl;
}

no_job_end : (words : List (List ℕ)) (input : List ℕ) → All IsUtf8 words → (GivesJob words → ⊥) → HasEndedInMemory words input nothing 2
no_job_end words input texts none = record {
  done = λ e. absurd (no 2 0 refl e);
  no_job = λ e. (none, refl);
  reads = no 2 3 refl;
  output_short = λ e. absurd (no 2 4 refl e);
  not_this_form = λ e. absurd (no 2 5 refl e);
  no_memory = λ e. absurd (no 2 6 refl e);
  report_short = λ e. absurd (no 2 7 refl e);
  too_long = λ e. absurd (no 2 8 refl e);
  no_text = (λ e. absurd (no 2 9 refl e), λ not. absurd (not texts));
  nothing_of_it = λ e. absurd (no 2 9 refl e);
  known = omega arith;
  not_one = no 2 1 refl;
}

form_end : (words : List (List ℕ)) (input : List ℕ) (job : Job) → All IsUtf8 words → IsJob words job
    → (meaning_of job).counts (read_by job input) ≡ None → HasEndedInMemory words input nothing 5
form_end words input job texts is none = record {
  done = λ e. absurd (no 5 0 refl e);
  no_job = λ e. absurd (no 5 2 refl e);
  reads = no 5 3 refl;
  output_short = λ e. absurd (no 5 4 refl e);
  not_this_form = λ e. (job, is, (none, refl));
  no_memory = λ e. absurd (no 5 6 refl e);
  report_short = λ e. absurd (no 5 7 refl e);
  too_long = λ e. absurd (no 5 8 refl e);
  no_text = (λ e. absurd (no 5 9 refl e), λ not. absurd (not texts));
  nothing_of_it = λ e. absurd (no 5 9 refl e);
  known = omega arith;
  not_one = no 5 1 refl;
}

pub memory_end : (words : List (List ℕ)) (input : List ℕ) (made : Made) → All IsUtf8 words
    → (made ≡ nothing) ⊎ ForJob words (λ job. IsBegun job input made × IsSome ((meaning_of job).counts (read_by job input))) → HasEndedInMemory words input made 6
memory_end words input made texts some = record {
  done = λ e. absurd (no 6 0 refl e);
  no_job = λ e. absurd (no 6 2 refl e);
  reads = no 6 3 refl;
  output_short = λ e. absurd (no 6 4 refl e);
  not_this_form = λ e. absurd (no 6 5 refl e);
  no_memory = λ e. some;
  report_short = λ e. absurd (no 6 7 refl e);
  too_long = λ e. absurd (no 6 8 refl e);
  no_text = (λ e. absurd (no 6 9 refl e), λ not. absurd (not texts));
  nothing_of_it = λ e. absurd (no 6 9 refl e);
  known = omega arith;
  not_one = no 6 1 refl;
}

long_end : (words : List (List ℕ)) (input : List ℕ) (made : Made) (job : Job) → All IsUtf8 words → IsJob words job → IsBegun job input made
    → 2 ^ 32 ≤ length input → HasEndedInMemory words input made 8
long_end words input made job texts is begun long = record {
  done = λ e. absurd (no 8 0 refl e);
  no_job = λ e. absurd (no 8 2 refl e);
  reads = no 8 3 refl;
  output_short = λ e. absurd (no 8 4 refl e);
  not_this_form = λ e. absurd (no 8 5 refl e);
  no_memory = λ e. absurd (no 8 6 refl e);
  report_short = λ e. absurd (no 8 7 refl e);
  too_long = λ e. (job, is, (begun, long));
  no_text = (λ e. absurd (no 8 9 refl e), λ not. absurd (not texts));
  nothing_of_it = λ e. absurd (no 8 9 refl e);
  known = omega arith;
  not_one = no 8 1 refl;
}

pub text_end : (words : List (List ℕ)) (input : List ℕ) → (All IsUtf8 words → ⊥) → HasEndedInMemory words input nothing 9
text_end words input none = record {
  done = λ e. absurd (no 9 0 refl e);
  no_job = λ e. absurd (no 9 2 refl e);
  reads = no 9 3 refl;
  output_short = λ e. absurd (no 9 4 refl e);
  not_this_form = λ e. absurd (no 9 5 refl e);
  no_memory = λ e. absurd (no 9 6 refl e);
  report_short = λ e. absurd (no 9 7 refl e);
  too_long = λ e. absurd (no 9 8 refl e);
  no_text = (λ e. none, λ not. refl);
  nothing_of_it = λ e. refl;
  known = omega arith;
  not_one = no 9 1 refl;
}

-- ---- what was taken

abbrev bytes_by : Bool → List ℕ → Option (List ℕ)
bytes_by reads bytes = if reads then Some bytes else Some []

all_taken : (reads : Bool) (input rest taken : List ℕ) → Consumes (bytes_by reads input) (bytes_by reads rest) taken → IsAtEnd (bytes_by reads rest)
    → taken ≡ (if reads then input else [])
all_taken true input rest taken takes end = sym (takes ∙ ap (λ (l : List ℕ). taken ++ l) end ∙ append-nil taken)
all_taken false input rest taken takes end = sym (takes ∙ append-nil taken)

prefix_taken : (reads : Bool) (input rest taken : List ℕ) → Consumes (bytes_by reads input) (bytes_by reads rest) taken → IsPrefix taken (if reads then input else [])
prefix_taken true input rest taken takes = (rest, takes)
prefix_taken false input rest taken takes = ([], takes)

long_taken : (reads : Bool) (input rest taken : List ℕ) → Consumes (bytes_by reads input) (bytes_by reads rest) taken → length taken ≡ 2 ^ 32 → 2 ^ 32 ≤ length input
long_taken true input rest taken takes long = omega (arith, ap length takes, length-append taken rest)
long_taken false input rest taken takes long =
    let nil : List ℕ = [] in
    absurd (omega (arith, ap length takes, length-append taken nil))

refused_by : {C : Type 0} (counts : List ℕ → Option C) (reads : Bool) (input : List ℕ) → IfSome (bytes_by reads input) (λ bytes. counts bytes ≡ None)
    → counts (if reads then input else []) ≡ None
refused_by counts true input none = none
refused_by counts false input none = none

-- what grew from nothing
grown : (old new text : List ℕ) → old ≡ [] → new ≡ old ++ text → new ≡ text
grown old new text none grew = grew ∙ ap (λ (l : List ℕ). l ++ text) none

grown_within : (old new text : List ℕ) → old ≡ [] → AppendsPrefix (Some old) (Some new) text → IsPrefix new text
grown_within old new text none (some, within, grew) = subst (λ (l : List ℕ). IsPrefix l text) (sym (grown old new some none grew)) within

-- ---- what the complete input gives

-- of what is known of the bytes that are read, as it is of them
of_read : (P : List ℕ → Type 0) (reads : Bool) (input : List ℕ) → IfSome (bytes_by reads input) P → P (if reads then input else [])
of_read P true input p = p
of_read P false input p = p

stopped_read : (flushed : Option Texts) (reads : Bool) (input : List ℕ) (w w' u u' : Option (List ℕ)) → StopAtOnePlace flushed (bytes_by reads input) w w' u u'
    → StopAtOnePlace flushed (Some (if reads then input else [])) w w' u u'
stopped_read flushed true input w w' u u' stops = stops
stopped_read flushed false input w w' u u' stops = stops

-- ---- a run over memory

module _ {S T U : Type 0} (left : S → List ℕ) (written : T → List ℕ) (writes : T → ℕ) (reported : U → List ℕ) (reports : U → ℕ) where
  abbrev world_at : S → T → U → World S T U
  world_at i o r = world i (Some (left i)) true 0 o (Some (written o)) (writes o) r (Some (reported r)) (reports r)

  whole_of : (job : Job) (i i' : S) (o o' : T) (r r' : U) (counts : Unit {0}) → written o ≡ [] → reported r ≡ []
      → IsDone (meaning_of job) (world_at i o r) (world_at i' o' r') counts → IsWhole job (left i) (made_of (written o') (reported r'))
  whole_of job i i' o o' r r' counts none silent done =
      let m = meaning_of job in
      let all : done.taken ≡ read_by job (left i) = all_taken m.reads (left i) (left i') done.taken done.consumes done.end in
      record {
        accepted = subst (λ (l : List ℕ). IsSome (m.counts l)) all (subst (λ (x : Option (Unit {0})). IsSome x) (sym done.counted) refl);
        fits = subst (λ (l : List ℕ). length l < 2 ^ 32) all (subst (λ (n : ℕ). length done.taken < n) (limit_of job) done.fits);
        output = grown _ _ _ none done.text ∙ ap m.whole.output all;
        report = grown _ _ _ silent done.told ∙ ap m.whole.report all;
      }

  ahead_of : (job : Job) (i i' : S) (o o' : T) (r r' : U) (fault : BridgeFault) → IsBroken (meaning_of job) (world_at i o r) (world_at i' o' r') fault
      → AppendsPrefix (Some (written o)) (Some (written o')) ((meaning_of job).whole.output (read_by job (left i)))
      × AppendsPrefix (Some (reported r)) (Some (reported r')) ((meaning_of job).whole.report (read_by job (left i)))
  ahead_of job i i' o o' r r' fault broke =
      of_read (λ bytes. AppendsPrefix (Some (written o)) (Some (written o')) ((meaning_of job).whole.output bytes)
      × AppendsPrefix (Some (reported r)) (Some (reported r')) ((meaning_of job).whole.report bytes))
      (meaning_of job).reads (left i) broke.ahead

  stops_of : (job : Job) (i i' : S) (o o' : T) (r r' : U) (fault : BridgeFault) → written o ≡ [] → reported r ≡ []
      → IsBroken (meaning_of job) (world_at i o r) (world_at i' o' r') fault
      → StopAtOnePlace (meaning_of job).flushed (Some (read_by job (left i))) (Some []) (Some (written o')) (Some []) (Some (reported r'))
  stops_of job i i' o o' r r' fault none silent broke =
      let m = meaning_of job in
      subst (λ (l : List ℕ). StopAtOnePlace m.flushed (Some (read_by job (left i))) (Some l) (Some (written o')) (Some []) (Some (reported r'))) none
      (subst (λ (l : List ℕ). StopAtOnePlace m.flushed (Some (read_by job (left i))) (Some (written o)) (Some (written o')) (Some l) (Some (reported r'))) silent
      (stopped_read m.flushed m.reads (left i) _ _ _ _ broke.stopped))

  last_of : (job : Job) (i i' : S) (o o' : T) (r r' : U) (fault : BridgeFault) → written o ≡ [] → reported r ≡ []
      → IsBroken (meaning_of job) (world_at i o r) (world_at i' o' r') fault
      → IsPrefix (reported r') ((meaning_of job).rejections (read_by job (left i))) ⊎ (written o' ≡ (meaning_of job).whole.output (read_by job (left i)))
  last_of job i i' o o' r r' fault none silent broke = by broke.counts_last where
    m : Meaning (Unit {0})
    m = meaning_of job

    by : IfSome (bytes_by m.reads (left i)) (λ bytes. AppendsPrefix (Some (reported r)) (Some (reported r')) (m.rejections bytes))
        ⊎ ((fault ≡ ReportFault) × IsAtEnd (bytes_by m.reads (left i')) × Appends (Some (written o)) (Some (written o')) (m.whole.output broke.taken))
        → IsPrefix (reported r') (m.rejections (read_by job (left i))) ⊎ (written o' ≡ m.whole.output (read_by job (left i)))
    by (inl early) =
        inl (grown_within _ _ _ silent (of_read (λ bytes. AppendsPrefix (Some (reported r)) (Some (reported r')) (m.rejections bytes)) m.reads (left i) early))
    by (inr (is, end, all)) =
        inr (grown _ _ _ none all ∙ ap m.whole.output (all_taken m.reads (left i) (left i') broke.taken broke.consumes end))

  begun_of : (job : Job) (i i' : S) (o o' : T) (r r' : U) (fault : BridgeFault) → written o ≡ [] → reported r ≡ []
      → IsBroken (meaning_of job) (world_at i o r) (world_at i' o' r') fault → IsBegun job (left i) (made_of (written o') (reported r'))
  begun_of job i i' o o' r r' fault none silent broke =
      let m = meaning_of job in
      let is : broke.text.prefix ≡ written o' = sym (grown _ _ _ none broke.text.grew) in
      let told : broke.told.prefix ≡ reported r' = sym (grown _ _ _ silent broke.told.grew) in
      record {
        taken = broke.taken;
        prefix = prefix_taken m.reads (left i) (left i') broke.taken broke.consumes;
        output = subst (λ (l : List ℕ). IsPrefix l (m.whole.output broke.taken)) is broke.text.within;
        least = subst (λ (l : List ℕ). IsPrefix (m.least.output broke.taken) l) is broke.text.no_less;
        report = subst (λ (l : List ℕ). IsPrefix l (m.whole.report broke.taken)) told broke.told.within;
        least_report = subst (λ (l : List ℕ). IsPrefix (m.least.report broke.taken) l) told broke.told.no_less;
        ahead_output = grown_within _ _ _ none (ahead_of job i i' o o' r r' fault broke).0;
        ahead_report = grown_within _ _ _ silent (ahead_of job i i' o o' r r' fault broke).1;
        stopped = stops_of job i i' o o' r r' fault none silent broke;
        counts_last = last_of job i i' o o' r r' fault none silent broke;
      }

  nothing_of : (o o' : T) (r r' : U) → written o ≡ [] → reported r ≡ [] → o' ≡ o → r' ≡ r → nothing ≡ made_of (written o') (reported r')
  nothing_of o o' r r' none silent same told =
      sym (ap (λ (x : T). made_of (written x) (reported r')) same ∙ ap (λ (x : U). made_of (written o) (reported x)) told
      ∙ ap (λ (l : List ℕ). made_of l (reported r)) none ∙ ap (λ (l : List ℕ). made_of [] l) silent)

  some_of : (job : Job) (i : S) → IfSome (bytes_by (meaning_of job).reads (left i)) (λ bytes. IsSome ((meaning_of job).counts bytes))
      → IsSome ((meaning_of job).counts (read_by job (left i)))
  some_of job i some = of_read (λ bytes. IsSome ((meaning_of job).counts bytes)) (meaning_of job).reads (left i) some

  by_end : (words : List (List ℕ)) (job : Job) (i i' : S) (o o' : T) (r r' : U) (run : Result (Unit {0}) BridgeFault) → All IsUtf8 words → IsJob words job
      → written o ≡ [] → reported r ≡ [] → Ended (meaning_of job) (world_at i o r) (world_at i' o' r') run
      → HasEndedInMemory words (left i) (made_of (written o') (reported r')) (in_memory (status_of run))
  by_end words job i i' o o' r r' (Ok counts) texts is none silent done =
      whole_end words _ _ job texts is (whole_of job i i' o o' r r' counts none silent done)
  by_end words job i i' o o' r r' (Err ReadFault) texts is none silent broke = absurd (broke.says.2 refl)
  by_end words job i i' o o' r r' (Err WriteFault) texts is none silent broke =
      memory_end words _ _ texts (inr (job, is, (begun_of job i i' o o' r r' WriteFault none silent broke, some_of job i broke.says.1)))
  by_end words job i i' o o' r r' (Err NotThisForm) texts is none silent broke =
      subst (λ (made : Made). HasEndedInMemory words (left i) made 5) (nothing_of o o' r r' none silent broke.says.2 broke.says.3)
      (form_end words (left i) job texts is (refused_by (meaning_of job).counts (meaning_of job).reads (left i) broke.says.1))
  by_end words job i i' o o' r r' (Err NoMemory) texts is none silent broke =
      memory_end words _ _ texts (inr (job, is, (begun_of job i i' o o' r r' NoMemory none silent broke, some_of job i broke.says.1)))
  by_end words job i i' o o' r r' (Err ReportFault) texts is none silent broke =
      memory_end words _ _ texts (inr (job, is, (begun_of job i i' o o' r r' ReportFault none silent broke, some_of job i broke.says.2)))
  by_end words job i i' o o' r r' (Err TooLong) texts is none silent broke =
      long_end words _ _ job texts is (begun_of job i i' o o' r r' TooLong none silent broke)
      (long_taken (meaning_of job).reads (left i) (left i') broke.taken broke.consumes (broke.says ∙ limit_of job))

  -- by what the run of a job ensures
  pub ended_in_memory : {C : Type 0} (m : Meaning C) (words : List (List ℕ)) (job : Job) (i i' : S) (o o' : T) (r r' : U) (run : Result C BridgeFault) (status : ℕ)
      → meaning_of job ≡ uncounted m → All IsUtf8 words → IsJob words job → written o ≡ [] → reported r ≡ []
      → Ended m (world_at i o r) (world_at i' o' r') run → status ≡ in_memory (status_of run)
      → HasEndedInMemory words (left i) (made_of (written o') (reported r')) status
  ended_in_memory m words job i i' o o' r r' run status same texts is none silent ended by =
      subst (λ (s : ℕ). HasEndedInMemory words (left i) (made_of (written o') (reported r')) s) (sym (by ∙ ap in_memory (status_forgotten run)))
      (by_end words job i i' o o' r r' (forget run) texts is none silent
      (subst (λ (n : Meaning (Unit {0})). Ended n (world_at i o r) (world_at i' o' r') (forget run)) (sym same)
      (forgotten m (world_at i o r) (world_at i' o' r') run ended)))

-- there is no job, and nothing was made
pub no_job_made : (words : List (List ℕ)) (input o r : List ℕ) (status : ℕ) → o ≡ [] → r ≡ []
    → ((status ≡ 2) × (¬ GivesJob words) × All IsUtf8 words) ⊎ ((status ≡ 6) × All IsUtf8 words) ⊎ ((status ≡ 9) × (¬ All IsUtf8 words))
    → HasEndedInMemory words input (made_of o r) status
no_job_made words input o r status none silent by =
    subst (λ (l : List ℕ). HasEndedInMemory words input (made_of o l) status) (sym silent)
    (subst (λ (l : List ℕ). HasEndedInMemory words input (made_of l []) status) (sym none) (ends by)) where
      ends : ((status ≡ 2) × (¬ GivesJob words) × All IsUtf8 words) ⊎ ((status ≡ 6) × All IsUtf8 words) ⊎ ((status ≡ 9) × (¬ All IsUtf8 words))
          → HasEndedInMemory words input nothing status
      ends (inl (two, not, texts)) = subst (λ (s : ℕ). HasEndedInMemory words input nothing s) (sym two) (no_job_end words input texts not)
      ends (inr (inl (six, texts))) = subst (λ (s : ℕ). HasEndedInMemory words input nothing s) (sym six) (memory_end words input nothing texts (inl refl))
      ends (inr (inr (nine, not))) = subst (λ (s : ℕ). HasEndedInMemory words input nothing s) (sym nine) (text_end words input not)

-- ---- in the rooms that there are

-- all was made, and there is room for it
fits_end : (words : List (List ℕ)) (input : List ℕ) (made : Made) (room report_room : ℕ) → ((¬ All IsUtf8 words) → ⊥)
    → ForJob words (λ job. IsWhole job input made × (length made.output ≤ room) × (length made.report ≤ report_room))
    → HasEnded words input room report_room made 0
fits_end words input made room report_room texts whole = record {
  done = λ e. whole;
  no_job = λ e. absurd (no 0 2 refl e);
  reads = no 0 3 refl;
  output_short = λ e. absurd (no 0 4 refl e);
  not_this_form = λ e. absurd (no 0 5 refl e);
  no_memory = λ e. absurd (no 0 6 refl e);
  report_short = λ e. absurd (no 0 7 refl e);
  too_long = λ e. absurd (no 0 8 refl e);
  no_text = (λ e. absurd (no 0 9 refl e), λ not. absurd (texts not));
  nothing_of_it = λ e. absurd (no 0 9 refl e);
  known = omega arith;
  not_one = no 0 1 refl;
}

-- or there is none for the output
output_end : (words : List (List ℕ)) (input : List ℕ) (made : Made) (room report_room : ℕ) → ((¬ All IsUtf8 words) → ⊥)
    → ForJob words (λ job. IsWhole job input made × (room < length made.output)) → HasEnded words input room report_room made 4
output_end words input made room report_room texts whole = record {
  done = λ e. absurd (no 4 0 refl e);
  no_job = λ e. absurd (no 4 2 refl e);
  reads = no 4 3 refl;
  output_short = λ e. whole;
  not_this_form = λ e. absurd (no 4 5 refl e);
  no_memory = λ e. absurd (no 4 6 refl e);
  report_short = λ e. absurd (no 4 7 refl e);
  too_long = λ e. absurd (no 4 8 refl e);
  no_text = (λ e. absurd (no 4 9 refl e), λ not. absurd (texts not));
  nothing_of_it = λ e. absurd (no 4 9 refl e);
  known = omega arith;
  not_one = no 4 1 refl;
}

-- or for the report
report_end : (words : List (List ℕ)) (input : List ℕ) (made : Made) (room report_room : ℕ) → ((¬ All IsUtf8 words) → ⊥)
    → ForJob words (λ job. IsWhole job input made × (length made.output ≤ room) × (report_room < length made.report))
    → HasEnded words input room report_room made 7
report_end words input made room report_room texts whole = record {
  done = λ e. absurd (no 7 0 refl e);
  no_job = λ e. absurd (no 7 2 refl e);
  reads = no 7 3 refl;
  output_short = λ e. absurd (no 7 4 refl e);
  not_this_form = λ e. absurd (no 7 5 refl e);
  no_memory = λ e. absurd (no 7 6 refl e);
  report_short = λ e. whole;
  too_long = λ e. absurd (no 7 8 refl e);
  no_text = (λ e. absurd (no 7 9 refl e), λ not. absurd (texts not));
  nothing_of_it = λ e. absurd (no 7 9 refl e);
  known = omega arith;
  not_one = no 7 1 refl;
}

-- any other end is the same in every room
other_end : (words : List (List ℕ)) (input : List ℕ) (made : Made) (room report_room status : ℕ) → (status ≡ 0 → ⊥)
    → HasEndedInMemory words input made status → HasEnded words input room report_room made status
other_end words input made room report_room status ne h = record {
  done = λ e. absurd (ne e);
  no_job = h.no_job;
  reads = h.reads;
  output_short = λ e. let more : length made.output < length made.output = (h.output_short e).2.1 in absurd (omega arith);
  not_this_form = h.not_this_form;
  no_memory = h.no_memory;
  report_short = λ e. let more : length made.report < length made.report = (h.report_short e).2.2 in absurd (omega arith);
  too_long = h.too_long;
  no_text = h.no_text;
  nothing_of_it = h.nothing_of_it;
  known = h.known;
  not_one = h.not_one;
}

in_rooms : (words : List (List ℕ)) (input : List ℕ) (made : Made) (room report_room : ℕ) → ((¬ All IsUtf8 words) → ⊥)
    → (job : Job) → IsJob words job → IsWhole job input made → (more : Bool) → nat_lt room (length made.output) ≡ more
    → (longer : Bool) → nat_lt report_room (length made.report) ≡ longer
    → HasEnded words input room report_room made (if more then 4 else (if longer then 7 else 0))
in_rooms words input made room report_room texts job is whole true long longer told =
    output_end words input made room report_room texts (job, is, (whole, ltb-true room (length made.output) long))
in_rooms words input made room report_room texts job is whole false short true long =
    report_end words input made room report_room texts
    (job, is, (whole, ltb-false room (length made.output) short, ltb-true report_room (length made.report) long))
in_rooms words input made room report_room texts job is whole false short false told =
    fits_end words input made room report_room texts
    (job, is, (whole, ltb-false room (length made.output) short, ltb-false report_room (length made.report) told))

by_zero : (words : List (List ℕ)) (input : List ℕ) (made : Made) (room report_room status : ℕ) → HasEndedInMemory words input made status
    → (zero : Bool) → (status == 0) ≡ zero
    → HasEnded words input room report_room made (if zero then (if nat_lt room (length made.output) then 4
    else (if nat_lt report_room (length made.report) then 7 else 0)) else status)
by_zero words input made room report_room status h true is =
    let zero : status ≡ 0 = eqb-true status 0 is in
    let whole = h.done zero in
    in_rooms words input made room report_room (λ not. no 0 9 refl (sym zero ∙ h.no_text.1 not)) whole.0 whole.1 whole.2.0
    (nat_lt room (length made.output)) refl (nat_lt report_room (length made.report)) refl
by_zero words input made room report_room status h false is =
    other_end words input made room report_room status (λ e. let both : false ≡ true = sym is ∙ eq-eqb status 0 e in cc) h

pub ended_in_room : (words : List (List ℕ)) (input : List ℕ) (made : Made) (room report_room status : ℕ) → HasEndedInMemory words input made status
    → HasEnded words input room report_room made (in_room status (length made.output) (length made.report) room report_room)
ended_in_room words input made room report_room status h = by_zero words input made room report_room status h (status == 0) refl

-- what was made, as it stands in the rooms
pub converted : (words : List (List ℕ)) (input old new : List ℕ) (used : ℕ) (report_old report_new : List ℕ) (report_used : ℕ) (o r text told : List ℕ)
    → (s status room report_room : ℕ) → HasEndedInMemory words input (made_of o r) s
    → StandsIn old new used text → text ≡ o → StandsIn report_old report_new report_used told → told ≡ r
    → room ≡ length new → report_room ≡ length report_new → status ≡ in_room s (length o) (length r) room report_room
    → Converts words input old new used report_old report_new report_used status
converted words input old new used report_old report_new report_used o r text told s status room report_room h stands is tells same size report_size by =
    let whole : in_room s (length o) (length r) (length new) (length report_new) ≡ status =
    sym (by ∙ ap (λ (n : ℕ). in_room s (length o) (length r) n report_room) size
    ∙ ap (λ (n : ℕ). in_room s (length o) (length r) (length new) n) report_size) in
    record {
      made = made_of o r;
      ended = subst (λ (n : ℕ). HasEnded words input (length new) (length report_new) (made_of o r) n) whole
          (ended_in_room words input (made_of o r) (length new) (length report_new) s h);
      output = subst (StandsIn old new used) is stands;
      report = subst (StandsIn report_old report_new report_used) same tells;
    }
