-- Records after records: what was written and reported of them, and what is held.
use Rattle.std.proofs.Common.{◌≡◌, ◌⊎◌, inl, inr, ℕ, ◌+◌, ◌<◌, ◌^◌, Bool, true, List, [], ◌∷◌, ◌++◌, length, refl, sym, ap, subst, ◌∙◌, arith, append_assoc, append-nil, length-append}
use Rattle.std.specs.Prelude.{Option}
use Rattle.std.specs.Io.KnownBytes.{Appends}
use Rattle.nav_io.specs.Prefix.{IsPrefix}
use Rattle.rinex_read.specs.Files.{BeginWith, but_last}
use Rattle.rinex_read.specs.Forms.{Form}
use Rattle.rinex_read.specs.States.{EarlySteps, IsPaused, NearSteps, RecordsState, GivesRecord, GivesNone}
use Rattle.one_run.specs.declared.fault.BridgeFault.{BridgeFault}
use Rattle.one_run.specs.declared.fault.BridgeFault.TheVariants.{ReadFault, WriteFault, ReportFault, NotThisForm, TooLong, NoMemory}
use Rattle.one_run.specs.Runs.{AppendsBetween}
use Rattle.one_run.proofs.Surface.{prefix_nil, prefix_same}
use Rattle.nav_files.specs.Files.{text_before}
use Rattle.nav_files.specs.Mirrors.{BreaksRead}
use Rattle.nav_files.specs.Taken.{TakenReads, TakesAll, TakesPart}
use Rattle.nav_files.proofs.RecordLemmas.{AreNear, Follow, FollowEarly, left_few}

-- ---- all but the last

-- of records and one more
pub last_behind : {R : Type 0} (xs : List R) (x : R) → but_last (xs ++ x ∷ []) ≡ xs
last_behind [] x = refl
last_behind (y ∷ []) x = refl
last_behind (y ∷ z ∷ zs) x = ap (λ (l : List _). y ∷ l) (last_behind (z ∷ zs) x)

last_within : {R : Type 0} (xs rest : List R) → BeginWith (but_last (xs ++ rest)) (but_last xs)
last_within [] rest = (but_last rest, refl)
last_within (x ∷ []) rest = (but_last (x ∷ rest), refl)
last_within (x ∷ y ∷ ys) rest = let more = last_within (y ∷ ys) rest in (more.0, ap (λ (l : List _). x ∷ l) more.1)

last_prefix : {R : Type 0} (xs : List R) → BeginWith xs (but_last xs)
last_prefix [] = ([], refl)
last_prefix (x ∷ []) = (x ∷ [], refl)
last_prefix (x ∷ y ∷ ys) = let more = last_prefix (y ∷ ys) in (more.0, ap (λ (l : List _). x ∷ l) more.1)

-- what is written of records is a prefix of what is written of those that begin with them
pub text_within : {R : Type 0} (text : List R → List ℕ) → ((some more : List R) → IsPrefix (text some) (text (some ++ more))) → (all some : List R) → BeginWith all some → IsPrefix (text some) (text all)
text_within text grows all some (rest, e) = subst (λ (l : List _). IsPrefix (text some) (text l)) (sym e) (grows some rest)

-- and what is written before the last of all
pub before_last : {R : Type 0} (text : List R → List ℕ) → ((some more : List R) → IsPrefix (text some) (text (some ++ more))) → (all some : List R) → BeginWith all some → IsPrefix (text (but_last some)) (text all)
before_last text grows all some (rest, e) =
    let prefix = last_prefix some in
    text_within text grows all (but_last some) (prefix.0 ++ rest, e ∙ ap (λ (l : List _). l ++ rest) prefix.1 ∙ append_assoc (but_last some) prefix.0 rest)

-- the least of records with which these begin
pub least_before : {R : Type 0} (text : List R → List ℕ) → ((some more : List R) → IsPrefix (text some) (text (some ++ more))) → (all some : List R) → BeginWith all some → IsPrefix (text_before text some) (text (but_last all))
least_before text grows all [] prefix = prefix_nil (text (but_last all))
least_before text grows all (r ∷ rs) (rest, e) =
    text_within text grows (but_last all) (but_last (r ∷ rs)) (subst (λ (l : List _). BeginWith (but_last l) (but_last (r ∷ rs))) (sym e) (last_within (r ∷ rs) rest))

pub least_all : {R : Type 0} (text : List R → List ℕ) → ((some more : List R) → IsPrefix (text some) (text (some ++ more))) → (all some : List R) → BeginWith all some → IsPrefix (text_before text some) (text all)
least_all text grows all [] prefix = prefix_nil (text all)
least_all text grows all (r ∷ rs) prefix = before_last text grows all (r ∷ rs) prefix

-- ---- what was taken

-- nothing was taken
pub taken_start : {R : Type 0} (f : Form R) (text told : List R → List ℕ) (holds : List R → Type 0) (left w u : Option (List ℕ)) (s : RecordsState)
    → NearSteps f left left s s [] → holds [] → TakenReads f text told holds left left s s w w u u
taken_start f text told holds left w u s none held = record {
  given = [];
  steps = none.steps;
  near = none.near;
  held = held;
  output = λ start begun. begun;
  report = λ start begun. begun;
  few = omega arith;
}

-- a record more was taken
pub taken_more : {R : Type 0} (f : Form R) (text told : List R → List ℕ) (old_holds holds : List R → Type 0) (left l1 l2 w w1 w2 u u1 u2 : Option (List ℕ)) (s0 s1 s2 : RecordsState) (read : R)
    → Follow f → TakenReads f text told old_holds left l1 s0 s1 w w1 u u1 → GivesRecord f l1 l2 s1 s2 read
    → ((reads : List R) → old_holds reads → holds (reads ++ read ∷ []))
    → ((reads : List R) (start : Option (List ℕ)) → old_holds reads → Appends start w1 (text reads) → Appends start w2 (text (reads ++ read ∷ [])))
    → ((reads : List R) (start : Option (List ℕ)) → old_holds reads → Appends start u1 (told reads) → Appends start u2 (told (reads ++ read ∷ [])))
    → TakenReads f text told holds left l2 s0 s2 w w2 u u2
taken_more f text told old_holds holds left l1 l2 w w1 w2 u u1 u2 s0 s1 s2 read follow far gives held output report =
    let all = follow left l1 l2 s0 s1 s2 far.given (read ∷ []) (record { steps = far.steps; near = far.near }) (record { steps = gives.steps; near = gives.near }) in
    record {
      given = far.given ++ read ∷ [];
      steps = all.steps;
      near = all.near;
      held = held far.given far.held;
      output = λ start begun. output far.given start far.held (far.output start begun);
      report = λ start begun. report far.given start far.held (far.report start begun);
      few = omega (arith, length-append far.given (read ∷ []), far.few, gives.nearer);
    }

-- there is room for one
pub room_for : {R : Type 0} (f : Form R) (text told : List R → List ℕ) (holds : List R → Type 0) (left l1 w w1 u u1 : Option (List ℕ)) (s0 s1 : RecordsState)
    → (far : TakenReads f text told holds left l1 s0 s1 w w1 u u1) → length far.given + 1 < 2 ^ 64
room_for f text told holds left l1 w w1 u u1 s0 s1 far = omega (arith, far.few, left_few s0)

-- it was not taken to its end
pub part_of_take : {R : Type 0} (f : Form R) (text told : List R → List ℕ) (holds : List R → Type 0) (memory : Bool) (left l1 l2 w w1 w2 u u1 u2 : Option (List ℕ)) (s0 s1 s2 : RecordsState) (read : R) (fault : BridgeFault)
    → Follow f → AreNear f → TakenReads f text told holds left l1 s0 s1 w w1 u u1 → GivesRecord f l1 l2 s1 s2 read
    → ((reads : List R) (start : Option (List ℕ)) → holds reads → Appends start w1 (text reads) → AppendsBetween start w2 (text reads) (text (reads ++ read ∷ [])))
    → ((reads : List R) (start : Option (List ℕ)) → holds reads → Appends start u1 (told reads) → AppendsBetween start u2 (told reads) (told (reads ++ read ∷ [])))
    → (fault ≡ WriteFault) ⊎ ((fault ≡ ReportFault) ⊎ ((fault ≡ NoMemory) × (memory ≡ true)))
    → TakesPart f text told memory left l2 s0 s2 w w2 u u2 fault
part_of_take f text told holds memory left l1 l2 w w1 w2 u u1 u2 s0 s1 s2 read fault follow nears far gives output report kind =
    let all = nears left l2 s0 s2 (far.given ++ read ∷ [])
    (follow left l1 l2 s0 s1 s2 far.given (read ∷ []) (record { steps = far.steps; near = far.near }) (record { steps = gives.steps; near = gives.near })) in
    record {
      given = far.given ++ read ∷ [];
      steps = all.steps;
      early = all.early;
      output = λ start begun. subst (λ (l : List _). AppendsBetween start w2 (text l) (text (far.given ++ read ∷ []))) (sym (last_behind far.given read))
          (output far.given start far.held (far.output start begun));
      report = λ start begun. subst (λ (l : List _). AppendsBetween start u2 (told l) (told (far.given ++ read ∷ []))) (sym (last_behind far.given read))
          (report far.given start far.held (far.report start begun));
      form = λ is. no_form kind is;
      too_long = λ is. absurd (no_length kind is);
      wants = λ is. (wants kind is, gives.low);
      exact = λ is. absurd (no_read kind is);
    }
  where
    no_form : (fault ≡ WriteFault) ⊎ ((fault ≡ ReportFault) ⊎ ((fault ≡ NoMemory) × (memory ≡ true))) → fault ≡ NotThisForm → ⊥
    no_form (inl w) is = cc
    no_form (inr (inl u)) is = cc
    no_form (inr (inr (m, t))) is = cc

    no_read : (fault ≡ WriteFault) ⊎ ((fault ≡ ReportFault) ⊎ ((fault ≡ NoMemory) × (memory ≡ true))) → fault ≡ ReadFault → ⊥
    no_read (inl w) is = cc
    no_read (inr (inl u)) is = cc
    no_read (inr (inr (m, t))) is = cc

    no_length : (fault ≡ WriteFault) ⊎ ((fault ≡ ReportFault) ⊎ ((fault ≡ NoMemory) × (memory ≡ true))) → fault ≡ TooLong → ⊥
    no_length (inl w) is = cc
    no_length (inr (inl u)) is = cc
    no_length (inr (inr (m, t))) is = cc

    wants : (fault ≡ WriteFault) ⊎ ((fault ≡ ReportFault) ⊎ ((fault ≡ NoMemory) × (memory ≡ true))) → fault ≡ NoMemory → memory ≡ true
    wants (inl w) is = absurd (let none : WriteFault ≡ NoMemory = sym w ∙ is in cc)
    wants (inr (inl u)) is = absurd (let none : ReportFault ≡ NoMemory = sym u ∙ is in cc)
    wants (inr (inr (m, t))) is = t

-- the reader broke off
pub part_of_break : {R : Type 0} (f : Form R) (text told : List R → List ℕ) (holds : List R → Type 0) (memory : Bool) (left l1 l2 w w1 u u1 : Option (List ℕ)) (s0 s1 s2 : RecordsState) (fault : BridgeFault)
    → FollowEarly f → ((some more : List R) → IsPrefix (text some) (text (some ++ more))) → ((some more : List R) → IsPrefix (told some) (told (some ++ more))) → TakenReads f text told holds left l1 s0 s1 w w1 u u1 → BreaksRead f l1 l2 s1 s2 fault
    → TakesPart f text told memory left l2 s0 s2 w w1 u u1 fault
part_of_break f text told holds memory left l1 l2 w w1 u u1 s0 s1 s2 fault follow grows tells far breaks = by fault breaks where
  part : (fault : BridgeFault) → EarlySteps f l1 l2 s1 s2 [] → (fault ≡ NotThisForm → ⊥) → (fault ≡ TooLong → s2.lines.taken ≡ 2 ^ 32) → (fault ≡ NoMemory → ⊥) → (fault ≡ ReadFault → IsPaused s2)
      → TakesPart f text told memory left l2 s0 s2 w w1 u u1 fault
  part fault steps form long short paused =
      let all = subst (EarlySteps f left l2 s0 s2) (append-nil far.given) (follow left l1 l2 s0 s1 s2 far.given [] (record { steps = far.steps; near = far.near }) steps) in
      record {
        given = far.given;
        steps = all.steps;
        early = all.early;
        output = λ start begun. record {
          prefix = text far.given;
          within = prefix_same (text far.given);
          no_less = before_last text grows far.given far.given ([], sym (append-nil far.given));
          grew = far.output start begun;
        };
        report = λ start begun. record {
          prefix = told far.given;
          within = prefix_same (told far.given);
          no_less = before_last told tells far.given far.given ([], sym (append-nil far.given));
          grew = far.report start begun;
        };
        form = form;
        too_long = long;
        wants = λ is. absurd (short is);
        exact = λ is. (paused is, far.output, far.report);
      }

  by : (fault : BridgeFault) → BreaksRead f l1 l2 s1 s2 fault → TakesPart f text told memory left l2 s0 s2 w w1 u u1 fault
  by ReadFault breaks = part ReadFault (record { steps = breaks.steps; early = breaks.early }) (λ is. cc) (λ is. absurd (let none : ReadFault ≡ TooLong = is in cc)) (λ is. cc)
      (λ is. record { more = breaks.by.0; none = breaks.by.2 })
  by TooLong breaks = part TooLong (record { steps = breaks.steps; early = breaks.early }) (λ is. cc) (λ is. breaks.by) (λ is. cc)
      (λ is. absurd (let none : TooLong ≡ ReadFault = is in cc))
  by WriteFault breaks = absurd breaks
  by ReportFault breaks = absurd breaks
  by NotThisForm breaks = absurd breaks
  by NoMemory breaks = absurd breaks

-- no record is left
pub takes_all : {R : Type 0} (f : Form R) (text told : List R → List ℕ) (holds : List R → Type 0) (left l1 l2 w w1 u u1 : Option (List ℕ)) (s0 s1 s2 : RecordsState)
    → Follow f → TakenReads f text told holds left l1 s0 s1 w w1 u u1 → GivesNone f l1 l2 s1 s2
    → TakesAll f text told holds left l2 s0 s2 w w1 u u1
takes_all f text told holds left l1 l2 w w1 u u1 s0 s1 s2 follow far none =
    let all = subst (NearSteps f left l2 s0 s2) (append-nil far.given)
    (follow left l1 l2 s0 s1 s2 far.given [] (record { steps = far.steps; near = far.near }) (record { steps = none.steps; near = none.near })) in
    record {
      given = far.given;
      steps = all.steps;
      near = all.near;
      held = far.held;
      output = far.output;
      report = far.report;
      end = record { kept = none.kept; rest = none.rest; ended = none.ended; low = none.low };
    }
