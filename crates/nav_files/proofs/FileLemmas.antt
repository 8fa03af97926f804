-- A file from its header to its end: what was taken of it is what was read.
use Rattle.std.proofs.Common.{◌≡◌, ◌⊎◌, inl, inr, ℕ, true, false, List, [], ◌++◌, refl, sym, ap, subst, ◌∙◌, append-nil}
use Rattle.std.specs.Prelude.{Option, Result, Ok, Err}
use Rattle.std.specs.Io.KnownBytes.{IsAtEnd}
use Rattle.rinex_read.specs.Forms.{Form}
use Rattle.rinex_read.specs.Files.{BeginWith, early_reads, file_reads, whole_reads}
use Rattle.rinex_read.specs.States.{AreEarly, HeaderSteps, IsPaused, RecordsState, Steps, PassesHeader, IsNew, MayCome, file_to_come, is_waiting, records_to_come}
use Rattle.rinex_read.specs.declared.judged.HeaderState.TheVariants.{Passed}
use Rattle.rinex_read.specs.declared.judged.HeaderFault.TheVariants.{NotRinexNav}
use Rattle.one_run.specs.declared.fault.BridgeFault.{BridgeFault}

-- before the header the file is still to come whole
abbrev pub Begins : {R : Type 0} → Form R → Type 0
Begins f = (s : RecordsState) (bytes : List ℕ) → IsNew s → file_to_come f s bytes ≡ file_reads f bytes

-- where the reader has paused, the records that are whole in the bytes were given, and in the header there are none
abbrev pub Wholes : {R : Type 0} → Form R → Type 0
Wholes f = (left middle left_new : Option (List ℕ)) (old now new : RecordsState) (given : List _) → IsNew old
    → (header : PassesHeader f left middle old now) → (steps : Steps f middle left_new now new given) → IsPaused new
    → whole_reads f (header.steps.reads.taken ++ steps.reads.taken) ≡ Ok given

abbrev pub Opens : {R : Type 0} → Form R → Type 0
Opens f = (left left_new : Option (List ℕ)) (old new : RecordsState) → IsNew old → (steps : HeaderSteps f left left_new old new)
    → is_waiting new.header ≡ true → IsPaused new → whole_reads f steps.reads.taken ≡ Err NotRinexNav

-- the records that are whole in all bytes but the last 4,096 were given, and in the header there are none
abbrev pub Earlies : {R : Type 0} → Form R → Type 0
Earlies f = (left middle left_new : Option (List ℕ)) (old now new : RecordsState) (given : List _) → IsNew old
    → (header : PassesHeader f left middle old now) → (steps : Steps f middle left_new now new given) → AreEarly now.lines steps.reads.taken steps.lines
    → BeginWith given (early_reads f (header.steps.reads.taken ++ steps.reads.taken))

abbrev pub NoEarlies : {R : Type 0} → Form R → Type 0
NoEarlies f = (left left_new : Option (List ℕ)) (old new : RecordsState) → IsNew old → (steps : HeaderSteps f left left_new old new)
    → AreEarly old.lines steps.reads.taken steps.lines → (new.header ≡ Passed → ⊥) → early_reads f steps.reads.taken ≡ []

-- after the header its records are to come
pub passed_file : {R : Type 0} (f : Form R) (s : RecordsState) (bytes : List ℕ) → s.header ≡ Passed → file_to_come f s bytes ≡ Ok (records_to_come f s bytes)
passed_file f s bytes passed = rw passed refl

-- the bytes of a header and of records after it
pub file_taken : {R : Type 0} (f : Form R) (left l1 l2 : Option (List ℕ)) (s0 s1 s2 : RecordsState) (given : List R)
    → Begins f → IsNew s0 → (header : PassesHeader f left l1 s0 s1) → (steps : Steps f l1 l2 s1 s2 given)
    → (following : List ℕ) → MayCome s2 following
    → file_reads f (header.steps.reads.taken ++ (steps.reads.taken ++ following)) ≡ Ok (given ++ records_to_come f s2 following)
file_taken f left l1 l2 s0 s1 s2 given begins new header steps following may =
    let behind = steps.reads.taken ++ following in
    let may1 : MayCome s1 behind = λ ended. ap (λ (l : List ℕ). l ++ following) (steps.reads.after_end ended).1 ∙ may (steps.reads.after_end ended).0 in
    sym (begins s0 (header.steps.reads.taken ++ behind) new)
    ∙ header.steps.stream behind may1
    ∙ passed_file f s1 behind header.header
    ∙ ap (λ (l : List _). Ok l) (steps.stream following may)

-- the end of a file: nothing more is to come
pub none_left : {R : Type 0} (f : Form R) (s : RecordsState) → s.kept ≡ [] → s.lines.rest ≡ [] → records_to_come f s [] ≡ []
none_left f s kept rest = rw (kept, rest) refl

-- the bytes of a file that was read to its end
pub file_whole : {R : Type 0} (f : Form R) (left l1 l2 : Option (List ℕ)) (s0 s1 s2 : RecordsState) (given : List R)
    → Begins f → IsNew s0 → (header : PassesHeader f left l1 s0 s1) → (steps : Steps f l1 l2 s1 s2 given)
    → s2.kept ≡ [] → s2.lines.rest ≡ []
    → file_reads f (header.steps.reads.taken ++ steps.reads.taken) ≡ Ok given
file_whole f left l1 l2 s0 s1 s2 given begins new header steps kept rest =
    ap (λ (l : List ℕ). file_reads f (header.steps.reads.taken ++ l)) (sym (append-nil steps.reads.taken))
    ∙ file_taken f left l1 l2 s0 s1 s2 given begins new header steps [] (λ ended. refl)
    ∙ ap (λ (l : List _). Ok (given ++ l)) (none_left f s2 kept rest)
    ∙ ap (λ (l : List _). Ok l) (append-nil given)

-- the bytes of a file that was read to some place
pub file_prefix : {R : Type 0} (f : Form R) (left l1 l2 : Option (List ℕ)) (s0 s1 s2 : RecordsState) (given : List R)
    → Begins f → IsNew s0 → (header : PassesHeader f left l1 s0 s1) → (steps : Steps f l1 l2 s1 s2 given)
    → file_reads f (header.steps.reads.taken ++ steps.reads.taken) ≡ Ok (given ++ records_to_come f s2 [])
file_prefix f left l1 l2 s0 s1 s2 given begins new header steps =
    ap (λ (l : List ℕ). file_reads f (header.steps.reads.taken ++ l)) (sym (append-nil steps.reads.taken))
    ∙ file_taken f left l1 l2 s0 s1 s2 given begins new header steps [] (λ ended. refl)

no_end : (s : RecordsState) → s.lines.ended ≡ false → s.lines.ended ≡ true → ⊥
no_end s more ended = cc

-- at the end of the lines the input is at its end
pub ends_there : {R : Type 0} (f : Form R) (left l1 l2 : Option (List ℕ)) (s0 s1 s2 : RecordsState) (given : List R)
    → IsNew s0 → (header : PassesHeader f left l1 s0 s1) → (steps : Steps f l1 l2 s1 s2 given)
    → s2.lines.ended ≡ true → IsAtEnd l2
ends_there f left l1 l2 s0 s1 s2 given new header steps ended = ends_from (steps.reads.at_end ended) where
  first : (s0.lines.ended ≡ true) ⊎ IsAtEnd l1 → IsAtEnd l1
  first (inl early) = absurd (no_end s0 new.ended early)
  first (inr end) = end

  ends_from : (s1.lines.ended ≡ true) ⊎ IsAtEnd l2 → IsAtEnd l2
  ends_from (inr end) = end
  ends_from (inl early) = subst IsAtEnd (sym (steps.reads.after_end early).2) (first (header.steps.reads.at_end early))

-- faults are equal where the answers are
pub err_same : {T : Type 0} (a b : BridgeFault) (r s : Result T BridgeFault) → r ≡ Err a → s ≡ Err b → r ≡ s → a ≡ b
err_same a b r s ra sb is = cc
