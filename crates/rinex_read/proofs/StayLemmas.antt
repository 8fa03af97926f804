-- What a reader of records answers from the first call on, after the end, and after too many bytes.
use Rattle.std.proofs.Common.{◌≡◌, ℕ, ◌+◌, ◌^◌, ◌<◌, List, [], ◌∷◌, ◌++◌, true, false, length, refl, ap, ◌∙◌, arith}
use Rattle.std.specs.Prelude.{Option, Some, None}
use Rattle.nav_io.specs.declared.lines.LineFault.{LineFault}
use Rattle.nav_io.specs.declared.lines.LineFault.TheVariants.{ReadFault, TooLong}
use Rattle.rinex_read.specs.declared.judged.HeaderFault.{HeaderFault}
use Rattle.rinex_read.specs.declared.judged.HeaderFault.TheVariants as faults
use Rattle.rinex_read.specs.Lines.{lines_stated}
use Rattle.rinex_read.specs.Forms.{Form, LooksAtKept}
use Rattle.rinex_read.specs.Files.{header_of, reads_behind, file_reads}
use Rattle.rinex_read.specs.States.{RecordsState, records_to_come, file_by, file_to_come, is_waiting, IsNew, GivesRecord, GivesRead, BreaksRecord, PassesHeader, BreaksHeader}
use Rattle.rinex_read.proofs.FormLemmas.{file_told}
use Rattle.rinex_read.proofs.StepLemmas.{nothing_to_come}

pub begins_with_file : {R : Type 0} (f : Form R) → LooksAtKept f → (s : RecordsState) (bytes : List ℕ) → IsNew s → file_to_come f s bytes ≡ file_reads f bytes
begins_with_file f law s bytes is =
    ap (λ h. file_by f h s (lines_stated (s.lines.rest ++ bytes))) is.header
    ∙ ap (λ n. reads_behind f (header_of f n (lines_stated (s.lines.rest ++ bytes)))) is.number
    ∙ ap (λ (rest : List ℕ). reads_behind f (header_of f 0 (lines_stated (rest ++ bytes)))) is.rest
    ∙ file_told f law 0 bytes

no_record : {R : Type 0} (f : Form R) (read : R) (o q : Option (List ℕ)) (s t : RecordsState) → s.kept ≡ [] → s.lines.rest ≡ [] → s.lines.ended ≡ true → GivesRecord f o q s t read → ⊥
no_record f read o q s t kept rest ended g =
    let after = g.steps.reads.after_end ended in
    let given : records_to_come f s (g.steps.reads.taken ++ []) ≡ read ∷ records_to_come f t [] = g.steps.stream [] (λ e. refl) in
    let none = nothing_to_come f s g.steps.reads.taken kept rest after.1 in
    absurd (cc)

pub end_stays : {R : Type 0} (f : Form R) (read : Option R) (o q : Option (List ℕ)) (s t : RecordsState) → s.kept ≡ [] → s.lines.rest ≡ [] → s.lines.ended ≡ true → GivesRead f read o q s t → read ≡ None
end_stays f (Some read) o q s t kept rest ended g = absurd (no_record f read o q s t kept rest ended g)
end_stays f None o q s t kept rest ended g = refl

pub end_unbroken : {R : Type 0} (f : Form R) (fault : LineFault) (o q : Option (List ℕ)) (s t : RecordsState) → s.lines.ended ≡ true → s.lines.taken < 2 ^ 32 → BreaksRecord f o q s t fault → ⊥
end_unbroken f ReadFault o q s t ended low b = let after = b.steps.reads.after_end ended in let more : t.lines.ended ≡ false = b.by.0 in let end : t.lines.ended ≡ true = after.0 in absurd (cc)
end_unbroken f TooLong o q s t ended low b = let after = b.steps.reads.after_end ended in
    let many : t.lines.taken ≡ 2 ^ 32 = b.by in
    let none : t.lines.taken ≡ s.lines.taken + 0 = b.steps.reads.count ∙ ap (λ (l : List ℕ). s.lines.taken + length l) after.1 in
    absurd (omega arith)

record_low : {R : Type 0} (f : Form R) (read : R) (o q : Option (List ℕ)) (s t : RecordsState) → s.lines.taken ≡ 2 ^ 32 → GivesRecord f o q s t read → ⊥
record_low f read o q s t many g = absurd (omega (arith, g.low, g.steps.reads.count))

pub many_stay : {R : Type 0} (f : Form R) (read : Option R) (o q : Option (List ℕ)) (s t : RecordsState) → s.lines.taken ≡ 2 ^ 32 → GivesRead f read o q s t → ⊥
many_stay f (Some read) o q s t many g = record_low f read o q s t many g
many_stay f None o q s t many g = absurd (omega (arith, g.low, g.steps.reads.count))

pub many_unread : {R : Type 0} (f : Form R) (o q : Option (List ℕ)) (s t : RecordsState) → s.lines.taken ≡ 2 ^ 32 → BreaksRecord f o q s t ReadFault → ⊥
many_unread f o q s t many b = absurd (omega (arith, b.by.1, b.steps.reads.count))

pub many_unpassed : {R : Type 0} (f : Form R) (o q : Option (List ℕ)) (s t : RecordsState) → s.lines.taken ≡ 2 ^ 32 → is_waiting s.header ≡ true → PassesHeader f o q s t → ⊥
many_unpassed f o q s t many waits p = absurd (omega (arith, p.low waits, p.steps.reads.count))

pub many_refused : {R : Type 0} (f : Form R) (fault : HeaderFault) (o q : Option (List ℕ)) (s t : RecordsState) → s.lines.taken ≡ 2 ^ 32 → is_waiting s.header ≡ true → BreaksHeader f o q s t fault → fault ≡ faults.Line TooLong
many_refused f faults.NotRinexNav o q s t many waits b = absurd (omega (arith, b.by.1 waits, b.steps.reads.count))
many_refused f faults.Version o q s t many waits b = absurd (omega (arith, b.by.1 waits, b.steps.reads.count))
many_refused f (faults.Line ReadFault) o q s t many waits b = absurd (omega (arith, b.by.1.1, b.steps.reads.count))
many_refused f (faults.Line TooLong) o q s t many waits b = refl
