-- A reader that has paused has given what the whole records of the bytes give.
use Rattle.std.proofs.Common.{◌≡◌, ℕ, ◌==◌, Bool, true, false, if◌then◌else◌, List, [], ◌∷◌, ◌++◌, map, Ok, Err, refl, sym, ap, ◌∙◌, append-nil}
use Rattle.std.specs.Prelude.{Option}
use Rattle.std.proofs.lemmas.List.{map-append}
use Rattle.nav_io.specs.Lines.{Line, ends, lines_by, pieces, with_prefix, line_of}
use Rattle.nav_io.specs.LinesState.{Reads}
use Rattle.nav_io.proofs.Surface.{reads_more}
use Rattle.rinex_read.specs.declared.judged.HeaderState.{HeaderState}
use Rattle.rinex_read.specs.declared.judged.HeaderState.TheVariants.{New, Open, Passed, NotRinexNav, OtherVersion}
use Rattle.rinex_read.specs.declared.judged.HeaderFault.TheVariants as faults
use Rattle.rinex_read.specs.Lines.{text_of_line}
use Rattle.rinex_read.specs.Forms.{Form, LooksAtKept}
use Rattle.rinex_read.specs.Files.{but_last, header_of, reads_behind, whole_behind, whole_reads}
use Rattle.rinex_read.specs.States.{HeaderSteps, IsNew, IsPaused, MayStand, PassesHeader, RecordsState, Steps, file_by, held_reads, is_waiting}
use Rattle.rinex_read.proofs.FormLemmas.{ended_told}
use Rattle.rinex_read.proofs.StepLemmas.{none_behind}
use Rattle.rinex_read.proofs.TakeLemmas.{none_whole}

no_line : (xs : List ℕ) → ends xs ≡ false → lines_by true xs ≡ []
no_line xs none = ap (map line_of) (no_piece xs none) where
  step : (b e : Bool) (x : ℕ) (ps : List (List ℕ)) → (if b then true else e) ≡ false → (e ≡ false → ps ≡ []) → (if b then [] ∷ ps else with_prefix true x ps) ≡ []
  step true e x ps h f = absurd cc
  step false e x ps h f = ap (with_prefix true x) (f h)

  no_piece : (xs : List ℕ) → ends xs ≡ false → pieces true xs ≡ []
  no_piece [] h = refl
  no_piece (x ∷ xs) h = step (x == 10) (ends xs) x (pieces true xs) h (no_piece xs)

no_end : (s : RecordsState) → s.lines.ended ≡ false → s.lines.ended ≡ true → ⊥
no_end s more ended = cc

-- the complete lines of the bytes are those that were given
lines_are : (left left_new : Option (List ℕ)) (old new : RecordsState) (lines : List Line) → (r : Reads left left_new old.lines new.lines lines) → IsNew old → IsPaused new
    → lines_by true r.taken ≡ lines
lines_are left left_new old new lines r first paused =
    ap (λ (l : List ℕ). lines_by true (l ++ r.taken)) (sym first.rest)
    ∙ ap (λ (l : List ℕ). lines_by true (old.lines.rest ++ l)) (sym (append-nil r.taken))
    ∙ r.stream true [] (λ ended. absurd (no_end new paused.more ended))
    ∙ ap (λ (l : List ℕ). lines ++ lines_by true l) (append-nil new.lines.rest)
    ∙ ap (λ (l : List Line). lines ++ l) (no_line new.lines.rest paused.none)
    ∙ append-nil lines

-- what is whole in these bytes, by the lines
by_lines : {R : Type 0} (f : Form R) → LooksAtKept f → (old : RecordsState) (taken : List ℕ) (lines : List Line) → IsNew old → lines_by true taken ≡ lines
    → whole_reads f taken ≡ whole_behind (file_by f old.header old (map text_of_line lines))
by_lines f law old taken lines first are =
    sym (ap whole_behind (ended_told f law 0 taken))
    ∙ ap (λ (ls : List Line). whole_behind (reads_behind f (header_of f 0 (map text_of_line ls)))) are
    ∙ ap (λ (n : ℕ). whole_behind (reads_behind f (header_of f n (map text_of_line lines)))) (sym first.number)
    ∙ ap (λ (h : HeaderState). whole_behind (file_by f h old (map text_of_line lines))) (sym first.header)

-- after the header
pub records_whole : {R : Type 0} (f : Form R) → LooksAtKept f → (left middle left_new : Option (List ℕ)) (old now new : RecordsState) (given : List R) → IsNew old
    → (header : PassesHeader f left middle old now) → (steps : Steps f middle left_new now new given) → IsPaused new
    → whole_reads f (header.steps.reads.taken ++ steps.reads.taken) ≡ Ok given
records_whole f law left middle left_new old now new given first header steps paused =
    let some = header.steps.lines in
    let more = steps.lines in
    let texts = map text_of_line more in
    let all = reads_more left middle left_new old.lines now.lines new.lines some more header.steps.reads steps.reads in
    let may : MayStand now texts = λ ended rest. ap (map text_of_line) (none_behind middle left_new now.lines new.lines more steps.reads ended rest).0 in
    by_lines f law old (header.steps.reads.taken ++ steps.reads.taken) (some ++ more) first (lines_are left left_new old new (some ++ more) all first paused)
    ∙ ap (λ (ls : List (List ℕ)). whole_behind (file_by f old.header old ls)) (map-append text_of_line some more)
    ∙ ap whole_behind (header.steps.told texts may)
    ∙ ap (λ (h : HeaderState). whole_behind (file_by f h now texts)) header.header
    ∙ ap (λ (ls : List (List ℕ)). Ok (but_last (held_reads f now.kept now.first now.lines.number ls))) (sym (append-nil texts))
    ∙ ap Ok (steps.whole (λ over. no_end new paused.more over.ended) [])
    ∙ ap (λ (l : List _). Ok (given ++ l)) (none_whole f new.kept new.first new.lines.number)
    ∙ ap Ok (append-nil given)

-- in the header
pub header_open : {R : Type 0} (f : Form R) → LooksAtKept f → (left left_new : Option (List ℕ)) (old new : RecordsState) → IsNew old
    → (steps : HeaderSteps f left left_new old new) → is_waiting new.header ≡ true → IsPaused new → whole_reads f steps.reads.taken ≡ Err faults.NotRinexNav
header_open f law left left_new old new first steps waits paused =
    by_lines f law old steps.reads.taken steps.lines first (lines_are left left_new old new steps.lines steps.reads first paused)
    ∙ ap (λ (ls : List (List ℕ)). whole_behind (file_by f old.header old ls)) (sym (append-nil (map text_of_line steps.lines)))
    ∙ ap whole_behind (steps.told [] (λ ended rest. refl))
    ∙ none new.header waits
  where
    none : (h : HeaderState) → is_waiting h ≡ true → whole_behind (file_by f h new []) ≡ Err faults.NotRinexNav
    none New h = refl
    none Open h = refl
    none Passed h = absurd (cc)
    none NotRinexNav h = absurd (cc)
    none OtherVersion h = absurd (cc)
