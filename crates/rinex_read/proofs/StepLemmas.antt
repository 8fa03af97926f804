-- Steps of a reader of records, one after another.
use Rattle.std.specs.Prelude.{◌≡◌, ◌==◌, ◌++◌, ◌∷◌, ℕ, Bool, true, false, if◌then◌else◌, List, [], map, Option, refl}
use Rattle.std.proofs.Common.{sym, ap, ◌∙◌, append_assoc, append-nil}
use Rattle.std.proofs.lemmas.List.{map-append}
use Rattle.nav_io.specs.Lines.{Line, line_of, lines_by, pieces, with_prefix}
use Rattle.nav_io.specs.LinesState.{LinesState, Reads}
use Rattle.nav_io.proofs.Surface.{reads_none, reads_more}
use Rattle.rinex_read.specs.Forms.{Form}
use Rattle.rinex_read.specs.Lines.{text_of_line, lines_stated}
use Rattle.rinex_read.specs.Files.{but_last, reads}
use Rattle.rinex_read.specs.States.{IsOver, MayStand, RecordsState, held_reads, records_to_come, file_by, file_to_come, Steps, HeaderSteps}
use Rattle.rinex_read.proofs.TakeLemmas.{held_nil}

abbrev pub steps_none : {R : Type 0} (f : Form R) (o : Option (List ℕ)) (s : RecordsState) → Steps f o o s s []
steps_none f o s = record { lines = []; reads = reads_none o s.lines; header = refl; stream = λ following may. refl; whole = λ over next. refl }

none_after : (a b : List ℕ) → a ≡ [] → b ≡ [] → a ++ b ≡ []
none_after a b x y = rw (x, y) refl

-- the bytes of two steps concatenated
pub may_before : (p q : Option (List ℕ)) (s t : LinesState) (g : List Line) (r : Reads p q s t g) (following : List ℕ) → (t.ended ≡ true → following ≡ []) → s.ended ≡ true → r.taken ++ following ≡ []
may_before p q s t g r following may ended =
    let after = r.after_end ended in
    none_after r.taken following after.1 (may after.0)

-- ---- the end

-- no text is in no lines
nothing_there : (xs : List ℕ) → lines_by false xs ≡ [] → xs ≡ []
nothing_there [] e = refl
nothing_there (x ∷ xs) e = absurd (by (x == 10) (pieces false xs) e) where
  by : (b : Bool) (ps : List (List ℕ)) → map line_of (if b then [] ∷ ps else with_prefix false x ps) ≡ [] → ⊥
  by true ps e = cc
  by false [] e = cc
  by false (p ∷ ps) e = cc

both_none : {X : Type 0} (xs ys : List X) → [] ≡ xs ++ ys → (xs ≡ []) × (ys ≡ [])
both_none [] ys e = (refl, sym e)
both_none (x ∷ xs) ys e = absurd (cc)

-- after the end there is no line
pub none_behind : (p q : Option (List ℕ)) (s t : LinesState) (lines : List Line) → Reads p q s t lines → s.ended ≡ true → s.rest ≡ []
    → (lines ≡ []) × (t.rest ≡ []) × (t.ended ≡ true)
none_behind p q s t lines r ended rest =
    let after = r.after_end ended in
    let nothing : s.rest ++ (r.taken ++ []) ≡ [] = rw (rest, after.1) refl in
    let none = both_none lines (lines_by false (t.rest ++ [])) (ap (lines_by false) (sym nothing) ∙ r.stream false [] (λ e. (refl, refl))) in
    (none.0, sym (append-nil t.rest) ∙ nothing_there (t.rest ++ []) none.1, after.0)

pub may_stand : (p q : Option (List ℕ)) (s t : RecordsState) (lines : List Line) → Reads p q s.lines t.lines lines → (next : List (List ℕ)) → MayStand t next → MayStand s (map text_of_line lines ++ next)
may_stand p q s t lines r next may ended rest =
    let none = none_behind p q s.lines t.lines lines r ended rest in
    ap (λ (ls : List Line). map text_of_line ls ++ next) none.0 ∙ may none.2 none.1

pub nothing_to_come : {R : Type 0} (f : Form R) (s : RecordsState) (taken : List ℕ) → s.kept ≡ [] → s.lines.rest ≡ [] → taken ≡ [] → records_to_come f s (taken ++ []) ≡ []
nothing_to_come f s taken kept rest none =
    ap (λ (ks : List (List ℕ)). held_reads f ks s.first s.lines.number (lines_stated (s.lines.rest ++ (taken ++ [])))) kept
    ∙ ap (λ (r : List ℕ). reads f s.lines.number (lines_stated (r ++ (taken ++ [])))) rest
    ∙ ap (λ (t : List ℕ). reads f s.lines.number (lines_stated (t ++ []))) none

-- the end stays
pub over_stays : {R : Type 0} (f : Form R) (p q : Option (List ℕ)) (s t : RecordsState) (given : List R) → Steps f p q s t given → IsOver s → IsOver t
over_stays f p q s t given steps over =
    let none = none_behind p q s.lines t.lines steps.lines steps.reads over.ended over.rest in
    let nothing = both_none given (records_to_come f t [])
    (sym (nothing_to_come f s steps.reads.taken over.kept over.rest (steps.reads.after_end over.ended).1) ∙ steps.stream [] (λ e. refl)) in
    record { kept = held_nil f t.kept t.first t.lines.number (lines_stated (t.lines.rest ++ [])) nothing.1; rest = none.1; ended = none.2 }

-- ---- concatenated

-- lines after lines
pub lines_behind : (some more : List Line) (next : List (List ℕ)) → map text_of_line (some ++ more) ++ next ≡ map text_of_line some ++ (map text_of_line more ++ next)
lines_behind some more next =
    ap (λ (ls : List (List ℕ)). ls ++ next) (map-append text_of_line some more) ∙ append_assoc (map text_of_line some) (map text_of_line more) next

abbrev pub steps_more : {R : Type 0} (f : Form R) (o p q : Option (List ℕ)) (s t u : RecordsState) (g h : List R) → Steps f o p s t g → Steps f p q t u h → Steps f o q s u (g ++ h)
steps_more f o p q s t u g h a b = record {
  lines = a.lines ++ b.lines;
  reads = reads_more o p q s.lines t.lines u.lines a.lines b.lines a.reads b.reads;
  header = b.header ∙ a.header;
  stream = λ following may.
      ap (records_to_come f s) (append_assoc a.reads.taken b.reads.taken following)
      ∙ a.stream (b.reads.taken ++ following) (may_before p q t.lines u.lines b.lines b.reads following may)
      ∙ ap (λ (l : List _). g ++ l) (b.stream following may)
      ∙ sym (append_assoc g h (records_to_come f u following));
  whole = λ over next.
      ap (λ (ls : List (List ℕ)). but_last (held_reads f s.kept s.first s.lines.number ls)) (lines_behind a.lines b.lines next)
      ∙ a.whole (λ now. over (over_stays f p q t u h b now)) (map text_of_line b.lines ++ next)
      ∙ ap (λ (l : List _). g ++ l) (b.whole over next)
      ∙ sym (append_assoc g h (but_last (held_reads f u.kept u.first u.lines.number next)));
}

abbrev pub header_steps_none : {R : Type 0} (f : Form R) (o : Option (List ℕ)) (s : RecordsState) → HeaderSteps f o o s s
header_steps_none f o s = record { lines = []; reads = reads_none o s.lines; stream = λ following may. refl; told = λ next may. refl }

abbrev pub header_steps_more : {R : Type 0} (f : Form R) (o p q : Option (List ℕ)) (s t u : RecordsState) → HeaderSteps f o p s t → HeaderSteps f p q t u → HeaderSteps f o q s u
header_steps_more f o p q s t u a b = record {
  lines = a.lines ++ b.lines;
  reads = reads_more o p q s.lines t.lines u.lines a.lines b.lines a.reads b.reads;
  stream = λ following may.
      ap (file_to_come f s) (append_assoc a.reads.taken b.reads.taken following)
      ∙ a.stream (b.reads.taken ++ following) (may_before p q t.lines u.lines b.lines b.reads following may)
      ∙ b.stream following may;
  told = λ next may.
      ap (file_by f s.header s) (lines_behind a.lines b.lines next)
      ∙ a.told (map text_of_line b.lines ++ next) (may_stand p q t u b.lines b.reads next may)
      ∙ b.told next may;
}
