-- How far the next record was read, and the result.
use Rattle.std.proofs.Common.{◌≡◌, ℕ, ◌≤◌, Bool, true, false, List, [], ◌∷◌, ◌++◌, map, refl, sym, ap, ◌∙◌, subst, arith, append-nil}
use Rattle.std.specs.Prelude.{Option, Some}
use Rattle.nav_io.specs.Lines.{Line}
use Rattle.nav_io.specs.LinesState.{LinesState, Reads, GivesLine, GivesEnd}
use Rattle.nav_io.specs.LineAnswers.{Answers, Breaks}
use Rattle.nav_io.specs.declared.lines.LineKind.{LineKind}
use Rattle.nav_io.specs.declared.lines.LineKind.TheVariants.{Text, Long, End}
use Rattle.nav_io.specs.declared.lines.LineFault.{LineFault}
use Rattle.nav_io.specs.declared.lines.LineFault.TheVariants.{ReadFault, TooLong}
use Rattle.rinex_read.specs.Lines.{text_of_line, lines_stated}
use Rattle.rinex_read.specs.Forms.{Form}
use Rattle.rinex_read.specs.Files.{but_last}
use Rattle.rinex_read.specs.States.{RecordsState, held_reads, NearSteps, Steps, held_count, lines_left, GivesRead, BreaksRecord}
use Rattle.rinex_read.proofs.NearLemmas.{early_long, early_read, near_end, near_line}
use Rattle.rinex_read.proofs.NearSteps.{early_steps_more, near_steps_more}
use Rattle.rinex_read.proofs.TakeLemmas.{line_whole}
use Rattle.rinex_read.specs.Mirrors.{TakesLine, TakesEnd, EndsWith}

-- a line of any kind
pub record HasLine (p q : Option (List ℕ)) (s t : LinesState) : Type 0 where
  pub long : Bool
  pub gives : GivesLine p q s t (record { text = t.text; long = long })

pub line_given : (kind : LineKind) (p q : Option (List ℕ)) (s t : LinesState) → (kind ≡ End → ⊥) → Answers kind p q s t → HasLine p q s t
line_given Text p q s t other g = record { long = false; gives = g }
line_given Long p q s t other g = record { long = true; gives = g }
line_given End p q s t other g = absurd (other refl)

pub end_given : (kind : LineKind) (p q : Option (List ℕ)) (s t : LinesState) → kind ≡ End → Answers kind p q s t → GivesEnd p q s t
end_given kind p q s t e g = subst (λ k. Answers k p q s t) e g

abbrev line_step : {R : Type 0} (f : Form R) (p q : Option (List ℕ)) (s t : RecordsState) (given : List R) (h : HasLine p q s.lines t.lines) → TakesLine f s.kept s.first t.kept t.first t.lines.text t.lines.number given
    → t.header ≡ s.header → Steps f p q s t given
line_step f p q s t given h takes header = record {
  lines = record { text = t.lines.text; long = h.long } ∷ [];
  reads = h.gives.reads;
  header = header;
  stream = λ following may.
      ap (λ (ls : List Line). held_reads f s.kept s.first s.lines.number (map text_of_line ls)) (h.gives.reads.stream false following (λ e. (refl, may e)))
      ∙ takes.answers s.lines.number (lines_stated (t.lines.rest ++ following)) h.gives.number;
  whole = λ over next. line_whole f s.kept s.first t.kept t.first t.lines.text t.lines.number given takes s.lines.number next h.gives.number;
}

abbrev end_step : {R : Type 0} (f : Form R) (p q : Option (List ℕ)) (s t : RecordsState) (given : List R) (g : GivesEnd p q s.lines t.lines) → TakesEnd f s.kept s.first given → t.kept ≡ [] → t.header ≡ s.header → Steps f p q s t given
end_step f p q s t given g takes none header = record {
  lines = [];
  reads = g.reads;
  header = header;
  stream = λ following may.
      let nothing : t.lines.rest ++ following ≡ [] = rw (g.rest, may g.ended) refl in
      ap (λ (ls : List Line). held_reads f s.kept s.first s.lines.number (map text_of_line ls)) (g.reads.stream false following (λ e. (refl, may e)))
      ∙ ap (λ (bytes : List ℕ). held_reads f s.kept s.first s.lines.number (lines_stated bytes)) nothing
      ∙ takes.answers s.lines.number
      ∙ sym (append-nil given)
      ∙ ap (λ (bytes : List ℕ). given ++ held_reads f [] t.first t.lines.number (lines_stated bytes)) (sym nothing)
      ∙ ap (λ (ks : List (List ℕ)). given ++ held_reads f ks t.first t.lines.number (lines_stated (t.lines.rest ++ following))) (sym none);
  whole = λ over next. absurd (over (record { kept = none; rest = g.rest; ended = g.ended }));
}

abbrev read_step : {R : Type 0} (f : Form R) (p q : Option (List ℕ)) (s t : RecordsState) → Reads p q s.lines t.lines [] → t.kept ≡ s.kept → t.first ≡ s.first → t.lines.number ≡ s.lines.number → t.header ≡ s.header → Steps f p q s t []
read_step f p q s t r kept first number header = record {
  lines = [];
  reads = r;
  header = header;
  stream = λ following may.
      ap (λ (ls : List Line). held_reads f s.kept s.first s.lines.number (map text_of_line ls)) (r.stream false following (λ e. (refl, may e)))
      ∙ ap (λ (ks : List (List ℕ)). held_reads f ks s.first s.lines.number (lines_stated (t.lines.rest ++ following))) (sym kept)
      ∙ ap (λ (k : ℕ). held_reads f t.kept k s.lines.number (lines_stated (t.lines.rest ++ following))) (sym first)
      ∙ ap (λ (n : ℕ). held_reads f t.kept t.first n (lines_stated (t.lines.rest ++ following))) (sym number);
  whole = λ over next.
      ap (λ (ks : List (List ℕ)). but_last (held_reads f ks s.first s.lines.number next)) (sym kept)
      ∙ ap (λ (k : ℕ). but_last (held_reads f t.kept k s.lines.number next)) (sym first)
      ∙ ap (λ (n : ℕ). but_last (held_reads f t.kept t.first n next)) (sym number);
}

line_near : {R : Type 0} (f : Form R) (p q : Option (List ℕ)) (s t : RecordsState) (given : List R) (h : HasLine p q s.lines t.lines) → TakesLine f s.kept s.first t.kept t.first t.lines.text t.lines.number given
    → t.header ≡ s.header → NearSteps f p q s t given
line_near f p q s t given h takes header = record { steps = line_step f p q s t given h takes header; near = near_line p q s.lines t.lines _ h.gives }

end_near : {R : Type 0} (f : Form R) (p q : Option (List ℕ)) (s t : RecordsState) (given : List R) (g : GivesEnd p q s.lines t.lines) → TakesEnd f s.kept s.first given → t.kept ≡ [] → t.header ≡ s.header → NearSteps f p q s t given
end_near f p q s t given g takes none header = record { steps = end_step f p q s t given g takes none header; near = near_end p q s.lines t.lines g }

held_few : (ks : List (List ℕ)) → held_count ks ≤ 1
held_few [] = omega arith
held_few (k ∷ ks) = omega arith

held_none : (ks : List (List ℕ)) → ks ≡ [] → held_count ks ≡ 0
held_none [] e = refl
held_none (k ∷ ks) e = absurd (cc)

-- a line that ended a record
pub line_gives : {R : Type 0} (f : Form R) (o p q : Option (List ℕ)) (old now new : RecordsState) (read : R) → NearSteps f o p old now [] → lines_left now ≤ lines_left old → HasLine p q now.lines new.lines
    → TakesLine f now.kept now.first new.kept new.first new.lines.text new.lines.number (read ∷ []) → new.header ≡ now.header → GivesRead f (Some read) o q old new
line_gives f o p q old now new read steps near h takes header =
    let all = near_steps_more f o p q old now new [] (read ∷ []) steps (line_near f p q now new (read ∷ []) h takes header) in
    record {
      steps = all.steps;
      near = all.near;
      low = h.gives.low;
      nearer = omega (arith, held_few new.kept, h.gives.number, h.gives.numbered, h.gives.low, near);
    }

-- a line that ended none
pub line_keeps : {R : Type 0} (f : Form R) (o p q : Option (List ℕ)) (old now new : RecordsState) → NearSteps f o p old now [] → lines_left now ≤ lines_left old → HasLine p q now.lines new.lines
    → TakesLine f now.kept now.first new.kept new.first new.lines.text new.lines.number [] → new.header ≡ now.header → NearSteps f o q old new [] × (lines_left new ≤ lines_left old)
line_keeps f o p q old now new steps near h takes header =
    (near_steps_more f o p q old now new [] [] steps (line_near f p q now new [] h takes header), omega (arith, held_few new.kept, h.gives.number, h.gives.numbered, h.gives.low, near))

-- the end
pub end_gives : {R : Type 0} (f : Form R) (o p q : Option (List ℕ)) (old now new : RecordsState) (read : Option R) → NearSteps f o p old now [] → lines_left now ≤ lines_left old → GivesEnd p q now.lines new.lines
    → EndsWith f now.kept now.first read → new.kept ≡ [] → new.header ≡ now.header → GivesRead f read o q old new
end_gives f o p q old now new read steps near g ends none header = go now.kept refl ends
  where
    go : (ks : List (List ℕ)) → now.kept ≡ ks → EndsWith f ks now.first read → GivesRead f read o q old new
    go [] e same =
        let takes : TakesEnd f now.kept now.first [] = record { answers = λ n. ap (λ (ks : List (List ℕ)). held_reads f ks now.first n []) e } in
        let all = near_steps_more f o p q old now new [] [] steps (end_near f p q now new [] g takes none header) in
        subst (λ r. GivesRead f r o q old new) (sym same) (record {
          steps = all.steps;
          near = all.near;
          kept = none;
          rest = g.rest;
          ended = g.ended;
          low = g.low;
        })
    go (k ∷ ks) e same =
        let last = f.judged now.first (k ∷ ks) in
        let takes : TakesEnd f now.kept now.first (last ∷ []) = record {
          answers = λ n. ap (λ (xs : List (List ℕ)). held_reads f xs now.first n []) e
              ∙ ap (λ (xs : List (List ℕ)). f.judged now.first xs ∷ []) (append-nil (k ∷ ks));
        } in
        let held : held_count now.kept ≡ 1 = ap held_count e in
        let all = near_steps_more f o p q old now new [] (last ∷ []) steps (end_near f p q now new (last ∷ []) g takes none header) in
        subst (λ r. GivesRead f r o q old new) (sym same) (record {
          steps = all.steps;
          near = all.near;
          low = g.low;
          nearer = omega (arith, held, held_none new.kept none, g.number, near);
        })

-- a fault
pub breaks : {R : Type 0} (f : Form R) (fault : LineFault) (o p q : Option (List ℕ)) (old now new : RecordsState) → NearSteps f o p old now [] → Breaks fault p q now.lines new.lines
    → new.kept ≡ now.kept → new.first ≡ now.first → new.header ≡ now.header → BreaksRecord f o q old new fault
breaks f ReadFault o p q old now new steps b kept first header =
    let all = early_steps_more f o p q old now new [] [] steps (record {
      steps = read_step f p q now new b.reads kept first b.number header;
      early = early_read p q now.lines new.lines b;
    }) in
    record { steps = all.steps; early = all.early; by = (b.more, b.low, b.none) }
breaks f TooLong o p q old now new steps b kept first header =
    let all = early_steps_more f o p q old now new [] [] steps (record {
      steps = read_step f p q now new b.reads kept first b.number header;
      early = early_long p q now.lines new.lines b;
    }) in
    record { steps = all.steps; early = all.early; by = b.too_many }

-- there are at most as many lines as bytes
pub break_numbered : (fault : LineFault) (p q : Option (List ℕ)) (s t : LinesState) → Breaks fault p q s t → s.number ≤ s.taken → t.number ≤ t.taken
break_numbered ReadFault p q s t b h = omega (arith, b.number, b.reads.count)
break_numbered TooLong p q s t b h = omega (arith, b.number, b.reads.count)

pub end_numbered : (p q : Option (List ℕ)) (s t : LinesState) → GivesEnd p q s t → s.number ≤ s.taken → t.number ≤ t.taken
end_numbered p q s t g h = omega (arith, g.number, g.reads.count)
