-- How far a header was read, and the result.
use Rattle.std.proofs.Common.{◌≡◌, ℕ, ◌+◌, ◌^◌, ◌<◌, Bool, true, false, if◌then◌else◌, List, [], ◌∷◌, ◌++◌, map, Result, Ok, Err, OnOk, IfErr, MatchResult, refl, sym, ap, ◌∙◌, subst}
use Rattle.std.specs.Prelude.{Option}
use Rattle.nav_io.specs.Lines.{Line}
use Rattle.nav_io.specs.LinesState.{LinesState, Reads, GivesEnd}
use Rattle.nav_io.proofs.Surface.{reads_none}
use Rattle.nav_io.specs.LineAnswers.{Breaks}
use Rattle.nav_io.specs.declared.lines.LineFault.{LineFault}
use Rattle.nav_io.specs.declared.lines.LineFault.TheVariants.{ReadFault, TooLong}
use Rattle.rinex_read.specs.declared.judged.HeaderState.{HeaderState}
use Rattle.rinex_read.specs.declared.judged.HeaderState.TheVariants.{New, Open, Passed, NotRinexNav, OtherVersion}
use Rattle.rinex_read.specs.declared.judged.HeaderFault.{HeaderFault}
use Rattle.rinex_read.specs.declared.judged.HeaderFault.TheVariants as faults
use Rattle.rinex_read.specs.Lines.{text_of_line, lines_stated}
use Rattle.rinex_read.specs.Forms.{Form, is_version}
use Rattle.rinex_read.specs.Files.{is_navigation, ends_header, header_passed, header_of, reads, reads_behind}
use Rattle.rinex_read.specs.States.{RecordsState, file_by, file_to_come, is_waiting, EarlyHeader, NearHeader, ReadLow, HeaderSteps, PassesHeader, BreaksHeader, RefusedBy}
use Rattle.rinex_read.proofs.NearLemmas.{early_long, early_none, early_read, near_end, near_line, near_none}
use Rattle.rinex_read.proofs.NearSteps.{early_header, early_header_more, near_header_more}
use Rattle.rinex_read.proofs.StepLemmas.{header_steps_none}
use Rattle.rinex_read.specs.Mirrors.{state_of, header_after, HeaderRefused}
use Rattle.rinex_read.proofs.RecordSteps.{HasLine}

-- the result of a header from its lines
abbrev pub answers_by : {R : Type 0} → Form R → HeaderState → ℕ → List (List ℕ) → Result (List R) HeaderFault
answers_by f New n ls = reads_behind f (header_of f n ls)
answers_by f Open n ls = reads_behind f (header_passed n ls)
answers_by f Passed n ls = Ok (reads f n ls)
answers_by f NotRinexNav n ls = Err faults.NotRinexNav
answers_by f OtherVersion n ls = Err faults.Version

pub by_lines : {R : Type 0} (f : Form R) (header : HeaderState) (first : ℕ) (s : LinesState) (ls : List (List ℕ)) → file_by f header (state_of header [] first s) ls ≡ answers_by f header s.number ls
by_lines f New first s ls = refl
by_lines f Open first s ls = refl
by_lines f Passed first s ls = refl
by_lines f NotRinexNav first s ls = refl
by_lines f OtherVersion first s ls = refl

pub by_is : {R : Type 0} (f : Form R) (header : HeaderState) (first : ℕ) (s : LinesState) (following : List ℕ) → file_to_come f (state_of header [] first s) following ≡ answers_by f header s.number (lines_stated (s.rest ++ following))
by_is f header first s following = by_lines f header first s (lines_stated (s.rest ++ following))

pub one_more : {R : Type 0} (f : Form R) (header : HeaderState) (n : ℕ) (l : List ℕ) (ls : List (List ℕ)) → is_waiting header ≡ true → answers_by f header n (l ∷ ls) ≡ answers_by f (header_after f header l) (n + 1) ls
one_more f New n l ls h = go (is_navigation l) (is_version f l)
  where
    go : (a b : Bool) → reads_behind f (if a then (if b then header_passed (n + 1) ls else Err faults.Version) else Err faults.NotRinexNav)
        ≡ answers_by f (if a then (if b then Open else OtherVersion) else NotRinexNav) (n + 1) ls
    go true true = refl
    go true false = refl
    go false b = refl
one_more f Open n l ls h = go (ends_header l)
  where
    go : (b : Bool) → reads_behind f (if b then Ok (record { number = n + 1; lines = ls }) else header_passed (n + 1) ls) ≡ answers_by f (if b then Passed else Open) (n + 1) ls
    go true = refl
    go false = refl
one_more f Passed n l ls h = absurd (cc)
one_more f NotRinexNav n l ls h = absurd (cc)
one_more f OtherVersion n l ls h = absurd (cc)

pub no_more : {R : Type 0} (f : Form R) (header : HeaderState) (n : ℕ) → is_waiting header ≡ true → answers_by f header n [] ≡ Err faults.NotRinexNav
no_more f New n h = refl
no_more f Open n h = refl
no_more f Passed n h = absurd (cc)
no_more f NotRinexNav n h = absurd (cc)
no_more f OtherVersion n h = absurd (cc)

-- a line of the header
abbrev pub header_line : {R : Type 0} (f : Form R) (p q : Option (List ℕ)) (header : HeaderState) (first : ℕ) (s t : LinesState) → HasLine p q s t → is_waiting header ≡ true
    → HeaderSteps f p q (state_of header [] first s) (state_of (header_after f header t.text) [] first t)
header_line f p q header first s t h waits = record {
  lines = record { text = t.text; long = h.long } ∷ [];
  reads = h.gives.reads;
  stream = λ following may.
      by_is f header first s (h.gives.reads.taken ++ following)
      ∙ ap (λ (ls : List Line). answers_by f header s.number (map text_of_line ls)) (h.gives.reads.stream false following (λ e. (refl, may e)))
      ∙ one_more f header s.number t.text (lines_stated (t.rest ++ following)) waits
      ∙ ap (λ (n : ℕ). answers_by f (header_after f header t.text) n (lines_stated (t.rest ++ following))) (sym h.gives.number)
      ∙ sym (by_is f (header_after f header t.text) first t following);
  told = λ next may.
      by_lines f header first s (t.text ∷ next)
      ∙ one_more f header s.number t.text next waits
      ∙ ap (λ (n : ℕ). answers_by f (header_after f header t.text) n next) (sym h.gives.number)
      ∙ sym (by_lines f (header_after f header t.text) first t next);
}

-- the end of the bytes in the header
abbrev pub header_end : {R : Type 0} (f : Form R) (p q : Option (List ℕ)) (header : HeaderState) (first : ℕ) (s t : LinesState) → GivesEnd p q s t → is_waiting header ≡ true
    → HeaderSteps f p q (state_of header [] first s) (state_of NotRinexNav [] first t)
header_end f p q header first s t g waits = record {
  lines = [];
  reads = g.reads;
  stream = λ following may.
      let nothing : t.rest ++ following ≡ [] = rw (g.rest, may g.ended) refl in
      by_is f header first s (g.reads.taken ++ following)
      ∙ ap (λ (ls : List Line). answers_by f header s.number (map text_of_line ls)) (g.reads.stream false following (λ e. (refl, may e)))
      ∙ ap (λ (bytes : List ℕ). answers_by f header s.number (lines_stated bytes)) nothing
      ∙ no_more f header s.number waits;
  told = λ next may.
      by_lines f header first s next ∙ ap (answers_by f header s.number) (may g.ended g.rest) ∙ no_more f header s.number waits;
}

pub header_over : {R : Type 0} (f : Form R) (p q : Option (List ℕ)) (header : HeaderState) (first : ℕ) (s t : LinesState) → GivesEnd p q s t → is_waiting header ≡ true
    → NearHeader f p q (state_of header [] first s) (state_of NotRinexNav [] first t)
header_over f p q header first s t g waits = record { steps = header_end f p q header first s t g waits; near = near_end p q s t g }

-- a read in the header that gave no line
abbrev header_read : {R : Type 0} (f : Form R) (p q : Option (List ℕ)) (header : HeaderState) (first : ℕ) (s t : LinesState) → Reads p q s t [] → t.number ≡ s.number
    → HeaderSteps f p q (state_of header [] first s) (state_of header [] first t)
header_read f p q header first s t r number = record {
  lines = [];
  reads = r;
  stream = λ following may.
      by_is f header first s (r.taken ++ following)
      ∙ ap (λ (ls : List Line). answers_by f header s.number (map text_of_line ls)) (r.stream false following (λ e. (refl, may e)))
      ∙ ap (λ (n : ℕ). answers_by f header n (lines_stated (t.rest ++ following))) (sym number)
      ∙ sym (by_is f header first t following);
  told = λ next may.
      by_lines f header first s next ∙ ap (λ (n : ℕ). answers_by f header n next) (sym number) ∙ sym (by_lines f header first t next);
}

-- what is kept does not matter while lines of the header are to come
abbrev pub header_start : {R : Type 0} (f : Form R) (o : Option (List ℕ)) (header : HeaderState) (kept : List (List ℕ)) (first : ℕ) (s : LinesState) → is_waiting header ≡ true
    → HeaderSteps f o o (state_of header kept first s) (state_of header [] first s)
header_start f o New kept first s h = record { lines = []; reads = reads_none o s; stream = λ following may. refl; told = λ next may. refl }
header_start f o Open kept first s h = record { lines = []; reads = reads_none o s; stream = λ following may. refl; told = λ next may. refl }
header_start f o Passed kept first s h = absurd (cc)
header_start f o NotRinexNav kept first s h = absurd (cc)
header_start f o OtherVersion kept first s h = absurd (cc)

-- a fault in the header
pub header_breaks : {R : Type 0} (f : Form R) (fault : LineFault) (p q : Option (List ℕ)) (header : HeaderState) (first : ℕ) (s t : LinesState) → Breaks fault p q s t
    → EarlyHeader f p q (state_of header [] first s) (state_of header [] first t)
header_breaks f ReadFault p q header first s t b = record { steps = header_read f p q header first s t b.reads b.number; early = early_read p q s t b }
header_breaks f TooLong p q header first s t b = record { steps = header_read f p q header first s t b.reads b.number; early = early_long p q s t b }

-- where the header is not to be read, nothing was read of it
none_low : (s t : RecordsState) (header : HeaderState) → s.header ≡ header → is_waiting header ≡ false → ReadLow s t
none_low s t header e done = λ waits. let other : is_waiting s.header ≡ false = ap is_waiting e ∙ done in absurd (cc)

pub passed_now : {R : Type 0} (f : Form R) (r : Result (Unit {0}) HeaderFault) (o : Option (List ℕ)) (s : RecordsState) (header : HeaderState) → s.header ≡ header → is_waiting header ≡ false
    → MatchResult r (λ x. header ≡ Passed) (λ fault. HeaderRefused header fault) → OnOk r (PassesHeader f o o s s)
passed_now f (Ok x) o s header e done h = record { steps = header_steps_none f o s; near = near_none s.lines; header = e ∙ h; low = none_low s s header e done }
passed_now f (Err fault) o s header e done h = tt

refused_so : (fault : HeaderFault) (s : RecordsState) (header : HeaderState) → s.header ≡ header → is_waiting header ≡ false → HeaderRefused header fault → RefusedBy fault s s
refused_so faults.NotRinexNav s header e done h = (e ∙ h, none_low s s header e done)
refused_so faults.Version s header e done h = (e ∙ h, none_low s s header e done)
refused_so (faults.Line fault) s header e done h = absurd h

pub refused_now : {R : Type 0} (f : Form R) (r : Result (Unit {0}) HeaderFault) (o : Option (List ℕ)) (s : RecordsState) (header : HeaderState) → s.header ≡ header → is_waiting header ≡ false
    → MatchResult r (λ x. header ≡ Passed) (λ fault. HeaderRefused header fault) → IfErr r (λ fault. BreaksHeader f o o s s fault)
refused_now f (Ok x) o s header e done h = tt
refused_now f (Err fault) o s header e done h = record { steps = header_steps_none f o s; early = early_none s.lines; by = refused_so fault s header e done h }

-- what was kept before does not matter, and nothing is kept behind
start_near : {R : Type 0} (f : Form R) (o : Option (List ℕ)) (header : HeaderState) (kept : List (List ℕ)) (first : ℕ) (s : LinesState) → is_waiting header ≡ true
    → NearHeader f o o (state_of header kept first s) (state_of header [] first s)
start_near f o New kept first s h = record { steps = header_start f o New kept first s h; near = near_none s }
start_near f o Open kept first s h = record { steps = header_start f o Open kept first s h; near = near_none s }
start_near f o Passed kept first s h = absurd (cc)
start_near f o NotRinexNav kept first s h = absurd (cc)
start_near f o OtherVersion kept first s h = absurd (cc)

-- how the lines of a header were read, by the answer
abbrev pub Header : {R : Type 0} → Form R → Result (Unit {0}) HeaderFault → Option (List ℕ) → Option (List ℕ) → RecordsState → RecordsState → Type 0
Header f r p q s t = MatchResult r (λ x. NearHeader f p q s t) (λ fault. EarlyHeader f p q s t)

-- the lines of a header, whatever is kept before, with nothing kept after
pub header_all : {R : Type 0} (f : Form R) (r : Result (Unit {0}) HeaderFault) (p q : Option (List ℕ)) (s : RecordsState) (header new : HeaderState) (kept none : List (List ℕ)) (first : ℕ) (lines lines_new : LinesState) → state_of header kept first lines ≡ s → none ≡ []
    → is_waiting header ≡ true → Header f r p q (state_of header [] first lines) (state_of new [] first lines_new) → Header f r p q s (state_of new none first lines_new)
header_all f r p q s header new kept none first lines lines_new e empty waits steps =
    subst (λ x. Header f r p q x (state_of new none first lines_new)) e
    (subst (λ ks. Header f r p q (state_of header kept first lines) (state_of new ks first lines_new)) (sym empty) (go r steps))
  where
    go : (r : Result (Unit {0}) HeaderFault) → Header f r p q (state_of header [] first lines) (state_of new [] first lines_new) → Header f r p q (state_of header kept first lines) (state_of new [] first lines_new)
    go (Ok x) steps =
        near_header_more f p p q (state_of header kept first lines) (state_of header [] first lines) (state_of new [] first lines_new) (start_near f p header kept first lines waits) steps
    go (Err fault) steps =
        early_header_more f p p q (state_of header kept first lines) (state_of header [] first lines) (state_of new [] first lines_new) (start_near f p header kept first lines waits) steps

-- where the end of the bytes is held, whatever the answer
pub header_by : {R : Type 0} (f : Form R) (r : Result (Unit {0}) HeaderFault) (p q : Option (List ℕ)) (s t : RecordsState) → NearHeader f p q s t → Header f r p q s t
header_by f (Ok x) p q s t steps = steps
header_by f (Err fault) p q s t steps = early_header f p q s t steps

pub passed_by : {R : Type 0} (f : Form R) (r : Result (Unit {0}) HeaderFault) (p q : Option (List ℕ)) (s t : RecordsState) (header : HeaderState) (lines : LinesState) → Header f r p q s t
    → MatchResult r (λ x. (t.header ≡ Passed) × (t.lines.taken < 2 ^ 32)) (λ fault. RefusedBy fault (state_of header [] 0 lines) (state_of t.header [] 0 t.lines)) → OnOk r (PassesHeader f p q s t)
passed_by f (Ok x) p q s t header lines steps h = record { steps = steps.steps; near = steps.near; header = h.0; low = λ waits. h.1 }
passed_by f (Err fault) p q s t header lines steps h = tt

refused_same : (fault : HeaderFault) (s t : RecordsState) (header : HeaderState) (lines : LinesState) → is_waiting header ≡ true → RefusedBy fault (state_of header [] 0 lines) (state_of t.header [] 0 t.lines) → RefusedBy fault s t
refused_same faults.NotRinexNav s t header lines waits h = (h.0, λ w. h.1 waits)
refused_same faults.Version s t header lines waits h = (h.0, λ w. h.1 waits)
refused_same (faults.Line ReadFault) s t header lines waits h = h
refused_same (faults.Line TooLong) s t header lines waits h = h

pub refused_by : {R : Type 0} (f : Form R) (r : Result (Unit {0}) HeaderFault) (p q : Option (List ℕ)) (s t : RecordsState) (header : HeaderState) (lines : LinesState) → is_waiting header ≡ true → Header f r p q s t
    → MatchResult r (λ x. (t.header ≡ Passed) × (t.lines.taken < 2 ^ 32)) (λ fault. RefusedBy fault (state_of header [] 0 lines) (state_of t.header [] 0 t.lines)) → IfErr r (λ fault. BreaksHeader f p q s t fault)
refused_by f (Ok x) p q s t header lines waits steps h = tt
refused_by f (Err fault) p q s t header lines waits steps h = record { steps = steps.steps; early = steps.early; by = refused_same fault s t header lines waits h }

-- the answer to a line that ends the header
pub answer_low : (r : Result (Unit {0}) HeaderFault) (old new : HeaderState) (s t : LinesState) → t.taken < 2 ^ 32 → MatchResult r (λ x. new ≡ Passed) (λ fault. HeaderRefused new fault)
    → MatchResult r (λ x. (new ≡ Passed) × (t.taken < 2 ^ 32)) (λ fault. RefusedBy fault (state_of old [] 0 s) (state_of new [] 0 t))
answer_low (Ok x) old new s t low h = (h, low)
answer_low (Err faults.NotRinexNav) old new s t low h = (h, λ waits. low)
answer_low (Err faults.Version) old new s t low h = (h, λ waits. low)
answer_low (Err (faults.Line fault)) old new s t low h = absurd h

-- a line of the header after others
pub header_more : {R : Type 0} (f : Form R) (o p q : Option (List ℕ)) (old header after : HeaderState) (first : ℕ) (s t u : LinesState) (text : List ℕ) → NearHeader f o p (state_of old [] first s) (state_of header [] first t) → HasLine p q t u → is_waiting header ≡ true
    → text ≡ u.text → after ≡ header_after f header text → NearHeader f o q (state_of old [] first s) (state_of after [] first u)
header_more f o p q old header after first s t u text steps h waits e same =
    subst (λ x. NearHeader f o q (state_of old [] first s) (state_of x [] first u)) (sym (same ∙ ap (header_after f header) e))
    (near_header_more f o p q (state_of old [] first s) (state_of header [] first t) (state_of (header_after f header u.text) [] first u) steps
    (record { steps = header_line f p q header first t u h waits; near = near_line p q t u _ h.gives }))
