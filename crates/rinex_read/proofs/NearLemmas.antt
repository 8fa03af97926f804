-- The lines that have ended before the last bytes: how many they are, and that they were given.
use Rattle.std.proofs.Common.{◌≡◌, ℕ, ◌-◌, ◌≤◌, Bool, true, false, List, [], ◌++◌, length, length-drop, take, drop, refl, sym, ap, subst, ◌∙◌, arith, append-nil, append_assoc, length-append}
use Rattle.std.specs.Prelude.{Option}
use Rattle.std.proofs.lemmas.List.{take-append-drop}
use Rattle.nav_io.specs.Lines.{Line, ends, lines_by}
use Rattle.nav_io.specs.LinesState.{BreaksLong, BreaksRead, GivesEnd, GivesLine, LinesState, Reads}
use Rattle.nav_io.proofs.Surface.{IsPrefixOf, ended_before, lines_length, lines_prefix, no_lines, no_pieces, prefix_within, recent_ended, recent_lines, recent_within, sum_pieces}
use Rattle.rinex_read.specs.States.{AreEarly, HoldsEnd}

-- ---- steps of a reader of lines

no_end : (b : Bool) → b ≡ false → b ≡ true → ⊥
no_end b more ended = cc

-- all lines of what was held and taken
all_lines : (p q : Option (List ℕ)) (s t : LinesState) (lines : List Line) (r : Reads p q s t lines) → lines_by false (s.rest ++ r.taken) ≡ lines ++ lines_by false t.rest
all_lines p q s t lines r =
    ap (λ (l : List ℕ). lines_by false (s.rest ++ l)) (sym (append-nil r.taken)) ∙ r.stream false [] (λ ended. (refl, refl))
    ∙ ap (λ (l : List ℕ). lines ++ lines_by false l) (append-nil t.rest)

-- those that have ended, where no line ends in what is held
ended_all : (p q : Option (List ℕ)) (s t : LinesState) (lines : List Line) (r : Reads p q s t lines) → t.ended ≡ false → ends t.rest ≡ false → lines_by true (s.rest ++ r.taken) ≡ lines
ended_all p q s t lines r more none =
    ap (λ (l : List ℕ). lines_by true (s.rest ++ l)) (sym (append-nil r.taken)) ∙ r.stream true [] (λ ended. absurd (no_end t.ended more ended))
    ∙ ap (λ (l : List ℕ). lines ++ lines_by true l) (append-nil t.rest) ∙ ap (λ (l : List Line). lines ++ l) (no_lines t.rest none) ∙ append-nil lines

-- ---- what is held

split_more : (rest taken prefix middle more behind next : List ℕ) → rest ++ taken ≡ prefix ++ middle → middle ++ more ≡ behind ++ next
    → rest ++ (taken ++ more) ≡ (prefix ++ behind) ++ next
split_more rest taken prefix middle more behind next e f =
    sym (append_assoc rest taken more) ∙ ap (λ (l : List ℕ). l ++ more) e ∙ append_assoc prefix middle more
    ∙ ap (λ (l : List ℕ). prefix ++ l) f ∙ sym (append_assoc prefix behind next)

pub near_none : (s : LinesState) → HoldsEnd s s []
near_none s = record { prefix = []; split = append-nil s.rest; short = λ h. h; low = λ h. h }

pub near_more : (s t u : LinesState) (a b : List ℕ) → HoldsEnd s t a → HoldsEnd t u b → HoldsEnd s u (a ++ b)
near_more s t u a b x y = record {
  prefix = x.prefix ++ y.prefix;
  split = split_more s.rest a x.prefix t.rest b y.prefix u.rest x.split y.split;
  short = λ h. y.short (x.short h);
  low = λ h. y.low (x.low h);
}

pub near_line : (p q : Option (List ℕ)) (s t : LinesState) (line : Line) (g : GivesLine p q s t line) → HoldsEnd s t g.reads.taken
near_line p q s t line g = record { prefix = g.prefix; split = g.split; short = g.short; low = λ h. g.low }

pub near_end : (p q : Option (List ℕ)) (s t : LinesState) (g : GivesEnd p q s t) → HoldsEnd s t g.reads.taken
near_end p q s t g = record {
  prefix = s.rest ++ g.reads.taken;
  split = sym (ap (λ (l : List ℕ). (s.rest ++ g.reads.taken) ++ l) g.rest ∙ append-nil (s.rest ++ g.reads.taken));
  short = λ h. omega (arith, ap length g.rest);
  low = λ h. g.low;
}

-- ---- what has ended before the last bytes was given

pub early_none : (s : LinesState) → AreEarly s [] []
early_none s few low = recent_within (s.rest ++ []) [] s.rest 0 (append-nil s.rest) few (omega arith)

-- where what is held is the end
pub early_near : (p q : Option (List ℕ)) (s t : LinesState) (lines : List Line) (r : Reads p q s t lines) → HoldsEnd s t r.taken → AreEarly s r.taken lines
early_near p q s t lines r near few low = recent_lines (s.rest ++ r.taken) near.prefix t.rest lines near.split (near.short few) (all_lines p q s t lines r)

-- a fault
pub early_read : (p q : Option (List ℕ)) (s t : LinesState) (b : BreaksRead p q s t) → AreEarly s b.reads.taken []
early_read p q s t b few low = recent_ended (s.rest ++ b.reads.taken) [] (ended_all p q s t [] b.reads b.more b.none)

pub early_long : (p q : Option (List ℕ)) (s t : LinesState) (b : BreaksLong p q s t) → AreEarly s b.reads.taken []
early_long p q s t b few low =
    recent_within (s.rest ++ b.reads.taken) b.prefix b.last 0 b.split (b.few low) (omega (arith, ap length (no_pieces b.prefix b.none)))

-- behind steps at whose end the end of the bytes was held
pub early_behind : (p q : Option (List ℕ)) (s t : LinesState) (lines more : List Line) (b : List ℕ) (r : Reads p q s t lines) → HoldsEnd s t r.taken → AreEarly t b more → AreEarly s (r.taken ++ b) (lines ++ more)
early_behind p q s t lines more b r near early few low =
    let n = length (lines ++ more) in
    let w = t.rest ++ b in
    let k = length w - 4096 in
    let whole : s.rest ++ (r.taken ++ b) ≡ (near.prefix ++ take k w) ++ drop k w =
    split_more s.rest r.taken near.prefix t.rest b (take k w) (drop k w) near.split (sym (take-append-drop k w)) in
    let before = ended_before near.prefix t.rest lines (ap (lines_by false) (sym near.split) ∙ all_lines p q s t lines r) in
    recent_within (s.rest ++ (r.taken ++ b)) (near.prefix ++ take k w) (drop k w) n whole (omega (arith, length-drop k w))
    (omega (arith, sum_pieces near.prefix (take k w), before, lines_length true (take k w), early (near.short few) (near.low low), length-append lines more))

-- the lines that have ended before the last bytes are a prefix of those that were given
pub early_prefix : (p q : Option (List ℕ)) (s t : LinesState) (lines : List Line) (r : Reads p q s t lines) → s.rest ≡ [] → s.taken ≡ 0 → AreEarly s r.taken lines
    → IsPrefixOf (lines_by true (take (length r.taken - 4096) r.taken)) lines
early_prefix p q s t lines r none fresh early =
    let w = r.taken in
    let k = length w - 4096 in
    let held : s.rest ++ w ≡ w = ap (λ (l : List ℕ). l ++ w) none in
    let few : length (lines_by true (take k w)) ≤ length lines =
    subst (λ (l : List ℕ). length (lines_by true (take (length l - 4096) l)) ≤ length lines) held (early (omega (arith, ap length none)) (omega (arith, fresh))) in
    let prefix = lines_prefix false (take k w) (drop k w) in
    let whole : lines ++ lines_by false t.rest ≡ lines_by true (take k w) ++ prefix.0 =
    sym (all_lines p q s t lines r) ∙ ap (lines_by false) held ∙ ap (lines_by false) (sym (take-append-drop k w)) ∙ prefix.1 in
    prefix_within (lines_by true (take k w)) lines (lines_by false t.rest) (prefix.0, whole) few
