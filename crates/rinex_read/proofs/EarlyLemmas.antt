-- The records that are whole in all bytes but the last 4,096 were given.
use Rattle.std.proofs.Common.{◌≡◌, ◌⊎◌, inl, inr, ℕ, ◌+◌, ◌-◌, Bool, true, false, if◌then◌else◌, List, [], ◌∷◌, ◌++◌, map, length, take, Ok, Err, refl, sym, ap, subst, ◌∙◌, append_assoc, append-nil}
use Rattle.std.specs.Prelude.{Option, Result}
use Rattle.std.proofs.lemmas.List.{map-append}
use Rattle.nav_io.specs.Lines.{Line, lines_by}
use Rattle.nav_io.proofs.Surface.{IsPrefixOf, lines_prefix, reads_more}
use Rattle.rinex_read.specs.declared.judged.HeaderState.{HeaderState}
use Rattle.rinex_read.specs.declared.judged.HeaderState.TheVariants.{New, Open, Passed, NotRinexNav, OtherVersion}
use Rattle.rinex_read.specs.declared.judged.HeaderFault.{HeaderFault}
use Rattle.rinex_read.specs.declared.judged.HeaderFault.TheVariants as faults
use Rattle.rinex_read.specs.Lines.{text_of_line, lines_stated}
use Rattle.rinex_read.specs.Forms.{Form, LooksAtKept, begins, is_version}
use Rattle.rinex_read.specs.Files.{BeginWith, Body, but_last, early_reads, ends_header, file_reads, header_of, header_passed, is_navigation, reads, reads_behind, records_in, up_to_next, whole_behind, whole_reads}
use Rattle.rinex_read.specs.States.{AreEarly, HeaderSteps, IsNew, IsOver, MayStand, PassesHeader, RecordsState, Steps, file_by, held_reads}
use Rattle.rinex_read.proofs.FormLemmas.{ended_told, file_told}
use Rattle.rinex_read.proofs.NearLemmas.{early_behind, early_prefix}
use Rattle.rinex_read.proofs.StepLemmas.{none_behind}
use Rattle.rinex_read.proofs.TakeLemmas.{none_whole}

-- ---- the records that are whole in lines are so whatever lines follow

pub begin_nil : {R : Type 0} (xs : List R) → BeginWith xs []
begin_nil xs = (xs, refl)

begin_same : {R : Type 0} (xs : List R) → BeginWith xs xs
begin_same xs = ([], sym (append-nil xs))

-- a record before others
begin_cons : {R : Type 0} (x y : R) (p q : List R) → ((p ≡ [] → ⊥) → y ≡ x) → (q ≡ [] → p ≡ []) → BeginWith (but_last q) (but_last p) → BeginWith (but_last (y ∷ q)) (but_last (x ∷ p))
begin_cons x y [] q same none h = begin_nil (but_last (y ∷ q))
begin_cons x y (r ∷ rs) [] same none h = absurd (let e : r ∷ rs ≡ [] = none refl in cc)
begin_cons x y (r ∷ rs) (s ∷ ss) same none (rest, e) =
    (rest, ap (λ (z : _). z ∷ but_last (s ∷ ss)) (same (λ e. absurd (cc))) ∙ ap (λ (l : List _). x ∷ l) e)

none_more : {R : Type 0} (f : Form R) (n : ℕ) (a b : List (List ℕ)) → reads f n (a ++ b) ≡ [] → reads f n a ≡ []
none_more f n [] b e = refl
none_more f n (l ∷ ls) b e = go (begins f l) (none_more f (n + 1) ls b) e
  where
    go : (x : Bool) → (reads f (n + 1) (ls ++ b) ≡ [] → reads f (n + 1) ls ≡ []) → (if x then f.judged (n + 1) (l ∷ up_to_next f (ls ++ b)) ∷ reads f (n + 1) (ls ++ b) else reads f (n + 1) (ls ++ b)) ≡ []
        → (if x then f.judged (n + 1) (l ∷ up_to_next f ls) ∷ reads f (n + 1) ls else reads f (n + 1) ls) ≡ []
    go true next e = absurd (cc)
    go false next e = next e

next_same : {R : Type 0} (f : Form R) (n : ℕ) (a b : List (List ℕ)) → (reads f n a ≡ [] → ⊥) → up_to_next f (a ++ b) ≡ up_to_next f a
next_same f n [] b some = absurd (some refl)
next_same f n (l ∷ ls) b some = go (begins f l) (next_same f (n + 1) ls b) some
  where
    go : (x : Bool) → ((reads f (n + 1) ls ≡ [] → ⊥) → up_to_next f (ls ++ b) ≡ up_to_next f ls) → ((if x then f.judged (n + 1) (l ∷ up_to_next f ls) ∷ reads f (n + 1) ls else reads f (n + 1) ls) ≡ [] → ⊥)
        → (if x then [] else l ∷ up_to_next f (ls ++ b)) ≡ (if x then [] else l ∷ up_to_next f ls)
    go true next some = refl
    go false next some = ap (λ (t : List (List ℕ)). l ∷ t) (next some)

reads_prefix : {R : Type 0} (f : Form R) (n : ℕ) (a b : List (List ℕ)) → BeginWith (but_last (reads f n (a ++ b))) (but_last (reads f n a))
reads_prefix f n [] b = begin_nil (but_last (reads f n b))
reads_prefix f n (l ∷ ls) b = go (begins f l) (reads_prefix f (n + 1) ls b)
  where
    go : (x : Bool) → BeginWith (but_last (reads f (n + 1) (ls ++ b))) (but_last (reads f (n + 1) ls)) → BeginWith (but_last (if x then f.judged (n + 1) (l ∷ up_to_next f (ls ++ b)) ∷ reads f (n + 1) (ls ++ b) else reads f (n + 1) (ls ++ b)))
        (but_last (if x then f.judged (n + 1) (l ∷ up_to_next f ls) ∷ reads f (n + 1) ls else reads f (n + 1) ls))
    go true rest = begin_cons (f.judged (n + 1) (l ∷ up_to_next f ls)) (f.judged (n + 1) (l ∷ up_to_next f (ls ++ b))) (reads f (n + 1) ls) (reads f (n + 1) (ls ++ b))
        (λ some. ap (λ (t : List (List ℕ)). f.judged (n + 1) (l ∷ t)) (next_same f (n + 1) ls b some)) (none_more f (n + 1) ls b) rest
    go false rest = rest

-- what stands behind a header, with lines more
abbrev More : Result Body HeaderFault → Result Body HeaderFault → List (List ℕ) → Type 0
More (Ok body) r b = r ≡ Ok (record { number = body.number; lines = body.lines ++ b })
More (Err fault) r b = Unit {0}

passed_more : (n : ℕ) (a b : List (List ℕ)) → More (header_passed n a) (header_passed n (a ++ b)) b
passed_more n [] b = tt
passed_more n (l ∷ ls) b = go (ends_header l) (passed_more (n + 1) ls b)
  where
    go : (x : Bool) → More (header_passed (n + 1) ls) (header_passed (n + 1) (ls ++ b)) b → More (if x then Ok (record { number = n + 1; lines = ls }) else header_passed (n + 1) ls) (if x then Ok (record { number = n + 1; lines = ls ++ b }) else header_passed (n + 1) (ls ++ b)) b
    go true rest = refl
    go false rest = rest

file_more : {R : Type 0} (f : Form R) (n : ℕ) (a b : List (List ℕ)) → More (header_of f n a) (header_of f n (a ++ b)) b
file_more f n [] b = tt
file_more f n (l ∷ ls) b = go (is_navigation l) (is_version f l)
  where
    go : (x y : Bool) → More (if x then (if y then header_passed (n + 1) ls else Err faults.Version) else Err faults.NotRinexNav)
        (if x then (if y then header_passed (n + 1) (ls ++ b) else Err faults.Version) else Err faults.NotRinexNav) b
    go true true = passed_more (n + 1) ls b
    go true false = tt
    go false y = tt

-- what is read of the records that are whole in the lines of a file
abbrev whole_of : {R : Type 0} → Form R → List (List ℕ) → List R
whole_of f ls = records_in (whole_behind (reads_behind f (header_of f 0 ls)))

whole_prefix : {R : Type 0} (f : Form R) (a b : List (List ℕ)) → BeginWith (whole_of f (a ++ b)) (whole_of f a)
whole_prefix f a b = go (header_of f 0 a) (file_more f 0 a b)
  where
    go : (r : Result Body HeaderFault) → More r (header_of f 0 (a ++ b)) b → BeginWith (whole_of f (a ++ b)) (records_in (whole_behind (reads_behind f r)))
    go (Ok body) is =
        subst (λ (r : Result Body HeaderFault). BeginWith (records_in (whole_behind (reads_behind f r))) (but_last (reads f body.number body.lines))) (sym is) (reads_prefix f body.number body.lines b)
    go (Err fault) is = begin_nil (whole_of f (a ++ b))

-- ---- of the lines that were given

-- what is early is whole in the lines
early_whole : {R : Type 0} (f : Form R) → LooksAtKept f → (t : List ℕ) (lines : List Line) → IsPrefixOf (lines_by true (take (length t - 4096) t)) lines
    → BeginWith (whole_of f (map text_of_line lines)) (early_reads f t)
early_whole f law t lines (rest, e) =
    let a = lines_by true (take (length t - 4096) t) in
    let texts : map text_of_line lines ≡ map text_of_line a ++ map text_of_line rest = ap (map text_of_line) e ∙ map-append text_of_line a rest in
    let is : whole_of f (map text_of_line a) ≡ early_reads f t = ap (λ (r : Result (List _) HeaderFault). records_in (whole_behind r)) (ended_told f law 0 (take (length t - 4096) t)) in
    subst (BeginWith (whole_of f (map text_of_line lines))) is
    (subst (λ (ls : List (List ℕ)). BeginWith (whole_of f ls) (whole_of f (map text_of_line a))) (sym texts) (whole_prefix f (map text_of_line a) (map text_of_line rest)))

-- from the first line on
from_lines : {R : Type 0} (f : Form R) (old : RecordsState) (ls : List (List ℕ)) → IsNew old → reads_behind f (header_of f 0 ls) ≡ file_by f old.header old ls
from_lines f old ls first =
    ap (λ (n : ℕ). reads_behind f (header_of f n ls)) (sym first.number) ∙ ap (λ (h : HeaderState). file_by f h old ls) (sym first.header)

-- a reader is at its end, or it is not
over_or : (s : RecordsState) → IsOver s ⊎ (IsOver s → ⊥)
over_or s = go s.kept s.lines.rest s.lines.ended refl refl refl
  where
    go : (ks : List (List ℕ)) (r : List ℕ) (b : Bool) → s.kept ≡ ks → s.lines.rest ≡ r → s.lines.ended ≡ b → IsOver s ⊎ (IsOver s → ⊥)
    go [] [] true k l e = inl (record { kept = k; rest = l; ended = e })
    go [] [] false k l e = inr (λ over. absurd (let end : s.lines.ended ≡ true = over.ended in cc))
    go [] (x ∷ xs) b k l e = inr (λ over. absurd (let none : s.lines.rest ≡ [] = over.rest in cc))
    go (x ∷ xs) r b k l e = inr (λ over. absurd (let none : s.kept ≡ [] = over.kept in cc))

-- all lines but those of a record that is held
last_prefix : {R : Type 0} (xs : List R) → BeginWith xs (but_last xs)
last_prefix [] = begin_nil []
last_prefix (x ∷ []) = begin_nil (x ∷ [])
last_prefix (x ∷ y ∷ ys) = let more = last_prefix (y ∷ ys) in (more.0, ap (λ (l : List _). x ∷ l) more.1)

-- the records behind a header that are whole in the lines that were given
whole_given : {R : Type 0} (f : Form R) (p q : Option (List ℕ)) (now new : RecordsState) (given : List R) (steps : Steps f p q now new given)
    → BeginWith given (but_last (held_reads f now.kept now.first now.lines.number (map text_of_line steps.lines)))
whole_given f p q now new given steps = by (over_or new)
  where
    nothing : IsOver new → held_reads f new.kept new.first new.lines.number (map text_of_line (lines_by false new.lines.rest)) ≡ []
    nothing over = rw (over.kept, over.rest) refl

    by : IsOver new ⊎ (IsOver new → ⊥) → BeginWith given (but_last (held_reads f now.kept now.first now.lines.number (map text_of_line steps.lines)))
    by (inr more) =
        let is : but_last (held_reads f now.kept now.first now.lines.number (map text_of_line steps.lines)) ≡ given =
        ap (λ (ls : List (List ℕ)). but_last (held_reads f now.kept now.first now.lines.number ls)) (sym (append-nil (map text_of_line steps.lines)))
        ∙ steps.whole more [] ∙ ap (λ (l : List _). given ++ l) (none_whole f new.kept new.first new.lines.number) ∙ append-nil given in
        subst (BeginWith given) (sym is) (begin_same given)
    by (inl over) =
        let lines : lines_by false (now.lines.rest ++ (steps.reads.taken ++ [])) ≡ steps.lines =
        steps.reads.stream false [] (λ ended. (refl, refl)) ∙ ap (λ (l : List ℕ). steps.lines ++ lines_by false (l ++ [])) over.rest ∙ append-nil steps.lines in
        let is : held_reads f now.kept now.first now.lines.number (map text_of_line steps.lines) ≡ given =
        ap (λ (l : List Line). held_reads f now.kept now.first now.lines.number (map text_of_line l)) (sym lines) ∙ steps.stream [] (λ ended. refl)
        ∙ ap (λ (l : List ℕ). given ++ held_reads f new.kept new.first new.lines.number (map text_of_line (lines_by false l))) (append-nil new.lines.rest)
        ∙ ap (λ (l : List _). given ++ l) (nothing over) ∙ append-nil given in
        subst (λ (l : List _). BeginWith given (but_last l)) (sym is) (last_prefix given)

begin_trans : {R : Type 0} (xs ys zs : List R) → BeginWith xs ys → BeginWith ys zs → BeginWith xs zs
begin_trans xs ys zs (a, e) (b, d) = (b ++ a, e ∙ ap (λ (l : List _). l ++ a) d ∙ append_assoc zs b a)

-- behind the header
pub records_early : {R : Type 0} (f : Form R) → LooksAtKept f → (left middle left_new : Option (List ℕ)) (old now new : RecordsState) (given : List R) → IsNew old
    → (header : PassesHeader f left middle old now) → (steps : Steps f middle left_new now new given) → AreEarly now.lines steps.reads.taken steps.lines
    → BeginWith given (early_reads f (header.steps.reads.taken ++ steps.reads.taken))
records_early f law left middle left_new old now new given first header steps early =
    let some = header.steps.lines in
    let more = steps.lines in
    let texts = map text_of_line more in
    let all = reads_more left middle left_new old.lines now.lines new.lines some more header.steps.reads steps.reads in
    let may : MayStand now texts = λ ended rest. ap (map text_of_line) (none_behind middle left_new now.lines new.lines more steps.reads ended rest).0 in
    let whole : whole_of f (map text_of_line (some ++ more)) ≡ but_last (held_reads f now.kept now.first now.lines.number texts) =
    ap (λ (r : Result (List _) HeaderFault). records_in (whole_behind r)) (
    from_lines f old (map text_of_line (some ++ more)) first
    ∙ ap (file_by f old.header old) (map-append text_of_line some more)
    ∙ header.steps.told texts may
    ∙ ap (λ (h : HeaderState). file_by f h now texts) header.header) in
    let prefix = early_prefix left left_new old.lines new.lines (some ++ more) all first.rest first.taken
    (early_behind left middle old.lines now.lines some more steps.reads.taken header.steps.reads header.near early) in
    begin_trans given (but_last (held_reads f now.kept now.first now.lines.number texts)) (early_reads f (header.steps.reads.taken ++ steps.reads.taken))
    (whole_given f middle left_new now new given steps)
    (subst (λ (l : List _). BeginWith l (early_reads f (header.steps.reads.taken ++ steps.reads.taken))) whole (early_whole f law (header.steps.reads.taken ++ steps.reads.taken) (some ++ more) prefix))

-- before its end
pub header_early : {R : Type 0} (f : Form R) → LooksAtKept f → (left left_new : Option (List ℕ)) (old new : RecordsState) → IsNew old
    → (steps : HeaderSteps f left left_new old new) → AreEarly old.lines steps.reads.taken steps.lines → (new.header ≡ Passed → ⊥) → early_reads f steps.reads.taken ≡ []
header_early f law left left_new old new first steps early still =
    none_before (early_reads f steps.reads.taken) (subst (λ (l : List _). BeginWith l (early_reads f steps.reads.taken)) whole
    (early_whole f law steps.reads.taken steps.lines (early_prefix left left_new old.lines new.lines steps.lines steps.reads first.rest first.taken early)))
  where
    none : (h : HeaderState) → (h ≡ Passed → ⊥) → records_in (whole_behind (file_by f h new [])) ≡ []
    none New o = refl
    none Open o = refl
    none Passed o = absurd (o refl)
    none NotRinexNav o = refl
    none OtherVersion o = refl

    whole : whole_of f (map text_of_line steps.lines) ≡ []
    whole =
        ap (λ (r : Result (List _) HeaderFault). records_in (whole_behind r)) (
        from_lines f old (map text_of_line steps.lines) first
        ∙ ap (file_by f old.header old) (sym (append-nil (map text_of_line steps.lines)))
        ∙ steps.told [] (λ ended rest. refl))
        ∙ none new.header still

    none_before : {X : Type 0} (xs : List X) → BeginWith [] xs → xs ≡ []
    none_before [] h = refl
    none_before (x ∷ xs) (rest, e) = absurd (cc)

-- the records that are whole whatever lines follow are the first of all
behind_last : {R : Type 0} (r : Result (List R) HeaderFault) → BeginWith (records_in r) (records_in (whole_behind r))
behind_last (Ok rs) = last_prefix rs
behind_last (Err fault) = begin_nil []

-- the records that are whole in a beginning are the first of the file
pub whole_first : {R : Type 0} (f : Form R) → LooksAtKept f → (front rest : List ℕ) → BeginWith (records_in (file_reads f (front ++ rest))) (records_in (whole_reads f front))
whole_first f law front rest =
    let lines = lines_prefix false front rest in
    let a = map text_of_line (lines_by true front) in
    let b = map text_of_line lines.0 in
    let texts : lines_stated (front ++ rest) ≡ a ++ b = ap (map text_of_line) lines.1 ∙ map-append text_of_line (lines_by true front) lines.0 in
    let all : records_in (reads_behind f (header_of f 0 (a ++ b))) ≡ records_in (file_reads f (front ++ rest)) =
    ap (λ (ls : List (List ℕ)). records_in (reads_behind f (header_of f 0 ls))) (sym texts) ∙ ap records_in (file_told f law 0 (front ++ rest)) in
    let some : whole_of f a ≡ records_in (whole_reads f front) = ap (λ (r : Result (List _) HeaderFault). records_in (whole_behind r)) (ended_told f law 0 front) in
    subst (BeginWith (records_in (file_reads f (front ++ rest)))) some
    (subst (λ (l : List _). BeginWith l (whole_of f a)) all
    (begin_trans (records_in (reads_behind f (header_of f 0 (a ++ b)))) (whole_of f (a ++ b)) (whole_of f a) (behind_last (reads_behind f (header_of f 0 (a ++ b)))) (whole_prefix f a b)))
