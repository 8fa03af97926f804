-- The capture that the bytes taken are, and the least that is written of it.
use Rattle.std.proofs.Common.{◌≡◌, ℕ, ◌+◌, ◌-◌, ◌≤◌, true, false, List, [], ◌∷◌, ◌++◌, length, take, drop, refl, sym, ap, subst, ◌∙◌, arith, inl, inr, ⊎_elim, append_assoc, append-nil, length-append}
use Rattle.std.specs.Prelude.{Option, None, Some, IfSome, IsSome}
use Rattle.std.proofs.lemmas.Bool.{true≢false}
use Rattle.std.proofs.lemmas.List.{take-append-drop}
use Rattle.std.specs.Io.KnownBytes.{Appends, Consumes, IsAtEnd}
use Rattle.std.proofs.KnownBytes.{Appends-nil, Appends-trans}
use Rattle.nav_io.specs.Prefix.{AppendsPrefix, IsPrefix}
use Rattle.nav_io.specs.Lines.{Line, lines_by}
use Rattle.nav_io.specs.LinesState.{LinesState, Reads}
use Rattle.nav_io.proofs.Surface.{IsPrefixOf, prefix_within, lines_prefix}
use Rattle.periods.specs.PeriodsOf.{closed_of}
use Rattle.periods.specs.declared.closed.Closed.{Closed}
use Rattle.capture_log.specs.Log.{line_items_of, log_from, log_of, watermark_after, parts_of}
use Rattle.captures.specs.declared.accept.Accepted.{Accepted}
use Rattle.one_run.specs.declared.fault.BridgeFault.{BridgeFault}
use Rattle.streams.specs.declared.target.Target.{Target}
use Rattle.streams.specs.declared.target.Target.TheVariants.{Rinex, Rinex3, Rtcm, ToList, Count}
use Rattle.streams.specs.Targets.{back_text, prefix_text}
use Rattle.captures.specs.Captures.{Capture, accepted_line, capture_in, capture_of, capture_with, counts_in, counts_of, counts_text, least_output, least_report, output_of, periods, refusals_text, report_of_capture, flushed_output, flushed_report, flushed_text, flushed_texts, texts_of, whole_report, whole_text, without_last}
use Rattle.captures.specs.Converts.{AcceptsHead, CapturePrefix, CountsLast, Refuses, Stop, StopSays}
use Rattle.one_run.specs.Runs.{AppendsBetween}
use Rattle.one_run.proofs.Surface.{nothing_stopped, nothing_told}
use Rattle.captures.specs.Notes.{line_report}
use Rattle.captures.proofs.Prefixes.{LogLaws, appends_behind, appends_longer, prefix_behind, prefix_more, prefix_nil, prefix_trans}
use Rattle.captures.proofs.Logs.{known_of, log_more, report_append}
use Rattle.captures.proofs.Writing.{texts_prefix}

-- the capture of these lines after an accepted first line
abbrev pub capture_by : Accepted → List Line → Capture
capture_by head lines = record { window = head.window; week = head.week; lines = lines }

pub capture_lines : (week : Option ℕ) (head : Accepted) (line : Line) (lines : List Line) → accepted_line week line ≡ Some head → capture_in week (line ∷ lines) ≡ Some (capture_by head lines)
capture_lines week head line lines e = ap (capture_with lines) e

-- ---- all but the last line

without_prefix : (ys : List Line) → IsPrefixOf (without_last ys) ys
without_prefix [] = ([], refl)
without_prefix (y ∷ []) = (y ∷ [], refl)
without_prefix (y ∷ z ∷ zs) =
    let tail = without_prefix (z ∷ zs) in
    (tail.0, ap (λ (l : List Line). y ∷ l) tail.1)

without_length : (y : Line) (ys : List Line) → length (without_last (y ∷ ys)) + 1 ≡ length (y ∷ ys)
without_length y [] = refl
without_length y (z ∷ zs) = omega (arith, without_length z zs)

lines_trans : (xs ys zs : List Line) → IsPrefixOf xs ys → IsPrefixOf ys zs → IsPrefixOf xs zs
lines_trans xs ys zs (a, e) (b, f) = (a ++ b, f ∙ ap (λ (l : List Line). l ++ b) e ∙ append_assoc xs a b)

lines_length : (xs ys : List Line) → IsPrefixOf xs ys → length xs ≤ length ys
lines_length xs ys (rest, e) = omega (arith, ap length e, length-append xs rest)

-- a prefix of lines and one more, without its last, is a prefix of the lines
without_one : (y : Line) (ys given last : List Line) → length last ≤ 1 → IsPrefixOf (y ∷ ys) (given ++ last) → IsPrefixOf (without_last (y ∷ ys)) given
without_one y ys given last few prefix =
    let all = lines_trans (without_last (y ∷ ys)) (y ∷ ys) (given ++ last) (without_prefix (y ∷ ys)) prefix in
    prefix_within (without_last (y ∷ ys)) given last all
    (omega (arith, without_length y ys, lines_length (y ∷ ys) (given ++ last) prefix, length-append given last, few))

without_short : (lines : List Line) → length lines ≤ 1 → without_last lines ≡ []
without_short [] few = refl
without_short (y ∷ []) few = refl
without_short (y ∷ z ∷ zs) few = absurd (omega (arith, few))

-- ---- the least

abbrev pub first_or : Line → List Line → Line
first_or d [] = d
first_or d (z ∷ zs) = z

-- what is closed by a prefix of the lines is a prefix of what is closed by them
pub flushed_prefix : (laws : LogLaws) (to : Target) (week : Option ℕ) (head : Accepted) (line : Line) (given last lines : List Line) → accepted_line week line ≡ Some head → length last ≤ 1
    → IsPrefixOf lines (line ∷ (given ++ last))
    → IsPrefix (flushed_text to (capture_in week (without_last lines)))
    (prefix_text to ++ texts_of to (closed_of head.week head.window (watermark_after head.window given) (parts_of head.window given)))
flushed_prefix laws to week head line given last [] e few prefix = prefix_nil _
flushed_prefix laws to week head line given last (x ∷ []) e few prefix = prefix_nil _
flushed_prefix laws to week head line given last (x ∷ y ∷ ys) e few (rest, whole) =
    let same : line ≡ x = ap (λ (l : List Line). first_or line l) whole in
    let tail : IsPrefixOf (y ∷ ys) (given ++ last) = (rest, ap (drop 1) whole) in
    let less = without_last (y ∷ ys) in
    let prefix = without_one y ys given last few tail in
    let accepted : accepted_line week x ≡ Some head = ap (accepted_line week) (sym same) ∙ e in
    let closed = closed_of head.week head.window (watermark_after head.window less) (parts_of head.window less) in
    let more = closed_of head.week head.window (watermark_after head.window given) (parts_of head.window given) in
    let rises = subst (λ (l : List Line). IsPrefix (texts_of to closed) (texts_of to (closed_of head.week head.window (watermark_after head.window l) (parts_of head.window l)))) (sym prefix.1)
    (texts_prefix to closed (closed_of head.week head.window (watermark_after head.window (less ++ prefix.0)) (parts_of head.window (less ++ prefix.0))) (laws.rise head.week head.window less prefix.0)) in
    subst (λ (c : Option Capture). IsPrefix (flushed_text to c) (prefix_text to ++ texts_of to more)) (sym (capture_lines week head x less accepted))
    (prefix_behind (prefix_text to) (texts_of to closed) (texts_of to more) rises)

-- the report of lines is a prefix of that of more
pub report_prefix : (window : ℕ) (lines more : List Line) → IsPrefix (line_report (log_of window lines)) (line_report (log_of window (lines ++ more)))
report_prefix window lines more =
    let behind = log_from window (known_of window lines) (2 + length lines) (line_items_of more) in
    (line_report behind, ap line_report (log_more window lines more) ∙ report_append (log_of window lines) behind)

-- what is reported of a prefix of the lines is a prefix of what is reported of them
refusals_prefix : (week : Option ℕ) (head : Accepted) (line : Line) (given last lines : List Line) → accepted_line week line ≡ Some head → length last ≤ 1
    → IsPrefixOf lines (line ∷ (given ++ last)) → IsPrefix (refusals_text (capture_in week (without_last lines))) (line_report (log_of head.window given))
refusals_prefix week head line given last [] e few prefix = prefix_nil _
refusals_prefix week head line given last (x ∷ []) e few prefix = prefix_nil _
refusals_prefix week head line given last (x ∷ y ∷ ys) e few (rest, whole) =
    let same : line ≡ x = ap (λ (l : List Line). first_or line l) whole in
    let tail : IsPrefixOf (y ∷ ys) (given ++ last) = (rest, ap (drop 1) whole) in
    let less = without_last (y ∷ ys) in
    let prefix = without_one y ys given last few tail in
    let accepted : accepted_line week x ≡ Some head = ap (accepted_line week) (sym same) ∙ e in
    let grows = subst (λ (l : List Line). IsPrefix (line_report (log_of head.window less)) (line_report (log_of head.window l))) (sym prefix.1) (report_prefix head.window less prefix.0) in
    subst (λ (c : Option Capture). IsPrefix (refusals_text c) (line_report (log_of head.window given))) (sym (capture_lines week head x less accepted)) grows

-- the lines that have ended before the last 4,096 bytes are a prefix of all
recent_prefix : (t : List ℕ) (lines : List Line) (more : List Line) → lines_by false t ≡ lines ++ more → length (lines_by true (take (length t - 4096) t)) ≤ length lines
    → IsPrefixOf (lines_by true (take (length t - 4096) t)) lines
recent_prefix t lines more e few =
    let k = length t - 4096 in
    let prefix = lines_prefix false (take k t) (drop k t) in
    let whole : lines ++ more ≡ lines_by true (take k t) ++ prefix.0 = sym e ∙ ap (lines_by false) (sym (take-append-drop k t)) ∙ prefix.1 in
    prefix_within (lines_by true (take k t)) lines more (prefix.0, whole) few

pub least_prefix : (laws : LogLaws) (to : Target) (week : Option ℕ) (head : Accepted) (line : Line) (given last more : List Line) (t : List ℕ) → accepted_line week line ≡ Some head → length last ≤ 1
    → lines_by false t ≡ (line ∷ (given ++ last)) ++ more → length (lines_by true (take (length t - 4096) t)) ≤ length (line ∷ (given ++ last))
    → IsPrefix (least_output to week t) (prefix_text to ++ texts_of to (closed_of head.week head.window (watermark_after head.window given) (parts_of head.window given)))
unfolding least_output
least_prefix laws to week head line given last more t e few all recent =
    flushed_prefix laws to week head line given last (lines_by true (take (length t - 4096) t)) e few (recent_prefix t (line ∷ (given ++ last)) more all recent)

pub least_none : (to : Target) (week : Option ℕ) (t : List ℕ) → length (lines_by true (take (length t - 4096) t)) ≤ 1 → least_output to week t ≡ []
unfolding least_output
least_none to week t few = ap (λ (l : List Line). flushed_text to (capture_in week l)) (without_short (lines_by true (take (length t - 4096) t)) few)

pub least_reported : (week : Option ℕ) (head : Accepted) (line : Line) (given last more : List Line) (t : List ℕ) → accepted_line week line ≡ Some head → length last ≤ 1
    → lines_by false t ≡ (line ∷ (given ++ last)) ++ more → length (lines_by true (take (length t - 4096) t)) ≤ length (line ∷ (given ++ last))
    → IsPrefix (least_report week t) (line_report (log_of head.window given))
unfolding least_report
least_reported week head line given last more t e few all recent =
    refusals_prefix week head line given last (lines_by true (take (length t - 4096) t)) e few (recent_prefix t (line ∷ (given ++ last)) more all recent)

-- nothing was reported, where no line need be
pub none_reported : (week : Option ℕ) (reported : Option (List ℕ)) (t : List ℕ) → length (lines_by true (take (length t - 4096) t)) ≤ 1
    → AppendsBetween reported reported (least_report week t) (report_of_capture week t)
unfolding least_report
none_reported week reported t few = record {
  prefix = [];
  within = prefix_nil (report_of_capture week t);
  no_less =
      let none = ap (λ (l : List Line). refusals_text (capture_in week l)) (without_short (lines_by true (take (length t - 4096) t)) few) in
      subst (λ (l : List ℕ). IsPrefix l []) (sym none) (prefix_nil []);
  grew = Appends-nil reported;
}

-- ---- the whole

pub output_is : (to : Target) (week : Option ℕ) (t : List ℕ) (c : Capture) → capture_of week t ≡ Some c
    → output_of to week t ≡ prefix_text to ++ (texts_of to (periods c) ++ back_text to (counts_text (counts_of c)))
unfolding output_of
output_is to week t c e = ap (whole_text to) e

pub report_is : (week : Option ℕ) (t : List ℕ) (c : Capture) → capture_of week t ≡ Some c → report_of_capture week t ≡ line_report (log_of c.window c.lines) ++ counts_text (counts_of c)
unfolding report_of_capture
report_is week t c e = ap whole_report e

pub flushed_is : (to : Target) (week : Option ℕ) (t : List ℕ) (lines : List Line) → lines_by true t ≡ lines → flushed_output to week t ≡ flushed_text to (capture_in week lines)
unfolding flushed_output
flushed_is to week t lines e = ap (λ (l : List Line). flushed_text to (capture_in week l)) e

pub flushed_report_is : (week : Option ℕ) (t : List ℕ) (lines : List Line) → lines_by true t ≡ lines → flushed_report week t ≡ refusals_text (capture_in week lines)
unfolding flushed_report
flushed_report_is week t lines e = ap (λ (l : List Line). refusals_text (capture_in week l)) e

-- ---- counts are written at the end alone

no_texts : (cs : List Closed) → texts_of Count cs ≡ []
no_texts [] = refl
no_texts (c ∷ cs) = no_texts cs

appends_none : (a b : Option (List ℕ)) (prefix : List ℕ) → IsPrefix prefix [] → Appends a b prefix → Appends a b []
appends_none a b [] within h = h
appends_none a b (x ∷ xs) (rest, e) h = absurd (omega (arith, ap length e, length-append (x ∷ xs) rest))

last_by : (to : Target) (week : Option ℕ) (left left_new written written_new : Option (List ℕ)) → (to ≡ Count → CountsLast Count week left left_new written written_new)
    → CountsLast to week left left_new written written_new
last_by (Rinex words) week left left_new written written_new h = tt
last_by (Rinex3 words) week left left_new written written_new h = tt
last_by Rtcm week left left_new written written_new h = tt
last_by ToList week left left_new written written_new h = tt
last_by Count week left left_new written written_new h = h refl

pub last_nothing : (to : Target) (week : Option ℕ) (left left_new written written_new : Option (List ℕ)) → Appends written written_new [] → CountsLast to week left left_new written written_new
last_nothing to week left left_new written written_new h = last_by to week left left_new written written_new (λ e. inl h)

pub last_prefix : (to : Target) (week : Option ℕ) (left left_new written written_new : Option (List ℕ)) → AppendsPrefix written written_new (prefix_text to)
    → CountsLast to week left left_new written written_new
last_prefix to week left left_new written written_new h =
    last_by to week left left_new written written_new
    (λ e. let none : AppendsPrefix written written_new [] = subst (λ (t : Target). AppendsPrefix written written_new (prefix_text t)) e h in
    inl (appends_none written written_new none.0 none.1 none.2))

pub last_texts : (to : Target) (week : Option ℕ) (left left_new written written1 written2 : Option (List ℕ)) (cs : List Closed) → Appends written written1 (prefix_text to)
    → AppendsPrefix written1 written2 (texts_of to cs) → CountsLast to week left left_new written written2
last_texts to week left left_new written written1 written2 cs begun h =
    last_by to week left left_new written written2
    (λ e. let first : Appends written written1 [] = subst (λ (t : Target). Appends written written1 (prefix_text t)) e begun in
    let none : AppendsPrefix written1 written2 [] = subst (AppendsPrefix written1 written2) (no_texts cs) (subst (λ (t : Target). AppendsPrefix written1 written2 (texts_of t cs)) e h) in
    inl (Appends-trans written written1 written2 [] [] first (appends_none written1 written2 none.0 none.1 none.2)))

pub last_all : (to : Target) (week : Option ℕ) (left left_new written written_new : Option (List ℕ)) (t : List ℕ) → Consumes left left_new t → IsAtEnd left_new
    → AppendsPrefix written written_new (output_of to week t) → CountsLast to week left left_new written written_new
last_all to week left left_new written written_new t consumes end h =
    last_by to week left left_new written written_new
    (λ e. inr (record { taken = t; consumes = consumes; end = end; text = subst (λ (x : Target). AppendsPrefix written written_new (output_of x week t)) e h }))

-- ---- prefixes of what all bytes give

-- after an accepted first line, of lines that these bytes have and maybe more
pub prefixes_of : (to : Target) (week : Option ℕ) (head : Accepted) (line : Line) (lines more : List Line) (bytes : List ℕ) (written written1 written2 reported reported2 : Option (List ℕ)) → accepted_line week line ≡ Some head
    → lines_by false bytes ≡ (line ∷ lines) ++ more → Appends written written1 (prefix_text to) → AppendsPrefix written1 written2 (texts_of to (periods (capture_by head (lines ++ more))))
    → AppendsPrefix reported reported2 (line_report (log_of head.window lines))
    → AppendsPrefix written written2 (output_of to week bytes) × AppendsPrefix reported reported2 (report_of_capture week bytes)
prefixes_of to week head line lines more bytes written written1 written2 reported reported2 accepted all begun text report =
    let c = capture_by head (lines ++ more) in
    let capture : capture_of week bytes ≡ Some c = ap (capture_in week) all ∙ capture_lines week head line (lines ++ more) accepted in
    let texts = texts_of to (periods c) in
    let back = back_text to (counts_text (counts_of c)) in
    let told = line_report (log_of head.window lines) in
    let all_told = line_report (log_of head.window c.lines) in (
      subst (AppendsPrefix written written2) (sym (output_is to week bytes c capture))
          (appends_behind written written1 written2 (prefix_text to) (texts ++ back) begun (appends_longer written1 written2 texts (texts ++ back) (prefix_more texts back) text)),
      subst (AppendsPrefix reported reported2) (sym (report_is week bytes c capture))
          (appends_longer reported reported2 told (all_told ++ counts_text (counts_of c))
          (prefix_trans told all_told (all_told ++ counts_text (counts_of c)) (report_prefix head.window lines more) (prefix_more all_told (counts_text (counts_of c)))) report),
    )

-- without counts
pub rejections_of : (week : Option ℕ) (head : Accepted) (line : Line) (lines more : List Line) (bytes : List ℕ) (reported reported2 : Option (List ℕ)) → accepted_line week line ≡ Some head
    → lines_by false bytes ≡ (line ∷ lines) ++ more → AppendsPrefix reported reported2 (line_report (log_of head.window lines))
    → AppendsPrefix reported reported2 (refusals_text (capture_of week bytes))
rejections_of week head line lines more bytes reported reported2 accepted all report =
    let c = capture_by head (lines ++ more) in
    let capture : capture_of week bytes ≡ Some c = ap (capture_in week) all ∙ capture_lines week head line (lines ++ more) accepted in
    subst (λ (o : Option Capture). AppendsPrefix reported reported2 (refusals_text o)) (sym capture)
    (appends_longer reported reported2 (line_report (log_of head.window lines)) (line_report (log_of head.window c.lines)) (report_prefix head.window lines more) report)

-- nothing was reported, and a prefix of the leading text was written
pub prefix_head : (to : Target) (week : Option ℕ) (head : Accepted) (line : Line) (left written written_new reported : Option (List ℕ)) → accepted_line week line ≡ Some head
    → IfSome left (λ bytes. IsPrefixOf (line ∷ []) (lines_by false bytes)) → AppendsPrefix written written_new (prefix_text to) → CapturePrefix to week left written written_new reported reported
prefix_head to week head line None written written_new reported e prefix h = tt
prefix_head to week head line (Some bytes) written written_new reported e (more, all) h =
    let c = capture_by head more in
    let capture : capture_of week bytes ≡ Some c = ap (capture_in week) all ∙ capture_lines week head line more e in
    let behind = texts_of to (periods c) ++ back_text to (counts_text (counts_of c)) in (
      subst (AppendsPrefix written written_new) (sym (output_is to week bytes c capture)) (appends_longer written written_new (prefix_text to) (prefix_text to ++ behind) (prefix_more (prefix_text to) behind) h),
      ([], prefix_nil (report_of_capture week bytes), Appends-nil reported),
    )

-- what was taken is all that was there
pub prefix_all : (to : Target) (week : Option ℕ) (left written written_new reported reported_new : Option (List ℕ)) (t : List ℕ) → IfSome left (λ bytes. t ≡ bytes)
    → AppendsPrefix written written_new (output_of to week t) → AppendsPrefix reported reported_new (report_of_capture week t) → CapturePrefix to week left written written_new reported reported_new
prefix_all to week None written written_new reported reported_new t same text report = tt
prefix_all to week (Some bytes) written written_new reported reported_new t same text report = (
  subst (λ (l : List ℕ). AppendsPrefix written written_new (output_of to week l)) same text,
  subst (λ (l : List ℕ). AppendsPrefix reported reported_new (report_of_capture week l)) same report,
)

prefix_nothing : (to : Target) (week : Option ℕ) (left written reported : Option (List ℕ)) → CapturePrefix to week left written written reported reported
prefix_nothing to week None written reported = tt
prefix_nothing to week (Some bytes) written reported =
    (([], prefix_nil (output_of to week bytes), Appends-nil written), ([], prefix_nil (report_of_capture week bytes), Appends-nil reported))

-- ---- nothing was written

pub nothing_part : (to : Target) (week : Option ℕ) (left left_new written reported : Option (List ℕ)) (t : List ℕ) (fault : BridgeFault) → Consumes left left_new t
    → length (lines_by true (take (length t - 4096) t)) ≤ 1 → StopSays to week left t written written reported reported fault → Stop to week left left_new written written reported reported fault
nothing_part to week left left_new written reported t fault consumes few says = record {
  taken = t;
  consumes = consumes;
  text = record {
    prefix = [];
    within = prefix_nil (output_of to week t);
    no_less = ([], sym (append-nil (least_output to week t) ∙ least_none to week t few));
    grew = Appends-nil written;
  };
  report = none_reported week reported t few;
  ahead = (prefix_nothing to week left written reported, last_nothing to week left left_new written written (Appends-nil written));
  stopped = nothing_stopped (Some (flushed_texts to week)) left written written reported reported refl refl;
  counts_last = inl (nothing_told (λ bytes. refusals_text (capture_of week bytes)) left reported reported refl);
  says = says;
}

-- ---- the lines of all bytes that were there

-- those that were read come first
pub known_lines : (left left_new : Option (List ℕ)) (old new : LinesState) (lines : List Line) → Reads left left_new old new lines → old.rest ≡ [] → old.ended ≡ false
    → IfSome left (λ bytes. IsPrefixOf lines (lines_by false bytes))
known_lines None left_new old new lines reads none begins = tt
known_lines (Some bytes) None old new lines reads none begins = absurd reads.consumes
known_lines (Some bytes) (Some behind) old new lines reads none begins =
    let may : new.ended ≡ true → (false ≡ false) × (behind ≡ []) = λ ended.
    (refl, ⊎_elim (λ (before : old.ended ≡ true). absurd (true≢false (sym before ∙ begins))) (λ (at : behind ≡ []). at) (reads.at_end ended)) in (
      lines_by false (new.rest ++ behind),
      ap (lines_by false) reads.consumes ∙ ap (λ (l : List ℕ). lines_by false (l ++ (reads.taken ++ behind))) (sym none) ∙ reads.stream false behind may,
    )

-- those that follow them
abbrev pub Follow : Option (List ℕ) → LinesState → List Line → Type 0
Follow left new lines = IfSome left (λ bytes. (more : List Line) × (lines_by false bytes ≡ lines ++ more) × (new.ended ≡ true → new.rest ≡ [] → more ≡ []))

pub lines_follow : (left left_new : Option (List ℕ)) (old new : LinesState) (lines : List Line) → Reads left left_new old new lines → old.rest ≡ [] → old.ended ≡ false → Follow left new lines
lines_follow None left_new old new lines reads none begins = tt
lines_follow (Some bytes) None old new lines reads none begins = absurd reads.consumes
lines_follow (Some bytes) (Some behind) old new lines reads none begins =
    let at : new.ended ≡ true → behind ≡ [] = λ ended.
    ⊎_elim (λ (before : old.ended ≡ true). absurd (true≢false (sym before ∙ begins))) (λ (at : behind ≡ []). at) (reads.at_end ended) in (
      lines_by false (new.rest ++ behind),
      ap (lines_by false) reads.consumes ∙ ap (λ (l : List ℕ). lines_by false (l ++ (reads.taken ++ behind))) (sym none)
          ∙ reads.stream false behind (λ ended. (refl, at ended)),
      λ ended rest. ap (λ (l : List ℕ). lines_by false (l ++ behind)) rest ∙ ap (lines_by false) (at ended),
    )

-- the first line is accepted
pub accepts_first : (week : Option ℕ) (head : Accepted) (line : Line) (left : Option (List ℕ)) → accepted_line week line ≡ Some head
    → IfSome left (λ bytes. IsPrefixOf (line ∷ []) (lines_by false bytes)) → AcceptsHead week left
accepts_first week head line None e prefix = tt
accepts_first week head line (Some bytes) e (more, all) =
    subst (λ (c : Option Capture). IsSome (counts_in c)) (sym (ap (capture_in week) all ∙ capture_lines week head line more e)) refl

pub refuses_first : (week : Option ℕ) (line : Line) (left : Option (List ℕ)) → accepted_line week line ≡ None
    → IfSome left (λ bytes. IsPrefixOf (line ∷ []) (lines_by false bytes)) → Refuses week left
refuses_first week line None e prefix = tt
refuses_first week line (Some bytes) e (more, all) = ap counts_in (ap (capture_in week) all ∙ ap (capture_with more) e)

-- there is none
pub refuses_none : (week : Option ℕ) (left left_new : Option (List ℕ)) (old new : LinesState) → Reads left left_new old new [] → old.rest ≡ [] → old.ended ≡ false → new.rest ≡ [] → new.ended ≡ true
    → Refuses week left
refuses_none week None left_new old new reads none begins rest ended = tt
refuses_none week (Some bytes) None old new reads none begins rest ended = absurd reads.consumes
refuses_none week (Some bytes) (Some behind) old new reads none begins rest ended =
    let end : behind ≡ [] = ⊎_elim (λ (before : old.ended ≡ true). absurd (true≢false (sym before ∙ begins))) (λ (at : behind ≡ []). at) (reads.at_end ended) in
    let all : lines_by false bytes ≡ [] =
    ap (lines_by false) reads.consumes ∙ ap (λ (l : List ℕ). lines_by false (l ++ (reads.taken ++ behind))) (sym none)
    ∙ reads.stream false behind (λ now. (refl, end)) ∙ ap (λ (l : List ℕ). lines_by false (l ++ behind)) rest ∙ ap (lines_by false) end in
    ap (λ (l : List Line). counts_in (capture_in week l)) all
