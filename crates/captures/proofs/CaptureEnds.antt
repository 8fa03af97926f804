-- How a run over a capture ends: in its first line, the leading text, the further lines, the trailing text, or done.
use Rattle.std.proofs.Common.{◌≡◌, ℕ, ◌+◌, ◌-◌, ◌<◌, ◌≤◌, ◌^◌, true, false, List, [], ◌∷◌, ◌++◌, length, take, drop, length-drop, inl, inr, refl, sym, ap, subst, ◌∙◌, arith, ⊎_elim, append_assoc, append-nil}
use Rattle.std.specs.Prelude.{Option, None, Some, Err, IsTrue, ◌⊎◌}
use Rattle.std.proofs.lemmas.Bool.{true≢false}
use Rattle.std.proofs.lemmas.List.{take-append-drop}
use Rattle.std.specs.Io.KnownBytes.{Appends, Consumes, IsAtEnd}
use Rattle.std.proofs.KnownBytes.{Appends-nil, Appends-trans, Consumes-all}
use Rattle.nav_io.specs.Causes.{Rose}
use Rattle.nav_io.specs.Prefix.{AppendsPrefix, IsPrefix}
use Rattle.nav_io.specs.Lines.{Line, lines_by}
use Rattle.nav_io.specs.LinesState.{LinesState, Reads, GivesLine, GivesEnd}
use Rattle.nav_io.proofs.Surface.{ended_before, lines_length, no_pieces, reads_more, recent_ended, recent_lines, recent_within, sum_pieces}
use Rattle.periods.specs.PeriodsOf.{closed_of, periods_of}
use Rattle.capture_log.specs.Log.{log_of, watermark_after, parts_of}
use Rattle.captures.specs.declared.accept.Accepted.{Accepted}
use Rattle.streams.specs.declared.target.Target.{Target}
use Rattle.captures.specs.declared.target.CaptureTo.{CaptureTo}
use Rattle.captures.specs.declared.counts.CaptureCounts.{CaptureCounts}
use Rattle.captures.specs.declared.counts.EventCounts.{EventCounts}
use Rattle.captures.specs.declared.counts.VerdictCounts.{VerdictCounts}
use Rattle.one_run.specs.declared.fault.BridgeFault.{BridgeFault}
use Rattle.one_run.specs.declared.fault.BridgeFault.TheVariants.{ReadFault, WriteFault, ReportFault, TooLong, NoMemory, NotThisForm}
use Rattle.streams.specs.Targets.{back_text, prefix_text}
use Rattle.captures.specs.Captures.{Capture, accepted_line, capture_in, capture_meaning, capture_of, capture_with, counts_in, counts_of, counts_text, least_output, least_report, output_of, periods, refusals_text, report_of_capture, flushed_output, flushed_report, flushed_text, flushed_texts, target_meaning, target_of, texts_of}
use Rattle.captures.specs.declared.receiving.CaptureState.{CaptureState}
use Rattle.captures.specs.Conversions.{ConvertsAll, ConversionBroke, ConversionSays}
use Rattle.captures.specs.Converts.{AcceptsHead, CaptureAhead, CapturePrefix, GivesHead, GivesNoHead, RejectionsPrefix, Stop, StopSays, closed_texts, no_tally}
use Rattle.captures.specs.Notes.{line_report, tallied}
use Rattle.captures.specs.Reports.{count_in, is_late, is_malformed, is_refused_event, is_unused}
use Rattle.one_run.specs.Causes.{Faults, HasItsCause, faults_of}
use Rattle.one_run.specs.Runs.{AppendsBetween, IsBroken, IsDone, Leaves, Says, StopAtOnePlace, World}
use Rattle.captures.specs.Flushed.{said_of, with_counts}
use Rattle.captures.proofs.CapturePrefixes.{Follow, accepts_first, capture_by, capture_lines, prefix_all, prefix_head, prefixes_of, known_lines, last_all, last_prefix, last_texts, least_prefix, least_none, least_reported, lines_follow, none_reported, nothing_part, output_is, refuses_first, refuses_none, rejections_of, report_prefix, report_is, flushed_is, flushed_report_is}
use Rattle.captures.proofs.Converting.{all_lines, ended_lines}
use Rattle.one_run.proofs.Surface.{between_behind, between_within, nothing_told, prefix_of, prefix_same, taken_all}
use Rattle.captures.proofs.Prefixes.{LogLaws, appends_whole, prefix_behind, prefix_more, prefix_nil, prefix_trans}
use Rattle.captures.proofs.Stopping.{conversion_stopped_at, end_stopped_at, head_stopped_at}
use Rattle.captures.proofs.Writing.{texts_prefix}

-- lines of which none was read
pub record IsFresh (state : LinesState) : Type 0 where
  pub rest : state.rest ≡ []
  pub ended : state.ended ≡ false
  pub taken : state.taken ≡ 0
  pub number : state.number ≡ 0

-- nothing was held, so all is what was taken
held_none : (held t : List ℕ) → held ≡ [] → t ≡ held ++ t
held_none held t e = ap (λ (l : List ℕ). l ++ t) (sym e)

pub fresh_lines : (left left_new : Option (List ℕ)) (old new : LinesState) (lines : List Line) (reads : Reads left left_new old new lines) → IsFresh old
    → lines_by false reads.taken ≡ lines ++ lines_by false new.rest
fresh_lines left left_new old new lines reads fresh = ap (lines_by false) (held_none old.rest reads.taken fresh.rest) ∙ all_lines left left_new old new lines reads

-- ---- in the first line

no_head_line : (to : Target) (week : Option ℕ) (left left1 written reported : Option (List ℕ)) (old new : LinesState) (line : Line) → IsFresh old → GivesLine left left1 old new line
    → accepted_line week line ≡ None → Stop to week left left1 written written reported reported NotThisForm
no_head_line to week left left1 written reported old new line fresh gives refused =
    let few : length old.rest ≤ 4096 = omega (arith, ap length fresh.rest) in
    let whole = held_none old.rest gives.reads.taken fresh.rest ∙ gives.split in
    let lines = fresh_lines left left1 old new (line ∷ []) gives.reads fresh in
    nothing_part to week left left1 written reported gives.reads.taken NotThisForm gives.reads.consumes
    (recent_lines gives.reads.taken gives.prefix new.rest (line ∷ []) whole (gives.short few) lines)
    (ap counts_in (ap (capture_in week) lines ∙ ap (capture_with (lines_by false new.rest)) refused), refuses_first week line left refused (known_lines left left1 old new (line ∷ []) gives.reads fresh.rest fresh.ended))

no_head_end : (to : Target) (week : Option ℕ) (left left1 written reported : Option (List ℕ)) (old new : LinesState) → IsFresh old → GivesEnd left left1 old new
    → Stop to week left left1 written written reported reported NotThisForm
no_head_end to week left left1 written reported old new fresh gives =
    let t = gives.reads.taken in
    let none : lines_by false t ≡ [] ++ lines_by false [] = fresh_lines left left1 old new [] gives.reads fresh ∙ ap (lines_by false) gives.rest in
    let few = recent_lines t t [] [] (sym (append-nil t)) (omega arith) none in
    nothing_part to week left left1 written reported t NotThisForm gives.reads.consumes (omega (arith, few))
    (ap (λ (l : List Line). counts_in (capture_in week l)) none, refuses_none week left left1 old new gives.reads fresh.rest fresh.ended gives.rest gives.ended)

pub head_stops : (to : Target) (week : Option ℕ) (left left1 written reported : Option (List ℕ)) (old new : LinesState) (fault : BridgeFault) → IsFresh old → GivesNoHead week left left1 old new fault
    → Stop to week left left1 written written reported reported fault
head_stops to week left left1 written reported old new NotThisForm fresh h =
    ⊎_elim (λ (given : (line : Line) × GivesLine left left1 old new line × (accepted_line week line ≡ None)). no_head_line to week left left1 written reported old new given.0 fresh given.1 given.2)
    (λ (ends : GivesEnd left left1 old new). no_head_end to week left left1 written reported old new fresh ends) h
head_stops to week left left1 written reported old new ReadFault fresh h =
    let t = h.reads.taken in
    let none : lines_by true t ≡ [] = ap (lines_by true) (held_none old.rest t fresh.rest) ∙ ended_lines left left1 old new [] h.reads h.more h.none in
    let few = recent_ended t [] none in
    nothing_part to week left left1 written reported t ReadFault h.reads.consumes (omega (arith, few))
    (subst (Appends written written) (sym (flushed_is to week t [] none)) (Appends-nil written), subst (Appends reported reported) (sym (flushed_report_is week t [] none)) (Appends-nil reported))
head_stops to week left left1 written reported old new TooLong fresh h =
    let t = h.reads.taken in
    let whole = held_none old.rest t fresh.rest ∙ h.split in
    let few = recent_within t h.prefix h.last 0 whole (h.few (omega (arith, fresh.taken))) (omega (arith, ap length (no_pieces h.prefix h.none))) in
    nothing_part to week left left1 written reported t TooLong h.reads.consumes (omega (arith, few)) (omega (arith, h.too_many, h.reads.count, fresh.taken))
head_stops to week left left1 written reported old new WriteFault fresh h = absurd h
head_stops to week left left1 written reported old new ReportFault fresh h = absurd h
head_stops to week left left1 written reported old new NoMemory fresh h = absurd h

-- ---- after an accepted first line

pub head_accepts : (week : Option ℕ) (left left1 : Option (List ℕ)) (old new : LinesState) (head : Accepted) → IsFresh old → GivesHead week left left1 old new head → AcceptsHead week left
head_accepts week left left1 old new head fresh h =
    accepts_first week head h.line left h.accepted (known_lines left left1 old new (h.line ∷ []) h.gives.reads fresh.rest fresh.ended)

-- one line was read
pub one_line : (week : Option ℕ) (left left1 : Option (List ℕ)) (old new : LinesState) (head : Accepted) → IsFresh old → GivesHead week left left1 old new head → new.number ≡ 1 + length {A = Line} []
one_line week left left1 old new head fresh h = omega (arith, fresh.number, h.gives.number)

-- the capture that the bytes taken are
head_capture : (week : Option ℕ) (left left1 left2 : Option (List ℕ)) (old middle new : LinesState) (head : Accepted) (given : List Line) → IsFresh old → (h : GivesHead week left left1 old middle head)
    → (reads : Reads left1 left2 middle new given) → capture_of week (h.gives.reads.taken ++ reads.taken) ≡ Some (capture_by head (given ++ lines_by false new.rest))
head_capture week left left1 left2 old middle new head given fresh h reads =
    ap (capture_in week) (fresh_lines left left2 old new (h.line ∷ given) (reads_more left left1 left2 old middle new (h.line ∷ []) given h.gives.reads reads) fresh)
    ∙ capture_lines week head h.line (given ++ lines_by false new.rest) h.accepted

-- the leading text was not written whole
pub head_part : (to : Target) (week : Option ℕ) (left left1 written written_new reported : Option (List ℕ)) (old new : LinesState) (head : Accepted) → IsFresh old → GivesHead week left left1 old new head
    → AppendsPrefix written written_new (prefix_text to) → Stop to week left left1 written written_new reported reported WriteFault
head_part to week left left1 written written_new reported old new head fresh h (prefix, within, text) =
    let t = h.gives.reads.taken in
    let few : length old.rest ≤ 4096 = omega (arith, ap length fresh.rest) in
    let whole = held_none old.rest t fresh.rest ∙ h.gives.split in
    let recent = recent_lines t h.gives.prefix new.rest (h.line ∷ []) whole (h.gives.short few) (fresh_lines left left1 old new (h.line ∷ []) h.gives.reads fresh) in
    let c = capture_by head (lines_by false new.rest) in
    let capture : capture_of week t ≡ Some c =
    ap (capture_in week) (fresh_lines left left1 old new (h.line ∷ []) h.gives.reads fresh) ∙ capture_lines week head h.line (lines_by false new.rest) h.accepted in
    let behind = texts_of to (periods c) ++ back_text to (counts_text (counts_of c)) in
    record {
      taken = t;
      consumes = h.gives.reads.consumes;
      text = record {
        prefix = prefix;
        within = subst (IsPrefix prefix) (sym (output_is to week t c capture)) (prefix_trans prefix (prefix_text to) (prefix_text to ++ behind) within (prefix_more (prefix_text to) behind));
        no_less = subst (λ (l : List ℕ). IsPrefix l prefix) (sym (least_none to week t recent)) (prefix_nil prefix);
        grew = text;
      };
      report = none_reported week reported t recent;
      ahead = (
        prefix_head to week head h.line left written written_new reported h.accepted (known_lines left left1 old new (h.line ∷ []) h.gives.reads fresh.rest fresh.ended) (prefix, within, text),
        last_prefix to week left left1 written written_new (prefix, within, text),
      );
      stopped = head_stopped_at to week head h.line left written written_new reported reported h.accepted (known_lines left left1 old new (h.line ∷ []) h.gives.reads fresh.rest fresh.ended)
          (prefix, within, text) (Appends-nil reported);
      counts_last = inl (nothing_told (λ bytes. refusals_text (capture_of week bytes)) left reported reported refl);
      says = head_accepts week left left1 old new head fresh h;
    }

-- of all bytes, no more lines have ended before the last 4,096 than the first line and the n after it
recent_head : (line : Line) (a b prefix rest : List ℕ) (n : ℕ) → a ≡ prefix ++ rest → length rest ≤ 4096 → lines_by false a ≡ (line ∷ []) ++ lines_by false rest
    → length (lines_by true (take (length (rest ++ b) - 4096) (rest ++ b))) ≤ n
    → length (lines_by true (take (length (a ++ b) - 4096) (a ++ b))) ≤ n + 1
recent_head line a b prefix rest n e few all recent =
    let s = rest ++ b in
    let k = length s - 4096 in
    let whole : a ++ b ≡ (prefix ++ take k s) ++ drop k s =
    ap (λ (l : List ℕ). l ++ b) e ∙ append_assoc prefix rest b ∙ ap (λ (l : List ℕ). prefix ++ l) (sym (take-append-drop k s)) ∙ sym (append_assoc prefix (take k s) (drop k s)) in
    recent_within (a ++ b) (prefix ++ take k s) (drop k s) (n + 1) whole (omega (arith, length-drop k s))
    (omega (arith, sum_pieces prefix (take k s), ended_before prefix rest (line ∷ []) (ap (lines_by false) (sym e) ∙ all), lines_length true (take k s), recent))

-- a prefix of what all bytes give
convert_prefix : (to : Target) (week : Option ℕ) (left left1 left2 written written1 written2 reported reported2 : Option (List ℕ)) (middle new : LinesState) (receiving : CaptureState) (head : Accepted) (line : Line) (fault : BridgeFault) → accepted_line week line ≡ Some head
    → Appends written written1 (prefix_text to) → (p : ConversionBroke to head [] left1 left2 middle new receiving written1 written2 reported reported2 fault)
    → Follow left new (line ∷ (p.given ++ p.last)) → CapturePrefix to week left written written2 reported reported2
convert_prefix to week None left1 left2 written written1 written2 reported reported2 middle new receiving head line fault accepted begun p k = tt
convert_prefix to week (Some bytes) left1 left2 written written1 written2 reported reported2 middle new receiving head line fault accepted begun p k =
    let text = p.text k.0 k.2 in
    prefixes_of to week head line (p.given ++ p.last) k.0 bytes written written1 written2 reported reported2 accepted k.1 begun (text.prefix, text.within, text.grew) (prefix_of reported reported2 _ _ p.report)

convert_rejections : (to : Target) (week : Option ℕ) (left left1 left2 written1 written2 reported reported2 : Option (List ℕ)) (middle new : LinesState) (receiving : CaptureState) (head : Accepted) (line : Line) (fault : BridgeFault) → accepted_line week line ≡ Some head
    → (p : ConversionBroke to head [] left1 left2 middle new receiving written1 written2 reported reported2 fault)
    → Follow left new (line ∷ (p.given ++ p.last)) → RejectionsPrefix week left reported reported2
convert_rejections to week None left1 left2 written1 written2 reported reported2 middle new receiving head line fault accepted p k = tt
convert_rejections to week (Some bytes) left1 left2 written1 written2 reported reported2 middle new receiving head line fault accepted p k =
    rejections_of week head line (p.given ++ p.last) k.0 bytes reported reported2 accepted k.1 (prefix_of reported reported2 _ _ p.report)

convert_stopped : (laws : LogLaws) (to : Target) (week : Option ℕ) (left left1 left2 written written1 written2 reported reported2 : Option (List ℕ)) (middle new : LinesState) (receiving : CaptureState) (head : Accepted) (line : Line) (fault : BridgeFault) → accepted_line week line ≡ Some head
    → Appends written written1 (prefix_text to) → (p : ConversionBroke to head [] left1 left2 middle new receiving written1 written2 reported reported2 fault)
    → Follow left new (line ∷ (p.given ++ p.last)) → StopAtOnePlace (Some (flushed_texts to week)) left written written2 reported reported2
convert_stopped laws to week None left1 left2 written written1 written2 reported reported2 middle new receiving head line fault accepted begun p k = tt
convert_stopped laws to week (Some bytes) left1 left2 written written1 written2 reported reported2 middle new receiving head line fault accepted begun p k =
    conversion_stopped_at laws to week left1 left2 written written1 written2 reported reported2 middle new receiving head line [] k.0 bytes fault accepted begun p k.1 k.2

-- what the fault says besides
convert_says : (to : Target) (week : Option ℕ) (left left1 left2 written written1 written2 reported reported2 : Option (List ℕ)) (old middle new : LinesState) (receiving : CaptureState) (head : Accepted) (given last : List Line) (fault : BridgeFault) → IsFresh old
    → (h : GivesHead week left left1 old middle head) → Appends written written1 (prefix_text to) → (reads : Reads left1 left2 middle new (given ++ last))
    → ConversionSays to head given last new receiving written1 written2 reported reported2 fault
    → StopSays to week left (h.gives.reads.taken ++ reads.taken) written written2 reported reported2 fault
convert_says to week left left1 left2 written written1 written2 reported reported2 old middle new receiving head given last ReadFault fresh h begun reads says =
    let t = h.gives.reads.taken ++ reads.taken in
    let all = reads_more left left1 left2 old middle new (h.line ∷ []) (given ++ last) h.gives.reads reads in
    let ended : lines_by true t ≡ h.line ∷ given =
    ap (lines_by true) (held_none old.rest t fresh.rest) ∙ ended_lines left left2 old new (h.line ∷ (given ++ last)) all says.1.more says.1.none
    ∙ ap (λ (l : List Line). h.line ∷ (given ++ l)) says.0 ∙ ap (λ (l : List Line). h.line ∷ l) (append-nil given) in
    let closed = closed_texts to head given in
    let text : flushed_output to week t ≡ prefix_text to ++ closed =
    flushed_is to week t (h.line ∷ given) ended ∙ ap (flushed_text to) (capture_lines week head h.line given h.accepted) in
    let report : flushed_report week t ≡ line_report (log_of head.window given) =
    flushed_report_is week t (h.line ∷ given) ended ∙ ap refusals_text (capture_lines week head h.line given h.accepted) in (
      subst (Appends written written2) (sym text) (Appends-trans written written1 written2 (prefix_text to) closed begun says.1.stands.flushed.text),
      subst (Appends reported reported2) (sym report) says.1.stands.report,
    )
convert_says to week left left1 left2 written written1 written2 reported reported2 old middle new receiving head given last TooLong fresh h begun reads says =
    omega (arith, says, (reads_more left left1 left2 old middle new (h.line ∷ []) (given ++ last) h.gives.reads reads).count, fresh.taken)
convert_says to week left left1 left2 written written1 written2 reported reported2 old middle new receiving head given last NotThisForm fresh h begun reads says = absurd says
convert_says to week left left1 left2 written written1 written2 reported reported2 old middle new receiving head given last WriteFault fresh h begun reads says = head_accepts week left left1 old middle head fresh h
convert_says to week left left1 left2 written written1 written2 reported reported2 old middle new receiving head given last ReportFault fresh h begun reads says = head_accepts week left left1 old middle head fresh h
convert_says to week left left1 left2 written written1 written2 reported reported2 old middle new receiving head given last NoMemory fresh h begun reads says =
    (head_accepts week left left1 old middle head fresh h, omega (arith, says, (reads_more left left1 left2 old middle new (h.line ∷ []) (given ++ last) h.gives.reads reads).count, fresh.taken))

-- a prefix of the output of the lines
pub convert_stops : (laws : LogLaws) (to : Target) (week : Option ℕ) (left left1 left2 written written1 written2 reported reported2 : Option (List ℕ)) (old middle new : LinesState) (receiving : CaptureState) (head : Accepted) (fault : BridgeFault) → IsFresh old
    → GivesHead week left left1 old middle head → Appends written written1 (prefix_text to)
    → ConversionBroke to head [] left1 left2 middle new receiving written1 written2 reported reported2 fault
    → Stop to week left left2 written written2 reported reported2 fault
convert_stops laws to week left left1 left2 written written1 written2 reported reported2 old middle new receiving head fault fresh h begun p =
    let a = h.gives.reads.taken in
    let t = a ++ p.reads.taken in
    let reads = reads_more left left1 left2 old middle new (h.line ∷ []) (p.given ++ p.last) h.gives.reads p.reads in
    let more = lines_by false new.rest in
    let c = capture_by head ((p.given ++ p.last) ++ more) in
    let few : length old.rest ≤ 4096 = omega (arith, ap length fresh.rest) in
    let none : new.ended ≡ true → new.rest ≡ [] → more ≡ [] = λ ended rest. ap (lines_by false) rest in
    let capture = head_capture week left left1 left2 old middle new head (p.given ++ p.last) fresh h p.reads in
    let text = p.text more none in
    let closed = closed_texts to head p.given in
    let texts = texts_of to (periods c) in
    let back = back_text to (counts_text (counts_of c)) in
    let recent = recent_head h.line a p.reads.taken h.gives.prefix middle.rest (length (p.given ++ p.last)) (held_none old.rest a fresh.rest ∙ h.gives.split) (h.gives.short few)
    (fresh_lines left left1 old middle (h.line ∷ []) h.gives.reads fresh) p.recent in
    let lines = fresh_lines left left2 old new (h.line ∷ (p.given ++ p.last)) reads fresh in
    let least = least_prefix laws to week head h.line p.given p.last more t h.accepted p.few lines (omega (arith, recent)) in
    let least_told = least_reported week head h.line p.given p.last more t h.accepted p.few lines (omega (arith, recent)) in
    record {
      taken = t;
      consumes = reads.consumes;
      text = record {
        prefix = prefix_text to ++ text.prefix;
        within = subst (IsPrefix (prefix_text to ++ text.prefix)) (sym (output_is to week t c capture))
            (prefix_behind (prefix_text to) text.prefix (texts ++ back) (prefix_trans text.prefix texts (texts ++ back) text.within (prefix_more texts back)));
        no_less = prefix_trans (least_output to week t) (prefix_text to ++ closed) (prefix_text to ++ text.prefix) least (prefix_behind (prefix_text to) closed text.prefix text.no_less);
        grew = Appends-trans written written1 written2 (prefix_text to) text.prefix begun text.grew;
      };
      report = subst (AppendsBetween reported reported2 (least_report week t)) (sym (report_is week t c capture))
          (between_within reported reported2 (least_report week t) (line_report (log_of head.window p.given)) (line_report (log_of head.window (p.given ++ p.last)))
          (line_report (log_of head.window c.lines) ++ counts_text (counts_of c)) least_told
          (prefix_trans (line_report (log_of head.window (p.given ++ p.last))) (line_report (log_of head.window c.lines)) (line_report (log_of head.window c.lines) ++ counts_text (counts_of c))
          (report_prefix head.window (p.given ++ p.last) more) (prefix_more (line_report (log_of head.window c.lines)) (counts_text (counts_of c)))) p.report);
      ahead = (
        convert_prefix to week left left1 left2 written written1 written2 reported reported2 middle new receiving head h.line fault h.accepted begun p
            (lines_follow left left2 old new (h.line ∷ (p.given ++ p.last)) reads fresh.rest fresh.ended),
        last_texts to week left left2 written written1 written2 (periods c) begun (text.prefix, text.within, text.grew),
      );
      stopped = convert_stopped laws to week left left1 left2 written written1 written2 reported reported2 middle new receiving head h.line fault h.accepted begun p
          (lines_follow left left2 old new (h.line ∷ (p.given ++ p.last)) reads fresh.rest fresh.ended);
      counts_last = inl (convert_rejections to week left left1 left2 written1 written2 reported reported2 middle new receiving head h.line fault h.accepted p
          (lines_follow left left2 old new (h.line ∷ (p.given ++ p.last)) reads fresh.rest fresh.ended));
      says = convert_says to week left left1 left2 written written1 written2 reported reported2 old middle new receiving head p.given p.last fault fresh h begun p.reads p.says;
    }

-- ---- all lines were taken

abbrev counts_by : ℕ → ℕ → ℕ → ℕ → ℕ → VerdictCounts → CaptureCounts
counts_by lines a b c d said = with_counts lines (record { malformed = a; late = b; refused = c; unused = d }) said

same_counts : (lines a b c d m e f g h : ℕ) (said s : VerdictCounts) → lines ≡ m → a ≡ e → b ≡ f → c ≡ g → d ≡ h → said ≡ s → counts_by lines a b c d said ≡ counts_by m e f g h s
same_counts lines a b c d m e f g h said s p q r t u v = rw (p, q, r, t, u, v) refl

zero_more : (n : ℕ) → 0 + n ≡ n
zero_more n = omega arith

pub counts_are : (head : Accepted) (given : List Line) (lines : ℕ) (tally : EventCounts) (said : VerdictCounts) → lines ≡ length given + 1 → tally ≡ tallied no_tally (log_of head.window given)
    → said ≡ said_of (periods_of head.week head.window (parts_of head.window given)) → with_counts lines tally said ≡ counts_of (capture_by head given)
counts_are head given lines tally said number counts verdicts =
    let log = log_of head.window given in
    ap (λ (t : EventCounts). with_counts lines t said) counts
    ∙ same_counts lines (0 + count_in is_malformed log) (0 + count_in is_late log) (0 + count_in is_refused_event log) (0 + count_in is_unused log) (length given + 1)
    (count_in is_malformed log) (count_in is_late log) (count_in is_refused_event log) (count_in is_unused log) said
    (said_of (periods_of head.week head.window (parts_of head.window given))) number (zero_more _) (zero_more _) (zero_more _) (zero_more _) verdicts

-- all that was taken of a capture
pub record IsTaken (to : Target) (week : Option ℕ) (left left2 written written2 reported reported2 : Option (List ℕ)) (head : Accepted) (counts : CaptureCounts) : Type 0 where
  pub line : Line
  pub given : List Line
  pub taken : List ℕ
  pub consumes : Consumes left left2 taken
  pub end : IsAtEnd left2
  pub fits : length taken < 2 ^ 32
  pub accepted : accepted_line week line ≡ Some head
  pub lines : lines_by false taken ≡ line ∷ given
  pub text : Appends written written2 (prefix_text to ++ texts_of to (periods (capture_by head given)))
  pub report : Appends reported reported2 (line_report (log_of head.window given))
  pub counted : counts ≡ counts_of (capture_by head given)
  pub accepts : AcceptsHead week left

pub all_taken : (to : Target) (week : Option ℕ) (left left1 left2 written written1 written2 reported reported2 : Option (List ℕ)) (old middle new : LinesState) (head : Accepted) (tally : EventCounts) (said : VerdictCounts) (counts : CaptureCounts)
    → IsFresh old → GivesHead week left left1 old middle head → Appends written written1 (prefix_text to)
    → ConvertsAll to head [] left1 left2 middle new written1 written2 reported reported2 tally said → counts ≡ with_counts new.number tally said
    → IsTaken to week left left2 written written2 reported reported2 head counts
all_taken to week left left1 left2 written written1 written2 reported reported2 old middle new head tally said counts fresh h begun p counted =
    let reads = reads_more left left1 left2 old middle new (h.line ∷ []) p.given h.gives.reads p.reads in
    record {
      line = h.line;
      given = p.given;
      taken = reads.taken;
      consumes = reads.consumes;
      end = ⊎_elim (λ (before : old.ended ≡ true). absurd (true≢false (sym before ∙ fresh.ended))) (λ (at : IsAtEnd left2). at) (reads.at_end p.ended);
      fits = omega (arith, p.low, reads.count, fresh.taken);
      accepted = h.accepted;
      lines = fresh_lines left left2 old new (h.line ∷ p.given) reads fresh ∙ ap (λ (l : List ℕ). (h.line ∷ p.given) ++ lines_by false l) p.rest ∙ append-nil (h.line ∷ p.given);
      text = Appends-trans written written1 written2 (prefix_text to) _ begun p.text;
      report = p.report;
      counted = counted ∙ counts_are head p.given new.number tally said (omega (arith, p.number, h.gives.number, fresh.number)) p.counts p.verdicts;
      accepts = head_accepts week left left1 old middle head fresh h;
    }

-- the trailing text was not written whole, or the counts were not reported whole
end_stops : (laws : LogLaws) (to : Target) (week : Option ℕ) (left left2 written written2 written3 reported reported2 reported3 : Option (List ℕ)) (head : Accepted) (counts : CaptureCounts) (fault : BridgeFault)
    (t : IsTaken to week left left2 written written2 reported reported2 head counts) → AppendsPrefix written2 written3 (back_text to (counts_text counts)) → AppendsPrefix reported2 reported3 (counts_text counts)
    → (reported3 ≡ reported2) ⊎ ((fault ≡ ReportFault) × Appends written2 written3 (back_text to (counts_text counts))) → StopSays to week left t.taken written written3 reported reported3 fault → Stop to week left left2 written written3 reported reported3 fault
end_stops laws to week left left2 written written2 written3 reported reported2 reported3 head counts fault t back report untold says =
    let c = capture_by head t.given in
    let capture : capture_of week t.taken ≡ Some c = ap (capture_in week) t.lines ∙ capture_lines week head t.line t.given t.accepted in
    let texts = texts_of to (periods c) in
    let closed = closed_texts to head t.given in
    let nil = append-nil t.given in
    let lines : lines_by false t.taken ≡ (t.line ∷ (t.given ++ [])) ++ [] = t.lines ∙ ap (λ (l : List Line). t.line ∷ l) (sym nil) ∙ sym (append-nil (t.line ∷ (t.given ++ []))) in
    let recent = recent_lines t.taken t.taken [] (t.line ∷ (t.given ++ [])) (sym (append-nil t.taken)) (omega arith) lines in
    let least = least_prefix laws to week head t.line t.given [] [] t.taken t.accepted (omega arith) lines recent in
    let least_told = least_reported week head t.line t.given [] [] t.taken t.accepted (omega arith) lines recent in
    let prefix = texts_prefix to (closed_of head.week head.window (watermark_after head.window t.given) (parts_of head.window t.given)) (periods_of head.week head.window (parts_of head.window (t.given ++ [])))
    (laws.prefix head.week head.window t.given []) in
    let below : IsPrefix closed texts = subst (λ (l : List Line). IsPrefix closed (texts_of to (periods_of head.week head.window (parts_of head.window l)))) nil prefix in
    let behind = subst (λ (x : CaptureCounts). AppendsPrefix written2 written3 (back_text to (counts_text x))) t.counted back in
    let told = subst (λ (x : CaptureCounts). AppendsPrefix reported2 reported3 (counts_text x)) t.counted report in
    let text : AppendsBetween written written3 (least_output to week t.taken) (output_of to week t.taken) = record {
      prefix = (prefix_text to ++ texts) ++ behind.0;
      within = subst (IsPrefix ((prefix_text to ++ texts) ++ behind.0)) (append_assoc (prefix_text to) texts (back_text to (counts_text (counts_of c))) ∙ sym (output_is to week t.taken c capture))
          (prefix_behind (prefix_text to ++ texts) behind.0 (back_text to (counts_text (counts_of c))) behind.1);
      no_less = prefix_trans (least_output to week t.taken) (prefix_text to ++ closed) ((prefix_text to ++ texts) ++ behind.0) least
          (prefix_trans (prefix_text to ++ closed) (prefix_text to ++ texts) ((prefix_text to ++ texts) ++ behind.0) (prefix_behind (prefix_text to) closed texts below) (prefix_more (prefix_text to ++ texts) behind.0));
      grew = Appends-trans written written2 written3 (prefix_text to ++ texts) behind.0 t.text behind.2;
    } in
    let all_told = line_report (log_of head.window t.given) ++ counts_text (counts_of c) in
    let report_text : AppendsBetween reported reported3 (least_report week t.taken) (report_of_capture week t.taken) =
    subst (AppendsBetween reported reported3 (least_report week t.taken)) (sym (report_is week t.taken c capture))
    (between_within reported reported3 (least_report week t.taken) (line_report (log_of head.window t.given)) all_told all_told least_told (prefix_same all_told)
    (between_behind reported reported2 reported3 (line_report (log_of head.window t.given)) (counts_text (counts_of c)) t.report told)) in
    let wrote : AppendsPrefix written written3 (output_of to week t.taken) = (text.prefix, text.within, text.grew) in
    let same = Consumes-all left left2 t.taken [] t.taken t.consumes t.end refl in
    record {
      taken = t.taken;
      consumes = t.consumes;
      text = text;
      report = report_text;
      ahead = (prefix_all to week left written written3 reported reported3 t.taken same wrote (prefix_of reported reported3 _ _ report_text), last_all to week left left2 written written3 t.taken t.consumes t.end wrote);
      stopped = taken_all left left2 t.taken (λ bytes. StopAtOnePlace (Some (flushed_texts to week)) (Some bytes) written written3 reported reported3) t.consumes t.end
          (end_stopped_at laws to week head t.line t.given t.taken written written3 reported reported3 t.accepted t.lines (
            (prefix_text to ++ texts) ++ behind.0,
            prefix_trans (prefix_text to ++ closed) (prefix_text to ++ texts) ((prefix_text to ++ texts) ++ behind.0) (prefix_behind (prefix_text to) closed texts below) (prefix_more (prefix_text to ++ texts) behind.0),
            Appends-trans written written2 written3 (prefix_text to ++ texts) behind.0 t.text behind.2,
          ) (
            line_report (log_of head.window t.given) ++ told.0,
            prefix_more (line_report (log_of head.window t.given)) told.0,
            Appends-trans reported reported2 reported3 (line_report (log_of head.window t.given)) told.0 t.report told.2,
          ));
      counts_last = ⊎_elim
          (λ (silent : reported3 ≡ reported2). inl (taken_all left left2 t.taken (λ bytes. AppendsPrefix reported reported3 (refusals_text (capture_of week bytes))) t.consumes t.end
          (subst (λ (o : Option Capture). AppendsPrefix reported reported3 (refusals_text o)) (sym capture)
          (subst (λ (u : Option (List ℕ)). AppendsPrefix reported u (line_report (log_of head.window t.given))) (sym silent)
          (appends_whole reported reported2 (line_report (log_of head.window t.given)) t.report)))))
          (λ (all : (fault ≡ ReportFault) × Appends written2 written3 (back_text to (counts_text counts))). inr (
            all.0,
            t.end,
            subst (Appends written written3) (append_assoc (prefix_text to) texts (back_text to (counts_text (counts_of c))) ∙ sym (output_is to week t.taken c capture))
                (Appends-trans written written2 written3 (prefix_text to ++ texts) (back_text to (counts_text (counts_of c))) t.text
                (subst (λ (x : CaptureCounts). Appends written2 written3 (back_text to (counts_text x))) t.counted all.1)),
          ))
          untold;
      says = says;
    }

pub end_stopped : (laws : LogLaws) (to : Target) (week : Option ℕ) (left left2 written written2 written3 reported reported2 reported3 : Option (List ℕ)) (head : Accepted) (counts : CaptureCounts) (fault : BridgeFault)
    → IsTaken to week left left2 written written2 reported reported2 head counts → AppendsPrefix written2 written3 (back_text to (counts_text counts)) → AppendsPrefix reported2 reported3 (counts_text counts)
    → (fault ≡ WriteFault → reported3 ≡ reported2) → (fault ≡ ReportFault → Appends written2 written3 (back_text to (counts_text counts))) → (fault ≡ WriteFault) ⊎ (fault ≡ ReportFault)
    → Stop to week left left2 written written3 reported reported3 fault
end_stopped laws to week left left2 written written2 written3 reported reported2 reported3 head counts fault t back report untold wrote kind =
    ⊎_elim (λ (e : fault ≡ WriteFault). subst (Stop to week left left2 written written3 reported reported3) (sym e) (end_stops laws to week left left2 written written2 written3 reported reported2 reported3 head counts WriteFault t back report (inl (untold e)) t.accepts))
    (λ (e : fault ≡ ReportFault). subst (Stop to week left left2 written written3 reported reported3) (sym e) (end_stops laws to week left left2 written written2 written3 reported reported2 reported3 head counts ReportFault t back report (inr (refl, wrote e)) t.accepts)) kind

-- ---- as a run of its meaning ends

abbrev pub faults_at : {S T U : Type 0} → World S T U → Faults
faults_at w = faults_of w.reads_failed w.writes_failed w.reports_failed

leaves_nothing : {S T U : Type 0} (to : Target) (week : Option ℕ) (b a : World S T U) → Leaves (target_meaning to week) b a
leaves_nothing to week b a = record { unread = λ e. absurd (true≢false e); silent = λ e. absurd (true≢false e) }

-- each fault has its cause
pub begin_cause : (reads reads_new writes writes_new reports : ℕ) → Rose writes writes_new → reads_new ≡ reads
    → HasItsCause {T = Unit {0}} (faults_of reads writes reports) (faults_of reads_new writes_new reports) (Err WriteFault)
begin_cause reads reads_new writes writes_new reports rose quiet = (rose, ap (λ (n : ℕ). faults_of n writes_new reports) quiet)

pub head_cause : (week : Option ℕ) (left left_new : Option (List ℕ)) (old new : LinesState) (reads reads_new writes reports : ℕ) (fault : BridgeFault) → GivesNoHead week left left_new old new fault
    → (fault ≡ ReadFault → Rose reads reads_new) → ((fault ≡ ReadFault → ⊥) → reads_new ≡ reads)
    → HasItsCause {T = Unit {0}} (faults_of reads writes reports) (faults_of reads_new writes reports) (Err fault)
head_cause week left left_new old new reads reads_new writes reports ReadFault h rose quiet = (rose refl, refl)
head_cause week left left_new old new reads reads_new writes reports NotThisForm h rose quiet = ap (λ (n : ℕ). faults_of n writes reports) (quiet (λ e. cc))
head_cause week left left_new old new reads reads_new writes reports TooLong h rose quiet = ap (λ (n : ℕ). faults_of n writes reports) (quiet (λ e. cc))
head_cause week left left_new old new reads reads_new writes reports WriteFault h rose quiet = absurd h
head_cause week left left_new old new reads reads_new writes reports ReportFault h rose quiet = absurd h
head_cause week left left_new old new reads reads_new writes reports NoMemory h rose quiet = absurd h

pub convert_cause : (reads reads1 writes writes1 reports : ℕ) (now : Faults) (fault : BridgeFault) → HasItsCause {T = Unit {0}} (faults_of reads1 writes1 reports) now (Err fault) → reads1 ≡ reads → writes1 ≡ writes
    → HasItsCause {T = Unit {0}} (faults_of reads writes reports) now (Err fault)
convert_cause reads reads1 writes writes1 reports now fault h e f =
    subst (λ (n : ℕ). HasItsCause {T = Unit {0}} (faults_of reads n reports) now (Err fault)) f (subst (λ (n : ℕ). HasItsCause {T = Unit {0}} (faults_of n writes1 reports) now (Err fault)) e h)

convert_form : (to : Target) (head : Accepted) (lines last : List Line) (new : LinesState) (receiving : CaptureState) (start written told reported : Option (List ℕ)) (fault : BridgeFault)
    → ConversionSays to head lines last new receiving start written told reported fault → fault ≡ NotThisForm → ⊥
convert_form to head lines last new receiving start written told reported fault says e = subst (ConversionSays to head lines last new receiving start written told reported) e says

pub converted_form : (to : Target) (head : Accepted) (past : List Line) (left left_new : Option (List ℕ)) (old new : LinesState) (receiving : CaptureState) (start written told reported : Option (List ℕ)) (fault : BridgeFault)
    → ConversionBroke to head past left left_new old new receiving start written told reported fault → fault ≡ NotThisForm → ⊥
converted_form to head past left left_new old new receiving start written told reported fault p e = convert_form to head (past ++ p.given) p.last new receiving start written told reported fault p.says e

written_fault : (fault other : BridgeFault) → (WriteFault ≡ other → ⊥) → (ReportFault ≡ other → ⊥) → (fault ≡ WriteFault) ⊎ (fault ≡ ReportFault) → fault ≡ other → ⊥
written_fault fault other write report kind e =
    ⊎_elim (λ (k : fault ≡ WriteFault). write (sym k ∙ e)) (λ (k : fault ≡ ReportFault). report (sym k ∙ e)) kind

pub write_read : WriteFault ≡ ReadFault → ⊥
write_read e = cc

pub write_form : WriteFault ≡ NotThisForm → ⊥
write_form e = cc

report_read : ReportFault ≡ ReadFault → ⊥
report_read e = cc

report_form : ReportFault ≡ NotThisForm → ⊥
report_form e = cc

pub end_read : (fault : BridgeFault) → (fault ≡ WriteFault) ⊎ (fault ≡ ReportFault) → fault ≡ ReadFault → ⊥
end_read fault kind = written_fault fault ReadFault write_read report_read kind

pub end_form : (fault : BridgeFault) → (fault ≡ WriteFault) ⊎ (fault ≡ ReportFault) → fault ≡ NotThisForm → ⊥
end_form fault kind = written_fault fault NotThisForm write_form report_form kind

pub end_cause : (reads reads_new writes writes1 writes_new reports reports1 reports_new : ℕ) (fault : BridgeFault) → (fault ≡ WriteFault) ⊎ (fault ≡ ReportFault)
    → HasItsCause {T = Unit {0}} (faults_of 0 writes1 reports1) (faults_of 0 writes_new reports_new) (Err fault) → writes1 ≡ writes → reports1 ≡ reports → reads_new ≡ reads
    → HasItsCause {T = Unit {0}} (faults_of reads writes reports) (faults_of reads_new writes_new reports_new) (Err fault)
end_cause reads reads_new writes writes1 writes_new reports reports1 reports_new WriteFault kind h e f r = (
  subst (λ (n : ℕ). Rose n writes_new) e h.0,
  ap (λ (n : ℕ). faults_of n writes_new reports_new) r ∙ ap (λ (n : ℕ). faults_of reads writes_new n) (ap (λ (x : Faults). x.report) h.1 ∙ f),
)
end_cause reads reads_new writes writes1 writes_new reports reports1 reports_new ReportFault kind h e f r = (
  subst (λ (n : ℕ). Rose n reports_new) f h.0,
  ap (λ (n : ℕ). faults_of n writes_new reports_new) r ∙ ap (λ (n : ℕ). faults_of reads n reports_new) (ap (λ (x : Faults). x.output) h.1 ∙ e),
)
end_cause reads reads_new writes writes1 writes_new reports reports1 reports_new ReadFault kind h e f r = absurd (end_read ReadFault kind refl)
end_cause reads reads_new writes writes1 writes_new reports reports1 reports_new NotThisForm kind h e f r = absurd (end_form NotThisForm kind refl)
end_cause reads reads_new writes writes1 writes_new reports reports1 reports_new TooLong kind h e f r = absurd (written_fault TooLong TooLong (λ e. cc) (λ e. cc) kind refl)
end_cause reads reads_new writes writes1 writes_new reports reports1 reports_new NoMemory kind h e f r = absurd (written_fault NoMemory NoMemory (λ e. cc) (λ e. cc) kind refl)

pub end_quiet : (reads reads1 reads_new writes writes1 writes2 writes_new reports reports1 reports_new : ℕ) → faults_of 0 writes_new reports_new ≡ faults_of 0 writes2 reports1
    → faults_of reads_new writes2 reports1 ≡ faults_of reads1 writes1 reports → reads1 ≡ reads → writes1 ≡ writes
    → faults_of reads_new writes_new reports_new ≡ faults_of reads writes reports
end_quiet reads reads1 reads_new writes writes1 writes2 writes_new reports reports1 reports_new last middle e f =
    rw (ap (λ (x : Faults). x.output) last, ap (λ (x : Faults). x.report) last, sym e, sym f) middle

stop_says : {S T U : Type 0} (to : Target) (week : Option ℕ) (taken : List ℕ) (b a : World S T U) (fault : BridgeFault)
    → StopSays to week b.left taken b.written a.written b.reported a.reported fault → HasItsCause {T = Unit {0}} (faults_at b) (faults_at a) (Err fault)
    → (fault ≡ ReadFault → IsTrue b.never_fails → ⊥) → (fault ≡ NotThisForm → (a.output ≡ b.output) × (a.report ≡ b.report)) → Says (target_meaning to week) taken b a fault
stop_says to week taken b a ReadFault says cause never form = (refl, cause.0, never refl, says)
stop_says to week taken b a WriteFault says cause never form = (cause.0, says)
stop_says to week taken b a ReportFault says cause never form = (refl, cause.0, says)
stop_says to week taken b a NotThisForm says cause never form = (says.0, says.1, (form refl).0, (form refl).1)
stop_says to week taken b a TooLong says cause never form = says
stop_says to week taken b a NoMemory says cause never form = (refl, says.0, says.1)

pub stopped_by : {S T U : Type 0} (to : CaptureTo) (target : Target) (week : Option ℕ) (b a : World S T U) (fault : BridgeFault) → target ≡ target_of to
    → Stop target week b.left a.left b.written a.written b.reported a.reported fault → HasItsCause {T = Unit {0}} (faults_at b) (faults_at a) (Err fault)
    → (fault ≡ ReadFault → IsTrue b.never_fails → ⊥) → (fault ≡ NotThisForm → (a.output ≡ b.output) × (a.report ≡ b.report)) → IsBroken (capture_meaning to week) b a fault
stopped_by to target week b a fault same stop cause never form =
    subst (λ (t : Target). IsBroken (target_meaning t week) b a fault) same (record {
      taken = stop.taken;
      consumes = stop.consumes;
      text = stop.text;
      told = stop.report;
      ahead = stop.ahead.0;
      stopped = stop.stopped;
      counts_last = stop.counts_last;
      cause = cause;
      leaves = leaves_nothing target week b a;
      says = stop_says target week stop.taken b a fault stop.says cause never form;
    })

pub ahead_of : (to : CaptureTo) (target : Target) (week : Option ℕ) (left left_new written written_new reported reported_new : Option (List ℕ)) (fault : BridgeFault) → target ≡ target_of to
    → Stop target week left left_new written written_new reported reported_new fault → CaptureAhead (target_of to) week left left_new written written_new reported reported_new
ahead_of to target week left left_new written written_new reported reported_new fault same stop = subst (λ (t : Target). CaptureAhead t week left left_new written written_new reported reported_new) same stop.ahead

pub all_done : {S T U : Type 0} (to : CaptureTo) (target : Target) (week : Option ℕ) (b a : World S T U) (written2 reported2 : Option (List ℕ)) (head : Accepted) (counts : CaptureCounts) → target ≡ target_of to
    → IsTaken target week b.left a.left b.written written2 b.reported reported2 head counts → Appends written2 a.written (back_text target (counts_text counts)) → Appends reported2 a.reported (counts_text counts)
    → faults_at a ≡ faults_at b → IsDone (capture_meaning to week) b a counts
all_done to target week b a written2 reported2 head counts same t back report quiet =
    let c = capture_by head t.given in
    let capture : capture_of week t.taken ≡ Some c = ap (capture_in week) t.lines ∙ capture_lines week head t.line t.given t.accepted in
    let texts = texts_of target (periods c) in
    let behind = subst (λ (x : CaptureCounts). Appends written2 a.written (back_text target (counts_text x))) t.counted back in
    let told = subst (λ (x : CaptureCounts). Appends reported2 a.reported (counts_text x)) t.counted report in
    subst (λ (x : Target). IsDone (target_meaning x week) b a counts) same (record {
      taken = t.taken;
      consumes = t.consumes;
      end = t.end;
      fits = t.fits;
      counted = ap counts_in capture ∙ ap Some (sym t.counted);
      text = subst (Appends b.written a.written) (append_assoc (prefix_text target) texts (back_text target (counts_text (counts_of c))) ∙ sym (output_is target week t.taken c capture))
          (Appends-trans b.written written2 a.written (prefix_text target ++ texts) (back_text target (counts_text (counts_of c))) t.text behind);
      told = subst (Appends b.reported a.reported) (sym (report_is week t.taken c capture))
          (Appends-trans b.reported reported2 a.reported (line_report (log_of head.window t.given)) (counts_text (counts_of c)) t.report told);
      leaves = leaves_nothing target week b a;
      reads = ap (λ (f : Faults). f.input) quiet;
      writes = ap (λ (f : Faults). f.output) quiet;
      reports = ap (λ (f : Faults). f.report) quiet;
    })
