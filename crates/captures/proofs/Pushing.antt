-- A capture whose bytes are pushed in pieces: the state behind them, what was written, and how it goes on.
use Rattle.std.proofs.Common.{◌≡◌, ◌+◌, ◌<◌, ◌≤◌, ◌^◌, ℕ, Bool, true, false, List, [], ◌∷◌, ◌++◌, length, ◌∙◌, refl, sym, ap, subst, arith, inl, inr, ⊎_elim, append_assoc, append-nil, length-append}
use Rattle.std.specs.Prelude.{Option, None, Some, IsSome, Result, Ok, Err, MatchResult, ◌⊎◌}
use Rattle.std.proofs.lemmas.Bool.{true≢false}
use Rattle.std.proofs.lemmas.List.{append_cancel_right}
use Rattle.std.specs.Io.KnownBytes.{Appends, Consumes, IsAtEnd}
use Rattle.std.proofs.KnownBytes.{Appends-nil, Appends-trans, Consumes-nil, Consumes-trans}
use Rattle.nav_io.specs.Causes.{Rose}
use Rattle.nav_io.specs.Prefix.{AppendsPrefix, IsPrefix}
use Rattle.nav_io.specs.Lines.{Line, ends, lines_by}
use Rattle.nav_io.specs.LinesState.{LinesState, GivesEnd, GivesLine, MayFollow, Reads}
use Rattle.nav_io.proofs.Surface.{lines_prefix, no_lines, reads_more}
use Rattle.periods.specs.PeriodsOf.{closed_of, periods_of}
use Rattle.capture_log.specs.Log.{log_of, watermark_after, parts_of}
use Rattle.one_run.specs.Causes.{HasItsCause, faults_of}
use Rattle.one_run.specs.declared.fault.BridgeFault.{BridgeFault}
use Rattle.one_run.specs.declared.fault.BridgeFault.TheVariants.{ReadFault, WriteFault, ReportFault, TooLong, NoMemory, NotThisForm}
use Rattle.streams.specs.declared.target.Target.{Target}
use Rattle.streams.specs.Targets.{back_text, prefix_text}
use Rattle.captures.specs.declared.accept.Accepted.{Accepted}
use Rattle.captures.specs.declared.counts.CaptureCounts.{CaptureCounts}
use Rattle.captures.specs.declared.receiving.CaptureState.{CaptureState}
use Rattle.captures.specs.Captures.{Capture, accepted_line, capture_in, capture_of, capture_with, counts_in, counts_of, counts_text, ended_capture, flushed_output, flushed_report, flushed_text, output_of, periods, refusals_text, report_of_capture, texts_of}
use Rattle.captures.specs.Conversions.{ConversionBroke, ConvertsAll, HoldsPast}
use Rattle.captures.specs.Converts.{GivesHead, GivesNoHead, closed_texts, period_texts}
use Rattle.captures.specs.Flushed.{with_counts}
use Rattle.captures.specs.Following.{FollowSays, FollowStops, FollowsAll, piece_faults}
use Rattle.captures.specs.Hearings.{IsNew, Stands}
use Rattle.captures.specs.Notes.{line_report}
use Rattle.captures.specs.Pushed.{CaptureRunState, CutSays, HasRead, IsBehind, IsCutShort, IsPushed, IsReady, IsWaiting, IsWhole, unread}
use Rattle.captures.proofs.CaptureEnds.{IsFresh, converted_form, counts_are}
use Rattle.one_run.proofs.Surface.{between_behind, between_within, prefix_of}
use Rattle.one_run.specs.Runs.{AppendsBetween}
use Rattle.captures.proofs.CapturePrefixes.{capture_by, capture_lines, flushed_is, flushed_report_is, output_is, report_is, report_prefix}
use Rattle.captures.proofs.Converting.{stands_start}
use Rattle.captures.proofs.Stopping.{conversion_stopped_at, end_stopped_at, head_stopped_at, none_stopped_at}
use Rattle.captures.proofs.Prefixes.{LogLaws, appends_longer, appends_whole, prefix_behind, prefix_more, prefix_nil, prefix_same, prefix_trans}
use Rattle.captures.proofs.Writing.{texts_prefix}

-- ---- what a reader of lines has read

-- the same, where nothing is known of the source
abbrev unlefted : (left left_new : Option (List ℕ)) (old new : LinesState) (given : List Line) → Reads left left_new old new given → Reads None None old new given
unlefted left left_new old new given r = record {
  taken = r.taken;
  consumes = tt;
  count = r.count;
  stream = r.stream;
  at_end = λ ended. inr tt;
  after_end = λ ended. let after = r.after_end ended in (after.0, after.1, refl);
}

pub read_none : (lines : LinesState) → IsFresh lines → HasRead lines [] []
read_none lines fresh = record {
  reads = record {
    taken = [];
    consumes = tt;
    count = omega (arith, fresh.taken);
    stream = λ more following may. ap (λ (l : List ℕ). lines_by more (l ++ following)) (sym fresh.rest);
    at_end = λ ended. inr tt;
    after_end = λ ended. absurd (true≢false (sym ended));
  };
  bytes_are = refl;
  held = omega (arith, ap length fresh.rest);
  low = omega (arith, fresh.taken);
  number = omega (arith, fresh.number);
  few = omega (arith, fresh.number);
}

pub read_more : (left left_new : Option (List ℕ)) (old new : LinesState) (bytes : List ℕ) (before given : List Line) → HasRead old bytes before → (r : Reads left left_new old new given)
    → length new.rest ≤ 4096 → new.taken < 2 ^ 32 → new.number ≡ old.number + length given → new.number < 2 ^ 32 → HasRead new (bytes ++ r.taken) (before ++ given)
read_more left left_new old new bytes before given a r held low number few = record {
  reads = reads_more None None None unread old new before given a.reads (unlefted left left_new old new given r);
  bytes_are = ap (λ (l : List ℕ). l ++ r.taken) a.bytes_are;
  held = held;
  low = low;
  number = omega (arith, number, a.number, length-append before given);
  few = few;
}

-- the lines of the bytes read and of those that follow
lines_behind : (lines : LinesState) (bytes : List ℕ) (given : List Line) (r : Reads None None unread lines given) → r.taken ≡ bytes → (more : Bool) (following : List ℕ) → MayFollow lines.ended more following
    → lines_by more (bytes ++ following) ≡ given ++ lines_by more (lines.rest ++ following)
lines_behind lines bytes given r e more following may = ap (λ (l : List ℕ). lines_by more (l ++ following)) (sym e) ∙ r.stream more following may

all_behind : (lines : LinesState) (bytes : List ℕ) (given : List Line) (r : Reads None None unread lines given) → r.taken ≡ bytes → (following : List ℕ) → (lines.ended ≡ true → following ≡ [])
    → lines_by false (bytes ++ following) ≡ given ++ lines_by false (lines.rest ++ following)
all_behind lines bytes given r e following last = lines_behind lines bytes given r e false following (λ ended. (refl, last ended))

-- those that have ended
ended_behind : (lines : LinesState) (bytes : List ℕ) (given : List Line) → IsWaiting lines → HasRead lines bytes given → lines_by true bytes ≡ given
ended_behind lines bytes given waits read =
    ap (lines_by true) (sym (append-nil bytes))
    ∙ lines_behind lines bytes given read.reads read.bytes_are true [] (λ ended. absurd (true≢false (sym ended ∙ waits.more)))
    ∙ ap (λ (l : List ℕ). given ++ lines_by true l) (append-nil lines.rest)
    ∙ ap (λ (l : List Line). given ++ l) (no_lines lines.rest waits.none)
    ∙ append-nil given

count_read : (lines : LinesState) (bytes : List ℕ) (given : List Line) → HasRead lines bytes given → lines.taken ≡ length bytes
count_read lines bytes given read = omega (arith, read.reads.count, ap length read.bytes_are)

-- ---- what was written of the bytes so far

none_ended : (to : Target) (week : Option ℕ) (lines : LinesState) (bytes : List ℕ) (start written begun reported : Option (List ℕ)) → IsWaiting lines → IsBehind to week lines None bytes start written begun reported
    → lines_by true bytes ≡ []
none_ended to week lines bytes start written begun reported waits b = ended_behind lines bytes b.given waits b.read ∙ b.heard.0

pub flushed_by : (to : Target) (week : Option ℕ) (lines : LinesState) (receiving : Option CaptureState) (bytes : List ℕ) (start written begun reported : Option (List ℕ)) → IsWaiting lines
    → IsBehind to week lines receiving bytes start written begun reported
    → Appends start written (flushed_output to week bytes) × Appends begun reported (flushed_report week bytes) × ((lines_by true bytes ≡ []) ⊎ IsSome (ended_capture week bytes))
flushed_by to week lines None bytes start written begun reported waits b =
    let none = none_ended to week lines bytes start written begun reported waits b in (
      subst (Appends start written) (sym (flushed_is to week bytes [] none)) b.heard.1,
      subst (Appends begun reported) (sym (flushed_report_is week bytes [] none)) b.heard.2,
      inl none,
    )
flushed_by to week lines (Some h) bytes start written begun reported waits b =
    let heard = b.heard in
    let ended : lines_by true bytes ≡ heard.line ∷ heard.past = ended_behind lines bytes b.given waits b.read ∙ heard.given_are in
    let capture : capture_in week (heard.line ∷ heard.past) ≡ Some (capture_by heard.head heard.past) = capture_lines week heard.head heard.line heard.past heard.accepted in
    let closed = closed_texts to heard.head heard.past in
    let text : flushed_output to week bytes ≡ prefix_text to ++ closed = flushed_is to week bytes (heard.line ∷ heard.past) ended ∙ ap (flushed_text to) capture in
    let report : flushed_report week bytes ≡ line_report (log_of heard.head.window heard.past) = flushed_report_is week bytes (heard.line ∷ heard.past) ended ∙ ap refusals_text capture in (
      subst (Appends start written) (sym text) (Appends-trans start heard.led written (prefix_text to) closed heard.leads heard.stands.flushed.text),
      subst (Appends begun reported) (sym report) heard.stands.report,
      inr (subst (λ (c : Option Capture). IsSome c) (sym (ap (capture_in week) ended ∙ capture)) refl),
    )

pub pushed_by : (s : CaptureRunState) (bytes : List ℕ) (start written begun reported : Option (List ℕ)) → s.fault ≡ None → IsWaiting s.lines → IsBehind s.to s.week s.lines s.receiving bytes start written begun reported
    → IsPushed s bytes start written begun reported
pushed_by s bytes start written begun reported going waits b =
    let so_far = flushed_by s.to s.week s.lines s.receiving bytes start written begun reported waits b in
    record {
      going = going;
      output = so_far.0;
      report = so_far.1;
      accepted = so_far.2;
      few = omega (arith, count_read s.lines bytes b.given b.read, b.read.low);
      waits = waits;
      behind = b;
    }

-- nothing was read
pub behind_none : (to : Target) (week : Option ℕ) (lines : LinesState) (start begun : Option (List ℕ)) → IsFresh lines → IsBehind to week lines None [] start start begun begun
behind_none to week lines start begun fresh = record {
  given = [];
  read = read_none lines fresh;
  heard = (refl, Appends-nil start, Appends-nil begun);
}

pub waits_none : (lines : LinesState) → IsFresh lines → IsWaiting lines
waits_none lines fresh = record { more = fresh.ended; none = ap ends fresh.rest }

-- ---- the state, whatever was written

stands_unknown : (to : Target) (head : Accepted) (lines : List Line) (h : CaptureState) (start written told reported w u : Option (List ℕ)) → Stands to head lines h start written told reported
    → Stands to head lines h None w None u
stands_unknown to head lines h start written told reported w u s = record {
  low = s.low;
  own = s.own;
  week = s.week;
  window = s.window;
  flushed = record { stands = s.flushed.stands; text = tt; counts = s.flushed.counts };
  report = tt;
  counted = s.counted;
}

unknown : (to : Target) (week : Option ℕ) (lines : LinesState) (receiving : Option CaptureState) (bytes : List ℕ) (start written begun reported w u : Option (List ℕ)) → IsBehind to week lines receiving bytes start written begun reported
    → IsBehind to week lines receiving bytes None w None u
unknown to week lines None bytes start written begun reported w u b = record { given = b.given; read = b.read; heard = (b.heard.0, tt, tt) }
unknown to week lines (Some h) bytes start written begun reported w u b = record {
  given = b.given;
  read = b.read;
  heard = record {
    head = b.heard.head;
    line = b.heard.line;
    past = b.heard.past;
    given_are = b.heard.given_are;
    accepted = b.heard.accepted;
    led = None;
    leads = tt;
    stands = stands_unknown to b.heard.head b.heard.past h b.heard.led written begun reported w u b.heard.stands;
  };
}

pub ready_behind : (to : Target) (week : Option ℕ) (lines : LinesState) (receiving : Option CaptureState) (bytes : List ℕ) (start written begun reported : Option (List ℕ)) → IsWaiting lines
    → IsBehind to week lines receiving bytes start written begun reported → IsReady to week lines receiving
ready_behind to week lines receiving bytes start written begun reported waits b =
    record { bytes = bytes; waits = waits; behind = unknown to week lines receiving bytes start written begun reported None None b }

pub behind_ready : (to : Target) (week : Option ℕ) (lines : LinesState) (receiving : Option CaptureState) (w u : Option (List ℕ)) (r : IsReady to week lines receiving) → IsBehind to week lines receiving r.bytes None w None u
behind_ready to week lines receiving w u r = unknown to week lines receiving r.bytes None None None None w u r.behind

-- ---- going on behind the first line

first_number : (to : Target) (week : Option ℕ) (lines : LinesState) (h : CaptureState) (bytes : List ℕ) (start written begun reported : Option (List ℕ)) (b : IsBehind to week lines (Some h) bytes start written begun reported)
    → lines.number ≡ 1 + length b.heard.past
first_number to week lines h bytes start written begun reported b = omega (arith, b.read.number, ap length b.heard.given_are)

-- The bytes were read, and their lines processed; the further lines were to be converted, and that broke off. What is closed and
-- reported by the bytes `low` is a prefix of what is by these lines.
pub record Went (to : Target) (week : Option ℕ) (left left_new : Option (List ℕ)) (lines lines_new : LinesState) (h : CaptureState) (low bytes : List ℕ) (start written begun reported : Option (List ℕ)) (fault : BridgeFault) : Type 0 where
  pub head : Accepted
  pub line : Line
  pub past : List Line
  pub led : Option (List ℕ)
  pub accepted : accepted_line week line ≡ Some head
  pub read : HasRead lines bytes (line ∷ past)
  pub leads : Appends start led (prefix_text to)
  pub least : IsPrefix (flushed_output to week low) (prefix_text to ++ closed_texts to head past)
  pub least_told : IsPrefix (flushed_report week low) (line_report (log_of head.window past))
  pub broke : ConversionBroke to head past left left_new lines lines_new h led written begun reported fault

went_cut : (laws : LogLaws) (to : Target) (week : Option ℕ) (left left_new : Option (List ℕ)) (lines lines_new : LinesState) (h : CaptureState) (low bytes : List ℕ) (start written begun reported : Option (List ℕ)) (fault : BridgeFault)
    (w : Went to week left left_new lines lines_new h low bytes start written begun reported fault) (following : List ℕ) → (lines_new.ended ≡ true → following ≡ [])
    → (IsSome (capture_of week ((bytes ++ w.broke.reads.taken) ++ following)) → CutSays week ((bytes ++ w.broke.reads.taken) ++ following) fault)
    → IsCutShort to week low ((bytes ++ w.broke.reads.taken) ++ following) start written begun reported fault
went_cut laws to week left left_new lines lines_new h low bytes start written begun reported fault w following last says =
    let p = w.broke in
    let head = w.head in
    let past = w.past in
    let whole = (bytes ++ p.reads.taken) ++ following in
    let more = lines_by false (lines_new.rest ++ following) in
    let some = past ++ (p.given ++ p.last) in
    let reads = reads_more None None None unread lines lines_new (w.line ∷ past) (p.given ++ p.last) w.read.reads (unlefted left left_new lines lines_new (p.given ++ p.last) p.reads) in
    let all : lines_by false whole ≡ (w.line ∷ some) ++ more =
    all_behind lines_new (bytes ++ p.reads.taken) (w.line ∷ some) reads (ap (λ (l : List ℕ). l ++ p.reads.taken) w.read.bytes_are) following last in
    let c = capture_by head (some ++ more) in
    let capture : capture_of week whole ≡ Some c = ap (capture_in week) all ∙ capture_lines week head w.line (some ++ more) w.accepted in
    let none : lines_new.ended ≡ true → lines_new.rest ≡ [] → more ≡ [] = λ ended rest. ap (λ (l : List ℕ). lines_by false (l ++ following)) rest ∙ ap (lines_by false) (last ended) in
    let text = p.text more none in
    let closed = closed_texts to head past in
    let texts = texts_of to (periods c) in
    let back = back_text to (counts_text (counts_of c)) in
    let told = line_report (log_of head.window some) in
    let all_told = line_report (log_of head.window (some ++ more)) in
    let rises : IsPrefix closed (closed_texts to head (past ++ p.given)) =
    texts_prefix to (closed_of head.week head.window (watermark_after head.window past) (parts_of head.window past))
    (closed_of head.week head.window (watermark_after head.window (past ++ p.given)) (parts_of head.window (past ++ p.given))) (laws.rise head.week head.window past p.given) in
    record {
      output = record {
        prefix = prefix_text to ++ text.prefix;
        within = subst (IsPrefix (prefix_text to ++ text.prefix)) (sym (output_is to week whole c capture))
            (prefix_behind (prefix_text to) text.prefix (texts ++ back) (prefix_trans text.prefix texts (texts ++ back) text.within (prefix_more texts back)));
        no_less = prefix_trans (flushed_output to week low) (prefix_text to ++ closed) (prefix_text to ++ text.prefix) w.least
            (prefix_behind (prefix_text to) closed text.prefix (prefix_trans closed (closed_texts to head (past ++ p.given)) text.prefix rises text.no_less));
        grew = Appends-trans start w.led written (prefix_text to) text.prefix w.leads text.grew;
      };
      report = subst (AppendsBetween begun reported (flushed_report week low)) (sym (report_is week whole c capture))
          (between_within begun reported (flushed_report week low) (line_report (log_of head.window (past ++ p.given))) told (all_told ++ counts_text (counts_of c))
          (prefix_trans (flushed_report week low) (line_report (log_of head.window past)) (line_report (log_of head.window (past ++ p.given))) w.least_told (report_prefix head.window past p.given))
          (prefix_trans told all_told (all_told ++ counts_text (counts_of c)) (report_prefix head.window some more) (prefix_more all_told (counts_text (counts_of c)))) p.report);
      stopped = conversion_stopped_at laws to week left left_new start w.led written begun reported lines lines_new h head w.line past more whole fault w.accepted w.leads p all none;
      counts_last = inl (subst (λ (x : Option Capture). AppendsPrefix begun reported (refusals_text x)) (sym capture)
          (appends_longer begun reported told all_told (report_prefix head.window some more) (prefix_of begun reported _ _ p.report)));
      says = says (subst (λ (x : Option Capture). IsSome x) (sym capture) refl);
    }

-- after a failed read the state is that behind all bytes read
went_on : (to : Target) (week : Option ℕ) (left left_new : Option (List ℕ)) (lines lines_new : LinesState) (h : CaptureState) (low bytes : List ℕ) (start written begun reported : Option (List ℕ))
    (w : Went to week left left_new lines lines_new h low bytes start written begun reported ReadFault)
    → IsWaiting lines_new × IsBehind to week lines_new (Some h) (bytes ++ w.broke.reads.taken) start written begun reported
went_on to week left left_new lines lines_new h low bytes start written begun reported w =
    let p = w.broke in
    let waits = p.says.1 in
    let same : w.past ++ p.given ≡ w.past ++ (p.given ++ p.last) = ap (λ (l : List Line). w.past ++ l) (sym (append-nil p.given) ∙ ap (λ (l : List Line). p.given ++ l) (sym p.says.0)) in
    let number : lines_new.number ≡ lines.number + length (p.given ++ p.last) =
    omega (arith, waits.number, ap length same, length-append w.past (p.given ++ p.last), w.read.number) in (
      record { more = waits.more; none = waits.none },
      record {
        given = w.line ∷ (w.past ++ (p.given ++ p.last));
        read = read_more left left_new lines lines_new bytes (w.line ∷ w.past) (p.given ++ p.last) w.read p.reads waits.held waits.low number waits.few;
        heard = record {
          head = w.head;
          line = w.line;
          past = w.past ++ (p.given ++ p.last);
          given_are = refl;
          accepted = w.accepted;
          led = w.led;
          leads = w.leads;
          stands = subst (λ (l : List Line). Stands to w.head l h w.led written begun reported) same waits.stands;
        };
      },
    )

went_says : (laws : LogLaws) (to : Target) (week : Option ℕ) (left left_new : Option (List ℕ)) (lines lines_new : LinesState) (h : CaptureState) (low bytes : List ℕ) (start written begun reported : Option (List ℕ)) (fault : BridgeFault)
    (w : Went to week left left_new lines lines_new h low bytes start written begun reported fault)
    → FollowSays to week low (bytes ++ w.broke.reads.taken) lines_new (Some h) start written begun reported fault
went_says laws to week left left_new lines lines_new h low bytes start written begun reported ReadFault w =
    went_on to week left left_new lines lines_new h low bytes start written begun reported w
went_says laws to week left left_new lines lines_new h low bytes start written begun reported WriteFault w =
    λ following last. went_cut laws to week left left_new lines lines_new h low bytes start written begun reported WriteFault w following last (λ some. some)
went_says laws to week left left_new lines lines_new h low bytes start written begun reported ReportFault w =
    λ following last. went_cut laws to week left left_new lines lines_new h low bytes start written begun reported ReportFault w following last (λ some. some)
went_says laws to week left left_new lines lines_new h low bytes start written begun reported NoMemory w =
    λ following last. went_cut laws to week left left_new lines lines_new h low bytes start written begun reported NoMemory w following last (λ some. some)
went_says laws to week left left_new lines lines_new h low bytes start written begun reported NotThisForm w = λ following last. absurd w.broke.says
went_says laws to week left left_new lines lines_new h low bytes start written begun reported TooLong w =
    λ following last.
    let taken = w.broke.reads.taken in
    let many : lines_new.taken ≡ 2 ^ 32 = w.broke.says in
    let long : 2 ^ 32 ≤ length ((bytes ++ taken) ++ following) =
    omega (arith, many, w.broke.reads.count, count_read lines bytes (w.line ∷ w.past) w.read, length-append bytes taken, length-append (bytes ++ taken) following) in
    went_cut laws to week left left_new lines lines_new h low bytes start written begun reported TooLong w following last (λ some. long)

-- ---- from one state to the next

-- The state from which the further lines are converted: `first` was read behind the bytes, and the text before the items written.
pub record Began (to : Target) (week : Option ℕ) (left left1 : Option (List ℕ)) (lines : LinesState) (h : CaptureState) (bytes : List ℕ) (start written begun reported : Option (List ℕ)) : Type 0 where
  pub first : List ℕ
  pub consumes : Consumes left left1 first
  pub end : lines.ended ≡ true → IsAtEnd left1
  pub head : Accepted
  pub line : Line
  pub past : List Line
  pub led : Option (List ℕ)
  pub accepted : accepted_line week line ≡ Some head
  pub read : HasRead lines (bytes ++ first) (line ∷ past)
  pub number : lines.number ≡ 1 + length past
  pub leads : Appends start led (prefix_text to)
  pub stands : Stands to head past h led written begun reported
  pub least : IsPrefix (flushed_output to week bytes) (prefix_text to ++ closed_texts to head past)
  pub least_told : IsPrefix (flushed_report week bytes) (line_report (log_of head.window past))

-- the end is that of the input
end_more : (left left1 left_new : Option (List ℕ)) (middle new : LinesState) (given : List Line) → (middle.ended ≡ true → IsAtEnd left1) → Reads left1 left_new middle new given → new.ended ≡ true → IsAtEnd left_new
end_more left left1 left_new middle new given before r ended = ⊎_elim
    (λ (e : middle.ended ≡ true). subst IsAtEnd (sym (r.after_end e).2) (before e))
    (λ (end : IsAtEnd left_new). end)
    (r.at_end ended)

began_stops : (laws : LogLaws) (to : Target) (week : Option ℕ) (left left1 left_new : Option (List ℕ)) (middle new : LinesState) (h h_new : CaptureState) (bytes : List ℕ) (start written written_new begun reported reported_new : Option (List ℕ)) (fault : BridgeFault)
    (g : Began to week left left1 middle h bytes start written begun reported) → ConversionBroke to g.head g.past left1 left_new middle new h_new g.led written_new begun reported_new fault
    → FollowStops to week left left_new bytes new (Some h_new) start written_new begun reported_new fault
began_stops laws to week left left1 left_new middle new h h_new bytes start written written_new begun reported reported_new fault g p =
    let w : Went to week left1 left_new middle new h_new bytes (bytes ++ g.first) start written_new begun reported_new fault = record {
      head = g.head;
      line = g.line;
      past = g.past;
      led = g.led;
      accepted = g.accepted;
      read = g.read;
      leads = g.leads;
      least = g.least;
      least_told = g.least_told;
      broke = p;
    } in
    record {
      taken = g.first ++ p.reads.taken;
      consumes = Consumes-trans left left1 left_new g.first p.reads.taken g.consumes p.reads.consumes;
      end = end_more left left1 left_new middle new (p.given ++ p.last) g.end p.reads;
      says = subst (λ (l : List ℕ). FollowSays to week bytes l new (Some h_new) start written_new begun reported_new fault) (append_assoc bytes g.first p.reads.taken)
          (went_says laws to week left1 left_new middle new h_new bytes (bytes ++ g.first) start written_new begun reported_new fault w);
    }

began_all : (to : Target) (week : Option ℕ) (left left1 left_new : Option (List ℕ)) (middle new : LinesState) (h h_new : CaptureState) (bytes : List ℕ) (start written written_new begun reported reported_new : Option (List ℕ))
    (g : Began to week left left1 middle h bytes start written begun reported)
    → ConvertsAll to g.head g.past left1 left_new middle new g.led written_new begun reported_new h_new.receiver.tally h_new.said
    → FollowsAll to week left left_new bytes new (Some h_new) start written_new begun reported_new
began_all to week left left1 left_new middle new h h_new bytes start written written_new begun reported reported_new g p =
    let all = bytes ++ g.first in
    let t = p.reads.taken in
    let given = g.past ++ p.given in
    let reads = reads_more None None None unread middle new (g.line ∷ g.past) p.given g.read.reads (unlefted left1 left_new middle new p.given p.reads) in
    let lines : lines_by false ((all ++ t) ++ []) ≡ (g.line ∷ given) ++ lines_by false (new.rest ++ []) =
    all_behind new (all ++ t) (g.line ∷ given) reads (ap (λ (l : List ℕ). l ++ t) g.read.bytes_are) [] (λ ended. refl) in
    let same : (all ++ t) ++ [] ≡ bytes ++ (g.first ++ t) = append-nil (all ++ t) ∙ append_assoc bytes g.first t in
    record {
      taken = g.first ++ t;
      consumes = Consumes-trans left left1 left_new g.first t g.consumes p.reads.consumes;
      end = end_more left left1 left_new middle new p.given g.end p.reads p.ended;
      few = omega (arith, p.low, p.reads.count, count_read middle all (g.line ∷ g.past) g.read, length-append bytes (g.first ++ t), length-append g.first t, length-append bytes g.first);
      h = h_new;
      h_is = refl;
      head = g.head;
      line = g.line;
      given = given;
      accepted = g.accepted;
      lines_are = ap (lines_by false) (sym same) ∙ lines ∙ ap (λ (l : List ℕ). (g.line ∷ given) ++ lines_by false (l ++ [])) p.rest ∙ append-nil (g.line ∷ given);
      text = Appends-trans start g.led written_new (prefix_text to) (period_texts to g.head given) g.leads p.text;
      report = p.report;
      counts = counts_are g.head given new.number h_new.receiver.tally h_new.said (omega (arith, p.number, g.number, length-append g.past p.given)) p.counts p.verdicts;
    }

-- as the conversion ends
pub began_ends : {T : Type 0} (laws : LogLaws) (to : Target) (week : Option ℕ) (left left1 left_new : Option (List ℕ)) (middle new : LinesState) (h h_new : CaptureState) (bytes : List ℕ) (start written written_new begun reported reported_new : Option (List ℕ)) (result : Result T BridgeFault)
    (g : Began to week left left1 middle h bytes start written begun reported)
    → MatchResult result (λ x. ConvertsAll to g.head g.past left1 left_new middle new g.led written_new begun reported_new h_new.receiver.tally h_new.said)
    (λ fault. ConversionBroke to g.head g.past left1 left_new middle new h_new g.led written_new begun reported_new fault)
    → MatchResult result (λ x. FollowsAll to week left left_new bytes new (Some h_new) start written_new begun reported_new)
    (λ fault. FollowStops to week left left_new bytes new (Some h_new) start written_new begun reported_new fault)
began_ends laws to week left left1 left_new middle new h h_new bytes start written written_new begun reported reported_new (Ok x) g p =
    began_all to week left left1 left_new middle new h h_new bytes start written written_new begun reported reported_new g p
began_ends laws to week left left1 left_new middle new h h_new bytes start written written_new begun reported reported_new (Err fault) g p =
    began_stops laws to week left left1 left_new middle new h h_new bytes start written written_new begun reported reported_new fault g p

-- behind the first line
pub began_some : (to : Target) (week : Option ℕ) (left : Option (List ℕ)) (lines : LinesState) (h : CaptureState) (bytes : List ℕ) (start written begun reported : Option (List ℕ)) → IsWaiting lines
    → IsBehind to week lines (Some h) bytes start written begun reported → Began to week left left lines h bytes start written begun reported
began_some to week left lines h bytes start written begun reported waits b =
    let heard = b.heard in
    let nil = sym (append-nil bytes) in
    let ended : lines_by true bytes ≡ heard.line ∷ heard.past = ended_behind lines bytes b.given waits b.read ∙ heard.given_are in
    let text : flushed_output to week bytes ≡ prefix_text to ++ closed_texts to heard.head heard.past =
    flushed_is to week bytes (heard.line ∷ heard.past) ended ∙ ap (flushed_text to) (capture_lines week heard.head heard.line heard.past heard.accepted) in
    let report : flushed_report week bytes ≡ line_report (log_of heard.head.window heard.past) =
    flushed_report_is week bytes (heard.line ∷ heard.past) ended ∙ ap refusals_text (capture_lines week heard.head heard.line heard.past heard.accepted) in
    record {
      first = [];
      consumes = Consumes-nil left;
      end = λ e. absurd (true≢false (sym e ∙ waits.more));
      head = heard.head;
      line = heard.line;
      past = heard.past;
      led = heard.led;
      accepted = heard.accepted;
      read = subst (λ (l : List ℕ). HasRead lines l (heard.line ∷ heard.past)) nil (subst (HasRead lines bytes) heard.given_are b.read);
      number = first_number to week lines h bytes start written begun reported b;
      leads = heard.leads;
      stands = heard.stands;
      least = subst (IsPrefix (flushed_output to week bytes)) text (prefix_same (flushed_output to week bytes));
      least_told = subst (IsPrefix (flushed_report week bytes)) report (prefix_same (flushed_report week bytes));
    }

-- behind a first line that has just ended
pub began_first : (to : Target) (week : Option ℕ) (left left1 : Option (List ℕ)) (lines middle : LinesState) (head : Accepted) (h : CaptureState) (bytes : List ℕ) (start written written1 begun reported : Option (List ℕ)) → IsWaiting lines
    → IsBehind to week lines None bytes start written begun reported → GivesHead week left left1 lines middle head → Appends written written1 (prefix_text to) → head.window ≤ 14400 → IsNew h head.week head.window
    → Began to week left left1 middle h bytes start written1 begun reported
began_first to week left left1 lines middle head h bytes start written written1 begun reported waits b gives wrote low new =
    let none = none_ended to week lines bytes start written begun reported waits b in
    let text : flushed_output to week bytes ≡ [] = flushed_is to week bytes [] none in
    let s = stands_start to head h written1 begun low new in
    let gave = gives.gives in
    record {
      first = gave.reads.taken;
      consumes = gave.reads.consumes;
      end = λ e. end_more left left left1 lines middle (gives.line ∷ []) (λ before. absurd (true≢false (sym before ∙ waits.more))) gave.reads e;
      head = head;
      line = gives.line;
      past = [];
      led = written1;
      accepted = gives.accepted;
      read = read_more left left1 lines middle bytes [] (gives.line ∷ []) (subst (HasRead lines bytes) b.heard.0 b.read) gave.reads (gave.short b.read.held) gave.low (omega (arith, gave.number))
          (omega (arith, gave.numbered, gave.low));
      number = omega (arith, gave.number, b.read.number, ap length b.heard.0);
      leads = Appends-trans start written written1 [] (prefix_text to) b.heard.1 wrote;
      stands = record {
        low = s.low;
        own = s.own;
        week = s.week;
        window = s.window;
        flushed = s.flushed;
        report = b.heard.2;
        counted = s.counted;
      };
      least = subst (λ (l : List ℕ). IsPrefix l (prefix_text to ++ closed_texts to head [])) (sym text) (prefix_nil (prefix_text to ++ closed_texts to head []));
      least_told = subst (λ (l : List ℕ). IsPrefix l (line_report (log_of head.window []))) (sym (flushed_report_is week bytes [] none)) (prefix_nil (line_report (log_of head.window [])));
    }

pub began_new : (to : Target) (week : Option ℕ) (left left1 : Option (List ℕ)) (lines middle : LinesState) (receiving : Option CaptureState) (head : Accepted) (h : CaptureState) (bytes : List ℕ) (start written written1 begun reported : Option (List ℕ)) → receiving ≡ None → IsWaiting lines
    → IsBehind to week lines receiving bytes start written begun reported → GivesHead week left left1 lines middle head → Appends written written1 (prefix_text to) → head.window ≤ 14400 → IsNew h head.week head.window
    → Began to week left left1 middle h bytes start written1 begun reported
began_new to week left left1 lines middle receiving head h bytes start written written1 begun reported e waits b gives wrote low new =
    began_first to week left left1 lines middle head h bytes start written written1 begun reported waits (subst (λ (o : Option CaptureState). IsBehind to week lines o bytes start written begun reported) e b) gives wrote low new

pub holds_began : (to : Target) (week : Option ℕ) (left left1 : Option (List ℕ)) (lines : LinesState) (h : CaptureState) (bytes : List ℕ) (start written begun reported : Option (List ℕ)) → Began to week left left1 lines h bytes start written begun reported
    → HoldsPast to lines.number h written reported
holds_began to week left left1 lines h bytes start written begun reported g =
    record { head = g.head; past = g.past; start = g.led; told = begun; number_is = g.number; few = g.read.few; stands = g.stands }

-- the further lines are of the form
pub convert_no_form : {T : Type 0} (A : T → Type 0) (to : Target) (head : Accepted) (past : List Line) (left left_new : Option (List ℕ)) (old new : LinesState) (h : CaptureState) (start written told reported : Option (List ℕ)) (result : Result T BridgeFault)
    → MatchResult result A (λ fault. ConversionBroke to head past left left_new old new h start written told reported fault) → result ≡ Err NotThisForm → ⊥
convert_no_form A to head past left left_new old new h start written told reported result m e =
    converted_form to head past left left_new old new h start written told reported NotThisForm
    (subst (λ r. MatchResult r A (λ fault. ConversionBroke to head past left left_new old new h start written told reported fault)) e m) refl

-- ---- in the first line

-- nothing was reported
none_told : (week : Option ℕ) (bytes whole : List ℕ) (begun reported : Option (List ℕ)) → lines_by true bytes ≡ [] → Appends begun reported []
    → AppendsBetween begun reported (flushed_report week bytes) (report_of_capture week whole)
none_told week bytes whole begun reported none told = record {
  prefix = [];
  within = prefix_nil (report_of_capture week whole);
  no_less = subst (λ (l : List ℕ). IsPrefix l []) (sym (flushed_report_is week bytes [] none)) (prefix_nil []);
  grew = told;
}

-- nothing was written
none_cut : (to : Target) (week : Option ℕ) (bytes whole : List ℕ) (start written begun reported : Option (List ℕ)) (fault : BridgeFault) → lines_by true bytes ≡ []
    → Appends start written [] → Appends begun reported [] → CutSays week whole fault → IsCutShort to week bytes whole start written begun reported fault
none_cut to week bytes whole start written begun reported fault none wrote told says = record {
  output = record {
    prefix = [];
    within = prefix_nil (output_of to week whole);
    no_less = subst (λ (l : List ℕ). IsPrefix l []) (sym (flushed_is to week bytes [] none)) (prefix_nil []);
    grew = wrote;
  };
  report = none_told week bytes whole begun reported none told;
  stopped = none_stopped_at to week whole start written begun reported wrote told;
  counts_last = inl ([], prefix_nil (refusals_text (capture_of week whole)), told);
  says = says;
}

-- the lines of all bytes, of which the first were returned
first_lines : (left left1 : Option (List ℕ)) (lines middle : LinesState) (bytes : List ℕ) (given : List Line) (read : HasRead lines bytes []) (r : Reads left left1 lines middle given) (following : List ℕ) → (middle.ended ≡ true → following ≡ [])
    → lines_by false ((bytes ++ r.taken) ++ following) ≡ given ++ lines_by false (middle.rest ++ following)
first_lines left left1 lines middle bytes given read r following last =
    all_behind middle (bytes ++ r.taken) given (reads_more None None None unread lines middle [] given read.reads (unlefted left left1 lines middle given r))
    (ap (λ (l : List ℕ). l ++ r.taken) read.bytes_are) following last

head_says : (to : Target) (week : Option ℕ) (left left1 : Option (List ℕ)) (lines middle : LinesState) (bytes : List ℕ) (start written begun reported : Option (List ℕ)) (fault : BridgeFault) → IsWaiting lines
    → (b : IsBehind to week lines None bytes start written begun reported) → GivesNoHead week left left1 lines middle fault → FollowStops to week left left1 bytes middle None start written begun reported fault
head_says to week left left1 lines middle bytes start written begun reported NotThisForm waits b h =
    let none = none_ended to week lines bytes start written begun reported waits b in
    let read = subst (HasRead lines bytes) b.heard.0 b.read in
    let ends = λ (given : List Line) (r : Reads left left1 lines middle given). end_more left left left1 lines middle given (λ before. absurd (true≢false (sym before ∙ waits.more))) r in
    ⊎_elim
    (λ (gave : (line : Line) × GivesLine left left1 lines middle line × (accepted_line week line ≡ None)). record {
      taken = gave.1.reads.taken;
      consumes = gave.1.reads.consumes;
      end = ends (gave.0 ∷ []) gave.1.reads;
      says = λ following last.
          none_cut to week bytes ((bytes ++ gave.1.reads.taken) ++ following) start written begun reported NotThisForm none b.heard.1 b.heard.2
          (ap (capture_in week) (first_lines left left1 lines middle bytes (gave.0 ∷ []) read gave.1.reads following last)
          ∙ ap (capture_with (lines_by false (middle.rest ++ following))) gave.2);
    })
    (λ (gave : GivesEnd left left1 lines middle). record {
      taken = gave.reads.taken;
      consumes = gave.reads.consumes;
      end = ends [] gave.reads;
      says = λ following last.
          none_cut to week bytes ((bytes ++ gave.reads.taken) ++ following) start written begun reported NotThisForm none b.heard.1 b.heard.2
          (ap (capture_in week) (first_lines left left1 lines middle bytes [] read gave.reads following last)
          ∙ ap (λ (l : List ℕ). capture_in week (lines_by false (l ++ following))) gave.rest
          ∙ ap (λ (l : List ℕ). capture_in week (lines_by false l)) (last gave.ended));
    }) h
head_says to week left left1 lines middle bytes start written begun reported ReadFault waits b h = record {
  taken = h.reads.taken;
  consumes = h.reads.consumes;
  end = λ ended. absurd (true≢false (sym ended ∙ h.more));
  says = (
    record { more = h.more; none = h.none },
    record {
      given = [];
      read = read_more left left1 lines middle bytes [] [] (subst (HasRead lines bytes) b.heard.0 b.read) h.reads (omega (arith, h.short)) h.low (omega (arith, h.number)) (omega (arith, h.number, b.read.few));
      heard = (refl, b.heard.1, b.heard.2);
    },
  );
}
head_says to week left left1 lines middle bytes start written begun reported TooLong waits b h = record {
  taken = h.reads.taken;
  consumes = h.reads.consumes;
  end = end_more left left left1 lines middle [] (λ before. absurd (true≢false (sym before ∙ waits.more))) h.reads;
  says = λ following last.
      let long : 2 ^ 32 ≤ length ((bytes ++ h.reads.taken) ++ following) =
      omega (arith, h.too_many, h.reads.count, count_read lines bytes b.given b.read, length-append bytes h.reads.taken, length-append (bytes ++ h.reads.taken) following) in
      none_cut to week bytes ((bytes ++ h.reads.taken) ++ following) start written begun reported TooLong
      (none_ended to week lines bytes start written begun reported waits b) b.heard.1 b.heard.2 long;
}
head_says to week left left1 lines middle bytes start written begun reported WriteFault waits b h = absurd h
head_says to week left left1 lines middle bytes start written begun reported ReportFault waits b h = absurd h
head_says to week left left1 lines middle bytes start written begun reported NoMemory waits b h = absurd h

-- no line was accepted
pub head_follows : (to : Target) (week : Option ℕ) (left left1 : Option (List ℕ)) (lines middle : LinesState) (receiving : Option CaptureState) (bytes : List ℕ) (start written begun reported : Option (List ℕ)) (fault : BridgeFault) → receiving ≡ None → IsWaiting lines
    → IsBehind to week lines receiving bytes start written begun reported → GivesNoHead week left left1 lines middle fault → FollowStops to week left left1 bytes middle receiving start written begun reported fault
head_follows to week left left1 lines middle None bytes start written begun reported fault e waits b h = head_says to week left left1 lines middle bytes start written begun reported fault waits b h
head_follows to week left left1 lines middle (Some x) bytes start written begun reported fault e waits b h = absurd cc

-- the text before the items was not written whole
pub begin_follows : (to : Target) (week : Option ℕ) (left left1 : Option (List ℕ)) (lines middle : LinesState) (receiving : Option CaptureState) (head : Accepted) (bytes : List ℕ) (start written written1 begun reported : Option (List ℕ)) → receiving ≡ None → IsWaiting lines
    → IsBehind to week lines receiving bytes start written begun reported → GivesHead week left left1 lines middle head → AppendsPrefix written written1 (prefix_text to)
    → FollowStops to week left left1 bytes middle receiving start written1 begun reported WriteFault
begin_follows to week left left1 lines middle (Some x) head bytes start written written1 begun reported e waits b gives wrote = absurd cc
begin_follows to week left left1 lines middle None head bytes start written written1 begun reported e waits b gives (prefix, within, grew) =
    let gave = gives.gives in
    let read = subst (HasRead lines bytes) b.heard.0 b.read in
    record {
      taken = gave.reads.taken;
      consumes = gave.reads.consumes;
      end = end_more left left left1 lines middle (gives.line ∷ []) (λ before. absurd (true≢false (sym before ∙ waits.more))) gave.reads;
      says = λ following last.
          let whole = (bytes ++ gave.reads.taken) ++ following in
          let more = lines_by false (middle.rest ++ following) in
          let c = capture_by head more in
          let all = first_lines left left1 lines middle bytes (gives.line ∷ []) read gave.reads following last in
          let capture : capture_of week whole ≡ Some c =
          ap (capture_in week) all ∙ capture_lines week head gives.line more gives.accepted in
          let behind = texts_of to (periods c) ++ back_text to (counts_text (counts_of c)) in
          record {
            output = record {
              prefix = prefix;
              within = subst (IsPrefix prefix) (sym (output_is to week whole c capture)) (prefix_trans prefix (prefix_text to) (prefix_text to ++ behind) within (prefix_more (prefix_text to) behind));
              no_less = subst (λ (l : List ℕ). IsPrefix l prefix) (sym (flushed_is to week bytes [] (none_ended to week lines bytes start written begun reported waits b))) (prefix_nil prefix);
              grew = Appends-trans start written written1 [] prefix b.heard.1 grew;
            };
            report = none_told week bytes whole begun reported (none_ended to week lines bytes start written begun reported waits b) b.heard.2;
            stopped = head_stopped_at to week head gives.line (Some whole) start written1 begun reported gives.accepted (more, all) (prefix, within, Appends-trans start written written1 [] prefix b.heard.1 grew) b.heard.2;
            counts_last = inl ([], prefix_nil (refusals_text (capture_of week whole)), b.heard.2);
            says = subst (λ (x : Option Capture). IsSome x) (sym capture) refl;
          };
    }

-- ---- a piece

-- a read that failed was behind the end
pub piece_ends : (failed : Bool) (rest : List ℕ) → Rose 0 (piece_faults failed rest) → rest ≡ []
piece_ends false rest rose = absurd (omega (arith, rose))
piece_ends true [] rose = refl
piece_ends true (x ∷ xs) rose = absurd (omega (arith, rose))

-- what was read of a piece, and what is left
piece_split : (piece taken rest : List ℕ) → Consumes (Some (piece ++ 0 ∷ [])) (Some (rest ++ 0 ∷ [])) taken → piece ≡ taken ++ rest
piece_split piece taken rest e = append_cancel_right piece (taken ++ rest) (0 ∷ []) (e ∙ sym (append_assoc taken rest (0 ∷ [])))

not_at_end : (rest : List ℕ) → IsAtEnd (Some (rest ++ 0 ∷ [])) → ⊥
not_at_end rest e = omega (arith, ap length e, length-append rest (0 ∷ []))

-- a piece is no end
pub piece_goes_on : (to : Target) (week : Option ℕ) (left : Option (List ℕ)) (bytes rest : List ℕ) (lines : LinesState) (receiving : Option CaptureState) (start written begun reported : Option (List ℕ))
    → FollowsAll to week left (Some (rest ++ 0 ∷ [])) bytes lines receiving start written begun reported → ⊥
piece_goes_on to week left bytes rest lines receiving start written begun reported all = not_at_end rest all.end

-- the piece was read
pub piece_read : (to : Target) (week : Option ℕ) (bytes piece rest : List ℕ) (failed : Bool) (lines : LinesState) (receiving : Option CaptureState) (start written begun reported : Option (List ℕ)) (writes writes_new reports reports_new : ℕ) (fault : BridgeFault) → fault ≡ ReadFault
    → HasItsCause {T = Unit {0}} (faults_of 0 writes reports) (faults_of (piece_faults failed rest) writes_new reports_new) (Err fault) → FollowStops to week (Some (piece ++ 0 ∷ [])) (Some (rest ++ 0 ∷ [])) bytes lines receiving start written begun reported fault
    → IsWaiting lines × IsBehind to week lines receiving (bytes ++ piece) start written begun reported
piece_read to week bytes piece rest failed lines receiving start written begun reported writes writes_new reports reports_new fault e cause stop =
    let rose : Rose 0 (piece_faults failed rest) =
    (subst (λ (f : BridgeFault). HasItsCause {T = Unit {0}} (faults_of 0 writes reports) (faults_of (piece_faults failed rest) writes_new reports_new) (Err f)) e cause).0 in
    let says = subst (FollowSays to week bytes (bytes ++ stop.taken) lines receiving start written begun reported) e stop.says in
    let whole : stop.taken ≡ piece = sym (append-nil stop.taken) ∙ ap (λ (l : List ℕ). stop.taken ++ l) (sym (piece_ends failed rest rose)) ∙ sym (piece_split piece stop.taken rest stop.consumes) in
    (says.0, subst (λ (l : List ℕ). IsBehind to week lines receiving (bytes ++ l) start written begun reported) whole says.1)

-- any other fault cuts short
cut_by : (to : Target) (week : Option ℕ) (bytes all : List ℕ) (lines : LinesState) (receiving : Option CaptureState) (start written begun reported : Option (List ℕ)) (fault : BridgeFault) → (fault ≡ ReadFault → ⊥)
    → FollowSays to week bytes all lines receiving start written begun reported fault → (following : List ℕ) → (lines.ended ≡ true → following ≡ []) → IsCutShort to week bytes (all ++ following) start written begun reported fault
cut_by to week bytes all lines receiving start written begun reported ReadFault other says following last = absurd (other refl)
cut_by to week bytes all lines receiving start written begun reported WriteFault other says following last = says following last
cut_by to week bytes all lines receiving start written begun reported ReportFault other says following last = says following last
cut_by to week bytes all lines receiving start written begun reported TooLong other says following last = says following last
cut_by to week bytes all lines receiving start written begun reported NoMemory other says following last = says following last
cut_by to week bytes all lines receiving start written begun reported NotThisForm other says following last = says following last

pub piece_cut : (to : Target) (week : Option ℕ) (bytes piece more rest : List ℕ) (lines : LinesState) (receiving : Option CaptureState) (start written begun reported : Option (List ℕ)) (fault : BridgeFault) → (fault ≡ ReadFault → ⊥)
    → FollowStops to week (Some (piece ++ 0 ∷ [])) (Some (rest ++ 0 ∷ [])) bytes lines receiving start written begun reported fault
    → IsCutShort to week bytes ((bytes ++ piece) ++ more) start written begun reported fault
piece_cut to week bytes piece more rest lines receiving start written begun reported fault other stop =
    let whole : (bytes ++ stop.taken) ++ (rest ++ more) ≡ (bytes ++ piece) ++ more =
    sym (append_assoc (bytes ++ stop.taken) rest more)
    ∙ ap (λ (l : List ℕ). l ++ more) (append_assoc bytes stop.taken rest)
    ∙ ap (λ (l : List ℕ). (bytes ++ l) ++ more) (sym (piece_split piece stop.taken rest stop.consumes)) in
    subst (λ (l : List ℕ). IsCutShort to week bytes l start written begun reported fault) whole
    (cut_by to week bytes (bytes ++ stop.taken) lines receiving start written begun reported fault other stop.says (rest ++ more) (λ ended. absurd (not_at_end rest (stop.end ended))))

-- ---- the end

none_taken : (taken : List ℕ) → Consumes (Some []) (Some []) taken → taken ≡ []
none_taken taken e = sym (append-nil taken) ∙ sym e

-- a fault at the end
pub end_cut : (to : Target) (week : Option ℕ) (bytes : List ℕ) (lines : LinesState) (receiving : Option CaptureState) (start written begun reported : Option (List ℕ)) (fault : BridgeFault) → (fault ≡ ReadFault → ⊥)
    → FollowStops to week (Some []) (Some []) bytes lines receiving start written begun reported fault → IsCutShort to week bytes bytes start written begun reported fault
end_cut to week bytes lines receiving start written begun reported fault other stop =
    let whole : (bytes ++ stop.taken) ++ [] ≡ bytes =
    append-nil (bytes ++ stop.taken) ∙ ap (λ (l : List ℕ). bytes ++ l) (none_taken stop.taken stop.consumes) ∙ append-nil bytes in
    subst (λ (l : List ℕ). IsCutShort to week bytes l start written begun reported fault) whole
    (cut_by to week bytes (bytes ++ stop.taken) lines receiving start written begun reported fault other stop.says [] (λ ended. refl))

-- the lines of all bytes, and the capture that they are
lines_whole : (to : Target) (week : Option ℕ) (bytes : List ℕ) (lines : LinesState) (receiving : Option CaptureState) (start written begun reported : Option (List ℕ))
    (all : FollowsAll to week (Some []) (Some []) bytes lines receiving start written begun reported) → lines_by false bytes ≡ all.line ∷ all.given
lines_whole to week bytes lines receiving start written begun reported all =
    ap (lines_by false) (sym (append-nil bytes) ∙ ap (λ (l : List ℕ). bytes ++ l) (sym (none_taken all.taken all.consumes))) ∙ all.lines_are

all_lines : (to : Target) (week : Option ℕ) (bytes : List ℕ) (lines : LinesState) (receiving : Option CaptureState) (start written begun reported : Option (List ℕ))
    (all : FollowsAll to week (Some []) (Some []) bytes lines receiving start written begun reported) → capture_of week bytes ≡ Some (capture_by all.head all.given)
all_lines to week bytes lines receiving start written begun reported all =
    ap (capture_in week) (lines_whole to week bytes lines receiving start written begun reported all) ∙ capture_lines week all.head all.line all.given all.accepted

all_counts : (to : Target) (week : Option ℕ) (bytes : List ℕ) (lines : LinesState) (receiving : Option CaptureState) (start written begun reported : Option (List ℕ)) (h : CaptureState) (counts : CaptureCounts)
    (all : FollowsAll to week (Some []) (Some []) bytes lines receiving start written begun reported) → receiving ≡ Some h → counts ≡ with_counts lines.number h.receiver.tally h.said
    → counts ≡ counts_of (capture_by all.head all.given)
all_counts to week bytes lines receiving start written begun reported h counts all is counted =
    let same : h ≡ all.h = cc (all.h_is, is) in
    counted ∙ ap (λ (x : CaptureState). with_counts lines.number x.receiver.tally x.said) same ∙ all.counts

-- there is a first line
pub all_heard : (to : Target) (week : Option ℕ) (bytes : List ℕ) (lines : LinesState) (receiving : Option CaptureState) (start written begun reported : Option (List ℕ))
    → FollowsAll to week (Some []) (Some []) bytes lines receiving start written begun reported → receiving ≡ None → ⊥
all_heard to week bytes lines receiving start written begun reported all none =
    let h_is = all.h_is in
    cc

pub all_whole : (to : Target) (week : Option ℕ) (bytes : List ℕ) (lines : LinesState) (receiving : Option CaptureState) (start written written_new begun reported reported_new : Option (List ℕ)) (h : CaptureState) (counts : CaptureCounts)
    → FollowsAll to week (Some []) (Some []) bytes lines receiving start written begun reported → receiving ≡ Some h → counts ≡ with_counts lines.number h.receiver.tally h.said
    → Appends written written_new (back_text to (counts_text counts)) → Appends reported reported_new (counts_text counts) → IsWhole to week bytes start written_new begun reported_new counts
all_whole to week bytes lines receiving start written written_new begun reported reported_new h counts all is counted back report =
    let c = capture_by all.head all.given in
    let capture = all_lines to week bytes lines receiving start written begun reported all in
    let same = all_counts to week bytes lines receiving start written begun reported h counts all is counted in
    let texts = texts_of to (periods c) in
    record {
      output = subst (Appends start written_new) (append_assoc (prefix_text to) texts (back_text to (counts_text (counts_of c))) ∙ sym (output_is to week bytes c capture))
          (Appends-trans start written written_new (prefix_text to ++ texts) (back_text to (counts_text (counts_of c))) all.text
          (subst (λ (x : CaptureCounts). Appends written written_new (back_text to (counts_text x))) same back));
      report = subst (Appends begun reported_new) (sym (report_is week bytes c capture))
          (Appends-trans begun reported reported_new (line_report (log_of all.head.window all.given)) (counts_text (counts_of c)) all.report
          (subst (λ (x : CaptureCounts). Appends reported reported_new (counts_text x)) same report));
      counted = ap counts_in capture ∙ ap Some (sym same);
      few = omega (arith, all.few, length-append bytes all.taken);
    }

-- what is written of the bytes so far is a prefix of what all their periods give
flushed_lines : (laws : LogLaws) (to : Target) (week : Option ℕ) (head : Accepted) (line : Line) (given : List Line) (bytes : List ℕ) (ys rest : List Line) → lines_by true bytes ≡ ys → line ∷ given ≡ ys ++ rest
    → accepted_line week line ≡ Some head → IsPrefix (flushed_output to week bytes) (prefix_text to ++ period_texts to head given)
flushed_lines laws to week head line given bytes [] rest ended all accepted =
    subst (λ (l : List ℕ). IsPrefix l (prefix_text to ++ period_texts to head given)) (sym (flushed_is to week bytes [] ended)) (prefix_nil (prefix_text to ++ period_texts to head given))
flushed_lines laws to week head line given bytes (y ∷ ys) rest ended all accepted =
    let first : line ≡ y = cc in
    let tail : given ≡ ys ++ rest = cc in
    let text : flushed_output to week bytes ≡ prefix_text to ++ closed_texts to head ys =
    flushed_is to week bytes (y ∷ ys) ended ∙ ap (flushed_text to) (capture_lines week head y ys (ap (accepted_line week) (sym first) ∙ accepted)) in
    let closed : IsPrefix (closed_texts to head ys) (period_texts to head (ys ++ rest)) =
    texts_prefix to (closed_of head.week head.window (watermark_after head.window ys) (parts_of head.window ys)) (periods_of head.week head.window (parts_of head.window (ys ++ rest)))
    (laws.prefix head.week head.window ys rest) in
    subst (λ (l : List ℕ). IsPrefix l (prefix_text to ++ period_texts to head given)) (sym text)
    (prefix_behind (prefix_text to) (closed_texts to head ys) (period_texts to head given) (subst (λ (l : List Line). IsPrefix (closed_texts to head ys) (period_texts to head l)) (sym tail) closed))

flushed_within : (laws : LogLaws) (to : Target) (week : Option ℕ) (head : Accepted) (line : Line) (given : List Line) (bytes : List ℕ) → lines_by false bytes ≡ line ∷ given → accepted_line week line ≡ Some head
    → IsPrefix (flushed_output to week bytes) (prefix_text to ++ period_texts to head given)
flushed_within laws to week head line given bytes all accepted =
    let prefix = lines_prefix false bytes [] in
    flushed_lines laws to week head line given bytes (lines_by true bytes) prefix.0 refl (sym all ∙ ap (lines_by false) (sym (append-nil bytes)) ∙ prefix.1) accepted

-- what is reported of them is a prefix of what all lines give
reported_lines : (week : Option ℕ) (head : Accepted) (line : Line) (given : List Line) (bytes : List ℕ) (ys rest : List Line) → lines_by true bytes ≡ ys → line ∷ given ≡ ys ++ rest
    → accepted_line week line ≡ Some head → IsPrefix (flushed_report week bytes) (line_report (log_of head.window given))
reported_lines week head line given bytes [] rest ended all accepted =
    subst (λ (l : List ℕ). IsPrefix l (line_report (log_of head.window given))) (sym (flushed_report_is week bytes [] ended)) (prefix_nil (line_report (log_of head.window given)))
reported_lines week head line given bytes (y ∷ ys) rest ended all accepted =
    let first : line ≡ y = cc in
    let tail : given ≡ ys ++ rest = cc in
    let text : flushed_report week bytes ≡ line_report (log_of head.window ys) =
    flushed_report_is week bytes (y ∷ ys) ended ∙ ap refusals_text (capture_lines week head y ys (ap (accepted_line week) (sym first) ∙ accepted)) in
    subst (λ (l : List ℕ). IsPrefix l (line_report (log_of head.window given))) (sym text)
    (subst (λ (l : List Line). IsPrefix (line_report (log_of head.window ys)) (line_report (log_of head.window l))) (sym tail) (report_prefix head.window ys rest))

reported_within : (week : Option ℕ) (head : Accepted) (line : Line) (given : List Line) (bytes : List ℕ) → lines_by false bytes ≡ line ∷ given → accepted_line week line ≡ Some head
    → IsPrefix (flushed_report week bytes) (line_report (log_of head.window given))
reported_within week head line given bytes all accepted =
    let prefix = lines_prefix false bytes [] in
    reported_lines week head line given bytes (lines_by true bytes) prefix.0 refl (sym all ∙ ap (lines_by false) (sym (append-nil bytes)) ∙ prefix.1) accepted

-- what lines close is a prefix of all their periods
closed_within : (laws : LogLaws) (to : Target) (head : Accepted) (given : List Line) → IsPrefix (closed_texts to head given) (period_texts to head given)
closed_within laws to head given =
    subst (λ (l : List Line). IsPrefix (closed_texts to head given) (period_texts to head l)) (append-nil given)
    (texts_prefix to (closed_of head.week head.window (watermark_after head.window given) (parts_of head.window given)) (periods_of head.week head.window (parts_of head.window (given ++ [])))
    (laws.prefix head.week head.window given []))

written_says : (week : Option ℕ) (whole : List ℕ) (fault : BridgeFault) → (fault ≡ WriteFault) ⊎ (fault ≡ ReportFault) → IsSome (capture_of week whole) → CutSays week whole fault
written_says week whole fault kind some =
    ⊎_elim (λ (e : fault ≡ WriteFault). subst (CutSays week whole) (sym e) some) (λ (e : fault ≡ ReportFault). subst (CutSays week whole) (sym e) some) kind

-- the text behind the items was not written whole, or the counts were not reported whole
pub all_cut : (laws : LogLaws) (to : Target) (week : Option ℕ) (bytes : List ℕ) (lines : LinesState) (receiving : Option CaptureState) (start written written_new begun reported reported_new : Option (List ℕ)) (h : CaptureState) (counts : CaptureCounts) (fault : BridgeFault)
    → FollowsAll to week (Some []) (Some []) bytes lines receiving start written begun reported → receiving ≡ Some h → counts ≡ with_counts lines.number h.receiver.tally h.said
    → AppendsPrefix written written_new (back_text to (counts_text counts)) → AppendsPrefix reported reported_new (counts_text counts) → (fault ≡ WriteFault) ⊎ (fault ≡ ReportFault)
    → (fault ≡ WriteFault → reported_new ≡ reported) → (fault ≡ ReportFault → Appends written written_new (back_text to (counts_text counts)))
    → IsCutShort to week bytes bytes start written_new begun reported_new fault
all_cut laws to week bytes lines receiving start written written_new begun reported reported_new h counts fault all is counted back report kind untold wrote =
    let c = capture_by all.head all.given in
    let capture = all_lines to week bytes lines receiving start written begun reported all in
    let same = all_counts to week bytes lines receiving start written begun reported h counts all is counted in
    let texts = texts_of to (periods c) in
    let behind = subst (λ (x : CaptureCounts). AppendsPrefix written written_new (back_text to (counts_text x))) same back in
    let told = subst (λ (x : CaptureCounts). AppendsPrefix reported reported_new (counts_text x)) same report in
    let whole_lines = lines_whole to week bytes lines receiving start written begun reported all in
    let log = line_report (log_of all.head.window all.given) in
    let least = flushed_within laws to week all.head all.line all.given bytes whole_lines all.accepted in
    let some : IsSome (capture_of week bytes) = subst (λ (x : Option Capture). IsSome x) (sym capture) refl in
    record {
      output = record {
        prefix = (prefix_text to ++ texts) ++ behind.0;
        within = subst (IsPrefix ((prefix_text to ++ texts) ++ behind.0)) (append_assoc (prefix_text to) texts (back_text to (counts_text (counts_of c))) ∙ sym (output_is to week bytes c capture))
            (prefix_behind (prefix_text to ++ texts) behind.0 (back_text to (counts_text (counts_of c))) behind.1);
        no_less = prefix_trans (flushed_output to week bytes) (prefix_text to ++ texts) ((prefix_text to ++ texts) ++ behind.0)
            least (prefix_more (prefix_text to ++ texts) behind.0);
        grew = Appends-trans start written written_new (prefix_text to ++ texts) behind.0 all.text behind.2;
      };
      report = subst (AppendsBetween begun reported_new (flushed_report week bytes)) (sym (report_is week bytes c capture))
          (between_within begun reported_new (flushed_report week bytes) log (log ++ counts_text (counts_of c)) (log ++ counts_text (counts_of c))
          (reported_within week all.head all.line all.given bytes whole_lines all.accepted) (prefix_same (log ++ counts_text (counts_of c)))
          (between_behind begun reported reported_new log (counts_text (counts_of c)) all.report told));
      stopped = end_stopped_at laws to week all.head all.line all.given bytes start written_new begun reported_new all.accepted whole_lines (
        (prefix_text to ++ texts) ++ behind.0,
        prefix_trans (prefix_text to ++ closed_texts to all.head all.given) (prefix_text to ++ texts) ((prefix_text to ++ texts) ++ behind.0)
            (prefix_behind (prefix_text to) (closed_texts to all.head all.given) texts (closed_within laws to all.head all.given)) (prefix_more (prefix_text to ++ texts) behind.0),
        Appends-trans start written written_new (prefix_text to ++ texts) behind.0 all.text behind.2,
      )
          (log ++ told.0, prefix_more log told.0, Appends-trans begun reported reported_new log told.0 all.report told.2);
      counts_last = ⊎_elim
          (λ (e : fault ≡ WriteFault). inl (subst (λ (x : Option Capture). AppendsPrefix begun reported_new (refusals_text x)) (sym capture)
          (subst (λ (u : Option (List ℕ)). AppendsPrefix begun u log) (sym (untold e)) (appends_whole begun reported log all.report))))
          (λ (e : fault ≡ ReportFault). inr (
            e,
            subst (Appends start written_new) (append_assoc (prefix_text to) texts (back_text to (counts_text (counts_of c))) ∙ sym (output_is to week bytes c capture))
                (Appends-trans start written written_new (prefix_text to ++ texts) (back_text to (counts_text (counts_of c))) all.text
                (subst (λ (x : CaptureCounts). Appends written written_new (back_text to (counts_text x))) same (wrote e))),
          ))
          kind;
      says = written_says week bytes fault kind some;
    }
