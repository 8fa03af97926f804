-- A navigation file that is written as a capture, and the capture received of it that is converted back.
use Rattle.std.proofs.Common.{◌++◌, filter, ◌≡◌, ℕ, inl, inr, false, List, [], ◌∷◌, refl, sym, ap, subst, ◌∙◌}
use Rattle.std.specs.Prelude.{Option, Some, None, Result, Ok, Err, IsOk, All, Contains}
use Rattle.std.specs.List.{AllByRecursion, flat_map}
use Rattle.std.proofs.lemmas.List.Elements.{All-from_recursion}
use Rattle.nav_io.specs.Lines.{Line, lines_by}
use Rattle.nav_eph.specs.Ranges.{IsItem}
use Rattle.nav_eph.specs.declared.items.NavItem.{NavItem}
use Rattle.nav_eph.specs.declared.items.NavItem.TheVariants.{Gps, Gal, Ion}
use Rattle.capture_lines.specs.Heads.{head_of, plain_head}
use Rattle.capture_lines.specs.declared.head.CaptureHead.{CaptureHead}
use Rattle.nav_eph.specs.declared.part.Part.{Part}
use Rattle.periods.specs.PeriodLists.{items_in}
use Rattle.periods.specs.PeriodsOf.{periods_of}
use Rattle.capture_log.specs.Received.{NoneLate, SameItems}
use Rattle.capture_log.specs.Log.{line_items_of, parts_of}
use Rattle.rinex_write.specs.Texts.{text_of}
use Rattle.rinex_write.specs.Texts3.{header3_lines, item3_lines}
use Rattle.streams.specs.ItemTexts.{rtcm_item}
use Rattle.rinex_read.specs.Files.{file_reads, items_read, list_by, rinex_list}
use Rattle.rinex_read.specs.Form3.{rinex3, rinex3_list}
use Rattle.rinex_read.specs.Forms.{rinex4}
use Rattle.rinex_read.specs.RoundTrip.{AreItems}
use Rattle.rinex_read.specs.declared.judged.HeaderFault.{HeaderFault}
use Rattle.rinex_read.specs.declared.judged.ItemRead.{ItemRead}
use Rattle.nav_files.specs.Files.{text_in}
use Rattle.nav_files.specs.Sends.{sends_text}
use Rattle.sent_captures.specs.Sendable.{is_ephemeris, sent_text}
use Rattle.sent_captures.specs.SentItems.{sent_items}
use Rattle.captures.specs.Captures.{Capture, accepted_head, accepted_line, capture_in, capture_of, capture_with, items, output_of, target_of}
use Rattle.captures.specs.declared.target.CaptureTo.{CaptureTo}
use Rattle.captures.specs.declared.target.CaptureTo.TheVariants.{Rinex, Rinex3, Rtcm, ToList, Count}
use Rattle.bridge_engine.specs.Job.{IsJob}
use Rattle.bridge_engine.specs.Meanings.{meaning_of}
use Rattle.bridge_engine.specs.declared.job.Job.{Job}
use Rattle.bridge_engine.specs.declared.job.Job.TheVariants.{SendRinex, SendRinex3}
use Rattle.nav_laws.specs.SentAgain.{AreRepeats, AreSentAgain, AreTurned, IsReceivedAgain, IsSentAgain, SameByType}
use Rattle.nav_laws.specs.SentCapture.{IsOfLines, IsStillReceived, sent_capture}
use Rattle.job_laws.specs.RoundTrip.{AreReceived, AreTwoRuns, IsOfEphemerides, IsOfItems, Sends, items_text}
use Rattle.job_laws.specs.Written.{IsWritten}
use Rattle.job_laws.proofs.CaptureTexts.{rinex_written, rinex3_written, rtcm_written}
use Rattle.job_laws.proofs.Jobs.{words_write}

-- what the crates below say
pub record Laws : Type 0 where
  pub one : (words : List (List ℕ)) (job other : Job) → IsJob words job → IsJob words other → job ≡ other
  pub whole : (bytes : List ℕ) → AreItems (list_by rinex4 bytes)
  pub whole3 : (bytes : List ℕ) → AreItems (list_by rinex3 bytes)
  pub head : (r : ℕ) (is : List NavItem) → lines_by false (sent_text r is) ≡ record { text = plain_head; long = false } ∷ sent_capture r is
  pub window : head_of plain_head ≡ Some (record { window = 7200; week = None })
  pub lost : (r : ℕ) (is : List NavItem) (lines : List Line) → All IsItem is → IsOfLines lines (sent_capture r is) → IsStillReceived (sent_capture r is) lines
      → items_in (periods_of r 7200 (parts_of 7200 lines)) ≡ sent_items r is
  pub reordered : (r : ℕ) (is : List NavItem) (lines : List Line) → All IsItem is → SameItems (line_items_of lines) (line_items_of (sent_capture r is))
      → NoneLate 7200 (line_items_of lines) → items_in (periods_of r 7200 (parts_of 7200 lines)) ≡ sent_items r is
  pub repeated : (r : ℕ) (is : List NavItem) (lines : List Line) → All IsItem is → AreRepeats lines (sent_capture r is) → IsReceivedAgain (sent_capture r is) lines
      → SameByType (items_in (periods_of r 7200 (parts_of 7200 lines))) (sent_items r is)
  pub repeats : (r : ℕ) (is : List NavItem) (lines : List Line) (part : Part) → All IsItem is → AreRepeats lines (sent_capture r is) → Contains (parts_of 7200 lines) part
      → (sent : Part) × Contains (parts_of 7200 (sent_capture r is)) sent × IsSentAgain part sent
  pub in_order : (r : ℕ) (is : List NavItem) (lines : List Line) → All IsItem is → AreSentAgain (parts_of 7200 lines) (parts_of 7200 (sent_capture r is))
      → (AreTurned (parts_of 7200 lines) → ⊥) → items_in (periods_of r 7200 (parts_of 7200 lines)) ≡ sent_items r is

some_some : {X : Type 0} (x y : X) → Some x ≡ Some y → x ≡ y
some_some x y e = cc

-- the text of the records of a file that is accepted
of_file : (r : ℕ) (reads : Result (List ItemRead) HeaderFault) → IsOk reads → text_in (sends_text r) reads ≡ sent_text r (items_read reads)
of_file r (Ok reads) ok = refl
of_file r (Err fault) ok = absurd (cc)

by_recursion : (is : List NavItem) → AreItems is → AllByRecursion IsItem is
by_recursion [] all = tt
by_recursion (x ∷ xs) all = (all.0, by_recursion xs all.1)

all_items : (is : List NavItem) → AreItems is → All IsItem is
all_items is all = All-from_recursion IsItem is (by_recursion is all)

-- what is written of a capture is the text of its items
of_output : (to : CaptureTo) (week : Option ℕ) (bytes : List ℕ) (c : Capture) → IsOfItems to → capture_of week bytes ≡ Some c
    → output_of (target_of to) week bytes ≡ items_text to (items c)
of_output (Rinex header) week bytes c of e = rinex_written week bytes c e header
of_output (Rinex3 header) week bytes c of e = rinex3_written week bytes c e header
of_output Rtcm week bytes c of e = rtcm_written week bytes c e
of_output ToList week bytes c of e = absurd of
of_output Count week bytes c of e = absurd of

of_items : (to : CaptureTo) → IsOfEphemerides to → IsOfItems to
of_items (Rinex header) of = absurd of
of_items (Rinex3 header) of = tt
of_items Rtcm of = tt
of_items ToList of = absurd of
of_items Count of = absurd of

-- an ionosphere has no record in RINEX 3, and no message
records_are : (is : List NavItem) → flat_map item3_lines is ≡ flat_map item3_lines (filter is_ephemeris is)
records_are [] = refl
records_are (Gps e ∷ is) = ap (λ l. item3_lines (Gps e) ++ l) (records_are is)
records_are (Gal e ∷ is) = ap (λ l. item3_lines (Gal e) ++ l) (records_are is)
records_are (Ion e ∷ is) = records_are is

messages_are : (is : List NavItem) → flat_map rtcm_item is ≡ flat_map rtcm_item (filter is_ephemeris is)
unfolding rtcm_item
messages_are [] = refl
messages_are (Gps e ∷ is) = ap (λ l. rtcm_item (Gps e) ++ l) (messages_are is)
messages_are (Gal e ∷ is) = ap (λ l. rtcm_item (Gal e) ++ l) (messages_are is)
messages_are (Ion e ∷ is) = messages_are is

same_text : (to : CaptureTo) (some other : List NavItem) → IsOfEphemerides to → filter is_ephemeris some ≡ filter is_ephemeris other
    → items_text to some ≡ items_text to other
same_text (Rinex header) some other of e = absurd of
same_text (Rinex3 header) some other of e =
    ap (λ (l : List (List ℕ)). text_of (header3_lines header ++ l)) (records_are some ∙ ap (flat_map item3_lines) e ∙ sym (records_are other))
same_text Rtcm some other of e = messages_are some ∙ ap (flat_map rtcm_item) e ∙ sym (messages_are other)
same_text ToList some other of e = absurd of
same_text Count some other of e = absurd of

module _ (laws : Laws) where
  -- what is written of a file that is sent
  written_is : (words : List (List ℕ)) (r : ℕ) (file text : List ℕ) (is : List NavItem) → Sends words r file is → IsWritten words file text
      → text ≡ sent_text r is
  written_is words r file text is (inl s) written =
      written.2 ∙ ap (λ (j : Job). (meaning_of j).whole.output file) (laws.one words written.0 (SendRinex r) written.1 s.0)
      ∙ of_file r (file_reads rinex4 file) s.1 ∙ ap (sent_text r) (sym s.2)
  written_is words r file text is (inr s) written =
      written.2 ∙ ap (λ (j : Job). (meaning_of j).whole.output file) (laws.one words written.0 (SendRinex3 r) written.1 s.0)
      ∙ of_file r (file_reads rinex3 file) s.1 ∙ ap (sent_text r) (sym s.2)

  whole_items : (words : List (List ℕ)) (r : ℕ) (file : List ℕ) (is : List NavItem) → Sends words r file is → All IsItem is
  whole_items words r file is (inl s) = subst (λ (l : List NavItem). All IsItem l) (sym s.2) (all_items (rinex_list file) (laws.whole file))
  whole_items words r file is (inr s) = subst (λ (l : List NavItem). All IsItem l) (sym s.2) (all_items (rinex3_list file) (laws.whole3 file))

  -- it is a capture
  first_accepted : (r : ℕ) (lines : List Line)
      → capture_in (Some r) (record { text = plain_head; long = false } ∷ lines) ≡ Some (record { window = 7200; week = r; lines = lines })
  unfolding accepted_line
  first_accepted r lines = ap (λ (h : Option CaptureHead). capture_with lines (accepted_head (Some r) h)) laws.window

  pub sent_is_capture : (words : List (List ℕ)) (r : ℕ) (file text : List ℕ) (is : List NavItem) → Sends words r file is → IsWritten words file text
      → capture_of (Some r) text ≡ Some (record { window = 7200; week = r; lines = sent_capture r is })
  sent_is_capture words r file text is sends written =
      ap (capture_of (Some r)) (written_is words r file text is sends written) ∙ ap (capture_in (Some r)) (laws.head r is)
      ∙ first_accepted r (sent_capture r is)

  module _ (r : ℕ) (to : CaptureTo) (is : List NavItem) (sent received : Capture) (text : List ℕ) (runs : AreTwoRuns r to is sent received text) where
    sent_lines : sent.lines ≡ sent_capture r is
    sent_lines =
        ap (λ (c : Capture). c.lines) (some_some sent (record { window = 7200; week = r; lines = sent_capture r is })
        (sym runs.sent_read ∙ sent_is_capture runs.words r runs.file runs.sent_bytes is runs.sends runs.sent_is))

    all : All IsItem is
    all = whole_items runs.words r runs.file is runs.sends

    -- the items of the received lines
    abbrev back : List NavItem
    back = items_in (periods_of r 7200 (parts_of 7200 received.lines))

    text_of_back : IsOfItems to → text ≡ items_text to back
    text_of_back of =
        words_write laws.one runs.others to runs.week runs.received_bytes text runs.converts runs.text_is
        ∙ of_output to runs.week runs.received_bytes received of runs.received_read
        ∙ (λ i. items_text to (items_in (periods_of (runs.same_week i) (runs.same_window i) (parts_of (runs.same_window i) received.lines))))

    pub as_received : IsOfItems to → AreReceived sent.lines received.lines → text ≡ items_text to (sent_items r is)
    as_received of how =
        let moved : AreReceived (sent_capture r is) received.lines = subst (λ (l : List Line). AreReceived l received.lines) sent_lines how in
        let same : back ≡ sent_items r is = elim moved [
          | inl some ↦ laws.lost r is received.lines all some.0 some.1
          | inr others ↦ laws.reordered r is received.lines all others.0 others.1
        ] in
        text_of_back of ∙ ap (items_text to) same

    module _ (repeats : AreRepeats received.lines sent.lines) (heard : IsReceivedAgain sent.lines received.lines) where
      same_back : SameByType back (sent_items r is)
      same_back =
          laws.repeated r is received.lines all (subst (λ (l : List Line). AreRepeats received.lines l) sent_lines repeats)
          (subst (λ (l : List Line). IsReceivedAgain l received.lines) sent_lines heard)

      pub as_repeated : IsOfItems to → (some : List NavItem) × SameByType some (sent_items r is) × (text ≡ items_text to some)
      as_repeated of = (back, same_back, text_of_back of)

      pub ephemerides_back : IsOfEphemerides to → text ≡ items_text to (sent_items r is)
      ephemerides_back of = text_of_back (of_items to of) ∙ same_text to back (sent_items r is) of same_back.ephemerides

      pub back_in_order : IsOfItems to → (AreTurned (parts_of 7200 received.lines) → ⊥) → text ≡ items_text to (sent_items r is)
      back_in_order of never =
          let repeats_it : AreRepeats received.lines (sent_capture r is) = subst (λ (l : List Line). AreRepeats received.lines l) sent_lines repeats in
          let again : AreSentAgain (parts_of 7200 received.lines) (parts_of 7200 (sent_capture r is)) = record {
            each = λ p i. laws.repeats r is received.lines p all repeats_it i;
            every = subst (λ (l : List Line). IsReceivedAgain l received.lines) sent_lines heard;
          } in
          text_of_back of ∙ ap (items_text to) (laws.in_order r is received.lines all again never)
