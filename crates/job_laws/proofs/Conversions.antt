-- What is written of a capture comes back.
use Rattle.std.proofs.Common.{◌≡◌, ℕ, ◌↔◌, List, ap, ◌∙◌}
use Rattle.std.specs.Prelude.{Option, Some, IfSome, All}
use Rattle.nav_eph.specs.Weeks.{IsReference}
use Rattle.nav_io.specs.Lines.{Line}
use Rattle.nav_eph.specs.Ranges.{IsItem}
use Rattle.nav_eph.specs.declared.items.NavItem.{NavItem}
use Rattle.periods.specs.PeriodLists.{ArePeriods, items_in}
use Rattle.periods.specs.PeriodsOf.{periods_of}
use Rattle.periods.specs.declared.closed.Closed.{Closed}
use Rattle.capture_lines.specs.Heads.{IsHead, head_of}
use Rattle.capture_lines.specs.declared.head.CaptureHead.{CaptureHead}
use Rattle.capture_log.specs.Received.{IsPartReceived}
use Rattle.capture_log.specs.Log.{line_items_of, parts_of}
use Rattle.rinex_write.specs.Texts.{IsHeader, rinex_text}
use Rattle.rinex_write.specs.Texts3.{ephemerides, rinex3_text}
use Rattle.rinex_write.specs.declared.words.HeaderWords.{HeaderWords}
use Rattle.rinex_read.specs.Files.{rinex_list}
use Rattle.rinex_read.specs.Form3.{rinex3_list}
use Rattle.rinex_read.specs.RoundTrip.{AreItems}
use Rattle.framing.specs.Frames.{frames}
use Rattle.streams.specs.declared.target.Target.TheVariants.{Rinex, Rinex3, Rtcm}
use Rattle.captures.specs.Captures.{Capture, capture_of, items, output_of, periods}
use Rattle.job_laws.specs.Converted.{ArePeriodsReceived, IsConverted, IsConverted3, IsFramed}
use Rattle.job_laws.proofs.CaptureTexts.{rinex_written, rinex3_written, rtcm_written}
use Rattle.job_laws.proofs.Messages.{MessageLaws, are_items, framed, items_sent}
use Rattle.job_laws.proofs.References.{capture_reference}

-- what the crates below say
pub record Laws : Type 0 where
  pub heard : (r window : ℕ) (lines : List Line)
      → ArePeriods r window (IsPartReceived window (line_items_of lines)) (periods_of r window (parts_of window lines))
  pub whole : (r window : ℕ) (lines : List Line) (ps : List Closed) → IsReference r
      → ArePeriods r window (IsPartReceived window (line_items_of lines)) ps → All IsItem (items_in ps)
  pub head : (line : List ℕ) (head : CaptureHead) → (head_of line ≡ Some head) ↔ IsHead head line
  pub messages : MessageLaws
  pub back : (h : HeaderWords) (is : List NavItem) → IsHeader h → AreItems is → rinex_list (rinex_text h is) ≡ is
  pub back3 : (h : HeaderWords) (is : List NavItem) → IsHeader h → AreItems is → rinex3_list (rinex3_text h is) ≡ ephemerides is

module _ (laws : Laws) (week : Option ℕ) (bytes : List ℕ) (c : Capture) (own : IfSome week IsReference)
    (e : capture_of week bytes ≡ Some c) where
  are : ArePeriodsReceived c (periods c)
  are = laws.heard c.week c.window c.lines

  whole : All IsItem (items c)
  whole = laws.whole c.week c.window c.lines (periods c) (capture_reference laws.head week bytes c own e) are

  pub converted : (header : HeaderWords) → IsHeader header → IsConverted c header (output_of (Rinex header) week bytes)
  converted header is =
      let text = rinex_written week bytes c e header in
      record {
        periods = periods c;
        are = are;
        text_is = text;
        back = ap rinex_list text ∙ laws.back header (items c) is (are_items (items c) whole);
        messages = items_sent laws.messages (items c) whole;
      }

  pub converted3 : (header : HeaderWords) → IsHeader header → IsConverted3 c header (output_of (Rinex3 header) week bytes)
  converted3 header is =
      let text = rinex3_written week bytes c e header in
      record {
        periods = periods c;
        are = are;
        text_is = text;
        back = ap rinex3_list text ∙ laws.back3 header (items c) is (are_items (items c) whole);
      }

  pub in_frames : IsFramed c (output_of Rtcm week bytes)
  in_frames =
      let text = rtcm_written week bytes c e in
      record {
        periods = periods c;
        are = are;
        text_is = text;
        frames_are = ap frames text ∙ framed laws.messages (items c);
        messages = items_sent laws.messages (items c) whole;
      }
