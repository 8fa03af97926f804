use Rattle.std.proofs.Common.{◌≡◌, List, sym, ap, subst, ◌∙◌}
use Rattle.capture_lines.specs.declared.item.LineItem.{LineItem}
use Rattle.periods.specs.PeriodLists.{ArePeriods, items_in}
use Rattle.periods.specs.declared.closed.Closed.{Closed}
use Rattle.capture_log.specs.Received.{IsPartReceived}
use Rattle.capture_log.specs.Log.{line_items_of}
use Rattle.rinex_read.specs.Files.{rinex_list}
use Rattle.captures.specs.declared.target.CaptureTo.TheVariants.{Rinex}
use Rattle.job_laws.specs.Converted.{ComeBack}
use Rattle.job_laws.proofs.Jobs.{words_header, words_week}
use Rattle.job_laws.proofs.laws.what_the_main_theorem_states_comes_back.Goals as goal

pub returns : goal.returns
returns c words week header bytes capture items periods job is stand are =
    let e = (c.captures_are_selected.ensures.capture week bytes capture).1 is in
    let lines : items ≡ line_items_of capture.lines = (c.captures_are_selected.ensures.items capture.lines items).0 stand in
    let own = subst (λ (l : List LineItem). ArePeriods capture.week capture.window (IsPartReceived capture.window l) periods) lines are in
    let converted = c.converted_captures_come_back.ensures.rinex week header bytes capture (words_week words (Rinex header) week job) (words_header words header week job) e in
    let same : converted.periods ≡ periods =
    c.lines_yield_what_is_received.ensures.only capture.week capture.window capture.lines converted.periods periods converted.are own in
    subst (λ (cs : List Closed). ComeBack header (items_in cs)) same (record {
      back = ap rinex_list (sym converted.text_is) ∙ converted.back;
      messages = converted.messages;
    })
