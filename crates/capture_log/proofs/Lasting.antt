-- Further lines: the log goes on, and what is closed stays.
use Rattle.std.proofs.Common.{◌≡◌, ℕ, suc, ◌+◌, ◌^◌, ◌<◌, ◌≤◌, List, [], ◌∷◌, ◌++◌, length, All}
use Rattle.std.proofs.Common.{Some, refl, sym, ap, subst, ◌∙◌, append_assoc, arith}
use Rattle.std.proofs.lemmas.Bool.{cond_both}
use Rattle.std.proofs.lemmas.List.{map-append, length-map}
use Rattle.std.proofs.lemmas.List.Concat.{flat_map-append}
use Rattle.std.proofs.lemmas.List.Elements.{All-map}
use Rattle.nav_io.specs.Lines.{Line}
use Rattle.nav_eph.specs.Values.{IsPartValue}
use Rattle.nav_eph.specs.declared.part.Part.{Part}
use Rattle.periods.specs.PeriodLists.{IsPeriodPrefix}
use Rattle.periods.specs.PeriodsOf.{periods_of, closed_of}
use Rattle.capture_lines.specs.Late.{stamp_of}
use Rattle.capture_lines.specs.Reading.{item_of}
use Rattle.capture_lines.specs.declared.item.LineItem.{LineItem}
use Rattle.capture_lines.specs.declared.item.LineItem.TheVariants.{Malformed as MalformedItem}
use Rattle.capture_log.specs.Events.{Known, nothing_known, item_line, known_with, events_of}
use Rattle.capture_log.specs.Log.{noted, line_items_of, known_from, log_from, log_of, watermark_after}
use Rattle.capture_log.specs.Log.{parts_of_event, parts_in, parts_of}
use Rattle.capture_log.proofs.Lists.{all_in}
use Rattle.capture_log.proofs.ReceivedValues.{StampsFit}
use Rattle.capture_log.proofs.LaterParts.{ReadsStamps, greatest_from, log_later}

-- ---- further items

pub known_append : (w : ℕ) (known : Known) (items more : List LineItem)
    → known_from w known (items ++ more) ≡ known_from w (known_from w known items) more
known_append w known [] more = refl
known_append w known (item ∷ items) more = known_append w (known_with w known item) items more

pub log_append : (w : ℕ) (known : Known) (number : ℕ) (items more : List LineItem)
    → log_from w known number (items ++ more) ≡ log_from w known number items ++ log_from w (known_from w known items) (number + length items) more
log_append w known number [] more = let same : number ≡ number + 0 = omega arith in ap (λ n. log_from w known n more) same
log_append w known number (item ∷ items) more =
    let first = noted number (events_of w known item) in
    let then = known_with w known item in
    let rest = log_from w then (number + 1) items in
    let same : number + 1 + length items ≡ number + suc (length items) = omega arith in
    ap (λ l. first ++ l) (log_append w then (number + 1) items more)
    ∙ ap (λ n. first ++ (rest ++ log_from w (known_from w then items) n more)) same
    ∙ sym (append_assoc first rest (log_from w (known_from w then items) (number + suc (length items)) more))

-- ---- further lines

-- what further lines give
abbrev pub later_of : ℕ → List Line → List Line → List Part
later_of w lines more =
    parts_in (log_from w (known_from w nothing_known (line_items_of lines)) (2 + length (line_items_of lines)) (line_items_of more))

pub parts_append : (w : ℕ) (lines more : List Line)
    → parts_of w (lines ++ more) ≡ parts_of w lines ++ later_of w lines more
parts_append w lines more =
    ap (λ items. parts_in (log_from w nothing_known 2 items)) (map-append item_line lines more)
    ∙ ap parts_in (log_append w nothing_known 2 (line_items_of lines) (line_items_of more))
    ∙ flat_map-append (λ n. parts_of_event n.event) (log_of w lines)
    (log_from w (known_from w nothing_known (line_items_of lines)) (2 + length (line_items_of lines)) (line_items_of more))

pub later_from_watermark : (laws : ReadsStamps) (w : ℕ) (lines more : List Line)
    → All (λ p. watermark_after w lines ≤ p.stamp) (later_of w lines more)
later_from_watermark laws w lines more =
    all_in (λ p. watermark_after w lines ≤ p.stamp) (later_of w lines more)
    (λ part h. log_later laws w (known_from w nothing_known (line_items_of lines)) (2 + length (line_items_of lines)) (line_items_of more) part h)

pub watermark_rises : (w : ℕ) (lines more : List Line)
    → watermark_after w lines ≤ watermark_after w (lines ++ more)
watermark_rises w lines more =
    let then = known_from w nothing_known (line_items_of lines) in
    let up : then.greatest ≤ (known_from w then (line_items_of more)).greatest = greatest_from w then (line_items_of more) in
    let same : (known_from w nothing_known (line_items_of (lines ++ more))).greatest ≡ (known_from w then (line_items_of more)).greatest =
    ap (λ items. (known_from w nothing_known items).greatest) (map-append item_line lines more)
    ∙ ap (λ known. known.greatest) (known_append w nothing_known (line_items_of lines) (line_items_of more)) in
    omega (arith, up, same)

-- the log and the state go on
pub lines_log : (w : ℕ) (lines more : List Line)
    → log_of w (lines ++ more) ≡ log_of w lines ++ log_from w (known_from w nothing_known (line_items_of lines)) (2 + length lines) (line_items_of more)
lines_log w lines more =
    let then = known_from w nothing_known (line_items_of lines) in
    ap (log_from w nothing_known 2) (map-append item_line lines more)
    ∙ log_append w nothing_known 2 (line_items_of lines) (line_items_of more)
    ∙ ap (λ n. log_of w lines ++ log_from w then (2 + n) (line_items_of more)) (length-map lines item_line)

pub lines_known : (w : ℕ) (lines more : List Line)
    → known_from w nothing_known (line_items_of (lines ++ more)) ≡ known_from w (known_from w nothing_known (line_items_of lines)) (line_items_of more)
lines_known w lines more =
    ap (known_from w nothing_known) (map-append item_line lines more) ∙ known_append w nothing_known (line_items_of lines) (line_items_of more)

-- ---- the stamps of lines

line_fits : (fits : (line : List ℕ) (stamp : ℕ) → stamp_of (item_of line) ≡ Some stamp → stamp < 2 ^ 32) (line : Line) (s : ℕ)
    → stamp_of (item_line line) ≡ Some s → s < 2 ^ 32
line_fits fits line s =
    cond_both line.long MalformedItem (item_of line.text) (λ item. stamp_of item ≡ Some s → s < 2 ^ 32)
    (λ long e. cc)
    (λ short e. fits line.text s e)

pub lines_fit : (fits : (line : List ℕ) (stamp : ℕ) → stamp_of (item_of line) ≡ Some stamp → stamp < 2 ^ 32) (lines : List Line)
    → StampsFit (line_items_of lines)
lines_fit fits lines =
    let Fits : LineItem → Type 0 = λ item. (s : ℕ) → stamp_of item ≡ Some s → s < 2 ^ 32 in
    All-map Fits item_line lines (all_in (λ line. Fits (item_line line)) lines (λ line h. line_fits fits line))

-- ---- what is closed

-- facts about parts and further lines
pub record Lasts : Type 0 where
  pub values : (w : ℕ) (lines : List Line) → All IsPartValue (parts_of w lines)
  pub further : (w : ℕ) (lines more : List Line)
      → (later : List Part) × (parts_of w (lines ++ more) ≡ parts_of w lines ++ later)
      × All (λ p. watermark_after w lines ≤ p.stamp) later
  pub later : (r w watermark : ℕ) (parts later : List Part) → All IsPartValue (parts ++ later)
      → All (λ p. watermark ≤ p.stamp) later
      → closed_of r w watermark (parts ++ later) ≡ closed_of r w watermark parts
  pub rise : (r w watermark higher : ℕ) (parts : List Part) → watermark ≤ higher
      → IsPeriodPrefix (closed_of r w watermark parts) (closed_of r w higher parts)
  pub prefix : (r w watermark : ℕ) (parts : List Part)
      → IsPeriodPrefix (closed_of r w watermark parts) (periods_of r w parts)

module _ (laws : Lasts) (r w : ℕ) (lines more : List Line) where
  pub closed_later : closed_of r w (watermark_after w lines) (parts_of w (lines ++ more)) ≡ closed_of r w (watermark_after w lines) (parts_of w lines)
  closed_later =
      let further = laws.further w lines more in
      let parts = parts_of w lines in
      let values : All IsPartValue (parts ++ further.0) = subst (All IsPartValue) further.1 (laws.values w (lines ++ more)) in
      ap (closed_of r w (watermark_after w lines)) further.1 ∙ laws.later r w (watermark_after w lines) parts further.0 values further.2

  pub closed_rise : IsPeriodPrefix (closed_of r w (watermark_after w lines) (parts_of w lines))
      (closed_of r w (watermark_after w (lines ++ more)) (parts_of w (lines ++ more)))
  closed_rise =
      let all = parts_of w (lines ++ more) in
      let high = watermark_after w (lines ++ more) in
      subst (λ cs. IsPeriodPrefix cs (closed_of r w high all)) closed_later
      (laws.rise r w (watermark_after w lines) high all (watermark_rises w lines more))

  pub closed_prefix : IsPeriodPrefix (closed_of r w (watermark_after w lines) (parts_of w lines)) (periods_of r w (parts_of w (lines ++ more)))
  closed_prefix =
      let all = parts_of w (lines ++ more) in
      subst (λ cs. IsPeriodPrefix cs (periods_of r w all)) closed_later (laws.prefix r w (watermark_after w lines) all)
