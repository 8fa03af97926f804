-- The log of one more line, and how many parts lines yield.
use Rattle.std.proofs.Common.{◌≡◌, ℕ, ◌+◌, ◌*◌, ◌≤◌, Bool, true, false, List, [], ◌∷◌, ◌++◌, length, refl, sym, ap, ◌∙◌, arith, append_assoc, append-nil, length-append}
use Rattle.std.specs.Prelude.{nat_lt, if◌then◌else◌, Option, None, Some, Result, Ok, Err}
use Rattle.std.specs.List.{flat_map, sum_by}
use Rattle.std.proofs.Math.Nat.{add-mul, mul-add}
use Rattle.std.proofs.lemmas.Grind.{flat_map-append}
use Rattle.std.proofs.lemmas.List.{length-map, map-append}
use Rattle.std.proofs.lemmas.List.Sums.{sum-map, sum_by-append}
use Rattle.nav_eph.specs.declared.part.Part.{Part}
use Rattle.nav_io.specs.Lines.{Line}
use Rattle.inav.specs.Pages.{kind_of}
use Rattle.lnav_subframe.specs.Reading.{subframe_of}
use Rattle.inav.specs.Received.{StampedHalf, stamp_by, are_partners, partners_of, put_half, words_of, word_with, has_half}
use Rattle.inav.specs.Reading.{reading_of}
use Rattle.inav.specs.declared.parts.WordParts.{WordParts}
use Rattle.inav.specs.declared.word_fault.WordFault.{WordFault}
use Rattle.nav_eph.specs.Satellite.{Satellite}
use Rattle.framing.specs.State.{payload_of}
use Rattle.rtcm_eph.specs.Reading.{content_of, parts_of as message_parts}
use Rattle.rtcm_eph.specs.declared.fault.MessageFault.{MessageFault}
use Rattle.rtcm_eph.specs.declared.read.MessageParts.{MessageParts}
use Rattle.rtcm_eph.specs.declared.read.MessageParts.TheVariants.{Gps as GpsParts, Gal as GalParts}
use Rattle.capture_lines.specs.declared.item.LineItem.{LineItem}
use Rattle.capture_lines.specs.declared.item.LineItem.TheVariants.{Pass, Lnav, Half, Frame, Malformed as MalformedItem}
use Rattle.capture_log.specs.declared.event.EventFault.TheVariants as refusals
use Rattle.capture_log.specs.Events.{is_frame, Known, nothing_known, events_of, known_with, item_line, is_late, is_alert, half_of, of_word, of_second, of_frame, of_half, of_words, new_words, with_half, of_message, of_subframe}
use Rattle.capture_log.specs.Log.{Noted, noted, line_items_of, known_from, log_from, log_of, parts_in, parts_of, parts_of_event}
use Rattle.capture_log.specs.declared.event.Event.{Event}
use Rattle.capture_log.specs.declared.event.Event.TheVariants.{Received, Malformed, Late, Refused, Unused}
use Rattle.captures.specs.declared.counts.EventCounts.{EventCounts}
use Rattle.captures.specs.Notes.{line_report, tallied}
use Rattle.captures.specs.Reports.{count_in, is_malformed, is_late as is_late_event, is_refused_event, is_unused}

-- ---- one more line

known_more : (window : ℕ) (known : Known) (items : List LineItem) (item : LineItem) → known_from window known (items ++ item ∷ []) ≡ known_with window (known_from window known items) item
known_more window known [] item = refl
known_more window known (x ∷ items) item = known_more window (known_with window known x) items item

after_one : (n m k : ℕ) (items : List LineItem) (item : LineItem) → m ≡ n + length (item ∷ items) → m ≡ (n + 1) + length items
after_one n m k items item e = omega (arith, e)

log_append : (window : ℕ) (known : Known) (n m : ℕ) (items more : List LineItem) → m ≡ n + length items
    → log_from window known n (items ++ more) ≡ log_from window known n items ++ log_from window (known_from window known items) m more
log_append window known n m [] more e = ap (λ (k : ℕ). log_from window known k more) (omega (arith, e))
log_append window known n m (x ∷ items) more e =
    ap (λ (l : List Noted). noted n (events_of window known x) ++ l) (log_append window (known_with window known x) (n + 1) m items more (after_one n m 0 items x e))
    ∙ sym (append_assoc (noted n (events_of window known x)) (log_from window (known_with window known x) (n + 1) items)
    (log_from window (known_from window (known_with window known x) items) m more))

-- what is known of the lines
abbrev pub known_of : ℕ → List Line → Known
known_of window lines = known_from window nothing_known (line_items_of lines)

pub known_line : (window : ℕ) (lines : List Line) (line : Line) → known_of window (lines ++ line ∷ []) ≡ known_with window (known_of window lines) (item_line line)
known_line window lines line = ap (known_from window nothing_known) (map-append item_line lines (line ∷ [])) ∙ known_more window nothing_known (line_items_of lines) (item_line line)

-- the log of lines begins with that of the first of them
pub log_more : (window : ℕ) (lines more : List Line)
    → log_of window (lines ++ more) ≡ log_of window lines ++ log_from window (known_of window lines) (2 + length lines) (line_items_of more)
log_more window lines more =
    ap (log_from window nothing_known 2) (map-append item_line lines more)
    ∙ log_append window nothing_known 2 (2 + length lines) (line_items_of lines) (line_items_of more) (omega (arith, length-map lines item_line))

-- one more line is the next one
pub log_line : (window m : ℕ) (lines : List Line) (line : Line) → m ≡ 2 + length lines
    → log_of window (lines ++ line ∷ []) ≡ log_of window lines ++ noted m (events_of window (known_of window lines) (item_line line))
log_line window m lines line e =
    log_more window lines (line ∷ [])
    ∙ ap (λ (k : ℕ). log_of window lines ++ log_from window (known_of window lines) k (item_line line ∷ [])) (sym e)
    ∙ ap (λ (l : List Noted). log_of window lines ++ l) (append-nil (noted m (events_of window (known_of window lines) (item_line line))))

-- ---- parts, reports and counts of concatenated logs

pub parts_append : (log more : List Noted) → parts_in (log ++ more) ≡ parts_in log ++ parts_in more
parts_append log more = flat_map-append (λ (n : Noted). parts_of_event n.event) log more

pub report_append : (log more : List Noted) → line_report (log ++ more) ≡ line_report log ++ line_report more
report_append log more = flat_map-append _ log more

count_append : (kind : Event → ℕ) (log more : List Noted) → count_in kind (log ++ more) ≡ count_in kind log + count_in kind more
count_append kind log more =
    sum-map (λ (n : Noted). kind n.event) (log ++ more) ∙ sum_by-append (λ (n : Noted). kind n.event) log more
    ∙ ap (λ k. k + sum_by (λ (n : Noted). kind n.event) more) (sym (sum-map (λ (n : Noted). kind n.event) log))
    ∙ ap (λ k. count_in kind log + k) (sym (sum-map (λ (n : Noted). kind n.event) more))

abbrev tally_by : ℕ → ℕ → ℕ → ℕ → EventCounts
tally_by a b c d = record { malformed = a; late = b; refused = c; unused = d }

same_tally : (a b c d e f g h : ℕ) → a ≡ e → b ≡ f → c ≡ g → d ≡ h → tally_by a b c d ≡ tally_by e f g h
same_tally a b c d e f g h p q r s = rw (p, q, r, s) refl

add_count : (t k l n : ℕ) → n ≡ k + l → t + n ≡ (t + k) + l
add_count t k l n e = omega (arith, e)

pub tally_append : (t : EventCounts) (log more : List Noted) → tallied t (log ++ more) ≡ tallied (tallied t log) more
tally_append t log more =
    same_tally _ _ _ _ _ _ _ _ (add_count t.malformed _ _ _ (count_append is_malformed log more)) (add_count t.late _ _ _ (count_append is_late_event log more))
    (add_count t.refused _ _ _ (count_append is_refused_event log more)) (add_count t.unused _ _ _ (count_append is_unused log more))

-- ---- how many parts

event_parts : (e : Event) → length (parts_of_event e) ≤ 1
event_parts (Received part) = omega arith
event_parts Malformed = omega arith
event_parts Late = omega arith
event_parts (Refused refusal) = omega arith
event_parts Unused = omega arith

noted_parts : (n : ℕ) (es : List Event) → length (parts_in (noted n es)) ≤ length es
noted_parts n [] = omega arith
noted_parts n (e ∷ es) = omega (arith, noted_parts n es, event_parts e, length-append (parts_of_event e) (parts_in (noted n es)))

if_one : (b : Bool) (x : Event) (ys : List Event) (n : ℕ) → 1 ≤ n → length ys ≤ n → length (if b then x ∷ [] else ys) ≤ n
if_one true x ys n k l = omega (arith, k)
if_one false x ys n k l = l

if_last : (b : Bool) (xs : List Event) (y : Event) (n : ℕ) → length xs ≤ n → 1 ≤ n → length (if b then xs else y ∷ []) ≤ n
if_last true xs y n k l = k
if_last false xs y n k l = omega (arith, l)

second_few : (o : Option Part) → length (of_second o) ≤ 1
second_few None = omega arith
second_few (Some part) = omega arith

word_few : (r : Result WordParts WordFault) → length (of_word r) ≤ 2
word_few (Ok parts) = omega (arith, second_few parts.second)
word_few (Err fault) = omega arith

words_few : (sat : Satellite) (stamp : ℕ) (words : List (List ℕ)) → length (flat_map (λ (word : List ℕ). of_word (reading_of word sat stamp)) words) ≤ 2 * length words
words_few sat stamp [] = omega arith
words_few sat stamp (w ∷ words) =
    omega (
      arith,
      words_few sat stamp words,
      word_few (reading_of w sat stamp),
      length-append (of_word (reading_of w sat stamp)) (flat_map (λ (word : List ℕ). of_word (reading_of word sat stamp)) words),
    )

message_few : (r : Result MessageParts MessageFault) → length (of_message r) ≤ 5
message_few (Ok (GpsParts clock a b)) = omega arith
message_few (Ok (GalParts w1 w2 w3 w4 health)) = omega arith
message_few (Err fault) = omega arith

frame_few : (stamp : ℕ) (bytes : List ℕ) → length (of_frame stamp bytes) ≤ 5
unfolding of_frame
frame_few stamp bytes =
    let reading = message_parts stamp (content_of (payload_of bytes)) in
    if_last (is_frame bytes) (of_message reading) (Refused refusals.Frame) 5 (message_few reading) (omega arith)

if_half : (b : Bool) (xs ys : List StampedHalf) (n : ℕ) → length xs ≤ n → length ys ≤ n → length (if b then xs else ys) ≤ n
if_half true xs ys n k l = k
if_half false xs ys n k l = l

one_more : (x : StampedHalf) (xs : List StampedHalf) (n : ℕ) → length xs + 1 ≤ n → length (x ∷ xs) ≤ n
one_more x xs n l = omega (arith, l)

if_word : (b : Bool) (ys : List (List ℕ)) (n : ℕ) → length ys ≤ n → length (if b then [] else ys) ≤ n
if_word true ys n l = omega arith
if_word false ys n l = l

put_few : (half : StampedHalf) (xs : List StampedHalf) → length (put_half half xs) ≤ length xs + 1
unfolding put_half
put_few half [] = omega arith
put_few half (x ∷ xs) =
    let n = length (x ∷ xs) + 1 in
    let later : List StampedHalf = if nat_lt x.half half.half then x ∷ put_half half xs else x ∷ xs in
    if_half (nat_lt half.half x.half) (half ∷ x ∷ xs) later n (one_more half (x ∷ xs) n (omega arith))
    (if_half (nat_lt x.half half.half) (x ∷ put_half half xs) (x ∷ xs) n (one_more x (put_half half xs) n (omega (arith, put_few half xs))) (one_more x xs n (omega arith)))

partners_few : (xs : List StampedHalf) (half : StampedHalf) → length (partners_of xs half) ≤ length xs
unfolding partners_of
partners_few [] half = omega arith
partners_few (x ∷ xs) half =
    let before = partners_few xs half in
    let n = length (x ∷ xs) in
    let put : length (put_half x (partners_of xs half)) ≤ n = omega (arith, put_few x (partners_of xs half), before) in
    let same : length (partners_of xs half) ≤ n = omega (arith, before) in
    if_half (are_partners half x) (put_half x (partners_of xs half)) (partners_of xs half) n put same

new_few : (before : List StampedHalf) (half : StampedHalf) → length (new_words before half) ≤ length before
unfolding words_of
new_few before half =
    let all : length (words_of before half) ≤ length before = omega (arith, length-map (partners_of before half) (word_with half), partners_few before half) in
    if_word (has_half before half) (words_of before half) (length before) all

half_few : (before : List StampedHalf) (half : StampedHalf) → length (of_words half (new_words before half)) ≤ 2 * length before + 5
half_few before half =
    let stamp = stamp_by (kind_of half.half) half.stamp in
    omega (arith, words_few half.sat stamp (new_words before half), new_few before half)

events_few : (window : ℕ) (known : Known) (item : LineItem) → length (events_of window known item) ≤ 2 * length known.halves + 5
unfolding events_of
events_few window known Pass = omega arith
events_few window known MalformedItem = omega arith
events_few window known (Lnav stamp sat bits) =
    let n = 2 * length known.halves + 5 in
    let one : 1 ≤ n = omega arith in
    if_one (is_late window known stamp) Late (of_subframe (subframe_of bits sat stamp) ∷ []) n one one
events_few window known (Half stamp sat signal bits) =
    let n = 2 * length known.halves + 5 in
    let one : 1 ≤ n = omega arith in
    let half = half_of stamp sat signal bits in
    if_one (is_late window known stamp) Late (of_half known.halves stamp sat signal bits) n one
    (if_one (is_alert bits) Unused (of_words half (new_words known.halves half)) n one (half_few known.halves half))
events_few window known (Frame stamp bytes) =
    let n = 2 * length known.halves + 5 in
    let one : 1 ≤ n = omega arith in
    let few : length (of_frame stamp bytes.items) ≤ n = omega (arith, frame_few stamp bytes.items) in
    if_one (is_late window known stamp) Late (of_frame stamp bytes.items) n one few

halves_few : (window : ℕ) (known : Known) (item : LineItem) → length (known_with window known item).halves ≤ length known.halves + 1
unfolding known_with
halves_few window known Pass = omega arith
halves_few window known MalformedItem = omega arith
halves_few window known (Lnav stamp sat bits) = omega arith
halves_few window known (Frame stamp bytes) = omega arith
halves_few window known (Half stamp sat signal bits) =
    let half = half_of stamp sat signal bits in
    let n = length known.halves + 1 in
    let same : length known.halves ≤ n = omega arith in
    if_half (is_late window known stamp) known.halves (if is_alert bits then known.halves else with_half known.halves half) n same
    (if_half (is_alert bits) known.halves (with_half known.halves half) n same
    (if_half (has_half known.halves half) known.halves (half ∷ known.halves) n same (one_more half known.halves n (omega arith))))

-- ---- bounds by the number of lines

product_next : (n x : ℕ) → (n + 1) * (x + 1) ≡ n * x + n + x + 1
product_next n x = omega (arith, add-mul n 1 (x + 1), mul-add n x 1)

-- one more line in a product of their number and that and some more
pub square_next : (n k m : ℕ) → m ≡ n + 1 → m * (m + k) ≡ n * (n + k) + 2 * n + k + 1
square_next n k m e =
    ap (λ (j : ℕ). j * (j + k)) e ∙ ap (λ (j : ℕ). (n + 1) * j) (shift n k) ∙ product_next n (n + k) ∙ sum_next (n * (n + k)) n k
  where
    shift : (n k : ℕ) → (n + 1) + k ≡ (n + k) + 1
    shift n k = omega arith

    sum_next : (p n k : ℕ) → p + n + (n + k) + 1 ≡ p + 2 * n + k + 1
    sum_next p n k = omega arith

-- one more line: its parts, and the page parts that are known
pub parts_line : (window : ℕ) (lines : List Line) (line : Line) → length (known_of window lines).halves ≤ length lines
    → length (parts_of window lines) ≤ length lines * (length lines + 4)
    → length (parts_of window (lines ++ line ∷ [])) ≤ length (lines ++ line ∷ []) * (length (lines ++ line ∷ []) + 4)
parts_line window lines line known few =
    let known_now = known_of window lines in
    let es = events_of window known_now (item_line line) in
    let all = ap (λ (l : List Noted). length (parts_in l)) (log_line window (2 + length lines) lines line refl) in
    let both = ap length (parts_append (log_of window lines) (noted (2 + length lines) es)) in
    let size = length-append lines (line ∷ []) in
    omega (
      arith,
      all,
      both,
      length-append (parts_of window lines) (parts_in (noted (2 + length lines) es)),
      noted_parts (2 + length lines) es,
      events_few window known_now (item_line line),
      known,
      few,
      square_next (length lines) 4 (length (lines ++ line ∷ [])) (omega (arith, size)),
    )

pub halves_line : (window : ℕ) (lines : List Line) (line : Line) → length (known_of window lines).halves ≤ length lines
    → length (known_of window (lines ++ line ∷ [])).halves ≤ length (lines ++ line ∷ [])
halves_line window lines line known =
    omega (arith, ap (λ (k : Known). length k.halves) (known_line window lines line), halves_few window (known_of window lines) (item_line line), known, length-append lines (line ∷ []))
