-- The first line and the head read from it: a line is read as a head exactly where it is a spelling of it.
use Rattle.std.proofs.Common.{◌≡◌, ℕ, ◌+◌, ◌≤◌, ◌==◌, ◌&&◌, nat_eq, nat_le, Bool, true, false, List, [], ◌∷◌, ◌++◌, length, take, drop, Option, Some, None, cond, refl, sym, ap, subst, ◌∙◌, arith}
use Rattle.std.proofs.lemmas.Bool.{eqb-true}
use Rattle.std.proofs.lemmas.List.{take-append-drop}
use Rattle.std.proofs.lemmas.Slice.Eq.{bytes_eq-Decides}
use Rattle.std.proofs.Math.Seq.{take-append_seam, drop-append_seam}
use borrow.Author.Tests.{eq-eqb, leb-true}
use Rattle.std.specs.Prelude.{codes, ◌↔◌, IsSome, IfSome}
use Rattle.std.specs.List.{starts_with}
use Rattle.std.specs.Char.{is_ascii_digit}
use Rattle.std.specs.Str.{bytes_eq}
use Rattle.std.specs.Str.Parse.{AllDigits}
use Rattle.nav_eph.specs.Weeks.{IsReference}
use Rattle.capture_lines.specs.Heads.{IsWindow, plain_head, NamesWeek, Names, IsHead, digit_count, whole_number_in, number_behind, ranged, head_with, own_head, head_of}
use Rattle.capture_lines.specs.Reading.{number_in}
use Rattle.capture_lines.specs.Spellings.{IsNumberText}
use Rattle.capture_lines.specs.declared.head.CaptureHead.{CaptureHead}
use Rattle.capture_lines.proofs.Bodies.{begun}
use Rattle.capture_lines.proofs.NumberTexts.{digit_passes, passes_digit, digits_in_front, prefix_digits, number_of_text, text_of_number}

-- a text of digits only consists of the digits at its start
all_digits : (text : List ℕ) → AllDigits 10 text → digit_count text ≡ length text
all_digits [] all = refl
all_digits (x ∷ xs) all =
    let passes = digit_passes x all.0 in
    let ih = all_digits xs all.1 in
    rw (passes, ih) (omega arith)

-- and back
digits_alone : (text : List ℕ) → digit_count text ≡ length text → AllDigits 10 text
digits_alone [] h = tt
digits_alone (x ∷ xs) h = by (is_ascii_digit x) refl (λ e. digits_alone xs e) h
  where
    by : (b : Bool) → is_ascii_digit x ≡ b → (digit_count xs ≡ length xs → AllDigits 10 xs)
        → cond b (1 + digit_count xs) 0 ≡ length (x ∷ xs) → AllDigits 10 (x ∷ xs)
    by true e rest h = (passes_digit x e, rest (omega arith))
    by false e rest h = absurd (omega arith)

-- a text of a number is read as the number
whole_of_text : (n : ℕ) (text : List ℕ) → IsNumberText n text → whole_number_in text ≡ Some n
unfolding whole_number_in
whole_of_text n text h =
    let same = eq-eqb (digit_count text) (length text) (all_digits text h.numeral.1) in
    rw same (number_of_text n text h)

-- and back
text_of_whole : (n : ℕ) (text : List ℕ) → whole_number_in text ≡ Some n → IsNumberText n text
unfolding whole_number_in
text_of_whole n text read = by (digit_count text == length text) refl read
  where
    by : (b : Bool) → (digit_count text == length text) ≡ b → cond b (number_in text) None ≡ Some n → IsNumberText n text
    by true e h = text_of_number n text (digits_alone text (eqb-true (digit_count text) (length text) e)) h
    by false e h = cc h

-- a number read after a space is the number of the text there
text_behind : (n : ℕ) (rest : List ℕ) → number_behind rest ≡ Some n
    → (text : List ℕ) × (rest ≡ codes " " ++ text) × IsNumberText n text
unfolding number_behind
text_behind n [] read = cc read
text_behind n (c ∷ cs) read = by (c == 32) refl read
  where
    by : (b : Bool) → (c == 32) ≡ b → cond b (whole_number_in cs) None ≡ Some n
        → (text : List ℕ) × (c ∷ cs ≡ codes " " ++ text) × IsNumberText n text
    by true e h = (cs, ap (λ (x : ℕ). x ∷ cs) (eqb-true c 32 e), text_of_whole n cs h)
    by false e h = cc h

-- a week and a window in their ranges
in_ranges : (week window : ℕ) → IsReference week → IsWindow window
    → ranged week window ≡ Some (record { window = window; week = Some week })
unfolding ranged
in_ranges week window near wide =
    let week_low = near.0 in
    let week_high = near.1 in
    let window_low = wide.0 in
    let window_high = wide.1 in
    grind (arith)

-- and back
were_in_ranges : (week window : ℕ) (head : CaptureHead) → ranged week window ≡ Some head
    → (record { window = window; week = Some week } ≡ head) × IsReference week × IsWindow window
unfolding ranged
were_in_ranges week window head read =
    by (nat_le 1024 week) (nat_le week 8191) (nat_le 60 window) (nat_le window 14400) refl refl refl refl read
  where
    by : (a b c d : Bool) → nat_le 1024 week ≡ a → nat_le week 8191 ≡ b → nat_le 60 window ≡ c → nat_le window 14400 ≡ d
        → cond ((a && b) && (c && d)) (Some (record { window = window; week = Some week })) None ≡ Some head
        → (record { window = window; week = Some week } ≡ head) × IsReference week × IsWindow window
    by true true true true ea eb ec ed e = (
      cc e,
      (leb-true 1024 week ea, leb-true week 8191 eb),
      (leb-true 60 window ec, leb-true window 14400 ed),
    )
    by false b c d ea eb ec ed e = cc e
    by true false c d ea eb ec ed e = cc e
    by true true false d ea eb ec ed e = cc e
    by true true true false ea eb ec ed e = cc e

-- the words after `NAVCAP 2 ` are read as the week and the window
own_head_of_texts : (week window : ℕ) (line : List ℕ) (h : NamesWeek week window line)
    → own_head (h.week_text ++ 32 ∷ h.window_text) ≡ Some (record { window = window; week = Some week })
unfolding own_head number_behind
own_head_of_texts week window line h =
    let prefix = h.week_text in
    let count = digits_in_front prefix h.window_text 32 h.week_is.numeral.1 refl in
    rw (
      count,
      take-append_seam prefix (32 ∷ h.window_text),
      drop-append_seam prefix (32 ∷ h.window_text),
      number_of_text week prefix h.week_is,
      whole_of_text window h.window_text h.window_is,
    ) (in_ranges week window h.week_range h.window_range)

-- a spelling is read as its head
pub head_of_spelling : (line : List ℕ) (head : CaptureHead) → IsHead head line → head_of line ≡ Some head
unfolding head_of
head_of_spelling line head h = by head.window head.week h
  where
    by : (window : ℕ) (week : Option ℕ) → Names window week line
        → head_of line ≡ Some (record { window = window; week = week })
    by window None h = rw (h.0, h.1) refl
    by window (Some week) h = rw h.line_is (own_head_of_texts week window line h)

-- the text read after `NAVCAP 2 ` has such words
spelling_of_texts : (line rest : List ℕ) (head : CaptureHead) → line ≡ codes "NAVCAP 2 " ++ rest → own_head rest ≡ Some head
    → IsHead head line
unfolding own_head
spelling_of_texts line rest head split read =
    by (number_in (take (digit_count rest) rest)) (number_behind (drop (digit_count rest) rest)) refl refl read
  where
    by : (week window : Option ℕ) → number_in (take (digit_count rest) rest) ≡ week
        → number_behind (drop (digit_count rest) rest) ≡ window
        → head_with week window ≡ Some head → IsHead head line
    by (Some week) (Some window) ew en e =
        let told = were_in_ranges week window head e in
        let behind = text_behind window (drop (digit_count rest) rest) en in
        subst (λ (h : CaptureHead). IsHead h line) told.0 (record {
          week_text = take (digit_count rest) rest;
          window_text = behind.0;
          line_is = split
              ∙ ap (λ (xs : List ℕ). codes "NAVCAP 2 " ++ xs)
              (sym (take-append-drop (digit_count rest) rest)
              ∙ ap (λ (xs : List ℕ). take (digit_count rest) rest ++ xs) behind.1);
          week_is = text_of_number week (take (digit_count rest) rest) (prefix_digits rest) ew;
          window_is = behind.2;
          week_range = told.1;
          window_range = told.2;
        })
    by (Some week) None ew en e = cc e
    by None window ew en e = cc e

-- a line is a spelling of the head read from it
pub spelling_of_head : (line : List ℕ) (head : CaptureHead) → head_of line ≡ Some head → IsHead head line
unfolding head_of
spelling_of_head line head read =
    by (bytes_eq line plain_head) (starts_with nat_eq line (codes "NAVCAP 2 ")) refl refl read
  where
    by : (a b : Bool) → bytes_eq line plain_head ≡ a → starts_with nat_eq line (codes "NAVCAP 2 ") ≡ b
        → cond a (Some (record { window = 7200; week = None })) (cond b (own_head (drop 9 line)) None) ≡ Some head
        → IsHead head line
    by true b ea eb e =
        let same : record { window = 7200; week = None } ≡ head = cc e in
        let line_is : line ≡ plain_head = (bytes_eq-Decides line plain_head).0 ea in
        subst (λ (h : CaptureHead). IsHead h line) same (line_is, refl)
    by false true ea eb e = spelling_of_texts line (drop 9 line) head (begun line (codes "NAVCAP 2 ") eb) e
    by false false ea eb e = cc e

-- the window of a spelling is in its range
window_of_spelling : (line : List ℕ) (window : ℕ) (week : Option ℕ) → Names window week line → IsWindow window
window_of_spelling line window None h = let is = h.1 in (omega arith, omega arith)
window_of_spelling line window (Some week) h = h.window_range

-- a head is read exactly for its spellings, and its window is in range
pub answered : (line : List ℕ) (o : Option CaptureHead) → o ≡ head_of line
    → (IsSome o ↔ ((head : CaptureHead) × IsHead head line)) × IfSome o (λ head. (60 ≤ head.window) × (head.window ≤ 14400))
answered line (Some head) is =
    let spelled = spelling_of_head line head (sym is) in
    ((λ some. (head, spelled), λ h. refl), window_of_spelling line head.window head.week spelled)
answered line None is = ((λ some. cc some, λ h. absurd (let read = head_of_spelling line h.0 h.1 in cc)), tt)
