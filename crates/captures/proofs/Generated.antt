-- The generated text is a capture.
use Rattle.std.proofs.Common.{◌≡◌, ◌∷◌, ◌++◌, ℕ, Bool, false, List, [], Some, None, codes, refl, ap, ◌∙◌, arith}
use Rattle.nav_io.specs.Lines.{IsOneLine, Line, lines_by}
use Rattle.sent_captures.specs.Capture.{lines_of}
use Rattle.sent_captures.specs.Text.{capture_text, text_of_lines}
use Rattle.capture_lines.specs.Heads.{head_of, plain_head}
use Rattle.periods.specs.declared.closed.Closed.{Closed}
use Rattle.streams.specs.declared.target.Target.TheVariants.{Count}
use Rattle.captures.specs.Captures.{Capture, accepted_head, accepted_line, capture_of, capture_with, counts_of, counts_text, output_of, periods, report_of_capture, texts_of, whole_report, whole_text}
use Rattle.captures.specs.declared.seed_target.SeedTo.TheVariants as seeds
use Rattle.captures.specs.Seeds.{generated, seed_output, seed_report}

-- what is said of lines that were written
abbrev pub AreGiven : Type 0
AreGiven = (more : Bool) (line rest : List ℕ) → IsOneLine line → lines_by more (line ++ 10 ∷ rest) ≡ record { text = line; long = false } ∷ lines_by more rest

window_is : head_of plain_head ≡ Some (record { window = 7200; week = None })
unfolding head_of
window_is = refl

head_is : (r : ℕ) → accepted_line (Some r) (record { text = plain_head; long = false }) ≡ Some (record { window = 7200; week = r })
unfolding accepted_line
head_is r = ap (accepted_head (Some r)) window_is

pub is_capture : AreGiven → (seed n r : ℕ) → capture_of (Some r) (capture_text seed n r) ≡ Some (generated seed n r)
unfolding capture_text
is_capture given seed n r =
    let whole : IsOneLine (codes "NAVCAP 1") = record { none = refl; last = refl; short = omega arith } in
    let lines = lines_by false (text_of_lines seed n r (lines_of n)) in
    given_capture r (capture_text seed n r) lines (given false (codes "NAVCAP 1") (text_of_lines seed n r (lines_of n)) whole)
  where
    given_capture : (r : ℕ) (text : List ℕ) (lines : List Line) → lines_by false text ≡ record { text = plain_head; long = false } ∷ lines
        → capture_of (Some r) text ≡ Some (record { window = 7200; week = r; lines = lines })
    given_capture r text lines e = rw e (ap (capture_with lines) (head_is r))

no_texts : (cs : List Closed) → texts_of Count cs ≡ []
no_texts [] = refl
no_texts (c ∷ cs) = no_texts cs

counted : (c : Capture) → whole_text Count (Some c) ≡ counts_text (counts_of c)
counted c = ap (λ (l : List ℕ). l ++ counts_text (counts_of c)) (no_texts (periods c))

pub output_is : AreGiven → (seed n r : ℕ) → output_of Count (Some r) (capture_text seed n r) ≡ seed_output seeds.Count seed n r
unfolding output_of
output_is given seed n r = ap (whole_text Count) (is_capture given seed n r) ∙ counted (generated seed n r)

pub report_is : AreGiven → (seed n r : ℕ) → report_of_capture (Some r) (capture_text seed n r) ≡ seed_report seeds.Count seed n r
unfolding report_of_capture
report_is given seed n r = ap whole_report (is_capture given seed n r)
