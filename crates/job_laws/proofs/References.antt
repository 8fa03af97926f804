-- The week of a capture is a reference week: that of the command line, or that of the first line.
use Rattle.std.proofs.Common.{◌≡◌, ℕ, ◌↔◌, List, [], ◌∷◌, refl, ap, subst}
use Rattle.std.specs.Prelude.{Option, None, Some, IfSome, ◌==◌, false}
use Rattle.std.proofs.lemmas.Bool.{cond_both}
use Rattle.nav_io.specs.Lines.{Line, lines_by}
use Rattle.nav_eph.specs.Weeks.{IsReference}
use Rattle.capture_lines.specs.Heads.{IsHead, Names, head_of}
use Rattle.capture_lines.specs.declared.head.CaptureHead.{CaptureHead}
use Rattle.captures.specs.Captures.{Capture, accepted_head, accepted_line, accepted_with, capture_in, capture_of, capture_with}
use Rattle.captures.specs.Captures.{week_for}

none_some : {X : Type 0} (x : X) → None ≡ Some x → ⊥
none_some x e = cc

some_some : {X : Type 0} (x y : X) → Some x ≡ Some y → x ≡ y
some_some x y e = cc

names_reference : (window : ℕ) (week : Option ℕ) (line : List ℕ) → Names window week line → IfSome week IsReference
names_reference window None line names = tt
names_reference window (Some week) line names = names.week_range

-- the week of the command line or of the first line; if both name one, they agree
for_reference : (week named : Option ℕ) (n : ℕ) → IfSome week IsReference → IfSome named IsReference
    → week_for week named ≡ Some n
    → IsReference n
for_reference None None n own line e = absurd (none_some n e)
for_reference None (Some m) n own line e = subst IsReference (some_some m n e) line
for_reference (Some w) None n own line e = subst IsReference (some_some w n e) own
for_reference (Some w) (Some m) n own line e =
    cond_both (w == m) (Some w) None (λ o. o ≡ Some n → IsReference n)
    (λ same k. subst IsReference (some_some w n k) own)
    (λ other k. absurd (none_some n k))
    e

module _ (week : Option ℕ) (own : IfSome week IsReference) (lines : List Line) (c : Capture) where
  -- the week that is accepted is that of the capture
  with_week : (window : ℕ) (w : Option ℕ) → capture_with lines (accepted_with window w) ≡ Some c → w ≡ Some c.week
  with_week window None e = absurd (none_some c e)
  with_week window (Some w) e = ap (λ (d : Capture). Some d.week) (some_some _ c e)

  of_head : (text : List ℕ) (head : Option CaptureHead) → IfSome head (λ h. IsHead h text)
      → capture_with lines (accepted_head week head) ≡ Some c → IsReference c.week
  of_head text None is e = absurd (none_some c e)
  of_head text (Some head) is e =
      for_reference week head.week c.week own (names_reference head.window head.week text is)
      (with_week head.window (week_for week head.week) e)

read_head : (law : (line : List ℕ) (head : CaptureHead) → (head_of line ≡ Some head) ↔ IsHead head line)
    → (text : List ℕ) (head : Option CaptureHead) → head_of text ≡ head → IfSome head (λ h. IsHead h text)
read_head law text None e = tt
read_head law text (Some head) e = (law text head).0 e

in_reference : (law : (line : List ℕ) (head : CaptureHead) → (head_of line ≡ Some head) ↔ IsHead head line)
    → (week : Option ℕ) (lines : List Line) (c : Capture) → IfSome week IsReference → capture_in week lines ≡ Some c
    → IsReference c.week
unfolding accepted_line
in_reference law week [] c own e = absurd (none_some c e)
in_reference law week (first ∷ lines) c own e =
    cond_both first.long None (accepted_head week (head_of first.text)) (λ a. capture_with lines a ≡ Some c → IsReference c.week)
    (λ long k. absurd (none_some c k))
    (λ short k. of_head week own lines c first.text (head_of first.text) (read_head law first.text (head_of first.text) refl) k)
    e

pub capture_reference : (law : (line : List ℕ) (head : CaptureHead) → (head_of line ≡ Some head) ↔ IsHead head line)
    → (week : Option ℕ) (bytes : List ℕ) (c : Capture) → IfSome week IsReference → capture_of week bytes ≡ Some c
    → IsReference c.week
capture_reference law week bytes c own e = in_reference law week (lines_by false bytes) c own e
