-- What is read of a record that was written.
use Rattle.std.proofs.Common.{◌≡◌, ℕ, true, false, List, [], ◌∷◌, ◌++◌, if◌then◌else◌, map, refl, sym, ap, ◌∙◌, arith, append-nil}
use Rattle.std.proofs.lemmas.Bool.{ne_eqb}
use Rattle.scaled_decimal.specs.NumberText.{AreShown}
use Rattle.nav_io.specs.Lines.{ends, without_cr}
use Rattle.nav_io.proofs.Surface.{pieces-line}
use Rattle.nav_eph.specs.Ranges.{IsItem}
use Rattle.nav_eph.specs.declared.items.NavItem.{NavItem}
use Rattle.rinex_write.specs.Texts.{AreLines, item_lines, text_of}
use Rattle.rinex_write.proofs.Surface.{item_shown}
use Rattle.rinex_read.specs.Forms.{Form, read_at}
use Rattle.rinex_read.specs.Judging.{judged}
use Rattle.rinex_read.specs.Lines.{lines_of}
use Rattle.rinex_read.specs.RoundTrip.{StandFor}
use Rattle.rinex_read.specs.declared.judged.ItemRead.{ItemRead}
use Rattle.rinex_read.specs.declared.judged.ItemRead.TheVariants.{Item}
use Rattle.rinex_read.specs.declared.judged.Judged.TheVariants as judgments

shown_ends : (l : List ℕ) → AreShown l → ends l ≡ false
shown_ends [] h = refl
shown_ends (c ∷ cs) h = ap (λ b. if b then true else ends cs) (ne_eqb c 10 (λ e. omega (arith, h.0))) ∙ shown_ends cs h.1

shown_cr : (l : List ℕ) → AreShown l → without_cr l ≡ l
shown_cr [] h = refl
shown_cr (c ∷ []) h = ap (λ b. if b then [] else c ∷ []) (ne_eqb c 13 (λ e. omega (arith, h.0)))
shown_cr (c ∷ d ∷ ds) h = ap (λ t. c ∷ t) (shown_cr (d ∷ ds) h.1)

-- the lines of a text of lines are these lines
lines_again : (ls : List (List ℕ)) → AreLines ls → lines_of (text_of ls) ≡ ls
lines_again [] h = refl
lines_again (l ∷ ls) h =
    ap (map without_cr) (pieces-line false l (text_of ls) (shown_ends l h.0))
    ∙ ap (λ t. t ∷ lines_of (text_of ls)) (shown_cr l h.0)
    ∙ ap (λ t. l ∷ t) (lines_again ls h.1)

pub version4_again : ((item : NavItem) (more : List (List ℕ)) → IsItem item → judged (item_lines item ++ more) ≡ judgments.Item item)
    → (item : NavItem) → IsItem item → read_at 1 (judged (lines_of (text_of (item_lines item)))) ≡ Item 1 item
version4_again law item is = ap (read_at 1) (
    ap judged (lines_again (item_lines item) (item_shown item)) ∙ sym (ap judged (append-nil (item_lines item))) ∙ law item [] is)

pub stands_again : (f : Form ItemRead) (lines : List (List ℕ)) (item : NavItem) → StandFor f lines item → f.judged 1 (lines_of (text_of lines)) ≡ Item 1 item
stands_again f lines item h =
    ap (f.judged 1) (lines_again lines h.are.shown) ∙ sym (ap (f.judged 1) (append-nil lines)) ∙ h.judged 1 []
