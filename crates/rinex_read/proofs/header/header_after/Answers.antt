use Rattle.std.proofs.Common.{◌≡◌, ℕ, List, refl, ap, ◌∙◌, if◌then◌else◌}
use Rattle.rinex_read.specs.declared.judged.HeaderState.{HeaderState}
use Rattle.rinex_read.specs.declared.judged.HeaderState.TheVariants.{New, Open, Passed, NotRinexNav, OtherVersion}
use Rattle.rinex_read.specs.Kept.{padded}
use Rattle.rinex_read.specs.Forms.{Form, is_version}
use Rattle.rinex_read.specs.Files.{is_navigation}
use Rattle.rinex_read.specs.Mirrors.{header_after}
use Rattle.rinex_read.proofs.ColumnLemmas.{padded_alike}
use Rattle.rinex_read.proofs.FormLemmas.{ends_alike, navigation_alike, version_alike}
use Rattle.rinex_read.proofs.header.header_after.Goals as goal

same_after : {R : Type 0} (f : Form R) (state : HeaderState) (line : List ℕ) → header_after f state (padded line) ≡ header_after f state line
same_after f New line =
    ap (λ b. if b then (if is_version f (padded line) then Open else OtherVersion) else NotRinexNav) (navigation_alike (padded line) line (padded_alike line))
    ∙ ap (λ b. if is_navigation line then (if b then Open else OtherVersion) else NotRinexNav) (version_alike f (padded line) line (padded_alike line))
same_after f Open line = ap (λ b. if b then Passed else Open) (ends_alike (padded line) line (padded_alike line))
same_after f Passed line = refl
same_after f NotRinexNav line = refl
same_after f OtherVersion line = refl

pub returns : goal.returns
returns g c = c.after_kept.ensures ∙ ap (header_after (g.F.FileForm.form c.args.form.now) c.args.state) c.padded.ensures ∙ same_after (g.F.FileForm.form c.args.form.now) c.args.state c.args.line.now
