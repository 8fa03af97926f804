-- The header that is written is read.
use Rattle.std.proofs.Common.{◌≡◌, ℕ, List, ◌++◌, codes, Ok, refl, ap, sym, ◌∙◌, arith}
use Rattle.scaled_decimal.specs.NumberText.{AreShown}
use Rattle.rinex_write.specs.declared.words.HeaderWords.{HeaderWords}
use Rattle.rinex_write.specs.Texts.{IsHeader, header_lines_by}
use Rattle.rinex_write.proofs.Surface.{header_shown, length-header}
use Rattle.rinex_read.specs.Lines.{columns, stands_at}
use Rattle.rinex_read.specs.Forms.{is_version}
use Rattle.rinex_read.specs.Files.{is_navigation, header_of}
use Rattle.rinex_read.specs.RoundTrip.{AreHeaderLines}
use Rattle.rinex_read.proofs.Surface.{date_passes, leap_passes, header_ends}
use Rattle.rinex_read.specs.Form3.{rinex3}
use Rattle.rinex_write.specs.Texts3.{header3_lines}

version_shown : AreShown (codes "     3.05")
version_shown = (omega arith, (omega arith, (omega arith, (omega arith, (omega arith, (omega arith, (omega arith, (omega arith, (omega arith, tt)))))))))

header_passes : (h : HeaderWords) → IsHeader h → (rest : List (List ℕ)) → header_of rinex3 0 (header3_lines h ++ rest) ≡ Ok (record { number = 4; lines = rest })
unfolding header_lines_by is_navigation is_version stands_at columns
header_passes h is rest =
    let date = date_passes h.date is.date in
    let leap = leap_passes h.leap in
    rw (date, leap, header_ends) refl

pub header_stands : (h : HeaderWords) → IsHeader h → AreHeaderLines rinex3 (header3_lines h)
header_stands h is = record {
  shown = header_shown (codes "     3.05") h version_shown is;
  passed = λ more. header_passes h is more ∙ ap (λ (n : ℕ). Ok (record { number = n; lines = more })) (sym (length-header (codes "     3.05") h));
}
