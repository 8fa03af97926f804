use Rattle.std.proofs.Common.{codes, List, ℕ, refl, ◌≡◌}
use Rattle.rinex_read.specs.Form3.{rinex3}
use Rattle.rinex_read.specs.Forms.{rinex4}
use Rattle.rinex_read.specs.Lines.{columns}
use Rattle.job_laws.specs.RinexRecords.{IsRecord3, IsVersion3, IsVersion4}
use Rattle.job_laws.specs.RinexFiles.{IsTitled}
use Rattle.job_laws.proofs.RinexFields.{Seen}
use Rattle.job_laws.proofs.RinexHeaders.{Decides, four_decides, three_decides}
use Rattle.job_laws.proofs.RinexWholeFiles.{agrees4, agrees3, file-says, file-reads}
use Rattle.job_laws.proofs.records.files_give_their_items.Goals as goal

pub returns : goal.returns
returns c =
    let laws : Seen = record { numbers = c.texts_are_seen.ensures.as_numbers; blanks = c.texts_are_seen.ensures.as_blanks } in
    let four : Decides rinex4 IsVersion4 = four_decides rinex4 refl in
    let three : Decides rinex3 IsVersion3 = three_decides rinex3 refl in
    record {
      four = λ bytes items. (
        λ h. file-says rinex4 IsVersion4 (λ (line : List ℕ). columns 0 1 line ≡ codes ">") IsTitled four (agrees4 laws) bytes items h.0 h.1 h.2,
        λ h. file-reads rinex4 IsVersion4 (λ (line : List ℕ). columns 0 1 line ≡ codes ">") IsTitled four (agrees4 laws) bytes items h,
      );
      three = λ bytes items. (
        λ h. file-says rinex3 IsVersion3 (λ (line : List ℕ). columns 0 1 line ≡ codes " " → ⊥) IsRecord3 three (agrees3 laws) bytes items h.0 h.1 h.2,
        λ h. file-reads rinex3 IsVersion3 (λ (line : List ℕ). columns 0 1 line ≡ codes " " → ⊥) IsRecord3 three (agrees3 laws) bytes items h,
      );
    }
