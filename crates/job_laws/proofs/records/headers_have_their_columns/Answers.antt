use Rattle.std.proofs.Common.{refl}
use Rattle.rinex_read.specs.Form3.{rinex3}
use Rattle.rinex_read.specs.Forms.{rinex4}
use Rattle.job_laws.specs.RinexRecords.{IsVersion3, IsVersion4}
use Rattle.job_laws.proofs.RinexHeaders.{Decides, four_decides, three_decides, header-says, header-reads, version-says, version-reads, neither-says, neither-reads}
use Rattle.job_laws.proofs.records.headers_have_their_columns.Goals as goal

pub returns : goal.returns
returns c =
    let four : Decides rinex4 IsVersion4 = four_decides rinex4 refl in
    let three : Decides rinex3 IsVersion3 = three_decides rinex3 refl in
    record {
      read = λ lines body. (header-says rinex4 IsVersion4 four lines body, header-reads rinex4 IsVersion4 four lines body);
      version = λ lines. (version-says rinex4 IsVersion4 four lines, version-reads rinex4 IsVersion4 four lines);
      neither = λ lines. (neither-says rinex4 IsVersion4 four lines, neither-reads rinex4 IsVersion4 four lines);
      read3 = λ lines body. (header-says rinex3 IsVersion3 three lines body, header-reads rinex3 IsVersion3 three lines body);
      version3 = λ lines. (version-says rinex3 IsVersion3 three lines, version-reads rinex3 IsVersion3 three lines);
      neither3 = λ lines. (neither-says rinex3 IsVersion3 three lines, neither-reads rinex3 IsVersion3 three lines);
    }
