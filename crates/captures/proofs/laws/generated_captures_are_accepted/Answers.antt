use Rattle.captures.proofs.Generated.{is_capture, output_is, report_is}
use Rattle.captures.proofs.laws.generated_captures_are_accepted.Goals as goal

pub returns : goal.returns
returns c =
    let given = c.written_lines_are_given.ensures in
    record {
      capture = λ seed n r. is_capture given seed n r;
      output = λ seed n r. output_is given seed n r;
      report = λ seed n r. report_is given seed n r;
    }
