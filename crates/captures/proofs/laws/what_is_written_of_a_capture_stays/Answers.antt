use Rattle.captures.proofs.CaptureStays.{of_pieces, of_whole}
use Rattle.captures.proofs.laws.what_is_written_of_a_capture_stays.Goals as goal

pub returns : goal.returns
returns c =
    let closed = c.what_is_closed_stays.ensures in
    record {
      pieces = λ to week bytes more. of_pieces closed.rise closed.prefix to week bytes more;
      whole = λ to week bytes more. of_whole closed.rise closed.prefix to week bytes more;
    }
