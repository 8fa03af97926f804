use Rattle.streams.proofs.StreamStays.{of_pieces, of_whole}
use Rattle.streams.proofs.laws.what_is_written_of_a_stream_stays.Goals as goal

pub returns : goal.returns
returns c = record {
  pieces = λ prefix text r bytes more. of_pieces prefix text r bytes more;
  whole = λ prefix text r bytes more. of_whole prefix text r bytes more c.decided_frames_stay.ensures;
}
