use Rattle.std.proofs.Common.{Contains, ◌++◌, arith}
use Rattle.periods.proofs.EndLemmas.{IsEnd-later, IsEnd-was, IsEndOf-later, IsEndOf-was}
use Rattle.periods.proofs.Lists.{later_list}
use Rattle.periods.proofs.ends.later_stamps_change_no_closed_end.Goals as goal

pub returns : goal.returns
returns c = record {
  end_stays = λ w watermark stamps later e all low h. IsEnd-later w watermark (Contains stamps) (Contains (stamps ++ later)) e (later_list watermark stamps later all) low h;
  end_was = λ w watermark stamps later e all low h. IsEnd-was w watermark (Contains stamps) (Contains (stamps ++ later)) e (later_list watermark stamps later all) (omega arith) h;
  stamp_stays = λ w watermark stamps later e s all low h. IsEndOf-later w watermark (Contains stamps) (Contains (stamps ++ later)) e s (later_list watermark stamps later all) low h;
  stamp_was = λ w watermark stamps later e s all low h. IsEndOf-was w watermark (Contains stamps) (Contains (stamps ++ later)) e s (later_list watermark stamps later all) low h;
}
