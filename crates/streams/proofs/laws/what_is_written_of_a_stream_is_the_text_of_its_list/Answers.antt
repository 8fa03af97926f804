use Rattle.std.proofs.Common.{refl}
use Rattle.rinex_write.specs.Texts.{header_lines, item_lines}
use Rattle.rinex_write.specs.Texts3.{header3_lines, item3_lines}
use Rattle.streams.specs.Streams.{stream_list}
use Rattle.streams.proofs.ListTexts.{lines_text}
use Rattle.streams.proofs.laws.what_is_written_of_a_stream_is_the_text_of_its_list.Goals as goal

pub returns-clause-rinex : goal.returns-clause-rinex
returns-clause-rinex c = λ words r bytes. lines_text (header_lines words) item_lines (stream_list r bytes)

pub returns-clause-rinex3 : goal.returns-clause-rinex3
returns-clause-rinex3 c = λ words r bytes. lines_text (header3_lines words) item3_lines (stream_list r bytes)

pub returns-clause-rtcm : goal.returns-clause-rtcm
returns-clause-rtcm c = λ r bytes. refl
