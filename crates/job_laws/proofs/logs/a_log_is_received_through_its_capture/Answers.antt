use Rattle.framing.specs.UbxForm.{ubx}
use Rattle.framing.specs.SbfForm.{sbf}
use Rattle.receiver_log.specs.Sbf.{sbf_message}
use Rattle.receiver_log.specs.Ubx.{ubx_message}
use Rattle.job_laws.proofs.LogLines.{ChainLaws, heard_through}
use Rattle.job_laws.proofs.StatedRanges.{sbf_said_is, ubx_said_is}
use Rattle.job_laws.proofs.logs.a_log_is_received_through_its_capture.Goals as goal

pub returns : goal.returns
returns c =
    let laws : ChainLaws = record {
      lines = record {
        printed = c.spellings_are_lines.ensures.printed;
        short = c.spellings_are_lines.ensures.short;
        only = c.each_line_stands_for_one_thing.ensures.only;
        given = c.written_lines_are_given.ensures;
      };
      heads = λ line head is. (c.each_first_line_is_one_head.ensures line head).1 is;
      lnav = c.texts_stand_for_their_items.ensures.lnav;
      half = c.texts_stand_for_their_items.ensures.half;
    } in
    record {
      ubx = λ bytes. heard_through laws ubx ubx_message ubx_said_is bytes;
      sbf = λ bytes. heard_through laws sbf sbf_message sbf_said_is bytes;
    }
