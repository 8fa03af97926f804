use Rattle.job_laws.proofs.Conversions.{Laws, converted, converted3, in_frames}
use Rattle.job_laws.proofs.laws.converted_captures_come_back.Goals as goal

pub returns : goal.returns
returns c =
    let laws : Laws = record {
      heard = c.periods_received.ensures.some;
      whole = λ r window lines ps week are. c.periods_received.ensures.items r window lines ps week are;
      head = c.each_first_line_is_one_head.ensures;
      messages = record {
        gives = c.item_function.ensures.answer;
        fields_gps = c.message_bytes.ensures.fields_1019;
        fields_gal = c.message_bytes.ensures.fields_1046;
        size_gps = c.message_bytes.ensures.size_1019;
        size_gal = c.message_bytes.ensures.size_1046;
        read_gps = c.sent_1019_is_read.ensures;
        read_gal = c.sent_1046_is_read.ensures;
        payload = c.written_frames_are_whole.ensures.payload;
        behind = c.frames_behind_a_written_frame.ensures;
      };
      back = c.files_are_read.ensures.list;
      back3 = c.files3_are_read.ensures.list;
    } in
    record {
      rinex = λ week header bytes capture own is e. converted laws week bytes capture own e header is;
      rinex3 = λ week header bytes capture own is e. converted3 laws week bytes capture own e header is;
      rtcm = λ week bytes capture own e. in_frames laws week bytes capture own e;
    }
