use Rattle.bridge_engine.proofs.Told.{capture_told, items_told}
use Rattle.bridge_engine.proofs.laws.captures_are_selected.Goals as goal

pub returns : goal.returns
returns c =
    let heads = c.each_first_line_is_one_head.ensures in
    let stands = c.each_line_stands_for_one_thing.ensures in
    record {
      capture = λ week bytes capture. capture_told heads week bytes capture;
      items = λ lines items. items_told stands.some stands.only lines items;
    }
