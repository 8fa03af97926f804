use Rattle.rinex_write.proofs.WrittenLemmas.{record_cut}
use Rattle.rinex_write.proofs.item.append_titled.Goals as goal

pub returns-clause-title : goal.returns-clause-title
returns-clause-title c = (record_cut c.args.item.now c.append_item.new.text.items c.append_item.ensures).0

pub returns-clause-body : goal.returns-clause-body
returns-clause-body c = (record_cut c.args.item.now c.append_item.new.text.items c.append_item.ensures).1
