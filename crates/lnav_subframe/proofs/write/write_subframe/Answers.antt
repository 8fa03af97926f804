use Rattle.lnav_subframe.specs.Writing.{IsWritten}
use Rattle.lnav_subframe.proofs.Functions.{read_as_written}
use Rattle.lnav_subframe.proofs.Bytes.{written_is}
use Rattle.lnav_subframe.proofs.write.write_subframe.Goals as goal

pub returns-clause-again : goal.returns-clause-again
returns-clause-again c =
    let written : IsWritten c.args.body.now c.args.tow_count c.words_of-bits.result = (c.data_bits.result, c.data_bits.ensures.fields, c.words_of-bits.ensures) in
    read_as_written c.args.body.now c.args.tow_count c.words_of-bits.result c.requires.week c.requires.page c.data_bits.ensures.time written

pub returns-clause-bytes : goal.returns-clause-bytes
returns-clause-bytes c =
    let written : IsWritten c.args.body.now c.args.tow_count c.words_of-bits.result = (c.data_bits.result, c.data_bits.ensures.fields, c.words_of-bits.ensures) in
    written_is c.args.body.now c.args.tow_count c.words_of-bits.result c.digits.ensures c.requires.week c.are_bytes.ensures written
