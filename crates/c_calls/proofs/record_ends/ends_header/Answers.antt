use Rattle.std.proofs.Common.{◌≡◌, ◌↔◌, ◌<◌, Bool, true, false, IsTrue, List, length, take, drop, codes, sym, ◌∙◌, arith}
use Rattle.rinex_read.specs.Files.{ends_header}
use Rattle.c_calls.proofs.HeaderLabels.{label_is, short_is}
use Rattle.c_calls.proofs.record_ends.ends_header.Goals as goal

pub returns-then-line-lt73 : goal.returns-then-line-lt73
returns-then-line-lt73 c = sym (short_is c.args.line.now (omega (arith, c.if-line-lt73.true)))

pub returns : goal.returns
returns c = label_is c.args.line.now c.is_label.result (omega (arith, c.if-line-lt73.false)) c.is_label.ensures
