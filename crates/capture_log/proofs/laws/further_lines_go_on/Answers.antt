use Rattle.capture_log.proofs.Lasting.{lines_log, lines_known, watermark_rises}
use Rattle.capture_log.proofs.laws.further_lines_go_on.Goals as goal

pub returns-clause-log : goal.returns-clause-log
returns-clause-log c = lines_log

pub returns-clause-known : goal.returns-clause-known
returns-clause-known c = lines_known

pub returns-clause-watermark : goal.returns-clause-watermark
returns-clause-watermark c = watermark_rises
