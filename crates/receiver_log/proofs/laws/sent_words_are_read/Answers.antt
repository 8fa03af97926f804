use Rattle.receiver_log.proofs.Readings.{sent_is_read}
use Rattle.receiver_log.proofs.laws.sent_words_are_read.Goals as goal

pub returns : goal.returns
returns c = λ sent mask x g. sent_is_read sent mask x g
