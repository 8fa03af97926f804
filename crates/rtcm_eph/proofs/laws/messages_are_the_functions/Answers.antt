use Rattle.rtcm_eph.proofs.MessageBytes.{only_1019, only_1046}
use Rattle.rtcm_eph.proofs.laws.messages_are_the_functions.Goals as goal

pub returns-clause-message_1019 : goal.returns-clause-message_1019
returns-clause-message_1019 c = only_1019

pub returns-clause-message_1046 : goal.returns-clause-message_1046
returns-clause-message_1046 c = only_1046
