use Rattle.rtcm_eph.proofs.MessageBytes.{size_1019, size_1046, stand_1019, stand_1046, zeros_1046}
use Rattle.rtcm_eph.proofs.laws.message_bytes.Goals as goal

pub returns-clause-fields_1019 : goal.returns-clause-fields_1019
returns-clause-fields_1019 c = stand_1019

pub returns-clause-fields_1046 : goal.returns-clause-fields_1046
returns-clause-fields_1046 c = stand_1046

pub returns-clause-zeros_1046 : goal.returns-clause-zeros_1046
returns-clause-zeros_1046 c = zeros_1046

pub returns-clause-size_1019 : goal.returns-clause-size_1019
returns-clause-size_1019 c = size_1019

pub returns-clause-size_1046 : goal.returns-clause-size_1046
returns-clause-size_1046 c = size_1046
