use Rattle.rinex_read.specs.Files.{file_reads}
use Rattle.rinex_read.specs.Forms.{rinex4}
use Rattle.nav_files.proofs.ListTexts.{cover_is, merged_is, rinex3_is, rinex_is, rtcm_is}
use Rattle.nav_files.proofs.laws.what_is_written_is_the_text_of_a_list.Goals as goal

pub returns-clause-rinex : goal.returns-clause-rinex
returns-clause-rinex c = λ f words bytes ok. rinex_is words (file_reads f bytes) ok

pub returns-clause-rinex3 : goal.returns-clause-rinex3
returns-clause-rinex3 c = λ f words bytes ok. rinex3_is words (file_reads f bytes) ok

pub returns-clause-rtcm : goal.returns-clause-rtcm
returns-clause-rtcm c = λ f bytes. rtcm_is (file_reads f bytes)

pub returns-clause-merged : goal.returns-clause-merged
returns-clause-merged c = λ words bytes ok. merged_is words (file_reads rinex4 bytes) ok

pub returns-clause-cover : goal.returns-clause-cover
returns-clause-cover c = λ bytes. cover_is (file_reads rinex4 bytes)
