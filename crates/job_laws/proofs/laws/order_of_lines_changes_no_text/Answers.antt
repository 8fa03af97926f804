use Rattle.std.proofs.Common.{◌∙◌, sym}
use Rattle.job_laws.proofs.Jobs.{words_write}
use Rattle.job_laws.proofs.SameTexts.{same_items, same_output}
use Rattle.job_laws.proofs.laws.order_of_lines_changes_no_text.Goals as goal

pub returns-clause-captures : goal.returns-clause-captures
returns-clause-captures c = same_output c.order_of_lines_does_not_matter.ensures.periods

pub returns-clause-jobs : goal.returns-clause-jobs
returns-clause-jobs c words others to week named bytes other text another one two of job second first next say written then =
    words_write c.words_give_one_job.ensures words to week bytes text job written
    ∙ same_output c.order_of_lines_does_not_matter.ensures.periods to week named bytes other one two of first next say
    ∙ sym (words_write c.words_give_one_job.ensures others to named other another second then)

pub returns-clause-lines : goal.returns-clause-lines
returns-clause-lines c = same_items
