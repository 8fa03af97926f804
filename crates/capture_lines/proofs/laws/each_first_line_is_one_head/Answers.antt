use Rattle.capture_lines.proofs.Heads.{head_of_spelling, spelling_of_head}
use Rattle.capture_lines.proofs.laws.each_first_line_is_one_head.Goals as goal

pub returns : goal.returns
returns c = λ line head. (spelling_of_head line head, head_of_spelling line head)
