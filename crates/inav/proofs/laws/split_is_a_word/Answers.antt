use Rattle.inav.proofs.PageNumbers.{even_part_is_even, even_part_is_half, odd_part_is_half, odd_part_is_odd, parts_split, word_of_parts}
use Rattle.inav.proofs.laws.split_is_a_word.Goals as goal

pub returns-clause-even : goal.returns-clause-even
returns-clause-even c word = (even_part_is_half word, even_part_is_even word)

pub returns-clause-odd : goal.returns-clause-odd
returns-clause-odd c word = (odd_part_is_half word, odd_part_is_odd word)

pub returns-clause-crc : goal.returns-clause-crc
returns-clause-crc c word = (parts_split word).crc

pub returns-clause-word : goal.returns-clause-word
returns-clause-word c = word_of_parts
