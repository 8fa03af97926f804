use Rattle.c_calls.proofs.PagesAgain.{PartLaws, WordLaws, page_again, page_whole}
use Rattle.c_calls.proofs.laws.pages_come_back.Goals as goal

pub returns : goal.returns
returns c =
    let parts : PartLaws = record {
      even = c.split_is_a_word.ensures.even;
      odd = c.split_is_a_word.ensures.odd;
      crc = c.split_is_a_word.ensures.crc;
      word = c.split_is_a_word.ensures.word;
      again = c.halves_are_read_again.ensures;
      their = c.parts_are_their_bits.ensures;
    } in
    let words = c.word_bytes.ensures in
    let laws : WordLaws = record {
      size1 = words.size1;
      size2 = words.size2;
      size3 = words.size3;
      size4 = words.size4;
      size5 = words.size5;
      read1 = λ w sat is. c.written_word1_is_read.ensures w _ sat 0 is.toe (words.word1 w is);
      read2 = λ w sat is. c.written_word2_is_read.ensures w _ sat 0 (words.word2 w is);
      read3 = λ w sat is. c.written_word3_is_read.ensures w _ sat 0 is.sisa (words.word3 w is);
      read4 = λ w sat is few. c.written_word4_is_read.ensures w _ sat 0 is.toc (words.word4 w sat.number is few);
      read5 = λ h i wn second sat health ion week time. c.written_word5_is_read.ensures h i wn second _ sat 0 time (words.word5 h i wn second health ion week time);
    } in
    record {
      whole = page_whole parts;
      written = page_again parts laws;
    }
