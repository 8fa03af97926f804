use Rattle.std.proofs.Common.{◌≡◌, ◌+◌, ◌*◌, arith}
use Rattle.lnav_subframe.specs.Parity.{IsSource}
use Rattle.lnav_subframe.proofs.ParityWords.{made_source, made_good}
use Rattle.lnav_subframe.proofs.word.make_word.Goals as goal

pub returns-clause-good : goal.returns-clause-good
returns-clause-good c =
    let upper = c.inverted.result in
    let parity = c.parity_of.result in
    let word : c.from_bits.result ≡ upper * 64 + parity = omega arith in
    let from : IsSource (upper * 64 + parity) c.value-last.result c.value-source.result =
    made_source upper parity c.value-last.result c.value-source.result c.parity_of.ensures.fits (omega arith) c.inverted.ensures.each in
    rw (word, ← c.value-last.ensures.same) (made_good upper parity c.value-last.result c.value-source.result from c.parity_of.ensures)

pub returns-clause-bits : goal.returns-clause-bits
returns-clause-bits c =
    let upper = c.inverted.result in
    let parity = c.parity_of.result in
    let word : c.from_bits.result ≡ upper * 64 + parity = omega arith in
    rw (word, ← c.value-last.ensures.same, ← c.value-source.ensures.same)
    (made_source upper parity c.value-last.result c.value-source.result c.parity_of.ensures.fits (omega arith) c.inverted.ensures.each)
