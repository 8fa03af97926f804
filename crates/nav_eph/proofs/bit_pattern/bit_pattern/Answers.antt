use Rattle.std.proofs.Common.{sym, ap, ◌∙◌}
use Rattle.nav_eph.specs.BitPatterns.{bit_pattern_of}
use Rattle.nav_eph.proofs.BitPatternLemmas.{bit_pattern_of-signed_of}
use Rattle.nav_eph.proofs.bit_pattern.bit_pattern.Goals as goal

pub returns-clause-value : goal.returns-clause-value
returns-clause-value g c =
    sym (bit_pattern_of-signed_of g.row.W c.bit_pattern.result c.bit_pattern.ensures.fits) ∙ ap (bit_pattern_of g.row.W) c.bit_pattern.ensures.same
