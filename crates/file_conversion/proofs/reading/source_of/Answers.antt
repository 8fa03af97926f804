use Rattle.std.proofs.Common.{ap, ◌∙◌}
use Rattle.file_conversion.proofs.reading.source_of.Goals as goal

pub returns : goal.returns
returns g c = ap g.S.Source.faults (c.into_source.ensures ∙ ap (λ p. p.0.source) c.into_parts-input.ensures)
