use Rattle.std.proofs.Common.{refl}
use Rattle.navconvert.proofs.Commanded.{all_rows}
use Rattle.navconvert.proofs.command.command_of.Goals as goal

pub returns : goal.returns
returns c = all_rows _ _ _ c.as_slice.ensures c.with_rows.ensures (_, _, refl, refl, refl)
