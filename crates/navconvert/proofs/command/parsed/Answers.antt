use Rattle.navconvert.proofs.Commanded.{found, refused}
use Rattle.navconvert.proofs.command.parsed.Goals as goal

pub returns-in-Ok : goal.returns-in-Ok
returns-in-Ok c = found _ _ _ _ c.requires c.in-Ok.ensures.kinds c.in-Ok.ensures.matches

pub returns-in-Err : goal.returns-in-Err
returns-in-Err c = refused _ _ _ c.requires c.in-Err.ensures.kinds
