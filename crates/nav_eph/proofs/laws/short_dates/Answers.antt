use Rattle.nav_eph.proofs.DateFunctions.{short_date}
use Rattle.nav_eph.proofs.laws.short_dates.Goals as goal

pub returns : goal.returns
returns c = short_date
