use Rattle.std.proofs.Common.{length, refl}
use Rattle.nav_tables.proofs.LinkLemmas.{back_all}
use Rattle.nav_tables.proofs.link_laws.columns_come_back.Goals as goal

pub returns : goal.returns
returns c = λ parts links columns given before good apart said. back_all
    (length before) parts links columns given before good apart said refl
