use Rattle.std.proofs.Common.{length, refl}
use Rattle.nav_tables.proofs.LinkLemmas.{right_all}
use Rattle.nav_tables.proofs.link_laws.numbers_come_back.Goals as goal

pub returns : goal.returns
returns c = λ parts links numbers given before good fit count each.
    right_all (length before) parts links numbers given before good fit (record {
      count = count;
      few = refl;
      each = each;
    })
