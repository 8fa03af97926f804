-- The kinds that a run knows.
use Rattle.nav_rows.specs.Kinds.{IsKind}
use Rattle.nav_rows.specs.declared.kind.Kind.{Kind}

-- the tables of each kind fit one another
pub record AreKinds (fdma d1 d2 fnav qzss navic sbas : Kind) : Type 0 where
  pub fdma_is : IsKind fdma
  pub d1_is : IsKind d1
  pub d2_is : IsKind d2
  pub fnav_is : IsKind fnav
  pub qzss_is : IsKind qzss
  pub navic_is : IsKind navic
  pub sbas_is : IsKind sbas
