-- The order of rows, and which are duplicates.
use Rattle.std.specs.Prelude.{◌≡◌, ℕ, ◌-◌, ◌*◌, ◌/◌, ◌%◌, List, [], ◌∷◌, ◌++◌, set, ℤ, pos}
use Rattle.std.specs.Cmp.Lexicographic.{slice_cmp}
use Rattle.std.specs.Ordering.{int_cmp, on, then_cmp}
use Rattle.std.specs.declared.cmp.Ordering.{Ordering}
use Rattle.nav_tables.specs.Links.{nth}
use Rattle.nav_rows.specs.declared.kind.Clock.{Clock}
use Rattle.nav_rows.specs.declared.kind.Clock.TheVariants.{Frame, Weeks, Daily}
use Rattle.nav_rows.specs.declared.kind.Kind.{Kind}
use Rattle.nav_rows.specs.Times.{number}
use Rattle.nav_rows.specs.Rows.{RowValue}
use Rattle.nav_rows.specs.Encoding.{toe_at}

-- the flags of a frame without p3 in bit 5, and its health flags without the almanac's in bits 0
-- and 1
abbrev pub flags_settled : List ℤ → List ℤ
flags_settled columns =
    set (set columns 15 (pos (number columns 15 - number columns 15 / 32 % 2 * 32)))
    18 (pos (number columns 18 / 4))

-- the columns without what changes from frame to frame
abbrev pub settled_by : Clock → List ℤ → List ℤ
settled_by Frame columns = flags_settled columns
settled_by (Weeks c) columns = columns
settled_by (Daily step) columns = columns

-- the columns without the time sent and what changes from frame to frame
abbrev pub settled : Kind → List ℤ → List ℤ
settled k columns = set (settled_by k.clock columns) k.sent (pos 0)

-- toe or, of frames and where no week is told, the epoch
abbrev pub moment_by : Clock → RowValue → ℕ
moment_by Frame row = row.moment
moment_by (Weeks c) row = toe_at c row.columns
moment_by (Daily step) row = row.moment

abbrev pub front_of : Kind → RowValue → List ℤ
front_of k row =
    pos (moment_by k.clock row) ∷ pos k.system ∷ pos row.number ∷ pos k.message ∷ pos row.moment
    ∷ []

-- what comes first in the order of rows: time, system, satellite, message type, epoch and columns
unfoldable pub rank_of : Kind → RowValue → List ℤ
rank_of k row = front_of k row ++ settled k row.columns

-- a row with its kind
pub record KindRow : Type 0 where
  pub kind : Kind
  pub row : RowValue

abbrev pub rank : KindRow → List ℤ
rank x = rank_of x.kind x.row

-- duplicates: equal but for the time sent and what changes from frame to frame
abbrev pub IsAlike : KindRow → KindRow → Type 0
IsAlike x y = rank x ≡ rank y

-- the order by rank
abbrev pub by_rank : KindRow → KindRow → Ordering
by_rank = on rank (slice_cmp int_cmp)

-- the order of rows: by rank; of duplicates by the time sent, a time not known last, and then by
-- all columns
abbrev pub by_place : KindRow → KindRow → Ordering
by_place =
    then_cmp by_rank (then_cmp (on (λ x. nth x.row.columns x.kind.sent) int_cmp)
    (on (λ x. x.row.columns) (slice_cmp int_cmp)))
