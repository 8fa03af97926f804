-- A navigation file as a set of items.
use Rattle.std.specs.Prelude.{◌≡◌, ℕ, ◌^◌, ◌<◌, Bool, true, false, ◌||◌, List, length, map, sum, Option, Ok}
use Rattle.std.specs.List.{filter}
use Rattle.std.specs.Io.KnownBytes.{Consumes, IsAtEnd}
use Rattle.nav_eph.specs.declared.items.NavItem.{NavItem}
use Rattle.nav_eph.specs.declared.items.NavItem.TheVariants.{Gps, Gal, Ion}
use Rattle.rinex_read.specs.Files.{file_reads, items_of}
use Rattle.rinex_read.specs.Forms.{Form}
use Rattle.rinex_read.specs.declared.judged.ItemRead.{ItemRead}
use Rattle.rinex_read.specs.declared.judged.ItemRead.TheVariants.{Item, Refused, PassedOver}
use Rattle.nav_files.specs.Numbers.{set_of}
use Rattle.nav_files.specs.declared.diff_counts.ReadCounts.{ReadCounts}

-- the item is an ephemeris
abbrev pub is_ephemeris : NavItem → Bool
is_ephemeris (Gps e) = true
is_ephemeris (Gal e) = true
is_ephemeris (Ion e) = false

-- the items that are compared: all, or the ephemerides alone
abbrev pub compared : Bool → List NavItem → List NavItem
compared all items = filter (λ x. all || is_ephemeris x) items

-- 1 for a rejected record, else 0
abbrev pub is_refused : ItemRead → ℕ
is_refused (Item line item) = 0
is_refused (Refused line reason) = 1
is_refused (PassedOver line) = 0

-- 1 for a skipped record, else 0
abbrev pub is_passed : ItemRead → ℕ
is_passed (Item line item) = 0
is_passed (Refused line reason) = 0
is_passed (PassedOver line) = 1

-- 1 for an ionosphere item, else 0
abbrev pub is_ionosphere : NavItem → ℕ
is_ionosphere (Gps e) = 0
is_ionosphere (Gal e) = 0
is_ionosphere (Ion e) = 1

-- 1 for an ionosphere record, else 0
abbrev pub has_ionosphere : ItemRead → ℕ
has_ionosphere (Item line item) = is_ionosphere item
has_ionosphere (Refused line reason) = 0
has_ionosphere (PassedOver line) = 0

-- the counts of records
abbrev pub counts_of : List ItemRead → ReadCounts
counts_of reads = record {
  refused = sum (map is_refused reads);
  passed = sum (map is_passed reads);
  ionospheres = sum (map has_ionosphere reads);
}

-- The file was read to its end: the set of its items that are compared, and the counts of its records.
pub record IsFile (f : Form ItemRead) (all : Bool) (left left_new : Option (List ℕ)) (items : List NavItem) (counts : ReadCounts) : Type 0 where
  pub taken : List ℕ
  pub consumes : Consumes left left_new taken
  pub end : IsAtEnd left_new
  pub fits : length taken < 2 ^ 32
  pub reads : List ItemRead
  pub are : file_reads f taken ≡ Ok reads
  pub set : items ≡ set_of (compared all (items_of reads))
  pub counted : counts ≡ counts_of reads

-- too many bytes were read
pub record IsTooLong (left left_new : Option (List ℕ)) : Type 0 where
  pub taken : List ℕ
  pub consumes : Consumes left left_new taken
  pub many : length taken ≡ 2 ^ 32
