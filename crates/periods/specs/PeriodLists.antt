-- The list of the periods of a set of parts, and of those that are closed at a watermark.
use Rattle.std.specs.Prelude.{◌≡◌, ℕ, ◌+◌, ◌<◌, nat_lt, List, [], ◌∷◌, ◌++◌, Contains, filter}
use Rattle.std.specs.List.{AllByRecursion}
use Rattle.nav_eph.specs.declared.items.NavItem.{NavItem}
use Rattle.nav_eph.specs.declared.part.Part.{Part}
use Rattle.periods.specs.declared.key.PeriodId.{PeriodId}
use Rattle.periods.specs.declared.closed.Closed.{Closed}
use Rattle.periods.specs.declared.closed.Verdict.{Verdict}
use Rattle.periods.specs.declared.closed.Verdict.TheVariants.{Whole, Partial, Contradicted, NoHealth, Again}
use Rattle.periods.specs.Periods.{IsPeriod, IsBefore}
use Rattle.periods.specs.Verdicts.{IsClosed, closed_place}

-- each period comes before all that follow it
abbrev pub IsAscending : List Closed → Type 0
IsAscending [] = Unit {0}
IsAscending (c ∷ cs) = AllByRecursion (λ d. IsBefore (closed_place c) (closed_place d)) cs × IsAscending cs

-- the list, strictly ascending, of exactly the periods of the parts, each with its verdict
pub record ArePeriods (r window : ℕ) (parts : Part → Type 0) (periods : List Closed) : Type 0 where
  pub ascending : IsAscending periods
  pub each : (c : Closed) → Contains periods c → IsClosed r window parts c
  pub every : (place : PeriodId) → IsPeriod window parts place → (c : Closed) × Contains periods c × (closed_place c ≡ place)

-- the list, strictly ascending, of exactly the periods whose end plus the window is below the watermark
pub record AreClosed (r window : ℕ) (parts : Part → Type 0) (watermark : ℕ) (periods : List Closed) : Type 0 where
  pub ascending : IsAscending periods
  pub each : (c : Closed) → Contains periods c → IsClosed r window parts c
  pub low : (c : Closed) → Contains periods c → c.end + window < watermark
  pub every : (place : PeriodId) → IsPeriod window parts place → place.end + window < watermark → (c : Closed) × Contains periods c × (closed_place c ≡ place)

-- the periods of a list whose end plus the window is below the watermark
abbrev pub closed_at : ℕ → ℕ → List Closed → List Closed
closed_at window watermark periods = filter (λ c. nat_lt (c.end + window) watermark) periods

-- the first list is a prefix of the second
abbrev pub IsPeriodPrefix : List Closed → List Closed → Type 0
IsPeriodPrefix xs ys = (rest : List Closed) × (ys ≡ xs ++ rest)

-- the item of a period with the verdict `Whole`
abbrev pub item_in : Verdict → List NavItem
item_in (Whole item) = item ∷ []
item_in Partial = []
item_in Contradicted = []
item_in NoHealth = []
item_in Again = []

-- the items of the periods with the verdict `Whole`, in order
abbrev pub items_in : List Closed → List NavItem
items_in [] = []
items_in (c ∷ cs) = item_in c.verdict ++ items_in cs
