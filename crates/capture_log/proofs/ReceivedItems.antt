-- The items of a list of periods are those of its whole periods.
use Rattle.std.proofs.Common.{◌≡◌, inl, inr, List, [], ◌∷◌, refl, ap}
use Rattle.nav_eph.specs.declared.items.NavItem.{NavItem}
use Rattle.periods.specs.declared.closed.Closed.{Closed}
use Rattle.periods.specs.declared.closed.Verdict.{Verdict}
use Rattle.periods.specs.declared.closed.Verdict.TheVariants.{Whole, Partial, Contradicted, NoHealth, Again}
use Rattle.periods.specs.PeriodLists.{item_in, items_in}
use Rattle.capture_log.proofs.Lists.{In, in_append}

whole_of : (verdict : Verdict) (item : NavItem) → In (item_in verdict) item → verdict ≡ Whole item
whole_of (Whole own) item (inl e) = ap (λ x. Whole x) e
whole_of (Whole own) item (inr h) = absurd h
whole_of Partial item h = absurd h
whole_of Contradicted item h = absurd h
whole_of NoHealth item h = absurd h
whole_of Again item h = absurd h

-- what holds of the item of each whole period holds of each item
pub items_of_whole : (P : NavItem → Type 0) (periods : List Closed)
    → ((c : Closed) (item : NavItem) → In periods c → c.verdict ≡ Whole item → P item)
    → (item : NavItem) → In (items_in periods) item → P item
items_of_whole P [] each item h = absurd h
items_of_whole P (c ∷ cs) each item h = elim (in_append (item_in c.verdict) (items_in cs) item h) [
  | inl own ↦ each c item (inl refl) (whole_of c.verdict item own)
  | inr rest ↦ items_of_whole P cs (λ d other there is. each d other (inr there) is) item rest
]
