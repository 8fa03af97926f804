-- The list of the periods of some parts, as a function.
use Rattle.std.specs.Prelude.{ℕ, ◌+◌, Bool, true, not, ◌&&◌, ◌||◌, nat_lt, nat_le, if◌then◌else◌, List, [], ◌∷◌, Option, None, Some}
use Rattle.std.specs.List.{list_all}
use Rattle.nav_eph.specs.declared.items.NavItem.{NavItem}
use Rattle.nav_eph.specs.declared.part.Part.{Part}
use Rattle.periods.specs.declared.key.PeriodKey.{PeriodKey}
use Rattle.periods.specs.declared.key.PeriodKey.TheVariants.{Gps, Gal, GpsIon, GalIon}
use Rattle.periods.specs.declared.key.PeriodId.{PeriodId}
use Rattle.periods.specs.declared.closed.Finding.{Finding}
use Rattle.periods.specs.declared.closed.Finding.TheVariants.{Misses}
use Rattle.periods.specs.declared.closed.Verdict.{Verdict}
use Rattle.periods.specs.declared.closed.Closed.{Closed}
use Rattle.periods.specs.declared.digest.Digest.{Digest}
use Rattle.periods.specs.Parts.{key_of}
use Rattle.periods.specs.Periods.{place_numbers}
use Rattle.periods.specs.Verdicts.{closed_place}
use Rattle.periods.specs.PeriodLists.{closed_at}
use Rattle.periods.specs.DigestsOf.{digest_of, digest_join, digest_finding, health_at, item_of, is_complete, verdict_of}
use Rattle.periods.specs.KeyTests.{is_of}
use Rattle.periods.specs.Mirrors.{earlier, best_among}

-- the part is not a part of the key in the window after time tag e
abbrev pub quiet_at : ℕ → PeriodKey → ℕ → Part → Bool
quiet_at window key e p = not (is_of key p) || (nat_le p.stamp e || nat_lt (e + window) p.stamp)

-- no part of the key is in the window after time tag e
abbrev pub quiet : List Part → ℕ → PeriodKey → ℕ → Bool
quiet parts window key e = list_all (quiet_at window key e) parts

-- the end and key of a period that ends with a part of that time tag and key
abbrev pub place_in : ℕ → Option PeriodKey → Option PeriodId
place_in stamp None = None
place_in stamp (Some key) = Some (record { end = stamp; key = key })

-- the end and key of a period that ends with the part; none for health, which has no key
abbrev pub place_at : Part → Option PeriodId
place_at p = place_in p.stamp (key_of p)

-- the time tag of a part of the key; none for other parts
abbrev pub stamp_of : PeriodKey → Part → Option ℕ
stamp_of key p = if is_of key p then Some p.stamp else None

-- time tag s of a part of the key is an end of it, below e
abbrev pub end_below : List Part → ℕ → PeriodKey → ℕ → ℕ → Bool
end_below parts window key e s = nat_lt s e && quiet parts window key s

-- the key's last end below e
abbrev pub end_before : List Part → ℕ → PeriodKey → ℕ → Option ℕ
end_before parts window key e = best_among (stamp_of key) (end_below parts window key e) (λ a b. nat_lt b a) parts None

-- the time tag is after the end before, if there is one
abbrev pub is_above : Option ℕ → ℕ → Bool
is_above None s = true
is_above (Some before) s = nat_lt before s

-- the part is of the key, after the end before and up to the end e
abbrev pub is_member : PeriodKey → ℕ → Option ℕ → Part → Bool
is_member key e before p = is_of key p && (is_above before p.stamp && nat_le p.stamp e)

-- the union of two digests
abbrev pub join_some : Option Digest → Option Digest → Option Digest
join_some all None = all
join_some None (Some d) = Some d
join_some (Some x) (Some y) = Some (digest_join x y)

-- the digest of the members, added to the digest so far
abbrev pub members_digest : PeriodKey → ℕ → Option ℕ → List Part → Option Digest → Option Digest
members_digest key e before [] all = all
members_digest key e before (p ∷ ps) all = members_digest key e before ps (if is_member key e before p then join_some all (digest_of p) else all)

-- the finding of the members' digest; `Misses` if there is none
abbrev pub finding_with : ℕ → ℕ → List Part → PeriodId → Option Digest → Finding
finding_with r window parts place None = Misses
finding_with r window parts place (Some d) = digest_finding r place.key d (health_at window parts place.key place.end)

-- the finding of the period at a place
abbrev pub finding_at : ℕ → ℕ → List Part → PeriodId → Finding
finding_at r window parts place =
    finding_with r window parts place (members_digest place.key place.end (end_before parts window place.key place.end) parts None)

-- the period's end and key
abbrev pub end_place : PeriodKey → ℕ → PeriodId
end_place key e = record { end = e; key = key }

-- time tag s of a part of the key ends a complete period of it, below e
abbrev pub complete_below : ℕ → ℕ → List Part → PeriodKey → ℕ → ℕ → Bool
complete_below r window parts key e s = end_below parts window key e s && is_complete (finding_at r window parts (end_place key s))

-- the end of the key's last complete period below e
abbrev pub complete_before : ℕ → ℕ → List Part → PeriodKey → ℕ → Option ℕ
complete_before r window parts key e = best_among (stamp_of key) (complete_below r window parts key e) (λ a b. nat_lt b a) parts None

-- the item of the key's period with that end
abbrev pub item_at : ℕ → ℕ → List Part → PeriodKey → Option ℕ → Option NavItem
item_at r window parts key None = None
item_at r window parts key (Some e) = item_of (finding_at r window parts (end_place key e))

-- the item of the key's last complete period below e
abbrev pub last_item : ℕ → ℕ → List Part → PeriodKey → ℕ → Option NavItem
last_item r window parts key e = item_at r window parts key (complete_before r window parts key e)

-- the earlier item that a period's item is compared with; none for an ionosphere
abbrev pub item_before : ℕ → ℕ → List Part → PeriodKey → ℕ → Option NavItem
item_before r window parts (Gps sat issue) e = last_item r window parts (Gps sat issue) e
item_before r window parts (Gal sat issue) e = last_item r window parts (Gal sat issue) e
item_before r window parts (GpsIon content) e = None
item_before r window parts (GalIon content) e = None

-- the verdict on a period
abbrev pub verdict_at : ℕ → ℕ → List Part → PeriodId → Verdict
verdict_at r window parts place = verdict_of (item_before r window parts place.key place.end) (finding_at r window parts place)

-- a closed period of end, key and verdict
abbrev pub closed_with : PeriodId → Verdict → Closed
closed_with place verdict = record { end = place.end; key = place.key; verdict = verdict }

-- the first period comes before the second
abbrev pub is_before : PeriodId → PeriodId → Bool
is_before = earlier place_numbers

-- inserts a period into a sorted list; unchanged if it has one with that end and key
abbrev pub insert : Closed → List Closed → List Closed
insert c [] = c ∷ []
insert c (d ∷ ds) = if is_before (closed_place c) (closed_place d) then c ∷ d ∷ ds else (if is_before (closed_place d) (closed_place c) then d ∷ insert c ds else d ∷ ds)

-- inserts the period at a place into a list, if no part of the key is in the window after its end
abbrev pub insert_at : ℕ → ℕ → List Part → Option PeriodId → List Closed → List Closed
insert_at r window parts None cs = cs
insert_at r window parts (Some q) cs = if quiet parts window q.key q.end then insert (closed_with q (verdict_at r window parts q)) cs else cs

-- the periods of the first list of parts that end with a part of the second
abbrev pub periods_ending : ℕ → ℕ → List Part → List Part → List Closed
periods_ending r window parts [] = []
periods_ending r window parts (p ∷ ps) = insert_at r window parts (place_at p) (periods_ending r window parts ps)

-- the periods of the parts, in order, each with its verdict
unfoldable pub periods_of : ℕ → ℕ → List Part → List Closed
periods_of r window parts = periods_ending r window parts parts

-- the periods closed at a watermark: end plus window is below it
unfoldable pub closed_of : ℕ → ℕ → ℕ → List Part → List Closed
closed_of r window watermark parts = closed_at window watermark (periods_of r window parts)
