-- Items as the raw numbers that C has.
use Rattle.std.specs.Prelude.{◌==◌, if◌then◌else◌, Option, None, Some}
use Rattle.nav_eph.specs.Ranges.{IsItem}
use Rattle.nav_eph.specs.declared.items.NavItem.{NavItem}
use Rattle.nav_eph.specs.declared.items.NavItem.TheVariants.{Gps, Gal, Ion}
use Rattle.raw_values.specs.declared.item_raw.ItemRaw.{ItemRaw}
use Rattle.raw_values.specs.Gps.{gps_in, raw_gps}
use Rattle.raw_values.specs.Gal.{gal_in, raw_gal}
use Rattle.raw_values.specs.Ion.{gal_ion_item, gps_ion_item, ion_kind, raw_ion}

-- the item of the numbers, where their kind is one; whether each is in its range is another question
abbrev pub item_in : ItemRaw → Option NavItem
item_in raw =
    if raw.kind == 1 then Some (Gps (gps_in raw.gps))
    else if raw.kind == 2 then Some (Gal (gal_in raw.gal))
    else if raw.kind == 3 then Some (Ion (gps_ion_item raw.ion))
    else if raw.kind == 4 then Some (Ion (gal_ion_item raw.ion))
    else None

-- the numbers are those of an item whose fields are in range and consistent
abbrev pub IsItemIn : Option NavItem → Type 0
IsItemIn None = ⊥
IsItemIn (Some item) = IsItem item

-- the numbers of an item written over these: its kind, and the struct of its kind; the others stay
abbrev pub raw_item : NavItem → ItemRaw → ItemRaw
raw_item (Gps e) old = record old { kind = 1; gps = raw_gps e }
raw_item (Gal e) old = record old { kind = 2; gal = raw_gal e }
raw_item (Ion e) old = record old { kind = ion_kind e.content; ion = raw_ion e old.ion }
