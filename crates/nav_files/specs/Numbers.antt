-- Items as numbers, and the order and the set of the items of a file.
use Rattle.std.specs.Prelude.{ℕ, ℤ, pos, List, [], ◌∷◌, ◌++◌, codes}
use Rattle.std.specs.BTreeSet.{insert_key}
use Rattle.std.specs.Cmp.Lexicographic.{slice_cmp}
use Rattle.std.specs.List.{fold}
use Rattle.std.specs.Ordering.{int_cmp}
use Rattle.std.specs.declared.cmp.Ordering.{Ordering}
use Rattle.nav_eph.specs.Ranks.{sat_rank, sent_of, transmission_rank}
use Rattle.nav_eph.specs.declared.ion.IonContent.{IonContent}
use Rattle.nav_eph.specs.declared.ion.IonContent.TheVariants.{Gps as OfGps, Gal as OfGal}
use Rattle.nav_eph.specs.declared.items.NavItem.{NavItem}
use Rattle.nav_eph.specs.declared.items.NavItem.TheVariants.{Gps, Gal, Ion}
use Rattle.nav_lists.specs.Fronts.{satellite_of}
use Rattle.nav_lists.specs.Merging.{class_of, moment_of, place}

-- all numbers of an item: GPS time (toe, or the transmission time of an ionosphere), class, the fields, and the transmission time
abbrev pub numbers_of : NavItem → List ℤ
numbers_of x = place x ++ transmission_rank (sent_of x)

-- the lexicographic order of these numbers
abbrev pub by_numbers : NavItem → NavItem → Ordering
by_numbers a b = slice_cmp int_cmp (numbers_of a) (numbers_of b)

-- the items, sorted and without repeats
abbrev pub set_of : List NavItem → List NavItem
set_of items = fold (insert_key by_numbers) [] items

-- what two versions of a record have in common: GPS time, class and satellite
abbrev pub key_of : NavItem → List ℤ
key_of x = pos (moment_of x) ∷ pos (class_of x) ∷ sat_rank (satellite_of x)

-- the order of keys
abbrev pub by_key : NavItem → NavItem → Ordering
by_key a b = slice_cmp int_cmp (key_of a) (key_of b)

-- no name: the number is part of the key, or an issue of data is given again
abbrev pub unnamed : List ℕ
unnamed = []

-- the name of each number of ionospheric parameters, after the key
abbrev pub content_names : IonContent → List (List ℕ)
content_names (OfGps x) =
    codes "alpha0" ∷ codes "alpha1" ∷ codes "alpha2" ∷ codes "alpha3" ∷ codes "beta0" ∷ codes "beta1" ∷ codes "beta2" ∷ codes "beta3"
    ∷ codes "sent_known" ∷ codes "sent" ∷ []
content_names (OfGal x) = codes "ai0" ∷ codes "ai1" ∷ codes "ai2" ∷ codes "regions" ∷ codes "sent_known" ∷ codes "sent" ∷ []

-- the name of each number of an item
abbrev pub names_of : NavItem → List (List ℕ)
names_of (Gps e) =
    unnamed ∷ unnamed ∷ unnamed ∷ unnamed ∷ unnamed
    ∷ codes "iodc" ∷ codes "toc" ∷ codes "af2" ∷ codes "af1" ∷ codes "af0" ∷ codes "tgd"
    ∷ codes "l2_code" ∷ codes "ura" ∷ codes "health" ∷ codes "l2p"
    ∷ codes "iode" ∷ codes "crs" ∷ codes "delta_n" ∷ codes "m0" ∷ codes "cuc" ∷ codes "e" ∷ codes "cus" ∷ codes "root_a" ∷ codes "toe"
    ∷ codes "fit" ∷ codes "toe_week"
    ∷ unnamed ∷ codes "cic" ∷ codes "omega0" ∷ codes "cis" ∷ codes "i0" ∷ codes "crc" ∷ codes "omega" ∷ codes "omega_dot" ∷ codes "idot"
    ∷ codes "sent_known" ∷ codes "sent" ∷ []
names_of (Gal e) =
    unnamed ∷ unnamed ∷ unnamed ∷ unnamed ∷ unnamed
    ∷ codes "iodnav" ∷ codes "toe" ∷ codes "m0" ∷ codes "e" ∷ codes "root_a"
    ∷ unnamed ∷ codes "omega0" ∷ codes "i0" ∷ codes "omega" ∷ codes "idot"
    ∷ unnamed ∷ codes "omega_dot" ∷ codes "delta_n" ∷ codes "cuc" ∷ codes "cus" ∷ codes "crc" ∷ codes "crs" ∷ codes "sisa"
    ∷ unnamed ∷ codes "cic" ∷ codes "cis" ∷ codes "toc" ∷ codes "af0" ∷ codes "af1" ∷ codes "af2"
    ∷ codes "toe_week"
    ∷ codes "bgd_a" ∷ codes "bgd_b" ∷ codes "hs_e5b" ∷ codes "hs_e1b" ∷ codes "dvs_e5b" ∷ codes "dvs_e1b"
    ∷ codes "sent_known" ∷ codes "sent" ∷ []
names_of (Ion e) =
    unnamed ∷ unnamed ∷ unnamed ∷ unnamed ∷ unnamed ∷ unnamed ∷ unnamed ∷ content_names e.content
