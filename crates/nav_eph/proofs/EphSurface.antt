-- What proofs of other crates cite: values determined by their numbers, `==` of values with many fields, and the tests of
-- items and parts.
pub use Rattle.nav_eph.proofs.NumberLemmas.{one_side, one_tag, one_health, one_gps_ionosphere, one_galileo_ionosphere, one_transmission}
pub use Rattle.nav_eph.proofs.SameFields.{clock_decided, orbit_a_decided, orbit_b_decided, word2_decided, word3_decided, word4_decided, gps_ion_decided, gal_ion_decided}
pub use Rattle.nav_eph.proofs.RankLemmas.{is_alike-decides, same_item-decides, same_part-decides, ranks_alike, same_numbers-decides}
