use Rattle.std.proofs.Common.{pos, [], ◌∷◌, ◌++◌, refl, ◌∙◌}
use Rattle.std.specs.Cmp.Lexicographic.{slice_cmp}
use Rattle.std.specs.Ordering.{int_cmp}
use Rattle.nav_eph.specs.Ranks.{sat_rank, clock_rank, side_rank, orbit_a_rank, orbit_b_rank}
use Rattle.nav_lists.proofs.Orders.{joined}
use Rattle.nav_lists.proofs.ranked.compare_gps.Goals as goal

pub returns : goal.returns
returns c =
    let h1 = c.cmp.ensures ∙ (λ i. slice_cmp int_cmp (c.sat_numbers.ensures i) (c.sat_numbers-2.ensures i)) in
    let h2 = joined (sat_rank c.args.a.now.sat) (sat_rank c.args.b.now.sat) (clock_rank c.args.a.now.clock) (clock_rank c.args.b.now.clock) c.cmp.result c.cmp-2.result c.then.result refl c.then.ensures h1 (c.cmp-2.ensures ∙ (λ i. slice_cmp int_cmp (c.clock_numbers.ensures i) (c.clock_numbers-2.ensures i))) in
    let h3 = joined ((sat_rank c.args.a.now.sat) ++ (clock_rank c.args.a.now.clock)) ((sat_rank c.args.b.now.sat) ++ (clock_rank c.args.b.now.clock)) (side_rank c.args.a.now.side) (side_rank c.args.b.now.side) c.then.result c.cmp-3.result c.then-2.result refl c.then-2.ensures h2 (c.cmp-3.ensures ∙ (λ i. slice_cmp int_cmp (c.side_numbers.ensures i) (c.side_numbers-2.ensures i))) in
    let h4 = joined (((sat_rank c.args.a.now.sat) ++ (clock_rank c.args.a.now.clock)) ++ (side_rank c.args.a.now.side)) (((sat_rank c.args.b.now.sat) ++ (clock_rank c.args.b.now.clock)) ++ (side_rank c.args.b.now.side)) (orbit_a_rank c.args.a.now.a) (orbit_a_rank c.args.b.now.a) c.then-2.result c.cmp-4.result c.then-3.result refl c.then-3.ensures h3 (c.cmp-4.ensures ∙ (λ i. slice_cmp int_cmp (c.orbit_a_numbers.ensures i) (c.orbit_a_numbers-2.ensures i))) in
    let h5 = joined ((((sat_rank c.args.a.now.sat) ++ (clock_rank c.args.a.now.clock)) ++ (side_rank c.args.a.now.side)) ++ (orbit_a_rank c.args.a.now.a)) ((((sat_rank c.args.b.now.sat) ++ (clock_rank c.args.b.now.clock)) ++ (side_rank c.args.b.now.side)) ++ (orbit_a_rank c.args.b.now.a)) (pos c.args.a.now.fit ∷ pos c.args.a.now.toe_week ∷ []) (pos c.args.b.now.fit ∷ pos c.args.b.now.toe_week ∷ []) c.then-3.result c.cmp-5.result c.then-4.result refl c.then-4.ensures h4 (c.cmp-5.ensures ∙ (λ i. slice_cmp int_cmp (c.fit_and_week.ensures i) (c.fit_and_week-2.ensures i))) in
    let h6 = joined (((((sat_rank c.args.a.now.sat) ++ (clock_rank c.args.a.now.clock)) ++ (side_rank c.args.a.now.side)) ++ (orbit_a_rank c.args.a.now.a)) ++ (pos c.args.a.now.fit ∷ pos c.args.a.now.toe_week ∷ [])) (((((sat_rank c.args.b.now.sat) ++ (clock_rank c.args.b.now.clock)) ++ (side_rank c.args.b.now.side)) ++ (orbit_a_rank c.args.b.now.a)) ++ (pos c.args.b.now.fit ∷ pos c.args.b.now.toe_week ∷ [])) (orbit_b_rank c.args.a.now.b) (orbit_b_rank c.args.b.now.b) c.then-4.result c.cmp-6.result c.then-5.result refl c.then-5.ensures h5 (c.cmp-6.ensures ∙ (λ i. slice_cmp int_cmp (c.orbit_b_numbers.ensures i) (c.orbit_b_numbers-2.ensures i))) in
    h6
