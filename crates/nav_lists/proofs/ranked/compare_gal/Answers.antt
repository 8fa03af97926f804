use Rattle.std.proofs.Common.{pos, [], ◌∷◌, ◌++◌, refl, ◌∙◌}
use Rattle.std.specs.Cmp.Lexicographic.{slice_cmp}
use Rattle.std.specs.Ordering.{int_cmp}
use Rattle.nav_eph.specs.Ranks.{sat_rank, word1_rank, word2_rank, word3_rank, word4_rank, health_rank}
use Rattle.nav_lists.proofs.Orders.{joined}
use Rattle.nav_lists.proofs.ranked.compare_gal.Goals as goal

pub returns : goal.returns
returns c =
    let h1 = c.cmp.ensures ∙ (λ i. slice_cmp int_cmp (c.sat_numbers.ensures i) (c.sat_numbers-2.ensures i)) in
    let h2 = joined (sat_rank c.args.a.now.sat) (sat_rank c.args.b.now.sat) (word1_rank c.args.a.now.w1) (word1_rank c.args.b.now.w1) c.cmp.result c.cmp-2.result c.then.result refl c.then.ensures h1 (c.cmp-2.ensures ∙ (λ i. slice_cmp int_cmp (c.word1_numbers.ensures i) (c.word1_numbers-2.ensures i))) in
    let h3 = joined ((sat_rank c.args.a.now.sat) ++ (word1_rank c.args.a.now.w1)) ((sat_rank c.args.b.now.sat) ++ (word1_rank c.args.b.now.w1)) (word2_rank c.args.a.now.w2) (word2_rank c.args.b.now.w2) c.then.result c.cmp-3.result c.then-2.result refl c.then-2.ensures h2 (c.cmp-3.ensures ∙ (λ i. slice_cmp int_cmp (c.word2_numbers.ensures i) (c.word2_numbers-2.ensures i))) in
    let h4 = joined (((sat_rank c.args.a.now.sat) ++ (word1_rank c.args.a.now.w1)) ++ (word2_rank c.args.a.now.w2)) (((sat_rank c.args.b.now.sat) ++ (word1_rank c.args.b.now.w1)) ++ (word2_rank c.args.b.now.w2)) (word3_rank c.args.a.now.w3) (word3_rank c.args.b.now.w3) c.then-2.result c.cmp-4.result c.then-3.result refl c.then-3.ensures h3 (c.cmp-4.ensures ∙ (λ i. slice_cmp int_cmp (c.word3_numbers.ensures i) (c.word3_numbers-2.ensures i))) in
    let h5 = joined ((((sat_rank c.args.a.now.sat) ++ (word1_rank c.args.a.now.w1)) ++ (word2_rank c.args.a.now.w2)) ++ (word3_rank c.args.a.now.w3)) ((((sat_rank c.args.b.now.sat) ++ (word1_rank c.args.b.now.w1)) ++ (word2_rank c.args.b.now.w2)) ++ (word3_rank c.args.b.now.w3)) (word4_rank c.args.a.now.w4) (word4_rank c.args.b.now.w4) c.then-3.result c.cmp-5.result c.then-4.result refl c.then-4.ensures h4 (c.cmp-5.ensures ∙ (λ i. slice_cmp int_cmp (c.word4_numbers.ensures i) (c.word4_numbers-2.ensures i))) in
    let h6 = joined (((((sat_rank c.args.a.now.sat) ++ (word1_rank c.args.a.now.w1)) ++ (word2_rank c.args.a.now.w2)) ++ (word3_rank c.args.a.now.w3)) ++ (word4_rank c.args.a.now.w4)) (((((sat_rank c.args.b.now.sat) ++ (word1_rank c.args.b.now.w1)) ++ (word2_rank c.args.b.now.w2)) ++ (word3_rank c.args.b.now.w3)) ++ (word4_rank c.args.b.now.w4)) (pos c.args.a.now.toe_week ∷ []) (pos c.args.b.now.toe_week ∷ []) c.then-4.result c.cmp-6.result c.then-5.result refl c.then-5.ensures h5 (c.cmp-6.ensures ∙ (λ i. slice_cmp int_cmp (c.week_number.ensures i) (c.week_number-2.ensures i))) in
    let h7 = joined ((((((sat_rank c.args.a.now.sat) ++ (word1_rank c.args.a.now.w1)) ++ (word2_rank c.args.a.now.w2)) ++ (word3_rank c.args.a.now.w3)) ++ (word4_rank c.args.a.now.w4)) ++ (pos c.args.a.now.toe_week ∷ [])) ((((((sat_rank c.args.b.now.sat) ++ (word1_rank c.args.b.now.w1)) ++ (word2_rank c.args.b.now.w2)) ++ (word3_rank c.args.b.now.w3)) ++ (word4_rank c.args.b.now.w4)) ++ (pos c.args.b.now.toe_week ∷ [])) (health_rank c.args.a.now.health) (health_rank c.args.b.now.health) c.then-5.result c.cmp-7.result c.then-6.result refl c.then-6.ensures h6 (c.cmp-7.ensures ∙ (λ i. slice_cmp int_cmp (c.health_numbers.ensures i) (c.health_numbers-2.ensures i))) in
    h7
