use Rattle.std.proofs.Common.{◌≡◌, ◌+◌, ◌-◌, ◌*◌, ◌/◌, ◌<◌, ◌∙◌, length, get_or, ap, subst, arith}
use Rattle.sent_captures.specs.Draws.{state_after}
use Rattle.sent_captures.specs.Values.{gps_values, gal_values, gps_ion, gal_ion, gps_of, gal_of, gps_ion_of, gal_ion_of}
use Rattle.sent_captures.specs.Mirrors.{IsPageIn}
use Rattle.sent_captures.proofs.States.{state_after-add}
use Rattle.sent_captures.proofs.senders.senders_of.Goals as goal

pub returns-clause-tables : goal.returns-clause-tables
unfolding gps_of gal_of gps_ion_of gal_ion_of
returns-clause-tables c =
    let seed = c.args.seed in
    let n = c.args.sats in
    let gps = c.in_ok-gps.ensures in
    let gal = c.in_ok-gal.ensures in
    let pages = c.in_ok-pages.ensures in
    let first : c.from-state.result ≡ seed = c.from-state.ensures in
    let after_gps : c.draw_all_gps.new.state ≡ state_after seed (24 * n) = gps.after ∙ ap (λ x. state_after x (24 * n)) first in
    let after_gal : c.draw_all_gal.new.state ≡ state_after seed (24 * n + 21 * n) =
    gal.after ∙ ap (λ x. state_after x (21 * n)) after_gps ∙ state_after-add seed (24 * n) (21 * n) in
    let after_ion : c.draw_gps_ion-ion.new.state ≡ state_after seed (24 * n + 21 * n + 8) =
    c.draw_gps_ion-ion.ensures.after ∙ ap (λ x. state_after x 8) after_gal ∙ state_after-add seed (24 * n + 21 * n) 8 in
    let gal_ion_is : c.draw_gal_ion-gal_ion.result ≡ gal_ion_of seed n = c.draw_gal_ion-gal_ion.ensures ∙ ap gal_ion after_ion in
    let slice : c.as_slice.result.now ≡ c.in_ok-gal.gal.items = c.as_slice.ensures.value in
    let count : length c.as_slice.result.now ≡ n = ap length slice ∙ gal.count in
    record {
      gps_count = gps.count;
      gps = λ i low d.
          let one : i ≡ i + 1 - 1 = omega arith in
          gps.values i low d ∙ ap (λ x. gps_values (state_after x (24 * i))) first ∙ ap (λ k. gps_values (state_after seed (24 * k))) one;
      ion = c.draw_gps_ion-ion.ensures.values ∙ ap gps_ion after_gal;
      pages_count = pages.count ∙ ap (λ k. 124 * k) count;
      pages = λ q low d.
          let v = gal_of seed n 0 in
          let sat : q / 124 < n = omega arith in
          let inside : q < 124 * length c.as_slice.result.now = omega arith in
          let one : q / 124 ≡ q / 124 + 1 - 1 = omega arith in
          let value : get_or c.as_slice.result.now (q / 124) v ≡ gal_of seed n (q / 124 + 1) =
          ap (λ xs. get_or xs (q / 124) v) slice ∙ gal.values (q / 124) sat v ∙ ap (λ x. gal_values (state_after x (21 * (q / 124)))) after_gps
          ∙ ap gal_values (state_after-add seed (24 * n) (21 * (q / 124))) ∙ ap (λ k. gal_values (state_after seed (24 * n + 21 * k))) one in
          subst (λ x. IsPageIn x (gal_ion_of seed n) c.args.week q (get_or c.in_ok-pages.pages.items q d)) value
          (subst (λ x. IsPageIn (get_or c.as_slice.result.now (q / 124) v) x c.args.week q (get_or c.in_ok-pages.pages.items q d)) gal_ion_is (pages.pages q v inside d));
      empty = c.empty_page.ensures;
    }
