use Rattle.std.proofs.Common.{◌≡◌, ℕ, ◌+◌, List, ◌++◌, ap, ◌∙◌}
use Rattle.nav_eph.specs.declared.galileo.GalHealth.{GalHealth}
use Rattle.nav_eph.specs.declared.ion.GalIon.{GalIon}
use Rattle.inav.specs.Writing.{word1_bytes, word2_bytes, word3_bytes, word4_bytes, word5_bytes}
use Rattle.sent_captures.specs.Slots.{galileo_second, galileo_week_number, no_ionosphere, page_items, text_of_items}
use Rattle.sent_captures.proofs.Texts.{five_pages}
use Rattle.sent_captures.proofs.slot.push_galileo.Goals as goal

word5_same : (h : GalHealth) (i j : GalIon) (v w s t : ℕ) → i ≡ j → v ≡ w → s ≡ t → word5_bytes h i v s ≡ word5_bytes h j w t
word5_same h i j v w s t a b d = λ k. word5_bytes h (a k) (b k) (d k)

pub returns : goal.returns
returns c =
    let s = c.args.stamp in
    let e = c.args.e.now in
    let page : ℕ → List ℕ → List ℕ = λ at word. text_of_items (page_items at e.sat word) in
    five_pages (page_items s e.sat (word1_bytes e.w1)) (page_items (s + 2) e.sat (word2_bytes e.w2)) (page_items (s + 4) e.sat (word3_bytes e.w3))
    (page_items (s + 6) e.sat (word4_bytes e.w4 e.sat.number))
    (page_items (s + 8) e.sat (word5_bytes e.health no_ionosphere (galileo_week_number e) (galileo_second e)))
    c.push_page.new.text.items c.push_page-2.new.text.items c.push_page-3.new.text.items c.push_page-4.new.text.items c.push_page-5.new.text.items
    (c.push_page.ensures.text ∙ ap (λ old. old ++ page s c.write_word1.result) c.requires.empty ∙ ap (page s) c.write_word1.ensures.bytes)
    (c.push_page-2.ensures.text ∙ ap (λ w. c.push_page.new.text.items ++ page (s + 2) w) c.write_word2.ensures.bytes)
    (c.push_page-3.ensures.text ∙ ap (λ w. c.push_page-2.new.text.items ++ page (s + 4) w) c.write_word3.ensures.bytes)
    (c.push_page-4.ensures.text ∙ ap (λ w. c.push_page-3.new.text.items ++ page (s + 6) w) c.write_word4.ensures.bytes)
    (c.push_page-5.ensures.text ∙ ap (λ w. c.push_page-4.new.text.items ++ page (s + 8) w)
    (c.write_word5-word.ensures.bytes ∙ word5_same e.health c.nothing_stated.result no_ionosphere c.week_number.result (galileo_week_number e)
    c.toe_second.result (galileo_second e) c.nothing_stated.ensures c.week_number.ensures c.toe_second.ensures))
