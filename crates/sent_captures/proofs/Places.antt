-- The page at an index of the table, and the page of an hour.
use Rattle.std.proofs.Common.{◌≡◌, ℕ, zero, suc, ◌+◌, ◌-◌, ◌*◌, ◌/◌, ◌%◌, ◌<◌, ◌≤◌, min, List, subst, refl, arith}
use Rattle.nav_eph.specs.declared.ion.GalIon.{GalIon}
use Rattle.sent_captures.specs.declared.values.GalValues.{GalValues}
use Rattle.sent_captures.specs.declared.pages.Page.{Page}
use Rattle.sent_captures.specs.Lines.{ArePage, IsWordOf}
use Rattle.sent_captures.specs.Mirrors.{IsPageIn}

-- word types 1 to 4 do not depend on the time of transmission
at_second : (v : GalValues) (ion : GalIon) (number wn s t m : ℕ) (word : List ℕ) → (m ≡ 4 → s ≡ t) → IsWordOf v ion number wn s m word → IsWordOf v ion number wn t m word
at_second v ion number wn s t zero word same h = h
at_second v ion number wn s t (suc zero) word same h = h
at_second v ion number wn s t (suc (suc zero)) word same h = h
at_second v ion number wn s t (suc (suc (suc zero))) word same h = h
at_second v ion number wn s t (suc (suc (suc (suc zero)))) word same h =
    subst (λ x. IsWordOf v ion number wn x 4 word) (same refl) h
at_second v ion number wn s t (suc (suc (suc (suc (suc m))))) word same h = h

-- the page in the table at the index of a satellite and a slot is the one of the hour
pub page_of_hour : (v : ℕ → GalValues) (ion : GalIon) (r number slot j : ℕ) (page : Page) → 1 ≤ number → slot < 124 → min slot 4 ≡ j % 15
    → (j % 15 ≡ 4 → 30 * (slot - 4) + 8 ≡ 2 * j)
    → IsPageIn (v ((124 * (number - 1) + slot) / 124 + 1)) ion r (124 * (number - 1) + slot) page
    → ArePage (v number) ion number ((r - 1024) % 4096) (2 * j) (j % 15) page.even page.odd
page_of_hour v ion r number slot j page some inside place second h =
    let sat : (124 * (number - 1) + slot) / 124 + 1 ≡ number = omega arith in
    let rest : (124 * (number - 1) + slot) % 124 ≡ slot = omega arith in
    let wn = (r - 1024) % 4096 in
    let one : IsWordOf (v number) ion number wn (30 * ((124 * (number - 1) + slot) % 124 - 4) + 8) (min ((124 * (number - 1) + slot) % 124) 4) h.word =
    subst (λ x. IsWordOf (v x) ion x wn (30 * ((124 * (number - 1) + slot) % 124 - 4) + 8) (min ((124 * (number - 1) + slot) % 124) 4) h.word) sat h.word_is in
    let two : IsWordOf (v number) ion number wn (30 * (slot - 4) + 8) (min slot 4) h.word =
    subst (λ x. IsWordOf (v number) ion number wn (30 * (x - 4) + 8) (min x 4) h.word) rest one in
    let three : IsWordOf (v number) ion number wn (30 * (slot - 4) + 8) (j % 15) h.word =
    subst (λ x. IsWordOf (v number) ion number wn (30 * (slot - 4) + 8) x h.word) place two in
    record {
      word = h.word;
      size = h.size;
      word_is = at_second (v number) ion number wn (30 * (slot - 4) + 8) (2 * j) (j % 15) h.word second three;
      halves = h.halves;
    }
