-- What the steps over page parts give and take.
use Rattle.std.proofs.Common.{◌≡◌, inl, ℕ, ◌+◌, List, ◌∷◌, drop, refl, sym, ap, ◌∙◌, subst}
use Rattle.std.specs.Prelude.{Option, Some, slice_get}
use Rattle.std.proofs.lemmas.List.{drop_more}
use Rattle.std.proofs.lemmas.Option.{get_or_from_slice_get, slice_get_within}
use Rattle.nav_bits.specs.Bits.{number_at}
use Rattle.nav_eph.specs.Satellite.{IsSat, Satellite}
use Rattle.nav_eph.specs.declared.sat.System.TheVariants.{Gal}
use Rattle.nav_eph.specs.declared.signal.Signal.{Signal}
use Rattle.inav.specs.Pages.{kept_of}
use Rattle.inav.specs.Keeping.{Keeping, Words, stamped}
use Rattle.c_calls.specs.Pages.{page_bits}
use Rattle.c_calls.specs.declared.page_raw.PageBits.{PageBits}
use Rattle.c_calls.specs.declared.state_pages.JoinedPage.{JoinedPage}
use Rattle.c_calls.specs.PagePairs.{GivesPage, PagesState, TakesBits, TakesBySignal, TakesPart, signal_in}
use Rattle.c_calls.specs.Waiting.{stamp_in, words_in}

abbrev pub kept_at : Keeping → Option Words → ℕ → PagesState
kept_at halves joined given = record { halves = halves; words = words_in joined given; stamp = stamp_in joined }

pub gives : (halves : Keeping) (joined : Words) (given : ℕ) (word : List ℕ) (old : JoinedPage) (page : PageBits) (stamp : ℕ)
    → slice_get joined.words given ≡ Some word → page ≡ page_bits word → stamp ≡ joined.stamp
    → GivesPage (kept_at halves (Some joined) given) (kept_at halves (Some joined) (given + 1)) old (record { page = page; stamp = stamp }) (words_in (Some joined) given) 1
gives halves joined given word old page stamp at is when =
    let more : drop given joined.words ≡ word ∷ drop (given + 1) joined.words =
    drop_more joined.words given word (slice_get_within joined.words given word at)
    ∙ ap (λ (w : List ℕ). w ∷ drop (given + 1) joined.words) (get_or_from_slice_get joined.words given word word at) in
    subst (λ (l : List (List ℕ)). GivesPage (kept_at halves (Some joined) given) (kept_at halves (Some joined) (given + 1)) old (record { page = page; stamp = stamp }) l 1) (sym more) (
      refl,
      refl,
      ap (λ (p : PageBits). let it : JoinedPage = record { page = p; stamp = stamp } in it) is
          ∙ ap (λ (n : ℕ). let it : JoinedPage = record { page = page_bits word; stamp = n } in it) when,
    )

pub takes : (old new : PagesState) (part bits : List ℕ) (stamp satellite number : ℕ) (sat : Satellite) (signal : Signal) (half : ℕ)
    → IsSat Gal satellite → sat ≡ record { system = Gal; number = satellite } → bits ≡ part → (number_at bits 1 1 ≡ 1 → ⊥)
    → half ≡ kept_of (number_at bits 0 120) → Some signal ≡ signal_in number → TakesPart old new (stamped stamp sat signal half)
    → TakesBits old new part stamp satellite number 0
takes old new part bits stamp satellite number sat signal half is_sat sat_is bits_are calm half_is signal_is took = record {
  no_satellite = λ none. absurd (none is_sat);
  alert = λ is alert. absurd (calm (ap (λ (l : List ℕ). number_at l 1 1) bits_are ∙ alert));
  taken = λ is other. subst (λ (o : Option Signal). TakesBySignal old new part stamp satellite o 0) signal_is
      (inl (
        refl,
        subst (λ (h : ℕ). TakesPart old new (stamped stamp (record { system = Gal; number = satellite }) signal h)) (half_is ∙ ap (λ (l : List ℕ). kept_of (number_at l 0 120)) bits_are)
            (subst (λ (s : Satellite). TakesPart old new (stamped stamp s signal half)) sat_is took),
      ));
}
