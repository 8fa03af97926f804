-- Laws of writes that failed.
use Rattle.std.proofs.Common.{ℕ, Bool, true, List, ◌++◌, sym, ap, ◌∙◌, subst, append_assoc}
use Rattle.std.specs.Prelude.{Option}
use Rattle.std.specs.List.{flat_map}
use Rattle.std.proofs.KnownBytes.{Appends-trans}
use Rattle.std.proofs.lemmas.Grind.{flat_map-append}
use Rattle.nav_io.specs.Prefix.{AppendsPrefix}
use Rattle.framing.specs.Frames.{frames}
use Rattle.streams.specs.FrameRuns.{Goes, Breaks}

-- lines were written, and then a write failed
pub breaks_on : (line : List ℕ → List ℕ) (more : Bool) (a b : List ℕ) (u v w : Option (List ℕ)) (k n : ℕ)
    → Goes line more a b u v k n → Breaks line more b v w → Breaks line more a u w
breaks_on line more a b u v w k n goes breaks = record {
  text = λ following last.
      let after = breaks.text following last in (
        flat_map line goes.given ++ after.0,
        (
          after.1.0,
          ap (flat_map line) (goes.stream following last) ∙ flat_map-append line goes.given (frames (b ++ following))
              ∙ ap (λ (l : List ℕ). flat_map line goes.given ++ l) after.1.1
              ∙ sym (append_assoc (flat_map line goes.given) after.0 after.1.0),
        ),
        Appends-trans u v w _ _ goes.text after.2,
      );
}

-- a write failed before more bytes came
pub breaks_fed : (line : List ℕ → List ℕ) (a c : List ℕ) (v w : Option (List ℕ)) → Breaks line true a v w → Breaks line true (a ++ c) v w
breaks_fed line a c v w breaks = record {
  text = λ following last.
      subst (λ (l : List ℕ). AppendsPrefix v w (flat_map line (frames l))) (sym (append_assoc a c following)) (breaks.text (c ++ following) (λ never. cc));
}
