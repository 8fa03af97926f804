-- Laws of the frames found between two rests of bytes.
use Rattle.std.proofs.Common.{ℕ, Bool, true, List, [], ◌++◌, refl, sym, ap, ◌∙◌, arith, subst, append_assoc, length-append}
use Rattle.std.specs.Prelude.{Option}
use Rattle.std.specs.Io.KnownBytes.{Appends}
use Rattle.std.proofs.KnownBytes.{Appends-nil, Appends-trans}
use Rattle.std.proofs.lemmas.Grind.{flat_map-append}
use Rattle.framing.specs.Frames.{decided, frames}
use Rattle.streams.specs.FrameRuns.{Goes}

-- nothing was given
pub goes_nowhere : (line : List ℕ → List ℕ) (more : Bool) (rest : List ℕ) (w : Option (List ℕ)) (n : ℕ) → Goes line more rest rest w w n n
goes_nowhere line more rest w n = record {
  given = [];
  stream = λ following last. refl;
  decides = λ following unfinished. refl;
  text = Appends-nil w;
  counts = omega arith;
}

-- one after another
pub goes_on : (line : List ℕ → List ℕ) (more : Bool) (a b c : List ℕ) (u v w : Option (List ℕ)) (k m n : ℕ)
    → Goes line more a b u v k m → Goes line more b c v w m n → Goes line more a c u w k n
goes_on line more a b c u v w k m n first second = record {
  given = first.given ++ second.given;
  stream = λ following last.
      first.stream following last ∙ ap (λ (l : List (List ℕ)). first.given ++ l) (second.stream following last)
      ∙ sym (append_assoc first.given second.given (frames (c ++ following)));
  decides = λ following unfinished.
      first.decides following unfinished ∙ ap (λ (l : List (List ℕ)). first.given ++ l) (second.decides following unfinished)
      ∙ sym (append_assoc first.given second.given (decided (c ++ following)));
  text = subst (λ (l : List ℕ). Appends u w l) (sym (flat_map-append line first.given second.given)) (Appends-trans u v w _ _ first.text second.text);
  counts = omega (arith, first.counts, second.counts, length-append first.given second.given);
}

-- bytes were appended
pub goes_fed : (line : List ℕ → List ℕ) (a b c : List ℕ) (v w : Option (List ℕ)) (k n : ℕ) → Goes line true a b v w k n → Goes line true (a ++ c) (b ++ c) v w k n
goes_fed line a b c v w k n goes = record {
  given = goes.given;
  stream = λ following last.
      ap frames (append_assoc a c following) ∙ goes.stream (c ++ following) (λ never. cc)
      ∙ ap (λ (l : List ℕ). goes.given ++ frames l) (sym (append_assoc b c following));
  decides = λ following unfinished.
      ap decided (append_assoc a c following) ∙ goes.decides (c ++ following) unfinished
      ∙ ap (λ (l : List ℕ). goes.given ++ decided l) (sym (append_assoc b c following));
  text = goes.text;
  counts = goes.counts;
}
