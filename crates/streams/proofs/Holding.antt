-- Laws of lines that are held before they are written.
use Rattle.std.proofs.Common.{◌+◌, ℕ, Bool, List, [], ◌∷◌, ◌++◌, refl, sym, ap, ◌∙◌, arith, subst, append_assoc, append-nil, length-append}
use Rattle.std.specs.Prelude.{Option}
use Rattle.std.specs.List.{flat_map}
use Rattle.std.specs.Io.KnownBytes.{Appends}
use Rattle.std.proofs.KnownBytes.{Appends-nil, Appends-trans}
use Rattle.std.proofs.lemmas.Grind.{flat_map-append}
use Rattle.nav_io.specs.Prefix.{AppendsPrefix}
use Rattle.framing.specs.Frames.{decided, frames}
use Rattle.framing.specs.State.{TakesFrame, TakesNone}
use Rattle.streams.specs.FrameRuns.{Goes, Breaks, Gathers, Holds}
use Rattle.streams.proofs.DecidedLemmas.{decided_frame, decided_none}

-- nothing was given, and nothing is held
pub holds_nothing : (line : List ℕ → List ℕ) (more : Bool) (rest : List ℕ) (w : Option (List ℕ)) (n : ℕ) → Holds line more rest rest w w [] n n
holds_nothing line more rest w n = record {
  given = [];
  stream = λ following last. refl;
  decides = λ following unfinished. refl;
  out = [];
  text = Appends-nil w;
  same = refl;
  counts = omega arith;
}

-- a frame was given, and its line gathered
pub holds_frame : (line : List ℕ → List ℕ) (more : Bool) (a b frame c : List ℕ) (u v w : Option (List ℕ)) (held kept : List ℕ) (k m : ℕ)
    → Holds line more a b u v held k m → TakesFrame more b frame c → Gathers v w held kept (line frame) → Holds line more a c u w kept k (m + 1)
holds_frame line more a b frame c u v w held kept k m holds takes gathers = record {
  given = holds.given ++ (frame ∷ []);
  stream = λ following last.
      holds.stream following last ∙ ap (λ (l : List (List ℕ)). holds.given ++ l) (takes.stream following last)
      ∙ sym (append_assoc holds.given (frame ∷ []) (frames (c ++ following)));
  decides = λ following unfinished.
      holds.decides following unfinished
      ∙ ap (λ (l : List (List ℕ)). holds.given ++ l) (decided_frame b frame c (subst (λ m. TakesFrame m b frame c) unfinished takes) following)
      ∙ sym (append_assoc holds.given (frame ∷ []) (decided (c ++ following)));
  out = holds.out ++ gathers.out;
  text = Appends-trans u v w _ _ holds.text gathers.text;
  same =
      flat_map-append line holds.given (frame ∷ [])
      ∙ ap (λ (l : List ℕ). flat_map line holds.given ++ l) (append-nil (line frame))
      ∙ ap (λ (l : List ℕ). l ++ line frame) holds.same
      ∙ append_assoc holds.out held (line frame)
      ∙ ap (λ (l : List ℕ). holds.out ++ l) gathers.same
      ∙ sym (append_assoc holds.out gathers.out kept);
  counts = omega (arith, holds.counts, length-append holds.given (frame ∷ []));
}

-- no frame is left
pub holds_none : (line : List ℕ → List ℕ) (more : Bool) (a b c : List ℕ) (u v : Option (List ℕ)) (held : List ℕ) (k n : ℕ)
    → Holds line more a b u v held k n → TakesNone more b c → Holds line more a c u v held k n
holds_none line more a b c u v held k n holds takes = record {
  given = holds.given;
  stream = λ following last. holds.stream following last ∙ ap (λ (l : List (List ℕ)). holds.given ++ l) (takes.stream following last);
  decides = λ following unfinished.
      holds.decides following unfinished
      ∙ ap (λ (l : List (List ℕ)). holds.given ++ l) (decided_none b c (subst (λ m. TakesNone m b c) unfinished takes) following);
  out = holds.out;
  text = holds.text;
  same = holds.same;
  counts = holds.counts;
}

-- what was held was written
pub holds_goes : (line : List ℕ → List ℕ) (more : Bool) (a b : List ℕ) (u v w : Option (List ℕ)) (held : List ℕ) (k n : ℕ)
    → Holds line more a b u v held k n → Appends v w held → Goes line more a b u w k n
holds_goes line more a b u v w held k n holds text = record {
  given = holds.given;
  stream = holds.stream;
  decides = holds.decides;
  text = subst (λ (l : List ℕ). Appends u w l) (sym holds.same) (Appends-trans u v w _ _ holds.text text);
  counts = holds.counts;
}

-- a write of it failed
pub holds_breaks : (line : List ℕ → List ℕ) (more : Bool) (a b : List ℕ) (u v w : Option (List ℕ)) (held : List ℕ) (k n : ℕ)
    → Holds line more a b u v held k n → AppendsPrefix v w held → Breaks line more a u w
holds_breaks line more a b u v w held k n holds (prefix, whole, out) = record {
  text = λ following last. (
    holds.out ++ prefix,
    (
      whole.0 ++ flat_map line (frames (b ++ following)),
      ap (flat_map line) (holds.stream following last) ∙ flat_map-append line holds.given (frames (b ++ following))
          ∙ ap (λ (l : List ℕ). l ++ flat_map line (frames (b ++ following))) (holds.same ∙ ap (λ (l : List ℕ). holds.out ++ l) whole.1)
          ∙ append_assoc holds.out (prefix ++ whole.0) (flat_map line (frames (b ++ following)))
          ∙ ap (λ (l : List ℕ). holds.out ++ l) (append_assoc prefix whole.0 (flat_map line (frames (b ++ following))))
          ∙ sym (append_assoc holds.out prefix (whole.0 ++ flat_map line (frames (b ++ following)))),
    ),
    Appends-trans u v w _ _ holds.text out,
  );
}
