use Rattle.std.proofs.Common.{◌≡◌, ◌<◌, ◌∷◌, ◌&&◌, ◌==◌, Bool, false, true, ℕ, List, if◌then◌else◌, ap, arith, length, nat_lt, take, ◌∙◌}
use Rattle.std.proofs.lemmas.Bool.{lt-ltb, ne_eqb}
use Rattle.whole_file.specs.Kinds.{binary_kind, kind_of, or_else, prefix_kind, text_kind, decided_by}
use Rattle.whole_file.specs.Units.{first_unit}
use Rattle.whole_file.specs.declared.kinds.Kind.{Kind}
use Rattle.whole_file.specs.declared.kinds.Kind.TheVariants.{Empty, Stream, Unknown}
use Rattle.whole_file.proofs.FirstUnit.{frame_first}
use Rattle.whole_file.proofs.laws.a_frame_decides_a_stream.Goals as goal

-- a preamble and six reserved bits of 0 tell a stream
head : (second : ℕ) (rest : List ℕ) → second < 4 → prefix_kind (211 ∷ second ∷ take 78 rest) ≡ Stream
unfolding prefix_kind binary_kind
head second rest few =
    let prefix = 211 ∷ second ∷ take 78 rest in
    let some : (length prefix == 0) ≡ false = ne_eqb (length prefix) 0 (λ none. omega (arith, none)) in
    let more : nat_lt 1 (length prefix) ≡ true = lt-ltb 1 (length prefix) (omega arith) in
    ap (λ (b : Bool). if b then Empty else or_else (binary_kind prefix) (text_kind prefix)) some
    ∙ ap (λ (b : Bool). or_else (if b && nat_lt second 4 then Stream else Unknown) (text_kind prefix)) more
    ∙ ap (λ (b : Bool). or_else (if b then Stream else Unknown) (text_kind prefix)) (lt-ltb second 4 few)

pub returns : goal.returns
unfolding kind_of
returns c = λ second rest few whole.
    ap (λ (h : Kind). decided_by h (first_unit (take 65536 (211 ∷ second ∷ rest)))) (head second rest few)
    ∙ ap (decided_by Stream) (frame_first (second ∷ take 65534 rest) whole)
