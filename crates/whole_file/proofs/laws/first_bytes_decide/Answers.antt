use Rattle.std.proofs.Common.{ap, arith, ◌∙◌, take, List, ℕ}
use Rattle.std.proofs.lemmas.List.{take-take}
use Rattle.whole_file.specs.Kinds.{kind_of, prefix_kind, decided_by}
use Rattle.whole_file.specs.Units.{first_unit}
use Rattle.whole_file.proofs.laws.first_bytes_decide.Goals as goal

pub returns : goal.returns
unfolding kind_of
returns c = λ n bytes many.
    ap (λ (p : List ℕ). decided_by (prefix_kind p) (first_unit (take 65536 (take n bytes)))) (take-take 80 n bytes (omega (arith, many)))
    ∙ ap (λ (p : List ℕ). decided_by (prefix_kind (take 80 bytes)) (first_unit p)) (take-take 65536 n bytes many)
