use Rattle.std.proofs.Common.{◌≡◌, ℕ, List, [], ◌∷◌, ◌++◌, length, slice_index_or, refl, ap, ◌∙◌, arith}
use Rattle.rinex_read.specs.Lines.{columns}
use Rattle.rinex_read.proofs.form3.titled.Goals as goal

-- the characters of three columns and of four
abbrev three : List ℕ → List ℕ → List ℕ
three s rest = slice_index_or s 0 0 ∷ slice_index_or s 1 0 ∷ slice_index_or s 2 0 ∷ rest

abbrev four : List ℕ → List ℕ
four m = slice_index_or m 0 0 ∷ slice_index_or m 1 0 ∷ slice_index_or m 2 0 ∷ slice_index_or m 3 0 ∷ []

three_columns : (line rest : List ℕ) → three (columns 0 3 line) rest ≡ columns 0 3 line ++ rest
unfolding columns
three_columns line rest = refl

all_four : (m : List ℕ) → length m ≡ 4 → four m ≡ m
all_four [] h = absurd (omega arith)
all_four (a ∷ []) h = absurd (omega arith)
all_four (a ∷ b ∷ []) h = absurd (omega arith)
all_four (a ∷ b ∷ c ∷ []) h = absurd (omega arith)
all_four (a ∷ b ∷ c ∷ d ∷ []) h = refl
all_four (a ∷ b ∷ c ∷ d ∷ e ∷ m) h = absurd (omega arith)

title_is : (s line m : List ℕ) → s ≡ columns 0 3 line → length m ≡ 4
    → 62 ∷ 32 ∷ 69 ∷ 80 ∷ 72 ∷ 32 ∷ three s (32 ∷ four m) ≡ 62 ∷ 32 ∷ 69 ∷ 80 ∷ 72 ∷ 32 ∷ (columns 0 3 line ++ 32 ∷ m)
title_is s line m e h =
    ap (λ (t : List ℕ). 62 ∷ 32 ∷ 69 ∷ 80 ∷ 72 ∷ 32 ∷ three t (32 ∷ four m)) e
    ∙ ap (λ (t : List ℕ). 62 ∷ 32 ∷ 69 ∷ 80 ∷ 72 ∷ 32 ∷ three (columns 0 3 line) (32 ∷ t)) (all_four m h)
    ∙ ap (λ (t : List ℕ). 62 ∷ 32 ∷ 69 ∷ 80 ∷ 72 ∷ 32 ∷ t) (three_columns line (32 ∷ m))

pub returns : goal.returns
returns c = title_is c.columns-sat.result.now c.args.line.now c.args.message.now c.columns-sat.ensures.text (omega arith)
