-- What a write that fills a room has appended.
use Rattle.std.proofs.Common.{◌≡◌, ℕ, List, ◌++◌, length, take, drop, Some, sym, ap, ◌∙◌, arith}
use Rattle.std.proofs.lemmas.List.{take-append-drop, take_all}
use Rattle.nav_io.specs.Prefix.{AppendsPrefix}

pub appended : (n : ℕ) (old new piece : List ℕ) → new ≡ old ++ take n piece → AppendsPrefix (Some old) (Some new) piece
appended n old new piece is = (take n piece, (drop n piece, sym (take-append-drop n piece)), is)

-- and of one that fits
pub appended_whole : (n : ℕ) (old new piece : List ℕ) → n ≡ length piece → new ≡ old ++ take n piece → new ≡ old ++ piece
appended_whole n old new piece all is = is ∙ ap (λ (l : List ℕ). old ++ l) (take_all n piece (omega (arith, all)))
