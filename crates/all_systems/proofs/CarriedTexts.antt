-- The carried records, with a record more.
use Rattle.std.proofs.Common.{◌≡◌, ℕ, List, [], ◌∷◌, ◌++◌, sym, ap, ◌∙◌, append_assoc, append-nil}
use Rattle.all_systems.specs.Files.{carried_in, carried_lines}
use Rattle.all_systems.specs.FileReadings.{LineRead}

pub carried_more : (reads : List LineRead) (read : LineRead) → carried_in (reads ++ read ∷ []) ≡ carried_in reads ++ carried_lines read.reading
carried_more [] read = append-nil (carried_lines read.reading)
carried_more (r ∷ rs) read =
    ap (λ (l : List (List (List ℕ))). carried_lines r.reading ++ l) (carried_more rs read)
    ∙ sym (append_assoc (carried_lines r.reading) (carried_in rs) (carried_lines read.reading))
