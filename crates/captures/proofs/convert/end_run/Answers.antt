use Rattle.std.proofs.Common.{ℕ, List, [], Result, Ok, Err, sym, subst, ◌∙◌, append-nil}
use Rattle.std.specs.Prelude.{MatchResult, Option}
use Rattle.std.specs.Io.KnownBytes.{Appends}
use Rattle.nav_io.specs.Prefix.{AppendsPrefix}
use Rattle.streams.specs.Targets.{back_text}
use Rattle.captures.proofs.convert.end_run.Goals as goal

-- whether it failed or not, a prefix was written
prefix_either : {T E : Type 0} (r : Result T E) (old new : Option (List ℕ)) (piece : List ℕ)
    → MatchResult r (λ _. Appends old new piece) (λ _. AppendsPrefix old new piece) → AppendsPrefix old new piece
prefix_either (Ok x) old new piece h = (piece, ([], sym (append-nil piece)), h)
prefix_either (Err e) old new piece h = h

pub returns-in-Err-clause-part : goal.returns-in-Err-clause-part
returns-in-Err-clause-part g c =
    subst (λ (l : List ℕ). AppendsPrefix (g.T.Sink.written c.args.output.now) (g.T.Sink.written c.end.new.out) (back_text c.args.to.now l))
    (c.as_slice.ensures.value ∙ c.capture_counts_text-text.ensures)
    (prefix_either c.end.result (g.T.Sink.written c.args.output.now) (g.T.Sink.written c.end.new.out) (back_text c.args.to.now c.as_slice.result.now) c.end.ensures.bytes)
