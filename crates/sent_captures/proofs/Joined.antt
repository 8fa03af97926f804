-- The texts of lines, concatenated.
use Rattle.std.proofs.Common.{◌≡◌, ℕ, ◌+◌, ◌<◌, List, [], ◌∷◌, ◌++◌, length, get_or, take, ap, refl, sym, ◌∙◌, subst, append_assoc}
use Rattle.std.proofs.lemmas.List.{append-nil, take_more}
use Rattle.sent_captures.specs.declared.sending.Sending.{Sending}
use Rattle.sent_captures.specs.Lines.{IsLine}
use Rattle.sent_captures.specs.Capture.{AreLines}
use Rattle.sent_captures.specs.Mirrors.{GrowsByLines}

-- the lines of two lists
pub lines-append : (seed n r : ℕ) (xs ys : List Sending) (a b : List ℕ) → AreLines seed n r xs a → AreLines seed n r ys b → AreLines seed n r (xs ++ ys) (a ++ b)
lines-append seed n r [] ys a b first second = subst (AreLines seed n r ys) (sym (ap (λ t. t ++ b) first)) second
lines-append seed n r (x ∷ xs) ys a b first second =
    (first.0, first.1 ++ b, ap (λ t. t ++ b) first.2 ∙ append_assoc first.0 first.1 b, first.3, lines-append seed n r xs ys first.1 b first.4 second)

-- no line yet
pub grows_none : (seed n r : ℕ) (text : List ℕ) → GrowsByLines seed n r [] text text
grows_none seed n r text = record { rest = []; lines = refl; text_is = sym (append-nil text) }

-- one more line
pub grows_more : (seed n r : ℕ) (xs : List Sending) (i : ℕ) (d : Sending) (old now line new : List ℕ) → i < length xs
    → GrowsByLines seed n r (take i xs) old now → IsLine seed n r (get_or xs i d) line → new ≡ now ++ line → GrowsByLines seed n r (take (i + 1) xs) old new
grows_more seed n r xs i d old now line new inside before is added =
    let x = get_or xs i d in
    let one : AreLines seed n r (x ∷ []) line = (line, [], sym (append-nil line), is, refl) in
    let all : AreLines seed n r (take i xs ++ x ∷ []) (before.rest ++ line) = lines-append seed n r (take i xs) (x ∷ []) before.rest line before.lines one in
    record {
      rest = before.rest ++ line;
      lines = subst (λ zs. AreLines seed n r zs (before.rest ++ line)) (sym (take_more xs i d inside)) all;
      text_is = added ∙ ap (λ t. t ++ line) before.text_is ∙ append_assoc old before.rest line;
    }
