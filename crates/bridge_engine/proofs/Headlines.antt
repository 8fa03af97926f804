-- The text of a capture that is converted to RINEX: the RINEX text of the items of its periods that are whole.
use Rattle.std.proofs.Common.{◌≡◌, ℕ, List, [], ◌∷◌, ◌++◌, refl, sym, ap, ◌∙◌, append_assoc, append-nil}
use Rattle.std.specs.Prelude.{Option, Some}
use Rattle.std.specs.List.{flat_map}
use Rattle.std.proofs.lemmas.Grind.{flat_map-append}
use Rattle.periods.specs.PeriodLists.{item_in, items_in}
use Rattle.periods.specs.declared.closed.Closed.{Closed}
use Rattle.periods.specs.declared.closed.Verdict.{Verdict}
use Rattle.periods.specs.declared.closed.Verdict.TheVariants.{Whole, Partial, Contradicted, NoHealth, Again}
use Rattle.rinex_write.specs.Texts.{header_lines, item_lines, rinex_text, text_of}
use Rattle.rinex_write.specs.declared.words.HeaderWords.{HeaderWords}
use Rattle.captures.specs.Captures.{Capture, capture_of, items, output_of, periods, texts_of, whole_text}
use Rattle.streams.specs.Targets.{verdict_item}
use Rattle.streams.specs.ItemTexts.{rinex_item}
use Rattle.streams.specs.declared.target.Target.TheVariants.{Rinex}

-- the text of concatenated lists of lines
text_append : (some more : List (List ℕ)) → text_of (some ++ more) ≡ text_of some ++ text_of more
text_append [] more = refl
text_append (line ∷ some) more = ap (λ (l : List ℕ). line ++ 10 ∷ l) (text_append some more) ∙ sym (append_assoc line (10 ∷ text_of some) (text_of more))

-- what is written of a period is the lines of its item, where it has one
period_lines : (verdict : Verdict) → verdict_item rinex_item verdict ≡ text_of (flat_map item_lines (item_in verdict))
period_lines (Whole item) = ap text_of (sym (append-nil (item_lines item)))
period_lines Partial = refl
period_lines Contradicted = refl
period_lines NoHealth = refl
period_lines Again = refl

period_texts : (header : HeaderWords) (cs : List Closed) → texts_of (Rinex header) cs ≡ text_of (flat_map item_lines (items_in cs))
period_texts header [] = refl
period_texts header (c ∷ cs) =
    ap (λ (l : List ℕ). l ++ texts_of (Rinex header) cs) (period_lines c.verdict)
    ∙ ap (λ (l : List ℕ). text_of (flat_map item_lines (item_in c.verdict)) ++ l) (period_texts header cs)
    ∙ sym (text_append (flat_map item_lines (item_in c.verdict)) (flat_map item_lines (items_in cs)))
    ∙ ap text_of (sym (flat_map-append item_lines (item_in c.verdict) (items_in cs)))

-- the output of a capture is the RINEX text of its items
pub headline_text : (header : HeaderWords) (week : Option ℕ) (bytes : List ℕ) (capture : Capture) → capture_of week bytes ≡ Some capture
    → output_of (Rinex header) week bytes ≡ rinex_text header (items capture)
unfolding output_of
headline_text header week bytes capture e =
    ap (whole_text (Rinex header)) e
    ∙ ap (λ (l : List ℕ). text_of (header_lines header) ++ l) (append-nil (texts_of (Rinex header) (periods capture)) ∙ period_texts header (periods capture))
    ∙ sym (text_append (header_lines header) (flat_map item_lines (items capture)))
