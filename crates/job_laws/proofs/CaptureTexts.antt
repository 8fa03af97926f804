-- What is written of a capture is the text of its items, in each form that writes them.
use Rattle.std.proofs.Common.{◌≡◌, ℕ, List, [], ◌∷◌, ◌++◌, refl, sym, ap, ◌∙◌, append-nil}
use Rattle.std.specs.Prelude.{Option, Some}
use Rattle.std.specs.List.{flat_map}
use Rattle.std.proofs.lemmas.Grind.{flat_map-append}
use Rattle.nav_eph.specs.declared.items.NavItem.{NavItem}
use Rattle.periods.specs.PeriodLists.{item_in, items_in}
use Rattle.periods.specs.declared.closed.Closed.{Closed}
use Rattle.periods.specs.declared.closed.Verdict.{Verdict}
use Rattle.periods.specs.declared.closed.Verdict.TheVariants.{Whole, Partial, Contradicted, NoHealth, Again}
use Rattle.rinex_write.specs.Texts.{header_lines, item_lines, rinex_text, text_of}
use Rattle.rinex_write.specs.Texts3.{header3_lines, item3_lines, rinex3_text}
use Rattle.rinex_write.specs.declared.words.HeaderWords.{HeaderWords}
use Rattle.rinex_write.proofs.Surface.{text_more}
use Rattle.streams.specs.ItemTexts.{rtcm_item}
use Rattle.streams.specs.Targets.{verdict_item}
use Rattle.streams.specs.declared.target.Target.TheVariants.{Rinex, Rinex3, Rtcm}
use Rattle.captures.specs.Captures.{Capture, capture_of, items, output_of, periods, whole_text}

-- the text of a period is that of its item, where it has one
of_verdict : (text : NavItem → List ℕ) (verdict : Verdict) → verdict_item text verdict ≡ flat_map text (item_in verdict)
of_verdict text (Whole item) = sym (append-nil (text item))
of_verdict text Partial = refl
of_verdict text Contradicted = refl
of_verdict text NoHealth = refl
of_verdict text Again = refl

of_periods : (text : NavItem → List ℕ) (cs : List Closed)
    → flat_map (λ (c : Closed). verdict_item text c.verdict) cs ≡ flat_map text (items_in cs)
of_periods text [] = refl
of_periods text (c ∷ cs) =
    ap (λ (l : List ℕ). l ++ flat_map (λ (d : Closed). verdict_item text d.verdict) cs) (of_verdict text c.verdict)
    ∙ ap (λ (l : List ℕ). flat_map text (item_in c.verdict) ++ l) (of_periods text cs)
    ∙ sym (flat_map-append text (item_in c.verdict) (items_in cs))

-- texts of lines are the text of all of them
of_lines : (lines : NavItem → List (List ℕ)) (is : List NavItem)
    → flat_map (λ (i : NavItem). text_of (lines i)) is ≡ text_of (flat_map lines is)
of_lines lines [] = refl
of_lines lines (i ∷ is) =
    ap (λ (l : List ℕ). text_of (lines i) ++ l) (of_lines lines is) ∙ sym (text_more (lines i) (flat_map lines is))

-- a header, and the records of the items
headed : (header : List (List ℕ)) (lines : NavItem → List (List ℕ)) (cs : List Closed)
    → text_of header ++ (flat_map (λ (c : Closed). verdict_item (λ i. text_of (lines i)) c.verdict) cs ++ [])
    ≡ text_of (header ++ flat_map lines (items_in cs))
headed header lines cs =
    ap (λ (l : List ℕ). text_of header ++ l)
    (append-nil (flat_map (λ (c : Closed). verdict_item (λ i. text_of (lines i)) c.verdict) cs)
    ∙ of_periods (λ i. text_of (lines i)) cs ∙ of_lines lines (items_in cs))
    ∙ sym (text_more header (flat_map lines (items_in cs)))

module _ (week : Option ℕ) (bytes : List ℕ) (c : Capture) (e : capture_of week bytes ≡ Some c) where
  pub rinex_written : (header : HeaderWords) → output_of (Rinex header) week bytes ≡ rinex_text header (items c)
  unfolding output_of
  rinex_written header = ap (whole_text (Rinex header)) e ∙ headed (header_lines header) item_lines (periods c)

  pub rinex3_written : (header : HeaderWords) → output_of (Rinex3 header) week bytes ≡ rinex3_text header (items c)
  unfolding output_of
  rinex3_written header = ap (whole_text (Rinex3 header)) e ∙ headed (header3_lines header) item3_lines (periods c)

  pub rtcm_written : output_of Rtcm week bytes ≡ flat_map rtcm_item (items c)
  unfolding output_of
  rtcm_written =
      ap (whole_text Rtcm) e
      ∙ append-nil (flat_map (λ (d : Closed). verdict_item rtcm_item d.verdict) (periods c))
      ∙ of_periods rtcm_item (periods c)
