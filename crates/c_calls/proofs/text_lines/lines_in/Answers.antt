use Rattle.std.proofs.Common.{◌≡◌, ℕ, sym, ap, ◌∙◌, arith, map, take}
use Rattle.rinex_read.specs.Kept.{padded}
use Rattle.rinex_read.specs.Lines.{lines_of}
use Rattle.c_calls.proofs.LinesOfText.{next_kept, next_rest, none_left}
use Rattle.c_calls.proofs.text_lines.lines_in.Goals as goal

pub returns-then-is_empty : goal.returns-then-is_empty
returns-then-is_empty c =
    none_left _ _ c.loop-count._count _ (omega arith) c.loop-count.invariant.kept c.loop-count.invariant.left (sym c.if-is_empty.true ∙ c.is_empty.ensures)

pub loop-count-preserved : goal.loop-count-preserved
loop-count-preserved c = record {
  kept = c.push.ensures.kept
      ∙ next_kept _ _ c.loop-count._count _ _ (omega arith) c.loop-count.invariant.kept (sym c.loop-count.invariant.left ∙ c.cut_line.ensures);
  left = next_rest _ c.loop-count._count _ _ (sym c.loop-count.invariant.left ∙ c.cut_line.ensures);
}

pub returns : goal.returns
returns c =
    let all : c.loop-count._count ≡ 18 = omega arith in
    c.loop-count.invariant.kept ∙ ap (λ (n : ℕ). map padded (take n (lines_of c.args.text.now))) all
