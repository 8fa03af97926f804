use Rattle.std.proofs.Common.{◌≡◌, ◌+◌, ◌-◌, ◌≤◌, ℕ, List, false, length, take, drop, refl, sym, ap, ◌∙◌, subst, arith, length-drop}
use Rattle.std.specs.Prelude.{Err}
use Rattle.std.proofs.lemmas.List.{take_rest}
use Rattle.nav_io.specs.Lines.{ends, without_cr}
use Rattle.nav_io.specs.Mirrors.{EndsAt}
use Rattle.rinex_read.specs.Files.{ends_header, header_passed}
use Rattle.rinex_read.specs.Lines.{lines_of}
use Rattle.rinex_read.specs.declared.judged.HeaderFault.TheVariants.{NotRinexNav}
use Rattle.c_calls.proofs.RecordCuts.{header_found, header_open, next_lines, next_whole, still_open}
use Rattle.c_calls.proofs.record_ends.header_size.Goals as goal

pub returns-then-ends_header : goal.returns-then-ends_header
returns-then-ends_header c =
    let text = c.args.text.now in
    let at = c.lines.at in
    let n = c.in-Some.end in
    let h : EndsAt (drop at text) n = subst (λ (l : List ℕ). EndsAt l n) (take_rest text at) c.in-Some.ensures.some in
    let width : at + n - at ≡ n = omega arith in
    let is : c.without_end-line.result.now ≡ without_cr (take n (drop at text)) = c.without_end-line.ensures ∙ ap (λ (m : ℕ). without_cr (take m (drop at text))) width in
    header_found text c.without_end-line.result.now at n c.lines.invariant.within c.lines.invariant.whole c.lines.invariant.open_so_far h is
    (sym c.ends_header.ensures ∙ c.if-ends_header.true)

pub lines-preserved : goal.lines-preserved
lines-preserved c =
    let text = c.args.text.now in
    let at = c.lines.at in
    let n = c.in-Some.end in
    let h : EndsAt (drop at text) n = subst (λ (l : List ℕ). EndsAt l n) (take_rest text at) c.in-Some.ensures.some in
    let width : at + n - at ≡ n = omega arith in
    let is : c.without_end-line.result.now ≡ without_cr (take n (drop at text)) = c.without_end-line.ensures ∙ ap (λ (m : ℕ). without_cr (take m (drop at text))) width in
    record {
      within = omega (arith, c.lines.invariant.within, h.within, length-drop at text);
      whole = next_whole text at n c.lines.invariant.whole h;
      open_so_far = λ number. ap (header_passed number) (next_lines text c.without_end-line.result.now at n c.lines.invariant.whole h is)
          ∙ still_open (lines_of (take at text)) c.without_end-line.result.now c.lines.invariant.open_so_far (sym c.ends_header.ensures ∙ c.if-ends_header.false) number;
    }

pub returns : goal.returns
returns c =
    let text = c.args.text.now in
    let at = c.lines.at in
    let none : ends (drop at text) ≡ false = ap ends (sym (take_rest text at)) ∙ c.in_default.ensures.none in
    header_open text at c.lines.invariant.whole c.lines.invariant.open_so_far none
