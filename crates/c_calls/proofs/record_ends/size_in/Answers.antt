use Rattle.std.proofs.Common.{◌≡◌, ◌+◌, ◌-◌, ◌<◌, ◌≤◌, ◌⊎◌, inl, inr, ℕ, List, [], false, length, take, drop, refl, sym, ap, ◌∙◌, subst, arith, length-drop}
use Rattle.std.proofs.lemmas.List.{take_rest}
use Rattle.nav_io.specs.Lines.{ends, without_cr}
use Rattle.nav_io.specs.Mirrors.{EndsAt}
use Rattle.rinex_read.specs.Forms.{begins}
use Rattle.rinex_read.specs.Lines.{lines_of}
use Rattle.c_calls.specs.RecordEnds.{AreOfOne}
use Rattle.c_calls.proofs.RecordCuts.{all_ends, last_ends, next_ends, next_lines, next_whole, not_yet, one_longer}
use Rattle.c_calls.proofs.record_ends.size_in.Goals as goal
use Rattle.c_calls.proofs.record_ends.size_in.Goals.{else-at-gt0-via-then-at-gt0+else-begins, else-at-gt0-via-else-at-gt0, else-at-gt0-2-via-then-at-gt0-2+then-at-text+else-begins-2, else-at-gt0-2-via-then-at-gt0-2+else-at-text, else-at-gt0-2-via-else-at-gt0-2}

pub returns-then-begins : goal.returns-then-begins
returns-then-begins g c =
    let text = c.args.text.now in
    let at = c.lines.at in
    let n = c.in-Some.end in
    let h : EndsAt (drop at text) n = subst (λ (l : List ℕ). EndsAt l n) (take_rest text at) c.in-Some.ensures.some in
    let width : at + n - at ≡ n = omega arith in
    let is : c.without_end.result.now ≡ without_cr (take n (drop at text)) = c.without_end.ensures ∙ ap (λ (m : ℕ). without_cr (take m (drop at text))) width in
    next_ends (g.F.FileForm.form c.args.form.now) text c.without_end.result.now c.args.is_end at n (omega (arith, c.if-at-gt0.true)) c.lines.invariant.within c.lines.invariant.whole
    c.lines.invariant.one h is (sym c.begins.ensures ∙ c.if-begins.true)

pub lines-preserved : goal.lines-preserved
lines-preserved g c =
    let text = c.args.text.now in
    let at = c.lines.at in
    let n = c.in-Some.end in
    let h : EndsAt (drop at text) n = subst (λ (l : List ℕ). EndsAt l n) (take_rest text at) c.in-Some.ensures.some in
    let line : List ℕ = without_cr (take n (drop at text)) in
    let width : at + n - at ≡ n = omega arith in
    let other : (lines_of (take at text) ≡ []) ⊎ (begins (g.F.FileForm.form c.args.form.now) line ≡ false) =
    elim c.else-at-gt0.branch [
      | else-at-gt0-via-then-at-gt0+else-begins w ↦ inr (ap (begins (g.F.FileForm.form c.args.form.now)) (sym (w.without_end.ensures ∙ ap (λ (m : ℕ). without_cr (take m (drop at text))) width))
          ∙ sym w.begins.ensures ∙ w.if-begins.false)
      | else-at-gt0-via-else-at-gt0 w ↦
          let zero : at ≡ 0 = omega (arith, w.if-at-gt0.false) in
          inl (ap (λ (m : ℕ). lines_of (take m text)) zero)
    ] in
    record {
      within = omega (arith, c.lines.invariant.within, h.within, length-drop at text);
      whole = next_whole text at n c.lines.invariant.whole h;
      one = subst (AreOfOne (g.F.FileForm.form c.args.form.now)) (sym (next_lines text line at n c.lines.invariant.whole h refl))
          (one_longer (g.F.FileForm.form c.args.form.now) (lines_of (take at text)) line c.lines.invariant.one other);
    }

pub returns-then-not-is_end : goal.returns-then-not-is_end
returns-then-not-is_end g c =
    let text = c.args.text.now in
    let at = c.lines.at in
    let none : ends (drop at text) ≡ false = ap ends (sym (take_rest text at)) ∙ c.in_default.ensures.none in
    not_yet (g.F.FileForm.form c.args.form.now) text c.args.is_end at c.lines.invariant.whole c.lines.invariant.one none c.if-not-is_end.true

pub returns-then-begins-2 : goal.returns-then-begins-2
returns-then-begins-2 g c =
    let text = c.args.text.now in
    let at = c.lines.at in
    let none : ends (drop at text) ≡ false = ap ends (sym (take_rest text at)) ∙ c.in_default.ensures.none in
    let is : c.without_end-then-at-text.result.now ≡ without_cr (drop at text) = c.without_end-then-at-text.ensures ∙ ap without_cr (take_rest text at) in
    last_ends (g.F.FileForm.form c.args.form.now) text c.without_end-then-at-text.result.now c.args.is_end at (omega (arith, c.if-at-gt0-2.true)) (omega (arith, c.if-at-text.true))
    c.lines.invariant.whole c.lines.invariant.one none is (sym c.begins-then-at-text.ensures ∙ c.if-begins-2.true) c.if-not-is_end.false

pub returns : goal.returns
returns g c =
    let text = c.args.text.now in
    let at = c.lines.at in
    let none : ends (drop at text) ≡ false = ap ends (sym (take_rest text at)) ∙ c.in_default.ensures.none in
    let other : (length text ≤ at) ⊎ ((at ≡ 0) ⊎ (begins (g.F.FileForm.form c.args.form.now) (without_cr (drop at text)) ≡ false)) =
    elim c.else-at-gt0-2.branch [
      | else-at-gt0-2-via-then-at-gt0-2+then-at-text+else-begins-2 w ↦
          inr (inr (ap (begins (g.F.FileForm.form c.args.form.now)) (sym (w.without_end-then-at-text.ensures ∙ ap without_cr (take_rest text at)))
          ∙ sym w.begins-then-at-text.ensures ∙ w.if-begins-2.false))
      | else-at-gt0-2-via-then-at-gt0-2+else-at-text w ↦ inl (omega (arith, w.if-at-text.false))
      | else-at-gt0-2-via-else-at-gt0-2 w ↦ inr (inl (omega (arith, w.if-at-gt0-2.false)))
    ] in
    all_ends (g.F.FileForm.form c.args.form.now) text c.args.is_end at c.lines.invariant.within c.lines.invariant.whole c.lines.invariant.one none c.if-not-is_end.false other
