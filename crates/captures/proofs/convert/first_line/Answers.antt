use Rattle.std.proofs.Common.{◌≡◌, ℕ, List, Option, None, true, false, refl, sym, ap, subst, ◌∙◌, inl}
use Rattle.nav_io.specs.LineAnswers.{Answers}
use Rattle.nav_io.specs.declared.lines.LineKind.{LineKind}
use Rattle.capture_lines.specs.Heads.{head_of}
use Rattle.captures.specs.Captures.{accepted_head, accepted_line}
use Rattle.captures.proofs.convert.first_line.Goals as goal

short_line : (week : Option ℕ) (text : List ℕ) → accepted_line week (record { text = text; long = false }) ≡ accepted_head week (head_of text)
unfolding accepted_line
short_line week text = refl

long_line : (week : Option ℕ) (text : List ℕ) → accepted_line week (record { text = text; long = true }) ≡ None
unfolding accepted_line
long_line week text = refl

pub returns-in-Some-clause-accepted : goal.returns-in-Some-clause-accepted
returns-in-Some-clause-accepted g c = record {
  line = record { text = c.next.new.self.text; long = false };
  gives =
      subst (λ (kind : LineKind). Answers kind (g.S.Source.left c.args.input.now) (g.S.Source.left c.next.new.source) c.args.lines.now c.next.new.self)
      c.in-Ok-Text.field-0-is c.in-Ok-Text.ensures.answer;
  accepted =
      short_line c.args.week c.next.new.self.text ∙ ap (λ (text : List ℕ). accepted_head c.args.week (head_of text)) (sym c.text.ensures)
      ∙ sym c.in-Some.ensures.accepted;
}

pub returns-in-None-clause-broken : goal.returns-in-None-clause-broken
returns-in-None-clause-broken g c =
    inl (
      record { text = c.next.new.self.text; long = false },
      subst (λ (kind : LineKind). Answers kind (g.S.Source.left c.args.input.now) (g.S.Source.left c.next.new.source) c.args.lines.now c.next.new.self)
          c.in-Ok-Text.field-0-is c.in-Ok-Text.ensures.answer,
      short_line c.args.week c.next.new.self.text ∙ ap (λ (text : List ℕ). accepted_head c.args.week (head_of text)) (sym c.text.ensures)
          ∙ sym c.in-None.ensures.accepted,
    )

pub returns-in-Ok-Long-clause-broken : goal.returns-in-Ok-Long-clause-broken
returns-in-Ok-Long-clause-broken g c =
    inl (
      record { text = c.next.new.self.text; long = true },
      subst (λ (kind : LineKind). Answers kind (g.S.Source.left c.args.input.now) (g.S.Source.left c.next.new.source) c.args.lines.now c.next.new.self)
          c.in-Ok-Long.field-0-is c.in-Ok-Long.ensures.answer,
      long_line c.args.week c.next.new.self.text,
    )
