use Rattle.std.proofs.Common.{◌≡◌, ℕ, ◌<◌, ◌≤◌, Some, None, List, Contains, refl, sym, subst, ◌∙◌}
use Rattle.nav_eph.specs.declared.part.Part.{Part}
use Rattle.periods.specs.declared.closed.Verdict.{Verdict}
use Rattle.nav_laws.specs.contracts.plain.PlainAssembly.{the_view}
use Rattle.slot_assembly.specs.Standing.{IsNext, NoneDue}
use Rattle.periods.specs.Mirrors.{best_among}
use Rattle.periods.specs.PeriodsOf.{place_at, is_before, verdict_at}
use Rattle.nav_laws.specs.Plain.{PlainState, PlainStandsFor, due, plain_left}
use Rattle.nav_laws.proofs.PlainLemmas.{next_is, none_is, none_again, none_old, stands_searched, stands_given, fewer_left, given_after}
use Rattle.nav_laws.proofs.plain.PlainAssemblyAssembly.next_closed.Goals as goal
use Rattle.nav_laws.proofs.plain.PlainAssemblyAssembly.next_closed.Goals.{then-watermark-self-via-then-watermark-self, then-watermark-self-via-else-watermark-self+then-watermark-self-2}

pub returns-then-watermark-self-clause-none : goal.returns-then-watermark-self-clause-none
returns-then-watermark-self-clause-none c = λ at h.
    let k = subst (λ (s : PlainState). PlainStandsFor s at) (sym c.self.view_is) h in
    subst (λ (s : PlainState). NoneDue s.window (Contains at.parts) c.args.watermark at.last) c.self.view_is (elim c.then-watermark-self.branch [
      | then-watermark-self-via-then-watermark-self w ↦ none_again (the_view c.self.inside) at c.args.watermark k w.if-watermark-self.true
      | then-watermark-self-via-else-watermark-self+then-watermark-self-2 w ↦ none_old (the_view c.self.inside) at c.args.watermark k w.if-watermark-self-2.true
    ])

pub returns-then-watermark-self-clause-reached : goal.returns-then-watermark-self-clause-reached
returns-then-watermark-self-clause-reached c = λ at h.
    let s = the_view c.self.inside in
    let k = subst (λ (x : PlainState). PlainStandsFor x at) (sym c.self.view_is) h in
    let none : NoneDue s.window (Contains at.parts) c.args.watermark at.last = elim c.then-watermark-self.branch [
      | then-watermark-self-via-then-watermark-self w ↦ none_again s at c.args.watermark k w.if-watermark-self.true
      | then-watermark-self-via-else-watermark-self+then-watermark-self-2 w ↦ none_old s at c.args.watermark k w.if-watermark-self-2.true
    ] in
    stands_searched s _ at c.args.watermark k none refl refl refl refl refl refl

pub returns-in-None-clause-none : goal.returns-in-None-clause-none
returns-in-None-clause-none c = λ at h.
    let s = the_view c.self.inside in
    let e = subst (λ (ps : List Part). best_among place_at (due ps s.window c.args.watermark s.last) is_before ps None ≡ None) c.deref.ensures.value (sym c.first_due.ensures ∙ c.in-None.is) in
    subst (λ (x : PlainState). NoneDue x.window (Contains at.parts) c.args.watermark at.last) c.self.view_is
    (none_is s at c.args.watermark (subst (λ (x : PlainState). PlainStandsFor x at) (sym c.self.view_is) h) e)

pub returns-in-None-clause-reached : goal.returns-in-None-clause-reached
returns-in-None-clause-reached c = λ at h.
    let s = the_view c.self.inside in
    let e = subst (λ (ps : List Part). best_among place_at (due ps s.window c.args.watermark s.last) is_before ps None ≡ None) c.deref.ensures.value (sym c.first_due.ensures ∙ c.in-None.is) in
    let k = subst (λ (x : PlainState). PlainStandsFor x at) (sym c.self.view_is) h in
    stands_searched s _ at c.args.watermark k (none_is s at c.args.watermark k e) refl refl refl refl refl refl

pub returns-in-Some-clause-next : goal.returns-in-Some-clause-next
returns-in-Some-clause-next c = λ at h.
    let s = the_view c.self.inside in
    let q = c.in-Some.place in
    let e = subst (λ (ps : List Part). best_among place_at (due ps s.window c.args.watermark s.last) is_before ps None ≡ Some q) c.deref.ensures.value (sym c.first_due.ensures ∙ c.in-Some.is) in
    let k = subst (λ (x : PlainState). PlainStandsFor x at) (sym c.self.view_is) h in
    let said : c.verdict_on-said.result ≡ verdict_at s.reference s.window s.parts q = subst (λ (ps : List Part). c.verdict_on-said.result ≡ verdict_at s.reference s.window ps q) c.deref-in-Some.ensures.value c.verdict_on-said.ensures in
    subst (λ (x : PlainState). IsNext x.reference x.window (Contains at.parts) c.args.watermark at.last (record { end = q.end; key = q.key; verdict = c.verdict_on-said.result })) c.self.view_is
    (subst (λ (v : Verdict). IsNext s.reference s.window (Contains at.parts) c.args.watermark at.last (record { end = q.end; key = q.key; verdict = v })) (sym said) (next_is s at c.args.watermark q k e))

pub returns-in-Some-clause-given : goal.returns-in-Some-clause-given
returns-in-Some-clause-given c = λ at h.
    let s = the_view c.self.inside in
    let q = c.in-Some.place in
    let l = subst (λ (m : ℕ). m ≤ c.args.watermark) (sym c.requires.1.at_watermark ∙ h.at_watermark) c.requires.2 in
    let e = subst (λ (ps : List Part). best_among place_at (due ps s.window c.args.watermark s.last) is_before ps None ≡ Some q) c.deref.ensures.value (sym c.first_due.ensures ∙ c.in-Some.is) in
    let k = subst (λ (x : PlainState). PlainStandsFor x at) (sym c.self.view_is) h in
    stands_given s _ at c.args.watermark q k l (given_after s at c.args.watermark q k e) refl refl refl refl refl refl

pub returns-in-Some-clause-fewer : goal.returns-in-Some-clause-fewer
returns-in-Some-clause-fewer c =
    let s = the_view c.self.inside in
    let q = c.in-Some.place in
    let e = subst (λ (ps : List Part). best_among place_at (due ps s.window c.args.watermark s.last) is_before ps None ≡ Some q) c.deref.ensures.value (sym c.first_due.ensures ∙ c.in-Some.is) in
    let new : PlainState = record { reference = s.reference; window = s.window; parts = s.parts; watermark = c.args.watermark; last = Some q; least = s.least; none_at = s.none_at } in
    subst (λ (x : PlainState). plain_left new < plain_left x) c.self.view_is (fewer_left s new c.args.watermark q e refl refl)
