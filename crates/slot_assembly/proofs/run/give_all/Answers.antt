use Rattle.std.proofs.Common.{ℕ, Contains, refl, sym, subst, ◌∙◌, arith}
use Rattle.periods.specs.Verdicts.{closed_place}
use Rattle.slot_assembly.specs.Standing.{Tells, Carries, IsNext, NoneDue, giving, reaching}
use Rattle.slot_assembly.proofs.FlushLemmas.{Gives, closed_of-none, gives_start, gives_more, gives_all, next_at, none_at, stood_giving}
use Rattle.slot_assembly.proofs.run.give_all.Goals as goal

pub giving-init : goal.giving-init
giving-init g c =
    let now = g.A.Assembly.stands_for c.args.assembly.now in
    let r = g.A.Assembly.reference c.args.assembly.now in
    let w = g.A.Assembly.window c.args.assembly.now in
    record {
      reference = refl;
      window = refl;
      stood = (c.requires.stood.0, c.requires.stood.1, omega (arith, c.requires.stood.2));
      gives = λ parts stands. subst (Gives now r w 0 18446744073709551615 parts) (closed_of-none r w parts ∙ sym c.requires.given)
          (gives_start now r w 0 18446744073709551615 parts (g.met.A.Assembly.parts_are_values c.args.assembly.now) (omega arith) stands);
    }

pub giving-preserved : goal.giving-preserved
giving-preserved g c =
    let now = g.A.Assembly.stands_for c.giving.assembly in
    let new = g.A.Assembly.stands_for c.next_closed.new.self in
    let r = g.A.Assembly.reference c.args.assembly.now in
    let w = g.A.Assembly.window c.args.assembly.now in
    let m : ℕ = 18446744073709551615 in
    let carries : Carries now new (giving m (closed_place c.in-Some.closed)) = rw c.in-Some.is at c.in_ok-closed.ensures.given in
    let told : Tells now (λ at. IsNext (g.A.Assembly.reference c.giving.assembly) (g.A.Assembly.window c.giving.assembly) (Contains at.parts) m at.last c.in-Some.closed) =
    rw c.in-Some.is at c.in_ok-closed.ensures.next in
    record {
      reference = c.in_ok-closed.ensures.reference ∙ c.giving.invariant.reference;
      window = c.in_ok-closed.ensures.window ∙ c.giving.invariant.window;
      stood = stood_giving now new m (closed_place c.in-Some.closed) c.giving.invariant.stood carries;
      gives = λ parts stands.
          subst (Gives new r w 0 m parts) (sym c.in_ok-push.ensures.items)
          (gives_more now new r w 0 m parts c.giving.given.items c.in-Some.closed (g.met.A.Assembly.parts_are_values c.giving.assembly)
          (next_at now _ r _ w m c.in-Some.closed c.giving.invariant.reference c.giving.invariant.window told) carries (c.giving.invariant.gives parts stands));
    }

pub returns : goal.returns
returns g c = λ parts stands.
    let now = g.A.Assembly.stands_for c.giving.assembly in
    let new = g.A.Assembly.stands_for c.next_closed.new.self in
    let r = g.A.Assembly.reference c.args.assembly.now in
    let w = g.A.Assembly.window c.args.assembly.now in
    let m : ℕ = 18446744073709551615 in
    let carries : Carries now new (reaching m) = rw c.in_default.is at c.in_ok-closed.ensures.reached in
    let told : Tells now (λ at. NoneDue (g.A.Assembly.window c.giving.assembly) (Contains at.parts) m at.last) = rw c.in_default.is at c.in_ok-closed.ensures.none in
    (gives_all now new r w 0 m parts c.giving.given.items (g.met.A.Assembly.parts_are_values c.giving.assembly)
    (none_at now _ w m c.giving.invariant.window told) carries (c.giving.invariant.gives parts stands)).1
