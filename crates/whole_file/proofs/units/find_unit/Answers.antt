use Rattle.std.proofs.Common.{◌≡◌, ◌&&◌, false, drop, sym, subst, ◌∙◌, arith}
use Rattle.std.proofs.lemmas.List.{take_rest}
use Rattle.whole_file.specs.Units.{opens_unit}
use Rattle.whole_file.proofs.FirstUnit.{unit_found, unit_passed}
use Rattle.whole_file.proofs.units.find_unit.Goals as goal

pub returns-in-Some-clause-whole : goal.returns-in-Some-clause-whole
returns-in-Some-clause-whole c =
    let bytes = c.args.bytes.now in
    let place = c.loop-place.place in
    let closed : (c.args.more && opens_unit (drop place bytes)) ≡ false =
    sym (subst (λ xs. false ≡ (c.args.more && opens_unit xs)) (take_rest bytes place) c.if-is_held.ensures) in
    λ following last.
    unit_found c.headings_are_formats.ensures bytes place c.args.more c.in-Some.kind (omega arith) closed
    (sym c.unit_at.ensures.value ∙ c.in-Some.is) following last

pub loop-place-preserved : goal.loop-place-preserved
loop-place-preserved c =
    let bytes = c.args.bytes.now in
    let place = c.loop-place.place in
    let closed : (c.args.more && opens_unit (drop place bytes)) ≡ false =
    sym (subst (λ xs. false ≡ (c.args.more && opens_unit xs)) (take_rest bytes place) c.if-is_held.ensures) in
    record {
      inside = omega arith;
      passed = λ following last.
          c.loop-place.invariant.passed following last
          ∙ unit_passed c.headings_are_formats.ensures bytes place c.args.more (omega arith) closed
          (sym c.unit_at.ensures.value ∙ c.in_default.is) following last;
      sums = c.unit_at.ensures.sums;
      states = c.unit_at.ensures.states;
    }
