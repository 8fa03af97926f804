use Rattle.std.proofs.Common.{◌≡◌, ◌+◌, ap, sym, subst, length, get_or, ◌∙◌}
use Rattle.std.proofs.lemmas.List.{get_or_push, length_push}
use Rattle.framing.specs.SbfRegister.{shift}
use Rattle.framing.specs.SbfStates.{ArePowers}
use Rattle.framing.proofs.SbfCrcSteps.{powers_more}
use Rattle.framing.proofs.sbf_states.grow.Goals as goal

pub loop-next-preserved : goal.loop-next-preserved
loop-next-preserved c =
    let next : c.with_four_zeros-power.result
    ≡ shift 32 (get_or c.loop-next.powers.items c.loop-next._next 0) =
    c.with_four_zeros-power.ensures.value ∙ ap (shift 32) c.loop-next.invariant.power_is in
    record {
      powers = subst ArePowers (sym c.push.ensures.items)
          (powers_more c.loop-next.powers.items c.loop-next._next _ c.loop-next.invariant.powers
          c.loop-next.invariant.count next);
      count = ap length c.push.ensures.items
          ∙ length_push c.loop-next.powers.items c.with_four_zeros-power.result
          ∙ ap (λ n. n + 1) c.loop-next.invariant.count;
      power_is =
          sym (ap (λ xs. get_or xs (c.loop-next._next + 1) 0) c.push.ensures.items
          ∙ get_or_push c.loop-next.powers.items c.with_four_zeros-power.result 0
          (c.loop-next._next + 1) c.loop-next.invariant.count);
      fits = c.with_four_zeros-power.ensures.fits;
    }
