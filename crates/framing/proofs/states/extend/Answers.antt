use Rattle.std.proofs.Common.{◌≡◌, ◌+◌, ◌<◌, ◌^◌, length, get_or, ap, sym, ◌∙◌, subst, arith}
use Rattle.std.proofs.lemmas.List.{get_or_push, length_push}
use Rattle.framing.specs.States.{AreStates}
use Rattle.nav_bits.specs.Register.{with_byte_of}
use Rattle.framing.proofs.StateLaws.{state-lt, states_more}
use Rattle.framing.proofs.states.extend.Goals as goal

pub with_byte-state-requires : goal.with_byte-state-requires
with_byte-state-requires c =
    subst (λ n. n < 2 ^ 24) (sym c.loop-place.invariant.last)
    (state-lt c.args.bytes.now c.loop-place.states.items c.loop-place.invariant.states c.loop-place.place (omega (arith, c.loop-place.invariant.count)))

pub loop-place-preserved : goal.loop-place-preserved
loop-place-preserved c =
    let next : c.with_byte-state.result ≡ with_byte_of (get_or c.loop-place.states.items c.loop-place.place 0) (get_or c.args.bytes.now c.loop-place.place 0) =
    c.with_byte-state.ensures.value ∙ ap (λ r. with_byte_of r (get_or c.args.bytes.now c.loop-place.place 0)) c.loop-place.invariant.last in
    record {
      states =
          subst (AreStates c.args.bytes.now) (sym c.push.ensures.items)
          (states_more c.args.bytes.now c.loop-place.states.items c.loop-place.place c.with_byte-state.result c.loop-place.invariant.states
          c.loop-place.invariant.count (omega arith) next);
      count = ap length c.push.ensures.items ∙ length_push c.loop-place.states.items c.with_byte-state.result ∙ ap (λ n. n + 1) c.loop-place.invariant.count;
      last =
          sym (ap (λ xs. get_or xs (c.loop-place.place + 1) 0) c.push.ensures.items
          ∙ get_or_push c.loop-place.states.items c.with_byte-state.result 0 (c.loop-place.place + 1) c.loop-place.invariant.count);
    }
