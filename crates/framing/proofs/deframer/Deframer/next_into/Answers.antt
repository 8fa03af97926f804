use Rattle.std.proofs.Common.{◌≡◌, ◌+◌, ◌-◌, ◌<◌, drop, not, sym, ◌∙◌, arith, length-drop}
use Rattle.std.proofs.lemmas.List.{drop-drop}
use Rattle.framing.proofs.FormLaws.{size_le}
use Rattle.framing.proofs.Takes.{none_at_first, frame_at_first}
use Rattle.framing.proofs.Promising.{promised_none}
use Rattle.framing.proofs.deframer.Deframer.next_into.Goals as goal

pub returns-then-len-self-clause-none : goal.returns-then-len-self-clause-none
returns-then-len-self-clause-none c =
    let d = c.self.inside in
    rw (← c.self.view_is, c.if-not-self.true)
    (λ _. promised_none (drop d.start d.window) (d.wanted - d.start) c.self.invariant.1 (omega (arith, length-drop d.start d.window)))

pub returns-then-size-eq0-clause-none : goal.returns-then-size-eq0-clause-none
returns-then-size-eq0-clause-none c =
    let d = c.self.inside in
    rw (← c.self.view_is)
    (λ _. none_at_first (not d.finished) (drop d.start d.window) _ c.decide-size.ensures.rest (sym c.decide-size.ensures.size ∙ c.if-size-eq0.true))

pub returns-clause-frame : goal.returns-clause-frame
returns-clause-frame c =
    let d = c.self.inside in
    let new = c.decide-size.new in
    let passed : drop c.decide-size.result (drop new.start new.window) ≡ drop (new.start + c.decide-size.result) new.window = drop-drop c.decide-size.result new.start new.window in
    let some : 0 < c.decide-size.result = omega arith in
    rw (← c.self.view_is, ← passed)
    (λ _. frame_at_first (not d.finished) (drop d.start d.window) (drop new.start new.window) _ c.decide-size.result c.decide-size.ensures.rest c.decide-size.ensures.size some c.put_frame.ensures)

pub invariant_of-self-2 : goal.invariant_of-self-2
invariant_of-self-2 c =
    let new = c.decide-size.new in
    (omega (arith, c.decide-size.ensures.inside, c.decide-size.ensures.size, size_le (drop new.start new.window), length-drop new.start new.window), λ following short. absurd (omega arith))
