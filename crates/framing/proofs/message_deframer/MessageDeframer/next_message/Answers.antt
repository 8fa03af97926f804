use Rattle.std.proofs.Common.{◌≡◌, ◌+◌, ◌-◌, ◌<◌, take, drop, not, refl, sym, subst, ◌∙◌, arith}
use Rattle.std.proofs.Common.{length-drop}
use Rattle.std.proofs.lemmas.List.{drop-drop}
use Rattle.framing.specs.Headings.{format_of, size_by}
use Rattle.framing.specs.MessageMirrors.{from_first}
use Rattle.framing.proofs.HeadingLaws.{heading_is_format}
use Rattle.framing.proofs.MessageTakes.{none_at_first, waits_at_first, message_at_first}
use Rattle.framing.proofs.MessagePromising.{promised_none}
use Rattle.framing.proofs.message_deframer.MessageDeframer.next_message.Goals as goal

pub returns-then-len-self-clause-none : goal.returns-then-len-self-clause-none
returns-then-len-self-clause-none g c none =
    let d = c.self.inside in
    let laws = heading_is_format g.J.Judge.heading g.met.J.Judge.is_heading in
    rw (← c.self.view_is, c.if-not-self.true)
    (promised_none (format_of g.J.Judge.heading) laws (drop d.start d.bytes.items)
    (d.wanted - d.start) c.self.invariant.2 (omega (arith, length-drop d.start d.bytes.items)))

pub wanted_from-self-inside-requires-clause-waiting :
    goal.wanted_from-self-inside-requires-clause-waiting
wanted_from-self-inside-requires-clause-waiting g c =
    let h = g.J.Judge.heading in
    let d = c.self.inside in
    let p = c.find-place.result.0 in
    let place : drop p d.bytes.items
    ≡ from_first (format_of h) (not d.finished) (drop d.start d.bytes.items) =
    subst (λ xs. drop p xs ≡ from_first (format_of h) (not d.finished) (drop d.start xs))
    c.as_slice.ensures.value c.find-place.ensures.place in
    let size : c.find-place.result.1 ≡ size_by h (drop p d.bytes.items) =
    subst (λ xs. c.find-place.result.1 ≡ size_by h (drop p xs)) c.as_slice.ensures.value
    c.find-place.ensures.size in
    rw c.as_slice-then-size-eq0.ensures.value
    (waits_at_first (format_of h) (heading_is_format h g.met.J.Judge.is_heading) (not d.finished)
    (drop d.start d.bytes.items) _ place (sym size ∙ c.if-size-eq0.true))

pub returns-then-size-eq0-clause-none : goal.returns-then-size-eq0-clause-none
returns-then-size-eq0-clause-none g c none =
    let h = g.J.Judge.heading in
    let d = c.self.inside in
    let p = c.find-place.result.0 in
    let place : drop p d.bytes.items
    ≡ from_first (format_of h) (not d.finished) (drop d.start d.bytes.items) =
    subst (λ xs. drop p xs ≡ from_first (format_of h) (not d.finished) (drop d.start xs))
    c.as_slice.ensures.value c.find-place.ensures.place in
    let size : c.find-place.result.1 ≡ size_by h (drop p d.bytes.items) =
    subst (λ xs. c.find-place.result.1 ≡ size_by h (drop p xs)) c.as_slice.ensures.value
    c.find-place.ensures.size in
    let here : p + c.find-place.result.1 ≡ p = omega (arith, c.if-size-eq0.true) in
    rw (← c.self.view_is, here)
    (none_at_first (format_of h) (heading_is_format h g.met.J.Judge.is_heading) (not d.finished)
    (drop d.start d.bytes.items) _ place (sym size ∙ c.if-size-eq0.true))

pub returns-clause-message : goal.returns-clause-message
returns-clause-message g c taken =
    let h = g.J.Judge.heading in
    let laws = heading_is_format h g.met.J.Judge.is_heading in
    let d = c.self.inside in
    let p = c.find-place.result.0 in
    let n = c.find-place.result.1 in
    let place : drop p d.bytes.items
    ≡ from_first (format_of h) (not d.finished) (drop d.start d.bytes.items) =
    subst (λ xs. drop p xs ≡ from_first (format_of h) (not d.finished) (drop d.start xs))
    c.as_slice.ensures.value c.find-place.ensures.place in
    let size : n ≡ size_by h (drop p d.bytes.items) =
    subst (λ xs. n ≡ size_by h (drop p xs)) c.as_slice.ensures.value c.find-place.ensures.size in
    let passed : drop n (drop p d.bytes.items) ≡ drop (p + n) d.bytes.items =
    drop-drop n p d.bytes.items in
    let same : p + n - p ≡ n = omega arith in
    let some : 0 < n = omega arith in
    rw (← c.self.view_is, same, ← passed)
    (message_at_first (format_of h) laws (not d.finished) (drop d.start d.bytes.items)
    (drop p d.bytes.items) (take n (drop p d.bytes.items)) n place size some refl)
