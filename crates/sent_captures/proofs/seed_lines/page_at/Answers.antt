use Rattle.std.proofs.Common.{◌≡◌, ℕ, ◌+◌, ◌-◌, ◌*◌, ◌/◌, ◌<◌, ◌∙◌, get_or, ap, sym, subst, arith}
use Rattle.sent_captures.specs.Values.{gal_of, gal_ion_of}
use Rattle.sent_captures.specs.Mirrors.{IsPageIn}
use Rattle.sent_captures.proofs.Places.{page_of_hour}
use Rattle.sent_captures.proofs.seed_lines.page_at.Goals as goal

pub returns : goal.returns
returns c =
    let s = c.args.senders.now in
    let v : ℕ → _ = gal_of s.seed s.sats in
    let ion = gal_ion_of s.seed s.sats in
    let slot = c.slot_of-slot.result in
    let place = 124 * (c.args.number - 1) + slot in
    let there : place < 124 * s.sats = omega (arith, c.slot_of-slot.ensures.inside) in
    let found : c.index.result.now ≡ get_or s.pages.items place c.index.result.now =
    c.index.ensures ∙ ap (λ n. get_or s.pages.items (124 * (n - 1) + slot) c.index.result.now) c.from.ensures in
    page_of_hour v ion s.week c.args.number slot c.args.j c.index.result.now c.requires.low c.slot_of-slot.ensures.inside c.slot_of-slot.ensures.place
    c.slot_of-slot.ensures.second
    (subst (IsPageIn (v (place / 124 + 1)) ion s.week place) (sym found) (c.requires.tables.pages place there c.index.result.now))
