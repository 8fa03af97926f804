use Rattle.std.proofs.Common.{◌≡◌, ◌+◌, ◌-◌, ◌*◌, ◌/◌, ◌<◌, ◌∙◌, ◌++◌, length, take, drop, reverse, ap, sym, append_assoc, arith}
use Rattle.std.proofs.lemmas.List.{append-nil}
use Rattle.sent_captures.specs.Capture.{reversed_blocks, reversed}
use Rattle.sent_captures.proofs.Orders.{block_is, blocks_more}
use Rattle.sent_captures.proofs.sending.push_reversed_blocks.Goals as goal

pub loop-block-init : goal.loop-block-init
unfolding reversed_blocks
loop-block-init c = sym (append-nil c.args.order.now.items)

pub loop-block-preserved : goal.loop-block-preserved
loop-block-preserved c =
    let xs = c.args.sent.now in
    let k = c.loop-block.block in
    let old = c.args.order.now.items in
    let inside : 16 * k < length xs = omega arith in
    c.in_ok-push_reversed.ensures
    ∙ ap (λ n. c.loop-block.order.items ++ reverse (take (n - 16 * k) (drop (16 * k) xs))) c.min-to.ensures
    ∙ ap (λ block. c.loop-block.order.items ++ reverse block) (block_is xs k inside)
    ∙ ap (λ done. done ++ reverse (take 16 (drop (16 * k) xs))) c.loop-block.invariant
    ∙ append_assoc old (reversed_blocks xs k) (reverse (take 16 (drop (16 * k) xs)))
    ∙ ap (λ all. old ++ all) (sym (blocks_more xs k))

pub returns : goal.returns
unfolding reversed
returns c =
    let xs = c.args.sent.now in
    let count : c.loop-block.block ≡ (length xs + 15) / 16 = omega (arith, c.loop-block-test.false) in
    c.loop-block.invariant ∙ ap (λ k. c.args.order.now.items ++ reversed_blocks xs k) count
