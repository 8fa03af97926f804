use Rattle.std.proofs.Common.{◌≡◌, ℕ, ◌-◌, ◌*◌, ◌^◌, ◌<◌, List, length, take, drop, nat_eq, sym, ap, ◌∙◌, arith}
use Rattle.std.proofs.lemmas.List.{length-take-le, take_rest}
use Rattle.std.specs.Int.Bits.{bit_xor}
use Rattle.byteorder.specs.Endian.{big_number}
use Rattle.nav_bits.specs.Register.{crc_from, shift}
use Rattle.nav_bits.proofs.Surface.{crc_of_part}
use Rattle.framing.specs.Frames.{is_right}
use Rattle.framing.proofs.states.has_right_checksum_by.Goals as goal

-- the checksum of a body from the registers before and after it
body_sum : (before after moved : ℕ) (body : List ℕ) (end : ℕ) → before < 2 ^ 24 → length body ≡ end → after ≡ crc_from before body
    → moved ≡ shift (8 * end) before → bit_xor after moved ≡ crc_from 0 body
body_sum before after moved body end fits count after_is moved_is =
    ap (λ n. bit_xor n moved) after_is
    ∙ ap (bit_xor (crc_from before body)) (moved_is ∙ ap (λ n. shift (8 * n) before) (sym count))
    ∙ sym (crc_of_part before body fits)

pub returns : goal.returns
unfolding is_right
returns c =
    let end : ℕ = length c.args.frame.now - 3 in
    let count : length (take end c.args.frame.now) ≡ end = length-take-le end c.args.frame.now (omega arith) in
    let sum : bit_xor c.args.after c.moved.result ≡ crc_from 0 (take end c.args.frame.now) =
    body_sum c.args.before c.args.after c.moved.result (take end c.args.frame.now) end c.requires.before count c.requires.after c.moved.ensures in
    let number : c.read_u24.result ≡ big_number 3 (drop end c.args.frame.now) = c.read_u24.ensures ∙ ap (big_number 3) (take_rest c.args.frame.now end) in
    ap (λ n. nat_eq n c.read_u24.result) sum ∙ ap (nat_eq (crc_from 0 (take end c.args.frame.now))) number
