use Rattle.std.proofs.Common.{◌≡◌, ◌+◌, ◌*◌, ◌/◌, ◌%◌, ◌^◌, take, drop, ap, ◌∙◌, refl, arith}
use Rattle.std.specs.Int.{bytes_high_first}
use Rattle.inav.proofs.PageNumbers.{crc_of_pieces}
use Rattle.inav.proofs.page.crc_of.Goals as goal

pub returns-clause-same : goal.returns-clause-same
returns-clause-same c =
    let e = c.args.even / 2 ^ 6 % 2 ^ 114 in
    let o = c.args.odd / 2 ^ 38 % 2 ^ 82 in
    let f = e * 2 ^ 10 + o / 2 ^ 72 in
    let first : c.copy_from_slice.new.self ≡ bytes_high_first 16 f =
    c.copy_from_slice.ensures.after ∙ c.to_be_bytes.ensures ∙ ap (bytes_high_first 16) (omega arith) in
    let second : c.copy_from_slice-2.new.self ≡ bytes_high_first 9 o = c.copy_from_slice-2.ensures.after ∙ ap (λ bs. take 9 (drop 7 bs)) c.to_be_bytes-2.ensures in
    c.value.ensures.same ∙ c.crc_bytes.ensures.value
    ∙ rw (first, second) (crc_of_pieces _ c.args.even c.args.odd e o refl refl refl)
