use Rattle.std.proofs.Common.{◌≡◌, ◌/◌, ◌%◌, ◌^◌, take, drop, ap, ◌∙◌, refl}
use Rattle.std.specs.Int.{bytes_high_first}
use Rattle.inav.proofs.PageNumbers.{crc_of_eleven}
use Rattle.inav.proofs.page.crc_of_odd.Goals as goal

pub returns-clause-same : goal.returns-clause-same
returns-clause-same c =
    let o = c.args.odd / 2 ^ 38 % 2 ^ 82 in
    let bytes : c.copy_from_slice.new.self ≡ bytes_high_first 11 o =
    c.copy_from_slice.ensures.after ∙ ap (λ bs. take 11 (drop 5 bs)) c.to_be_bytes.ensures in
    c.value.ensures.same ∙ crc_of_eleven c.copy_from_slice.new.self c.args.odd c.crc_bytes.result o refl bytes c.crc_bytes.ensures.crc
