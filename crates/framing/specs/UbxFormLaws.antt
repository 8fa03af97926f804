-- UBX has a heading.
use Rattle.std.proofs.Common.{◌≡◌, ℕ, ◌+◌, ◌*◌, ◌%◌, ◌≤◌, List, ◌++◌, length, get_or, refl, ap, ◌∙◌}
use Rattle.std.proofs.Common.{arith}
use Rattle.std.proofs.lemmas.List.{get_or_append_left}
use Rattle.framing.specs.Headings.{IsHeading}
use Rattle.framing.specs.Syncs.{IsSync}
use Rattle.framing.specs.SyncLaws.{sync_is_heading}
use Rattle.framing.specs.UbxForm.{announced, ubx_sync, ubx}

announced-append : (xs ys : List ℕ) → 6 ≤ length xs → announced (xs ++ ys) ≡ announced xs
announced-append xs ys h =
    ap (λ n. (n * 256 + get_or (xs ++ ys) 4 0) % 65536 + 8)
    (get_or_append_left xs ys 0 5 (omega arith))
    ∙ ap (λ n. (get_or xs 5 0 * 256 + n) % 65536 + 8) (get_or_append_left xs ys 0 4 (omega arith))

pub ubx_is_sync : IsSync ubx_sync
ubx_is_sync = record {
  two = omega arith;
  within = omega arith;
  some = λ xs. omega arith;
  most = λ xs. omega arith;
  size_prefix = announced-append;
  fits_prefix = λ xs ys h. refl;
}

pub ubx_is_heading : IsHeading ubx
ubx_is_heading = sync_is_heading ubx_sync ubx_is_sync

pub ubx_is_short : ubx.longest ≤ 81920
ubx_is_short = omega arith
