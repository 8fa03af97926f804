-- SBF has a heading.
use Rattle.std.proofs.Common.{◌≡◌, ℕ, ◌+◌, ◌*◌, ◌%◌, ◌<◌, ◌≤◌, nat_le, cond, List, ◌++◌, length}
use Rattle.std.proofs.Common.{get_or, ap, ◌∙◌, arith}
use Rattle.std.proofs.lemmas.Bool.{cond_both, leb-true}
use Rattle.std.proofs.lemmas.List.{get_or_append_left}
use Rattle.framing.specs.Headings.{IsHeading}
use Rattle.framing.specs.Syncs.{IsSync}
use Rattle.framing.specs.SyncLaws.{sync_is_heading}
use Rattle.framing.specs.SbfForm.{announced, may_be, sbf_sync, sbf}

announced-append : (xs ys : List ℕ) → 8 ≤ length xs → announced (xs ++ ys) ≡ announced xs
announced-append xs ys h =
    ap (λ n. (n * 256 + get_or (xs ++ ys) 6 0) % 65536) (get_or_append_left xs ys 0 7 (omega arith))
    ∙ ap (λ n. (get_or xs 7 0 * 256 + n) % 65536) (get_or_append_left xs ys 0 6 (omega arith))

pub sbf_is_sync : IsSync sbf_sync
sbf_is_sync = record {
  two = omega arith;
  within = omega arith;
  some = λ xs. cond_both (nat_le 8 (announced xs)) (announced xs) 8 (λ n. 0 < n)
      (λ e. omega (arith, leb-true _ _ e)) (λ _. omega arith);
  most = λ xs. cond_both (nat_le 8 (announced xs)) (announced xs) 8 (λ n. n ≤ 65535)
      (λ _. omega arith) (λ _. omega arith);
  size_prefix = λ xs ys h. ap (λ n. cond (nat_le 8 n) n 8) (announced-append xs ys h);
  fits_prefix = λ xs ys h. ap may_be (announced-append xs ys h);
}

pub sbf_is_heading : IsHeading sbf
sbf_is_heading = sync_is_heading sbf_sync sbf_is_sync

pub sbf_is_short : sbf.longest ≤ 81920
sbf_is_short = omega arith
