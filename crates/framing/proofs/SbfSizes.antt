-- The size of a complete block.
use Rattle.std.proofs.Common.{◌≡◌, ℕ, ◌+◌, ◌-◌, ◌%◌, ◌≤◌, ◌&&◌, nat_le, nat_eq, true, List, length}
use Rattle.std.proofs.Common.{get_or, take, drop, refl, sym, ◌∙◌, arith, length-drop}
use Rattle.std.proofs.lemmas.Bool.{and_parts, leb-true, eqb-true}
use Rattle.std.proofs.lemmas.List.{length-take-le}
use Rattle.framing.specs.Syncs.{begins_by, wanted_by}
use Rattle.framing.specs.SyncLaws.{whole_has_header, wanted_many, begins_many}
use Rattle.framing.specs.SbfForm.{announced, may_be, sbf_sync}
use Rattle.framing.specs.SbfFormLaws.{sbf_is_sync}

-- a complete block has 8 to 65,535 bytes, a multiple of 4
pub whole_size : (bytes : List ℕ) (place size : ℕ) → place + size ≤ length bytes
    → begins_by sbf_sync (drop place bytes) ≡ true
    → size ≡ wanted_by sbf_sync (drop place bytes) → (8 ≤ size) × (size ≤ 65535) × (size % 4 ≡ 0)
whole_size bytes place size inside begins is =
    let xs : List ℕ = drop place bytes in
    let whole : wanted_by sbf_sync (drop place bytes) ≤ length (drop place bytes) =
    omega (arith, length-drop place bytes) in
    let header : 8 ≤ length (drop place bytes) =
    whole_has_header sbf_sync (drop place bytes) sbf_is_sync whole in
    let two : 2 ≤ length (drop place bytes) = omega arith in
    let sized = wanted_many sbf_sync (drop place bytes) two header in
    let both = sym (begins_many sbf_sync (drop place bytes) two header) ∙ begins in
    let behind = and_parts (nat_eq (get_or (drop place bytes) 0 0) 0x24)
    (nat_eq (get_or (drop place bytes) 1 0) 0x40 && may_be (announced (drop place bytes))) both in
    let fits = and_parts (nat_eq (get_or (drop place bytes) 1 0) 0x40)
    (may_be (announced (drop place bytes))) behind.1 in
    let parts = and_parts (nat_le 8 (announced (drop place bytes)))
    (nat_eq (announced (drop place bytes) % 4) 0) fits.1 in
    let long : nat_le 8 (announced (drop place bytes)) ≡ true = parts.0 in
    let least : 8 ≤ announced (drop place bytes) = leb-true _ _ parts.0 in
    let fours : announced (drop place bytes) % 4 ≡ 0 = eqb-true _ _ parts.1 in
    let same : size ≡ announced (drop place bytes) = is ∙ sized ∙ (rw long refl) in
    (omega arith, omega arith, omega arith)

-- its bytes in a range
pub range_size : (bytes : List ℕ) (place size : ℕ) → place + size ≤ length bytes
    → length (take (place + size - place) (drop place bytes)) ≡ size
range_size bytes place size inside =
    let n : place + size - place ≡ size = omega arith in
    omega (
      arith,
      length-take-le (place + size - place) (drop place bytes)
          (omega (arith, length-drop place bytes)),
    )
