-- The size of a complete message.
use Rattle.std.proofs.Common.{◌≡◌, ℕ, ◌+◌, ◌-◌, ◌≤◌, List, length, take, drop, arith, length-drop}
use Rattle.std.proofs.lemmas.List.{length-take-le}
use Rattle.framing.specs.Syncs.{wanted_by}
use Rattle.framing.specs.SyncLaws.{whole_has_header, wanted_many}
use Rattle.framing.specs.UbxForm.{ubx_sync}
use Rattle.framing.specs.UbxFormLaws.{ubx_is_sync}

-- a complete message has 8 to 65,543 bytes
pub whole_size : (bytes : List ℕ) (place size : ℕ) → place + size ≤ length bytes
    → size ≡ wanted_by ubx_sync (drop place bytes) → (8 ≤ size) × (size ≤ 65543)
whole_size bytes place size inside is =
    let whole : wanted_by ubx_sync (drop place bytes) ≤ length (drop place bytes) =
    omega (arith, length-drop place bytes) in
    let header = whole_has_header ubx_sync (drop place bytes) ubx_is_sync whole in
    let announced = wanted_many ubx_sync (drop place bytes) (omega arith) header in
    (omega (arith, announced), omega (arith, announced))

-- its bytes in a range
pub range_size : (bytes : List ℕ) (place size : ℕ) → place + size ≤ length bytes
    → length (take (place + size - place) (drop place bytes)) ≡ size
range_size bytes place size inside =
    let n : place + size - place ≡ size = omega arith in
    omega (
      arith,
      length-take-le (place + size - place) (drop place bytes)
          (omega (arith, length-drop place bytes)),
    )
