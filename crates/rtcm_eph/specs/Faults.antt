-- The errors that a payload may have, and the first of them.
use Rattle.std.specs.Prelude.{◌≡◌, ℕ, ◌<◌, ◌≤◌, ◌⊎◌, List, length}
use Rattle.nav_bits.specs.Bits.{number_at}
use Rattle.rtcm_eph.specs.declared.message1019.Message1019.{Message1019}
use Rattle.rtcm_eph.specs.declared.message1046.Message1046.{Message1046}
use Rattle.rtcm_eph.specs.declared.fault.MessageFault.{MessageFault}
use Rattle.rtcm_eph.specs.declared.fault.MessageFault.TheVariants.{NoNumber, OtherMessage, Short}
use Rattle.rtcm_eph.specs.declared.fault.MessageFault.TheVariants.{BadSat, BadTime, SpareSisa}
use Rattle.rtcm_eph.specs.Messages.{message1019_at, message1046_at}

-- The error holds of a payload with this number of bytes, this message number, and these fields if
-- it is message 1019 or 1046: no message number; another message; shorter than its message; no such
-- satellite; toe or toc past the week; or a spare SISA.
abbrev pub HasFaultBy : ℕ → ℕ → Message1019 → Message1046 → MessageFault → Type 0
HasFaultBy bytes number gps gal NoNumber = bytes < 2
HasFaultBy bytes number gps gal (OtherMessage other) =
    (other ≡ number) × (number ≡ 1019 → ⊥) × (number ≡ 1046 → ⊥)
HasFaultBy bytes number gps gal Short =
    ((number ≡ 1019) × (bytes < 61)) ⊎ ((number ≡ 1046) × (bytes < 63))
HasFaultBy bytes number gps gal BadSat =
    ((number ≡ 1019) × ((gps.satellite < 1) ⊎ (32 < gps.satellite)))
    ⊎ ((number ≡ 1046) × ((gal.satellite < 1) ⊎ (36 < gal.satellite)))
HasFaultBy bytes number gps gal BadTime =
    ((number ≡ 1019) × ((37800 ≤ gps.toe) ⊎ (37800 ≤ gps.toc)))
    ⊎ ((number ≡ 1046) × ((10080 ≤ gal.toe) ⊎ (10080 ≤ gal.toc)))
HasFaultBy bytes number gps gal SpareSisa =
    (number ≡ 1046) × (126 ≤ gal.sisa) × (gal.sisa ≡ 255 → ⊥)

-- the error holds of the payload
abbrev pub HasFault : List ℕ → MessageFault → Type 0
HasFault payload =
    HasFaultBy (length payload) (number_at payload 0 12) (message1019_at payload 0)
    (message1046_at payload 0)

-- the rank of each error, the first being reported
abbrev pub order_of : MessageFault → ℕ
order_of NoNumber = 1
order_of (OtherMessage number) = 2
order_of Short = 3
order_of BadSat = 4
order_of BadTime = 5
order_of SpareSisa = 6

-- the error holds, and none of a lower rank does
pub record IsFirstOf (has_fault : MessageFault → Type 0) (fault : MessageFault) : Type 0 where
  pub has : has_fault fault
  pub first : (other : MessageFault) → order_of other < order_of fault → has_fault other → ⊥

-- the error is the first that holds of the payload
abbrev pub IsFirstFault : List ℕ → MessageFault → Type 0
IsFirstFault payload = IsFirstOf (HasFault payload)
