-- How long the lines are.
use Rattle.std.proofs.Common.{◌≡◌, ℕ, ◌^◌, ◌<◌, ◌≤◌, List, [], ◌∷◌, ◌++◌, length, arith, length-append}
use Rattle.std.proofs.lemmas.Fmt.{length-decimal-le}
use Rattle.std.specs.Prelude.{codes, decimal}
use Rattle.hex.specs.Hex.{encode_lower, lower_digits}
use Rattle.hex.proofs.HexLemmas.{length-encode_with}
use Rattle.nav_eph.specs.Satellite.{Satellite}
use Rattle.nav_eph.specs.declared.signal.Signal.{Signal}
use Rattle.capture_lines.specs.Texts.{two_digits, signal_letter, half_text, lnav_text}

stamp_short : (stamp : ℕ) → stamp < 2 ^ 32 → length (decimal stamp) ≤ 10
stamp_short stamp fits = length-decimal-le 10 stamp (omega arith) (omega arith) (omega arith)

pub lnav_short : (stamp : ℕ) (sat : Satellite) (bits : List ℕ) → stamp < 2 ^ 32 → length bits ≡ 38 → length (lnav_text stamp sat bits) ≤ 94
lnav_short stamp sat bits fits size =
    let tail = codes " L G" ++ (two_digits sat.number ++ (codes " " ++ encode_lower bits)) in
    omega (
      arith,
      stamp_short stamp fits,
      size,
      length-encode_with lower_digits bits,
      length-append (decimal stamp) tail,
      length-append (decimal stamp ++ tail) (10 ∷ []),
    )

pub half_short : (stamp : ℕ) (sat : Satellite) (signal : Signal) (bits : List ℕ) → stamp < 2 ^ 32 → length bits ≡ 15
    → length (half_text stamp sat signal bits) ≤ 50
half_short stamp sat signal bits fits size =
    let tail = codes " P E" ++ (two_digits sat.number ++ (codes " " ++ (signal_letter signal ∷ (codes " " ++ encode_lower bits)))) in
    omega (
      arith,
      stamp_short stamp fits,
      size,
      length-encode_with lower_digits bits,
      length-append (decimal stamp) tail,
      length-append (decimal stamp ++ tail) (10 ∷ []),
    )
