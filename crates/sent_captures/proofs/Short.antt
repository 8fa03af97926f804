-- The lengths of lines, and of the text of a capture.
use Rattle.std.proofs.Common.{◌≡◌, ℕ, ◌*◌, ◌%◌, ◌^◌, ◌<◌, ◌≤◌, nat_eq, Bool, true, false, cond, List, [], ◌∷◌, ◌++◌, length, ap, ◌∙◌, arith, length-append}
use Rattle.std.proofs.lemmas.Fmt.{length-decimal-le}
use Rattle.std.proofs.lemmas.List.Elements.{All-head, All-tail}
use Rattle.std.specs.Prelude.{All, codes, decimal}
use Rattle.hex.specs.Hex.{encode_lower, lower_digits}
use Rattle.hex.proofs.HexLemmas.{length-encode_with}
use Rattle.nav_bits.proofs.Surface.{bytes_of-length}
use Rattle.nav_eph.specs.Satellite.{Satellite}
use Rattle.nav_eph.specs.declared.signal.Signal.{Signal}
use Rattle.capture_lines.specs.Texts.{two_digits, signal_letter, half_text, lnav_text}
use Rattle.sent_captures.specs.declared.sending.Sending.{Sending}
use Rattle.sent_captures.specs.declared.sending.Sending.TheVariants.{Subframe, Half}
use Rattle.sent_captures.specs.Lines.{IsLine, gal_sat, gps_sat}
use Rattle.sent_captures.specs.Capture.{AreLines, IsCapture, lines_of}
use Rattle.sent_captures.specs.Mirrors.{IsOf}
use Rattle.sent_captures.proofs.Counts.{count_lines}
use Rattle.sent_captures.specs.Text.{capture_text}
use Rattle.sent_captures.proofs.Orders.{lines_are_of}
use Rattle.sent_captures.proofs.TextIs.{is_capture}

stamp_short : (stamp : ℕ) → stamp < 3600 → length (decimal stamp) ≤ 10
stamp_short stamp fits = length-decimal-le 10 stamp (omega arith) (omega arith) (omega arith)

lnav_short : (stamp : ℕ) (sat : Satellite) (bits : List ℕ) → stamp < 3600 → length bits ≡ 38 → length (lnav_text stamp sat bits) ≤ 100
lnav_short stamp sat bits fits size =
    let tail = codes " L G" ++ (two_digits sat.number ++ (codes " " ++ encode_lower bits)) in
    omega (
      arith,
      stamp_short stamp fits,
      size,
      length-encode_with lower_digits bits,
      length-append (decimal stamp) tail,
      length-append (decimal stamp ++ tail) (10 ∷ []),
    )

half_short : (stamp : ℕ) (sat : Satellite) (signal : Signal) (bits : List ℕ) → stamp < 3600 → length bits ≡ 15
    → length (half_text stamp sat signal bits) ≤ 100
half_short stamp sat signal bits fits size =
    let tail = codes " P E" ++ (two_digits sat.number ++ (codes " " ++ (signal_letter signal ∷ (codes " " ++ encode_lower bits)))) in
    omega (
      arith,
      stamp_short stamp fits,
      size,
      length-encode_with lower_digits bits,
      length-append (decimal stamp) tail,
      length-append (decimal stamp ++ tail) (10 ∷ []),
    )

-- the page part that is sent has 15 bytes
half_size : (b : Bool) (even odd : List ℕ) → length even ≡ 15 → length odd ≡ 15 → length (cond b even odd) ≡ 15
half_size true even odd first second = first
half_size false even odd first second = second

line_short : (seed n r : ℕ) (x : Sending) (line : List ℕ) → IsOf n x → IsLine seed n r x line → length line ≤ 100
line_short seed n r (Subframe stamp number) line of is =
    let short = lnav_short stamp (gps_sat number) is.bits of.0 is.size.count_is in
    omega (arith, short, ap length is.line_is)
line_short seed n r (Half stamp number signal) line of is =
    let halves = is.page.halves in
    let even : length is.even ≡ 15 = ap length halves.even_is ∙ bytes_of-length 15 halves.even in
    let odd : length is.odd ≡ 15 = ap length halves.odd_is ∙ bytes_of-length 15 halves.odd in
    let bits = cond (nat_eq (stamp % 2) 0) is.even is.odd in
    let short = half_short stamp (gal_sat number) signal bits of.0 (half_size (nat_eq (stamp % 2) 0) is.even is.odd even odd) in
    omega (arith, short, ap length is.line_is)

lines_short : (seed n r : ℕ) (xs : List Sending) (text : List ℕ) → All (IsOf n) xs → AreLines seed n r xs text
    → length text ≤ 100 * length xs
lines_short seed n r [] text of is = omega (arith, ap length is)
lines_short seed n r (x ∷ xs) text of is =
    let first = line_short seed n r x is.0 (All-head (IsOf n) x xs of) is.3 in
    let others = lines_short seed n r xs is.1 (All-tail (IsOf n) x xs of) is.4 in
    omega (arith, first, others, ap length is.2, length-append is.0 is.1)

pub capture_short : (seed n r : ℕ) (text : List ℕ) → n ≤ 32 → IsCapture seed n r text → length text < 2 ^ 32
capture_short seed n r text few is =
    omega (
      arith,
      few,
      ap length is.text_is,
      lines_short seed n r (lines_of n) is.rest (lines_are_of n) is.lines,
      count_lines n,
    )

pub text_short : (seed n r : ℕ) → n ≤ 32 → length (capture_text seed n r) < 2 ^ 32
text_short seed n r few = capture_short seed n r (capture_text seed n r) few (is_capture seed n r (omega (arith, few)))
