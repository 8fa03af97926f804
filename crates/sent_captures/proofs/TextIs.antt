-- `capture_text` is the text of the capture, and there is no other.
use Rattle.std.proofs.Common.{◌≡◌, ℕ, zero, suc, ◌+◌, ◌-◌, ◌*◌, ◌/◌, ◌%◌, ◌<◌, All, List, [], ◌∷◌, ◌++◌, nat_eq, if◌then◌else◌, codes, lit<, refl, sym, ap, ◌∙◌, subst, arith}
use Rattle.std.proofs.lemmas.List.Elements.{All-head, All-tail}
use Rattle.std.proofs.lemmas.Nat.{mod_below}
use Rattle.nav_bits.specs.Laws.{number_at-lt}
use Rattle.nav_bits.specs.Packed.{AreBytes}
use Rattle.nav_bits.proofs.Surface.{are_bytes}
use Rattle.nav_eph.specs.Bodies.{IsGalIon}
use Rattle.nav_eph.specs.declared.ion.GalIon.{GalIon}
use Rattle.lnav_subframe.proofs.Surface.{are_subframe_bytes, is_written, written_is}
use Rattle.inav.proofs.Surface.{stand1, zeros1, bytes1, only_word1, stand2, zeros2, bytes2, only_word2, stand3, bytes3, only_word3}
use Rattle.inav.proofs.Surface.{stand4, zeros4, bytes4, only_word4, stand5, zeros5, bytes5, only_word5}
use Rattle.inav.proofs.Surface.{only_parts, parts_split}
use Rattle.inav.specs.Pages.{bytes_of_half, even_of, odd_of}
use Rattle.nav_eph.specs.declared.signal.Signal.{Signal}
use Rattle.capture_lines.specs.Texts.{half_text, lnav_text}
use Rattle.sent_captures.specs.declared.values.GalValues.{GalValues}
use Rattle.sent_captures.specs.declared.sending.Sending.{Sending}
use Rattle.sent_captures.specs.declared.sending.Sending.TheVariants.{Subframe, Half}
use Rattle.sent_captures.specs.Values.{gps_of, gal_of, gps_ion_of, gal_ion_of}
use Rattle.sent_captures.specs.Lines.{AreHalves, ArePage, IsHalfLine, IsLine, IsSubframeLine, IsWordOf, gal_sat, gps_sat, subframe_of}
use Rattle.sent_captures.specs.Capture.{AreLines, IsCapture, lines_of}
use Rattle.sent_captures.specs.Mirrors.{IsOf}
use Rattle.sent_captures.specs.Text.{capture_text, line_of, page_line, subframe_line, text_of_lines, word_at, word_of_page}
use Rattle.sent_captures.proofs.Fits.{AreGalValues, gal_ion_of_fit, gal_of_fit, gps_ion_of_fit, gps_of_fit, subframe_fits}
use Rattle.sent_captures.proofs.Orders.{lines_are_of}

-- ---- subframes

early_count : (stamp : ℕ) → stamp < 3600 → stamp / 6 + 1 < 100800
early_count stamp early = omega arith

one_subframe_line : (seed n r stamp number : ℕ) (line : List ℕ) → stamp < 3600 → IsSubframeLine seed n r stamp number line
    → line ≡ subframe_line seed n r stamp number
unfolding subframe_line
one_subframe_line seed n r stamp number line early is =
    let body = subframe_of (gps_of seed number) (gps_ion_of seed n) r (stamp / 6) in
    is.line_is
    ∙ ap (lnav_text stamp (gps_sat number))
    (written_is body (stamp / 6 + 1) is.bits (subframe_fits _ _ r (stamp / 6) (gps_of_fit seed number) (gps_ion_of_fit seed n)) (early_count stamp early) is.size is.written)

is_subframe_line : (seed n r stamp number : ℕ) → stamp < 3600 → IsSubframeLine seed n r stamp number (subframe_line seed n r stamp number)
unfolding subframe_line
is_subframe_line seed n r stamp number early =
    let body = subframe_of (gps_of seed number) (gps_ion_of seed n) r (stamp / 6) in
    record {
      bits = _;
      size = are_subframe_bytes body (stamp / 6 + 1);
      written = is_written body (stamp / 6 + 1) (subframe_fits _ _ r (stamp / 6) (gps_of_fit seed number) (gps_ion_of_fit seed n)) (early_count stamp early);
      line_is = refl;
    }

-- ---- words

one_word : (v : GalValues) (ion : GalIon) (number wn second m : ℕ) (word : List ℕ) → AreGalValues v → IsGalIon ion → wn < 4096 → second < 604800
    → AreBytes 16 word → IsWordOf v ion number wn second m word → word ≡ word_of_page v ion number wn second m
one_word v ion number wn second zero word fits ion_fits week time size is = only_word1 v.w1 word fits.w1 size is.0 (is.1, tt)
one_word v ion number wn second (suc zero) word fits ion_fits week time size is = only_word2 v.w2 word fits.w2 size is.0 (is.1, tt)
one_word v ion number wn second (suc (suc zero)) word fits ion_fits week time size is = only_word3 v.w3 word fits.w3 size is tt
one_word v ion number wn second (suc (suc (suc zero))) word fits ion_fits week time size is =
    let low : number < 64 = subst (λ n. n < 64) is.0.1.1.0 (number_at-lt word 16 6) in
    only_word4 v.w4 number word fits.w4 low size is.0 (is.1, tt)
one_word v ion number wn second (suc (suc (suc (suc zero)))) word fits ion_fits week time size is =
    only_word5 v.health ion wn second word fits.health ion_fits week time size is.0 (is.1, tt)
one_word v ion number wn second (suc (suc (suc (suc (suc m))))) word fits ion_fits week time size is = is

is_word : (v : GalValues) (ion : GalIon) (number wn second m : ℕ) → AreGalValues v → IsGalIon ion → number < 64 → wn < 4096 → second < 604800
    → IsWordOf v ion number wn second m (word_of_page v ion number wn second m)
is_word v ion number wn second zero fits ion_fits low week time = (stand1 v.w1 fits.w1, (zeros1 v.w1 fits.w1).0)
is_word v ion number wn second (suc zero) fits ion_fits low week time = (stand2 v.w2 fits.w2, (zeros2 v.w2 fits.w2).0)
is_word v ion number wn second (suc (suc zero)) fits ion_fits low week time = stand3 v.w3 fits.w3
is_word v ion number wn second (suc (suc (suc zero))) fits ion_fits low week time =
    (stand4 v.w4 number fits.w4 low, (zeros4 v.w4 number fits.w4 low).0)
is_word v ion number wn second (suc (suc (suc (suc zero)))) fits ion_fits low week time =
    (stand5 v.health ion wn second fits.health ion_fits week time, (zeros5 v.health ion wn second fits.health ion_fits week time).0)
is_word v ion number wn second (suc (suc (suc (suc (suc m))))) fits ion_fits low week time = refl

word_size : (v : GalValues) (ion : GalIon) (number wn second m : ℕ) → AreBytes 16 (word_of_page v ion number wn second m)
word_size v ion number wn second zero = bytes1 v.w1
word_size v ion number wn second (suc zero) = bytes2 v.w2
word_size v ion number wn second (suc (suc zero)) = bytes3 v.w3
word_size v ion number wn second (suc (suc (suc zero))) = bytes4 v.w4 number
word_size v ion number wn second (suc (suc (suc (suc zero)))) = bytes5 v.health ion wn second
word_size v ion number wn second (suc (suc (suc (suc (suc m))))) = are_bytes 16 0

-- ---- page parts

week_low : (r : ℕ) → (r - 1024) % 4096 < 4096
week_low r = mod_below (r - 1024) 4096 (lit< tt)

second_low : (stamp : ℕ) → stamp < 3600 → 2 * (stamp / 2) < 604800
second_low stamp early = omega arith

one_page_line : (seed n r stamp number : ℕ) (signal : Signal) (line : List ℕ) → stamp < 3600 → IsHalfLine seed n r stamp number signal line
    → line ≡ page_line seed n r stamp number signal
unfolding page_line
one_page_line seed n r stamp number signal line early is =
    let page = is.page in
    let word : page.word ≡ word_at seed n r stamp number =
    one_word (gal_of seed n number) (gal_ion_of seed n) number ((r - 1024) % 4096) (2 * (stamp / 2)) (stamp / 2 % 15) page.word
    (gal_of_fit seed n number) (gal_ion_of_fit seed n) (week_low r) (second_low stamp early) page.size page.word_is in
    let parts = only_parts page.word page.halves.even page.halves.odd page.halves.split in
    let even : is.even ≡ bytes_of_half (even_of (word_at seed n r stamp number)) =
    page.halves.even_is ∙ ap bytes_of_half parts.0 ∙ ap (λ w. bytes_of_half (even_of w)) word in
    let odd : is.odd ≡ bytes_of_half (odd_of (word_at seed n r stamp number)) =
    page.halves.odd_is ∙ ap bytes_of_half parts.1 ∙ ap (λ w. bytes_of_half (odd_of w)) word in
    is.line_is
    ∙ ap (λ e. half_text stamp (gal_sat number) signal (if nat_eq (stamp % 2) 0 then e else is.odd)) even
    ∙ ap (λ o. half_text stamp (gal_sat number) signal (if nat_eq (stamp % 2) 0 then bytes_of_half (even_of (word_at seed n r stamp number)) else o)) odd

is_page_line : (seed n r stamp number : ℕ) (signal : Signal) → stamp < 3600 → number < 64
    → IsHalfLine seed n r stamp number signal (page_line seed n r stamp number signal)
unfolding page_line
is_page_line seed n r stamp number signal early low =
    let v = gal_of seed n number in
    let ion = gal_ion_of seed n in
    let word = word_at seed n r stamp number in
    let halves : AreHalves word (bytes_of_half (even_of word)) (bytes_of_half (odd_of word)) =
    record { even = even_of word; odd = odd_of word; split = parts_split word; even_is = refl; odd_is = refl } in
    let page : ArePage v ion number ((r - 1024) % 4096) (2 * (stamp / 2)) (stamp / 2 % 15) (bytes_of_half (even_of word)) (bytes_of_half (odd_of word)) =
    record {
      word = word;
      size = word_size v ion number ((r - 1024) % 4096) (2 * (stamp / 2)) (stamp / 2 % 15);
      word_is = is_word v ion number ((r - 1024) % 4096) (2 * (stamp / 2)) (stamp / 2 % 15) (gal_of_fit seed n number) (gal_ion_of_fit seed n) low (week_low r) (second_low stamp early);
      halves = halves;
    } in
    record { even = bytes_of_half (even_of word); odd = bytes_of_half (odd_of word); page = page; line_is = refl }

-- ---- lines

one_line : (seed n r : ℕ) (x : Sending) (line : List ℕ) → IsOf n x → IsLine seed n r x line → line ≡ line_of seed n r x
one_line seed n r (Subframe stamp number) line of is = one_subframe_line seed n r stamp number line of.0 is
one_line seed n r (Half stamp number signal) line of is = one_page_line seed n r stamp number signal line of.0 is

is_line : (seed n r : ℕ) (x : Sending) → n < 64 → IsOf n x → IsLine seed n r x (line_of seed n r x)
is_line seed n r (Subframe stamp number) few of = is_subframe_line seed n r stamp number of.0
is_line seed n r (Half stamp number signal) few of = is_page_line seed n r stamp number signal of.0 (omega (arith, few, of.2))

one_text : (seed n r : ℕ) (xs : List Sending) (text : List ℕ) → All (IsOf n) xs → AreLines seed n r xs text → text ≡ text_of_lines seed n r xs
one_text seed n r [] text of is = is
one_text seed n r (x ∷ xs) text of is =
    is.2
    ∙ ap (λ line. line ++ is.1) (one_line seed n r x is.0 (All-head (IsOf n) x xs of) is.3)
    ∙ ap (λ rest. line_of seed n r x ++ rest) (one_text seed n r xs is.1 (All-tail (IsOf n) x xs of) is.4)

are_lines : (seed n r : ℕ) (xs : List Sending) → n < 64 → All (IsOf n) xs → AreLines seed n r xs (text_of_lines seed n r xs)
are_lines seed n r [] few of = refl
are_lines seed n r (x ∷ xs) few of =
    (line_of seed n r x, text_of_lines seed n r xs, refl, is_line seed n r x few (All-head (IsOf n) x xs of), are_lines seed n r xs few (All-tail (IsOf n) x xs of))

-- ---- the capture

pub text_is : (seed n r : ℕ) (text : List ℕ) → IsCapture seed n r text → text ≡ capture_text seed n r
unfolding capture_text
text_is seed n r text is =
    is.text_is ∙ ap (λ rest. codes "NAVCAP 1" ++ 10 ∷ rest) (one_text seed n r (lines_of n) is.rest (lines_are_of n) is.lines)

pub is_capture : (seed n r : ℕ) → n < 64 → IsCapture seed n r (capture_text seed n r)
unfolding capture_text
is_capture seed n r few =
    record { rest = text_of_lines seed n r (lines_of n); lines = are_lines seed n r (lines_of n) few (lines_are_of n); text_is = refl }

-- the capture is unique
pub one_capture_of : (seed n r : ℕ) (a b : List ℕ) → IsCapture seed n r a → IsCapture seed n r b → a ≡ b
one_capture_of seed n r a b x y = text_is seed n r a x ∙ sym (text_is seed n r b y)
