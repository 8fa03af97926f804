-- What is still to come of a file while it is read.
use Rattle.std.specs.Prelude.{◌≡◌, ◌+◌, ◌<◌, ◌==◌, ◌&&◌, ◌++◌, ℕ, Bool, true, false, if◌then◌else◌, List, [], ◌∷◌, length, take, drop, map, Option, Some, None, refl}
use Rattle.std.proofs.Common.{sym, ap, ◌∙◌, arith, append_assoc, append-nil}
use Rattle.std.proofs.lemmas.List.{take-append-drop, take_all, drop_all}
use Rattle.std.specs.Io.KnownBytes.{Consumes, IsAtEnd, Keeps}
use Rattle.nav_io.specs.Lines.{ends, pieces, with_prefix, without_cr}
use Rattle.nav_io.specs.Pieces.{with_ends}
use Rattle.nav_io.specs.Mirrors.{EndsAt}
use Rattle.nav_io.proofs.Surface.{pieces-line}
use Rattle.rinex_lines.specs.Columns.{padded}
use Rattle.rinex_lines.specs.Files.{is_none, is_open, lines_from, text_from}
use Rattle.rinex_lines.specs.Lines.{after, line_at, lines_at}
use Rattle.rinex_lines.specs.OlderMirrors.{HeldState, SameToCome, left_of, text_to_come}
use Rattle.rinex_lines.specs.declared.place.Place.{Place}
use Rattle.rinex_lines.proofs.Cuts.{ends_append, ends_take, open_behind, open_plain, pieces_last, text_cut}

-- the line of bytes
abbrev line_of : List ℕ → List ℕ
line_of bytes = padded (without_cr bytes)

-- bytes have a line
some_if : (b : Bool) (y : ℕ) (ps : List (List ℕ)) → is_none (map without_cr (if b then [] ∷ ps else with_prefix false y ps)) ≡ false
some_if true y ps = refl
some_if false y [] = refl
some_if false y (p ∷ ps) = refl

some_pieces : (y : ℕ) (ys : List ℕ) → is_none (map without_cr (pieces false (y ∷ ys))) ≡ false
some_pieces y ys = some_if (y == 10) y (pieces false ys)

and_false : (a b : Bool) → a ≡ false → (a && b) ≡ false
and_false a b h = ap (λ (c : Bool). c && b) h

-- a line that is whole, before others
lines_cons : (unended : Bool) (place : Place) (p : List ℕ) (ps : List (List ℕ)) → (is_none (map without_cr ps) && unended) ≡ false
    → with_ends (lines_from unended place (map without_cr (p ∷ ps)))
    ≡ (line_at place (line_of p) ++ 10 ∷ []) ++ with_ends (lines_from unended (after place (line_of p)) (map without_cr ps))
lines_cons unended place p ps h =
    ap (λ (c : Bool). with_ends (lines_at c place (line_of p) ++ lines_from unended (after place (line_of p)) (map without_cr ps))) h

-- the line that an LF ends is whole, whether it is the last or not
lines_ended : (place : Place) (p rest : List ℕ)
    → with_ends (lines_from (is_open (10 ∷ rest)) place (map without_cr (p ∷ pieces false rest)))
    ≡ (line_at place (line_of p) ++ 10 ∷ []) ++ text_from (after place (line_of p)) rest
lines_ended place p [] = lines_cons false place p [] refl
lines_ended place p (y ∷ ys) =
    lines_cons (is_open (y ∷ ys)) place p (pieces false (y ∷ ys)) (and_false _ (is_open (y ∷ ys)) (some_pieces y ys))

-- a line that an LF ends
line_ended : (place : Place) (p rest : List ℕ) → ends p ≡ false
    → text_from place (p ++ 10 ∷ rest) ≡ (line_at place (line_of p) ++ 10 ∷ []) ++ text_from (after place (line_of p)) rest
line_ended place p rest h =
    ap (λ (ps : List (List ℕ)). with_ends (lines_from (is_open (p ++ 10 ∷ rest)) place (map without_cr ps))) (pieces-line false p rest h)
    ∙ ap (λ (b : Bool). with_ends (lines_from b place (map without_cr (p ∷ pieces false rest)))) (open_behind p 10 rest)
    ∙ lines_ended place p rest

-- the last line, which the end of the file ends
line_last : (place : Place) (x : ℕ) (p : List ℕ) → ends (x ∷ p) ≡ false
    → text_from place (x ∷ p) ≡ with_ends (lines_at true place (line_of (x ∷ p)))
line_last place x p h =
    ap (λ (b : Bool). with_ends (lines_from b place (map without_cr (pieces false (x ∷ p))))) (open_plain x p h)
    ∙ ap (λ (ps : List (List ℕ)). with_ends (lines_from true place (map without_cr ps))) (pieces_last x p h)
    ∙ ap with_ends (append-nil (lines_at true place (line_of (x ∷ p))))

-- bytes of the piece came to the line
pub goes_on : (place : Place) (begun piece following : List ℕ) → ends begun ≡ false → ends piece ≡ false
    → text_from place (begun ++ (piece ++ following)) ≡ text_from place (take 81 (begun ++ piece) ++ following)
goes_on place begun piece following a b =
    ap (text_from place) (sym (append_assoc begun piece following))
    ∙ sym (text_cut place (begun ++ piece) following (ends_append begun piece a b))

-- an LF was passed
pub ended_by : (place : Place) (begun piece following : List ℕ) (at : ℕ) → ends begun ≡ false → EndsAt piece at
    → text_from place (begun ++ (piece ++ following))
    ≡ (line_at place (line_of (take 81 (begun ++ take at piece))) ++ 10 ∷ [])
    ++ text_from (after place (line_of (take 81 (begun ++ take at piece)))) (drop 1 (drop at piece) ++ following)
ended_by place begun piece following at a end =
    let front : List ℕ = take at piece in
    let rest : List ℕ = drop (at + 1) piece in
    let parts : piece ≡ front ++ 10 ∷ rest = sym (take-append-drop at piece) ∙ ap (λ (l : List ℕ). front ++ l) end.at in
    let behind : drop 1 (drop at piece) ≡ rest = ap (drop 1) end.at in
    ap (λ (l : List ℕ). text_from place (begun ++ (l ++ following))) parts
    ∙ ap (λ (l : List ℕ). text_from place (begun ++ l)) (append_assoc front (10 ∷ rest) following)
    ∙ goes_on place begun front (10 ∷ (rest ++ following)) a end.none
    ∙ line_ended place (take 81 (begun ++ front)) (rest ++ following) (ends_take 81 (begun ++ front) (ends_append begun front a end.none))
    ∙ ap (λ (l : List ℕ). (line_at place (line_of (take 81 (begun ++ front))) ++ 10 ∷ [])
    ++ text_from (after place (line_of (take 81 (begun ++ front)))) (l ++ following)) (sym behind)

-- ---- the states of a reader

-- a line was ended by an LF that was read
pub next_ended : (a b c d : HeldState) (at : ℕ) → a.waiting ≡ [] → ends a.begun ≡ false → EndsAt a.piece at
    → b.begun ≡ take 81 (a.begun ++ take at a.piece) → b.piece ≡ drop at a.piece → b.place ≡ a.place → b.ended ≡ a.ended
    → c.begun ≡ b.begun → c.piece ≡ drop 1 b.piece → c.place ≡ b.place → c.ended ≡ b.ended
    → d.waiting ≡ line_at c.place (line_of c.begun) ++ 10 ∷ [] → d.place ≡ after c.place (line_of c.begun)
    → d.begun ≡ [] → d.piece ≡ c.piece → d.ended ≡ c.ended → SameToCome a d
next_ended a b c d at none plain end b1 b2 b3 b4 c1 c2 c3 c4 d1 d2 d3 d4 d5 = λ following.
    let line : c.begun ≡ take 81 (a.begun ++ take at a.piece) = c1 ∙ b1 in
    let place : c.place ≡ a.place = c3 ∙ b3 in
    let piece : d.piece ≡ drop 1 (drop at a.piece) = d4 ∙ c2 ∙ ap (drop 1) b2 in
    let ended : d.ended ≡ a.ended = d5 ∙ c4 ∙ b4 in
    rw (none, d1, d2, d3, piece, ended, line, place) (ended_by a.place a.begun a.piece (if a.ended then [] else following) at plain end)

-- all that was read came to the line
pub next_open : (a b : HeldState) (count : ℕ) → a.waiting ≡ [] → ends a.begun ≡ false → ends a.piece ≡ false → count ≡ length a.piece
    → b.begun ≡ take 81 (a.begun ++ take count a.piece) → b.piece ≡ drop count a.piece → b.place ≡ a.place → b.ended ≡ a.ended
    → b.waiting ≡ a.waiting → SameToCome a b
next_open a b count none plain rest is b1 b2 b3 b4 b5 = λ following.
    let line : b.begun ≡ take 81 (a.begun ++ a.piece) =
    b1 ∙ ap (λ (l : List ℕ). take 81 (a.begun ++ l)) (take_all count a.piece (omega (arith, is))) in
    let piece : b.piece ≡ [] = b2 ∙ drop_all count a.piece (omega (arith, is)) in
    rw (b5, none, line, piece, b3, b4) (goes_on a.place a.begun a.piece (if a.ended then [] else following) plain rest)

-- the end of the file, with a line that is begun
pub finish_line : (a b c : HeldState) → a.waiting ≡ [] → a.piece ≡ [] → a.ended ≡ false → ends a.begun ≡ false → 0 < length a.begun
    → b.waiting ≡ with_ends (lines_at true a.place (line_of a.begun)) → c.waiting ≡ b.waiting → c.begun ≡ [] → c.piece ≡ [] → c.ended ≡ true
    → text_to_come c [] ≡ text_to_come a []
finish_line a b c none piece ended plain some b1 c1 c2 c3 c4 = rw (none, piece, ended, c1, b1, c2, c3, c4)
    (append-nil (with_ends (lines_at true a.place (line_of a.begun))) ∙ last a.begun plain some
    ∙ ap (text_from a.place) (sym (append-nil a.begun))) where
      last : (begun : List ℕ) → ends begun ≡ false → 0 < length begun
          → with_ends (lines_at true a.place (line_of begun)) ≡ text_from a.place begun
      last [] plain some = absurd (omega (arith, some))
      last (x ∷ p) plain some = sym (line_last a.place x p plain)

-- the same with none
pub finish_none : (a c : HeldState) → a.waiting ≡ [] → a.piece ≡ [] → a.ended ≡ false → a.begun ≡ [] → c.waiting ≡ a.waiting
    → c.begun ≡ [] → c.piece ≡ [] → c.ended ≡ true → text_to_come c [] ≡ text_to_come a []
finish_none a c none piece ended begun c1 c2 c3 c4 = rw (none, piece, ended, begun, c1, none, c2, c3, c4) refl

-- ---- what is left of a source

pub keeps_on : (a b : HeldState) (old left : Option (List ℕ)) → Keeps old (left_of a left) → SameToCome a b → Keeps old (left_of b left)
keeps_on a b None left keep same = tt
keeps_on a b (Some xs) None keep same = absurd keep
keeps_on a b (Some xs) (Some ys) keep same = sym (same ys) ∙ keep

-- bytes that wait are given
pub given_on : (b c : HeldState) (count : ℕ) (bytes : List ℕ) (old left : Option (List ℕ)) → Keeps old (left_of b left)
    → bytes ≡ take count b.waiting → c.waiting ≡ drop count b.waiting → c.begun ≡ b.begun → c.piece ≡ b.piece → c.place ≡ b.place
    → c.ended ≡ b.ended → Consumes old (left_of c left) bytes
given_on b c count bytes None left keep is c1 c2 c3 c4 c5 = tt
given_on b c count bytes (Some xs) None keep is c1 c2 c3 c4 c5 = absurd keep
given_on b c count bytes (Some xs) (Some ys) keep is c1 c2 c3 c4 c5 = rw (is, c1, c2, c3, c4, c5)
    (sym keep ∙ ap (λ (l : List ℕ). l ++ behind) (sym (take-append-drop count b.waiting))
    ∙ append_assoc (take count b.waiting) (drop count b.waiting) behind) where
      behind : List ℕ
      behind = text_from b.place (b.begun ++ (b.piece ++ (if b.ended then [] else ys)))

-- at the end nothing is left
pub nothing_left : (b : HeldState) (left : Option (List ℕ)) → b.waiting ≡ [] → b.begun ≡ [] → b.piece ≡ [] → b.ended ≡ true
    → IsAtEnd (left_of b left)
nothing_left b None none begun piece ended = tt
nothing_left b (Some ys) none begun piece ended = rw (none, begun, piece, ended) refl
