-- Only the kept lines of a RINEX 3 record matter, and the items that it gives are consistent.
use Rattle.std.proofs.Common.{◌≡◌, ℕ, zero, suc, ◌<◌, ◌==◌, ◌&&◌, Bool, true, false, if◌then◌else◌, List, [], ◌∷◌, ◌++◌, length, get_or, codes, nat_le, pos, refl, ap, ◌∙◌, subst, arith}
use Rattle.scaled_decimal.specs.ScaleValue.{size_of}
use Rattle.scaled_decimal.specs.NumberReading.{seen, read_of}
use Rattle.nav_eph.specs.declared.items.NavItem.{NavItem}
use Rattle.nav_eph.specs.Ranges.{IsItem}
use Rattle.rinex_read.specs.declared.judged.Judged.TheVariants as judgments
use Rattle.rinex_read.specs.Lines.{columns}
use Rattle.rinex_read.specs.Judging.{judged}
use Rattle.rinex_read.specs.Forms.{LooksAtKept, GivesWhole, read_at}
use Rattle.rinex_read.specs.RoundTrip.{IsWholeRead}
use Rattle.rinex_read.proofs.ListedLemmas.{whole_at}
use Rattle.rinex_read.proofs.Surface.{IsAlike, columns_alike, alike_itself, AreAlike, all_alike, fewer_alike, judged_alike, looked_alike, judged_whole}
use Rattle.rinex_read.specs.Form3.{is_inav, says_inav, whole, titled, judged3, rinex3}

line_alike : (n i : ℕ) (ls ms : List (List ℕ)) → i < n → AreAlike n ls ms → IsAlike (get_or ls i []) (get_or ms i [])
line_alike zero i ls ms h a = absurd (omega arith)
line_alike (suc n) zero [] [] h a = alike_itself []
line_alike (suc n) (suc i) [] [] h a = alike_itself []
line_alike (suc n) i [] (m ∷ ms) h a = absurd a
line_alike (suc n) i (l ∷ ls) [] h a = absurd a
line_alike (suc n) zero (l ∷ ls) (m ∷ ms) h a = a.0
line_alike (suc n) (suc i) (l ∷ ls) (m ∷ ms) h a = line_alike n i ls ms (omega arith) a.1

titled_alike : (message l m : List ℕ) → IsAlike l m → titled message l ≡ titled message m
titled_alike message l m h = ap (λ (t : List ℕ). codes "> EPH " ++ (t ++ 32 ∷ message)) (columns_alike 3 0 l m h (omega arith))

inav_alike : (ls ms : List (List ℕ)) → AreAlike 9 ls ms → is_inav ls ≡ is_inav ms
unfolding is_inav
inav_alike ls ms a =
    let count = all_alike 9 6 ls ms (omega arith) a in
    let text = columns_alike 19 23 (get_or ls 5 []) (get_or ms 5 []) (line_alike 9 5 ls ms (omega arith) a) (omega arith) in
    ap (λ b. b && says_inav (read_of (pos 0) (pos 1023) (seen (size_of whole) (columns 23 19 (get_or ls 5 []))))) count
    ∙ ap (λ t. nat_le 6 (length ms) && says_inav (read_of (pos 0) (pos 1023) (seen (size_of whole) t))) text

titled_judged : (message l m : List ℕ) (ls ms : List (List ℕ)) → AreAlike 9 (l ∷ ls) (m ∷ ms) → judged (titled message l ∷ l ∷ ls) ≡ judged (titled message m ∷ m ∷ ms)
titled_judged message l m ls ms a =
    let title : IsAlike (titled message l) (titled message m) = subst (IsAlike (titled message l)) (titled_alike message l m a.0) (alike_itself (titled message l)) in
    judged_alike (titled message l ∷ l ∷ ls) (titled message m ∷ m ∷ ms) (title, fewer_alike 8 9 (l ∷ ls) (m ∷ ms) (omega arith) a)

judged3_alike : (ls ms : List (List ℕ)) → AreAlike 9 ls ms → judged3 ls ≡ judged3 ms
unfolding judged3
judged3_alike [] [] a = refl
judged3_alike [] (m ∷ ms) a = absurd a
judged3_alike (l ∷ ls) [] a = absurd a
judged3_alike (l ∷ ls) (m ∷ ms) a =
    let first : get_or l 0 32 ≡ get_or m 0 32 = a.0.same 0 (omega arith) in
    ap (λ c. if c == 71 then judged (titled (codes "LNAV") l ∷ l ∷ ls) else if c == 69 && is_inav (l ∷ ls) then judged (titled (codes "INAV") l ∷ l ∷ ls) else judgments.PassedOver) first
    ∙ ap (λ b. if get_or m 0 32 == 71 then judged (titled (codes "LNAV") l ∷ l ∷ ls) else if get_or m 0 32 == 69 && b then judged (titled (codes "INAV") l ∷ l ∷ ls) else judgments.PassedOver) (inav_alike (l ∷ ls) (m ∷ ms) a)
    ∙ ap (λ j. if get_or m 0 32 == 71 then j else if get_or m 0 32 == 69 && is_inav (m ∷ ms) then judged (titled (codes "INAV") l ∷ l ∷ ls) else judgments.PassedOver) (titled_judged (codes "LNAV") l m ls ms a)
    ∙ ap (λ j. if get_or m 0 32 == 71 then judged (titled (codes "LNAV") m ∷ m ∷ ms) else if get_or m 0 32 == 69 && is_inav (m ∷ ms) then j else judgments.PassedOver) (titled_judged (codes "INAV") l m ls ms a)

pub looks_at_kept3 : LooksAtKept rinex3
looks_at_kept3 = λ number lines. ap (read_at number) (judged3_alike _ lines (fewer_alike 9 18 _ lines (omega arith) (looked_alike 18 lines)))

whole_items : (lines : List (List ℕ)) (item : NavItem) → judged3 lines ≡ judgments.Item item → IsItem item
unfolding judged3
whole_items [] item h = absurd (cc)
whole_items (l ∷ ls) item h = go (get_or l 0 32 == 71) (get_or l 0 32 == 69 && is_inav (l ∷ ls)) h
  where
    go : (a b : Bool) → (if a then judged (titled (codes "LNAV") l ∷ l ∷ ls) else if b then judged (titled (codes "INAV") l ∷ l ∷ ls) else judgments.PassedOver) ≡ judgments.Item item → IsItem item
    go true b e = judged_whole (titled (codes "LNAV") l ∷ l ∷ ls) item e
    go false true e = judged_whole (titled (codes "INAV") l ∷ l ∷ ls) item e
    go false false e = absurd (cc)

pub gives_whole3 : GivesWhole rinex3 IsWholeRead
gives_whole3 = λ number lines. whole_at number (judged3 lines) (whole_items lines)
