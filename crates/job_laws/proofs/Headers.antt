-- The words of a job that have a header give one that can be written, and a week that they name is a reference week.
use Rattle.std.proofs.Common.{◌≡◌, ℕ, ◌≤◌, ◌<◌, List, [], ◌∷◌, ◌++◌, codes, take, drop, length, true, nat_le, get_or}
use Rattle.std.proofs.Common.{sym, ap, subst, ◌∙◌, arith}
use Rattle.std.specs.Prelude.{Option, None, Some, IfSome}
use Rattle.std.specs.List.{list_all}
use Rattle.std.specs.Char.{is_ascii_digit}
use Rattle.std.proofs.lemmas.Bool.{and_parts, leb-true}
use Rattle.std.proofs.lemmas.List.{drop-drop, drop_more, take-append-drop}
use Rattle.nav_eph.specs.Weeks.{IsReference}
use Rattle.scaled_decimal.specs.NumberText.{AreShown}
use Rattle.rinex_write.specs.Texts.{IsHeader}
use Rattle.rinex_write.specs.declared.words.HeaderWords.{HeaderWords}
use Rattle.bridge_engine.specs.Job.{IsDateText, IsLeapText, IsWeekText, Reads}

digits_shown : (text : List ℕ) → list_all is_ascii_digit text ≡ true → AreShown text
digits_shown [] all = tt
digits_shown (c ∷ cs) all =
    let parts = and_parts (is_ascii_digit c) (list_all is_ascii_digit cs) all in
    let low : 48 ≤ c = leb-true 48 c (and_parts (nat_le 48 c) (nat_le c 57) parts.0).0 in
    (omega arith, digits_shown cs parts.1)

joined_shown : (a b : List ℕ) → AreShown a → AreShown b → AreShown (a ++ b)
joined_shown [] b p q = q
joined_shown (c ∷ a) b p q = (p.0, joined_shown a b p.1 q)

zone_shown : AreShown (codes " UTC")
zone_shown = (omega arith, (omega arith, (omega arith, (omega arith, tt))))

text_shown : (text date : List ℕ) → IsDateText text date → AreShown text
text_shown text date is =
    let size = is.size in
    let time = drop 9 text in
    let behind : AreShown (drop 6 time) = subst AreShown (sym (drop-drop 6 9 text ∙ is.zone)) zone_shown in
    let nine : AreShown time = subst AreShown (take-append-drop 6 time)
    (joined_shown (take 6 time) (drop 6 time) (digits_shown (take 6 time) is.time) behind) in
    let blank : 32 ≤ get_or text 8 0 = omega (arith, is.space) in
    let eight : AreShown (drop 8 text) = subst AreShown (sym (drop_more text 8 0 (omega arith))) (blank, nine) in
    subst AreShown (take-append-drop 8 text) (joined_shown (take 8 text) (drop 8 text) (digits_shown (take 8 text) is.day) eight)

date_read : (text : Option (List ℕ)) (date : List ℕ) → Reads IsDateText text (Some date) → (length date ≡ 19) × AreShown date
date_read None date reads = absurd reads
date_read (Some text) date is = (ap length is.same ∙ is.size, subst AreShown (sym is.same) (text_shown text date is))

leap_read : (text : Option (List ℕ)) (leap : ℕ) → Reads IsLeapText text (Some leap) → leap < 100
leap_read None leap reads = absurd reads
leap_read (Some text) leap is = omega (arith, is.1)

pub header_read : (date leap : Option (List ℕ)) (h : HeaderWords) → Reads IsDateText date (Some h.date)
    → Reads IsLeapText leap (Some h.leap)
    → IsHeader h
header_read date leap h a b =
    let d = date_read date h.date a in
    record { date = d.0; shown = d.1; leap = leap_read leap h.leap b }

pub week_read : (text : Option (List ℕ)) (week : Option ℕ) → Reads IsWeekText text week → IfSome week IsReference
week_read None None reads = tt
week_read None (Some week) reads = absurd reads
week_read (Some text) None reads = absurd reads
week_read (Some text) (Some week) is = is.1
