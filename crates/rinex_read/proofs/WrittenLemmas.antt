-- The lines that are written of an item and of a header, as lines of the form of version 4.
use Rattle.std.proofs.Common.{◌≡◌, ℕ, true, false, List, [], ◌∷◌, ◌++◌, length, get_or, codes, Ok, refl, ap, ◌∙◌, arith}
use Rattle.std.proofs.lemmas.List.{get_or-append-add}
use Rattle.nav_eph.specs.declared.items.NavItem.{NavItem}
use Rattle.rinex_write.specs.declared.words.HeaderWords.{HeaderWords}
use Rattle.rinex_write.specs.Texts.{IsHeader, NoneTitled, item_lines, title_of, body_lines, leap_text, header_lines, header_lines_by}
use Rattle.rinex_write.proofs.Surface.{title_and_body, title_begins, body_untitled, item_shown, header_untitled}
use Rattle.rinex_read.specs.Lines.{columns, stands_at}
use Rattle.rinex_read.specs.Forms.{is_version, rinex4}
use Rattle.rinex_read.specs.Files.{is_navigation, ends_header, header_of}
use Rattle.rinex_read.specs.RoundTrip.{NoneBegins, AreRecordLines}

-- a line begins a record of version 4 where it begins with `>`
none_begins : (ls : List (List ℕ)) → NoneTitled ls → NoneBegins rinex4 ls
none_begins [] h = tt
none_begins (l ∷ ls) h = (h.0, none_begins ls h.1)

pub record_lines_are : (i : NavItem) → AreRecordLines rinex4 (item_lines i)
record_lines_are i = record {
  title = title_of i;
  others = body_lines i;
  lines_are = title_and_body i;
  first = title_begins i;
  rest = none_begins (body_lines i) (body_untitled i);
  shown = item_shown i;
}

pub header_begins : (h : HeaderWords) → NoneBegins rinex4 (header_lines h)
header_begins h = none_begins (header_lines h) (header_untitled (codes "     4.01") h refl)

pub header_ends : ends_header (codes "                                                            END OF HEADER") ≡ true
unfolding ends_header stands_at
header_ends = refl

-- the label of the line with the date
date_label : (date : List ℕ) → length date ≡ 19 → get_or (date ++ codes " PGM / RUN BY / DATE") 20 32 ≡ 80
date_label date is =
    ap (λ n. get_or (date ++ codes " PGM / RUN BY / DATE") n 32) (omega arith) ∙ get_or-append-add date (codes " PGM / RUN BY / DATE") 1 32

pub date_passes : (date : List ℕ) → length date ≡ 19 → ends_header (codes "navbridge                               " ++ (date ++ codes " PGM / RUN BY / DATE")) ≡ false
unfolding ends_header stands_at
date_passes date is = rw (date_label date is) refl

pub leap_passes : (leap : ℕ) → ends_header (codes "    " ++ (leap_text leap ++ codes "                                                      LEAP SECONDS")) ≡ false
unfolding ends_header stands_at
leap_passes leap = refl

pub header_again : (h : HeaderWords) → IsHeader h → (rest : List (List ℕ)) → header_of rinex4 0 (header_lines h ++ rest) ≡ Ok (record { number = 4; lines = rest })
unfolding header_lines_by is_navigation is_version stands_at columns
header_again h is rest =
    let date = date_passes h.date is.date in
    let leap = leap_passes h.leap in
    rw (date, leap, header_ends) refl
