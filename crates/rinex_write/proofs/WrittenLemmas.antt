-- The lines of records and of headers: which begin with `>`, and that each byte is at least 32.
use Rattle.std.proofs.Common.{◌≡◌, ℕ, zero, suc, ◌+◌, ◌≤◌, ◌==◌, ◌&&◌, ◌/◌, Bool, true, false, nat_le, nat_lt, if◌then◌else◌, replicate, List, [], ◌∷◌, ◌++◌, length, drop, codes, refl, ap, sym, ◌∙◌, subst, arith, ℤ, append_assoc, length-append}
use Rattle.std.proofs.lemmas.Bool.{and_parts, leb-true}
use Rattle.scaled_decimal.specs.ScaleValue.{size_of}
use Rattle.scaled_decimal.specs.NumberText.{digits, number_text, AreShown}
use Rattle.scaled_decimal.proofs.Surface.{AreShown-number_text}
use Rattle.nav_eph.specs.Functions.{civil_to}
use Rattle.nav_eph.specs.Satellite.{Satellite}
use Rattle.nav_eph.specs.declared.sat.System.{System}
use Rattle.nav_eph.specs.declared.sat.System.TheVariants.{Gps, Gal}
use Rattle.nav_eph.specs.declared.ion.IonContent.{IonContent}
use Rattle.nav_eph.specs.declared.ion.IonContent.TheVariants.{Gps as OfGps, Gal as OfGal}
use Rattle.nav_eph.specs.declared.items.NavItem.{NavItem}
use Rattle.nav_eph.specs.declared.items.NavItem.TheVariants.{Gps as GpsItem, Gal as GalItem, Ion as IonItem}
use Rattle.rinex_write.specs.declared.columns.Column.{Column}
use Rattle.rinex_write.specs.declared.words.HeaderWords.{HeaderWords}
use Rattle.rinex_write.specs.Columns.{blanks, column_text, is_blank, is_unknown, shown, row_text, row_lines, unknown_text}
use Rattle.rinex_write.specs.Layouts.{Kind, gps_kind, galileo_kind, gps_ionosphere_kind, galileo_ionosphere_kind}
use Rattle.rinex_write.specs.Fields.{gps_fields, galileo_fields, gps_ionosphere_fields, galileo_ionosphere_fields, gps_epoch, galileo_epoch}
use Rattle.rinex_write.specs.Texts.{text_of, letter_of, satellite_text, date_text, title_line, ionosphere_lines, ionosphere_title, ionosphere_body, item_lines, title_of, body_lines, leap_text, header_lines_by, IsHeader, AreLines, NoneTitled, begins_record}

pub lines_more : (a b : List (List ℕ)) → AreLines a → AreLines b → AreLines (a ++ b)
lines_more [] b p q = q
lines_more (l ∷ a) b p q = (p.0, lines_more a b p.1 q)

shown_more : (a b : List ℕ) → AreShown a → AreShown b → AreShown (a ++ b)
shown_more [] b p q = q
shown_more (c ∷ a) b p q = (p.0, shown_more a b p.1 q)

spaces_shown : (n : ℕ) → AreShown (replicate n 32)
spaces_shown zero = tt
spaces_shown (suc n) = (omega arith, spaces_shown n)

abbrev are_shown : List ℕ → Bool
are_shown [] = true
are_shown (c ∷ cs) = nat_le 32 c && are_shown cs

shown_by : (l : List ℕ) → are_shown l ≡ true → AreShown l
shown_by [] h = tt
shown_by (c ∷ cs) h = let both = and_parts (nat_le 32 c) (are_shown cs) h in (leb-true 32 c both.0, shown_by cs both.1)

shown_or_set : (a b : Bool) (text : List ℕ) → AreShown text → AreShown (if a then blanks else if b then unknown_text else text)
shown_or_set true b text h = spaces_shown 19
shown_or_set false true text h = shown_by unknown_text refl
shown_or_set false false text h = h

column_shown : (c : Column) (z : ℤ) → AreShown (column_text c z)
column_shown c z = shown_or_set (is_blank c.rule z) (is_unknown c.rule z) (number_text (size_of c.scale) (shown c.rule z)) (AreShown-number_text (size_of c.scale) (shown c.rule z))

-- each byte of a row is at least 32
row_shown : (cs : List Column) (zs : List ℤ) → AreShown (row_text cs zs)
row_shown [] zs = tt
row_shown (c ∷ cs) [] = tt
row_shown (c ∷ cs) (z ∷ zs) = shown_more (column_text c z) (row_text cs zs) (column_shown c z) (row_shown cs zs)

blanks_shown : AreShown (codes "    ")
blanks_shown = (omega arith, (omega arith, (omega arith, (omega arith, tt))))

rows_shown : (rows : List (List Column)) (start : List ℕ) (zs : List ℤ) → AreShown start → AreLines (row_lines start rows zs)
rows_shown [] start zs h = tt
rows_shown (r ∷ rs) start zs h = (shown_more start (row_text r zs) h (row_shown r zs), rows_shown rs (codes "    ") (drop (length r) zs) blanks_shown)

rows_begin : (rows : List (List Column)) (c : ℕ) (start : List ℕ) (zs : List ℤ) → (c == 62) ≡ false → NoneTitled (row_lines (c ∷ start) rows zs)
rows_begin [] c start zs h = tt
rows_begin (r ∷ rs) c start zs h = (h, rows_begin rs 32 (32 ∷ 32 ∷ 32 ∷ []) (drop (length r) zs) refl)

digit_shown : (x : ℕ) → 32 ≤ 48 + x
digit_shown x = omega arith

date_shown : (m : ℕ) → AreShown (date_text (civil_to m))
unfolding date_text digits
date_shown m = (
  digit_shown _,
  (
    digit_shown _,
    (
      digit_shown _,
      (
        digit_shown _,
        (
          omega arith,
          (
            digit_shown _,
            (
              digit_shown _,
              (
                omega arith,
                (
                  digit_shown _,
                  (
                    digit_shown _,
                    (
                      omega arith,
                      (
                        digit_shown _,
                        (
                          digit_shown _,
                          (
                            omega arith,
                            (
                              digit_shown _,
                              (
                                digit_shown _,
                                (
                                  omega arith,
                                  (digit_shown _, (digit_shown _, tt)),
                                ),
                              ),
                            ),
                          ),
                        ),
                      ),
                    ),
                  ),
                ),
              ),
            ),
          ),
        ),
      ),
    ),
  ),
)

letter_shown : (s : System) → 32 ≤ letter_of s
letter_shown Gps = omega arith
letter_shown Gal = omega arith

letter_begins : (s : System) → (letter_of s == 62) ≡ false
letter_begins Gps = refl
letter_begins Gal = refl

satellite_shown : (sat : Satellite) → AreShown (satellite_text sat)
unfolding digits
satellite_shown sat = (letter_shown sat.system, (digit_shown _, (digit_shown _, tt)))

-- each byte of a kind is at least 32
record IsShownKind (k : Kind) : Type 0 where
  pub class : AreShown k.class
  pub message : AreShown k.message

gps_shown : IsShownKind gps_kind
unfolding gps_kind
gps_shown = record {
  class = (omega arith, (omega arith, (omega arith, tt)));
  message = (omega arith, (omega arith, (omega arith, (omega arith, tt))));
}

galileo_shown : IsShownKind galileo_kind
unfolding galileo_kind
galileo_shown = record {
  class = (omega arith, (omega arith, (omega arith, tt)));
  message = (omega arith, (omega arith, (omega arith, (omega arith, tt))));
}

gps_ionosphere_shown : IsShownKind gps_ionosphere_kind
unfolding gps_ionosphere_kind
gps_ionosphere_shown = record {
  class = (omega arith, (omega arith, (omega arith, tt)));
  message = (omega arith, (omega arith, (omega arith, (omega arith, tt))));
}

galileo_ionosphere_shown : IsShownKind galileo_ionosphere_kind
unfolding galileo_ionosphere_kind
galileo_ionosphere_shown = record {
  class = (omega arith, (omega arith, (omega arith, tt)));
  message = (omega arith, (omega arith, (omega arith, (omega arith, tt))));
}

title_shown : (k : Kind) (sat : Satellite) → IsShownKind k → AreShown (title_line k sat)
title_shown k sat h =
    (omega arith, (omega arith, shown_more k.class _ h.class (omega arith, shown_more (satellite_text sat) _ (satellite_shown sat) (omega arith, h.message))))

-- a record after its title: the lines of its rows, of which the first begins with some characters and a date
start_shown : (start : List ℕ) (moment : ℕ) → AreShown start → AreShown (start ++ date_text (civil_to moment))
start_shown start moment h = shown_more start (date_text (civil_to moment)) h (date_shown moment)

sat_shown : (sat : Satellite) → AreShown (satellite_text sat ++ 32 ∷ [])
sat_shown sat = shown_more (satellite_text sat) (32 ∷ []) (satellite_shown sat) (omega arith, tt)

ionosphere_body_shown : (moment : ℕ) (content : IonContent) → AreLines (ionosphere_body moment content)
ionosphere_body_shown moment (OfGps i) = rows_shown gps_ionosphere_kind.rows _ (gps_ionosphere_fields i) (start_shown (codes "    ") moment blanks_shown)
ionosphere_body_shown moment (OfGal i) = rows_shown galileo_ionosphere_kind.rows _ (galileo_ionosphere_fields i) (start_shown (codes "    ") moment blanks_shown)

pub body_shown : (i : NavItem) → AreLines (body_lines i)
unfolding body_lines
body_shown (GpsItem e) = rows_shown gps_kind.rows _ (gps_fields e) (start_shown (satellite_text e.sat ++ 32 ∷ []) (gps_epoch e) (sat_shown e.sat))
body_shown (GalItem e) = rows_shown galileo_kind.rows _ (galileo_fields e) (start_shown (satellite_text e.sat ++ 32 ∷ []) (galileo_epoch e) (sat_shown e.sat))
body_shown (IonItem e) = ionosphere_body_shown e.moment e.content

ionosphere_title_shown : (sat : Satellite) (content : IonContent) → AreShown (ionosphere_title sat content)
ionosphere_title_shown sat (OfGps i) = title_shown gps_ionosphere_kind sat gps_ionosphere_shown
ionosphere_title_shown sat (OfGal i) = title_shown galileo_ionosphere_kind sat galileo_ionosphere_shown

pub title_of_shown : (i : NavItem) → AreShown (title_of i)
unfolding title_of
title_of_shown (GpsItem e) = title_shown gps_kind e.sat gps_shown
title_of_shown (GalItem e) = title_shown galileo_kind e.sat galileo_shown
title_of_shown (IonItem e) = ionosphere_title_shown e.sat e.content

ionosphere_untitled : (moment : ℕ) (content : IonContent) → NoneTitled (ionosphere_body moment content)
ionosphere_untitled moment (OfGps i) = rows_begin gps_ionosphere_kind.rows 32 _ (gps_ionosphere_fields i) refl
ionosphere_untitled moment (OfGal i) = rows_begin galileo_ionosphere_kind.rows 32 _ (galileo_ionosphere_fields i) refl

-- no line after the title begins with `>`
pub body_untitled : (i : NavItem) → NoneTitled (body_lines i)
unfolding body_lines
body_untitled (GpsItem e) = rows_begin gps_kind.rows (letter_of e.sat.system) _ (gps_fields e) (letter_begins e.sat.system)
body_untitled (GalItem e) = rows_begin galileo_kind.rows (letter_of e.sat.system) _ (galileo_fields e) (letter_begins e.sat.system)
body_untitled (IonItem e) = ionosphere_untitled e.moment e.content

ionosphere_titled : (sat : Satellite) (content : IonContent) → begins_record (ionosphere_title sat content) ≡ true
ionosphere_titled sat (OfGps i) = refl
ionosphere_titled sat (OfGal i) = refl

pub title_begins : (i : NavItem) → begins_record (title_of i) ≡ true
unfolding title_of
title_begins (GpsItem e) = refl
title_begins (GalItem e) = refl
title_begins (IonItem e) = ionosphere_titled e.sat e.content

-- the record of an item is its title and its body
pub title_and_body : (i : NavItem) → item_lines i ≡ title_of i ∷ body_lines i
unfolding item_lines title_of body_lines
title_and_body (GpsItem e) = refl
title_and_body (GalItem e) = refl
title_and_body (IonItem e) = content e.content
  where
    content : (c : IonContent) → ionosphere_lines e.sat e.moment c ≡ ionosphere_title e.sat c ∷ ionosphere_body e.moment c
    content (OfGps i) = refl
    content (OfGal i) = refl

pub item_shown : (i : NavItem) → AreLines (item_lines i)
item_shown i = subst AreLines (sym (title_and_body i)) (title_of_shown i, body_shown i)

-- the text of two lists of lines
pub text_more : (a b : List (List ℕ)) → text_of (a ++ b) ≡ text_of a ++ text_of b
text_more [] b = refl
text_more (l ∷ a) b = ap (λ t. l ++ 10 ∷ t) (text_more a b) ∙ sym (append_assoc l (10 ∷ text_of a) (text_of b))

-- a title has 14 characters
ionosphere_title_long : (sat : Satellite) (content : IonContent) → length (ionosphere_title sat content) ≡ 14
unfolding gps_ionosphere_kind galileo_ionosphere_kind digits
ionosphere_title_long sat (OfGps i) = refl
ionosphere_title_long sat (OfGal i) = refl

length-title_of : (i : NavItem) → length (title_of i) ≡ 14
unfolding title_of gps_kind galileo_kind digits
length-title_of (GpsItem e) = refl
length-title_of (GalItem e) = refl
length-title_of (IonItem e) = ionosphere_title_long e.sat e.content

drop_line : (n : ℕ) (l rest : List ℕ) → length l ≡ n → drop (suc n) (l ++ 10 ∷ rest) ≡ rest
drop_line n [] rest e = ap (λ k. drop (suc k) (10 ∷ rest)) (sym e)
drop_line zero (c ∷ l) rest e = absurd (omega arith)
drop_line (suc n) (c ∷ l) rest e = drop_line n l rest (omega arith)

-- the text of a record without its first line is that of its body
pub record_cut : (i : NavItem) (text : List ℕ) → text ≡ text_of (item_lines i) → (15 ≤ length text) × (drop 15 text ≡ text_of (body_lines i))
record_cut i text e =
    let whole : text ≡ title_of i ++ 10 ∷ text_of (body_lines i) = e ∙ ap text_of (title_and_body i) in
    let long : length text ≡ length (title_of i) + suc (length (text_of (body_lines i))) = ap length whole ∙ length-append (title_of i) (10 ∷ text_of (body_lines i)) in
    (omega (arith, length-title_of i), ap (drop 15) whole ∙ drop_line 14 (title_of i) (text_of (body_lines i)) (length-title_of i))

-- the header
leap_shown : (n : ℕ) → AreShown (leap_text n)
leap_shown n = (tens (nat_lt n 10), (digit_shown _, tt))
  where
    tens : (b : Bool) → 32 ≤ (if b then 32 else (48 + n / 10))
    tens true = omega arith
    tens false = omega arith

pub header_shown : (version : List ℕ) (h : HeaderWords) → AreShown version → IsHeader h → AreLines (header_lines_by version h)
unfolding header_lines_by
header_shown version h good is = (
  shown_more version (codes "           N: GNSS NAV DATA    M: MIXED            RINEX VERSION / TYPE") good (shown_by (codes "           N: GNSS NAV DATA    M: MIXED            RINEX VERSION / TYPE") refl),
  (
    shown_more (codes "navbridge                               ") (h.date ++ codes " PGM / RUN BY / DATE") (shown_by (codes "navbridge                               ") refl)
        (shown_more h.date (codes " PGM / RUN BY / DATE") is.shown (shown_by (codes " PGM / RUN BY / DATE") refl)),
    (
      shown_more (codes "    ") (leap_text h.leap ++ codes "                                                      LEAP SECONDS") blanks_shown
          (shown_more (leap_text h.leap) (codes "                                                      LEAP SECONDS") (leap_shown h.leap) (shown_by (codes "                                                      LEAP SECONDS") refl)),
      (shown_by (codes "                                                            END OF HEADER") refl, tt),
    ),
  ),
)

starts_version : (version rest : List ℕ) → begins_record version ≡ false → begins_record (version ++ 32 ∷ rest) ≡ false
starts_version [] rest h = refl
starts_version (c ∷ cs) rest h = h

pub header_untitled : (version : List ℕ) (h : HeaderWords) → begins_record version ≡ false → NoneTitled (header_lines_by version h)
unfolding header_lines_by
header_untitled version h good = (starts_version version _ good, (refl, (refl, (refl, tt))))

pub length-header : (version : List ℕ) (h : HeaderWords) → length (header_lines_by version h) ≡ 4
unfolding header_lines_by
length-header version h = refl
