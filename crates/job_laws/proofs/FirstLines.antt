-- The form that the first line of a capture or of a navigation file tells.
use Rattle.std.proofs.Common.{◌≡◌, ◌⊎◌, inl, inr, ◌+◌, ◌<◌, ◌≤◌, ◌==◌, ◌&&◌, ℕ, suc, zero, Bool, true, false, cond, List, [], ◌∷◌, ◌++◌, length, take, drop, get_or, map, codes, bytes_eq, nat_eq, Option, None, Some, refl, sym, ap, subst, ◌∙◌, arith, append_assoc, drop-cons, take-take, nat_le, lit≤}
use Rattle.std.proofs.lemmas.List.{take-append-drop, take-append-le, get_or_past}
use Rattle.std.proofs.lemmas.Bool.{and_parts, cases_lt, eqb-true, ne_eqb}
use Rattle.std.proofs.lemmas.Slice.Eq.{bytes_eq-Decides}
use Rattle.std.specs.Prelude.{IsSome, if◌then◌else◌, unwrap_or}
use Rattle.std.specs.Cmp.Lexicographic.{pointwise}
use Rattle.std.specs.List.{starts_with}
use Rattle.nav_io.specs.Lines.{Line, line_of, lines_by, pieces, with_prefix, without_cr}
use Rattle.nav_io.specs.Prefix.{IsPrefix}
use Rattle.capture_lines.specs.Heads.{head_of, own_head, plain_head}
use Rattle.capture_lines.specs.declared.head.CaptureHead.{CaptureHead}
use Rattle.scaled_decimal.specs.NumberReading.{before_trimmed, is_decimal, trim_end, trim_start}
use Rattle.rinex_read.specs.Files.{is_navigation}
use Rattle.rinex_read.specs.Forms.{is_four, is_version, rinex4}
use Rattle.rinex_read.specs.Form3.{is_three, rinex3}
use Rattle.rinex_read.specs.Lines.{columns, lines_of, stands_at}
use Rattle.whole_file.specs.Kinds.{binary_kind, first_char, is_head, kind_of, or_else, other_kind, prefix_kind, rinex_kind, text_kind, decided_by, version_of}
use Rattle.whole_file.specs.Units.{first_unit}
use Rattle.whole_file.specs.declared.kinds.Kind.{Kind}
use Rattle.whole_file.specs.declared.kinds.Kind.TheVariants.{Capture1, Capture2, Empty, Hatanaka, Observations, OtherRinex, Rinex2, Rinex3, Rinex4, Unknown}

never : false ≡ true → ⊥
never e = cc

-- ---- the first line is a prefix of the bytes

prefix_on : (a b c : List ℕ) → IsPrefix a b → IsPrefix b c → IsPrefix a c
prefix_on a b c (x, is) (y, also) = (x ++ y, also ∙ ap (λ (l : List ℕ). l ++ y) is ∙ append_assoc a x y)

grown : (x : ℕ) (a b : List ℕ) → IsPrefix a b → IsPrefix (x ∷ a) (x ∷ b)
grown x a b (rest, is) = (rest, ap (λ (l : List ℕ). x ∷ l) is)

first_by : (b : Bool) (x : ℕ) (xs : List ℕ) (more : List (List ℕ)) (p : List ℕ) (ps : List (List ℕ))
    → ((line : List ℕ) (lines : List (List ℕ)) → more ≡ line ∷ lines → IsPrefix line xs)
    → cond b ([] ∷ more) (with_prefix false x more) ≡ p ∷ ps → IsPrefix p (x ∷ xs)
first_by true x xs more p ps each e =
    let none : p ≡ [] = cc in
    (x ∷ xs, ap (λ (l : List ℕ). l ++ (x ∷ xs)) (sym none))
first_by false x xs [] p ps each e =
    let one : p ≡ x ∷ [] = cc in
    (xs, ap (λ (l : List ℕ). l ++ xs) (sym one))
first_by false x xs (line ∷ lines) p ps each e =
    let one : p ≡ x ∷ line = cc in
    subst (λ (l : List ℕ). IsPrefix l (x ∷ xs)) (sym one) (grown x line xs (each line lines refl))

first_piece : (bytes p : List ℕ) (ps : List (List ℕ)) → pieces false bytes ≡ p ∷ ps → IsPrefix p bytes
first_piece [] p ps e = absurd (let no : p ∷ ps ≡ [] = sym e in cc)
first_piece (x ∷ xs) p ps e =
    first_by (x == 10) x xs (pieces false xs) p ps (λ line lines is. first_piece xs line lines is) e

cr_by : (b : Bool) (x : ℕ) → IsPrefix (cond b [] (x ∷ [])) (x ∷ [])
cr_by true x = (x ∷ [], refl)
cr_by false x = ([], refl)

without_front : (p : List ℕ) → IsPrefix (without_cr p) p
without_front [] = ([], refl)
without_front (x ∷ []) = cr_by (x == 13) x
without_front (x ∷ y ∷ ys) = grown x (without_cr (y ∷ ys)) (y ∷ ys) (without_front (y ∷ ys))

pub first_line : (bytes l : List ℕ) (ls : List (List ℕ)) → lines_of bytes ≡ l ∷ ls → IsPrefix l bytes
first_line bytes l ls e = go (pieces false bytes) refl e where
  go : (ps : List (List ℕ)) → pieces false bytes ≡ ps → map without_cr ps ≡ l ∷ ls → IsPrefix l bytes
  go [] is e = absurd (let no : l ∷ ls ≡ [] = sym e in cc)
  go (p ∷ ps) is e =
      let same : without_cr p ≡ l = cc in
      subst (λ (x : List ℕ). IsPrefix x bytes) same (prefix_on (without_cr p) p bytes (without_front p) (first_piece bytes p ps is))

text_front : (p : List ℕ) → IsPrefix (line_of p).text p
unfolding line_of
text_front p =
    prefix_on (take 2200 (without_cr p)) (without_cr p) p (drop 2200 (without_cr p), sym (take-append-drop 2200 (without_cr p))) (without_front p)

pub first_text : (bytes : List ℕ) (head : Line) (ls : List Line) → lines_by false bytes ≡ head ∷ ls → IsPrefix head.text bytes
first_text bytes head ls e = go (pieces false bytes) refl e where
  go : (ps : List (List ℕ)) → pieces false bytes ≡ ps → map line_of ps ≡ head ∷ ls → IsPrefix head.text bytes
  go [] is e = absurd (let no : head ∷ ls ≡ [] = sym e in cc)
  go (p ∷ ps) is e =
      let same : line_of p ≡ head = cc in
      subst (λ (x : Line). IsPrefix x.text bytes) same (prefix_on (line_of p).text p bytes (text_front p) (first_piece bytes p ps is))

-- ---- a capture

-- bytes that are some
filled : (c : ℕ) (more : List ℕ) → prefix_kind (c ∷ more) ≡ or_else (binary_kind (c ∷ more)) (text_kind (c ∷ more))
unfolding prefix_kind
filled c more =
    let some : (length (c ∷ more) == 0) ≡ false = ne_eqb (length (c ∷ more)) 0 (λ none. omega (arith, none)) in
    ap (λ (b : Bool). if b then Empty else or_else (binary_kind (c ∷ more)) (text_kind (c ∷ more))) some

-- what the first line tells alone
by_head : (bytes : List ℕ) (kind : Kind) → prefix_kind (take 80 bytes) ≡ kind → is_head kind ≡ true → kind_of bytes ≡ kind
unfolding kind_of
by_head bytes kind told head =
    ap (λ (k : Kind). decided_by k (first_unit (take 65536 bytes))) told
    ∙ ap (λ (b : Bool). if b then kind else unwrap_or (first_unit (take 65536 bytes)) kind) head

plain_told : (rest : List ℕ) → kind_of (codes "NAVCAP 1" ++ rest) ≡ Capture1
unfolding binary_kind text_kind
plain_told rest = by_head (codes "NAVCAP 1" ++ rest) Capture1 (filled 78 (codes "AVCAP 1" ++ take 72 rest)) refl

week_told : (rest : List ℕ) → kind_of (codes "NAVCAP 2 " ++ rest) ≡ Capture2
unfolding binary_kind text_kind
week_told rest = by_head (codes "NAVCAP 2 " ++ rest) Capture2 (filled 78 (codes "AVCAP 2 " ++ take 71 rest)) refl

-- what begins so
after : (mark line : List ℕ) → starts_with nat_eq line mark ≡ true → line ≡ mark ++ drop (length mark) line
after mark line e =
    sym (take-append-drop (length mark) line) ∙ ap (λ (l : List ℕ). l ++ drop (length mark) line) (sym ((bytes_eq-Decides mark (take (length mark) line)).0 e))

pub head_told : (line bytes : List ℕ) → IsPrefix line bytes → IsSome (head_of line) → (kind_of bytes ≡ Capture1) ⊎ (kind_of bytes ≡ Capture2)
unfolding head_of
head_told line bytes (rest, is) some =
    by_marks (bytes_eq line plain_head) refl (starts_with nat_eq line (codes "NAVCAP 2 ")) refl (own_head (drop 9 line)) some where
      by_marks : (plain : Bool) → bytes_eq line plain_head ≡ plain → (week : Bool) → starts_with nat_eq line (codes "NAVCAP 2 ") ≡ week
          → (own : Option CaptureHead) → IsSome (cond plain (Some (record { window = 7200; week = None })) (cond week own None))
          → (kind_of bytes ≡ Capture1) ⊎ (kind_of bytes ≡ Capture2)
      by_marks true e week f own some =
          inl (ap kind_of (is ∙ ap (λ (l : List ℕ). l ++ rest) ((bytes_eq-Decides line plain_head).0 e)) ∙ plain_told rest)
      by_marks false e true f own some =
          inr (ap kind_of (is ∙ ap (λ (l : List ℕ). l ++ rest) (after (codes "NAVCAP 2 ") line f) ∙ append_assoc (codes "NAVCAP 2 ") (drop 9 line) rest)
          ∙ week_told (drop 9 line ++ rest))
      by_marks false e false f own some = absurd (never some)

-- ---- a navigation file

-- the last character of a text that stands in a line
last_at : (a : ℕ) (cs : List ℕ) (c : ℕ) (l : List ℕ) (n : ℕ) → n ≡ a + length cs → stands_at a (cs ++ c ∷ []) l ≡ true → get_or l n 32 ≡ c
unfolding stands_at
last_at a [] c l n at e =
    let here : get_or l a 32 ≡ c = eqb-true (get_or l a 32) c (and_parts (get_or l a 32 == c) true e).0 in
    let same : n ≡ a = omega arith in
    ap (λ (k : ℕ). get_or l k 32) same ∙ here
last_at a (d ∷ ds) c l n at e =
    last_at (a + 1) ds c l n (omega arith) (and_parts (get_or l a 32 == d) (stands_at (a + 1) (ds ++ c ∷ []) l) e).1

-- a text that stands in a line, which is long enough
text_at : (a : ℕ) (cs l : List ℕ) → a + length cs ≤ length l → stands_at a cs l ≡ true → take (length cs) (drop a l) ≡ cs
unfolding stands_at
text_at a [] l below e = refl
text_at a (c ∷ cs) l below e =
    let parts = and_parts (get_or l a 32 == c) (stands_at (a + 1) cs l) e in
    let lt : a < length l = omega arith in
    let one : a + 1 ≡ suc a = omega arith in
    let more : take (length cs) (drop (suc a) l) ≡ cs =
    subst (λ (k : ℕ). take (length cs) (drop k l) ≡ cs) one (text_at (a + 1) cs l (omega arith) parts.1) in
    ap (take (suc (length cs))) (drop-cons l a 32 lt)
    ∙ ap (λ (x : ℕ). x ∷ take (length cs) (drop (suc a) l)) (eqb-true (get_or l a 32) c parts.0)
    ∙ ap (λ (xs : List ℕ). c ∷ xs) more

-- it is the same in the first characters of the line
within : (n a m : ℕ) (l : List ℕ) → a + n ≤ m → take n (drop a (take m l)) ≡ take n (drop a l)
within n zero m l h = take-take n m l (omega arith)
within n (suc a) zero l h = absurd (omega arith)
within n (suc a) (suc m) [] h = refl
within n (suc a) (suc m) (x ∷ l) h = within n a m l (omega arith)

columns_are : (n a : ℕ) (l : List ℕ) → a + n ≤ length l → columns a n l ≡ take n (drop a l)
unfolding columns
columns_are zero a l h = refl
columns_are (suc n) a l h =
    let lt : a < length l = omega arith in
    let one : a + 1 ≡ suc a = omega arith in
    let more : columns (a + 1) n l ≡ take n (drop (suc a) l) =
    subst (λ (k : ℕ). columns (a + 1) n l ≡ take n (drop k l)) one (columns_are n (a + 1) l (omega arith)) in
    ap (λ (xs : List ℕ). get_or l a 32 ∷ xs) more ∙ ap (take (suc n)) (sym (drop-cons l a 32 lt))

-- the first character of a version
trimmed : (v : List ℕ) → first_char v ≡ get_or (trim_start v) 0 32
trimmed [] = refl
trimmed (x ∷ xs) = go (x == 32) (trimmed xs) where
  go : (b : Bool) → first_char xs ≡ get_or (trim_start xs) 0 32 → cond b (first_char xs) x ≡ get_or (cond b (trim_start xs) (x ∷ xs)) 0 32
  go true same = same
  go false same = refl

four_by : (c : ℕ) (ds : List ℕ) → is_four (before_trimmed c ds) ≡ true → c ≡ 52
four_by c [] e = go (c == 32) e where
  go : (b : Bool) → is_four (cond b [] (c ∷ [])) ≡ true → c ≡ 52
  go true e = absurd (never e)
  go false e = absurd (never e)
four_by c (d ∷ []) e = absurd (never e)
four_by c (d ∷ f ∷ []) e =
    eqb-true c 52 (and_parts (c == 52) (d == 46) (and_parts (c == 52 && d == 46) (is_decimal f) e).0).0
four_by c (d ∷ f ∷ g ∷ []) e =
    let first : (c == 52 && d == 46 && is_decimal f) ≡ true = (and_parts (c == 52 && d == 46 && is_decimal f) (is_decimal g) e).0 in
    eqb-true c 52 (and_parts (c == 52) (d == 46) (and_parts (c == 52 && d == 46) (is_decimal f) first).0).0
four_by c (d ∷ f ∷ g ∷ h ∷ more) e = absurd (never e)

is_4 : (t : List ℕ) → is_four (trim_end t) ≡ true → get_or t 0 32 ≡ 52
is_4 [] e = absurd (never e)
is_4 (c ∷ cs) e = four_by c (trim_end cs) e

three_by : (c : ℕ) (ds : List ℕ) → is_three (before_trimmed c ds) ≡ true → c ≡ 51
three_by c [] e = go (c == 32) e where
  go : (b : Bool) → is_three (cond b [] (c ∷ [])) ≡ true → c ≡ 51
  go true e = absurd (never e)
  go false e = absurd (never e)
three_by c (d ∷ []) e = absurd (never e)
three_by c (d ∷ f ∷ []) e = absurd (never e)
three_by c (d ∷ f ∷ g ∷ []) e = eqb-true c 51 (lead (c == 51) (d == 46) (f == 48) (nat_le 50 g) (nat_le g 53) e) where
  lead : (p q r s t : Bool) → (p && q && r && s && t) ≡ true → p ≡ true
  lead true q r s t e = refl
  lead false q r s t e = absurd (never e)
three_by c (d ∷ f ∷ g ∷ h ∷ more) e = absurd (never e)

is_3 : (t : List ℕ) → is_three (trim_end t) ≡ true → get_or t 0 32 ≡ 51
is_3 [] e = absurd (never e)
is_3 (c ∷ cs) e = three_by c (trim_end cs) e

-- what the first characters tell
by_version : ℕ → Kind
by_version v = if v == 52 then Rinex4 else if v == 51 then Rinex3 else if v == 50 then Rinex2 else OtherRinex

by_label : List ℕ → Kind
by_label prefix =
    if starts_with nat_eq (drop 60 prefix) (codes "CRINEX VERS   / TYPE") then Hatanaka
    else if starts_with nat_eq (drop 60 prefix) (codes "RINEX VERSION / TYPE") then rinex_kind prefix else Unknown

begun : (c : ℕ) (more : List ℕ) → (c ≡ 32) ⊎ ((c ≡ 51) ⊎ (c ≡ 52)) → prefix_kind (c ∷ more) ≡ by_label (c ∷ more)
unfolding binary_kind text_kind by_label
begun c more (inl is) = subst (λ (x : ℕ). prefix_kind (x ∷ more) ≡ by_label (x ∷ more)) (sym is) (filled 32 more)
begun c more (inr (inl is)) = subst (λ (x : ℕ). prefix_kind (x ∷ more) ≡ by_label (x ∷ more)) (sym is) (filled 51 more)
begun c more (inr (inr is)) = subst (λ (x : ℕ). prefix_kind (x ∷ more) ≡ by_label (x ∷ more)) (sym is) (filled 52 more)

labelled : (prefix : List ℕ) → take 20 (drop 60 prefix) ≡ codes "RINEX VERSION / TYPE" → by_label prefix ≡ rinex_kind prefix
unfolding by_label
labelled prefix is =
    subst (λ (x : List ℕ). cond (pointwise nat_eq (codes "CRINEX VERS   / TYPE") x) Hatanaka
    (cond (pointwise nat_eq (codes "RINEX VERSION / TYPE") x) (rinex_kind prefix) Unknown) ≡ rinex_kind prefix) (sym is) refl

typed : (prefix : List ℕ) → take 1 (drop 20 prefix) ≡ codes "N" → rinex_kind prefix ≡ by_version (version_of prefix)
unfolding rinex_kind by_version
typed prefix is =
    subst (λ (x : List ℕ). cond (pointwise nat_eq (codes "O") x) Observations
    (cond (pointwise nat_eq (codes "N") x) (by_version (version_of prefix)) (other_kind prefix)) ≡ by_version (version_of prefix)) (sym is) refl

-- the first character is a blank, or that of the version
lead_char : (c digit : ℕ) (more : List ℕ) → first_char (c ∷ more) ≡ digit → (c ≡ 32) ⊎ (c ≡ digit)
lead_char c digit more e = go (c == 32) refl e where
  go : (b : Bool) → (c == 32) ≡ b → cond b (first_char more) c ≡ digit → (c ≡ 32) ⊎ (c ≡ digit)
  go true is e = inl (eqb-true c 32 is)
  go false is e = inr e

either : (c digit : ℕ) → (digit ≡ 51) ⊎ (digit ≡ 52) → (c ≡ 32) ⊎ (c ≡ digit) → (c ≡ 32) ⊎ ((c ≡ 51) ⊎ (c ≡ 52))
either c digit which (inl blank) = inl blank
either c digit (inl is) (inr same) = inr (inl (same ∙ is))
either c digit (inr is) (inr same) = inr (inr (same ∙ is))

-- the line has 80 characters
long_line : (line : List ℕ) → stands_at 60 (codes "RINEX VERSION / TYPE") line ≡ true → 80 ≤ length line
long_line line e = by_length (cases_lt (length line) 80) where
  last : get_or line 79 32 ≡ 69
  last = last_at 60 (codes "RINEX VERSION / TYP") 69 line 79 refl e

  by_length : (length line < 80) ⊎ (80 ≤ length line) → 80 ≤ length line
  by_length (inl short) =
      let past : get_or line 79 32 ≡ 32 = get_or_past line 79 32 (omega arith) in
      absurd (let no : 32 ≡ 69 = sym past ∙ last in omega (arith, no))
  by_length (inr long) = long

kind_by : (line : List ℕ) (digit : ℕ) → (digit ≡ 51) ⊎ (digit ≡ 52) → 80 ≤ length line
    → take 20 (drop 60 line) ≡ codes "RINEX VERSION / TYPE" → take 1 (drop 20 line) ≡ codes "N" → first_char (take 9 line) ≡ digit
    → prefix_kind (take 80 line) ≡ by_version digit
kind_by [] digit which long label type version = absurd (omega (arith, long))
kind_by (c ∷ more) digit which long label type version =
    let prefix = take 80 (c ∷ more) in
    let version_is : first_char (take 9 prefix) ≡ digit = ap first_char (take-take 9 80 (c ∷ more) (lit≤ tt)) ∙ version in
    begun c (take 79 more) (either c digit which (lead_char c digit (take 8 more) version))
    ∙ labelled prefix (within 20 60 80 (c ∷ more) (lit≤ tt) ∙ label)
    ∙ typed prefix (within 1 20 80 (c ∷ more) (lit≤ tt) ∙ type)
    ∙ ap by_version version_is

version_is_head : (digit : ℕ) → (digit ≡ 51) ⊎ (digit ≡ 52) → is_head (by_version digit) ≡ true
unfolding by_version
version_is_head digit (inl is) = subst (λ (d : ℕ). is_head (by_version d) ≡ true) (sym is) refl
version_is_head digit (inr is) = subst (λ (d : ℕ). is_head (by_version d) ≡ true) (sym is) refl

navigation_told : (line bytes : List ℕ) (digit : ℕ) → (digit ≡ 51) ⊎ (digit ≡ 52) → IsPrefix line bytes → is_navigation line ≡ true
    → first_char (columns 0 9 line) ≡ digit → kind_of bytes ≡ by_version digit
unfolding is_navigation
navigation_told line bytes digit which (rest, is) navigation version =
    let parts = and_parts (stands_at 60 (codes "RINEX VERSION / TYPE") line) (stands_at 20 (codes "N") line) navigation in
    let long : 80 ≤ length line = long_line line parts.0 in
    let first : take 80 bytes ≡ take 80 line = ap (take 80) is ∙ take-append-le 80 line rest long in
    by_head bytes (by_version digit) (ap prefix_kind first
    ∙ kind_by line digit which long (text_at 60 (codes "RINEX VERSION / TYPE") line (omega (arith, long)) parts.0)
    (text_at 20 (codes "N") line (omega (arith, long)) parts.1)
    (ap first_char (sym (columns_are 9 0 line (omega (arith, long)))) ∙ version)) (version_is_head digit which)

pub four_told : (line bytes : List ℕ) → IsPrefix line bytes → is_navigation line ≡ true → is_version rinex4 line ≡ true → kind_of bytes ≡ Rinex4
unfolding is_version by_version
four_told line bytes front navigation version =
    navigation_told line bytes 52 (inr refl) front navigation (trimmed (columns 0 9 line) ∙ is_4 (trim_start (columns 0 9 line)) version)

pub three_told : (line bytes : List ℕ) → IsPrefix line bytes → is_navigation line ≡ true → is_version rinex3 line ≡ true → kind_of bytes ≡ Rinex3
unfolding is_version by_version
three_told line bytes front navigation version =
    navigation_told line bytes 51 (inl refl) front navigation (trimmed (columns 0 9 line) ∙ is_3 (trim_start (columns 0 9 line)) version)
