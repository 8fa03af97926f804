-- A header is passed exactly if the relation says so.
use Rattle.std.proofs.Common.{◌≡◌, ℕ, ◌+◌, ◌-◌, ◌≤◌, ◌==◌, ◌&&◌, nat_le, Bool, true, false, if◌then◌else◌, List, [], ◌∷◌, ◌++◌, length, codes, Result, Ok, Err, refl, ap, sym, ◌∙◌, subst, arith, eqb-true, le-leb}
use Rattle.std.proofs.lemmas.Bool.{and_parts, leb-true}
use Rattle.scaled_decimal.specs.Grammar.{AreDecimals}
use Rattle.scaled_decimal.specs.NumberReading.{is_decimal}
use Rattle.nav_io.specs.declared.lines.LineFault.{LineFault}
use Rattle.rinex_read.specs.declared.judged.HeaderFault.{HeaderFault}
use Rattle.rinex_read.specs.declared.judged.HeaderFault.TheVariants.{NotRinexNav, Version, Line}
use Rattle.rinex_read.specs.Lines.{columns, stands_at}
use Rattle.rinex_read.specs.Forms.{Form, is_version, is_four}
use Rattle.rinex_read.specs.Form3.{is_three}
use Rattle.rinex_read.specs.Files.{Body, is_navigation, ends_header, header_passed, header_of}
use Rattle.job_laws.specs.RinexRecords.{trimmed, IsVersion4, IsVersion3, NoneEnds, IsHeaderBefore, IsOtherVersion}
use Rattle.job_laws.proofs.RinexTexts.{stands-columns, columns-stands, decimal_test, decimal_parts}

-- the test of a version decides the relation
pub record Decides {R : Type 0} (f : Form R) (IsVersion : List ℕ → Type 0) : Type 0 where
  pub says : (text : List ℕ) → f.names text ≡ true → IsVersion text
  pub reads : (text : List ℕ) → IsVersion text → f.names text ≡ true

four-says : (text : List ℕ) → is_four text ≡ true → IsVersion4 text
four-says [] h = absurd (cc)
four-says (a ∷ []) h = absurd (cc)
four-says (a ∷ b ∷ []) h = absurd (cc)
four-says (a ∷ b ∷ c ∷ []) h =
    let both = and_parts (a == 52 && b == 46) (is_decimal c) h in
    let start = and_parts (a == 52) (b == 46) both.0 in
    let digit = decimal_parts c both.1 in
    (c ∷ [], rw (eqb-true a 52 start.0, eqb-true b 46 start.1) refl, (digit.0, digit.1, tt), omega arith, omega arith)
four-says (a ∷ b ∷ c ∷ d ∷ []) h =
    let all = and_parts (a == 52 && b == 46 && is_decimal c) (is_decimal d) h in
    let both = and_parts (a == 52 && b == 46) (is_decimal c) all.0 in
    let start = and_parts (a == 52) (b == 46) both.0 in
    let digit = decimal_parts c both.1 in
    let last = decimal_parts d all.1 in
    (c ∷ d ∷ [], rw (eqb-true a 52 start.0, eqb-true b 46 start.1) refl, (digit.0, digit.1, (last.0, last.1, tt)), omega arith, omega arith)
four-says (a ∷ b ∷ c ∷ d ∷ e ∷ rest) h = absurd (cc)

four-reads : (text : List ℕ) → IsVersion4 text → is_four text ≡ true
four-reads text h = subst (λ t. is_four t ≡ true) (sym h.1) (go h.0 h.2 h.3 h.4)
  where
    go : (minor : List ℕ) → AreDecimals minor → 1 ≤ length minor → length minor ≤ 2 → is_four (52 ∷ 46 ∷ minor) ≡ true
    go [] are from to = absurd (omega arith)
    go (c ∷ []) are from to = decimal_test c are.0 are.1
    go (c ∷ d ∷ []) are from to = ap (λ b. b && is_decimal d) (decimal_test c are.0 are.1) ∙ decimal_test d are.2.0 are.2.1
    go (c ∷ d ∷ e ∷ rest) are from to = absurd (omega arith)

three-says : (text : List ℕ) → is_three text ≡ true → IsVersion3 text
three-says [] h = absurd (cc)
three-says (a ∷ []) h = absurd (cc)
three-says (a ∷ b ∷ []) h = absurd (cc)
three-says (a ∷ b ∷ c ∷ []) h = absurd (cc)
three-says (a ∷ b ∷ c ∷ d ∷ []) h =
    let p4 = and_parts (a == 51 && b == 46 && c == 48 && nat_le 50 d) (nat_le d 53) h in
    let p3 = and_parts (a == 51 && b == 46 && c == 48) (nat_le 50 d) p4.0 in
    let p2 = and_parts (a == 51 && b == 46) (c == 48) p3.0 in
    let p1 = and_parts (a == 51) (b == 46) p2.0 in
    let low = leb-true 50 d p3.1 in
    let high = leb-true d 53 p4.1 in
    let last : d ≡ 48 + (d - 48) = omega arith in (
      d - 48,
      rw (eqb-true a 51 p1.0, eqb-true b 46 p1.1, eqb-true c 48 p2.1) (ap (λ (x : ℕ). codes "3.0" ++ x ∷ []) last),
      omega arith,
      omega arith,
    )
three-says (a ∷ b ∷ c ∷ d ∷ e ∷ rest) h = absurd (cc)

three-reads : (text : List ℕ) → IsVersion3 text → is_three text ≡ true
three-reads text h =
    subst (λ t. is_three t ≡ true) (sym h.1) (ap (λ b. b && nat_le (48 + h.0) 53) (le-leb 50 (48 + h.0) (omega (arith, h.2))) ∙ le-leb (48 + h.0) 53 (omega (arith, h.3)))

pub four_decides : {R : Type 0} (f : Form R) → f.names ≡ is_four → Decides f IsVersion4
four_decides f e = record {
  says = λ text h. four-says text (sym (ap (λ (names : List ℕ → Bool). names text) e) ∙ h);
  reads = λ text h. ap (λ (names : List ℕ → Bool). names text) e ∙ four-reads text h;
}

pub three_decides : {R : Type 0} (f : Form R) → f.names ≡ is_three → Decides f IsVersion3
three_decides f e = record {
  says = λ text h. three-says text (sym (ap (λ (names : List ℕ → Bool). names text) e) ∙ h);
  reads = λ text h. ap (λ (names : List ℕ → Bool). names text) e ∙ three-reads text h;
}

navigation-says : (line : List ℕ) → is_navigation line ≡ true → (columns 60 20 line ≡ codes "RINEX VERSION / TYPE") × (columns 20 1 line ≡ codes "N")
unfolding is_navigation
navigation-says line h =
    let both = and_parts (stands_at 60 (codes "RINEX VERSION / TYPE") line) (stands_at 20 (codes "N") line) h in
    (stands-columns (codes "RINEX VERSION / TYPE") 60 line both.0, stands-columns (codes "N") 20 line both.1)

navigation-read : (line : List ℕ) → columns 60 20 line ≡ codes "RINEX VERSION / TYPE" → columns 20 1 line ≡ codes "N" → is_navigation line ≡ true
unfolding is_navigation
navigation-read line label letter =
    ap (λ b. b && stands_at 20 (codes "N") line) (columns-stands (codes "RINEX VERSION / TYPE") 60 line label) ∙ columns-stands (codes "N") 20 line letter

end-says : (line : List ℕ) → ends_header line ≡ true → columns 60 13 line ≡ codes "END OF HEADER"
unfolding ends_header
end-says line h = stands-columns (codes "END OF HEADER") 60 line h

end-read : (line : List ℕ) → columns 60 13 line ≡ codes "END OF HEADER" → ends_header line ≡ true
unfolding ends_header
end-read line h = columns-stands (codes "END OF HEADER") 60 line h

no_end : (line : List ℕ) → (columns 60 13 line ≡ codes "END OF HEADER" → ⊥) → ends_header line ≡ false
no_end line not = go (ends_header line) refl
  where
    go : (b : Bool) → ends_header line ≡ b → b ≡ false
    go true e = absurd (not (end-says line e))
    go false e = refl

-- the lines up to the end of the header
record IsPassed (n : ℕ) (lines : List (List ℕ)) (body : Body) : Type 0 where
  pub others : List (List ℕ)
  pub last : List ℕ
  pub lines_are : lines ≡ others ++ last ∷ body.lines
  pub number : body.number ≡ n + length others + 1
  pub none : NoneEnds others
  pub end : columns 60 13 last ≡ codes "END OF HEADER"

passed-says : (n : ℕ) (lines : List (List ℕ)) (body : Body) → header_passed n lines ≡ Ok body → IsPassed n lines body
passed-says n [] body h = absurd (cc)
passed-says n (l ∷ ls) body h = go (ends_header l) refl h (passed-says (n + 1) ls body)
  where
    go : (b : Bool) → ends_header l ≡ b → (if b then Ok (record { number = n + 1; lines = ls }) else header_passed (n + 1) ls) ≡ Ok body
        → (header_passed (n + 1) ls ≡ Ok body → IsPassed (n + 1) ls body) → IsPassed n (l ∷ ls) body
    go true e h more =
        let is : ◌≡◌ {A = Body} (record { number = n + 1; lines = ls }) body = cc in
        subst (IsPassed n (l ∷ ls)) is (record { others = []; last = l; lines_are = refl; number = omega arith; none = tt; end = end-says l e })
    go false e h more =
        let rest = more h in
        record {
          others = l ∷ rest.others;
          last = rest.last;
          lines_are = ap (λ (xs : List (List ℕ)). l ∷ xs) rest.lines_are;
          number = omega (arith, rest.number);
          none = ((λ (ends : columns 60 13 l ≡ codes "END OF HEADER"). let yes = end-read l ends in cc), rest.none);
          end = rest.end;
        }

passed-reads : (n : ℕ) (others : List (List ℕ)) (last : List ℕ) (body : Body) → NoneEnds others → columns 60 13 last ≡ codes "END OF HEADER" → body.number ≡ n + length others + 1
    → header_passed n (others ++ last ∷ body.lines) ≡ Ok body
passed-reads n [] last body none end number =
    ap (λ b. if b then Ok (record { number = n + 1; lines = body.lines }) else header_passed (n + 1) body.lines) (end-read last end)
    ∙ ap (λ (k : ℕ). Ok (record { number = k; lines = body.lines })) (omega arith)
passed-reads n (l ∷ ls) last body none end number =
    ap (λ b. if b then Ok (record { number = n + 1; lines = ls ++ last ∷ body.lines }) else header_passed (n + 1) (ls ++ last ∷ body.lines)) (no_end l none.0)
    ∙ passed-reads (n + 1) ls last body none.1 end (omega arith)

pub header-says : {R : Type 0} (f : Form R) (V : List ℕ → Type 0) → Decides f V → (lines : List (List ℕ)) (body : Body) → header_of f 0 lines ≡ Ok body → IsHeaderBefore V lines body
unfolding is_version
header-says f V decides [] body h = absurd (cc)
header-says f V decides (l ∷ ls) body h = first (is_navigation l) refl h
  where
    second : (b : Bool) → f.names (trimmed (columns 0 9 l)) ≡ b → is_navigation l ≡ true → (if b then header_passed (0 + 1) ls else Err Version) ≡ Ok body → IsHeaderBefore V (l ∷ ls) body
    second true e nav h =
        let passed = passed-says (0 + 1) ls body h in
        let places = navigation-says l nav in
        record {
          first = l;
          others = passed.others;
          last = passed.last;
          lines_are = ap (λ (xs : List (List ℕ)). l ∷ xs) passed.lines_are;
          number = omega (arith, passed.number);
          first_is = record { version = decides.says (trimmed (columns 0 9 l)) e; navigation = places.1; label = places.0 };
          none = passed.none;
          end = passed.end;
        }
    second false e nav h = absurd (cc)

    first : (b : Bool) → is_navigation l ≡ b → (if b then (if f.names (trimmed (columns 0 9 l)) then header_passed (0 + 1) ls else Err Version) else Err NotRinexNav) ≡ Ok body → IsHeaderBefore V (l ∷ ls) body
    first true e h = second (f.names (trimmed (columns 0 9 l))) refl e h
    first false e h = absurd (cc)

pub header-reads : {R : Type 0} (f : Form R) (V : List ℕ → Type 0) → Decides f V → (lines : List (List ℕ)) (body : Body) → IsHeaderBefore V lines body → header_of f 0 lines ≡ Ok body
unfolding is_version
header-reads f V decides lines body h =
    let l = h.first in
    let ls = h.others ++ h.last ∷ body.lines in
    ap (header_of f 0) h.lines_are
    ∙ ap (λ b. if b then (if f.names (trimmed (columns 0 9 l)) then header_passed (0 + 1) ls else Err Version) else Err NotRinexNav) (navigation-read l h.first_is.label h.first_is.navigation)
    ∙ ap (λ b. if b then header_passed (0 + 1) ls else Err Version) (decides.reads (trimmed (columns 0 9 l)) h.first_is.version)
    ∙ passed-reads (0 + 1) h.others h.last body h.none h.end (omega (arith, h.number))

passed_version : (n : ℕ) (lines : List (List ℕ)) → header_passed n lines ≡ Err Version → ⊥
passed_version n [] h = cc
passed_version n (l ∷ ls) h = go (ends_header l) h (passed_version (n + 1) ls)
  where
    go : (b : Bool) → (if b then Ok (record { number = n + 1; lines = ls }) else header_passed (n + 1) ls) ≡ Err Version → (header_passed (n + 1) ls ≡ Err Version → ⊥) → ⊥
    go true h more = cc
    go false h more = more h

pub version-says : {R : Type 0} (f : Form R) (V : List ℕ → Type 0) → Decides f V → (lines : List (List ℕ)) → header_of f 0 lines ≡ Err Version → IsOtherVersion V lines
unfolding is_version
version-says f V decides [] h = absurd (cc)
version-says f V decides (l ∷ ls) h = first (is_navigation l) refl h
  where
    second : (b : Bool) → f.names (trimmed (columns 0 9 l)) ≡ b → is_navigation l ≡ true → (if b then header_passed (0 + 1) ls else Err Version) ≡ Err Version → IsOtherVersion V (l ∷ ls)
    second true e nav h = absurd (passed_version (0 + 1) ls h)
    second false e nav h =
        let places = navigation-says l nav in (
          l,
          ls,
          refl,
          record {
            version = λ (is : V (trimmed (columns 0 9 l))). let yes = decides.reads (trimmed (columns 0 9 l)) is in cc;
            navigation = places.1;
            label = places.0;
          },
        )

    first : (b : Bool) → is_navigation l ≡ b → (if b then (if f.names (trimmed (columns 0 9 l)) then header_passed (0 + 1) ls else Err Version) else Err NotRinexNav) ≡ Err Version → IsOtherVersion V (l ∷ ls)
    first true e h = second (f.names (trimmed (columns 0 9 l))) refl e h
    first false e h = absurd (cc)

pub version-reads : {R : Type 0} (f : Form R) (V : List ℕ → Type 0) → Decides f V → (lines : List (List ℕ)) → IsOtherVersion V lines → header_of f 0 lines ≡ Err Version
unfolding is_version
version-reads f V decides lines h =
    let l = h.0 in
    ap (header_of f 0) h.2
    ∙ ap (λ b. if b then (if f.names (trimmed (columns 0 9 l)) then header_passed (0 + 1) h.1 else Err Version) else Err NotRinexNav) (navigation-read l h.3.label h.3.navigation)
    ∙ ap (λ b. if b then header_passed (0 + 1) h.1 else Err Version) (other (f.names (trimmed (columns 0 9 l))) refl)
  where
    other : (b : Bool) → f.names (trimmed (columns 0 9 h.0)) ≡ b → b ≡ false
    other true e = absurd (h.3.version (decides.says (trimmed (columns 0 9 h.0)) e))
    other false e = refl

passed_line : (n : ℕ) (lines : List (List ℕ)) (fault : LineFault) → header_passed n lines ≡ Err (Line fault) → ⊥
passed_line n [] fault h = cc
passed_line n (l ∷ ls) fault h = go (ends_header l) h (passed_line (n + 1) ls fault)
  where
    go : (b : Bool) → (if b then Ok (record { number = n + 1; lines = ls }) else header_passed (n + 1) ls) ≡ Err (Line fault) → (header_passed (n + 1) ls ≡ Err (Line fault) → ⊥) → ⊥
    go true h more = cc
    go false h more = more h

header_line : {R : Type 0} (f : Form R) (lines : List (List ℕ)) (fault : LineFault) → header_of f 0 lines ≡ Err (Line fault) → ⊥
header_line f [] fault h = cc
header_line f (l ∷ ls) fault h = go (is_navigation l) (is_version f l) h
  where
    go : (a b : Bool) → (if a then (if b then header_passed (0 + 1) ls else Err Version) else Err NotRinexNav) ≡ Err (Line fault) → ⊥
    go true true h = passed_line (0 + 1) ls fault h
    go true false h = cc
    go false b h = cc

-- the lines are neither a header and a body, nor of another version
abbrev pub IsNeither : (List ℕ → Type 0) → List (List ℕ) → Type 0
IsNeither V lines = ((body : Body) → IsHeaderBefore V lines body → ⊥) × (IsOtherVersion V lines → ⊥)

pub neither-says : {R : Type 0} (f : Form R) (V : List ℕ → Type 0) → Decides f V → (lines : List (List ℕ)) → header_of f 0 lines ≡ Err NotRinexNav → IsNeither V lines
neither-says f V decides lines h = (
  (λ body is. let read = header-reads f V decides lines body is in different body (sym read ∙ h)),
  (λ is. let read = version-reads f V decides lines is in others (sym read ∙ h)),
)
  where
    different : (body : Body) → ◌≡◌ {A = Result Body HeaderFault} (Ok body) (Err NotRinexNav) → ⊥
    different body e = cc

    others : ◌≡◌ {A = Result Body HeaderFault} (Err Version) (Err NotRinexNav) → ⊥
    others e = cc

pub neither-reads : {R : Type 0} (f : Form R) (V : List ℕ → Type 0) → Decides f V → (lines : List (List ℕ)) → IsNeither V lines → header_of f 0 lines ≡ Err NotRinexNav
neither-reads f V decides lines neither = go (header_of f 0 lines) refl
  where
    go : (r : Result Body HeaderFault) → header_of f 0 lines ≡ r → r ≡ Err NotRinexNav
    go (Ok body) e = absurd (neither.0 body (header-says f V decides lines body e))
    go (Err NotRinexNav) e = refl
    go (Err Version) e = absurd (neither.1 (version-says f V decides lines e))
    go (Err (Line fault)) e = absurd (header_line f lines fault e)
