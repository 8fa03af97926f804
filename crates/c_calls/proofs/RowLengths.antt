-- The length of the record of a row.
use Rattle.std.proofs.Common.{◌≡◌, ℕ, suc, ◌+◌, ◌*◌, ◌<◌, ◌≤◌, List, [], ◌∷◌, ◌++◌, length, sum, drop, codes, Some, refl, sym, ◌∙◌, arith, length-append, length-drop}
use Rattle.std.proofs.lemmas.List.{length-take-le}
use Rattle.std.proofs.lemmas.List.Sums.{sum_by-cons}
use Rattle.nav_io.specs.Causes.{Rose}
use Rattle.nav_io.specs.Prefix.{AppendsPrefix}
use Rattle.scaled_decimal.specs.NumberText.{digits}
use Rattle.nav_eph.specs.Functions.{civil_to}
use Rattle.rinex_write.specs.Columns.{row_lines}
use Rattle.rinex_write.specs.declared.columns.Column.{Column}
use Rattle.rinex_write.specs.RowTexts.{row_satellite, row_title, split_rows}
use Rattle.rinex_write.specs.Texts.{date_text, text_of}
use Rattle.nav_rows.specs.Kinds.{IsKind}
use Rattle.nav_rows.specs.Rows.{RowValue, record_kind, record_text}
use Rattle.nav_rows.specs.declared.kind.Kind.{Kind}
use Rattle.c_calls.proofs.Surface.{length-date, length-digits, length-rows, never_full, rows_size}

-- room for the lines of columns cut into rows
split_size : (ns : List ℕ) (cs : List Column) → sum ns ≡ length cs → rows_size (split_rows ns cs) ≡ 5 * length ns + 19 * length cs
split_size [] [] e = refl
split_size [] (c ∷ cs) e = absurd (omega arith)
split_size (n ∷ ns) cs e =
    let whole : n + sum ns ≡ length cs = sym (sum_by-cons (λ x. x) n ns) ∙ e in
    let one : length (n ∷ ns) ≡ suc (length ns) = refl in
    omega (
      arith,
      whole,
      one,
      length-drop n cs,
      length-take-le n cs (omega (arith, whole)),
      split_size ns (drop n cs) (omega (arith, whole, length-drop n cs)),
    )

length-record : (k : Kind) (row : RowValue) → IsKind k → length (record_text k row) ≤ 900
length-record k row is =
    let title : List ℕ = row_title (record_kind k) k.letter row.number in
    let satellite : List ℕ = row_satellite k.letter row.number in
    let start : List ℕ = (satellite ++ 32 ∷ []) ++ date_text (civil_to row.moment) in
    let rows = (record_kind k).rows in
    let lines : List ℕ = text_of (row_lines start rows row.columns) in
    let behind : List ℕ = 32 ∷ (satellite ++ 32 ∷ k.title.now) in
    let class : length (codes "EPH") ≡ 3 = refl in
    let begin : length (codes "> ") ≡ 2 = refl in
    let first : length behind ≡ suc (length (satellite ++ 32 ∷ k.title.now)) = refl in
    let second : length (32 ∷ k.title.now) ≡ suc (length k.title.now) = refl in
    let letter : length satellite ≡ suc (length (digits 2 row.number)) = refl in
    let blank : length (satellite ++ 32 ∷ []) ≡ length satellite + 1 = length-append satellite (32 ∷ []) in
    let line : length (10 ∷ lines) ≡ suc (length lines) = refl in
    omega (
      arith,
      length-append title (10 ∷ lines),
      line,
      length-append (codes "> ") (codes "EPH" ++ behind),
      length-append (codes "EPH") behind,
      length-append satellite (32 ∷ k.title.now),
      class,
      begin,
      first,
      second,
      letter,
      blank,
      length-digits 2 row.number,
      is.title,
      length-rows rows start row.columns,
      length-append (satellite ++ 32 ∷ []) (date_text (civil_to row.moment)),
      length-date (civil_to row.moment),
      split_size k.layout.rows.now k.layout.columns.now is.layout.count,
      is.layout.room,
    )

pub too_long : (k : Kind) (row : RowValue) (old bytes : List ℕ) (before faults : ℕ) → IsKind k → old ≡ [] → before ≡ 0
    → AppendsPrefix (Some old) (Some bytes) (record_text k row) → Rose before faults → (0 < faults → 1024 ≤ length bytes) → ⊥
too_long k row old bytes before faults is = never_full old bytes (record_text k row) before faults (length-record k row is)
