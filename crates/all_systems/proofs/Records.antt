-- What a record more adds to what is written, reported and counted.
use Rattle.std.proofs.Common.{◌≡◌, ℕ, ◌+◌, Bool, if◌then◌else◌, List, [], ◌∷◌, ◌++◌, map, sum, refl, sym, ap, ◌∙◌, arith, length-append}
use Rattle.std.specs.Prelude.{Option, None}
use Rattle.std.specs.List.{sum_by}
use Rattle.std.proofs.lemmas.List.{map-append}
use Rattle.std.proofs.lemmas.List.Sums.{sum-map, sum_by-append}
use Rattle.streams.specs.declared.target.Target.{Target}
use Rattle.streams.specs.declared.times.Times.{Times}
use Rattle.all_systems.specs.Files.{counts_by, counts_of, is_unwritten, first_text, times_after, times_over}
use Rattle.all_systems.specs.FileMirrors.{counted}
use Rattle.all_systems.specs.FileReadings.{LineRead, Reading, is_carried, is_item, is_passed, is_refused, reading_report, readings}
use Rattle.all_systems.specs.declared.counts.SystemCounts.{SystemCounts}

-- ---- of equal lines and readings

pub same_text : (to : Target) (l m : ℕ) (x y : Reading) → l ≡ m → x ≡ y → first_text to l x ≡ first_text to m y
same_text to l m x y e f = ap (λ n. first_text to n x) e ∙ ap (first_text to m) f

pub same_report : (l m : ℕ) (x y : Reading) → l ≡ m → x ≡ y → reading_report l x ≡ reading_report m y
same_report l m x y e f = ap (λ n. reading_report n x) e ∙ ap (reading_report m) f

-- ---- counts

count-append : (kind : Reading → ℕ) (xs ys : List Reading) → sum (map kind (xs ++ ys)) ≡ sum (map kind xs) + sum (map kind ys)
count-append kind xs ys =
    sum-map kind (xs ++ ys) ∙ sum_by-append kind xs ys ∙ sym (ap (λ m. m + sum (map kind ys)) (sum-map kind xs) ∙ ap (λ m. sum_by kind xs + m) (sum-map kind ys))

counts_are : (c : SystemCounts) (records refused passed carried items unwritten : ℕ) (times : Option Times) → c.records ≡ records → c.refused ≡ refused → c.passed ≡ passed → c.carried ≡ carried
    → c.items ≡ items → c.unwritten ≡ unwritten → c.times ≡ times
    → c ≡ record { records = records; refused = refused; passed = passed; carried = carried; items = items; unwritten = unwritten; times = times }
counts_are c records refused passed carried items unwritten times a b d h e f g = rw (sym a, sym b, sym d, sym h, sym e, sym f, sym g) refl

times_more : (times : Option Times) (xs : List Reading) (x : Reading) → times_after (times_over times xs) x ≡ times_over times (xs ++ x ∷ [])
times_more times [] x = refl
times_more times (y ∷ xs) x = times_more (times_after times y) xs x

with_more : (to : Target) (xs : List Reading) (x : Reading) (written : Bool) → (if written then 0 else 1) ≡ is_unwritten to x
    → counted (counts_by to xs) written x ≡ counts_by to (xs ++ x ∷ [])
with_more to xs x written is =
    counts_are (counted (counts_by to xs) written x) _ _ _ _ _ _ _
    (omega (arith, length-append xs (x ∷ [])))
    (omega (arith, count-append is_refused xs (x ∷ [])))
    (omega (arith, count-append is_passed xs (x ∷ [])))
    (omega (arith, count-append is_carried xs (x ∷ [])))
    (omega (arith, count-append is_item xs (x ∷ [])))
    (omega (arith, is, count-append (is_unwritten to) xs (x ∷ [])))
    (times_more None xs x)

-- the counts of records with one more
pub counts_more : (to : Target) (given : List LineRead) (read : LineRead) (written : Bool) → (if written then 0 else 1) ≡ is_unwritten to read.reading
    → counted (counts_of to given) written read.reading ≡ counts_of to (given ++ read ∷ [])
counts_more to given read written is =
    with_more to (readings given) read.reading written is
    ∙ ap (counts_by to) (sym (map-append (λ (r : LineRead). r.reading) given (read ∷ [])))
