-- Records after records: what was written, reported and counted of them.
use Rattle.std.proofs.Common.{◌≡◌, ℕ, ◌+◌, ◌≤◌, ◌*◌, ◌^◌, List, [], ◌∷◌, ◌++◌, map, sum, refl, sym, ap, subst, ◌∙◌, arith, length-append}
use Rattle.std.specs.Prelude.{Option, Some, None}
use Rattle.std.specs.List.{sum_by}
use Rattle.std.proofs.lemmas.List.Sums.{sum-map, sum_by-append}
use Rattle.rinex_read.specs.Files.{items_of}
use Rattle.rinex_read.specs.Forms.{Form}
use Rattle.rinex_read.specs.States.{EarlySteps, NearSteps, RecordsState, GivesRead, GivesRecord, GivesNone, held_count, lines_left}
use Rattle.rinex_read.specs.declared.judged.ItemRead.{ItemRead}
use Rattle.rinex_read.specs.declared.judged.ItemRead.TheVariants.{Item, Refused, PassedOver}
use Rattle.nav_files.specs.declared.counts.RinexCounts.{RinexCounts}
use Rattle.nav_files.specs.Files.{counts_of_reads, is_refused_read, is_passed, is_item}
use Rattle.nav_files.specs.Mirrors.{counted, read_times}
use Rattle.streams.specs.Times.{times_with, with_item}
use Rattle.streams.specs.declared.times.Times.{Times}

-- steps of a reader, one after another, and those in which all was given that has ended early
abbrev pub Follow : {R : Type 0} → Form R → Type 0
Follow f = (left middle left_new : Option (List ℕ)) (old now new : RecordsState) (some more : List _)
    → NearSteps f left middle old now some → NearSteps f middle left_new now new more → NearSteps f left left_new old new (some ++ more)

abbrev pub FollowEarly : {R : Type 0} → Form R → Type 0
FollowEarly f = (left middle left_new : Option (List ℕ)) (old now new : RecordsState) (some more : List _)
    → NearSteps f left middle old now some → EarlySteps f middle left_new now new more → EarlySteps f left left_new old new (some ++ more)

abbrev pub AreNear : {R : Type 0} → Form R → Type 0
AreNear f = (left left_new : Option (List ℕ)) (old new : RecordsState) (given : List _) → NearSteps f left left_new old new given → EarlySteps f left left_new old new given

-- ---- counts

count-append : (kind : ItemRead → ℕ) (xs ys : List ItemRead) → sum (map kind (xs ++ ys)) ≡ sum (map kind xs) + sum (map kind ys)
count-append kind xs ys =
    sum-map kind (xs ++ ys) ∙ sum_by-append kind xs ys ∙ sym (ap (λ m. m + sum (map kind ys)) (sum-map kind xs) ∙ ap (λ m. sum_by kind xs + m) (sum-map kind ys))

counts_are : (c : RinexCounts) (records refused passed items : ℕ) (times : Option Times) → c.records ≡ records → c.refused ≡ refused → c.passed ≡ passed
    → c.items ≡ items → c.times ≡ times → c ≡ record { records = records; refused = refused; passed = passed; items = items; times = times }
counts_are c records refused passed items times a b d e f = rw (sym a, sym b, sym d, sym e, sym f) refl

times_more : (times : Option Times) (given : List ItemRead) (read : ItemRead)
    → read_times (times_with times (items_of given)) read ≡ times_with times (items_of (given ++ read ∷ []))
times_more times [] (Item line item) = refl
times_more times [] (Refused line reason) = refl
times_more times [] (PassedOver line) = refl
times_more times (Item line item ∷ given) read = times_more (with_item times item) given read
times_more times (Refused line reason ∷ given) read = times_more times given read
times_more times (PassedOver line ∷ given) read = times_more times given read

-- the counts of records with one more
pub counts_more : (given : List ItemRead) (read : ItemRead) → counted (counts_of_reads given) read ≡ counts_of_reads (given ++ read ∷ [])
counts_more given read =
    counts_are (counted (counts_of_reads given) read) _ _ _ _ _
    (omega (arith, length-append given (read ∷ [])))
    (omega (arith, count-append is_refused_read given (read ∷ [])))
    (omega (arith, count-append is_passed given (read ∷ [])))
    (omega (arith, count-append is_item given (read ∷ [])))
    (times_more _ given read)

-- ---- steps

-- a record that was given
pub some_read : {R : Type 0} (f : Form R) (o : Option R) (read : R) (left left_new : Option (List ℕ)) (old new : RecordsState) → o ≡ Some read → GivesRead f o left left_new old new → GivesRecord f left left_new old new read
some_read f o read left left_new old new is gives = subst (λ (x : Option _). GivesRead f x left left_new old new) is gives

-- no record was left
pub none_read : {R : Type 0} (f : Form R) (o : Option R) (left left_new : Option (List ℕ)) (old new : RecordsState) → o ≡ None → GivesRead f o left left_new old new → GivesNone f left left_new old new
none_read f o left left_new old new is gives = subst (λ (x : Option _). GivesRead f x left left_new old new) is gives

pub held_few : (kept : List (List ℕ)) → held_count kept ≤ 1
held_few [] = omega arith
held_few (k ∷ ks) = omega arith

-- there are few records
pub left_few : (s : RecordsState) → lines_left s ≤ 2 * 2 ^ 32 + 1
left_few s = omega (arith, held_few s.kept)
