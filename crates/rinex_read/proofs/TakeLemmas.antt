-- A line of a file, and the records that it ends.
use Rattle.std.proofs.Common.{◌≡◌, ℕ, ◌+◌, ◌<◌, nat_lt, Bool, true, false, if◌then◌else◌, List, [], ◌∷◌, ◌++◌, length, refl, sym, ap, ◌∙◌, arith, append-nil}
use Rattle.rinex_read.specs.Forms.{Form, LooksAtKept, begins}
use Rattle.rinex_read.specs.Kept.{padded, kept_with}
use Rattle.rinex_read.specs.Files.{but_last, up_to_next, reads}
use Rattle.rinex_read.specs.States.{held_reads}
use Rattle.rinex_read.specs.Mirrors.{TakesLine}
use Rattle.rinex_read.proofs.FormLemmas.{form_kept}

held_some : {R : Type 0} (f : Form R) (ks : List (List ℕ)) (first n : ℕ) (more : List (List ℕ)) → 0 < length ks → held_reads f ks first n more ≡ f.judged first (ks ++ up_to_next f more) ∷ reads f n more
held_some f [] first n more h = absurd (omega arith)
held_some f (k ∷ ks) first n more h = refl

some_kept : (k : List ℕ) (ks : List (List ℕ)) (line : List ℕ) → 0 < length (kept_with (k ∷ ks) line)
some_kept k ks line = go (nat_lt (length (k ∷ ks)) 18)
  where
    go : (b : Bool) → 0 < length (if b then (k ∷ ks) ++ padded line ∷ [] else k ∷ ks)
    go true = omega arith
    go false = omega arith

-- a line before any record
pub line_passed : {R : Type 0} (f : Form R) (kept new : List (List ℕ)) (first number : ℕ) (line : List ℕ) → kept ≡ [] → new ≡ kept → begins f line ≡ false → TakesLine f kept first new first line number []
line_passed f [] [] first number line e same h = record {
  answers = λ n more is.
      ap (λ b. if b then f.judged (n + 1) (line ∷ up_to_next f more) ∷ reads f (n + 1) more else reads f (n + 1) more) h ∙ ap (λ m. reads f m more) (sym is);
  begun = λ none. refl;
}
line_passed f [] (x ∷ xs) first number line e same h = absurd (cc)
line_passed f (k ∷ ks) new first number line e same h = absurd (cc)

-- one more line of a record
pub line_more : {R : Type 0} (f : Form R) → LooksAtKept f → (kept new : List (List ℕ)) (first number : ℕ) (line : List ℕ) → (kept ≡ [] → ⊥) → new ≡ kept_with kept line → begins f line ≡ false → TakesLine f kept first new first line number []
line_more f law [] new first number line some e h = absurd (some refl)
line_more f law (k ∷ ks) new first number line some e h = record {
  answers = λ n more is.
      ap (λ b. f.judged first ((k ∷ ks) ++ (if b then [] else line ∷ up_to_next f more)) ∷ (if b then f.judged (n + 1) (line ∷ up_to_next f more) ∷ reads f (n + 1) more else reads f (n + 1) more)) h
      ∙ ap (λ m. f.judged first ((k ∷ ks) ++ line ∷ up_to_next f more) ∷ reads f m more) (sym is)
      ∙ ap (λ j. j ∷ reads f number more) (sym (form_kept f law first (k ∷ ks) line (up_to_next f more)))
      ∙ sym (held_some f (kept_with (k ∷ ks) line) first number more (some_kept k ks line))
      ∙ ap (λ xs. held_reads f xs first number more) (sym e);
  begun = λ none. refl;
}

begun : {R : Type 0} (f : Form R) → LooksAtKept f → (line : List ℕ) (n number : ℕ) (more new : List (List ℕ)) → new ≡ kept_with [] line → begins f line ≡ true → number ≡ n + 1 → reads f n (line ∷ more) ≡ held_reads f new number number more
begun f law line n number more new e h is =
    ap (λ b. if b then f.judged (n + 1) (line ∷ up_to_next f more) ∷ reads f (n + 1) more else reads f (n + 1) more) h
    ∙ ap (λ m. f.judged m (line ∷ up_to_next f more) ∷ reads f m more) (sym is)
    ∙ ap (λ j. j ∷ reads f number more) (sym (form_kept f law number [] line (up_to_next f more)))
    ∙ ap (λ xs. held_reads f xs number number more) (sym e)

-- the first line of the first record
pub line_begins : {R : Type 0} (f : Form R) → LooksAtKept f → (kept new : List (List ℕ)) (first number : ℕ) (line : List ℕ) → kept ≡ [] → new ≡ kept_with kept line → begins f line ≡ true → TakesLine f kept first new number line number []
line_begins f law [] new first number line e same h = record {
  answers = λ n more is. begun f law line n number more new same h is;
  begun = λ none. refl;
}
line_begins f law (k ∷ ks) new first number line e same h = absurd (cc)

-- the first line of another record
pub line_next : {R : Type 0} (f : Form R) → LooksAtKept f → (kept new : List (List ℕ)) (first number : ℕ) (line : List ℕ) (read : R) → (kept ≡ [] → ⊥) → new ≡ kept_with [] line → begins f line ≡ true → read ≡ f.judged first kept
    → TakesLine f kept first new number line number (read ∷ [])
line_next f law [] new first number line read some e h is_read = absurd (some refl)
line_next f law (k ∷ ks) new first number line read some e h is_read = record {
  answers = λ n more is.
      ap (λ b. f.judged first ((k ∷ ks) ++ (if b then [] else line ∷ up_to_next f more)) ∷ reads f n (line ∷ more)) h
      ∙ ap (λ t. f.judged first t ∷ reads f n (line ∷ more)) (append-nil (k ∷ ks))
      ∙ ap (λ r. r ∷ reads f n (line ∷ more)) (sym is_read)
      ∙ ap (λ rs. read ∷ rs) (begun f law line n number more new e h is);
  begun = λ none. absurd (let kept : padded line ∷ [] ≡ [] = sym e ∙ none in cc);
}

-- ---- the records that are whole

-- the lines in progress are a record
pub held_nil : {R : Type 0} (f : Form R) (ks : List (List ℕ)) (first n : ℕ) (more : List (List ℕ)) → held_reads f ks first n more ≡ [] → ks ≡ []
held_nil f [] first n more e = refl
held_nil f (k ∷ ks) first n more e = absurd (cc)

-- with no line after it, it is not known to be whole
pub none_whole : {R : Type 0} (f : Form R) (ks : List (List ℕ)) (first n : ℕ) → but_last (held_reads f ks first n []) ≡ []
none_whole f [] first n = refl
none_whole f (k ∷ ks) first n = refl

-- all but the last of two lists concatenated
last_behind : {R : Type 0} (xs ys : List R) → (ys ≡ [] → xs ≡ []) → but_last (xs ++ ys) ≡ xs ++ but_last ys
last_behind [] ys some = refl
last_behind (x ∷ xs) [] some = absurd (let none : x ∷ xs ≡ [] = some refl in cc)
last_behind (x ∷ []) (y ∷ ys) some = refl
last_behind (x ∷ z ∷ zs) (y ∷ ys) some = ap (λ (l : List _). x ∷ l) (last_behind (z ∷ zs) (y ∷ ys) (λ none. absurd cc))

-- with a line more
pub line_whole : {R : Type 0} (f : Form R) (kept : List (List ℕ)) (first : ℕ) (new : List (List ℕ)) (first_new : ℕ) (line : List ℕ) (number : ℕ) (given : List R) → TakesLine f kept first new first_new line number given
    → (n : ℕ) (more : List (List ℕ)) → number ≡ n + 1 → but_last (held_reads f kept first n (line ∷ more)) ≡ given ++ but_last (held_reads f new first_new number more)
line_whole f kept first new first_new line number given takes n more is =
    ap but_last (takes.answers n more is)
    ∙ last_behind given (held_reads f new first_new number more) (λ none. takes.begun (held_nil f new first_new number more none))
