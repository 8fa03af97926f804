-- Where a run over a file has stopped: in one record, at one place of output and report.
use Rattle.std.proofs.Common.{◌≡◌, ◌⊎◌, inl, inr, ℕ, List, [], ◌∷◌, ◌++◌, Ok, Err, refl, sym, ap, subst, ◌∙◌, append_assoc}
use Rattle.std.specs.Prelude.{Option, Result}
use Rattle.nav_io.specs.Prefix.{AppendsPrefix, IsPrefix}
use Rattle.rinex_read.specs.declared.judged.HeaderFault.{HeaderFault}
use Rattle.rinex_read.specs.Forms.{Form}
use Rattle.rinex_read.specs.Files.{BeginWith, but_last, file_reads, records_in, whole_reads}
use Rattle.one_run.specs.Runs.{AppendsAll, AppendsBetween}
use Rattle.one_run.proofs.Surface.{BeginsWith, all_of, all_within, no_more_or_beyond, prefix_nil, prefix_of, prefix_within}
use Rattle.nav_files.specs.Files.{text_in}

-- the records that are whole in the first bytes of a file are its first
abbrev pub Firsts : {R : Type 0} → Form R → Type 0
Firsts f = (front rest : List ℕ) → BeginWith (records_in (file_reads f (front ++ rest))) (records_in (whole_reads f front))

-- what is written grows with the records
abbrev pub Grows : {R : Type 0} → (List R → List ℕ) → Type 0
Grows text = (some more : List _) → IsPrefix (text some) (text (some ++ more))

-- what the first of some records give is a prefix of what all give
begins_text : {R : Type 0} (text : List R → List ℕ) → Grows text → (all some : List R) → BeginsWith all some → IsPrefix (text some) (text all)
begins_text text grows all some (rest, is) = subst (λ (l : List _). IsPrefix (text some) (text l)) (sym is) (grows some rest)

-- the last of some records
last_of : {R : Type 0} → List R → List R
last_of [] = []
last_of (x ∷ []) = x ∷ []
last_of (x ∷ y ∷ ys) = last_of (y ∷ ys)

with_last : {R : Type 0} (xs : List R) → xs ≡ but_last xs ++ last_of xs
unfolding last_of
with_last [] = refl
with_last (x ∷ []) = refl
with_last (x ∷ y ∷ ys) = ap (λ (l : List _). x ∷ l) (with_last (y ∷ ys))

-- the records of a beginning are among those before the last one, or go on behind it
no_more_or_past : {R : Type 0} (xs more front rest : List R) → xs ++ more ≡ front ++ rest → BeginsWith (but_last xs) front ⊎ BeginsWith front xs
unfolding last_of
no_more_or_past {R} xs more front rest e = by xs e
  where
    by : (xs : List R) → xs ++ more ≡ front ++ rest → BeginsWith (but_last xs) front ⊎ BeginsWith front xs
    by [] e = inr (front, refl)
    by (x ∷ xs) e = step (but_last (x ∷ xs)) (last_of (x ∷ xs)) (some x xs) (with_last (x ∷ xs)) e
      where
        some : (x : R) (xs : List R) → (y : R) × (last_of (x ∷ xs) ≡ y ∷ [])
        some x [] = (x, refl)
        some x (y ∷ ys) = some y ys

        step : (done last : List R) → (y : R) × (last ≡ y ∷ []) → x ∷ xs ≡ done ++ last → (x ∷ xs) ++ more ≡ front ++ rest → BeginsWith done front ⊎ BeginsWith front (x ∷ xs)
        step done last (y, one) is e =
            let all : x ∷ xs ≡ done ++ y ∷ [] = is ∙ ap (λ (l : List _). done ++ l) one in
            let equal : done ++ y ∷ more ≡ front ++ rest = sym (append_assoc done (y ∷ []) more) ∙ ap (λ (l : List _). l ++ more) (sym all) ∙ e in
            subst (λ (l : List _). BeginsWith done front ⊎ BeginsWith front l) (sym all) (no_more_or_beyond done front rest more y equal)

-- what a beginning of the file gives, written in full or no more than it
abbrev pub OnePlace : {R : Type 0} → Form R → (List R → List ℕ) → (List R → List ℕ) → List ℕ → Option (List ℕ) → Option (List ℕ) → Option (List ℕ) → Option (List ℕ) → Type 0
OnePlace f wrote tells front w w1 u u1 =
    (AppendsAll w w1 (text_in wrote (whole_reads f front)) × AppendsAll u u1 (text_in tells (whole_reads f front)))
    ⊎ (AppendsPrefix w w1 (text_in wrote (whole_reads f front)) × AppendsPrefix u u1 (text_in tells (whole_reads f front)))

-- the first records of a beginning, where the header was passed
first_is : {R : Type 0} (f : Form R) → Firsts f → (bytes : List ℕ) (all : List R) → file_reads f bytes ≡ Ok all → (front : List ℕ) → IsPrefix front bytes → BeginWith all (records_in (whole_reads f front))
first_is f firsts bytes all is front (rest, e) =
    subst (λ r. BeginWith (records_in r) (records_in (whole_reads f front))) is
    (subst (λ (b : List ℕ). BeginWith (records_in (file_reads f b)) (records_in (whole_reads f front))) (sym e) (firsts front rest))

-- a text of records, where the header was not passed or was
all_text : {R : Type 0} (text : List R → List ℕ) (r : Result (List R) HeaderFault) (w w1 : Option (List ℕ)) → Grows text → (some : List R) → BeginsWith some (records_in r) → AppendsAll w w1 (text some) → AppendsAll w w1 (text_in text r)
all_text text (Ok rs) w w1 grows some begins all = all_within w w1 (text rs) (text some) (begins_text text grows some rs begins) all
all_text text (Err fault) w w1 grows some begins all = all_within w w1 [] (text some) (prefix_nil (text some)) all

-- the run stopped in the last of the records that were given
pub stopped_in : {R : Type 0} (f : Form R) (wrote tells : List R → List ℕ) → Firsts f → Grows wrote → Grows tells → (bytes : List ℕ) (given more : List R) → file_reads f bytes ≡ Ok (given ++ more)
    → (w w1 u u1 : Option (List ℕ)) → AppendsBetween w w1 (wrote (but_last given)) (wrote given) → AppendsBetween u u1 (tells (but_last given)) (tells given)
    → (front : List ℕ) → IsPrefix front bytes → OnePlace f wrote tells front w w1 u u1
stopped_in {R} f wrote tells firsts grows more_told bytes given more is w w1 u u1 written reported front begins = by (whole_reads f front) refl
  where
    first : BeginWith (given ++ more) (records_in (whole_reads f front))
    first = first_is f firsts bytes (given ++ more) is front begins

    all : (r : Result (List R) HeaderFault) → whole_reads f front ≡ r → BeginsWith (but_last given) (records_in r) → OnePlace f wrote tells front w w1 u u1
    all r e no_more = inl (
      subst (λ x. AppendsAll w w1 (text_in wrote x)) (sym e) (all_text wrote r w w1 grows (but_last given) no_more (all_of w w1 _ _ written)),
      subst (λ x. AppendsAll u u1 (text_in tells x)) (sym e) (all_text tells r u u1 more_told (but_last given) no_more (all_of u u1 _ _ reported)),
    )

    past : (rs : List R) → whole_reads f front ≡ Ok rs → BeginsWith rs given → OnePlace f wrote tells front w w1 u u1
    past rs e beyond = inr (
      subst (λ x. AppendsPrefix w w1 (text_in wrote x)) (sym e) (prefix_within w w1 (wrote given) (wrote rs) (begins_text wrote grows rs given beyond) (prefix_of w w1 _ _ written)),
      subst (λ x. AppendsPrefix u u1 (text_in tells x)) (sym e) (prefix_within u u1 (tells given) (tells rs) (begins_text tells more_told rs given beyond) (prefix_of u u1 _ _ reported)),
    )

    by : (r : Result (List R) HeaderFault) → whole_reads f front ≡ r → OnePlace f wrote tells front w w1 u u1
    by (Err fault) e = all (Err fault) e (but_last given, refl)
    by (Ok rs) e = side (no_more_or_past given more rs (first_of).0 (first_of).1)
      where
        first_of : BeginWith (given ++ more) rs
        first_of = subst (λ x. BeginWith (given ++ more) (records_in x)) e first

        side : BeginsWith (but_last given) rs ⊎ BeginsWith rs given → OnePlace f wrote tells front w w1 u u1
        side (inl no_more) = all (Ok rs) e no_more
        side (inr beyond) = past rs e beyond

-- it stopped in the leading text
pub stopped_before : {R : Type 0} (f : Form R) (wrote tells : List R → List ℕ) → Firsts f → Grows wrote → Grows tells → (bytes : List ℕ)
    → (w w1 u u1 : Option (List ℕ)) → AppendsPrefix w w1 (wrote []) → AppendsPrefix u u1 (tells [])
    → (front : List ℕ) → IsPrefix front bytes → OnePlace f wrote tells front w w1 u u1
stopped_before {R} f wrote tells firsts grows more_told bytes w w1 u u1 written reported front begins = by (whole_reads f front) refl
  where
    by : (r : Result (List R) HeaderFault) → whole_reads f front ≡ r → OnePlace f wrote tells front w w1 u u1
    by (Err fault) e = inl (
      subst (λ x. AppendsAll w w1 (text_in wrote x)) (sym e) (written.0, prefix_nil written.0, written.2),
      subst (λ x. AppendsAll u u1 (text_in tells x)) (sym e) (reported.0, prefix_nil reported.0, reported.2),
    )
    by (Ok rs) e = inr (
      subst (λ x. AppendsPrefix w w1 (text_in wrote x)) (sym e) (prefix_within w w1 (wrote []) (wrote rs) (grows [] rs) written),
      subst (λ x. AppendsPrefix u u1 (text_in tells x)) (sym e) (prefix_within u u1 (tells []) (tells rs) (more_told [] rs) reported),
    )

-- all records were written and reported
pub stopped_after : {R : Type 0} (f : Form R) (wrote tells : List R → List ℕ) → Firsts f → Grows wrote → Grows tells → (bytes : List ℕ) (given : List R) → file_reads f bytes ≡ Ok given
    → (w w1 u u1 : Option (List ℕ)) → AppendsAll w w1 (wrote given) → AppendsAll u u1 (tells given)
    → (front : List ℕ) → IsPrefix front bytes → OnePlace f wrote tells front w w1 u u1
stopped_after f wrote tells firsts grows more_told bytes given is w w1 u u1 written reported front begins =
    let first = first_is f firsts bytes given is front begins in inl (
      all_text wrote (whole_reads f front) w w1 grows given first written,
      all_text tells (whole_reads f front) u u1 more_told given first reported,
    )
