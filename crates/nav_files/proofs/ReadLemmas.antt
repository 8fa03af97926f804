-- A file from its header to its end: what was taken of it is what was read, and its items and counts are those of its records.
use Rattle.std.proofs.Common.{◌≡◌, ◌⊎◌, inl, inr, ℕ, ◌+◌, ◌<◌, ◌≤◌, ◌*◌, ◌^◌, Bool, true, false, List, [], ◌∷◌, ◌++◌, length, map, sum, refl, sym, ap, subst, ◌∙◌, arith, append-nil, length-append}
use Rattle.std.specs.Prelude.{Option, None, Some, Result, Ok, Err, IfSome, IfNone, IsErr, cond}
use Rattle.std.specs.BTreeSet.{insert_key}
use Rattle.std.specs.Io.KnownBytes.{Consumes, IsAtEnd}
use Rattle.std.specs.List.{filter, fold, sum_by}
use Rattle.std.proofs.KnownBytes.{Consumes-trans}
use Rattle.std.proofs.lemmas.Grind.{fold-append}
use Rattle.std.proofs.lemmas.List.Elements.{filter-append}
use Rattle.std.proofs.lemmas.List.Sums.{sum-map, sum_by-append}
use Rattle.nav_eph.specs.declared.items.NavItem.{NavItem}
use Rattle.nav_eph.specs.declared.items.NavItem.TheVariants as kinds
use Rattle.rinex_read.specs.Forms.{Form}
use Rattle.rinex_read.specs.Files.{file_reads, items_of}
use Rattle.rinex_read.specs.Lines.{lines_stated}
use Rattle.rinex_read.specs.States.{BreaksRecord, GivesNone, GivesRead, GivesRecord, HeaderSteps, IsNew, MayCome, PassesHeader, RecordsState, Steps, file_by, file_to_come, held_count, lines_left, records_to_come}
use Rattle.rinex_read.specs.declared.judged.HeaderFault.{HeaderFault}
use Rattle.rinex_read.specs.declared.judged.HeaderState.{HeaderState}
use Rattle.rinex_read.specs.declared.judged.HeaderState.TheVariants.{NotRinexNav, OtherVersion, Passed}
use Rattle.rinex_read.specs.declared.judged.ItemRead.{ItemRead}
use Rattle.rinex_read.specs.declared.judged.ItemRead.TheVariants.{Item, Refused, PassedOver}
use Rattle.nav_io.specs.declared.lines.LineFault.{LineFault}
use Rattle.nav_io.specs.declared.lines.LineFault.TheVariants as lines
use Rattle.one_run.specs.Causes.{fault_by}
use Rattle.one_run.specs.declared.fault.BridgeFault.{BridgeFault}
use Rattle.one_run.specs.declared.fault.BridgeFault.TheVariants.{ReadFault, NotThisForm, TooLong, NoMemory}
use Rattle.nav_files.specs.DiffMirrors.{AtEnd, BreaksAfter, HeaderFaultOf, NoHeader, ReadsAll, ReadsSome, counted, item_in, sum_of, with_items}
use Rattle.nav_files.specs.Numbers.{by_numbers}
use Rattle.nav_files.specs.Reading.{IsFile, IsTooLong, compared, counts_of, has_ionosphere, is_ephemeris, is_passed, is_refused}
use Rattle.nav_files.specs.declared.diff_counts.ReadCounts.{ReadCounts}

-- before the header the file is still to come whole
abbrev pub Begins : Form ItemRead → Type 0
Begins f = (s : RecordsState) (bytes : List ℕ) → IsNew s → file_to_come f s bytes ≡ file_reads f bytes

-- steps of a reader, one after another
abbrev pub Follow : Form ItemRead → Type 0
Follow f = (left middle left_new : Option (List ℕ)) (old now new : RecordsState) (some more : List ItemRead)
    → Steps f left middle old now some → Steps f middle left_new now new more → Steps f left left_new old new (some ++ more)

-- ---- the file

no_end : (s : RecordsState) → s.lines.ended ≡ false → s.lines.ended ≡ true → ⊥
no_end s more ended = cc

-- after the header its records are to come
passed_file : (f : Form ItemRead) (s : RecordsState) (bytes : List ℕ) → s.header ≡ Passed → file_to_come f s bytes ≡ Ok (records_to_come f s bytes)
passed_file f s bytes passed = rw passed refl

-- the end of a file: nothing more is to come
none_left : (f : Form ItemRead) (s : RecordsState) → s.kept ≡ [] → s.lines.rest ≡ [] → records_to_come f s [] ≡ []
none_left f s kept rest = rw (kept, rest) refl

-- the bytes of a file that was read to its end
file_whole : (f : Form ItemRead) (left l1 l2 : Option (List ℕ)) (s0 s1 s2 : RecordsState) (given : List ItemRead)
    → Begins f → IsNew s0 → (header : PassesHeader f left l1 s0 s1) → (steps : Steps f l1 l2 s1 s2 given) → AtEnd s2
    → file_reads f (header.steps.reads.taken ++ steps.reads.taken) ≡ Ok given
file_whole f left l1 l2 s0 s1 s2 given begins new header steps end =
    let behind = steps.reads.taken ++ [] in
    let may : MayCome s1 behind = λ ended. ap (λ (l : List ℕ). l ++ []) (steps.reads.after_end ended).1 in
    ap (λ (l : List ℕ). file_reads f (header.steps.reads.taken ++ l)) (sym (append-nil steps.reads.taken))
    ∙ sym (begins s0 (header.steps.reads.taken ++ behind) new)
    ∙ header.steps.stream behind may
    ∙ passed_file f s1 behind header.header
    ∙ ap (λ (l : List ItemRead). Ok l) (steps.stream [] (λ ended. refl))
    ∙ ap (λ (l : List ItemRead). Ok (given ++ l)) (none_left f s2 end.kept end.rest)
    ∙ ap (λ (l : List ItemRead). Ok l) (append-nil given)

-- at the end of the lines the input is at its end
ends_there : (f : Form ItemRead) (left l1 l2 : Option (List ℕ)) (s0 s1 s2 : RecordsState) (given : List ItemRead)
    → IsNew s0 → (header : PassesHeader f left l1 s0 s1) → (steps : Steps f l1 l2 s1 s2 given) → s2.lines.ended ≡ true → IsAtEnd l2
ends_there f left l1 l2 s0 s1 s2 given new header steps ended = ends_from (steps.reads.at_end ended) where
  first : (s0.lines.ended ≡ true) ⊎ IsAtEnd l1 → IsAtEnd l1
  first (inl early) = absurd (no_end s0 new.ended early)
  first (inr end) = end

  ends_from : (s1.lines.ended ≡ true) ⊎ IsAtEnd l2 → IsAtEnd l2
  ends_from (inr end) = end
  ends_from (inl early) = subst IsAtEnd (sym (steps.reads.after_end early).2) (first (header.steps.reads.at_end early))

-- a file that was read
pub file_read : (f : Form ItemRead) (all : Bool) (left l1 l2 : Option (List ℕ)) (s0 s1 s2 : RecordsState) (items items_new : List NavItem) (counts : ReadCounts)
    → Begins f → IsNew s0 → PassesHeader f left l1 s0 s1 → ReadsAll f all l1 l2 s1 s2 items items_new counts → items ≡ []
    → IsFile f all left l2 items_new counts
file_read f all left l1 l2 s0 s1 s2 items items_new counts begins new header read empty =
    let steps = read.steps in
    record {
      taken = header.steps.reads.taken ++ steps.reads.taken;
      consumes = Consumes-trans left l1 l2 _ _ header.steps.reads.consumes steps.reads.consumes;
      end = ends_there f left l1 l2 s0 s1 s2 read.given new header steps read.end.ended;
      fits = omega (arith, length-append header.steps.reads.taken steps.reads.taken, new.taken, header.steps.reads.count, steps.reads.count, read.end.low);
      reads = read.given;
      are = file_whole f left l1 l2 s0 s1 s2 read.given begins new header steps read.end;
      set = read.added ∙ ap (λ l. with_items l (compared all (items_of read.given))) empty;
      counted = read.counted;
    }

-- ---- records after records

-- a record that was given
pub some_read : (f : Form ItemRead) (o : Option ItemRead) (read : ItemRead) (left left_new : Option (List ℕ)) (old new : RecordsState) → o ≡ Some read → GivesRead f o left left_new old new → GivesRecord f left left_new old new read
some_read f o read left left_new old new is gives = subst (λ (x : Option ItemRead). GivesRead f x left left_new old new) is gives

-- no record was left
pub none_read : (f : Form ItemRead) (o : Option ItemRead) (left left_new : Option (List ℕ)) (old new : RecordsState) → o ≡ None → GivesRead f o left left_new old new → GivesNone f left left_new old new
none_read f o left left_new old new is gives = subst (λ (x : Option ItemRead). GivesRead f x left left_new old new) is gives

held_few : (kept : List (List ℕ)) → held_count kept ≤ 1
held_few [] = omega arith
held_few (k ∷ ks) = omega arith

-- the items with a record more
items_more : (reads : List ItemRead) (read : ItemRead) → items_of (reads ++ read ∷ []) ≡ items_of reads ++ item_in read
items_more [] (Item line item) = refl
items_more [] (Refused line reason) = refl
items_more [] (PassedOver line) = refl
items_more (Item line item ∷ rs) read = ap (λ (l : List NavItem). item ∷ l) (items_more rs read)
items_more (Refused line reason ∷ rs) read = items_more rs read
items_more (PassedOver line ∷ rs) read = items_more rs read

-- the set with the item of a record more
set_more : (all : Bool) (items : List NavItem) (reads : List ItemRead) (read : ItemRead)
    → with_items (with_items items (compared all (items_of reads))) (compared all (item_in read)) ≡ with_items items (compared all (items_of (reads ++ read ∷ [])))
set_more all items reads read =
    sym (fold-append (insert_key by_numbers) items (compared all (items_of reads)) (compared all (item_in read)))
    ∙ ap (λ l. with_items items l) (sym (filter-append _ (items_of reads) (item_in read)))
    ∙ ap (λ l. with_items items (compared all l)) (sym (items_more reads read))

-- the counts with a record more
count_append : (kind : ItemRead → ℕ) (xs ys : List ItemRead) → sum (map kind (xs ++ ys)) ≡ sum (map kind xs) + sum (map kind ys)
count_append kind xs ys =
    sum-map kind (xs ++ ys) ∙ sum_by-append kind xs ys ∙ sym (ap (λ m. m + sum (map kind ys)) (sum-map kind xs) ∙ ap (λ m. sum_by kind xs + m) (sum-map kind ys))

counts_are : (c : ReadCounts) (refused passed ionospheres : ℕ) → c.refused ≡ refused → c.passed ≡ passed → c.ionospheres ≡ ionospheres
    → c ≡ record { refused = refused; passed = passed; ionospheres = ionospheres }
counts_are c refused passed ionospheres a b d = rw (sym a, sym b, sym d) refl

counts_more : (given : List ItemRead) (read : ItemRead) → counted (counts_of given) read ≡ counts_of (given ++ read ∷ [])
counts_more given read =
    counts_are (counted (counts_of given) read) _ _ _
    (omega (arith, count_append is_refused given (read ∷ [])))
    (omega (arith, count_append is_passed given (read ∷ [])))
    (omega (arith, count_append has_ionosphere given (read ∷ [])))

one_kind : (read : ItemRead) → is_refused read + is_passed read + has_ionosphere read ≤ 1
one_kind (Item line (kinds.Gps e)) = omega arith
one_kind (Item line (kinds.Gal e)) = omega arith
one_kind (Item line (kinds.Ion e)) = omega arith
one_kind (Refused line reason) = omega arith
one_kind (PassedOver line) = omega arith

by_first : (kind : ItemRead → ℕ) (r : ItemRead) (rs : List ItemRead) → sum_by kind (r ∷ rs) ≡ (0 + kind r) + sum_by kind rs
by_first kind r rs = sum_by-append kind (r ∷ []) rs

few_by : (given : List ItemRead) → sum_by is_refused given + sum_by is_passed given + sum_by has_ionosphere given ≤ length given
few_by [] = omega arith
few_by (r ∷ rs) = omega (arith, one_kind r, few_by rs, by_first is_refused r rs, by_first is_passed r rs, by_first has_ionosphere r rs)

few_counted : (given : List ItemRead) → sum_of (counts_of given) ≤ length given
few_counted given = omega (arith, few_by given, sum-map is_refused given, sum-map is_passed given, sum-map has_ionosphere given)

-- no record was read
pub some_start : (f : Form ItemRead) (all : Bool) (left : Option (List ℕ)) (s : RecordsState) (items : List NavItem) (counts : ReadCounts)
    → Steps f left left s s [] → counts ≡ counts_of [] → ReadsSome f all left left s s items items counts
some_start f all left s items counts none start = record {
  given = [];
  steps = none;
  added = refl;
  counted = start;
  few = omega arith;
}

-- a record more was read
pub some_more : (f : Form ItemRead) (all : Bool) (left l1 l2 : Option (List ℕ)) (s0 s1 s2 : RecordsState) (items items1 items2 : List NavItem) (counts counts1 : ReadCounts) (read : ItemRead)
    → Follow f → ReadsSome f all left l1 s0 s1 items items1 counts → GivesRecord f l1 l2 s1 s2 read
    → items2 ≡ with_items items1 (compared all (item_in read)) → counts1 ≡ counted counts read
    → ReadsSome f all left l2 s0 s2 items items2 counts1
some_more f all left l1 l2 s0 s1 s2 items items1 items2 counts counts1 read follow far gives added counted_is = record {
  given = far.given ++ read ∷ [];
  steps = follow left l1 l2 s0 s1 s2 far.given (read ∷ []) far.steps gives.steps;
  added = added ∙ ap (λ l. with_items l (compared all (item_in read))) far.added ∙ set_more all items far.given read;
  counted = counted_is ∙ ap (λ c. counted c read) far.counted ∙ counts_more far.given read;
  few = omega (arith, length-append far.given (read ∷ []), far.few, gives.nearer);
}

-- there is room for one
pub room_for : (f : Form ItemRead) (all : Bool) (left l1 : Option (List ℕ)) (s0 s1 : RecordsState) (items items1 : List NavItem) (counts : ReadCounts)
    → ReadsSome f all left l1 s0 s1 items items1 counts → sum_of counts + 1 < 2 ^ 64
room_for f all left l1 s0 s1 items items1 counts far = omega (arith, far.few, held_few s0.kept, few_counted far.given, ap sum_of far.counted)

-- all were read
pub all_read : (f : Form ItemRead) (all : Bool) (left l1 l2 : Option (List ℕ)) (s0 s1 s2 : RecordsState) (items items1 : List NavItem) (counts : ReadCounts)
    → Follow f → ReadsSome f all left l1 s0 s1 items items1 counts → GivesNone f l1 l2 s1 s2 → ReadsAll f all left l2 s0 s2 items items1 counts
all_read f all left l1 l2 s0 s1 s2 items items1 counts follow far none = record {
  given = far.given;
  steps = subst (λ (l : List ItemRead). Steps f left l2 s0 s2 l) (append-nil far.given) (follow left l1 l2 s0 s1 s2 far.given [] far.steps none.steps);
  added = far.added;
  counted = far.counted;
  end = record { kept = none.kept; rest = none.rest; ended = none.ended; low = none.low };
}

-- ---- the reader breaks off

-- after records that were read
pub breaks_later : (f : Form ItemRead) (all : Bool) (left l1 l2 : Option (List ℕ)) (s0 s1 s2 : RecordsState) (items items1 : List NavItem) (counts : ReadCounts) (fault : BridgeFault)
    → Follow f → ReadsSome f all left l1 s0 s1 items items1 counts → BreaksAfter f l1 l2 s1 s2 fault → BreaksAfter f left l2 s0 s2 fault
breaks_later f all left l1 l2 s0 s1 s2 items items1 counts fault follow far b = record {
  given = far.given ++ b.given;
  steps = follow left l1 l2 s0 s1 s2 far.given b.given far.steps b.steps;
  long = b.long;
  form = b.form;
}

-- where there was no memory for an item
pub breaks_taking : (f : Form ItemRead) (all : Bool) (left l1 l2 : Option (List ℕ)) (s0 s1 s2 : RecordsState) (items items1 : List NavItem) (counts : ReadCounts) (read : ItemRead) (fault : BridgeFault)
    → Follow f → ReadsSome f all left l1 s0 s1 items items1 counts → GivesRecord f l1 l2 s1 s2 read → fault ≡ NoMemory → BreaksAfter f left l2 s0 s2 fault
breaks_taking f all left l1 l2 s0 s1 s2 items items1 counts read fault follow far gives kind = record {
  given = far.given ++ read ∷ [];
  steps = follow left l1 l2 s0 s1 s2 far.given (read ∷ []) far.steps gives.steps;
  long = λ is. absurd (let none : NoMemory ≡ TooLong = sym kind ∙ is in cc);
  form = λ is. let none : NoMemory ≡ NotThisForm = sym kind ∙ is in cc;
}

pub long_records : (f : Form ItemRead) (left l1 l2 : Option (List ℕ)) (s0 s1 s2 : RecordsState) (fault : BridgeFault) → IsNew s0 → PassesHeader f left l1 s0 s1
    → BreaksAfter f l1 l2 s1 s2 fault → fault ≡ TooLong → IsTooLong left l2
long_records f left l1 l2 s0 s1 s2 fault new header b is = record {
  taken = header.steps.reads.taken ++ b.steps.reads.taken;
  consumes = Consumes-trans left l1 l2 _ _ header.steps.reads.consumes b.steps.reads.consumes;
  many = omega (arith, length-append header.steps.reads.taken b.steps.reads.taken, new.taken, header.steps.reads.count, b.steps.reads.count, b.long is);
}

-- faults are equal where the answers are
pub err_same : {T : Type 0} (a b : BridgeFault) (r : Result T BridgeFault) → r ≡ Err a → r ≡ Err b → a ≡ b
err_same a b r e f = cc
