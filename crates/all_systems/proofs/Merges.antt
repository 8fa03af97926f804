-- Merged items: which comes next, how many there are, and what an item more adds.
use Rattle.std.proofs.Common.{◌≡◌, ℕ, ◌+◌, ◌≤◌, Bool, true, false, cond, List, [], ◌∷◌, ◌++◌, length, map, refl, sym, ap, ◌∙◌, inl, inr, ◌⊎◌, arith, append_assoc, append-nil, length-append}
use Rattle.std.specs.Prelude.{OnOk, Option, None, Some, Result, Ok, Err}
use Rattle.std.specs.Borrow.{Bor}
use Rattle.std.specs.Iterator.{YieldsFirstRef}
use Rattle.std.specs.List.{fold}
use Rattle.std.specs.Ordering.{match_ordering}
use Rattle.std.specs.declared.cmp.Ordering.{Ordering}
use Rattle.std.specs.declared.cmp.Ordering.TheVariants.{Less, Equal, Greater}
use Rattle.nav_eph.specs.declared.items.NavItem.{NavItem}
use Rattle.nav_rows.specs.Order.{KindRow, by_place, by_rank}
use Rattle.streams.specs.declared.target.Target.{Target}
use Rattle.nav_lists.specs.Ranks.{first_of, ranked_of, with_value}
use Rattle.all_systems.specs.Readings.{Item}
use Rattle.all_systems.specs.MergeMirrors.{held}
use Rattle.all_systems.specs.Merging.{behind, interleaved, is_before, item_of, items_of, merge_counts, merged_items, navs_of, rows_of}
use Rattle.all_systems.specs.Files.{counts_of}
use Rattle.all_systems.specs.NavOrder.{by_numbers, by_sent}
use Rattle.all_systems.specs.FileReadings.{LineRead, Reading, readings}
use Rattle.all_systems.specs.declared.counts.SystemCounts.{SystemCounts}

-- ---- the next one

pub second_first : {A B : Type 0} (before : B → A → Bool) (a : A) (b : B) → before b a ≡ true → (xs : List A) (bs : List B)
    → interleaved before (a ∷ xs) (b ∷ bs) ≡ inr b ∷ interleaved before (a ∷ xs) bs
second_first before a b h xs bs = ap (λ t. cond t (inr b ∷ behind before a (interleaved before xs) bs) (inl a ∷ interleaved before xs (b ∷ bs))) h

pub first_first : {A B : Type 0} (before : B → A → Bool) (a : A) (b : B) → before b a ≡ false → (xs : List A) (bs : List B)
    → interleaved before (a ∷ xs) (b ∷ bs) ≡ inl a ∷ interleaved before xs (b ∷ bs)
first_first before a b h xs bs = ap (λ t. cond t (inr b ∷ behind before a (interleaved before xs) bs) (inl a ∷ interleaved before xs (b ∷ bs))) h

pub row_first : (item : NavItem) (x : KindRow) → is_before x item ≡ true → (is : List NavItem) (xs : List KindRow)
    → interleaved is_before (item ∷ is) (x ∷ xs) ≡ inr x ∷ interleaved is_before (item ∷ is) xs
row_first = second_first is_before

pub item_first : (item : NavItem) (x : KindRow) → is_before x item ≡ false → (is : List NavItem) (xs : List KindRow)
    → interleaved is_before (item ∷ is) (x ∷ xs) ≡ inl item ∷ interleaved is_before is (x ∷ xs)
item_first = first_first is_before

-- what an iterator gave, with what is left, is what was left before
pub held_is : {X : Type 0} (old new : List X) (r : Option (Bor X)) → YieldsFirstRef (λ s. s) old r new → held r new ≡ old
held_is old new None h = sym h.0
held_is old new (Some x) h = sym h

-- ---- how many

seconds_length : (A : Type 0) {B : Type 0} (bs : List B) → length {A = A ⊎ B} (map inr bs) ≡ length bs
seconds_length A [] = refl
seconds_length A (b ∷ bs) = omega (arith, seconds_length A bs)

behind_length : {A B : Type 0} (before : B → A → Bool) (a : A) (xs : List A) (bs : List B) → ((cs : List B) → length (interleaved before xs cs) ≡ length xs + length cs)
    → length (behind before a (interleaved before xs) bs) ≡ length xs + 1 + length bs
behind_length before a xs [] h = omega (arith, h [])
behind_length before a xs (b ∷ bs) h = at (before b a) (behind_length before a xs bs h)
  where
    at : (t : Bool) → length (behind before a (interleaved before xs) bs) ≡ length xs + 1 + length bs
        → length (cond t (inr b ∷ behind before a (interleaved before xs) bs) (inl a ∷ interleaved before xs (b ∷ bs))) ≡ length xs + 1 + length (b ∷ bs)
    at true k = omega (arith, k)
    at false k = omega (arith, h (b ∷ bs))

pub interleaved_length : {A B : Type 0} (before : B → A → Bool) (xs : List A) (bs : List B) → length (interleaved before xs bs) ≡ length xs + length bs
interleaved_length {A} before [] bs = let e : length bs ≡ 0 + length bs = omega arith in seconds_length A bs ∙ e
interleaved_length before (a ∷ xs) bs = omega (arith, behind_length before a xs bs (interleaved_length before xs))

with_length : {X : Type 0} (by choice : X → X → Ordering) (xs : List X) (x : X) → length (with_value by choice xs x) ≤ length xs + 1
with_length by choice [] x = omega arith
with_length {X} by choice (y ∷ ys) x = at (by x y) (with_length by choice ys x)
  where
    at : (o : Ordering) → length (with_value by choice ys x) ≤ length ys + 1
        → length (match_ordering o (x ∷ y ∷ ys) (first_of by choice x y ∷ ys) (y ∷ with_value by choice ys x)) ≤ length (y ∷ ys) + 1
    at Less h = omega arith
    at Equal h = omega arith
    at Greater h = omega (arith, h)

fold_length : {X : Type 0} (by choice : X → X → Ordering) (held xs : List X) → length (fold (with_value by choice) held xs) ≤ length held + length xs
fold_length by choice held [] = omega arith
fold_length by choice held (x ∷ xs) = omega (arith, fold_length by choice (with_value by choice held x) xs, with_length by choice held x)

ranked_length : {X : Type 0} (by choice : X → X → Ordering) (xs : List X) → length (ranked_of by choice xs) ≤ length xs
unfolding ranked_of
ranked_length by choice xs = let few : length (fold (with_value by choice) [] xs) ≤ length xs = omega (arith, fold_length by choice [] xs) in few

parts_length : (items : List Item) → length (navs_of items) + length (rows_of items) ≡ length items
parts_length [] = refl
parts_length (inl item ∷ is) = omega (arith, parts_length is)
parts_length (inr x ∷ is) = omega (arith, parts_length is)

one_length : (x : Reading) → length (item_of x) ≤ 1
one_length (Ok item) = omega arith
one_length (Err fault) = omega arith

items_length : (reads : List LineRead) → length (items_of reads) ≤ length reads
items_length [] = omega arith
items_length (r ∷ rs) = omega (arith, length-append (item_of r.reading) (items_of rs), one_length r.reading, items_length rs)

pub kept_length : (reads : List LineRead) → length (ranked_of by_numbers by_sent (navs_of (items_of reads))) + length (ranked_of by_rank by_place (rows_of (items_of reads))) ≤ length reads
kept_length reads =
    omega (arith, ranked_length by_numbers by_sent (navs_of (items_of reads)), ranked_length by_rank by_place (rows_of (items_of reads)), parts_length (items_of reads), items_length reads)

-- ---- an item more

pub items_more : (reads : List LineRead) (read : LineRead) → items_of (reads ++ read ∷ []) ≡ items_of reads ++ item_of read.reading
items_more [] read = append-nil (item_of read.reading)
items_more (r ∷ rs) read = ap (λ (l : List Item). item_of r.reading ++ l) (items_more rs read) ∙ sym (append_assoc (item_of r.reading) (items_of rs) (item_of read.reading))

pub navs_append : (some more : List Item) → navs_of (some ++ more) ≡ navs_of some ++ navs_of more
navs_append [] more = refl
navs_append (inl item ∷ is) more = ap (λ (l : List NavItem). item ∷ l) (navs_append is more)
navs_append (inr x ∷ is) more = navs_append is more

pub rows_append : (some more : List Item) → rows_of (some ++ more) ≡ rows_of some ++ rows_of more
rows_append [] more = refl
rows_append (inl item ∷ is) more = rows_append is more
rows_append (inr x ∷ is) more = ap (λ (l : List KindRow). x ∷ l) (rows_append is more)

-- those of a list without such items
pub same_navs : (items more : List Item) → navs_of more ≡ [] → navs_of (items ++ more) ≡ navs_of items
same_navs items more e = navs_append items more ∙ ap (λ (l : List NavItem). navs_of items ++ l) e ∙ append-nil (navs_of items)

pub same_rows : (items more : List Item) → rows_of more ≡ [] → rows_of (items ++ more) ≡ rows_of items
same_rows items more e = rows_append items more ∙ ap (λ (l : List KindRow). rows_of items ++ l) e ∙ append-nil (rows_of items)

-- ---- the merged lists with the item of a record more

pub on_ok : {T E P Q : Type 0} (r : Result T E) → (P → Q) → OnOk r P → OnOk r Q
on_ok (Ok x) f h = f h
on_ok (Err x) f h = tt

pub given_nav : {T E : Type 0} (r : Result T E) (item : NavItem) (x : Reading) (old new : List NavItem) → x ≡ Ok (inl item)
    → OnOk r ((is : List NavItem) → old ≡ ranked_of by_numbers by_sent is → new ≡ ranked_of by_numbers by_sent (is ++ item ∷ []))
    → OnOk r ((items : List Item) → old ≡ ranked_of by_numbers by_sent (navs_of items) → new ≡ ranked_of by_numbers by_sent (navs_of (items ++ item_of x)))
given_nav r item x old new e =
    on_ok r (λ h items k.
    h (navs_of items) k ∙ ap (ranked_of by_numbers by_sent) (sym (navs_append items (inl item ∷ []))) ∙ ap (λ y. ranked_of by_numbers by_sent (navs_of (items ++ item_of y))) (sym e))

pub given_row : {T E : Type 0} (r : Result T E) (row : KindRow) (x : Reading) (old new : List KindRow) → x ≡ Ok (inr row)
    → OnOk r ((xs : List KindRow) → old ≡ ranked_of by_rank by_place xs → new ≡ ranked_of by_rank by_place (xs ++ row ∷ []))
    → OnOk r ((items : List Item) → old ≡ ranked_of by_rank by_place (rows_of items) → new ≡ ranked_of by_rank by_place (rows_of (items ++ item_of x)))
given_row r row x old new e =
    on_ok r (λ h items k.
    h (rows_of items) k ∙ ap (ranked_of by_rank by_place) (sym (rows_append items (inr row ∷ []))) ∙ ap (λ y. ranked_of by_rank by_place (rows_of (items ++ item_of y))) (sym e))

pub all_ok : {T E P : Type 0} (r : Result T E) → P → OnOk r P
all_ok (Ok x) p = p
all_ok (Err x) p = tt

pub navs_stay : {T E : Type 0} (r : Result T E) (x : Reading) (old new : List NavItem) → new ≡ old → navs_of (item_of x) ≡ []
    → OnOk r ((items : List Item) → old ≡ ranked_of by_numbers by_sent (navs_of items) → new ≡ ranked_of by_numbers by_sent (navs_of (items ++ item_of x)))
navs_stay r x old new e none = all_ok r (λ items k. e ∙ k ∙ ap (ranked_of by_numbers by_sent) (sym (same_navs items (item_of x) none)))

pub rows_stay : {T E : Type 0} (r : Result T E) (x : Reading) (old new : List KindRow) → new ≡ old → rows_of (item_of x) ≡ []
    → OnOk r ((items : List Item) → old ≡ ranked_of by_rank by_place (rows_of items) → new ≡ ranked_of by_rank by_place (rows_of (items ++ item_of x)))
rows_stay r x old new e none = all_ok r (λ items k. e ∙ k ∙ ap (ranked_of by_rank by_place) (sym (same_rows items (item_of x) none)))

-- ---- the counts

readings_length : (reads : List LineRead) → length (readings reads) ≡ length reads
readings_length [] = refl
readings_length (r ∷ rs) = omega (arith, readings_length rs)

-- the number of the items of both lists
pub kept_is : (reads : List LineRead) (a b n k : ℕ) → a ≡ length (ranked_of by_numbers by_sent (navs_of (items_of reads))) → b ≡ length (ranked_of by_rank by_place (rows_of (items_of reads)))
    → n ≡ length (readings reads) → (a + b ≤ n → k ≡ a + b) → k ≡ length (merged_items (items_of reads))
kept_is reads a b n k e f g h =
    let few = kept_length reads in
    let all = readings_length reads in
    h (omega (arith, e, f, g, few, all)) ∙ (λ i. e i + f i)
    ∙ sym (interleaved_length is_before (ranked_of by_numbers by_sent (navs_of (items_of reads))) (ranked_of by_rank by_place (rows_of (items_of reads))))

pub counts_are : (to : Target) (reads : List LineRead) (c : SystemCounts) (kept : ℕ) → c ≡ counts_of to reads → kept ≡ length (merged_items (items_of reads))
    → record { records = c.records; refused = c.refused; passed = c.passed; carried = c.carried; items = c.items; kept = kept; unwritten = c.unwritten; times = c.times } ≡ merge_counts to reads
counts_are to reads c kept e f = λ i. record {
  records = (e i).records;
  refused = (e i).refused;
  passed = (e i).passed;
  carried = (e i).carried;
  items = (e i).items;
  kept = f i;
  unwritten = (e i).unwritten;
  times = (e i).times;
}
