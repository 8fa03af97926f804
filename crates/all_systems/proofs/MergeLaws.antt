-- The merged list of all systems: its parts, and that it depends on the set of the items alone.
use Rattle.std.proofs.Common.{◌≡◌, ℕ, Bool, true, false, cond, List, [], ◌∷◌, ◌++◌, ◌↔◌, Contains, map, suc, zero, refl, sym, ap, subst, ◌∙◌, inl, inr, ◌⊎◌, Ok, Err, arith}
use Rattle.std.specs.List.Sorted.{IsStrictlySortedBy}
use Rattle.std.specs.Ordering.{ordering_then}
use Rattle.std.specs.declared.cmp.Ordering.{Ordering}
use Rattle.std.specs.declared.cmp.Ordering.TheVariants.{Less, Equal, Greater}
use Rattle.nav_eph.specs.declared.items.NavItem.{NavItem}
use Rattle.nav_lists.specs.Merging.{IsMerged, merged_of}
use Rattle.nav_rows.specs.Order.{KindRow, by_place, by_rank, rank, rank_of}
use Rattle.nav_lists.specs.Ranks.{AreTold, IsRankedList, ranked_of}
use Rattle.rinex_read.specs.Files.{file_reads, items_read, records_in}
use Rattle.all_systems.specs.Readings.{Item}
use Rattle.all_systems.specs.Streams.{navs}
use Rattle.all_systems.specs.declared.kinds.Kinds.{Kinds}
use Rattle.all_systems.specs.Files.{form_of, items_in, nav_form, numbered}
use Rattle.all_systems.specs.Merging.{AreNamed, behind, file_merged, firsts, interleaved, is_before, item_of, items_of, merged_items, navs_of, rows_of, seconds}
use Rattle.all_systems.specs.NavOrder.{by_numbers, by_sent}
use Rattle.all_systems.specs.FileReadings.{LineRead, Reading}
use Rattle.all_systems.specs.declared.version.Version.{Version}
use Rattle.all_systems.proofs.Items.{file_navs}
use Rattle.all_systems.proofs.Merges.{navs_append, rows_append}
use Rattle.all_systems.proofs.NavLaws.{number_at, one_list, same_items, told_items}

-- ---- the parts

no_firsts : (A : Type 0) {B : Type 0} (bs : List B) → firsts {A = A} (map inr bs) ≡ []
no_firsts A [] = refl
no_firsts A (b ∷ bs) = no_firsts A bs

all_seconds : (A : Type 0) {B : Type 0} (bs : List B) → seconds {A = A} (map inr bs) ≡ bs
all_seconds A [] = refl
all_seconds A {B} (b ∷ bs) = ap (λ (l : List B). b ∷ l) (all_seconds A bs)

behind_firsts : {A B : Type 0} (before : B → A → Bool) (a : A) (xs : List A) (bs : List B) → ((cs : List B) → firsts (interleaved before xs cs) ≡ xs) → firsts (behind before a (interleaved before xs) bs) ≡ a ∷ xs
behind_firsts {A} before a xs [] h = ap (λ (l : List A). a ∷ l) (h [])
behind_firsts {A} before a xs (b ∷ bs) h = at (before b a) (behind_firsts before a xs bs h)
  where
    at : (t : Bool) → firsts (behind before a (interleaved before xs) bs) ≡ a ∷ xs
        → firsts (cond t (inr b ∷ behind before a (interleaved before xs) bs) (inl a ∷ interleaved before xs (b ∷ bs))) ≡ a ∷ xs
    at true k = k
    at false k = ap (λ (l : List A). a ∷ l) (h (b ∷ bs))

pub first_part : {A B : Type 0} (before : B → A → Bool) (xs : List A) (bs : List B) → firsts (interleaved before xs bs) ≡ xs
first_part {A} before [] bs = no_firsts A bs
first_part before (a ∷ xs) bs = behind_firsts before a xs bs (first_part before xs)

behind_seconds : {A B : Type 0} (before : B → A → Bool) (a : A) (xs : List A) (bs : List B) → ((cs : List B) → seconds (interleaved before xs cs) ≡ cs) → seconds (behind before a (interleaved before xs) bs) ≡ bs
behind_seconds before a xs [] h = h []
behind_seconds {A} {B} before a xs (b ∷ bs) h = at (before b a) (behind_seconds before a xs bs h)
  where
    at : (t : Bool) → seconds (behind before a (interleaved before xs) bs) ≡ bs
        → seconds (cond t (inr b ∷ behind before a (interleaved before xs) bs) (inl a ∷ interleaved before xs (b ∷ bs))) ≡ b ∷ bs
    at true k = ap (λ (l : List B). b ∷ l) k
    at false k = h (b ∷ bs)

pub second_part : {A B : Type 0} (before : B → A → Bool) (xs : List A) (bs : List B) → seconds (interleaved before xs bs) ≡ bs
second_part {A} before [] bs = all_seconds A bs
second_part before (a ∷ xs) bs = behind_seconds before a xs bs (second_part before xs)

pub merged_navs : (items : List Item) → navs_of (merged_items items) ≡ ranked_of by_numbers by_sent (navs_of items)
merged_navs items = first_part is_before (ranked_of by_numbers by_sent (navs_of items)) (ranked_of by_rank by_place (rows_of items))

pub merged_rows : (items : List Item) → rows_of (merged_items items) ≡ ranked_of by_rank by_place (rows_of items)
merged_rows items = second_part is_before (ranked_of by_numbers by_sent (navs_of items)) (ranked_of by_rank by_place (rows_of items))

-- each part is in the order of rank
pub merged_order : ((xs : List NavItem) → IsRankedList by_numbers by_sent (Contains xs) (ranked_of by_numbers by_sent xs))
    → ((xs : List KindRow) → IsRankedList by_rank by_place (Contains xs) (ranked_of by_rank by_place xs))
    → (items : List Item) → IsStrictlySortedBy by_numbers (navs_of (merged_items items)) × IsStrictlySortedBy by_rank (rows_of (merged_items items))
merged_order navs_are rows_are items = (
  subst (IsStrictlySortedBy by_numbers) (sym (merged_navs items)) (navs_are (navs_of items)).ascending,
  subst (IsStrictlySortedBy by_rank) (sym (merged_rows items)) (rows_are (rows_of items)).ascending,
)

-- ---- in several steps

pub merged_again : ((some more : List NavItem) → ranked_of by_numbers by_sent (ranked_of by_numbers by_sent some ++ more) ≡ ranked_of by_numbers by_sent (some ++ more))
    → ((some more : List KindRow) → ranked_of by_rank by_place (ranked_of by_rank by_place some ++ more) ≡ ranked_of by_rank by_place (some ++ more))
    → (some more : List Item) → merged_items (merged_items some ++ more) ≡ merged_items (some ++ more)
merged_again of_navs of_rows some more = λ i. interleaved is_before (nav_side i) (row_side i)
  where
    nav_side : ranked_of by_numbers by_sent (navs_of (merged_items some ++ more)) ≡ ranked_of by_numbers by_sent (navs_of (some ++ more))
    nav_side =
        ap (ranked_of by_numbers by_sent) (navs_append (merged_items some) more ∙ ap (λ (l : List NavItem). l ++ navs_of more) (merged_navs some))
        ∙ of_navs (navs_of some) (navs_of more) ∙ ap (ranked_of by_numbers by_sent) (sym (navs_append some more))

    row_side : ranked_of by_rank by_place (rows_of (merged_items some ++ more)) ≡ ranked_of by_rank by_place (rows_of (some ++ more))
    row_side =
        ap (ranked_of by_rank by_place) (rows_append (merged_items some) more ∙ ap (λ (l : List KindRow). l ++ rows_of more) (merged_rows some))
        ∙ of_rows (rows_of some) (rows_of more) ∙ ap (ranked_of by_rank by_place) (sym (rows_append some more))

-- ---- the set of the items

In : {X : Type 0} → X → List X → Type 0
In m [] = ⊥
In m (x ∷ xs) = (m ≡ x) ⊎ In m xs

in_list : {X : Type 0} (xs : List X) (m : X) → Contains xs m → In m xs
unfolding In
in_list [] m h = absurd (omega (arith, h.1))
in_list (x ∷ xs) m (zero, l, e) = inl (sym e)
in_list (x ∷ xs) m (suc k, l, e) = inr (in_list xs m (k, omega arith, e))

at_place : {X : Type 0} (xs : List X) (m : X) → In m xs → Contains xs m
unfolding In
at_place [] m h = absurd h
at_place (x ∷ xs) m (inl e) = (0, omega arith, sym e)
at_place (x ∷ xs) m (inr h) = let k = at_place xs m h in (suc k.0, omega (arith, k.1), k.2)

one_nav : (a b : NavItem) → ◌≡◌ {A = Item} (inl a) (inl b) → a ≡ b
one_nav a b h = cc

one_row : (a b : KindRow) → ◌≡◌ {A = Item} (inr a) (inr b) → a ≡ b
one_row a b h = cc

nav_in : (items : List Item) (n : NavItem) → In n (navs_of items) → In (inl n) items
unfolding In
nav_in [] n h = absurd h
nav_in (inl item ∷ is) n (inl e) = inl (ap inl e)
nav_in (inl item ∷ is) n (inr h) = inr (nav_in is n h)
nav_in (inr x ∷ is) n h = inr (nav_in is n h)

nav_out : (items : List Item) (n : NavItem) → In (inl n) items → In n (navs_of items)
unfolding In
nav_out [] n h = absurd h
nav_out (inl item ∷ is) n (inl e) = inl (one_nav n item e)
nav_out (inl item ∷ is) n (inr h) = inr (nav_out is n h)
nav_out (inr x ∷ is) n (inl e) = absurd (cc)
nav_out (inr x ∷ is) n (inr h) = nav_out is n h

row_in : (items : List Item) (n : KindRow) → In n (rows_of items) → In (inr n) items
unfolding In
row_in [] n h = absurd h
row_in (inl item ∷ is) n h = inr (row_in is n h)
row_in (inr x ∷ is) n (inl e) = inl (ap inr e)
row_in (inr x ∷ is) n (inr h) = inr (row_in is n h)

row_out : (items : List Item) (n : KindRow) → In (inr n) items → In n (rows_of items)
unfolding In
row_out [] n h = absurd h
row_out (inl item ∷ is) n (inl e) = absurd (cc)
row_out (inl item ∷ is) n (inr h) = row_out is n h
row_out (inr x ∷ is) n (inl e) = inl (one_row n x e)
row_out (inr x ∷ is) n (inr h) = inr (row_out is n h)

same_navs : (some other : List Item) → ((i : Item) → Contains some i ↔ Contains other i) → (n : NavItem) → Contains (navs_of some) n ↔ Contains (navs_of other) n
same_navs some other s n = (
  λ h. at_place (navs_of other) n (nav_out other n (in_list other (inl n) ((s (inl n)).0 (at_place some (inl n) (nav_in some n (in_list (navs_of some) n h)))))),
  λ h. at_place (navs_of some) n (nav_out some n (in_list some (inl n) ((s (inl n)).1 (at_place other (inl n) (nav_in other n (in_list (navs_of other) n h)))))),
)

same_rows : (some other : List Item) → ((i : Item) → Contains some i ↔ Contains other i) → (n : KindRow) → Contains (rows_of some) n ↔ Contains (rows_of other) n
same_rows some other s n = (
  λ h. at_place (rows_of other) n (row_out other n (in_list other (inr n) ((s (inr n)).0 (at_place some (inr n) (row_in some n (in_list (rows_of some) n h)))))),
  λ h. at_place (rows_of some) n (row_out some n (in_list some (inr n) ((s (inr n)).1 (at_place other (inr n) (row_in other n (in_list (rows_of other) n h)))))),
)

-- rows that are equal in rank and choice are equal, if the names of kinds tell them apart
pub both_equal : (a b : Ordering) → ordering_then a b ≡ Equal → (a ≡ Equal) × (b ≡ Equal)
both_equal Less b e = absurd (cc)
both_equal Equal b e = (refl, e)
both_equal Greater b e = absurd (cc)

same_number : (k : ℕ) (x y : KindRow) → rank x ≡ rank y → number_at k (rank x) ≡ number_at k (rank y)
same_number k x y e = ap (number_at k) e

pub told_rows : (xs : List KindRow) → AreNamed xs → AreTold by_rank by_place (Contains xs)
unfolding rank_of
told_rows xs named x y h k e f =
    let same : rank x ≡ rank y = one_list (rank x) (rank y) e in
    let system : x.kind.system ≡ y.kind.system = ap (number_at 1) same in
    let satellite : x.row.number ≡ y.row.number = ap (number_at 2) same in
    let message : x.kind.message ≡ y.kind.message = ap (number_at 3) same in
    let epoch : x.row.moment ≡ y.row.moment = ap (number_at 4) same in
    let kind : x.kind ≡ y.kind = named x y h k system message in
    let columns : x.row.columns ≡ y.row.columns = one_list x.row.columns y.row.columns (both_equal _ _ (both_equal _ _ f).1).1 in
    λ i. record { kind = kind i; row = record { number = satellite i; moment = epoch i; columns = columns i } }

pub merged_set : ((some other : List NavItem) → AreTold by_numbers by_sent (Contains some) → ((i : NavItem) → Contains some i ↔ Contains other i) → ranked_of by_numbers by_sent some ≡ ranked_of by_numbers by_sent other)
    → ((some other : List KindRow) → AreTold by_rank by_place (Contains some) → ((i : KindRow) → Contains some i ↔ Contains other i) → ranked_of by_rank by_place some ≡ ranked_of by_rank by_place other)
    → (some other : List Item) → AreNamed (rows_of some) → ((i : Item) → Contains some i ↔ Contains other i) → merged_items some ≡ merged_items other
merged_set of_navs of_rows some other named s =
    λ i. interleaved is_before (of_navs (navs_of some) (navs_of other) (told_items (Contains (navs_of some))) (same_navs some other s) i) (of_rows (rows_of some) (rows_of other) (told_rows (rows_of some) named) (same_rows some other s) i)

-- ---- of a file

navs_same : (reads : List LineRead) → navs_of (items_of reads) ≡ navs (items_in reads)
navs_same [] = refl
navs_same (r ∷ rs) = at (navs_same rs) r.reading
  where
    at : navs_of (items_of rs) ≡ navs (items_in rs) → (x : Reading) → navs_of (item_of x ++ items_of rs) ≡ navs (numbered r.line x ++ items_in rs)
    at h (Ok (inl item)) = ap (λ (l : List NavItem). item ∷ l) h
    at h (Ok (inr x)) = h
    at h (Err fault) = h

-- those of their own merge
pub merged_nav_set : ((items : List NavItem) → IsRankedList by_numbers by_sent (Contains items) (ranked_of by_numbers by_sent items))
    → ((items : List NavItem) → IsMerged (Contains items) (merged_of items))
    → (items : List Item) (item : NavItem) → Contains (navs_of (merged_items items)) item ↔ Contains (merged_of (navs_of items)) item
merged_nav_set ranked merged items item =
    let is = navs_of items in
    subst (λ (l : List NavItem). Contains l item ↔ Contains (merged_of is) item) (sym (merged_navs items))
    (same_items is (ranked_of by_numbers by_sent is) (merged_of is) (ranked is) (merged is) item)

pub file_merge : ((items : List Item) (item : NavItem) → Contains (navs_of (merged_items items)) item ↔ Contains (merged_of (navs_of items)) item)
    → (ks : Kinds) (v : Version) (bytes : List ℕ) (item : NavItem)
    → Contains (navs_of (file_merged ks v bytes)) item ↔ Contains (merged_of (items_read (file_reads (nav_form v) bytes))) item
file_merge same ks v bytes item =
    let reads = records_in (file_reads (form_of ks v) bytes) in
    subst (λ (l : List NavItem). Contains (navs_of (merged_items (items_of reads))) item ↔ Contains (merged_of l) item)
    (navs_same reads ∙ file_navs ks v bytes) (same (items_of reads) item)
