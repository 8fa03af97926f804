-- What a frame more adds to what is written, reported and counted.
use Rattle.std.proofs.Common.{◌≡◌, ℕ, ◌+◌, ◌≤◌, ◌||◌, Bool, true, false, if◌then◌else◌, List, [], ◌∷◌, ◌++◌, length, map, sum, refl, sym, ap, ◌∙◌, arith, append_assoc, append-nil, length-append, inl, inr, ℤ}
use Rattle.std.specs.Prelude.{Option, None, Some, Result, Ok, Err}
use Rattle.std.specs.List.{flat_map, sum_by}
use Rattle.std.specs.Ordering.{int_cmp, is_eq}
use Rattle.std.specs.Cmp.Lexicographic.{slice_cmp}
use Rattle.std.proofs.lemmas.Grind.{flat_map-append}
use Rattle.std.proofs.lemmas.List.Sums.{sum-map, sum_by-append}
use Rattle.nav_eph.specs.Items.{same_item}
use Rattle.nav_eph.specs.declared.items.NavItem.{NavItem}
use Rattle.nav_rows.specs.declared.kind.Kind.{Kind}
use Rattle.nav_rows.specs.declared.row.RowFault.{RowFault}
use Rattle.nav_rows.specs.Order.{KindRow, rank}
use Rattle.nav_rows.specs.Rows.{RowValue, row_in}
use Rattle.streams.specs.Targets.{prefix_text}
use Rattle.streams.specs.Times.{with_time}
use Rattle.streams.specs.declared.target.Target.{Target}
use Rattle.streams.specs.declared.times.Times.{Times}
use Rattle.rtcm_eph.specs.Reading.{item_in}
use Rattle.rtcm_eph.specs.declared.fault.MessageFault.{MessageFault}
use Rattle.rtcm_eph.specs.declared.fault.MessageFault.TheVariants.{NoNumber, OtherMessage, Short, BadSat, BadTime, SpareSisa}
use Rattle.framing.specs.State.{payload_of}
use Rattle.streams.specs.Mirrors.{AreFew}
use Rattle.streams.specs.Streams.{has as nav_has, items_of_readings, readings as nav_readings}
use Rattle.streams.specs.declared.counts.StreamCounts.{StreamCounts}
use Rattle.streams.proofs.Surface.{counts_are}
use Rattle.all_systems.specs.Mirrors.{any_rank}
use Rattle.all_systems.specs.Readings.{Fault, Item, Reading, is_refused, is_unused, kind_at, kind_reading, reading_by, reading_in, reading_report, readings, readings_report, row_reading, satellite_in}
use Rattle.all_systems.specs.Streams.{Numbered, counts_of, epoch_in, firsts_behind, has, items_from, items_of, output_of, same, text_of, times_with}
use Rattle.all_systems.specs.declared.kinds.Kinds.{Kinds}

-- ---- a reading more

pub one_more : (ks : Kinds) (r : ℕ) (past : List (List ℕ)) (frame : List ℕ) (x : Reading) → reading_in ks r (payload_of frame) ≡ x
    → readings ks r (past ++ frame ∷ []) ≡ readings ks r past ++ x ∷ []
one_more ks r [] frame x is = ap (λ (y : Reading). y ∷ []) is
one_more ks r (p ∷ past) frame x is = ap (λ (l : List Reading). reading_in ks r (payload_of p) ∷ l) (one_more ks r past frame x is)

here : (n : ℕ) → n ≡ n + 0
here n = omega arith

next : (n : ℕ) (x : Reading) (xs : List Reading) → n + 1 + length xs ≡ n + length (x ∷ xs)
next n x xs = omega arith

some_more : (n : ℕ) (xs : List Reading) (item : Item) → items_from n (xs ++ Ok item ∷ []) ≡ items_from n xs ++ (n + length xs, item) ∷ []
some_more n [] item = ap (λ (m : ℕ). (m, item) ∷ []) (here n)
some_more n (Ok i ∷ xs) item =
    ap (λ (l : List Numbered). (n, i) ∷ l)
    (some_more (n + 1) xs item ∙ ap (λ (m : ℕ). items_from (n + 1) xs ++ (m, item) ∷ []) (next n (Ok i) xs))
some_more n (Err fault ∷ xs) item = some_more (n + 1) xs item ∙ ap (λ (m : ℕ). items_from (n + 1) xs ++ (m, item) ∷ []) (next n (Err fault) xs)

none_more : (n : ℕ) (xs : List Reading) (fault : Fault) → items_from n (xs ++ Err fault ∷ []) ≡ items_from n xs
none_more n [] fault = refl
none_more n (Ok i ∷ xs) fault = ap (λ (l : List Numbered). (n, i) ∷ l) (none_more (n + 1) xs fault)
none_more n (Err other ∷ xs) fault = none_more (n + 1) xs fault

pub report_more : (n : ℕ) (xs : List Reading) (x : Reading) → readings_report n (xs ++ x ∷ []) ≡ readings_report n xs ++ reading_report (n + length xs) x
report_more n [] x = append-nil (reading_report n x) ∙ ap (λ (m : ℕ). reading_report m x) (here n)
report_more n (y ∷ xs) x =
    ap (λ (l : List ℕ). reading_report n y ++ l) (report_more (n + 1) xs x ∙ ap (λ (m : ℕ). readings_report (n + 1) xs ++ reading_report m x) (next n y xs))
    ∙ sym (append_assoc (reading_report n y) (readings_report (n + 1) xs) (reading_report (n + length (y ∷ xs)) x))

-- ---- the first of duplicates

abbrev once : Bool → Numbered → List Numbered
once true i = []
once false i = i ∷ []

or_turn : (a b c : Bool) → ((a || b) || c) ≡ (b || (a || c))
or_turn true true c = refl
or_turn true false c = refl
or_turn false true c = refl
or_turn false false c = refl

firsts_more : (before is : List Numbered) (i : Numbered) → firsts_behind before (is ++ i ∷ []) ≡ firsts_behind before is ++ once (has before i.1 || has is i.1) i
firsts_more before [] i = one (has before i.1) where
  one : (b : Bool) → (if b then [] else i ∷ []) ≡ once (b || false) i
  one true = refl
  one false = refl
firsts_more before (j ∷ is) i =
    let rest = firsts_more (j ∷ before) is i in
    let turn = ap (λ (b : Bool). once b i) (or_turn (same j.1 i.1) (has before i.1) (has is i.1)) in
    step (has before j.1) (firsts_behind (j ∷ before) (is ++ i ∷ [])) (firsts_behind (j ∷ before) is) _ (rest ∙ ap (λ (l : List Numbered). firsts_behind (j ∷ before) is ++ l) turn) where
      step : (b : Bool) (whole some more : List Numbered) → whole ≡ some ++ more → (if b then whole else j ∷ whole) ≡ (if b then some else j ∷ some) ++ more
      step true whole some more is = is
      step false whole some more is = ap (λ (l : List Numbered). j ∷ l) is

items_more : (xs : List Reading) (item : Item) → items_of (xs ++ Ok item ∷ []) ≡ items_of xs ++ once (has (items_from 1 xs) item) (1 + length xs, item)
items_more xs item = ap (firsts_behind []) (some_more 1 xs item) ∙ firsts_more [] (items_from 1 xs) (1 + length xs, item)

items_same : (xs : List Reading) (fault : Fault) → items_of (xs ++ Err fault ∷ []) ≡ items_of xs
items_same xs fault = ap (firsts_behind []) (none_more 1 xs fault)

-- ---- what is written

-- the text of an item that was given before or was not
abbrev pub given_text : Bool → List ℕ → List ℕ
given_text true text = []
given_text false text = text

once_text : (to : Target) (b : Bool) (i : Numbered) → flat_map (text_of to) (once b i) ≡ given_text b (text_of to i)
once_text to true i = refl
once_text to false i = append-nil (text_of to i)

pub output_item : (to : Target) (xs : List Reading) (item : Item)
    → output_of to (xs ++ Ok item ∷ []) ≡ output_of to xs ++ given_text (has (items_from 1 xs) item) (text_of to (1 + length xs, item))
output_item to xs item =
    let before = has (items_from 1 xs) item in
    ap (λ (l : List Numbered). prefix_text to ++ flat_map (text_of to) l) (items_more xs item)
    ∙ ap (λ (l : List ℕ). prefix_text to ++ l)
    (flat_map-append (text_of to) (items_of xs) (once before (1 + length xs, item)) ∙ ap (λ (l : List ℕ). flat_map (text_of to) (items_of xs) ++ l) (once_text to before (1 + length xs, item)))
    ∙ sym (append_assoc (prefix_text to) (flat_map (text_of to) (items_of xs)) (given_text before (text_of to (1 + length xs, item))))

pub output_none : (to : Target) (xs : List Reading) (fault : Fault) → output_of to (xs ++ Err fault ∷ []) ≡ output_of to xs
output_none to xs fault = ap (λ (l : List Numbered). prefix_text to ++ flat_map (text_of to) l) (items_same xs fault)

-- ---- what is counted

-- the counts with a frame more that gives an item
abbrev pub with_one : StreamCounts → Bool → Item → StreamCounts
with_one c before item = record {
  frames = c.frames + 1;
  refused = c.refused;
  unused = c.unused;
  items = if before then c.items else c.items + 1;
  times = if before then c.times else with_time c.times (epoch_in item);
}

count-append : (kind : Reading → ℕ) (xs ys : List Reading) → sum (map kind (xs ++ ys)) ≡ sum (map kind xs) + sum (map kind ys)
count-append kind xs ys =
    sum-map kind (xs ++ ys) ∙ sum_by-append kind xs ys ∙ sym (ap (λ (m : ℕ). m + sum (map kind ys)) (sum-map kind xs) ∙ ap (λ (m : ℕ). sum_by kind xs + m) (sum-map kind ys))

times_more : (t : Option Times) (is : List Numbered) (i : Numbered) → times_with t (is ++ i ∷ []) ≡ with_time (times_with t is) (epoch_in i.1)
times_more t [] i = refl
times_more t (j ∷ is) i = times_more (with_time t (epoch_in j.1)) is i

once_count : (b : Bool) (i : Numbered) (n : ℕ) → (if b then n else n + 1) ≡ n + length (once b i)
once_count true i n = omega arith
once_count false i n = omega arith

once_times : (b : Bool) (is : List Numbered) (i : Numbered) → (if b then times_with None is else with_time (times_with None is) (epoch_in i.1)) ≡ times_with None (is ++ once b i)
once_times true is i = ap (times_with None) (sym (append-nil is))
once_times false is i = sym (times_more None is i)

pub counts_item : (xs : List Reading) (item : Item) → with_one (counts_of xs) (has (items_from 1 xs) item) item ≡ counts_of (xs ++ Ok item ∷ [])
counts_item xs item =
    let before = has (items_from 1 xs) item in
    let numbered : Numbered = (1 + length xs, item) in
    counts_are (with_one (counts_of xs) before item) _ _ _ _ _
    (omega (arith, length-append xs (Ok item ∷ [])))
    (omega (arith, count-append is_refused xs (Ok item ∷ [])))
    (omega (arith, count-append is_unused xs (Ok item ∷ [])))
    (once_count before numbered (length (items_of xs)) ∙ sym (length-append (items_of xs) (once before numbered)) ∙ ap length (sym (items_more xs item)))
    (once_times before (items_of xs) numbered ∙ ap (times_with None) (sym (items_more xs item)))

-- the counts with a frame more that is rejected, or that gives nothing
abbrev pub with_fault : StreamCounts → Fault → StreamCounts
with_fault c fault = record {
  frames = c.frames + 1;
  refused = c.refused + is_refused (Err fault);
  unused = c.unused + is_unused (Err fault);
  items = c.items;
  times = c.times;
}

pub counts_fault : (xs : List Reading) (fault : Fault) → with_fault (counts_of xs) fault ≡ counts_of (xs ++ Err fault ∷ [])
counts_fault xs fault =
    counts_are (with_fault (counts_of xs) fault) _ _ _ _ _
    (omega (arith, length-append xs (Err fault ∷ [])))
    (omega (arith, count-append is_refused xs (Err fault ∷ [])))
    (omega (arith, count-append is_unused xs (Err fault ∷ [])))
    (ap length (sym (items_same xs fault)))
    (ap (times_with None) (sym (items_same xs fault)))

-- no more frames are counted by kind than there are
fewer_firsts : (before is : List Numbered) → length (firsts_behind before is) ≤ length is
fewer_firsts before [] = omega arith
fewer_firsts before (i ∷ is) = step (has before i.1) (fewer_firsts (i ∷ before) is) where
  step : (b : Bool) → length (firsts_behind (i ∷ before) is) ≤ length is → length (if b then firsts_behind (i ∷ before) is else i ∷ firsts_behind (i ∷ before) is) ≤ length (i ∷ is)
  step true rest = omega (arith, rest)
  step false rest = omega (arith, rest)

counted : (n : ℕ) (xs : List Reading) → sum (map is_refused xs) + sum (map is_unused xs) + length (items_from n xs) ≤ length xs
counted n [] = omega arith
counted n (Ok item ∷ xs) = omega (arith, counted (n + 1) xs, count-append is_refused (Ok item ∷ []) xs, count-append is_unused (Ok item ∷ []) xs)
counted n (Err None ∷ xs) = omega (arith, counted (n + 1) xs, count-append is_refused (Err None ∷ []) xs, count-append is_unused (Err None ∷ []) xs)
counted n (Err (Some fault) ∷ xs) = omega (arith, counted (n + 1) xs, count-append is_refused (Err (Some fault) ∷ []) xs, count-append is_unused (Err (Some fault) ∷ []) xs)

pub few_counts : (xs : List Reading) → AreFew (counts_of xs)
few_counts xs = omega (arith, counted 1 xs, fewer_firsts [] (items_from 1 xs))

-- ---- duplicates

-- no row is a duplicate of an ephemeris of GPS or Galileo I/NAV
pub nav_items : (ks : Kinds) (r n : ℕ) (past : List (List ℕ)) (e : NavItem) → has (items_from n (readings ks r past)) (inl e) ≡ nav_has (items_of_readings (nav_readings r past)) e
nav_items ks r n [] e = refl
nav_items ks r n (frame ∷ past) e = step (item_in r (payload_of frame)) (nav_items ks r (n + 1) past e) where
  payload : List ℕ
  payload = payload_of frame

  Rest : Type 0
  Rest = has (items_from (n + 1) (readings ks r past)) (inl e) ≡ nav_has (items_of_readings (nav_readings r past)) e

  row_step : (k : Kind) (m : ℕ) (x : Result RowValue RowFault) → Rest → has (items_from n (row_reading k m x ∷ readings ks r past)) (inl e) ≡ nav_has (items_of_readings (nav_readings r past)) e
  row_step k m (Ok row) rest = rest
  row_step k m (Err fault) rest = rest

  kind_step : (o : Option Kind) (m : ℕ) → Rest → has (items_from n (kind_reading o m payload r ∷ readings ks r past)) (inl e) ≡ nav_has (items_of_readings (nav_readings r past)) e
  kind_step None m rest = rest
  kind_step (Some k) m rest = row_step k m (row_in k payload r) rest

  step : (x : Result NavItem MessageFault) → Rest → has (items_from n (reading_by ks r payload x ∷ readings ks r past)) (inl e) ≡ nav_has (items_of_readings (x ∷ nav_readings r past)) e
  step (Ok i) rest = ap (λ (b : Bool). same_item i e || b) rest
  step (Err NoNumber) rest = rest
  step (Err (OtherMessage m)) rest = kind_step (kind_at ks m (satellite_in payload)) m rest
  step (Err Short) rest = rest
  step (Err BadSat) rest = rest
  step (Err BadTime) rest = rest
  step (Err SpareSisa) rest = rest

-- a row is a duplicate of one of its rank
pub row_items : (is : List Numbered) (x : KindRow) → has is (inr x) ≡ any_rank is (rank x)
row_items [] x = refl
row_items ((n, inl e) ∷ is) x = row_items is x
row_items ((n, inr y) ∷ is) x = ap (λ (b : Bool). is_eq (slice_cmp int_cmp (rank y) (rank x)) || b) (row_items is x)

or_same : (a b c : Bool) → (a || (b || c)) ≡ (b || (a || c))
or_same true true c = refl
or_same true false c = refl
or_same false true c = refl
or_same false false c = refl

rank_after : (is : List Numbered) (n : ℕ) (x : KindRow) (zs : List ℤ) → any_rank (is ++ (n, inr x) ∷ []) zs ≡ (is_eq (slice_cmp int_cmp (rank x) zs) || any_rank is zs)
rank_after [] n x zs = refl
rank_after ((m, inl e) ∷ is) n x zs = rank_after is n x zs
rank_after ((m, inr y) ∷ is) n x zs =
    ap (λ (b : Bool). is_eq (slice_cmp int_cmp (rank y) zs) || b) (rank_after is n x zs)
    ∙ or_same (is_eq (slice_cmp int_cmp (rank y) zs)) (is_eq (slice_cmp int_cmp (rank x) zs)) (any_rank is zs)

rank_same : (is : List Numbered) (n : ℕ) (e : NavItem) (zs : List ℤ) → any_rank (is ++ (n, inl e) ∷ []) zs ≡ any_rank is zs
rank_same [] n e zs = refl
rank_same ((m, inl d) ∷ is) n e zs = rank_same is n e zs
rank_same ((m, inr y) ∷ is) n e zs = ap (λ (b : Bool). is_eq (slice_cmp int_cmp (rank y) zs) || b) (rank_same is n e zs)

pub ranks_row : (xs : List Reading) (x : KindRow) (zs : List ℤ) → any_rank (items_from 1 (xs ++ Ok (inr x) ∷ [])) zs ≡ (is_eq (slice_cmp int_cmp (rank x) zs) || any_rank (items_from 1 xs) zs)
ranks_row xs x zs = ap (λ (l : List Numbered). any_rank l zs) (some_more 1 xs (inr x)) ∙ rank_after (items_from 1 xs) (1 + length xs) x zs

pub ranks_item : (xs : List Reading) (e : NavItem) (zs : List ℤ) → any_rank (items_from 1 (xs ++ Ok (inl e) ∷ [])) zs ≡ any_rank (items_from 1 xs) zs
ranks_item xs e zs = ap (λ (l : List Numbered). any_rank l zs) (some_more 1 xs (inl e)) ∙ rank_same (items_from 1 xs) (1 + length xs) e zs

pub ranks_none : (xs : List Reading) (fault : Fault) (zs : List ℤ) → any_rank (items_from 1 (xs ++ Err fault ∷ [])) zs ≡ any_rank (items_from 1 xs) zs
ranks_none xs fault zs = ap (λ (l : List Numbered). any_rank l zs) (none_more 1 xs fault)
