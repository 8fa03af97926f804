-- The state after a frame more, and what belongs to it.
use Rattle.std.proofs.Common.{◌≡◌, ℕ, suc, ◌+◌, ◌||◌, Bool, true, false, List, [], ◌∷◌, ◌++◌, length, refl, sym, ap, subst, ◌∙◌, arith, append-nil, append_assoc, inl, inr, ℤ}
use Rattle.std.specs.Prelude.{Option, Result, Ok, Err, OnErr, not}
use Rattle.std.specs.BTreeSet.{BTreeSet}
use Rattle.arrayvec.specs.ArrayVec.{ArrayVec}
use Rattle.std.specs.Io.KnownBytes.{Appends}
use Rattle.std.proofs.KnownBytes.{Appends-trans}
use Rattle.std.specs.Ordering.{int_cmp, is_eq}
use Rattle.std.specs.Cmp.Lexicographic.{slice_cmp}
use Rattle.nav_io.specs.Prefix.{AppendsPrefix, IsPrefix}
use Rattle.one_run.specs.Runs.{AppendsBetween}
use Rattle.one_run.proofs.Surface.{between_behind, between_whole, between_within, prefix_same, prefix_trans}
use Rattle.nav_eph.specs.declared.items.NavItem.{NavItem}
use Rattle.nav_rows.specs.Order.{KindRow, rank}
use Rattle.streams.specs.declared.target.Target.{Target}
use Rattle.rtcm_eph.specs.Reading.{item_in}
use Rattle.rtcm_eph.specs.declared.fault.MessageFault.{MessageFault}
use Rattle.framing.specs.State.{payload_of}
use Rattle.streams.specs.Mirrors.{AreKnown, GivenState, HasRoom, KeptPlaces, any_alike, is_given, sent_alike}
use Rattle.streams.specs.Streams.{items_of_readings, readings as nav_readings}
use Rattle.streams.specs.Streams.{Reading as NavReading}
use Rattle.streams.specs.Taken.{Gives, GivesBetween, HasRoomFor, Holds}
use Rattle.streams.specs.declared.counts.StreamCounts.{StreamCounts}
use Rattle.streams.proofs.Surface.{Laws, any_more, items_more, items_same, known_more, looked_for, read_own, readings_more}
use Rattle.all_systems.specs.Mirrors.{StandsFor, any_rank, is_rank_in}
use Rattle.all_systems.specs.Readings.{Fault, Item, Reading, reading_by, reading_in, reading_report, readings, readings_report}
use Rattle.all_systems.specs.Streams.{counts_of, has, items_from, output_of, text_by, text_of, decided_by}
use Rattle.all_systems.specs.declared.kinds.Kinds.{Kinds}
use Rattle.all_systems.specs.declared.state.State.{State}
use Rattle.all_systems.proofs.Lemmas.{counts_fault, counts_item, few_counts, given_text, nav_items, one_more, output_item, output_none, ranks_item, ranks_none, ranks_row, report_more, row_items, with_fault, with_one}

-- ---- what belongs to a frame

-- the number of the next frame
pub next_number : (ks : Kinds) (r : ℕ) (s : State) (past : List (List ℕ)) → StandsFor ks r s past → s.counts.frames + 1 ≡ 1 + length (readings ks r past)
next_number ks r s past far = let frames : s.counts.frames ≡ length (readings ks r past) = ap (λ (c : StreamCounts). c.frames) far.counts in omega (arith, frames)

-- a frame with an item: its text, unless it was given before
pub gives_item : (ks : Kinds) (to : Target) (r : ℕ) (s : State) (frame : List ℕ) (item : Item) (before : Bool) (w w1 : Option (List ℕ))
    → reading_in ks r (payload_of frame) ≡ Ok item
    → ((past : List (List ℕ)) → StandsFor ks r s past → before ≡ has (items_from 1 (readings ks r past)) item)
    → Appends w w1 (given_text before (text_of to (s.counts.frames + 1, item)))
    → Gives (StandsFor ks r) s (text_by ks to r) (frame ∷ []) w w1
gives_item ks to r s frame item before w w1 is was grew past start far wrote =
    let xs = readings ks r past in
    let text : given_text before (text_of to (s.counts.frames + 1, item)) ≡ given_text (has (items_from 1 xs) item) (text_of to (1 + length xs, item)) =
    ap (λ (b : Bool). given_text b (text_of to (s.counts.frames + 1, item))) (was past far)
    ∙ ap (λ (n : ℕ). given_text (has (items_from 1 xs) item) (text_of to (n, item))) (next_number ks r s past far) in
    subst (Appends start w1) (sym (ap (output_of to) (one_more ks r past frame (Ok item) is) ∙ output_item to xs item))
    (Appends-trans start w w1 _ _ wrote (subst (Appends w w1) text grew))

-- a prefix of it
pub part_of_item : (ks : Kinds) (to : Target) (r : ℕ) (s : State) (frame : List ℕ) (item : Item) (before : Bool) (w w1 : Option (List ℕ))
    → reading_in ks r (payload_of frame) ≡ Ok item
    → ((past : List (List ℕ)) → StandsFor ks r s past → before ≡ has (items_from 1 (readings ks r past)) item)
    → AppendsPrefix w w1 (given_text before (text_of to (s.counts.frames + 1, item)))
    → GivesBetween (StandsFor ks r) s (text_by ks to r) [] (frame ∷ []) w w1
part_of_item ks to r s frame item before w w1 is was grew past start far wrote =
    let xs = readings ks r past in
    let text : given_text before (text_of to (s.counts.frames + 1, item)) ≡ given_text (has (items_from 1 xs) item) (text_of to (1 + length xs, item)) =
    ap (λ (b : Bool). given_text b (text_of to (s.counts.frames + 1, item))) (was past far)
    ∙ ap (λ (n : ℕ). given_text (has (items_from 1 xs) item) (text_of to (n, item))) (next_number ks r s past far) in
    let all : AppendsBetween start w1 (output_of to xs) (output_of to (readings ks r (past ++ frame ∷ []))) =
    subst (AppendsBetween start w1 (output_of to xs)) (sym (ap (output_of to) (one_more ks r past frame (Ok item) is) ∙ output_item to xs item))
    (between_behind start w w1 _ _ wrote (subst (AppendsPrefix w w1) text grew)) in
    subst (λ (l : List (List ℕ)). AppendsBetween start w1 (text_by ks to r l) (text_by ks to r (past ++ frame ∷ []))) (sym (append-nil past)) all

-- nothing is written of a frame without an item
pub gives_none : (ks : Kinds) (to : Target) (r : ℕ) (s : State) (frame : List ℕ) (fault : Fault) (w : Option (List ℕ))
    → reading_in ks r (payload_of frame) ≡ Err fault → Gives (StandsFor ks r) s (text_by ks to r) (frame ∷ []) w w
gives_none ks to r s frame fault w is past start far wrote =
    subst (Appends start w) (sym (ap (output_of to) (one_more ks r past frame (Err fault) is) ∙ output_none to (readings ks r past) fault)) wrote

-- a frame's line of the report
pub gives_report : (ks : Kinds) (r : ℕ) (s : State) (frame : List ℕ) (x : Reading) (u u1 : Option (List ℕ))
    → reading_in ks r (payload_of frame) ≡ x → Appends u u1 (reading_report (s.counts.frames + 1) x) → Gives (StandsFor ks r) s (decided_by ks r) (frame ∷ []) u u1
gives_report ks r s frame x u u1 is grew past start far told =
    let xs = readings ks r past in
    subst (Appends start u1) (sym (ap (readings_report 1) (one_more ks r past frame x is) ∙ report_more 1 xs x))
    (Appends-trans start u u1 _ _ told (subst (λ (n : ℕ). Appends u u1 (reading_report n x)) (next_number ks r s past far) grew))

pub part_of_report : (ks : Kinds) (r : ℕ) (s : State) (frame : List ℕ) (x : Reading) (u u1 : Option (List ℕ))
    → reading_in ks r (payload_of frame) ≡ x → AppendsPrefix u u1 (reading_report (s.counts.frames + 1) x) → GivesBetween (StandsFor ks r) s (decided_by ks r) [] (frame ∷ []) u u1
part_of_report ks r s frame x u u1 is grew past start far told =
    let xs = readings ks r past in
    let all : AppendsBetween start u1 (readings_report 1 xs) (readings_report 1 (readings ks r (past ++ frame ∷ []))) =
    subst (AppendsBetween start u1 (readings_report 1 xs)) (sym (ap (readings_report 1) (one_more ks r past frame x is) ∙ report_more 1 xs x))
    (between_behind start u u1 _ _ told (subst (λ (n : ℕ). AppendsPrefix u u1 (reading_report n x)) (next_number ks r s past far) grew)) in
    subst (λ (l : List (List ℕ)). AppendsBetween start u1 (decided_by ks r l) (decided_by ks r (past ++ frame ∷ []))) (sym (append-nil past)) all

-- the report of frames begins with that of fewer
pub told_one : (ks : Kinds) (r : ℕ) (some : List (List ℕ)) (frame : List ℕ) → IsPrefix (decided_by ks r some) (decided_by ks r (some ++ frame ∷ []))
told_one ks r some frame =
    let reading = reading_in ks r (payload_of frame) in
    (reading_report (1 + length (readings ks r some)) reading, ap (readings_report 1) (one_more ks r some frame reading refl) ∙ report_more 1 (readings ks r some) reading)

-- what was given whole was given in part
pub part_of_gives : (ks : Kinds) (r : ℕ) (s : State) (frame : List ℕ) (u u1 : Option (List ℕ))
    → Gives (StandsFor ks r) s (decided_by ks r) (frame ∷ []) u u1 → GivesBetween (StandsFor ks r) s (decided_by ks r) [] (frame ∷ []) u u1
part_of_gives ks r s frame u u1 gives past start held grew =
    let all = decided_by ks r (past ++ frame ∷ []) in
    between_within start u1 (decided_by ks r (past ++ [])) all all all
    (subst (λ (l : List (List ℕ)). IsPrefix (decided_by ks r l) all) (sym (append-nil past)) (told_one ks r past frame)) (prefix_same all) (between_whole start u1 all (gives past start held grew))

-- no less was written of a frame without an item than before it
pub between_none : (ks : Kinds) (to : Target) (r : ℕ) (s : State) (frame : List ℕ) (fault : Fault) (w : Option (List ℕ))
    → reading_in ks r (payload_of frame) ≡ Err fault → GivesBetween (StandsFor ks r) s (text_by ks to r) [] (frame ∷ []) w w
between_none ks to r s frame fault w is past start far wrote =
    let same : text_by ks to r (past ++ frame ∷ []) ≡ text_by ks to r past = ap (output_of to) (one_more ks r past frame (Err fault) is) ∙ output_none to (readings ks r past) fault in
    subst (λ (l : List (List ℕ)). AppendsBetween start w (text_by ks to r l) (text_by ks to r (past ++ frame ∷ []))) (sym (append-nil past))
    (subst (AppendsBetween start w (text_by ks to r past)) (sym same) (between_whole start w (text_by ks to r past) wrote))

-- ---- the state

-- the rows that were given stay
rows_same : (s s1 : State) → s1.rows ≡ s.rows → (zs : List ℤ) → is_rank_in s1.rows zs ≡ is_rank_in s.rows zs
rows_same s s1 same zs = ap (λ (ranks : BTreeSet (ArrayVec ℤ)). is_rank_in ranks zs) same

-- an ephemeris of GPS or Galileo I/NAV
pub holds_item : (ks : Kinds) (r : ℕ) (s s1 : State) (frame : List ℕ) (item : NavItem) (before : Bool) (laws : Laws r)
    → item_in r (payload_of frame) ≡ Ok item → before ≡ is_given s.given item → s1.counts ≡ with_one s.counts before (inl item)
    → ((other : NavItem) → is_given s1.given other ≡ (sent_alike item other || is_given s.given other)) → KeptPlaces s.given s1.given (payload_of frame)
    → s1.rows ≡ s.rows → Holds (StandsFor ks r) s s1 (frame ∷ [])
holds_item ks r s s1 frame item before laws is was counts adds kept same past far =
    let xs = readings ks r past in
    let reading : reading_in ks r (payload_of frame) ≡ Ok (inl item) = ap (reading_by ks r (payload_of frame)) is in
    let more = one_more ks r past frame (Ok (inl item)) reading in
    let nav_more = readings_more r past frame (Ok item) is in
    let there : before ≡ has (items_from 1 xs) (inl item) = was ∙ far.given item ∙ looked_for r past (payload_of frame) item laws is ∙ sym (nav_items ks r 1 past item) in
    record {
      counts = counts ∙ ap (λ (c : StreamCounts). with_one c before (inl item)) far.counts ∙ ap (λ (b : Bool). with_one (counts_of xs) b (inl item)) there
          ∙ counts_item xs (inl item) ∙ ap counts_of (sym more);
      given = λ other. adds other ∙ ap (λ (b : Bool). sent_alike item other || b) (far.given other) ∙ sym (any_more (items_of_readings (nav_readings r past)) item other)
          ∙ ap (λ (l : List NavItem). any_alike l other) (sym (items_more (nav_readings r past) item)) ∙ ap (λ (l : List NavReading). any_alike (items_of_readings l) other) (sym nav_more);
      known = known_more r s.given s1.given (payload_of frame) item is (read_own r (payload_of frame) item laws is) adds kept far.known;
      rows = λ zs. rows_same s s1 same zs ∙ far.rows zs ∙ sym (ranks_item xs item zs) ∙ ap (λ (l : List Reading). any_rank (items_from 1 l) zs) (sym more);
    }

-- whether the item was given before
pub was_item : (ks : Kinds) (r : ℕ) (s : State) (frame : List ℕ) (item : NavItem) (laws : Laws r) → item_in r (payload_of frame) ≡ Ok item
    → (past : List (List ℕ)) → StandsFor ks r s past → is_given s.given item ≡ has (items_from 1 (readings ks r past)) (inl item)
was_item ks r s frame item laws is past far = far.given item ∙ looked_for r past (payload_of frame) item laws is ∙ sym (nav_items ks r 1 past item)

-- ---- frames without such an ephemeris

abbrev IsNotNav : Reading → Type 0
IsNotNav (Ok (inl item)) = ⊥
IsNotNav (Ok (inr x)) = Unit {0}
IsNotNav (Err fault) = Unit {0}

nav_fault : (ks : Kinds) (r : ℕ) (payload : List ℕ) (y : Reading) → IsNotNav y → (x : NavReading) → reading_by ks r payload x ≡ y → (fault : MessageFault) × (x ≡ Err fault)
nav_fault ks r payload y not (Ok item) is = absurd (subst IsNotNav (sym is) not)
nav_fault ks r payload y not (Err fault) is = (fault, refl)

-- the ephemerides of GPS and Galileo I/NAV that were given stay
stays : (ks : Kinds) (r : ℕ) (s : State) (frame : List ℕ) (y : Reading) → IsNotNav y → reading_in ks r (payload_of frame) ≡ y → (past : List (List ℕ)) → StandsFor ks r s past
    → (other : NavItem) → is_given s.given other ≡ any_alike (items_of_readings (nav_readings r (past ++ frame ∷ []))) other
stays ks r s frame y not is past far other =
    let fault = nav_fault ks r (payload_of frame) y not (item_in r (payload_of frame)) is in
    far.given other ∙ ap (λ (l : List NavItem). any_alike l other) (sym (items_same (nav_readings r past) fault.0))
    ∙ ap (λ (l : List NavReading). any_alike (items_of_readings l) other) (sym (readings_more r past frame (Err fault.0) fault.1))

-- a row
pub holds_row : (ks : Kinds) (r : ℕ) (s s1 : State) (frame : List ℕ) (x : KindRow) (before : Bool)
    → reading_in ks r (payload_of frame) ≡ Ok (inr x) → before ≡ is_rank_in s.rows (rank x) → s1.counts ≡ with_one s.counts before (inr x)
    → s1.given ≡ s.given → ((zs : List ℤ) → is_rank_in s1.rows zs ≡ (is_eq (slice_cmp int_cmp (rank x) zs) || is_rank_in s.rows zs)) → Holds (StandsFor ks r) s s1 (frame ∷ [])
holds_row ks r s s1 frame x before is was counts same adds past far =
    let xs = readings ks r past in
    let more = one_more ks r past frame (Ok (inr x)) is in
    let there : before ≡ has (items_from 1 xs) (inr x) = was ∙ far.rows (rank x) ∙ sym (row_items (items_from 1 xs) x) in
    record {
      counts = counts ∙ ap (λ (c : StreamCounts). with_one c before (inr x)) far.counts ∙ ap (λ (b : Bool). with_one (counts_of xs) b (inr x)) there
          ∙ counts_item xs (inr x) ∙ ap counts_of (sym more);
      given = λ other. ap (λ (g : GivenState). is_given g other) same ∙ stays ks r s frame (Ok (inr x)) tt is past far other;
      known = subst (AreKnown r) (sym same) far.known;
      rows = λ zs. adds zs ∙ ap (λ (b : Bool). is_eq (slice_cmp int_cmp (rank x) zs) || b) (far.rows zs) ∙ sym (ranks_row xs x zs) ∙ ap (λ (l : List Reading). any_rank (items_from 1 l) zs) (sym more);
    }

pub was_row : (ks : Kinds) (r : ℕ) (s : State) (x : KindRow) → (past : List (List ℕ)) → StandsFor ks r s past → is_rank_in s.rows (rank x) ≡ has (items_from 1 (readings ks r past)) (inr x)
was_row ks r s x past far = far.rows (rank x) ∙ sym (row_items (items_from 1 (readings ks r past)) x)

-- a frame that is rejected or gives nothing
pub holds_fault : (ks : Kinds) (r : ℕ) (s s1 : State) (frame : List ℕ) (fault : Fault)
    → reading_in ks r (payload_of frame) ≡ Err fault → s1.counts ≡ with_fault s.counts fault → s1.given ≡ s.given → s1.rows ≡ s.rows → Holds (StandsFor ks r) s s1 (frame ∷ [])
holds_fault ks r s s1 frame fault is counts same rows past far =
    let xs = readings ks r past in
    let more = one_more ks r past frame (Err fault) is in
    record {
      counts = counts ∙ ap (λ (c : StreamCounts). with_fault c fault) far.counts ∙ counts_fault xs fault ∙ ap counts_of (sym more);
      given = λ other. ap (λ (g : GivenState). is_given g other) same ∙ stays ks r s frame (Err fault) tt is past far other;
      known = subst (AreKnown r) (sym same) far.known;
      rows = λ zs. rows_same s s1 rows zs ∙ far.rows zs ∙ sym (ranks_none xs fault zs) ∙ ap (λ (l : List Reading). any_rank (items_from 1 l) zs) (sym more);
    }

-- ---- room

pub room_of : (ks : Kinds) (r : ℕ) (s : State) → HasRoomFor (StandsFor ks r) s 1 → HasRoom s.counts
room_of ks r s (past, far, few) =
    subst HasRoom (sym far.counts) (few_counts (readings ks r past), omega (arith, few, same past)) where
      same : (l : List (List ℕ)) → length (readings ks r l) ≡ length l
      same [] = refl
      same (x ∷ xs) = ap suc (same xs)

-- ---- answers

pub is_new : (a b : Bool) → a ≡ not b → a ≡ true → false ≡ b
is_new a true is new = cc
is_new a false is new = refl

pub is_old : (a b : Bool) → a ≡ not b → a ≡ false → true ≡ b
is_old a true is old = refl
is_old a false is old = cc

pub any_err : {T E P : Type 0} (r : Result T E) → P → OnErr r P
any_err (Ok x) p = tt
any_err (Err e) p = p

-- ---- what is written and reported of more frames

text_one : (ks : Kinds) (to : Target) (r : ℕ) (some : List (List ℕ)) (frame : List ℕ) → IsPrefix (text_by ks to r some) (text_by ks to r (some ++ frame ∷ []))
text_one ks to r some frame = step (reading_in ks r (payload_of frame)) refl where
  step : (x : Reading) → reading_in ks r (payload_of frame) ≡ x → IsPrefix (text_by ks to r some) (text_by ks to r (some ++ frame ∷ []))
  step (Ok item) is =
      (given_text (has (items_from 1 (readings ks r some)) item) (text_of to (1 + length (readings ks r some), item)), ap (output_of to) (one_more ks r some frame (Ok item) is) ∙ output_item to (readings ks r some) item)
  step (Err fault) is =
      ([], ap (output_of to) (one_more ks r some frame (Err fault) is) ∙ output_none to (readings ks r some) fault ∙ sym (append-nil (text_by ks to r some)))

pub text_grows : (ks : Kinds) (to : Target) (r : ℕ) (more some : List (List ℕ)) → IsPrefix (text_by ks to r some) (text_by ks to r (some ++ more))
text_grows ks to r [] some = subst (λ (l : List (List ℕ)). IsPrefix (text_by ks to r some) (text_by ks to r l)) (sym (append-nil some)) (prefix_same (text_by ks to r some))
text_grows ks to r (m ∷ ms) some =
    subst (λ (l : List (List ℕ)). IsPrefix (text_by ks to r some) (text_by ks to r l)) (append_assoc some (m ∷ []) ms)
    (prefix_trans (text_by ks to r some) (text_by ks to r (some ++ m ∷ [])) (text_by ks to r ((some ++ m ∷ []) ++ ms)) (text_one ks to r some m) (text_grows ks to r ms (some ++ m ∷ [])))

pub told_grows : (ks : Kinds) (r : ℕ) (more some : List (List ℕ)) → IsPrefix (decided_by ks r some) (decided_by ks r (some ++ more))
told_grows ks r [] some = subst (λ (l : List (List ℕ)). IsPrefix (decided_by ks r some) (decided_by ks r l)) (sym (append-nil some)) (prefix_same (decided_by ks r some))
told_grows ks r (m ∷ ms) some =
    subst (λ (l : List (List ℕ)). IsPrefix (decided_by ks r some) (decided_by ks r l)) (append_assoc some (m ∷ []) ms)
    (prefix_trans (decided_by ks r some) (decided_by ks r (some ++ m ∷ [])) (decided_by ks r ((some ++ m ∷ []) ++ ms))
    (told_one ks r some m) (told_grows ks r ms (some ++ m ∷ [])))
