-- Frames after frames: what was written, reported, counted and kept of them.
use Rattle.std.proofs.Common.{◌≡◌, ℕ, ◌+◌, ◌||◌, Bool, true, false, if◌then◌else◌, List, [], ◌∷◌, ◌++◌, length, map, sum, refl, sym, ap, subst, ◌∙◌, arith, append_assoc, append-nil, length-append, inl}
use Rattle.std.specs.Prelude.{Option, Result, Ok, Err, OnOk, OnErr}
use Rattle.std.specs.List.{flat_map, sum_by}
use Rattle.std.specs.Io.KnownBytes.{Appends}
use Rattle.std.proofs.KnownBytes.{Appends-nil, Appends-trans}
use Rattle.std.proofs.lemmas.Grind.{flat_map-append}
use Rattle.std.proofs.lemmas.List.Sums.{sum-map, sum_by-append}
use Rattle.nav_io.specs.Prefix.{AppendsPrefix}
use Rattle.nav_eph.specs.Items.{same_item}
use Rattle.nav_eph.specs.declared.items.NavItem.{NavItem}
use Rattle.rtcm_eph.specs.declared.fault.MessageFault.{MessageFault}
use Rattle.rtcm_eph.specs.declared.fault.MessageFault.TheVariants.{NoNumber, OtherMessage, Short, BadSat, BadTime, SpareSisa}
use Rattle.rtcm_eph.specs.Reading.{item_in}
use Rattle.framing.specs.State.{payload_of}
use Rattle.one_run.specs.Runs.{AppendsBetween}
use Rattle.streams.specs.declared.counts.StreamCounts.{StreamCounts}
use Rattle.streams.specs.Times.{times_of, with_item as timed}
use Rattle.streams.specs.declared.times.Times.{Times}
use Rattle.streams.proofs.OutletsSurface.{times_more}
use Rattle.streams.specs.Streams.{Reading, readings, has, items_of_readings, first_places, first_places_behind, reading_report, readings_report, counts_of_readings, is_refused, is_unused, readings_output}
use Rattle.streams.specs.Mirrors.{GivenState, KeptPlaces, StandsIn, StreamBroke, StreamSoFar, any_alike, is_given, once_text, sent_alike, with_fault, with_item, with_refusal, with_unused}
use Rattle.streams.proofs.AlikeLemmas.{Laws, looked_for, read_own}
use Rattle.streams.proofs.KnownLemmas.{adds_nothing, is_known, known_more}
use Rattle.one_run.proofs.Surface.{between_behind, between_whole}

-- an item, where it was not there before
abbrev pub once : Bool → NavItem → List NavItem
once before item = if before then [] else item ∷ []

or_turn : (a b c : Bool) → ((a || b) || c) ≡ (b || (a || c))
or_turn true true c = refl
or_turn true false c = refl
or_turn false true c = refl
or_turn false false c = refl

or_none : (a : Bool) → (a || false) ≡ a
or_none true = refl
or_none false = refl

-- one item more
places_more : (before is : List NavItem) (item : NavItem)
    → first_places_behind before (is ++ item ∷ []) ≡ first_places_behind before is ++ once (has before item || has is item) item
places_more before [] item = places_one (has before item) where
  places_one : (b : Bool) → (if b then [] else item ∷ []) ≡ once (b || false) item
  places_one true = refl
  places_one false = refl
places_more before (i ∷ is) item =
    let rest = places_more (i ∷ before) is item in
    let turn = ap (λ (b : Bool). once b item) (or_turn (same_item i item) (has before item) (has is item)) in
    places_step (has before i) (first_places_behind (i ∷ before) (is ++ item ∷ [])) (first_places_behind (i ∷ before) is) _ (rest ∙ ap (λ (l : List NavItem). first_places_behind (i ∷ before) is ++ l) turn) where
      places_step : (b : Bool) (whole some more : List NavItem) → whole ≡ some ++ more → (if b then whole else i ∷ whole) ≡ (if b then some else i ∷ some) ++ more
      places_step true whole some more is = is
      places_step false whole some more is = ap (λ (l : List NavItem). i ∷ l) is

pub first_places_more : (is : List NavItem) (item : NavItem) → first_places (is ++ item ∷ []) ≡ first_places is ++ once (has is item) item
first_places_more is item = places_more [] is item

-- ---- readings

pub items_more : (rs : List Reading) (item : NavItem) → items_of_readings (rs ++ Ok item ∷ []) ≡ items_of_readings rs ++ item ∷ []
items_more [] item = refl
items_more (Ok i ∷ rs) item = ap (λ (l : List NavItem). i ∷ l) (items_more rs item)
items_more (Err fault ∷ rs) item = items_more rs item

pub items_same : (rs : List Reading) (fault : MessageFault) → items_of_readings (rs ++ Err fault ∷ []) ≡ items_of_readings rs
items_same [] fault = refl
items_same (Ok i ∷ rs) fault = ap (λ (l : List NavItem). i ∷ l) (items_same rs fault)
items_same (Err other ∷ rs) fault = items_same rs fault

report_more : (n : ℕ) (rs : List Reading) (reading : Reading)
    → readings_report n (rs ++ reading ∷ []) ≡ readings_report n rs ++ reading_report (n + length rs) reading
report_more n [] reading = append-nil (reading_report n reading) ∙ ap (λ m. reading_report m reading) (here n) where
  here : (m : ℕ) → m ≡ m + 0
  here m = omega arith
report_more n (r ∷ rs) reading =
    let number : n + 1 + length rs ≡ n + length (r ∷ rs) = omega arith in
    ap (λ (l : List ℕ). reading_report n r ++ l) (report_more (n + 1) rs reading ∙ ap (λ m. readings_report (n + 1) rs ++ reading_report m reading) number)
    ∙ sym (append_assoc (reading_report n r) (readings_report (n + 1) rs) (reading_report (n + length (r ∷ rs)) reading))

count-append : (kind : Reading → ℕ) (xs ys : List Reading) → sum (map kind (xs ++ ys)) ≡ sum (map kind xs) + sum (map kind ys)
count-append kind xs ys =
    sum-map kind (xs ++ ys) ∙ sum_by-append kind xs ys ∙ sym (ap (λ m. m + sum (map kind ys)) (sum-map kind xs) ∙ ap (λ m. sum_by kind xs + m) (sum-map kind ys))

pub any_more : (is : List NavItem) (item other : NavItem) → any_alike (is ++ item ∷ []) other ≡ (sent_alike item other || any_alike is other)
any_more [] item other = refl
any_more (i ∷ is) item other =
    ap (λ (b : Bool). sent_alike i other || b) (any_more is item other) ∙ turn (sent_alike i other) (sent_alike item other) (any_alike is other) where
      turn : (a b c : Bool) → (a || (b || c)) ≡ (b || (a || c))
      turn true true c = refl
      turn true false c = refl
      turn false true c = refl
      turn false false c = refl

-- ---- one frame more

pub counts_are : (c : StreamCounts) (frames refused unused items : ℕ) (times : Option Times) → c.frames ≡ frames → c.refused ≡ refused → c.unused ≡ unused
    → c.items ≡ items → c.times ≡ times → c ≡ record { frames = frames; refused = refused; unused = unused; items = items; times = times }
counts_are c frames refused unused items times a b d e f = rw (sym a, sym b, sym d, sym e, sym f) refl

once_count : (b : Bool) (item : NavItem) (n : ℕ) → (if b then n else n + 1) ≡ n + length (once b item)
once_count true item n = omega arith
once_count false item n = omega arith

once_times : (b : Bool) (items : List NavItem) (item : NavItem) → (if b then times_of items else timed (times_of items) item) ≡ times_of (items ++ once b item)
once_times true items item = ap times_of (sym (append-nil items))
once_times false items item = sym (times_more items item)

counts_item : (rs : List Reading) (item : NavItem) → with_item (counts_of_readings rs) (has (items_of_readings rs) item) item ≡ counts_of_readings (rs ++ Ok item ∷ [])
counts_item rs item =
    counts_are (with_item (counts_of_readings rs) (has (items_of_readings rs) item) item) _ _ _ _ _
    (omega (arith, length-append rs (Ok item ∷ [])))
    (omega (arith, count-append is_refused rs (Ok item ∷ [])))
    (omega (arith, count-append is_unused rs (Ok item ∷ [])))
    (once_count (has (items_of_readings rs) item) item (length (first_places (items_of_readings rs)))
    ∙ sym (length-append (first_places (items_of_readings rs)) (once (has (items_of_readings rs) item) item))
    ∙ ap length (sym (first_places_more (items_of_readings rs) item)) ∙ ap (λ (l : List NavItem). length (first_places l)) (sym (items_more rs item)))
    (once_times (has (items_of_readings rs) item) (first_places (items_of_readings rs)) item
    ∙ ap times_of (sym (first_places_more (items_of_readings rs) item)) ∙ ap (λ (l : List NavItem). times_of (first_places l)) (sym (items_more rs item)))

counts_refused : (rs : List Reading) (fault : MessageFault) → is_refused (Err fault) ≡ 1 → is_unused (Err fault) ≡ 0
    → with_refusal (counts_of_readings rs) ≡ counts_of_readings (rs ++ Err fault ∷ [])
counts_refused rs fault refused unused =
    counts_are (with_refusal (counts_of_readings rs)) _ _ _ _ _
    (omega (arith, length-append rs (Err fault ∷ [])))
    (omega (arith, count-append is_refused rs (Err fault ∷ []), refused))
    (omega (arith, count-append is_unused rs (Err fault ∷ []), unused))
    (ap (λ (l : List NavItem). length (first_places l)) (sym (items_same rs fault)))
    (ap (λ (l : List NavItem). times_of (first_places l)) (sym (items_same rs fault)))

counts_unused : (rs : List Reading) (fault : MessageFault) → is_refused (Err fault) ≡ 0 → is_unused (Err fault) ≡ 1
    → with_unused (counts_of_readings rs) ≡ counts_of_readings (rs ++ Err fault ∷ [])
counts_unused rs fault refused unused =
    counts_are (with_unused (counts_of_readings rs)) _ _ _ _ _
    (omega (arith, length-append rs (Err fault ∷ [])))
    (omega (arith, count-append is_refused rs (Err fault ∷ []), refused))
    (omega (arith, count-append is_unused rs (Err fault ∷ []), unused))
    (ap (λ (l : List NavItem). length (first_places l)) (sym (items_same rs fault)))
    (ap (λ (l : List NavItem). times_of (first_places l)) (sym (items_same rs fault)))

counts_fault : (rs : List Reading) (fault : MessageFault) → with_fault (counts_of_readings rs) fault ≡ counts_of_readings (rs ++ Err fault ∷ [])
counts_fault rs NoNumber = counts_unused rs NoNumber refl refl
counts_fault rs (OtherMessage other) = counts_unused rs (OtherMessage other) refl refl
counts_fault rs Short = counts_refused rs Short refl refl
counts_fault rs BadSat = counts_refused rs BadSat refl refl
counts_fault rs BadTime = counts_refused rs BadTime refl refl
counts_fault rs SpareSisa = counts_refused rs SpareSisa refl refl

once_is : (text : NavItem → List ℕ) (b : Bool) (item : NavItem) → flat_map text (once b item) ≡ once_text text b item
once_is text true item = refl
once_is text false item = append-nil (text item)

-- what is written with an item more
pub output_item : (prefix : List ℕ) (text : NavItem → List ℕ) (rs : List Reading) (item : NavItem)
    → readings_output prefix text (rs ++ Ok item ∷ []) ≡ readings_output prefix text rs ++ once_text text (has (items_of_readings rs) item) item
output_item prefix text rs item =
    ap (λ (l : List NavItem). prefix ++ flat_map text l) (ap first_places (items_more rs item) ∙ first_places_more (items_of_readings rs) item)
    ∙ ap (λ (l : List ℕ). prefix ++ l) (flat_map-append text (first_places (items_of_readings rs)) (once (has (items_of_readings rs) item) item)
    ∙ ap (λ (l : List ℕ). flat_map text (first_places (items_of_readings rs)) ++ l) (once_is text (has (items_of_readings rs) item) item))
    ∙ sym (append_assoc prefix (flat_map text (first_places (items_of_readings rs))) (once_text text (has (items_of_readings rs) item) item))

pub output_fault : (prefix : List ℕ) (text : NavItem → List ℕ) (rs : List Reading) (fault : MessageFault)
    → readings_output prefix text (rs ++ Err fault ∷ []) ≡ readings_output prefix text rs
output_fault prefix text rs fault = ap (λ (l : List NavItem). prefix ++ flat_map text (first_places l)) (items_same rs fault)

pub readings_more : (r : ℕ) (past : List (List ℕ)) (frame : List ℕ) (x : Reading) → item_in r (payload_of frame) ≡ x
    → readings r (past ++ frame ∷ []) ≡ readings r past ++ x ∷ []
readings_more r [] frame x is = ap (λ (y : Reading). y ∷ []) is
readings_more r (p ∷ past) frame x is = ap (λ (l : List Reading). item_in r (payload_of p) ∷ l) (readings_more r past frame x is)

-- a frame that yields an item
pub so_far_item : (r : ℕ) (prefix : List ℕ) (text : NavItem → List ℕ) (past : List (List ℕ)) (frame : List ℕ) (item : NavItem)
    (w w1 w2 u u1 : Option (List ℕ)) (given given_new : GivenState) (c c1 : StreamCounts) (before : Bool)
    → item_in r (payload_of frame) ≡ Ok item → before ≡ is_given given item
    → any_alike (items_of_readings (readings r past)) item ≡ has (items_of_readings (readings r past)) item
    → StreamSoFar r prefix text past w w1 u u1 given c
    → Appends w1 w2 (once_text text before item) → c1 ≡ with_item c before item
    → ((other : NavItem) → is_given given_new other ≡ (sent_alike item other || is_given given other))
    → sent_alike item item ≡ true → KeptPlaces given given_new (payload_of frame)
    → StreamSoFar r prefix text (past ++ frame ∷ []) w w2 u u1 given_new c1
so_far_item r prefix text past frame item w w1 w2 u u1 given given_new c c1 before is was looked far output counts adds own kept =
    let rs = readings r past in
    let more = readings_more r past frame (Ok item) is in
    let there : before ≡ has (items_of_readings rs) item = was ∙ far.holds item ∙ looked in
    record {
      output = subst (Appends w w2) (sym (ap (readings_output prefix text) more ∙ output_item prefix text rs item))
          (Appends-trans w w1 w2 _ _ far.output (subst (λ (b : Bool). Appends w1 w2 (once_text text b item)) there output));
      report = subst (Appends u u1) (sym (ap (readings_report 1) more ∙ report_more 1 rs (Ok item) ∙ append-nil (readings_report 1 rs))) far.report;
      counts_are = counts ∙ ap (λ (x : StreamCounts). with_item x before item) far.counts_are ∙ ap (λ (b : Bool). with_item (counts_of_readings rs) b item) there
          ∙ counts_item rs item ∙ ap counts_of_readings (sym more);
      holds = λ other. adds other ∙ ap (λ (b : Bool). sent_alike item other || b) (far.holds other) ∙ sym (any_more (items_of_readings rs) item other)
          ∙ ap (λ (l : List NavItem). any_alike l other) (sym (items_more rs item)) ∙ ap (λ (l : List Reading). any_alike (items_of_readings l) other) (sym more);
      known = known_more r given given_new (payload_of frame) item is own adds kept far.known;
    }

-- a frame whose payload is kept
pub so_far_again : (r : ℕ) (prefix : List ℕ) (text : NavItem → List ℕ) (past : List (List ℕ)) (frame : List ℕ)
    (w w1 u u1 : Option (List ℕ)) (given : GivenState) (c c1 : StreamCounts) (laws : Laws r)
    → StandsIn given (payload_of frame) → StreamSoFar r prefix text past w w1 u u1 given c → ((item : NavItem) → c1 ≡ with_item c true item)
    → StreamSoFar r prefix text (past ++ frame ∷ []) w w1 u u1 given c1
so_far_again r prefix text past frame w w1 u u1 given c c1 laws stands far counts =
    let known = is_known r given (payload_of frame) stands far.known in
    so_far_item r prefix text past frame known.item w w1 w1 u u1 given given c c1 true known.is (sym known.given)
    (looked_for r past (payload_of frame) known.item laws known.is) far (Appends-nil w1) (counts known.item)
    (adds_nothing given known.item known.given) (read_own r (payload_of frame) known.item laws known.is) (inl refl, inl refl)

-- a frame that is refused or not used
pub so_far_fault : (r : ℕ) (prefix : List ℕ) (text : NavItem → List ℕ) (past : List (List ℕ)) (frame : List ℕ) (fault : MessageFault)
    (w w1 u u1 u2 : Option (List ℕ)) (given : GivenState) (c c1 : StreamCounts) (number : ℕ)
    → item_in r (payload_of frame) ≡ Err fault → number ≡ c.frames + 1
    → StreamSoFar r prefix text past w w1 u u1 given c
    → Appends u1 u2 (reading_report number (Err fault)) → c1 ≡ with_fault c fault
    → StreamSoFar r prefix text (past ++ frame ∷ []) w w1 u u2 given c1
so_far_fault r prefix text past frame fault w w1 u u1 u2 given c c1 number is nth far report counts =
    let rs = readings r past in
    let more = readings_more r past frame (Err fault) is in
    let frames : c.frames ≡ length rs = ap (λ (x : StreamCounts). x.frames) far.counts_are in
    let place : number ≡ 1 + length rs = omega (arith, nth, frames) in
    record {
      output = subst (Appends w w1) (sym (ap (readings_output prefix text) more ∙ output_fault prefix text rs fault)) far.output;
      report = subst (Appends u u2) (sym (ap (readings_report 1) more ∙ report_more 1 rs (Err fault)))
          (Appends-trans u u1 u2 _ _ far.report (subst (λ n. Appends u1 u2 (reading_report n (Err fault))) place report));
      counts_are = counts ∙ ap (λ (x : StreamCounts). with_fault x fault) far.counts_are ∙ counts_fault rs fault ∙ ap counts_of_readings (sym more);
      holds = λ other. far.holds other ∙ ap (λ (l : List NavItem). any_alike l other) (sym (items_same rs fault)) ∙ ap (λ (l : List Reading). any_alike (items_of_readings l) other) (sym more);
      known = far.known;
    }

-- a frame whose item is not written to its end
pub broke_item : (r : ℕ) (prefix : List ℕ) (text : NavItem → List ℕ) (past : List (List ℕ)) (frame : List ℕ) (item : NavItem)
    (w w1 w2 u u1 : Option (List ℕ)) (given : GivenState) (c : StreamCounts) (before : Bool)
    → item_in r (payload_of frame) ≡ Ok item → before ≡ is_given given item
    → any_alike (items_of_readings (readings r past)) item ≡ has (items_of_readings (readings r past)) item
    → StreamSoFar r prefix text past w w1 u u1 given c
    → AppendsPrefix w1 w2 (once_text text before item)
    → StreamBroke r prefix text past (past ++ frame ∷ []) w w2 u u1
broke_item r prefix text past frame item w w1 w2 u u1 given c before is was looked far output =
    let rs = readings r past in
    let more = readings_more r past frame (Ok item) is in
    let there : before ≡ has (items_of_readings rs) item = was ∙ far.holds item ∙ looked in
    record {
      output = subst (AppendsBetween w w2 (readings_output prefix text rs)) (sym (ap (readings_output prefix text) more ∙ output_item prefix text rs item))
          (between_behind w w1 w2 _ _ far.output (subst (λ (b : Bool). AppendsPrefix w1 w2 (once_text text b item)) there output));
      report = subst (AppendsBetween u u1 (readings_report 1 rs)) (sym (ap (readings_report 1) more ∙ report_more 1 rs (Ok item) ∙ append-nil (readings_report 1 rs)))
          (between_whole u u1 (readings_report 1 rs) far.report);
    }

-- a frame whose refusal is not reported to its end
pub broke_fault : (r : ℕ) (prefix : List ℕ) (text : NavItem → List ℕ) (past : List (List ℕ)) (frame : List ℕ) (fault : MessageFault)
    (w w1 u u1 u2 : Option (List ℕ)) (given : GivenState) (c : StreamCounts) (number : ℕ)
    → item_in r (payload_of frame) ≡ Err fault → number ≡ c.frames + 1
    → StreamSoFar r prefix text past w w1 u u1 given c
    → AppendsPrefix u1 u2 (reading_report number (Err fault))
    → StreamBroke r prefix text past (past ++ frame ∷ []) w w1 u u2
broke_fault r prefix text past frame fault w w1 u u1 u2 given c number is nth far report =
    let rs = readings r past in
    let more = readings_more r past frame (Err fault) is in
    let frames : c.frames ≡ length rs = ap (λ (x : StreamCounts). x.frames) far.counts_are in
    let place : number ≡ 1 + length rs = omega (arith, nth, frames) in
    record {
      output = subst (AppendsBetween w w1 (readings_output prefix text rs)) (sym (ap (readings_output prefix text) more ∙ output_fault prefix text rs fault))
          (between_whole w w1 _ far.output);
      report = subst (AppendsBetween u u2 (readings_report 1 rs)) (sym (ap (readings_report 1) more ∙ report_more 1 rs (Err fault)))
          (between_behind u u1 u2 _ _ far.report (subst (λ n. AppendsPrefix u1 u2 (reading_report n (Err fault))) place report));
    }

pub on_ok4 : {T E P Q S V R : Type 0} (r : Result T E) → OnOk r P → OnOk r Q → OnOk r S → OnOk r V → (P → Q → S → V → R) → OnOk r R
on_ok4 (Ok x) p q s v f = f p q s v
on_ok4 (Err e) p q s v f = tt

pub on_ok2 : {T E P Q R : Type 0} (r : Result T E) → OnOk r P → OnOk r Q → (P → Q → R) → OnOk r R
on_ok2 (Ok x) p q f = f p q
on_ok2 (Err e) p q f = tt

pub on_err1 : {T E P R : Type 0} (r : Result T E) → OnErr r P → (P → R) → OnErr r R
on_err1 (Ok x) p f = tt
on_err1 (Err e) p f = f p
