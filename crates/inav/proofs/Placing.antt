-- The ring buffer of seconds: finding a second and inserting a key.
use Rattle.std.proofs.Common.{◌≡◌, ℕ, zero, suc, ◌+◌, ◌-◌, ◌*◌, ◌/◌, ◌%◌, ◌<◌, ◌≤◌, max, nat_lt, nat_eq, ◌⊎◌, ◌↔◌, List, [], ◌∷◌, ◌++◌, Some, None, length, inl, inr, refl, sym, ap, subst, ◌∙◌, ⊎_elim, arith}
use Rattle.std.proofs.lemmas.Bool.{cases_lt, cases_order, cases_eq, cond_both, cond-true, cond-false, lt-ltb, le-ltb, eq-eqb, ne_eqb}
use Rattle.std.proofs.lemmas.List.{length-append}
use Rattle.std.proofs.Math.Nat.{div-add-mod}
use Rattle.std.specs.Prelude.{Contains}
use Rattle.std.specs.List.{slice_get, slice_set}
use Rattle.std.specs.Option.{unwrap_or}
use Rattle.inav.specs.declared.second.Second.{Second}
use Rattle.inav.specs.declared.seconds.Seconds.{Seconds}
use Rattle.inav.specs.Keeping.{IsRecent}
use Rattle.inav.specs.Mirrors.{half_of, AreKeys, IsKey}
use Rattle.inav.specs.Kept.{keys_in, keys_among, keys_of, recent_keys, ArePlaced, AreSeconds, IsSecondOf, KeepsKeys}
use Rattle.inav.proofs.Membership.{In, contains_from_In, In-from_contains}

pub some_is : (a b : Second) → Some a ≡ Some b → a ≡ b
some_is a b e = ap (λ o. unwrap_or o a) e

-- ---- two lists

pub append_in : (xs ys : List (ℕ × ℕ)) (q : ℕ × ℕ) → In (xs ++ ys) q → In xs q ⊎ In ys q
append_in [] ys q h = inr h
append_in (x ∷ xs) ys q h =
    ⊎_elim
    (λ (here : x ≡ q). inl (inl here))
    (λ (later : In (xs ++ ys) q).
    ⊎_elim (λ (left : In xs q). inl (inr left)) (λ (right : In ys q). inr right) (append_in xs ys q later))
    h

pub in_left : (xs ys : List (ℕ × ℕ)) (q : ℕ × ℕ) → In xs q → In (xs ++ ys) q
in_left [] ys q h = absurd h
in_left (x ∷ xs) ys q h =
    ⊎_elim (λ (here : x ≡ q). inl here) (λ (later : In xs q). inr (in_left xs ys q later)) h

pub in_right : (xs ys : List (ℕ × ℕ)) (q : ℕ × ℕ) → In ys q → In (xs ++ ys) q
in_right [] ys q h = h
in_right (x ∷ xs) ys q h = inr (in_right xs ys q h)

-- ---- the keys in seconds

-- a second is not too old
abbrev IsLate : ℕ → ℕ → Second → Type 0
IsLate window greatest second = greatest ≤ second.stamp + window + 1

recent_to : (window greatest : ℕ) (second : Second) (q : ℕ × ℕ) → In (recent_keys window greatest second) q
    → IsLate window greatest second × In second.keys q
recent_to window greatest second q h =
    let P : List (ℕ × ℕ) → Type 0 = λ keys. In keys q → IsLate window greatest second × In second.keys q in
    cond_both (nat_lt (second.stamp + window + 1) greatest) [] second.keys P
    (λ old there. absurd there)
    (λ late there. (grind (arith), there)) h

recent_is : (window greatest : ℕ) (second : Second) → IsLate window greatest second → recent_keys window greatest second ≡ second.keys
recent_is window greatest second late =
    cond-false (nat_lt (second.stamp + window + 1) greatest) [] second.keys (le-ltb (second.stamp + window + 1) greatest late)

pub among_to : (window greatest : ℕ) (seconds : List Second) (q : ℕ × ℕ) → In (keys_among window greatest seconds) q
    → (i : ℕ) × (second : Second) × (slice_get seconds i ≡ Some second) × IsLate window greatest second × In second.keys q
among_to window greatest [] q h = absurd h
among_to window greatest (x ∷ xs) q h =
    ⊎_elim
    (λ (here : In (recent_keys window greatest x) q). let is = recent_to window greatest x q here in (0, x, refl, is.0, is.1))
    (λ (later : In (keys_among window greatest xs) q).
    let is = among_to window greatest xs q later in (suc is.0, is.1, is.2, is.3, is.4))
    (append_in (recent_keys window greatest x) (keys_among window greatest xs) q h)

pub among_from : (window greatest : ℕ) (seconds : List Second) (q : ℕ × ℕ) (i : ℕ) (second : Second) → slice_get seconds i ≡ Some second
    → IsLate window greatest second → In second.keys q → In (keys_among window greatest seconds) q
among_from window greatest [] q i second at late there = absurd (cc at)
among_from window greatest (x ∷ xs) q zero second at late there =
    let P : Second → Type 0 = λ s. In (recent_keys window greatest s) q in
    let Q : List (ℕ × ℕ) → Type 0 = λ keys. In keys q in
    in_left (recent_keys window greatest x) (keys_among window greatest xs) q
    (subst P (sym (some_is x second at)) (subst Q (sym (recent_is window greatest second late)) there))
among_from window greatest (x ∷ xs) q (suc i) second at late there =
    in_right (recent_keys window greatest x) (keys_among window greatest xs) q (among_from window greatest xs q i second at late there)

fewer_in : (window greatest : ℕ) (seconds : List Second) (i : ℕ) (second : Second) → slice_get seconds i ≡ Some second
    → IsLate window greatest second → length second.keys ≤ length (keys_among window greatest seconds)
fewer_in window greatest [] i second at late = absurd (cc at)
fewer_in window greatest (x ∷ xs) zero second at late =
    let is : recent_keys window greatest second ≡ second.keys = recent_is window greatest second late in
    let same : length (recent_keys window greatest x) ≡ length second.keys =
    ap (λ s. length (recent_keys window greatest s)) (some_is x second at) ∙ ap length is in
    omega (arith, same, length-append (recent_keys window greatest x) (keys_among window greatest xs))
fewer_in window greatest (x ∷ xs) (suc i) second at late =
    let rest = fewer_in window greatest xs i second at late in
    omega (arith, rest, length-append (recent_keys window greatest x) (keys_among window greatest xs))

-- ---- places

-- two different stamps of one slot differ by at least the number of slots
same_place : (a b m : ℕ) → a % m ≡ b % m → a < b → a + m ≤ b
same_place a b m same less =
    let first : m * (a / m) + a % m ≡ a = div-add-mod a m in
    let second : m * (b / m) + b % m ≡ b = div-add-mod b m in
    ⊎_elim
    (λ (low : a / m < b / m).
    let more : (k : ℕ) × (a / m + 1 + k ≡ b / m) = (b / m - (a / m + 1), omega (arith, low)) in
    let spread : m * (b / m) ≡ m * (a / m) + m + m * more.0 = ap (λ n. m * n) (sym more.1) ∙ grind (arith) in
    omega (arith, first, second, same, spread))
    (λ (high : b / m ≤ a / m).
    let more : (k : ℕ) × (b / m + k ≡ a / m) = (a / m - b / m, omega (arith, high)) in
    let spread : m * (a / m) ≡ m * (b / m) + m * more.0 = ap (λ n. m * n) (sym more.1) ∙ grind (arith) in
    absurd (omega (arith, first, second, same, spread, less)))
    (cases_lt (a / m) (b / m))

-- two stamps of one slot within the window are equal
one_stamp : (window greatest place a b : ℕ) → place ≡ a % (window + 2) → place ≡ b % (window + 2) → a ≤ greatest → b ≤ greatest
    → greatest ≤ a + window + 1 → greatest ≤ b + window + 1 → a ≡ b
one_stamp window greatest place a b first second low_a low_b late_a late_b =
    let same : a % (window + 2) ≡ b % (window + 2) = sym first ∙ second in
    ⊎_elim
    (λ (e : a ≡ b). e)
    (⊎_elim
    (λ (less : a < b). absurd (let far = same_place a b (window + 2) same less in omega (arith, far, low_b, late_a)))
    (λ (more : b < a). absurd (let far = same_place b a (window + 2) (sym same) more in omega (arith, far, low_a, late_b))))
    (cases_order a b)

-- ---- all stored are keys

pub are_keys : (seconds : Seconds) → AreSeconds seconds → AreKeys (keys_in seconds)
are_keys seconds are key h =
    let is = among_to seconds.window seconds.greatest seconds.places.items key (In-from_contains (keys_in seconds) key h) in
    (are.placed is.0 is.1 is.2 key (contains_from_In is.1.keys key is.4)).is_key

-- no stamp is above the greatest, none is too old
pub in_window : (seconds : Seconds) (key : ℕ × ℕ) → AreSeconds seconds → Contains (keys_in seconds) key
    → ((half_of key).stamp ≤ seconds.greatest) × IsRecent seconds.window seconds.greatest (half_of key)
in_window seconds key are h =
    let is = among_to seconds.window seconds.greatest seconds.places.items key (In-from_contains (keys_in seconds) key h) in
    let at = are.placed is.0 is.1 is.2 key (contains_from_In is.1.keys key is.4) in
    let late = is.3 in
    let same = at.stamp_is in
    let early = at.early in
    (omega (arith, same, early), omega (arith, same, late))

-- ---- finding a second

-- the second at the slot of a stamp, which is not too old, and has that stamp
pub found : (seconds : Seconds) (stamp place : ℕ) (second : Second) → AreSeconds seconds → slice_get seconds.places.items place ≡ Some second
    → place ≡ stamp % (seconds.window + 2) → (stamp + seconds.window + 1 < seconds.greatest → ⊥) → second.stamp ≡ stamp
    → IsSecondOf (keys_in seconds) stamp second.keys
found seconds stamp place second are at place_is late same =
    let all = keys_in seconds in
    let is_late : IsLate seconds.window seconds.greatest second = omega (arith, late, same) in (
      λ key. (
        λ h. (
          contains_from_In all key (among_from seconds.window seconds.greatest seconds.places.items key place second at is_late
              (In-from_contains second.keys key h)),
          (are.placed place second at key h).stamp_is ∙ same,
        ),
        λ h. let is = among_to seconds.window seconds.greatest seconds.places.items key (In-from_contains all key h.0) in
            let its = are.placed is.0 is.1 is.2 key (contains_from_In is.1.keys key is.4) in
            let here : is.0 ≡ place = its.place_is ∙ ap (λ s. s % (seconds.window + 2)) (sym its.stamp_is ∙ h.1) ∙ sym place_is in
            let P : ℕ → Type 0 = λ i. slice_get seconds.places.items i ≡ Some is.1 in
            let one : is.1 ≡ second = some_is is.1 second (sym (subst P here is.2) ∙ at) in
            let Q : Second → Type 0 = λ s. Contains s.keys key in
            subst Q one (contains_from_In is.1.keys key is.4),
      ),
      fewer_in seconds.window seconds.greatest seconds.places.items place second at is_late,
    )

none_of : (all : List (ℕ × ℕ)) (stamp : ℕ) → ((key : ℕ × ℕ) → Contains all key → (half_of key).stamp ≡ stamp → ⊥) → IsSecondOf all stamp []
none_of all stamp none = (
  λ key. (λ h. absurd (In-from_contains [] key h), λ h. absurd (none key h.0 h.1)),
  omega arith,
)

-- a stamp that is too old has no keys
pub none_too_old : (seconds : Seconds) (stamp : ℕ) → AreSeconds seconds → stamp + seconds.window + 1 < seconds.greatest
    → IsSecondOf (keys_in seconds) stamp []
none_too_old seconds stamp are old =
    none_of (keys_in seconds) stamp (λ key h same. let late = (in_window seconds key are h).1 in omega (arith, late, same, old))

-- nor one without a slot
pub none_outside : (seconds : Seconds) (stamp place : ℕ) → AreSeconds seconds → slice_get seconds.places.items place ≡ None
    → place ≡ stamp % (seconds.window + 2) → IsSecondOf (keys_in seconds) stamp []
none_outside seconds stamp place are at place_is =
    none_of (keys_in seconds) stamp (λ key h same.
    let is = among_to seconds.window seconds.greatest seconds.places.items key (In-from_contains (keys_in seconds) key h) in
    let its = are.placed is.0 is.1 is.2 key (contains_from_In is.1.keys key is.4) in
    let here : is.0 ≡ place = its.place_is ∙ ap (λ s. s % (seconds.window + 2)) (sym its.stamp_is ∙ same) ∙ sym place_is in
    let P : ℕ → Type 0 = λ i. slice_get seconds.places.items i ≡ Some is.1 in
    cc (subst P here is.2, at))

-- nor one whose slot has another second
pub none_of_another : (seconds : Seconds) (stamp place : ℕ) (second : Second) → AreSeconds seconds → slice_get seconds.places.items place ≡ Some second
    → place ≡ stamp % (seconds.window + 2) → (second.stamp ≡ stamp → ⊥) → IsSecondOf (keys_in seconds) stamp []
none_of_another seconds stamp place second are at place_is other =
    none_of (keys_in seconds) stamp (λ key h same.
    let is = among_to seconds.window seconds.greatest seconds.places.items key (In-from_contains (keys_in seconds) key h) in
    let its = are.placed is.0 is.1 is.2 key (contains_from_In is.1.keys key is.4) in
    let here : is.0 ≡ place = its.place_is ∙ ap (λ s. s % (seconds.window + 2)) (sym its.stamp_is ∙ same) ∙ sym place_is in
    let P : ℕ → Type 0 = λ i. slice_get seconds.places.items i ≡ Some is.1 in
    let one : is.1 ≡ second = some_is is.1 second (sym (subst P here is.2) ∙ at) in
    other (ap (λ (s : Second). s.stamp) (sym one) ∙ sym its.stamp_is ∙ same))

-- ---- allocating slots

-- one more second with no keys
pub adds_empty : (old now new : List Second) (empty : Second) → empty.keys ≡ [] → KeepsKeys old now → new ≡ now ++ empty ∷ [] → KeepsKeys old new
adds_empty old now new empty none so is window greatest =
    let P : List Second → Type 0 = λ ss. (keys_among window greatest ss ≡ keys_among window greatest old)
    × (ArePlaced window greatest old → ArePlaced window greatest ss) in
    let before = so window greatest in
    subst P (sym is) (
      same now ∙ before.0,
      λ placed place second at key h. ⊎_elim
          (λ (there : slice_get now place ≡ Some second). before.1 placed place second there key h)
          (λ (one : empty ≡ second).
          let Q : List (ℕ × ℕ) → Type 0 = λ keys. In keys key in
          absurd (subst Q (ap (λ (s : Second). s.keys) (sym one) ∙ none) (In-from_contains second.keys key h)))
          (where_is now place second at),
    )
  where
    nothing : recent_keys window greatest empty ≡ []
    nothing = cond_both (nat_lt (empty.stamp + window + 1) greatest) [] empty.keys (λ keys. keys ≡ []) (λ old. refl) (λ late. none)

    same : (ss : List Second) → keys_among window greatest (ss ++ empty ∷ []) ≡ keys_among window greatest ss
    same [] = ap (λ keys. keys ++ []) nothing
    same (s ∷ ss) = ap (λ keys. recent_keys window greatest s ++ keys) (same ss)

    where_is : (ss : List Second) (place : ℕ) (second : Second) → slice_get (ss ++ empty ∷ []) place ≡ Some second
        → (slice_get ss place ≡ Some second) ⊎ (empty ≡ second)
    where_is [] zero second at = inr (some_is empty second at)
    where_is [] (suc i) second at = absurd (cc at)
    where_is (s ∷ ss) zero second at = inl at
    where_is (s ∷ ss) (suc i) second at = where_is ss i second at

-- ---- inserting a key

set_here : (seconds : List Second) (i : ℕ) (was second : Second) → slice_get seconds i ≡ Some was → slice_get (slice_set seconds i second) i ≡ Some second
set_here [] i was second at = absurd (cc at)
set_here (x ∷ xs) zero was second at = refl
set_here (x ∷ xs) (suc i) was second at = set_here xs i was second at

set_there : (seconds : List Second) (i j : ℕ) (second : Second) → (j ≡ i → ⊥) → slice_get (slice_set seconds i second) j ≡ slice_get seconds j
set_there [] i j second apart = refl
set_there (x ∷ xs) zero zero second apart = absurd (apart refl)
set_there (x ∷ xs) zero (suc j) second apart = refl
set_there (x ∷ xs) (suc i) zero second apart = refl
set_there (x ∷ xs) (suc i) (suc j) second apart = set_there xs i j second (λ e. apart (ap suc e))

-- a higher greatest stamp leaves fewer recent keys
fewer_recent : (window greatest raised : ℕ) (x : Second) → greatest ≤ raised
    → length (recent_keys window raised x) ≤ length (recent_keys window greatest x)
fewer_recent window greatest raised x more =
    ⊎_elim
    (λ (old : x.stamp + window + 1 < raised).
    let none = ap length (cond-true (nat_lt (x.stamp + window + 1) raised) [] x.keys (lt-ltb (x.stamp + window + 1) raised old)) in
    omega (arith, none))
    (λ (late : raised ≤ x.stamp + window + 1).
    let one = ap length (recent_is window raised x late) in
    let two = ap length (recent_is window greatest x (omega (arith, late, more))) in
    omega (arith, one, two))
    (cases_lt (x.stamp + window + 1) raised)

fewer_later : (window greatest raised : ℕ) (seconds : List Second) → greatest ≤ raised
    → length (keys_among window raised seconds) ≤ length (keys_among window greatest seconds)
fewer_later window greatest raised [] more = omega arith
fewer_later window greatest raised (x ∷ xs) more =
    let rest = fewer_later window greatest raised xs more in
    let own = fewer_recent window greatest raised x more in
    omega (
      arith,
      rest,
      own,
      length-append (recent_keys window raised x) (keys_among window raised xs),
      length-append (recent_keys window greatest x) (keys_among window greatest xs),
    )

pub of_same : (stamp : ℕ) (second : Second) → second.stamp ≡ stamp → keys_of stamp second ≡ second.keys
of_same stamp second same = cond-true (nat_eq second.stamp stamp) second.keys [] (eq-eqb second.stamp stamp same)

pub of_other : (stamp : ℕ) (second : Second) → (second.stamp ≡ stamp → ⊥) → keys_of stamp second ≡ []
of_other stamp second other = cond-false (nat_eq second.stamp stamp) second.keys [] (ne_eqb second.stamp stamp other)

-- a key in a second of that stamp
pub of_to : (stamp : ℕ) (second : Second) (q : ℕ × ℕ) → Contains (keys_of stamp second) q → (second.stamp ≡ stamp) × Contains second.keys q
of_to stamp second q h =
    ⊎_elim
    (λ (same : second.stamp ≡ stamp). let P : List (ℕ × ℕ) → Type 0 = λ keys. Contains keys q in (same, subst P (of_same stamp second same) h))
    (λ (other : second.stamp ≡ stamp → ⊥).
    let P : List (ℕ × ℕ) → Type 0 = λ keys. In keys q in
    absurd (subst P (of_other stamp second other) (In-from_contains (keys_of stamp second) q h)))
    (cases_eq second.stamp stamp)

-- the keys of a second after a key of a stamp was inserted
pub record HasPut (stamp : ℕ) (was : Second) (key : ℕ × ℕ) (second : Second) : Type 0 where
  pub stamp_is : second.stamp ≡ stamp
  pub keys : (other : ℕ × ℕ) → Contains second.keys other ↔ (Contains (keys_of stamp was) other ⊎ (key ≡ other))
  pub room : length second.keys ≤ length (keys_of stamp was) + 1

module _ (window greatest stamp place : ℕ) (old : List Second) (was second : Second) (key : ℕ × ℕ)
    (placed : ArePlaced window greatest old) (at : slice_get old place ≡ Some was) (place_is : place ≡ stamp % (window + 2))
    (put : HasPut stamp was key second) (own : (half_of key).stamp ≡ stamp) (recent : greatest ≤ stamp + window + 1) where
  abbrev raised : ℕ
  raised = max greatest stamp

  abbrev new : List Second
  new = slice_set old place second

  here : slice_get new place ≡ Some second
  here = set_here old place was second at

  late : IsLate window raised second
  late = let is = put.stamp_is in omega (arith, is, recent)

  -- the second in the slot is that of the stamp, or too old
  put_to : (q : ℕ × ℕ) (i : ℕ) (s : Second) → slice_get new i ≡ Some s → IsLate window raised s → Contains s.keys q
      → (Contains (keys_among window greatest old) q ⊎ (key ≡ q)) × IsRecent window raised (half_of q)
  put_to q i s there is_late h =
      ⊎_elim
      (λ (same : i ≡ place).
      let P : ℕ → Type 0 = λ j. slice_get new j ≡ Some s in
      let one : s ≡ second = some_is s second (sym (subst P same there) ∙ here) in
      let Q : Second → Type 0 = λ t. Contains t.keys q in
      ⊎_elim
      (λ (before : Contains (keys_of stamp was) q).
      let both = of_to stamp was q before in
      let its = placed place was at q both.1 in
      let is : (half_of q).stamp ≡ stamp = its.stamp_is ∙ both.0 in
      let was_late : IsLate window greatest was = let e = both.0 in omega (arith, e, recent) in (
        inl (contains_from_In (keys_among window greatest old) q
            (among_from window greatest old q place was at was_late (In-from_contains was.keys q both.1))),
        omega (arith, is, recent),
      ))
      (λ (is : key ≡ q). (inr is, let e = ap (λ k. (half_of k).stamp) (sym is) ∙ own in omega (arith, e, recent)))
      ((put.keys q).0 (subst Q one h)))
      (λ (apart : i ≡ place → ⊥).
      let there_old : slice_get old i ≡ Some s = sym (set_there old place i second apart) ∙ there in
      let its = placed i s there_old q h in
      let is = its.stamp_is in
      let was_late : IsLate window greatest s = omega (arith, is_late) in (
        inl (contains_from_In (keys_among window greatest old) q
            (among_from window greatest old q i s there_old was_late (In-from_contains s.keys q h))),
        omega (arith, is, is_late),
      ))
      (cases_eq i place)

  put_from : (q : ℕ × ℕ) → (Contains (keys_among window greatest old) q ⊎ (key ≡ q)) → IsRecent window raised (half_of q)
      → Contains (keys_among window raised new) q
  put_from q h fresh =
      let all = keys_among window raised new in
      let own_second : Contains second.keys q → Contains all q =
      λ there. contains_from_In all q (among_from window raised new q place second here late (In-from_contains second.keys q there)) in
      ⊎_elim
      (λ (before : Contains (keys_among window greatest old) q).
      let is = among_to window greatest old q (In-from_contains (keys_among window greatest old) q before) in
      let s = is.1 in
      let stands : Contains s.keys q = contains_from_In s.keys q is.4 in
      let its = placed is.0 s is.2 q stands in
      let stamp_at = its.stamp_is in
      let is_late : IsLate window raised s = omega (arith, stamp_at, fresh) in
      ⊎_elim
      (λ (same : is.0 ≡ place).
      let P : ℕ → Type 0 = λ j. slice_get old j ≡ Some s in
      let one : s ≡ was = some_is s was (sym (subst P same is.2) ∙ at) in
      let early = its.early in
      let equal : s.stamp ≡ stamp =
      one_stamp window raised place s.stamp stamp (sym same ∙ its.place_is) place_is (omega (arith, early)) (omega arith) is_late (omega (arith, recent)) in
      let of_stamp : was.stamp ≡ stamp = ap (λ (t : Second). t.stamp) (sym one) ∙ equal in
      let Q : Second → Type 0 = λ t. Contains t.keys q in
      let R : List (ℕ × ℕ) → Type 0 = λ keys. Contains keys q in
      own_second ((put.keys q).1 (inl (subst R (sym (of_same stamp was of_stamp)) (subst Q one stands)))))
      (λ (apart : is.0 ≡ place → ⊥).
      contains_from_In all q (among_from window raised new q is.0 s (set_there old place is.0 second apart ∙ is.2) is_late is.4))
      (cases_eq is.0 place))
      (λ (same : key ≡ q). own_second ((put.keys q).1 (inr same)))
      h

  pub put_kept : (q : ℕ × ℕ) → Contains (keys_among window raised new) q
      ↔ ((Contains (keys_among window greatest old) q ⊎ (key ≡ q)) × IsRecent window raised (half_of q))
  put_kept q = (
    λ h. let is = among_to window raised new q (In-from_contains (keys_among window raised new) q h) in
        put_to q is.0 is.1 is.2 is.3 (contains_from_In is.1.keys q is.4),
    λ h. put_from q h.0 h.1,
  )

  pub put_placed : IsKey key → ArePlaced window raised new
  put_placed is_key i s there q h =
      ⊎_elim
      (λ (same : i ≡ place).
      let P : ℕ → Type 0 = λ j. slice_get new j ≡ Some s in
      let one : s ≡ second = some_is s second (sym (subst P same there) ∙ here) in
      let Q : Second → Type 0 = λ t. Contains t.keys q in
      let stamp_at : s.stamp ≡ stamp = ap (λ (t : Second). t.stamp) one ∙ put.stamp_is in
      let known : IsKey q × ((half_of q).stamp ≡ stamp) =
      ⊎_elim
      (λ (before : Contains (keys_of stamp was) q).
      let both = of_to stamp was q before in
      let its = placed place was at q both.1 in
      (its.is_key, its.stamp_is ∙ both.0))
      (λ (is : key ≡ q). let R : ℕ × ℕ → Type 0 = λ k. IsKey k × ((half_of k).stamp ≡ stamp) in subst R is (is_key, own))
      ((put.keys q).0 (subst Q one h)) in
      record {
        is_key = known.0;
        stamp_is = known.1 ∙ sym stamp_at;
        place_is = same ∙ place_is ∙ ap (λ n. n % (window + 2)) (sym stamp_at);
        early = omega (arith, stamp_at);
      })
      (λ (apart : i ≡ place → ⊥).
      let its = placed i s (sym (set_there old place i second apart) ∙ there) q h in
      let early = its.early in
      record { is_key = its.is_key; stamp_is = its.stamp_is; place_is = its.place_is; early = omega (arith, early) })
      (cases_eq i place)

  own_room : length (recent_keys window raised second) ≤ length (recent_keys window greatest was) + 1
  own_room =
      let new_is = ap length (recent_is window raised second late) in
      let room = put.room in
      ⊎_elim
      (λ (same : was.stamp ≡ stamp).
      let old_is = ap length (recent_is window greatest was (omega (arith, same, recent))) in
      let own_is = ap length (of_same stamp was same) in
      omega (arith, new_is, room, old_is, own_is))
      (λ (other : was.stamp ≡ stamp → ⊥). let own_is = ap length (of_other stamp was other) in omega (arith, new_is, room, own_is))
      (cases_eq was.stamp stamp)

  room_from : (seconds : List Second) (i : ℕ) → slice_get seconds i ≡ Some was
      → length (keys_among window raised (slice_set seconds i second)) ≤ length (keys_among window greatest seconds) + 1
  room_from [] i there = absurd (cc there)
  room_from (x ∷ xs) zero there =
      let rest = fewer_later window greatest raised xs (omega arith) in
      let same : length (recent_keys window greatest x) ≡ length (recent_keys window greatest was) =
      ap (λ s. length (recent_keys window greatest s)) (some_is x was there) in
      omega (
        arith,
        rest,
        same,
        own_room,
        length-append (recent_keys window raised second) (keys_among window raised xs),
        length-append (recent_keys window greatest x) (keys_among window greatest xs),
      )
  room_from (x ∷ xs) (suc i) there =
      let rest = room_from xs i there in
      let first : length (recent_keys window raised x) ≤ length (recent_keys window greatest x) = fewer_recent window greatest raised x (omega arith) in
      omega (
        arith,
        rest,
        first,
        length-append (recent_keys window raised x) (keys_among window raised (slice_set xs i second)),
        length-append (recent_keys window greatest x) (keys_among window greatest xs),
      )

  pub put_room : length (keys_among window raised new) ≤ length (keys_among window greatest old) + 1
  put_room = room_from old place at

-- a key of a stamp that is not too old is stored exactly where it is among the keys of that stamp in its slot
pub stored_where_there : (seconds : Seconds) (place : ℕ) (second : Second) (key : ℕ × ℕ) (stamp : ℕ) → AreSeconds seconds
    → slice_get seconds.places.items place ≡ Some second → place ≡ stamp % (seconds.window + 2) → (half_of key).stamp ≡ stamp
    → seconds.greatest ≤ stamp + seconds.window + 1 → Contains (keys_of stamp second) key ↔ Contains (keys_in seconds) key
stored_where_there seconds place second key stamp are at place_is of recent =
    ⊎_elim
    (λ (same : second.stamp ≡ stamp).
    let is = (found seconds stamp place second are at place_is (λ old. omega (arith, old, recent)) same).0 key in
    let P : List (ℕ × ℕ) → Type 0 = λ keys. Contains keys key ↔ Contains (keys_in seconds) key in
    subst P (sym (of_same stamp second same)) (λ h. (is.0 h).0, λ h. is.1 (h, of)))
    (λ (other : second.stamp ≡ stamp → ⊥).
    let is = (none_of_another seconds stamp place second are at place_is other).0 key in
    let P : List (ℕ × ℕ) → Type 0 = λ keys. Contains keys key ↔ Contains (keys_in seconds) key in
    subst P (sym (of_other stamp second other)) (λ h. (is.0 h).0, λ h. is.1 (h, of)))
    (cases_eq second.stamp stamp)
