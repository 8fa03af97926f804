-- The page parts of a second as numbers: their keys, and the partners among them.
use Rattle.std.proofs.Common.{◌≡◌, ℕ, ◌+◌, ◌*◌, ◌/◌, ◌%◌, ◌^◌, ◌<◌, ◌≤◌, ◌⊎◌, ◌↔◌, Bool, List, [], ◌∷◌, ◌++◌, length, get_or, take, suc, map, inl, inr, refl, sym, ap, subst, ◌∙◌, ⊎_elim, arith}
use Rattle.std.proofs.lemmas.Bool.{cond_both}
use Rattle.std.proofs.lemmas.List.{append-nil, length-append, length-map, map-append, take_more}
use Rattle.std.proofs.lemmas.List.Elements.{Contains-append_cases, Contains-append_left, Contains-append_right, Contains-push, Contains-push_cases}
use Rattle.std.specs.Prelude.{Contains, IsTrue}
use Rattle.std.specs.List.{filter}
use Rattle.nav_eph.specs.declared.sat.System.TheVariants.{Gal}
use Rattle.nav_eph.specs.declared.signal.Signal.{Signal}
use Rattle.inav.specs.declared.half.HalfKind.{HalfKind}
use Rattle.inav.specs.declared.half.HalfKind.TheVariants.{Even, Odd}
use Rattle.inav.specs.Pages.{kind_of}
use Rattle.inav.specs.Received.{IsAbove, IsAscending, word_by}
use Rattle.inav.specs.Keeping.{stamped}
use Rattle.inav.specs.Mirrors.{half_of, place_of, lane_of, number_of, remainder_of, bucket_of, is_right_by, other_kind, first_number, key_at, keys_shown, words_of_numbers, AreWordsIn, IsKey, IsPartnerAt, Rises}
use Rattle.inav.proofs.Membership.{contains_from_In, In-from_contains, contains_cons, filter_in, in_filter, in_map, map_in}
use Rattle.inav.proofs.KeyOrder.{even_from, even_to, odd_from, odd_to}
use Rattle.inav.proofs.Remainders.{remainder-lt}
use Rattle.inav.proofs.Partners.{bucket_parts, filter-fewer, half_of_place, map-map}
use Rattle.inav.proofs.Ascending.{at_place}

-- ---- the key of a number

parts_of : (stamp n : ℕ) → ((key_at stamp n).0 / 2 ^ 24 ≡ stamp * 128 + n / 2 ^ 120) × ((key_at stamp n).0 % 2 ^ 24 ≡ remainder_of (n % 2 ^ 120))
parts_of stamp n =
    let half = n % 2 ^ 120 in
    let place = stamp * 128 + n / 2 ^ 120 in
    bucket_parts (bucket_of place (remainder_of half)) place (remainder_of half) (remainder-lt (kind_of half) half) refl

pub key_place : (stamp n : ℕ) → (key_at stamp n).0 / 2 ^ 24 ≡ stamp * 128 + n / 2 ^ 120
key_place stamp n = (parts_of stamp n).0

pub is_key : (stamp n : ℕ) → stamp < 2 ^ 32 → n < 2 ^ 127 → IsKey (key_at stamp n)
is_key stamp n fits low =
    let rest = remainder-lt (kind_of (n % 2 ^ 120)) (n % 2 ^ 120) in
    record { fits = omega (arith, rest, fits, low); remainder = (parts_of stamp n).1 }

pub stamp_of_key : (stamp n : ℕ) → n < 2 ^ 127 → (half_of (key_at stamp n)).stamp ≡ stamp
stamp_of_key stamp n low = let at = key_place stamp n in omega (arith, at, low)

-- different numbers have different keys
pub same_number : (stamp n m : ℕ) → key_at stamp n ≡ key_at stamp m → n ≡ m
same_number stamp n m same =
    let a = key_place stamp n in
    let b = key_place stamp m in
    let first : (key_at stamp n).0 ≡ (key_at stamp m).0 = ap (λ (k : ℕ × ℕ). k.0) same in
    let places : (key_at stamp n).0 / 2 ^ 24 ≡ (key_at stamp m).0 / 2 ^ 24 = ap (λ p. p / 2 ^ 24) first in
    let lanes : n / 2 ^ 120 ≡ m / 2 ^ 120 = omega (arith, a, b, places) in
    let bits : n % 2 ^ 120 ≡ m % 2 ^ 120 = ap (λ (k : ℕ × ℕ). k.1) same in
    omega (arith, lanes, bits)

-- the page part of a number
pub half_of_number : (stamp number : ℕ) (signal : Signal) (half : ℕ) → number < 64 → half < 2 ^ 120
    → half_of (key_at stamp (number_of number signal half)) ≡ stamped stamp (record { system = Gal; number = number }) signal half
half_of_number stamp number signal half fits low =
    let n = number_of number signal half in
    let lane : n / 2 ^ 120 ≡ lane_of number signal = omega (arith, low) in
    let bits : n % 2 ^ 120 ≡ half = omega (arith, low) in
    let at = key_place stamp n in
    let place : (key_at stamp n).0 / 2 ^ 24 ≡ place_of stamp number signal = omega (arith, at, lane) in
    half_of_place stamp number signal (key_at stamp n) fits place
    ∙ ap (stamped stamp (record { system = Gal; number = number }) signal) bits

-- ---- the keys that are shown

pub shown_few : (stamp : ℕ) (few : List ℕ) (many : List (ℕ × ℕ)) → many ≡ [] → keys_shown stamp few many ≡ map (key_at stamp) few
shown_few stamp few many none = ap (λ keys. map (key_at stamp) few ++ keys) none ∙ append-nil (map (key_at stamp) few)

pub shown_many : (stamp : ℕ) (few : List ℕ) (many : List (ℕ × ℕ)) → few ≡ [] → keys_shown stamp few many ≡ many
shown_many stamp few many none = ap (λ numbers. map (key_at stamp) numbers ++ many) none

mapped : (stamp : ℕ) (few : List ℕ) (n : ℕ) → Contains few n → Contains (map (key_at stamp) few) (key_at stamp n)
mapped stamp few n h = contains_from_In (map (key_at stamp) few) (key_at stamp n) (in_map (key_at stamp) few n (In-from_contains few n h))

-- a key that is shown is that of a number
from_mapped : (stamp : ℕ) (few : List ℕ) (key : ℕ × ℕ) → Contains (map (key_at stamp) few) key → (n : ℕ) × Contains few n × (key_at stamp n ≡ key)
from_mapped stamp few key h =
    let is = map_in (key_at stamp) few key (In-from_contains (map (key_at stamp) few) key h) in
    (is.0, contains_from_In few is.0 is.1, is.2)

there_shown : (stamp : ℕ) (few : List ℕ) (many : List (ℕ × ℕ)) (n : ℕ) → many ≡ []
    → Contains few n ↔ Contains (keys_shown stamp few many) (key_at stamp n)
there_shown stamp few many n none =
    let P : List (ℕ × ℕ) → Type 0 = λ keys. Contains few n ↔ Contains keys (key_at stamp n) in
    subst P (sym (shown_few stamp few many none)) (
      mapped stamp few n,
      λ h. let is = from_mapped stamp few (key_at stamp n) h in
          let Q : ℕ → Type 0 = Contains few in
          subst Q (same_number stamp is.0 n is.2) is.1,
    )

pub none_of_length : (many : List (ℕ × ℕ)) → length many ≡ 0 → many ≡ []
none_of_length [] e = refl
none_of_length (k ∷ ks) e = absurd (omega (arith, e))

-- ---- a page part is added

-- whether it was there, while they are few
pub there_few : (stamp : ℕ) (few : List ℕ) (many : List (ℕ × ℕ)) (n : ℕ) (there : Bool) → many ≡ [] → IsTrue there ↔ Contains few n
    → IsTrue there ↔ Contains (keys_shown stamp few many) (key_at stamp n)
there_few stamp few many n there none is =
    let shown = there_shown stamp few many n none in
    (λ h. shown.0 (is.0 h), λ h. is.1 (shown.1 h))

-- a number was inserted
pub add_few : (stamp : ℕ) (few new : List ℕ) (many : List (ℕ × ℕ)) (n : ℕ) → ((q : ℕ) → Contains new q ↔ (Contains few q ⊎ (n ≡ q)))
    → (key : ℕ × ℕ) → Contains (keys_shown stamp new many) key ↔ (Contains (keys_shown stamp few many) key ⊎ (key_at stamp n ≡ key))
add_few stamp few new many n put key =
    let f = key_at stamp in
    let Q : ℕ × ℕ → Type 0 = Contains (keys_shown stamp few many) in
    let R : ℕ × ℕ → Type 0 = Contains (keys_shown stamp new many) in
    let left : (q : ℕ) → Contains new q → R (f q) = λ q h. Contains-append_left (map f new) many (f q) (mapped stamp new q h) in (
      λ h. ⊎_elim
          (λ (own : Contains (map f new) key).
          let is = from_mapped stamp new key own in
          ⊎_elim
          (λ (was : Contains few is.0). inl (subst Q is.2 (Contains-append_left (map f few) many (f is.0) (mapped stamp few is.0 was))))
          (λ (same : n ≡ is.0). inr (ap f same ∙ is.2))
          ((put is.0).0 is.1))
          (λ (later : Contains many key). inl (Contains-append_right (map f few) many key later))
          (Contains-append_cases (map f new) many key h),
      λ h. ⊎_elim
          (λ (was : Contains (keys_shown stamp few many) key).
          ⊎_elim
          (λ (own : Contains (map f few) key). let is = from_mapped stamp few key own in subst R is.2 (left is.0 ((put is.0).1 (inl is.1))))
          (λ (later : Contains many key). Contains-append_right (map f new) many key later)
          (Contains-append_cases (map f few) many key was))
          (λ (same : f n ≡ key). subst R same (left n ((put n).1 (inr refl))))
          h,
    )

-- a key was inserted into the tree
pub add_many : (stamp : ℕ) (few : List ℕ) (many new : List (ℕ × ℕ)) (k : ℕ × ℕ) (n : ℕ) → few ≡ [] → k ≡ key_at stamp n
    → ((q : ℕ × ℕ) → Contains new q ↔ (Contains many q ⊎ (k ≡ q)))
    → (key : ℕ × ℕ) → Contains (keys_shown stamp few new) key ↔ (Contains (keys_shown stamp few many) key ⊎ (key_at stamp n ≡ key))
add_many stamp few many new k n none is put key =
    let P : List (ℕ × ℕ) → Type 0 = λ keys. Contains keys key ↔ (Contains (keys_shown stamp few many) key ⊎ (key_at stamp n ≡ key)) in
    let Q : List (ℕ × ℕ) → Type 0 = λ keys. Contains new key ↔ (Contains keys key ⊎ (key_at stamp n ≡ key)) in
    let R : ℕ × ℕ → Type 0 = λ one. Contains new key ↔ (Contains many key ⊎ (one ≡ key)) in
    subst P (sym (shown_many stamp few new none)) (subst Q (sym (shown_many stamp few many none)) (subst R is (put key)))

module _ (stamp : ℕ) (few : List ℕ) (many tree : List (ℕ × ℕ)) where
  -- the tree has the keys that were few
  spilled_keys : many ≡ [] → ((q : ℕ × ℕ) → Contains tree q ↔ Contains (map (key_at stamp) few) q)
      → (q : ℕ × ℕ) → Contains tree q ↔ Contains (keys_shown stamp few many) q
  spilled_keys none are q =
      let P : List (ℕ × ℕ) → Type 0 = λ keys. Contains tree q ↔ Contains keys q in
      subst P (sym (shown_few stamp few many none)) (are q)

  pub spilled_there : (k : ℕ × ℕ) (n : ℕ) (there : Bool) → many ≡ [] → k ≡ key_at stamp n
      → ((q : ℕ × ℕ) → Contains tree q ↔ Contains (map (key_at stamp) few) q) → IsTrue there ↔ Contains tree k
      → IsTrue there ↔ Contains (keys_shown stamp few many) (key_at stamp n)
  spilled_there k n there none is are put =
      let P : ℕ × ℕ → Type 0 = λ one. IsTrue there ↔ Contains tree one in
      let own = subst P is put in
      let shown = spilled_keys none are (key_at stamp n) in
      (λ h. shown.0 (own.0 h), λ h. own.1 (shown.1 h))

  pub spilled : (cleared : List ℕ) (new : List (ℕ × ℕ)) (k : ℕ × ℕ) (n : ℕ) → many ≡ [] → cleared ≡ [] → k ≡ key_at stamp n
      → ((q : ℕ × ℕ) → Contains tree q ↔ Contains (map (key_at stamp) few) q) → ((q : ℕ × ℕ) → Contains new q ↔ (Contains tree q ⊎ (k ≡ q)))
      → (key : ℕ × ℕ) → Contains (keys_shown stamp cleared new) key ↔ (Contains (keys_shown stamp few many) key ⊎ (key_at stamp n ≡ key))
  spilled cleared new k n none empty is are put key =
      let P : List (ℕ × ℕ) → Type 0 = λ keys. Contains keys key ↔ (Contains (keys_shown stamp few many) key ⊎ (key_at stamp n ≡ key)) in
      let R : ℕ × ℕ → Type 0 = λ one. Contains new key ↔ (Contains tree key ⊎ (one ≡ key)) in
      let own = subst R is (put key) in
      let shown = spilled_keys none are key in
      subst P (sym (shown_many stamp cleared new empty)) (
        λ h. ⊎_elim (λ (was : Contains tree key). inl (shown.0 was)) (λ (same : key_at stamp n ≡ key). inr same) (own.0 h),
        λ h. own.1 (⊎_elim (λ (was : Contains (keys_shown stamp few many) key). inl (shown.1 was)) (λ (same : key_at stamp n ≡ key). inr same) h),
      )

-- one number more is in the tree
pub tree_more : (stamp : ℕ) (xs : List ℕ) (i : ℕ) (old new : List (ℕ × ℕ)) (k : ℕ × ℕ) → i < length xs → k ≡ key_at stamp (get_or xs i 0)
    → ((q : ℕ × ℕ) → Contains old q ↔ Contains (map (key_at stamp) (take i xs)) q) → ((q : ℕ × ℕ) → Contains new q ↔ (Contains old q ⊎ (k ≡ q)))
    → (key : ℕ × ℕ) → Contains new key ↔ Contains (map (key_at stamp) (take (i + 1) xs)) key
tree_more stamp xs i old new k low is before put key =
    let f = key_at stamp in
    let x = get_or xs i 0 in
    let front = map f (take i xs) in
    let more : map f (take (i + 1) xs) ≡ front ++ f x ∷ [] = ap (map f) (take_more xs i 0 low) ∙ map-append f (take i xs) (x ∷ []) in
    let P : List (ℕ × ℕ) → Type 0 = λ keys. Contains new key ↔ Contains keys key in
    let R : ℕ × ℕ → Type 0 = Contains (front ++ f x ∷ []) in
    subst P (sym more) (
      λ h. ⊎_elim
          (λ (was : Contains old key). Contains-append_left front (f x ∷ []) key ((before key).0 was))
          (λ (same : k ≡ key). subst R (sym is ∙ same) (Contains-push front (f x)))
          ((put key).0 h),
      λ h. (put key).1 (⊎_elim (λ (was : Contains front key). inl ((before key).1 was)) (λ (same : f x ≡ key). inr (is ∙ same)) (Contains-push_cases front (f x) key h)),
    )

pub length_shown : (stamp : ℕ) (few : List ℕ) (many : List (ℕ × ℕ)) → length (keys_shown stamp few many) ≡ length few + length many
length_shown stamp few many = length-append (map (key_at stamp) few) many ∙ ap (λ n. n + length many) (length-map few (key_at stamp))

-- ---- partners

-- the numbers of the other kind of a satellite and signal
range_to : (lane : ℕ) (kind : HalfKind) (q : ℕ) → first_number lane kind ≤ q → q < first_number lane kind + 2 ^ 119
    → (q / 2 ^ 120 ≡ lane) × (kind_of (q % 2 ^ 120) ≡ other_kind kind)
range_to lane Even q least most = (omega (arith, least, most), odd_from (q % 2 ^ 120) (omega (arith, least, most)))
range_to lane Odd q least most = (omega (arith, least, most), even_from (q % 2 ^ 120) (omega (arith, least, most)))

range_from : (lane : ℕ) (kind : HalfKind) (q : ℕ) → q / 2 ^ 120 ≡ lane → kind_of (q % 2 ^ 120) ≡ other_kind kind
    → (first_number lane kind ≤ q) × (q < first_number lane kind + 2 ^ 119)
range_from lane Even q at its = let bits = odd_to (q % 2 ^ 120) its in (omega (arith, at, bits), omega (arith, at, bits))
range_from lane Odd q at its = let bits = even_to (q % 2 ^ 120) its in (omega (arith, at, bits), omega (arith, at, bits))

rises_tail : (x : ℕ) (xs : List ℕ) → Rises (x ∷ xs) → Rises xs
rises_tail x xs up = record { at = λ i j less low. up.at (suc i) (suc j) (omega (arith, less)) (omega (arith, low)) }

head_below : (x : ℕ) (xs : List ℕ) (q : ℕ) → Rises (x ∷ xs) → Contains xs q → x < q
head_below x xs q up h =
    let is = at_place xs q h in
    let within = is.1 in
    let less : x < get_or xs is.0 0 = up.at 0 (suc is.0) (omega arith) (omega (arith, within)) in
    let e = is.2 in
    omega (arith, less, e)

module _ (stamp lane : ℕ) (p : ℕ → Bool) where
  above_numbers : (x : ℕ) (xs : List ℕ) → x / 2 ^ 120 ≡ lane → ((q : ℕ) → Contains xs q → (x < q) × (q / 2 ^ 120 ≡ lane))
      → IsAbove (x % 2 ^ 120) (map half_of (map (key_at stamp) (filter p xs)))
  above_numbers x [] at more = tt
  above_numbers x (y ∷ ys) at more =
      let first = more y ((contains_cons y ys y).1 (inl refl)) in
      let less = first.0 in
      let own = first.1 in
      let rest = above_numbers x ys at (λ q h. more q ((contains_cons y ys q).1 (inr h))) in
      let P : List ℕ → Type 0 = λ zs. IsAbove (x % 2 ^ 120) (map half_of (map (key_at stamp) zs)) in
      cond_both (p y) (y ∷ filter p ys) (filter p ys) P (λ passes. (omega (arith, less, own, at), rest)) (λ fails. rest)

  ascending_numbers : (xs : List ℕ) → Rises xs → ((q : ℕ) → Contains xs q → q / 2 ^ 120 ≡ lane)
      → IsAscending (map half_of (map (key_at stamp) (filter p xs)))
  ascending_numbers [] up at = tt
  ascending_numbers (x ∷ xs) up at =
      let rest = ascending_numbers xs (rises_tail x xs up) (λ q h. at q ((contains_cons x xs q).1 (inr h))) in
      let P : List ℕ → Type 0 = λ zs. IsAscending (map half_of (map (key_at stamp) zs)) in
      let own = above_numbers x xs (at x ((contains_cons x xs x).1 (inl refl)))
      (λ q h. (head_below x xs q up h, at q ((contains_cons x xs q).1 (inr h)))) in
      cond_both (p x) (x ∷ filter p xs) (filter p xs) P (λ passes. (own, rest)) (λ fails. rest)

-- the words of a page part with the numbers of the other kind are those with its partners among the keys
pub words_in_few : (stamp : ℕ) (few those : List ℕ) (many : List (ℕ × ℕ)) (number : ℕ) (signal : Signal) (half first : ℕ) → many ≡ []
    → first ≡ first_number (lane_of number signal) (kind_of half) → Rises those → length those ≤ length few
    → ((q : ℕ) → Contains those q ↔ (Contains few q × (first ≤ q) × (q < first + 2 ^ 119)))
    → AreWordsIn (keys_shown stamp few many) (place_of stamp number signal) half (words_of_numbers (kind_of half) half those)
words_in_few stamp few those many number signal half first none is up fewer range =
    let kind = kind_of half in
    let lane = lane_of number signal in
    let f = key_at stamp in
    let right : ℕ → Bool = λ n. is_right_by kind half (n % 2 ^ 120) in
    let found = filter right those in
    let all = keys_shown stamp few many in
    let shows : (q : ℕ) → Contains those q → (q / 2 ^ 120 ≡ lane) × (kind_of (q % 2 ^ 120) ≡ other_kind kind) =
    λ q h. let its = (range q).0 h in
    let least = its.1 in
    let most = its.2 in
    range_to lane kind q (omega (arith, least, is)) (omega (arith, most, is)) in
    let partner : (key : ℕ × ℕ) → Contains (map f found) key → Contains all key × IsPartnerAt (place_of stamp number signal) half key =
    λ key h.
    let n = from_mapped stamp found key h in
    let kept = filter_in right those n.0 (In-from_contains found n.0 n.1) in
    let there = contains_from_In those n.0 kept.0 in
    let its = shows n.0 there in
    let at = key_place stamp n.0 in
    let own = its.0 in
    let P : ℕ × ℕ → Type 0 = λ k. Contains all k × IsPartnerAt (place_of stamp number signal) half k in
    subst P n.2 (
      Contains-append_left (map f few) many (f n.0) (mapped stamp few n.0 ((range n.0).0 there).0),
      record { place_is = omega (arith, at, own); kind_is = its.1; right = kept.1 },
    ) in
    let stands : (key : ℕ × ℕ) → Contains all key → IsPartnerAt (place_of stamp number signal) half key → Contains (map f found) key =
    λ key h its.
    let Q : List (ℕ × ℕ) → Type 0 = λ keys. Contains keys key in
    let n = from_mapped stamp few key (subst Q (shown_few stamp few many none) h) in
    let P : ℕ × ℕ → Type 0 = IsPartnerAt (place_of stamp number signal) half in
    let its' : IsPartnerAt (place_of stamp number signal) half (f n.0) = subst P (sym n.2) its in
    let at = key_place stamp n.0 in
    let place = its'.place_is in
    let in_range = range_from lane kind n.0 (omega (arith, at, place)) its'.kind_is in
    let least = in_range.0 in
    let most = in_range.1 in
    let there : Contains those n.0 = (range n.0).1 (n.1, omega (arith, least, is), omega (arith, most, is)) in
    let R : ℕ × ℕ → Type 0 = Contains (map f found) in
    subst R n.2 (mapped stamp found n.0 (contains_from_In found n.0 (in_filter right those n.0 (In-from_contains those n.0 there) its'.right))) in
    record {
      partners = map f found;
      each = λ key. (partner key, λ h. stands key h.0 h.1);
      ascending = ascending_numbers stamp lane right those up (λ q h. (shows q h).0);
      words_are = sym (map-map (λ (key : ℕ × ℕ). word_by kind half key.1) f found);
      fewer =
          let count = filter-fewer right those in
          let shown = length_shown stamp few many in
          let own = length-map found f in
          omega (arith, count, shown, own, fewer);
    }
