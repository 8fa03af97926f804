-- The partners of a page part among the keys, and the words that it makes with them.
use Rattle.std.proofs.Common.{◌≡◌, ℕ, zero, suc, ◌+◌, ◌-◌, ◌*◌, ◌/◌, ◌%◌, ◌<◌, ◌≤◌, ◌^◌, List, [], ◌∷◌, ◌++◌, Bool, true, length, map, None, Some, inl, inr, refl, sym, ap, subst, ◌∙◌, ⊎_elim, arith}
use Rattle.std.proofs.lemmas.Bool.{cond_both}
use Rattle.std.proofs.lemmas.List.{map-append}
use Rattle.std.proofs.lemmas.List.Kept.{IsStrictlySortedBy-filter}
use Rattle.std.specs.Prelude.{Contains}
use Rattle.std.specs.List.{filter, AllByRecursion}
use Rattle.std.specs.BTreeMap.Range.{range_contains}
use Rattle.std.specs.declared.ops.Bound.TheVariants.{Included, Excluded}
use Rattle.std.specs.List.Sorted.{IsStrictlySortedBy}
use Rattle.std.specs.declared.cmp.Ordering.TheVariants.{Less}
use Rattle.nav_eph.specs.Satellite.{Satellite}
use Rattle.nav_eph.specs.declared.sat.System.TheVariants.{Gal}
use Rattle.inav.specs.declared.half.HalfKind.{HalfKind}
use Rattle.inav.specs.declared.half.HalfKind.TheVariants.{Even, Odd}
use Rattle.nav_eph.specs.declared.signal.Signal.{Signal}
use Rattle.nav_eph.specs.declared.signal.Signal.TheVariants.{E1b, E5b}
use Rattle.inav.specs.Pages.{kind_of}
use Rattle.inav.specs.Received.{StampedHalf, MakeWord, ArePartners, AreWordsWith, IsAbove, IsAscending, word_by, word_with}
use Rattle.inav.specs.Keeping.{stamped}
use Rattle.inav.specs.Mirrors.{signal_number, signal_of, place_of, bucket_of, half_of, remainder_by, remainder_of, is_right_by, other_kind, key_cmp, first_partner, end_of_partners, keys_in_bucket, words_by, words_in_bucket, AreKeys, AreWordsIn, HasPartnerStamp, IsKey, IsPartnerAt}
use Rattle.inav.specs.Kept.{IsSecondOf}
use Rattle.inav.proofs.InavPageSurface.{not_both}
use Rattle.inav.proofs.PageNumbers.{right_to, right_from}
use Rattle.inav.proofs.Remainders.{same_remainder, right_by_remainder, remainder-lt}
use Rattle.inav.proofs.Membership.{In, contains_from_In, In-from_contains, filter_in, in_filter, in_map, map_in}
use Rattle.inav.proofs.KeyOrder.{key_lt, in_range, range_to, range_from}

-- ---- keys and page parts

signal_again : (signal : Signal) → signal_of (signal_number signal) ≡ signal
signal_again E1b = refl
signal_again E5b = refl

pub signal_number-lt : (signal : Signal) → signal_number signal < 2
signal_number-lt E1b = omega arith
signal_number-lt E5b = omega arith

signal_back : (lane : ℕ) → lane < 2 → signal_number (signal_of lane) ≡ lane
signal_back zero h = refl
signal_back (suc zero) h = refl
signal_back (suc (suc n)) h = absurd (omega (arith, h))

-- the page part of a key at a place
pub half_of_place : (stamp number : ℕ) (signal : Signal) (key : ℕ × ℕ) → number < 64 → key.0 / 2 ^ 24 ≡ place_of stamp number signal
    → half_of key ≡ stamped stamp (record { system = Gal; number = number }) signal key.1
half_of_place stamp number signal key fits at =
    let s = signal_number signal in
    let small : s < 2 = signal_number-lt signal in
    let stamp_is : key.0 / 2 ^ 24 / 128 ≡ stamp = omega (arith, at, small, fits) in
    let number_is : key.0 / 2 ^ 24 / 2 % 64 ≡ number = omega (arith, at, small, fits) in
    let lane_is : key.0 / 2 ^ 24 % 2 ≡ s = omega (arith, at, small, fits) in
    let signal_is : signal_of (key.0 / 2 ^ 24 % 2) ≡ signal = ap signal_of lane_is ∙ signal_again signal in
    λ i. record { stamp = stamp_is i; sat = record { system = Gal; number = number_is i }; signal = signal_is i; half = key.1 }

stamp_at_place : (stamp number : ℕ) (signal : Signal) (place : ℕ) → number < 64 → place ≡ place_of stamp number signal → place / 128 ≡ stamp
stamp_at_place stamp number signal place fits at = let small = signal_number-lt signal in omega (arith, at, small, fits)

-- the place of a page part
pub place_back : (key : ℕ × ℕ) → key.0 / 2 ^ 24 ≡ place_of (half_of key).stamp (half_of key).sat.number (half_of key).signal
place_back key =
    let lane : signal_number (signal_of (key.0 / 2 ^ 24 % 2)) ≡ key.0 / 2 ^ 24 % 2 = signal_back (key.0 / 2 ^ 24 % 2) (omega arith) in
    omega (arith, lane)

-- a bucket by its place and its CRC remainder
pub bucket_parts : (bucket place remainder : ℕ) → remainder < 2 ^ 24 → bucket ≡ bucket_of place remainder
    → (bucket / 2 ^ 24 ≡ place) × (bucket % 2 ^ 24 ≡ remainder)
bucket_parts bucket place remainder fits is = (omega arith, omega arith)

whole_bucket : (bucket : ℕ) → bucket ≡ bucket / 2 ^ 24 * 2 ^ 24 + bucket % 2 ^ 24
whole_bucket bucket = omega arith

-- different keys have different page parts
pub same_key : (a b : ℕ × ℕ) → IsKey a → IsKey b → half_of a ≡ half_of b → a ≡ b
same_key a b first second e =
    let place : a.0 / 2 ^ 24 ≡ b.0 / 2 ^ 24 =
    place_back a ∙ ap (λ h. place_of h.stamp h.sat.number h.signal) e ∙ sym (place_back b) in
    let bits : a.1 ≡ b.1 = ap (λ h. h.half) e in
    let remainder : a.0 % 2 ^ 24 ≡ b.0 % 2 ^ 24 = first.remainder ∙ ap remainder_of bits ∙ sym second.remainder in
    let at : a.0 ≡ b.0 = omega (arith, whole_bucket a.0, whole_bucket b.0, place, remainder) in
    λ i. (at i, bits i)

-- ---- partners, one by one

-- when a key is the partner of a page part of that kind and stamp
pub is_partner : (stamp number : ℕ) (signal : Signal) (half other : ℕ) (kind : HalfKind) (key : ℕ × ℕ) → kind_of half ≡ kind → number < 64
    → HasPartnerStamp kind stamp (Some other) → key.0 / 2 ^ 24 ≡ place_of other number signal → kind_of key.1 ≡ other_kind kind → is_right_by kind half key.1 ≡ true
    → ArePartners (stamped stamp (record { system = Gal; number = number }) signal half) (half_of key)
is_partner stamp number signal half other Even key kind_is fits has at its right =
    let taken = stamped stamp (record { system = Gal; number = number }) signal half in
    let P : StampedHalf → Type 0 = ArePartners taken in
    subst P (sym (half_of_place other number signal key fits at))
    (inl (record { is_even = kind_is; is_odd = its; stamp = has.1; sat = refl; signal = refl; crc = right_to half key.1 right }))
is_partner stamp number signal half other Odd key kind_is fits has at its right =
    let taken = stamped stamp (record { system = Gal; number = number }) signal half in
    let P : StampedHalf → Type 0 = ArePartners taken in
    let low : 1 ≤ stamp = has.0 in
    let is : other ≡ stamp - 1 = has.1 in
    subst P (sym (half_of_place other number signal key fits at))
    (inr (record { is_even = its; is_odd = kind_is; stamp = omega (arith, low, is); sat = refl; signal = refl; crc = right_to key.1 half right }))

-- the place of a partner
pub partner_place : (stamp number : ℕ) (signal : Signal) (half other : ℕ) (kind : HalfKind) (key : ℕ × ℕ) → kind_of half ≡ kind
    → HasPartnerStamp kind stamp (Some other) → ArePartners (stamped stamp (record { system = Gal; number = number }) signal half) (half_of key)
    → (key.0 / 2 ^ 24 ≡ place_of other number signal) × (kind_of key.1 ≡ other_kind kind) × (is_right_by kind half key.1 ≡ true)
partner_place stamp number signal half other Even key kind_is has partners =
    let taken = stamped stamp (record { system = Gal; number = number }) signal half in
    ⊎_elim
    (λ (make : MakeWord taken (half_of key)).
    let stamp_is : key.0 / 2 ^ 24 / 128 ≡ other = make.stamp ∙ sym has.1 in
    let number_is : key.0 / 2 ^ 24 / 2 % 64 ≡ number = ap (λ (s : Satellite). s.number) make.sat in (
      place_back key ∙ ap (λ t. place_of t (half_of key).sat.number (half_of key).signal) stamp_is
          ∙ ap (λ n. place_of other n (half_of key).signal) number_is ∙ ap (place_of other number) make.signal,
      make.is_odd,
      right_from half key.1 make.crc,
    ))
    (λ (make : MakeWord (half_of key) taken). absurd (not_both (kind_of half) kind_is make.is_odd))
    partners
partner_place stamp number signal half other Odd key kind_is has partners =
    let taken = stamped stamp (record { system = Gal; number = number }) signal half in
    let is : other ≡ stamp - 1 = has.1 in
    ⊎_elim
    (λ (make : MakeWord taken (half_of key)). absurd (not_both (kind_of half) make.is_even kind_is))
    (λ (make : MakeWord (half_of key) taken).
    let later : stamp ≡ key.0 / 2 ^ 24 / 128 + 1 = make.stamp in
    let stamp_is : key.0 / 2 ^ 24 / 128 ≡ other = omega (arith, later, is) in
    let number_is : key.0 / 2 ^ 24 / 2 % 64 ≡ number = sym (ap (λ (s : Satellite). s.number) make.sat) in (
      place_back key ∙ ap (λ t. place_of t (half_of key).sat.number (half_of key).signal) stamp_is
          ∙ ap (λ n. place_of other n (half_of key).signal) number_is ∙ ap (place_of other number) (sym make.signal),
      make.is_even,
      right_from key.1 half make.crc,
    ))
    partners

-- a page part whose partners would have a stamp below 0 or above 2^32 - 1 has none
pub no_partner : (stamp number : ℕ) (signal : Signal) (half : ℕ) (kind : HalfKind) (key : ℕ × ℕ) → kind_of half ≡ kind
    → HasPartnerStamp kind stamp None → IsKey key
    → ArePartners (stamped stamp (record { system = Gal; number = number }) signal half) (half_of key) → ⊥
no_partner stamp number signal half Even key kind_is none is partners =
    let taken = stamped stamp (record { system = Gal; number = number }) signal half in
    ⊎_elim
    (λ (make : MakeWord taken (half_of key)).
    let at : key.0 / 2 ^ 24 / 128 ≡ stamp + 1 = make.stamp in
    let fits : key.0 < 2 ^ 63 = is.fits in
    none (omega (arith, at, fits)))
    (λ (make : MakeWord (half_of key) taken). not_both (kind_of half) kind_is make.is_odd)
    partners
no_partner stamp number signal half Odd key kind_is none is partners =
    let taken = stamped stamp (record { system = Gal; number = number }) signal half in
    ⊎_elim
    (λ (make : MakeWord taken (half_of key)). not_both (kind_of half) make.is_even kind_is)
    (λ (make : MakeWord (half_of key) taken).
    let at : stamp ≡ key.0 / 2 ^ 24 / 128 + 1 = make.stamp in
    none (omega (arith, at)))
    partners

-- ---- all partners

bits_ascend : (a b : ℕ × ℕ) → a.0 ≡ b.0 → key_cmp a b ≡ Less → a.1 < b.1
bits_ascend a b e h =
    ⊎_elim
    (λ (low : a.0 < b.0). absurd (omega (arith, e, low)))
    (λ (same : (a.0 ≡ b.0) × (a.1 < b.1)). same.1)
    (key_lt a b h)

all_above : (place : ℕ) (first : ℕ × ℕ) (keys : List (ℕ × ℕ)) → first.0 ≡ place → ((key : ℕ × ℕ) → In keys key → key.0 ≡ place)
    → AllByRecursion (λ key. key_cmp first key ≡ Less) keys → IsAbove first.1 (map half_of keys)
all_above place first [] at places h = tt
all_above place first (key ∷ keys) at places h =
    (bits_ascend first key (at ∙ sym (places key (inl refl))) h.0, all_above place first keys at (λ k there. places k (inr there)) h.1)

-- keys at one place ascend by their bits
pub keys_ascend : (place : ℕ) (keys : List (ℕ × ℕ)) → ((key : ℕ × ℕ) → In keys key → key.0 ≡ place) → IsStrictlySortedBy key_cmp keys
    → IsAscending (map half_of keys)
unfolding IsStrictlySortedBy
keys_ascend place [] places h = tt
keys_ascend place (key ∷ keys) places h =
    (all_above place key keys (places key (inl refl)) (λ k there. places k (inr there)) h.0, keys_ascend place keys (λ k there. places k (inr there)) h.1)

pub map-map : {X Y Z : Type 0} (f : Y → Z) (g : X → Y) (xs : List X) → map f (map g xs) ≡ map (λ x. f (g x)) xs
map-map f g [] = refl
map-map f g (x ∷ xs) = ap (λ ys. f (g x) ∷ ys) (map-map f g xs)

in_bucket : (keys : List (ℕ × ℕ)) (bucket : ℕ) (kind : HalfKind) (key : ℕ × ℕ) → In (keys_in_bucket keys bucket kind) key
    → In keys key × (key.0 ≡ bucket) × (kind_of key.1 ≡ other_kind kind)
unfolding keys_in_bucket
in_bucket keys bucket kind key h =
    let there = filter_in (in_range bucket kind) keys key h in
    let where_is = range_to bucket kind key there.1 in
    (there.0, where_is.0, where_is.1)

stands_in_bucket : (keys : List (ℕ × ℕ)) (bucket : ℕ) (kind : HalfKind) (key : ℕ × ℕ) → In keys key → key.0 ≡ bucket
    → kind_of key.1 ≡ other_kind kind → In (keys_in_bucket keys bucket kind) key
unfolding keys_in_bucket
stands_in_bucket keys bucket kind key there at its = in_filter (in_range bucket kind) keys key there (range_from bucket kind key at its)

sorted_in_bucket : (keys : List (ℕ × ℕ)) (bucket : ℕ) (kind : HalfKind) → IsStrictlySortedBy key_cmp keys
    → IsStrictlySortedBy key_cmp (keys_in_bucket keys bucket kind)
unfolding keys_in_bucket
sorted_in_bucket keys bucket kind sorted = IsStrictlySortedBy-filter key_cmp (in_range bucket kind) keys sorted

pub filter-fewer : {X : Type 0} (p : X → Bool) (xs : List X) → length (filter p xs) ≤ length xs
filter-fewer p [] = omega arith
filter-fewer {X} p (x ∷ xs) =
    let P : List X → Type 0 = λ found. length found ≤ suc (length xs) in
    let fewer = filter-fewer p xs in
    cond_both (p x) (x ∷ filter p xs) (filter p xs) P (λ passes. omega (arith, fewer)) (λ fails. omega (arith, fewer))

fewer_in_bucket : (keys : List (ℕ × ℕ)) (bucket : ℕ) (kind : HalfKind) → length (keys_in_bucket keys bucket kind) ≤ length keys
unfolding keys_in_bucket
fewer_in_bucket keys bucket kind = filter-fewer (in_range bucket kind) keys

-- the CRC remainder of a key whose page part is of a kind
remainder_of_kind : (key : ℕ × ℕ) (kind : HalfKind) → IsKey key → kind_of key.1 ≡ kind → key.0 % 2 ^ 24 ≡ remainder_by kind key.1
remainder_of_kind key kind is own = is.remainder ∙ ap (λ k. remainder_by k key.1) own

-- the words in a bucket are those of the page part with its partners among the keys
pub words_in_tree : (keys : List (ℕ × ℕ)) (place half bucket : ℕ) → AreKeys keys → IsStrictlySortedBy key_cmp keys
    → bucket ≡ bucket_of place (remainder_of half) → AreWordsIn keys place half (words_in_bucket keys bucket half)
words_in_tree keys place half bucket are sorted bucket_is =
    let kind = kind_of half in
    let found = keys_in_bucket keys bucket kind in
    let parts = bucket_parts bucket place (remainder_of half) (remainder-lt kind half) bucket_is in
    let partner : (key : ℕ × ℕ) → In found key → Contains keys key × IsPartnerAt place half key =
    λ key h.
    let is = in_bucket keys bucket kind key h in
    let there : Contains keys key = contains_from_In keys key is.0 in
    let own = remainder_of_kind key (other_kind kind) (are key there) is.2 in
    let same : remainder_by kind half ≡ remainder_by (other_kind kind) key.1 = sym parts.1 ∙ sym (ap (λ n. n % 2 ^ 24) is.1) ∙ own in
    (there, record { place_is = ap (λ n. n / 2 ^ 24) is.1 ∙ parts.0; kind_is = is.2; right = right_by_remainder kind half key.1 same }) in
    let stands : (key : ℕ × ℕ) → Contains keys key → IsPartnerAt place half key → In found key =
    λ key there partner.
    let own = remainder_of_kind key (other_kind kind) (are key there) partner.kind_is in
    let same : remainder_by kind half ≡ remainder_by (other_kind kind) key.1 = same_remainder kind half key.1 partner.right in
    let rest : key.0 % 2 ^ 24 ≡ bucket % 2 ^ 24 = own ∙ sym same ∙ sym parts.1 in
    let prefix : key.0 / 2 ^ 24 ≡ bucket / 2 ^ 24 = partner.place_is ∙ sym parts.0 in
    stands_in_bucket keys bucket kind key (In-from_contains keys key there)
    (omega (arith, whole_bucket key.0, whole_bucket bucket, rest, prefix)) partner.kind_is in
    record {
      partners = found;
      each = λ key. (
        λ h. partner key (In-from_contains found key h),
        λ h. contains_from_In found key (stands key h.0 h.1),
      );
      ascending = keys_ascend bucket found (λ key h. (in_bucket keys bucket kind key h).1) (sorted_in_bucket keys bucket kind sorted);
      words_are = refl;
      fewer = fewer_in_bucket keys bucket kind;
    }

-- the words with the partners in their second are those with the partners among all
pub words_of_second : (all second : List (ℕ × ℕ)) (stamp number : ℕ) (signal : Signal) (half other : ℕ) (words : List (List ℕ))
    → IsSecondOf all other second → number < 64 → HasPartnerStamp (kind_of half) stamp (Some other)
    → AreWordsIn second (place_of other number signal) half words
    → AreWordsWith (Contains (map half_of all)) (stamped stamp (record { system = Gal; number = number }) signal half) words
words_of_second all second stamp number signal half other words those fits has are =
    let kind = kind_of half in
    let taken = stamped stamp (record { system = Gal; number = number }) signal half in
    let partner : (key : ℕ × ℕ) → Contains are.partners key → In all key × ArePartners taken (half_of key) =
    λ key h.
    let is = (are.each key).0 h in
    let at = is.1 in (
      In-from_contains all key ((those.0 key).0 is.0).0,
      is_partner stamp number signal half other kind key refl fits has at.place_is at.kind_is at.right,
    ) in
    let stands : (key : ℕ × ℕ) → In all key → ArePartners taken (half_of key) → Contains are.partners key =
    λ key there partners.
    let is = partner_place stamp number signal half other kind key refl has partners in
    let its : (half_of key).stamp ≡ other = stamp_at_place other number signal (key.0 / 2 ^ 24) fits is.0 in
    (are.each key).1 ((those.0 key).1 (contains_from_In all key there, its), record { place_is = is.0; kind_is = is.1; right = is.2 }) in
    record {
      partners = map half_of are.partners;
      each = λ one. (
        λ h. let key = map_in half_of are.partners one (In-from_contains (map half_of are.partners) one h) in
            let is = partner key.0 (contains_from_In are.partners key.0 key.1) in
            let P : StampedHalf → Type 0 = λ h. Contains (map half_of all) h × ArePartners taken h in
            subst P key.2 (contains_from_In (map half_of all) (half_of key.0) (in_map half_of all key.0 is.0), is.1),
        λ h. let key = map_in half_of all one (In-from_contains (map half_of all) one h.0) in
            let P : StampedHalf → Type 0 = ArePartners taken in
            let Q : StampedHalf → Type 0 = Contains (map half_of are.partners) in
            subst Q key.2 (contains_from_In (map half_of are.partners) (half_of key.0)
            (in_map half_of are.partners key.0
            (In-from_contains are.partners key.0 (stands key.0 key.1 (subst P (sym key.2) h.1))))),
      );
      ascending = are.ascending;
      words_are = are.words_are ∙ sym (map-map (word_with taken) half_of are.partners);
    }

-- no words, where no key is a partner
no_words : (keys : List (ℕ × ℕ)) (taken : StampedHalf) → ((key : ℕ × ℕ) → Contains keys key → ArePartners taken (half_of key) → ⊥)
    → AreWordsWith (Contains (map half_of keys)) taken []
no_words keys taken none = record {
  partners = [];
  each = λ one. (
    λ h. absurd (In-from_contains [] one h),
    λ h. let key = map_in half_of keys one (In-from_contains (map half_of keys) one h.0) in
        let P : StampedHalf → Type 0 = ArePartners taken in
        absurd (none key.0 (contains_from_In keys key.0 key.1) (subst P (sym key.2) h.1)),
  );
  ascending = tt;
  words_are = refl;
}

-- for instance where no second has their stamp
pub no_words_at_ends : (keys : List (ℕ × ℕ)) (stamp number : ℕ) (signal : Signal) (half : ℕ) → AreKeys keys
    → HasPartnerStamp (kind_of half) stamp None
    → AreWordsWith (Contains (map half_of keys)) (stamped stamp (record { system = Gal; number = number }) signal half) []
no_words_at_ends keys stamp number signal half are none =
    no_words keys (stamped stamp (record { system = Gal; number = number }) signal half)
    (λ key there. no_partner stamp number signal half (kind_of half) key refl none (are key there))

-- or where that second has no keys
pub no_words_of_none : (keys : List (ℕ × ℕ)) (stamp number : ℕ) (signal : Signal) (half other : ℕ) → number < 64
    → HasPartnerStamp (kind_of half) stamp (Some other) → IsSecondOf keys other []
    → AreWordsWith (Contains (map half_of keys)) (stamped stamp (record { system = Gal; number = number }) signal half) []
no_words_of_none keys stamp number signal half other fits has those =
    no_words keys (stamped stamp (record { system = Gal; number = number }) signal half)
    (λ key there partners.
    let is = partner_place stamp number signal half other (kind_of half) key refl has partners in
    In-from_contains [] key ((those.0 key).1 (there, stamp_at_place other number signal (key.0 / 2 ^ 24) fits is.0)))

-- ---- words, as the code finds them in sequence

pub found_more : {A : Type 0} (shows : A → ℕ × ℕ) (kind : HalfKind) (half : ℕ) (ys : List A) (y : A) (words : List (List ℕ)) (w : List ℕ)
    → words ≡ words_by kind half (map shows ys) → w ≡ word_by kind half (shows y).1
    → words ++ w ∷ [] ≡ words_by kind half (map shows (ys ++ y ∷ []))
found_more shows kind half ys y words w so is =
    ap (λ ws. ws ++ w ∷ []) so
    ∙ ap (λ v. words_by kind half (map shows ys) ++ v ∷ []) is
    ∙ sym (ap (words_by kind half) (map-append shows ys (y ∷ []))
    ∙ map-append (λ key. word_by kind half key.1) (map shows ys) (shows y ∷ []))

-- the range that the code searches
pub range_is : (keys : List (ℕ × ℕ)) (bucket : ℕ) (kind : HalfKind) (start end : ℕ × ℕ) → start ≡ first_partner bucket kind → end ≡ end_of_partners bucket kind
    → filter (range_contains key_cmp (Included start) (Excluded end)) keys ≡ keys_in_bucket keys bucket kind
unfolding keys_in_bucket
range_is keys bucket kind start end first last =
    ap (λ s. filter (range_contains key_cmp (Included s) (Excluded end)) keys) first
    ∙ ap (λ e. filter (range_contains key_cmp (Included (first_partner bucket kind)) (Excluded e)) keys) last
