-- Executable counterparts of the code's orders of page parts: in a second by satellite, signal and
-- bits; in a tree by the number of time tag, satellite and signal, the CRC remainder (equal for
-- partners), and the bits.
use Rattle.std.specs.Prelude.{◌≡◌, ℕ, ◌+◌, ◌-◌, ◌*◌, ◌/◌, ◌%◌, ◌^◌, ◌<◌, ◌≤◌, ◌↔◌, ◌++◌, Bool, true, List, length, slice_index, Option, SomeIff, nat_eq, map, if◌then◌else◌, bit_xor, Contains}
use Rattle.std.specs.Ordering.{nat_cmp, ordering_then}
use Rattle.std.specs.List.{filter}
use Rattle.std.specs.declared.cmp.Ordering.{Ordering}
use Rattle.std.specs.declared.ops.Bound.TheVariants.{Included, Excluded}
use Rattle.std.specs.BTreeMap.Range.{range_contains}
use Rattle.nav_eph.specs.declared.sat.System.TheVariants.{Gal}
use Rattle.inav.specs.declared.half.HalfKind.{HalfKind}
use Rattle.inav.specs.declared.half.HalfKind.TheVariants.{Even, Odd}
use Rattle.nav_eph.specs.declared.signal.Signal.{Signal}
use Rattle.nav_eph.specs.declared.signal.Signal.TheVariants.{E1b, E5b}
use Rattle.inav.specs.Pages.{bits_at, has_right_crc, kind_of, page_crc}
use Rattle.inav.specs.Received.{StampedHalf, IsAscending, word_by}

-- the number of a signal in the order of signals
abbrev pub signal_number : Signal → ℕ
signal_number E1b = 0
signal_number E5b = 1

-- the signal of a number
abbrev pub signal_of : ℕ → Signal
signal_of lane = if nat_eq lane 0 then E1b else E5b

-- the number of a Galileo satellite number and signal, in this order
abbrev pub lane_of : ℕ → Signal → ℕ
lane_of number signal = number * 2 + signal_number signal

-- the number of a time tag, Galileo satellite number and signal, in this order
abbrev pub place_of : ℕ → ℕ → Signal → ℕ
place_of stamp number signal = stamp * 128 + number * 2 + signal_number signal

-- the page part with this number and these bits
abbrev pub half_at : ℕ → ℕ → StampedHalf
half_at place bits = record {
  stamp = place / 128;
  sat = record { system = Gal; number = place / 2 % 64 };
  signal = signal_of (place % 2);
  half = bits;
}

-- the CRC is linear: that of a page is the sum of the contributions of its parts. The CRC remainder of an even part is its
-- contribution; that of an odd part is the contribution that its CRC demands of the even part.
abbrev pub remainder_by : HalfKind → ℕ → ℕ
remainder_by Even half = page_crc half 0
remainder_by Odd half = bit_xor (page_crc 0 half) (bits_at half 82 24)

-- the CRC remainder of a page part
abbrev pub remainder_of : ℕ → ℕ
remainder_of half = remainder_by (kind_of half) half

-- the bucket: the number of time tag, satellite and signal, followed by the CRC remainder
abbrev pub bucket_of : ℕ → ℕ → ℕ
bucket_of place remainder = place * 2 ^ 24 + remainder

-- the page part with this key, its bucket and its bits
abbrev pub half_of : ℕ × ℕ → StampedHalf
half_of key = half_at (key.0 / 2 ^ 24) key.1

-- the bucket of a key is below 2^63, as for time tags below 2^32, and ends with the CRC remainder
-- of the bits
pub record IsKey (key : ℕ × ℕ) : Type 0 where
  pub fits : key.0 < 2 ^ 63
  pub remainder : key.0 % 2 ^ 24 ≡ remainder_of key.1

-- each is a key
abbrev pub AreKeys : List (ℕ × ℕ) → Type 0
AreKeys keys = (key : ℕ × ℕ) → Contains keys key → IsKey key

-- ---- page parts of one second as numbers

-- the number of a page part in its second: satellite and signal, followed by the bits
abbrev pub number_of : ℕ → Signal → ℕ → ℕ
number_of number signal bits = lane_of number signal * 2 ^ 120 + bits

-- the key of the page part with this number in the second of a time tag
abbrev pub key_at : ℕ → ℕ → ℕ × ℕ
key_at stamp number = (bucket_of (stamp * 128 + number / 2 ^ 120) (remainder_of (number % 2 ^ 120)), number % 2 ^ 120)

-- the keys of a second: of the page parts that are numbers, and of those in a tree
abbrev pub keys_shown : ℕ → List ℕ → List (ℕ × ℕ) → List (ℕ × ℕ)
keys_shown stamp few many = map (key_at stamp) few ++ many

-- what contracts see of a second: its time tag, and the keys of its page parts
pub record KeysOfSecond : Type 0 where
  pub stamp : ℕ
  pub keys : List (ℕ × ℕ)

-- the numbers ascend strictly
pub record Rises (numbers : List ℕ) : Type 0 where
  pub at : (i j : ℕ) → i < j → j < length numbers → slice_index numbers i < slice_index numbers j

-- ---- partners

-- the time tag of the partners of a page part: none below 0 and none above 2^32 - 1
abbrev pub HasPartnerStamp : HalfKind → ℕ → Option ℕ → Type 0
HasPartnerStamp Even stamp other = SomeIff other (stamp + 1 < 2 ^ 32) (stamp + 1)
HasPartnerStamp Odd stamp other = SomeIff other (1 ≤ stamp) (stamp - 1)

-- the kind of the partners
abbrev pub other_kind : HalfKind → HalfKind
other_kind Even = Odd
other_kind Odd = Even

-- the CRC is right of two page parts, the first of that kind
abbrev pub is_right_by : HalfKind → ℕ → ℕ → Bool
is_right_by Even one other = has_right_crc one other
is_right_by Odd one other = has_right_crc other one

-- the first number of the page parts of the other kind of a satellite and signal; they end 2^119 above
abbrev pub first_number : ℕ → HalfKind → ℕ
first_number lane Even = lane * 2 ^ 120 + 2 ^ 119
first_number lane Odd = lane * 2 ^ 120

-- the words of a page part with those of these numbers with which the CRC is right
abbrev pub words_of_numbers : HalfKind → ℕ → List ℕ → List (List ℕ)
words_of_numbers kind half numbers =
    map (λ number. word_by kind half (number % 2 ^ 120)) (filter (λ number. is_right_by kind half (number % 2 ^ 120)) numbers)

-- the first key of the other kind in a bucket
abbrev pub first_partner : ℕ → HalfKind → ℕ × ℕ
first_partner bucket Even = (bucket, 2 ^ 119)
first_partner bucket Odd = (bucket, 0)

-- the end of the keys of the other kind in a bucket, excluded
abbrev pub end_of_partners : ℕ → HalfKind → ℕ × ℕ
end_of_partners bucket Even = (bucket + 1, 0)
end_of_partners bucket Odd = (bucket, 2 ^ 119)

-- the order of keys: by bucket, then by bits
abbrev pub key_cmp : ℕ × ℕ → ℕ × ℕ → Ordering
key_cmp a b = ordering_then (nat_cmp a.0 b.0) (nat_cmp a.1 b.1)

-- the keys of the other kind in a bucket
unfoldable pub keys_in_bucket : List (ℕ × ℕ) → ℕ → HalfKind → List (ℕ × ℕ)
keys_in_bucket keys bucket kind =
    filter (range_contains key_cmp (Included (first_partner bucket kind)) (Excluded (end_of_partners bucket kind))) keys

-- the words of a page part with the page parts of some keys
abbrev pub words_by : HalfKind → ℕ → List (ℕ × ℕ) → List (List ℕ)
words_by kind half keys = map (λ key. word_by kind half key.1) keys

-- the words of a page part with those in a bucket
abbrev pub words_in_bucket : List (ℕ × ℕ) → ℕ → ℕ → List (List ℕ)
words_in_bucket keys bucket half = words_by (kind_of half) half (keys_in_bucket keys bucket (kind_of half))

-- the key is of a partner of a page part whose partners have that number of time tag, satellite and
-- signal
pub record IsPartnerAt (place half : ℕ) (key : ℕ × ℕ) : Type 0 where
  pub place_is : key.0 / 2 ^ 24 ≡ place
  pub kind_is : kind_of key.1 ≡ other_kind (kind_of half)
  pub right : is_right_by (kind_of half) half key.1 ≡ true

-- the words of a page part with its partners among the keys of a second
pub record AreWordsIn (keys : List (ℕ × ℕ)) (place half : ℕ) (words : List (List ℕ)) : Type 0 where
  pub partners : List (ℕ × ℕ)
  pub each : (key : ℕ × ℕ) → Contains partners key ↔ (Contains keys key × IsPartnerAt place half key)
  pub ascending : IsAscending (map half_of partners)
  pub words_are : words ≡ words_by (kind_of half) half partners
  pub fewer : length partners ≤ length keys
