-- Words received: of an even part and the odd part one second later, of the same satellite and signal.
use Rattle.std.specs.Prelude.{◌≡◌, ℕ, ◌+◌, ◌<◌, ◌==◌, ◌⊎◌, ◌↔◌, ◌&&◌, ◌||◌, nat_lt, Bool, true, false, if◌then◌else◌, List, [], ◌∷◌, map, Contains}
use Rattle.nav_eph.specs.Satellite.{Satellite}
use Rattle.nav_eph.specs.declared.sat.System.{System}
use Rattle.nav_eph.specs.declared.sat.System.TheVariants.{Gps, Gal}
use Rattle.inav.specs.declared.half.HalfKind.{HalfKind}
use Rattle.inav.specs.declared.half.HalfKind.TheVariants.{Even, Odd}
use Rattle.nav_eph.specs.declared.signal.Signal.{Signal}
use Rattle.nav_eph.specs.declared.signal.Signal.TheVariants.{E1b, E5b}
use Rattle.inav.specs.Pages.{kind_of, HasRightCrc, has_right_crc, word_of}

-- a page part as received: time tag in seconds of the logger's clock, satellite, signal, and used
-- bits
pub record StampedHalf : Type 0 where
  pub stamp : ℕ
  pub sat : Satellite
  pub signal : Signal
  pub half : ℕ

-- two page parts make a word: even and odd, one second apart, same satellite and signal, right CRC
pub record MakeWord (even odd : StampedHalf) : Type 0 where
  pub is_even : kind_of even.half ≡ Even
  pub is_odd : kind_of odd.half ≡ Odd
  pub stamp : odd.stamp ≡ even.stamp + 1
  pub sat : odd.sat ≡ even.sat
  pub signal : odd.signal ≡ even.signal
  pub crc : HasRightCrc even.half odd.half

-- a word received among some page parts, by its two parts; its time tag is that of the odd part
pub record IsReceived (among : StampedHalf → Type 0) (even odd : StampedHalf) : Type 0 where
  pub even_among : among even
  pub odd_among : among odd
  pub make : MakeWord even odd

-- one is the partner of the other, whichever is even
abbrev pub ArePartners : StampedHalf → StampedHalf → Type 0
ArePartners one other = MakeWord one other ⊎ MakeWord other one

-- the word of two partners, of which the first has that kind
abbrev pub word_by : HalfKind → ℕ → ℕ → List ℕ
word_by Even one other = word_of one other
word_by Odd one other = word_of other one

-- the word of two partners, whichever is even
abbrev pub word_with : StampedHalf → StampedHalf → List ℕ
word_with one other = word_by (kind_of one.half) one.half other.half

-- the time tag of a word with a part of that kind and time tag: that of the odd part
abbrev pub stamp_by : HalfKind → ℕ → ℕ
stamp_by Even stamp = stamp + 1
stamp_by Odd stamp = stamp

-- the bits of each part of the list are above these
abbrev pub IsAbove : ℕ → List StampedHalf → Type 0
IsAbove bits [] = Unit {0}
IsAbove bits (x ∷ xs) = (bits < x.half) × IsAbove bits xs

-- the bits ascend strictly
abbrev pub IsAscending : List StampedHalf → Type 0
IsAscending [] = Unit {0}
IsAscending (x ∷ xs) = IsAbove x.half xs × IsAscending xs

-- the words that a page part makes with others: one for each of its partners, ascending by the partners' bits
pub record AreWordsWith (among : StampedHalf → Type 0) (taken : StampedHalf) (words : List (List ℕ)) : Type 0 where
  pub partners : List StampedHalf
  pub each : (other : StampedHalf) → Contains partners other ↔ (among other × ArePartners taken other)
  pub ascending : IsAscending partners
  pub words_are : words ≡ map (word_with taken) partners

-- a word received of this page part and one of the others
abbrev pub IsReceivedWith : (StampedHalf → Type 0) → StampedHalf → StampedHalf → StampedHalf → Type 0
IsReceivedWith among taken even odd = MakeWord even odd × (((taken ≡ even) × among odd) ⊎ (among even × (taken ≡ odd)))

-- ---- the same as functions

-- both systems are the same
abbrev pub same_system : System → System → Bool
same_system Gps Gps = true
same_system Gps Gal = false
same_system Gal Gps = false
same_system Gal Gal = true

-- both signals are the same
abbrev pub same_signal : Signal → Signal → Bool
same_signal E1b E1b = true
same_signal E1b E5b = false
same_signal E5b E1b = false
same_signal E5b E5b = true

-- both page parts are of the same satellite and signal
abbrev pub same_sender : StampedHalf → StampedHalf → Bool
same_sender a b = same_system a.sat.system b.sat.system && (a.sat.number == b.sat.number && same_signal a.signal b.signal)

-- both page parts are the same
unfoldable pub same_half : StampedHalf → StampedHalf → Bool
same_half a b = a.stamp == b.stamp && (a.half == b.half && same_sender a b)

-- the page part is in the list
unfoldable pub has_half : List StampedHalf → StampedHalf → Bool
has_half [] half = false
has_half (x ∷ xs) half = same_half x half || has_half xs half

-- the kind is even
abbrev pub is_even : HalfKind → Bool
is_even Even = true
is_even Odd = false

-- the page parts make a word, the first as the even part
unfoldable pub makes_word : StampedHalf → StampedHalf → Bool
makes_word even odd =
    (is_even (kind_of even.half) && (if is_even (kind_of odd.half) then false else true))
    && (odd.stamp == even.stamp + 1 && (same_sender odd even && has_right_crc even.half odd.half))

-- one is the partner of the other
unfoldable pub are_partners : StampedHalf → StampedHalf → Bool
are_partners one other = makes_word one other || makes_word other one

-- inserts a page part into an ascending list, unless one with its bits is there
unfoldable pub put_half : StampedHalf → List StampedHalf → List StampedHalf
put_half half [] = half ∷ []
put_half half (x ∷ xs) =
    if nat_lt half.half x.half then half ∷ x ∷ xs
    else if nat_lt x.half half.half then x ∷ put_half half xs
    else x ∷ xs

-- the partners of a page part in a list, ascending by their bits
unfoldable pub partners_of : List StampedHalf → StampedHalf → List StampedHalf
partners_of [] taken = []
partners_of (x ∷ xs) taken = if are_partners taken x then put_half x (partners_of xs taken) else partners_of xs taken

-- the words of a page part with its partners in a list
unfoldable pub words_of : List StampedHalf → StampedHalf → List (List ℕ)
words_of halves taken = map (word_with taken) (partners_of halves taken)
