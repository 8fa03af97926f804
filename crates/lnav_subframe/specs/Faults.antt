-- The errors of a subframe, and the first of them.
use Rattle.std.specs.Prelude.{◌≡◌, ℕ, ◌<◌, ◌≤◌, ◌⊎◌, List}
use Rattle.lnav_subframe.specs.declared.fault.LnavFault.{LnavFault}
use Rattle.lnav_subframe.specs.declared.fault.LnavFault.TheVariants.{Preamble, Parity, BadTow}
use Rattle.lnav_subframe.specs.declared.fault.LnavFault.TheVariants.{Unused, BadTime}
use Rattle.lnav_subframe.specs.declared.head.Head.{Head}
use Rattle.lnav_subframe.specs.Reading.{page_of}
use Rattle.lnav_subframe.specs.Subframes.{head_at, subframe1_at, subframe2_at}
use Rattle.lnav_subframe.specs.Words.{HasPreamble, IsFirstBad, data_bits_of, upright}

-- the data bits of the subframe in upright polarity
abbrev pub source_bits : List ℕ → List ℕ
source_bits bits = data_bits_of (upright bits)

-- TOW count, subframe ID and page of the subframe
abbrev pub head_of : List ℕ → Head
head_of bits = head_at (source_bits bits) 0

-- a subframe with this head is used: 1, 2, 3 or page 18 of subframe 4, whose SV ID is 56
abbrev pub IsUsed : Head → Type 0
IsUsed h = (h.number ≡ 1) ⊎ (h.number ≡ 2) ⊎ (h.number ≡ 3) ⊎ ((h.number ≡ 4) × (h.page ≡ 56))

-- A subframe has an error: it has no preamble; the word is the first whose parity is wrong; its TOW
-- count is past the end of the week; it is not used; toc in subframe 1, or toe in subframe 2, is
-- past the end of the week.
abbrev pub HasFault : List ℕ → LnavFault → Type 0
HasFault bits Preamble = HasPreamble bits → ⊥
HasFault bits (Parity word) = IsFirstBad (upright bits) word
HasFault bits BadTow = 100800 ≤ (head_of bits).tow_count
HasFault bits (Unused number page) =
    (IsUsed (head_of bits) → ⊥) × (number ≡ (head_of bits).number) × (page ≡ page_of (head_of bits))
HasFault bits BadTime =
    (((head_of bits).number ≡ 1) × (37800 ≤ (subframe1_at (source_bits bits) 0).toc))
    ⊎ (((head_of bits).number ≡ 2) × (37800 ≤ (subframe2_at (source_bits bits) 0).toe))

-- the order in which errors are reported
abbrev pub order_of : LnavFault → ℕ
order_of Preamble = 1
order_of (Parity word) = 2
order_of BadTow = 3
order_of (Unused number page) = 4
order_of BadTime = 5

-- the subframe has the error, and none before it in that order
pub record IsFirstFault (bits : List ℕ) (fault : LnavFault) : Type 0 where
  pub has : HasFault bits fault
  pub first : (other : LnavFault) → order_of other < order_of fault → HasFault bits other → ⊥
