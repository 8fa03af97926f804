-- Transmission times as numbers.
use Rattle.std.specs.Prelude.{ℕ}
use Rattle.nav_eph.specs.declared.tag.SentTag.{SentTag}
use Rattle.nav_eph.specs.declared.tag.SentTag.TheVariants.{Sent, Toe}

-- the time of week of a tag
abbrev pub second_of : SentTag → ℕ
second_of (Sent wn second) = second
second_of (Toe wn second) = second
