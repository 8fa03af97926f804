-- The contents of the code's tables, which only private functions cite.
use Rattle.std.specs.Prelude.{◌≡◌, ℕ, ◌+◌, ◌-◌, ◌*◌, ◌/◌, ◌%◌, ◌<◌, ◌≤◌, min, List, ◌++◌, length}
use Rattle.std.specs.List.{HoldsAt}
use Rattle.nav_eph.specs.declared.ion.GalIon.{GalIon}
use Rattle.sent_captures.specs.declared.values.GalValues.{GalValues}
use Rattle.sent_captures.specs.declared.pages.Page.{Page}
use Rattle.sent_captures.specs.declared.senders.Senders.{Senders}
use Rattle.sent_captures.specs.declared.sending.Sending.{Sending}
use Rattle.sent_captures.specs.declared.sending.Sending.TheVariants.{Subframe, Half}
use Rattle.sent_captures.specs.Values.{gps_of, gal_of, gps_ion_of, gal_ion_of}
use Rattle.sent_captures.specs.Lines.{ArePage}
use Rattle.sent_captures.specs.Capture.{AreLines}

-- A satellite has 124 pages that are not empty: four of word types 1 to 4, and one of word type 5 in each 30 s. The table
-- has them by satellite; this is the page at an index.
abbrev pub IsPageIn : GalValues → GalIon → ℕ → ℕ → Page → Type 0
IsPageIn v ion r q page =
    ArePage v ion (q / 124 + 1) ((r - 1024) % 4096) (30 * (q % 124 - 4) + 8) (min (q % 124) 4) page.even page.odd

-- the page is that of a word with only 0 bits
abbrev pub IsEmptyPage : Page → Type 0
IsEmptyPage page =
    (v : GalValues) (ion : GalIon) (number wn second m : ℕ) → 5 ≤ m → ArePage v ion number wn second m page.even page.odd

-- the tables are those of the seed, the number of satellites and the week
pub record AreTables (s : Senders) : Type 0 where
  pub gps_count : length s.gps.items ≡ s.sats
  pub gps : (i : ℕ) → i < s.sats → HoldsAt (λ v. v ≡ gps_of s.seed (i + 1)) s.gps.items i
  pub ion : s.ion ≡ gps_ion_of s.seed s.sats
  pub pages_count : length s.pages.items ≡ 124 * s.sats
  pub pages : (q : ℕ) → q < 124 * s.sats → HoldsAt (IsPageIn (gal_of s.seed s.sats (q / 124 + 1)) (gal_ion_of s.seed s.sats) s.week q) s.pages.items q
  pub empty : IsEmptyPage s.empty

-- the transmission is within the hour, by one of the satellites 1 to n
abbrev pub IsOf : ℕ → Sending → Type 0
IsOf n (Subframe stamp number) = (stamp < 3600) × (1 ≤ number) × (number ≤ n)
IsOf n (Half stamp number signal) = (stamp < 3600) × (1 ≤ number) × (number ≤ n)

-- the text grew by these lines
pub record GrowsByLines (seed n r : ℕ) (xs : List Sending) (old new : List ℕ) : Type 0 where
  pub rest : List ℕ
  pub lines : AreLines seed n r xs rest
  pub text_is : new ≡ old ++ rest
