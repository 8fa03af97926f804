-- The errors of a word, and the first of them.
use Rattle.std.specs.Prelude.{◌≡◌, ℕ, ◌<◌, ◌≤◌}
use Rattle.nav_eph.specs.Satellite.{Satellite}
use Rattle.inav.specs.declared.word.Word.{Word}
use Rattle.inav.specs.declared.word.Word.TheVariants.{One, Three, Four, Five, Other}
use Rattle.inav.specs.declared.word_fault.WordFault.{WordFault}
use Rattle.inav.specs.declared.word_fault.WordFault.TheVariants.{OtherWord, WrongSat, BadTime, SpareSisa}

-- a word of a satellite has an error: its type is not 1 to 5, its SVID is another satellite's, its
-- toe, toc or TOW is past the end of the week, its SISA index is neither 0 to 125 nor 255
abbrev pub HasFault : Satellite → Word → WordFault → Type 0
HasFault sat (Other type) (OtherWord number) = type ≡ number
HasFault sat (Four w) WrongSat = w.svid ≡ sat.number → ⊥
HasFault sat (One w) BadTime = 10080 ≤ w.toe
HasFault sat (Four w) BadTime = 10080 ≤ w.toc
HasFault sat (Five w) BadTime = 604800 ≤ w.tow
HasFault sat (Three w) SpareSisa = (126 ≤ w.sisa) × (w.sisa ≡ 255 → ⊥)
HasFault _ _ _ = ⊥

-- the order in which errors are reported
abbrev pub place_of : WordFault → ℕ
place_of (OtherWord number) = 1
place_of WrongSat = 2
place_of BadTime = 3
place_of SpareSisa = 4

-- the word has the error, and none before it in that order
pub record IsFirstFault (sat : Satellite) (word : Word) (fault : WordFault) : Type 0 where
  pub has : HasFault sat word fault
  pub first : (other : WordFault) → place_of other < place_of fault → HasFault sat word other → ⊥
