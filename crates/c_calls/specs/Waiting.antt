-- The words of a page part that were not given yet.
use Rattle.std.specs.Prelude.{ℕ, List, [], drop, Option, None, Some}
use Rattle.inav.specs.Keeping.{Words}

-- the words after those that were given
abbrev pub words_in : Option Words → ℕ → List (List ℕ)
words_in None given = []
words_in (Some joined) given = drop given joined.words

-- their time tag, of no meaning without words
abbrev pub stamp_in : Option Words → ℕ
stamp_in None = 0
stamp_in (Some joined) = joined.stamp
