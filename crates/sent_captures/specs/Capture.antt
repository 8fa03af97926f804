-- The generated capture: the lines of an hour in reversed blocks, then the first ones again.
use Rattle.std.specs.Prelude.{◌≡◌, ℕ, zero, suc, ◌+◌, ◌*◌, ◌/◌, List, [], ◌∷◌, ◌++◌, length, take, drop, reverse, codes}
use Rattle.sent_captures.specs.declared.sending.Sending.{Sending}
use Rattle.sent_captures.specs.Lines.{IsLine, sent_before}

-- the first k blocks of 16, each reversed; the last block of the list may be shorter
unfoldable pub reversed_blocks : List Sending → ℕ → List Sending
reversed_blocks xs zero = []
reversed_blocks xs (suc k) = reversed_blocks xs k ++ reverse (take 16 (drop (16 * k) xs))

-- the complete list, its blocks reversed
unfoldable pub reversed : List Sending → List Sending
reversed xs = reversed_blocks xs ((length xs + 15) / 16)

-- the transmissions of the lines: those of an hour with their blocks reversed, then those before
-- time tag 30 in order
unfoldable pub lines_of : ℕ → List Sending
lines_of n = reversed (sent_before n 3600) ++ sent_before n 30

-- the text is the concatenated lines of the transmissions
abbrev pub AreLines : ℕ → ℕ → ℕ → List Sending → List ℕ → Type 0
AreLines seed n r [] text = text ≡ []
AreLines seed n r (x ∷ xs) text =
    (line : List ℕ) × (rest : List ℕ) × (text ≡ line ++ rest) × IsLine seed n r x line × AreLines seed n r xs rest

-- the capture of n satellites of each system in the week r, whose values are random, from the seed
pub record IsCapture (seed n r : ℕ) (text : List ℕ) : Type 0 where
  pub rest : List ℕ
  pub lines : AreLines seed n r (lines_of n) rest
  pub text_is : text ≡ codes "NAVCAP 1" ++ 10 ∷ rest
