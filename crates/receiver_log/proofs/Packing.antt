-- Ten words in 38 bytes.
use Rattle.std.proofs.Common.{◌≡◌, ℕ, List, [], ◌∷◌, get_or, refl}
use Rattle.nav_bits.specs.Fields.{Stand}
use Rattle.nav_bits.specs.Packed.{AllFit, AreBytes}
use Rattle.nav_bits.proofs.Surface.{only_packed}
use Rattle.receiver_log.specs.Words.{word_fields, subframe_bytes}

-- the table that is written
abbrev pub table_of : List ℕ → List (ℕ × ℕ)
table_of w =
    (30, get_or w 0 0) ∷ (30, get_or w 1 0) ∷ (30, get_or w 2 0) ∷ (30, get_or w 3 0)
    ∷ (30, get_or w 4 0)
    ∷ (30, get_or w 5 0) ∷ (30, get_or w 6 0) ∷ (30, get_or w 7 0) ∷ (30, get_or w 8 0)
    ∷ (30, get_or w 9 0) ∷ (4, 0) ∷ []

-- bytes that hold the table are those of the words
pub words_packed : (w bytes : List ℕ) → AllFit (word_fields w) → AreBytes 38 bytes
    → Stand bytes 0 0 (table_of w) → bytes ≡ subframe_bytes w
unfolding subframe_bytes
words_packed w bytes fits are s =
    only_packed 38 (word_fields w) bytes fits refl are (
      s.0,
      (
        s.1.0,
        (
          s.1.1.0,
          (
            s.1.1.1.0,
            (
              s.1.1.1.1.0,
              (
                s.1.1.1.1.1.0,
                (
                  s.1.1.1.1.1.1.0,
                  (s.1.1.1.1.1.1.1.0, (s.1.1.1.1.1.1.1.1.0, (s.1.1.1.1.1.1.1.1.1.0, tt))),
                ),
              ),
            ),
          ),
        ),
      ),
    )
    (s.1.1.1.1.1.1.1.1.1.1.0, tt)
