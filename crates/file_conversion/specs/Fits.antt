-- Texts of a format.
use Rattle.std.specs.Prelude.{◌==◌, ◌&&◌, ◌||◌, ℕ, Bool, true, false, if◌then◌else◌, List, [], ◌∷◌}
use Rattle.std.specs.Char.{is_ascii_digit, is_ascii_uppercase}

-- the byte is one for which this byte of a format stands: `A` for a capital letter, `0` for a
-- decimal digit, `N` for either, `?` for any, and every other for itself
abbrev pub is_of : ℕ → ℕ → Bool
is_of class b =
    if class == 65 then is_ascii_uppercase b
    else if class == 48 then is_ascii_digit b
    else if class == 78 then is_ascii_uppercase b || is_ascii_digit b
    else if class == 63 then true
    else b == class

-- the text is of this format, byte by byte
abbrev pub fits : List ℕ → List ℕ → Bool
fits [] [] = true
fits [] (b ∷ text) = false
fits (class ∷ form) [] = false
fits (class ∷ form) (b ∷ text) = is_of class b && fits form text
