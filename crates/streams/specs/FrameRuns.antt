-- What a run over a stream of frames reads and writes; `line` gives the output line of a frame.
use Rattle.std.specs.Prelude.{◌≡◌, ◌+◌, ◌-◌, ℕ, Bool, true, false, List, [], ◌++◌, length, take, Option}
use Rattle.std.specs.List.{flat_map}
use Rattle.std.specs.Io.KnownBytes.{Appends}
use Rattle.nav_io.specs.Prefix.{AppendsPrefix}
use Rattle.framing.specs.Frames.{decided, frames}

-- the lines of these frames
abbrev pub text_of : (List ℕ → List ℕ) → List (List ℕ) → List ℕ
text_of line all = flat_map line all

-- a line for each frame of the bytes
abbrev pub output_of : (List ℕ → List ℕ) → List ℕ → List ℕ
output_of line bytes = text_of line (frames bytes)

-- a line for each decided frame: one that no following bytes change
abbrev pub flushed_of : (List ℕ → List ℕ) → List ℕ → List ℕ
flushed_of line bytes = text_of line (decided bytes)

-- the least that was written of the bytes taken, whatever fails: the lines of the frames that all but the last 16,384 bytes
-- decide; one read asks for that many
abbrev pub least_of : (List ℕ → List ℕ) → List ℕ → List ℕ
least_of line bytes = flushed_of line (take (length bytes - 16384) bytes)

-- Frames were found and their lines written, and the bytes not yet used went from `before` to
-- `after`. Whatever bytes follow, the frames of the old bytes are these and then those of the new;
-- so are the decided ones, if more bytes may come.
pub record Goes (line : List ℕ → List ℕ) (more : Bool) (before after : List ℕ) (old new : Option (List ℕ)) (count counted : ℕ) : Type 0 where
  pub given : List (List ℕ)
  pub stream : (following : List ℕ) → (more ≡ false → following ≡ []) → frames (before ++ following) ≡ given ++ frames (after ++ following)
  pub decides : (following : List ℕ) → more ≡ true → decided (before ++ following) ≡ given ++ decided (after ++ following)
  pub text : Appends old new (text_of line given)
  pub counts : counted ≡ count + length given

-- A write failed: whatever bytes follow, a prefix of their lines was written.
pub record Breaks (line : List ℕ → List ℕ) (more : Bool) (before : List ℕ) (old new : Option (List ℕ)) : Type 0 where
  pub text : (following : List ℕ) → (more ≡ false → following ≡ []) → AppendsPrefix old new (output_of line (before ++ following))

-- A line was appended to held bytes, of which some were written and the others kept.
pub record Gathers (old new : Option (List ℕ)) (held kept line : List ℕ) : Type 0 where
  pub out : List ℕ
  pub text : Appends old new out
  pub same : held ++ line ≡ out ++ kept

-- The same as Goes, with the last bytes of the lines held and not yet written.
pub record Holds (line : List ℕ → List ℕ) (more : Bool) (before after : List ℕ) (old new : Option (List ℕ)) (held : List ℕ) (count counted : ℕ) : Type 0 where
  pub given : List (List ℕ)
  pub stream : (following : List ℕ) → (more ≡ false → following ≡ []) → frames (before ++ following) ≡ given ++ frames (after ++ following)
  pub decides : (following : List ℕ) → more ≡ true → decided (before ++ following) ≡ given ++ decided (after ++ following)
  pub out : List ℕ
  pub text : Appends old new out
  pub same : text_of line given ≡ out ++ held
  pub counts : counted ≡ count + length given
