-- What a call that writes a text has done.
use Rattle.std.specs.Prelude.{ℕ, List, Option, Result, MatchResult}
use Rattle.std.specs.Io.KnownBytes.{Appends}
use Rattle.nav_io.specs.Causes.{HasCause}
use Rattle.nav_io.specs.Prefix.{AppendsPrefix}

-- success appended the text, failure a prefix of it; the error count rises only on failure
pub record Writes {T E : Type 0} (written written_new : Option (List ℕ)) (faults faults_new : ℕ) (result : Result T E) (text : List ℕ) : Type 0 where
  pub bytes : MatchResult result (λ _. Appends written written_new text) (λ _. AppendsPrefix written written_new text)
  pub cause : HasCause faults faults_new result
