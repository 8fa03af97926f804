-- While there are too few bytes no message is decided.
use Rattle.std.proofs.Common.{ℕ, ◌+◌, ◌<◌, ◌≤◌, true, List, [], ◌∷◌, ◌++◌, length, refl, inl}
use Rattle.std.proofs.Common.{arith, append-nil, append_assoc, length-append}
use Rattle.framing.specs.Messages.{Format, IsFormat}
use Rattle.framing.specs.MessageState.{IsWaiting, TakesNone}
use Rattle.framing.specs.MessageMirrors.{Promises}
use Rattle.framing.proofs.MessageTakes.{waits_for_more}

-- a promise of no more bytes than there are says nothing
pub promises_none : (format : Format) (rest : List ℕ) (count : ℕ) → count ≤ length rest
    → Promises format rest count
promises_none format rest count h = λ following short. absurd (omega arith)

-- more bytes keep the promise
pub promises_more : (format : Format) (rest more : List ℕ) (count : ℕ) → Promises format rest count
    → Promises format (rest ++ more) count
promises_more format rest more count promise = λ following short.
    rw (append_assoc rest more following)
    (promise (more ++ following) (omega
    (arith, length-append rest more, length-append more following)))

-- before the first byte nothing is decided
pub promises_first : (format : Format) → Promises format [] 1
promises_first format = λ following short. nothing following short
  where
    nothing : (following : List ℕ) → length {A = ℕ} [] + length following < 1
        → IsWaiting format ([] ++ following)
    nothing [] short = inl refl
    nothing (x ∷ xs) short = absurd (omega arith)

-- with fewer bytes than promised no message is found
pub promised_none : (format : Format) → IsFormat format → (rest : List ℕ) (count : ℕ)
    → Promises format rest count → length rest < count → TakesNone format true rest rest
promised_none format laws rest count promise short =
    waits_for_more format laws rest (rw append-nil at (promise [] (omega arith)))
