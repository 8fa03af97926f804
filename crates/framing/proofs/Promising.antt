-- While few bytes come no frame is decided.
use Rattle.std.proofs.Common.{◌≡◌, ℕ, ◌+◌, ◌<◌, ◌≤◌, nat_lt, nat_eq, true, List, [], ◌∷◌, ◌++◌, length, slice_index, refl, sym, ap, ◌∙◌, inl, inr, arith, append-nil, append_assoc, length-append}
use Rattle.std.proofs.lemmas.Bool.{lt-ltb, ltb-true, and_parts, and_from}
use Rattle.framing.specs.Frames.{announced, is_open}
use Rattle.framing.specs.State.{IsWaiting, TakesNone}
use Rattle.framing.specs.Mirrors.{Promises}
use Rattle.framing.proofs.FormLaws.{open_is_short, none_open}
use Rattle.framing.proofs.FormCases.{announced_by, open_many}
use Rattle.framing.proofs.Takes.{waits_for_more}

-- waiting bytes are fewer than the longest frame
pub waiting_is_short : (rest : List ℕ) → IsWaiting rest → length rest < 1029
waiting_is_short rest w = elim w [ inl e ↦ rw e (omega arith) | inr o ↦ open_is_short rest o ]

-- a count that is reached already promises nothing
pub promises_none : (rest : List ℕ) (count : ℕ) → count ≤ length rest → Promises rest count
promises_none rest count h = λ following short. absurd (omega arith)

-- a promise holds on with more bytes
pub promises_more : (rest more : List ℕ) (count : ℕ) → Promises rest count → Promises (rest ++ more) count
promises_more rest more count promise = λ following short.
    rw (append_assoc rest more following) (promise (more ++ following) (omega (arith, length-append rest more, length-append more following)))

-- without a byte no frame is decided
pub promises_first : Promises [] 1
promises_first = λ following short. nothing following short
  where
    nothing : (following : List ℕ) → length {A = ℕ} [] + length following < 1 → IsWaiting ([] ++ following)
    nothing [] short = inl refl
    nothing (x ∷ xs) short = absurd (omega arith)

open_few_more : (rest following : List ℕ) → is_open rest ≡ true → length rest + length following < 3 → is_open (rest ++ following) ≡ true
unfolding is_open
open_few_more [] following o short = absurd (none_open o)
open_few_more (x ∷ []) [] o short = o
open_few_more (x ∷ []) (y ∷ []) o short = o
open_few_more (x ∷ []) (y ∷ z ∷ zs) o short = absurd (omega arith)
open_few_more (x ∷ y ∷ []) [] o short = o
open_few_more (x ∷ y ∷ []) (z ∷ zs) o short = absurd (omega arith)
open_few_more (x ∷ y ∷ z ∷ zs) following o short = absurd (omega arith)

-- with fewer than three bytes the header is incomplete
pub promises_header : (rest : List ℕ) → IsWaiting rest → 1 ≤ length rest → Promises rest 3
promises_header rest w some = λ following short.
    elim w [ inl e ↦ absurd (omega (arith, ap length e)) | inr o ↦ inr (open_few_more rest following o short) ]

open_many_more : (x y z : ℕ) (zs following : List ℕ) → is_open (x ∷ y ∷ z ∷ zs) ≡ true → length (x ∷ y ∷ z ∷ zs) + length following < announced y z → is_open (x ∷ y ∷ z ∷ (zs ++ following)) ≡ true
unfolding is_open
open_many_more x y z zs following o short =
    let parts = and_parts (nat_eq x 211) (nat_lt (length zs + 3) (announced y z)) o in
    let ends : nat_lt (length (zs ++ following) + 3) (announced y z) ≡ true = lt-ltb _ _ (omega (arith, length-append zs following)) in
    and_from (nat_eq x 211) _ parts.0 ends

-- with fewer bytes than the header announces the frame is incomplete
pub promises_whole : (rest : List ℕ) → IsWaiting rest → 3 ≤ length rest → Promises rest (announced_by rest)
promises_whole [] w many = absurd (omega arith)
promises_whole (x ∷ []) w many = absurd (omega arith)
promises_whole (x ∷ y ∷ []) w many = absurd (omega arith)
promises_whole (x ∷ y ∷ z ∷ zs) w many = λ following short.
    elim w [ inl e ↦ cc | inr o ↦ inr (open_many_more x y z zs following o short) ]

-- waiting bytes are fewer than their header announces
pub waiting_is_shorter : (rest : List ℕ) → IsWaiting rest → 3 ≤ length rest → length rest < announced_by rest
waiting_is_shorter rest w many =
    elim w [
      | inl e ↦ absurd (omega (arith, ap length e))
      | inr o ↦ ltb-true _ _ (and_parts (nat_eq (slice_index rest 0) 211) (nat_lt (length rest) (announced_by rest)) (sym (open_many rest many) ∙ o)).1
    ]

-- with fewer bytes than promised no frame is taken
pub promised_none : (rest : List ℕ) (count : ℕ) → Promises rest count → length rest < count → TakesNone true rest rest
promised_none rest count promise short =
    waits_for_more rest (rw append-nil at (promise [] (omega arith)))

pub ruleset promises = (promises_none, promises_more, promises_first, promises_header, promises_whole, waiting_is_short, waiting_is_shorter)
