-- Events one after another: their weight, their stamps, and the log of them.
use Rattle.std.proofs.Common.{◌≡◌, ℕ, zero, suc, ◌+◌, ◌≤◌, ◌<◌, List, [], ◌∷◌, ◌++◌, get_or, take, drop, length, sym, ap, subst, ◌∙◌, arith, add-one}
use Rattle.std.proofs.Math.Seq.{take-suc}
use Rattle.std.proofs.lemmas.List.{map-append, take-append-drop}
use Rattle.capture_log.specs.Log.{Noted, noted}
use Rattle.capture_log.specs.declared.event.Event.{Event}
use Rattle.captures.specs.Notes.{AreFrom, IfReceived, weight, weights}

-- one event more
pub take_one : (es : List Event) (i : ℕ) (e : Event) → i < length es → e ≡ get_or es i e → take (i + 1) es ≡ take i es ++ e ∷ []
take_one es i e within is =
    ap (λ (n : ℕ). take n es) (add-one i) ∙ take-suc es i e within ∙ ap (λ (x : Event). take i es ++ x ∷ []) (sym is)

pub weights-append : (es fs : List Event) → weights (es ++ fs) ≡ weights es + weights fs
weights-append [] fs = omega arith
weights-append (e ∷ es) fs = omega (arith, weights-append es fs)

weights_prefix : (es : List Event) (i : ℕ) → weights (take i es) ≤ weights es
weights_prefix [] zero = omega arith
weights_prefix [] (suc i) = omega arith
weights_prefix (e ∷ es) zero = omega arith
weights_prefix (e ∷ es) (suc i) = omega (arith, weights_prefix es i)

-- the weight so far and that of the next event are no more than the whole weight
pub weights_one : (es : List Event) (i : ℕ) (e : Event) → i < length es → e ≡ get_or es i e → weights (take i es) + weight e ≤ weights es
weights_one es i e within is =
    let more = ap weights (take_one es i e within is) in
    omega (arith, more, weights_prefix es (i + 1), weights-append (take i es) (e ∷ []))

pub weights_more : (es : List Event) (i : ℕ) (e : Event) → i < length es → e ≡ get_or es i e → weights (take (i + 1) es) ≡ weights (take i es) + weight e
weights_more es i e within is = omega (arith, ap weights (take_one es i e within is), weights-append (take i es) (e ∷ []))

from_at : (stamp : ℕ) (es : List Event) (i : ℕ) (d : Event) → AreFrom stamp es → i < length es → IfReceived (get_or es i d) (λ part. stamp ≤ part.stamp)
from_at stamp [] i d from within = absurd (omega arith)
from_at stamp (e ∷ es) zero d from within = from.0
from_at stamp (e ∷ es) (suc i) d from within = from_at stamp es i d from.1 (omega arith)

pub from_one : (stamp : ℕ) (es : List Event) (i : ℕ) (e : Event) → i < length es → e ≡ get_or es i e → AreFrom stamp es → IfReceived e (λ part. stamp ≤ part.stamp)
from_one stamp es i e within is from = subst (λ (x : Event). IfReceived x (λ part. stamp ≤ part.stamp)) (sym is) (from_at stamp es i e from within)

pub noted-append : (number : ℕ) (es fs : List Event) → noted number (es ++ fs) ≡ noted number es ++ noted number fs
noted-append number es fs = map-append (λ (e : Event). record { line = number; event = e }) es fs

-- a list of events is those before one, that one, and those after it
pub noted_split : (number : ℕ) (es : List Event) (i : ℕ) (e : Event) → i < length es → e ≡ get_or es i e
    → noted number es ≡ (noted number (take i es) ++ noted number (e ∷ [])) ++ noted number (drop (i + 1) es)
noted_split number es i e within is =
    ap (noted number) (sym (take-append-drop (i + 1) es)) ∙ noted-append number (take (i + 1) es) (drop (i + 1) es)
    ∙ ap (λ (l : List Noted). l ++ noted number (drop (i + 1) es)) (ap (noted number) (take_one es i e within is) ∙ noted-append number (take i es) (e ∷ []))

pub noted_one : (number : ℕ) (es : List Event) (i : ℕ) (e : Event) → i < length es → e ≡ get_or es i e
    → noted number (take (i + 1) es) ≡ noted number (take i es) ++ noted number (e ∷ [])
noted_one number es i e within is = ap (noted number) (take_one es i e within is) ∙ noted-append number (take i es) (e ∷ [])
