-- Bytes that are read and written.
use Rattle.std.proofs.Common.{◌≡◌, ℕ, Bool, true, false, List, ◌++◌, Option, None, Some, Result, Ok, Err, sym, ap, ◌∙◌, append_assoc}
use Rattle.std.specs.Prelude.{MatchResult, OnOk}
use Rattle.std.specs.Result.{is_err}
use Rattle.std.specs.Io.KnownBytes.{Appends, Consumes}

pub consumes_more : (old mid new : Option (List ℕ)) (xs ys : List ℕ) → Consumes old mid xs → Consumes mid new ys → Consumes old new (xs ++ ys)
consumes_more None mid new xs ys h k = tt
consumes_more (Some xs0) None new xs ys h k = absurd h
consumes_more (Some xs0) (Some ys0) None xs ys h k = absurd k
consumes_more (Some xs0) (Some ys0) (Some zs0) xs ys h k = h ∙ ap (λ (s : List ℕ). xs ++ s) k ∙ sym (append_assoc xs ys zs0)

pub appends_more : (old mid new : Option (List ℕ)) (xs ys : List ℕ) → Appends old mid xs → Appends mid new ys → Appends old new (xs ++ ys)
appends_more None mid new xs ys h k = tt
appends_more (Some xs0) None new xs ys h k = absurd h
appends_more (Some xs0) (Some ys0) None xs ys h k = absurd k
appends_more (Some xs0) (Some ys0) (Some zs0) xs ys h k = k ∙ ap (λ (s : List ℕ). s ++ ys) h ∙ append_assoc xs0 xs ys

-- what is so of a write that succeeded
pub written_ok : {E : Type 0} (r : Result (Unit {0}) E) (failed : Bool) (A B : Type 0) → failed ≡ is_err r → failed ≡ false
    → MatchResult r (λ x. A) (λ e. B) → A
written_ok (Ok x) failed A B is none a = a
written_ok (Err e) failed A B is none b = absurd (let no : true ≡ false = sym is ∙ none in cc)

pub stayed_ok : {E : Type 0} (r : Result (Unit {0}) E) (failed : Bool) (A : Type 0) → failed ≡ is_err r → failed ≡ false → OnOk r A → A
stayed_ok (Ok x) failed A is none a = a
stayed_ok (Err e) failed A is none b = absurd (let no : true ≡ false = sym is ∙ none in cc)
