-- Texts that are written piece by piece.
use Rattle.std.proofs.Common.{◌≡◌, ◌≤◌, ℕ, List, [], ◌∷◌, ◌++◌, refl, sym, ap, subst, ◌∙◌, append_assoc, append-nil, arith}
use Rattle.std.specs.Prelude.{Option, Result, Ok, Err, MatchResult}
use Rattle.std.specs.Io.KnownBytes.{Appends}
use Rattle.std.proofs.KnownBytes.{Appends-nil, Appends-trans}
use Rattle.nav_io.specs.Causes.{HasCause, Rose}
use Rattle.nav_io.specs.Writes.{Writes}
use Rattle.nav_io.specs.Prefix.{AppendsPrefix}
use Rattle.one_run.proofs.Surface.{prefix_behind}

-- a part of a text was written, and this is left
pub record WroteSome (all left : List ℕ) (written written_new : Option (List ℕ)) : Type 0 where
  pub done : List ℕ
  pub grew : Appends written written_new done
  pub is : all ≡ done ++ left

pub wrote_none : (all : List ℕ) (w : Option (List ℕ)) → WroteSome all all w w
wrote_none all w = record { done = []; grew = Appends-nil w; is = refl }

pub wrote_more : (all left piece rest : List ℕ) (w w1 w2 : Option (List ℕ)) → left ≡ piece ++ rest → WroteSome all left w w1 → Appends w1 w2 piece → WroteSome all rest w w2
wrote_more all left piece rest w w1 w2 e h more = record {
  done = h.done ++ piece;
  grew = Appends-trans w w1 w2 h.done piece h.grew more;
  is = h.is ∙ ap (λ (l : List ℕ). h.done ++ l) e ∙ sym (append_assoc h.done piece rest);
}

pub wrote_all : (all left : List ℕ) (w w1 : Option (List ℕ)) → left ≡ [] → WroteSome all left w w1 → Appends w w1 all
wrote_all all left w w1 e h = subst (Appends w w1) (sym (h.is ∙ ap (λ (l : List ℕ). h.done ++ l) e ∙ append-nil h.done)) h.grew

pub wrote_prefix : (all left piece rest : List ℕ) (w w1 w2 : Option (List ℕ)) → left ≡ piece ++ rest → WroteSome all left w w1 → AppendsPrefix w1 w2 piece → AppendsPrefix w w2 all
wrote_prefix all left piece rest w w1 w2 e h (prefix, (more, is), grew) =
    subst (AppendsPrefix w w2) (sym (h.is ∙ ap (λ (l : List ℕ). h.done ++ l) e))
    (prefix_behind w w1 w2 h.done (piece ++ rest) h.grew
    (prefix, (more ++ rest, ap (λ (l : List ℕ). l ++ rest) is ∙ append_assoc prefix more rest), grew))

-- a write that failed after others that did not
pub cause_behind : {T E : Type 0} (before now after : ℕ) (r : Result T E) → now ≡ before → HasCause now after r → HasCause before after r
cause_behind before now after r is cause = subst (λ n. HasCause n after r) is cause

-- the same of a call that gives something else
pub cause_failed : {T S E : Type 0} (before now after : ℕ) (x : E) → now ≡ before → HasCause {T = T} {E = E} now after (Err x) → HasCause {T = S} {E = E} before after (Err x)
cause_failed before now after x is cause = record {
  later = subst (λ n. n ≤ after) is cause.later;
  stays = tt;
  failed = subst (λ n. Rose n after) is cause.failed;
}

-- a text that was written is the one that was to be
pub writes_as : {T E : Type 0} (w w1 : Option (List ℕ)) (f f1 : ℕ) (r : Result T E) (text whole : List ℕ) → text ≡ whole
    → MatchResult r (λ _. Appends w w1 text) (λ _. AppendsPrefix w w1 text) → HasCause f f1 r → Writes w w1 f f1 r whole
writes_as w w1 f f1 r text whole is bytes cause = record {
  bytes = subst (λ (l : List ℕ). MatchResult r (λ _. Appends w w1 l) (λ _. AppendsPrefix w w1 l)) is bytes;
  cause = cause;
}

-- no write failed
pub cause_done : {T E : Type 0} (before now : ℕ) (x : T) → now ≡ before → HasCause {T = T} {E = E} before now (Ok x)
cause_done before now x is = record { later = subst (λ n. before ≤ n) (sym is) (omega arith); stays = is; failed = tt }
