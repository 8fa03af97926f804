-- Items written one after another.
use Rattle.std.proofs.Common.{◌≡◌, ℕ, List, [], ◌∷◌, ◌++◌, sym, ap, subst, ◌∙◌, append_assoc, append-nil}
use Rattle.std.specs.Prelude.{Option, Result, Ok, Err}
use Rattle.std.specs.List.{flat_map}
use Rattle.std.specs.Io.KnownBytes.{Appends}
use Rattle.std.proofs.KnownBytes.{Appends-nil, Appends-trans}
use Rattle.nav_io.specs.Causes.{HasCause}
use Rattle.nav_io.specs.Prefix.{AppendsPrefix, IsPrefix}
use Rattle.nav_io.specs.Writes.{Writes}
use Rattle.one_run.proofs.Surface.{prefix_behind, prefix_same}
use Rattle.one_run.specs.Runs.{AppendsBetween}
use Rattle.all_systems.specs.MergeMirrors.{WroteSome}

pub wrote_none : {X : Type 0} (text : X → List ℕ) (all left : List X) (w : Option (List ℕ)) → left ≡ all → WroteSome text all left w w
wrote_none text all left w e = record { done = []; grew = Appends-nil w; is = sym (ap (λ l. flat_map text l) e) }

pub wrote_more : {X : Type 0} (text : X → List ℕ) (all left rest : List X) (x : X) (w w1 w2 : Option (List ℕ)) → left ≡ x ∷ rest → WroteSome text all left w w1 → Appends w1 w2 (text x) → WroteSome text all rest w w2
wrote_more text all left rest x w w1 w2 e h more = record {
  done = h.done ++ text x;
  grew = Appends-trans w w1 w2 h.done (text x) h.grew more;
  is = h.is ∙ ap (λ l. h.done ++ flat_map text l) e ∙ sym (append_assoc h.done (text x) (flat_map text rest));
}

pub wrote_all : {X : Type 0} (text : X → List ℕ) (all left : List X) (w w1 : Option (List ℕ)) → left ≡ [] → WroteSome text all left w w1 → Appends w w1 (flat_map text all)
wrote_all text all left w w1 e h = subst (Appends w w1) (sym (h.is ∙ ap (λ l. h.done ++ flat_map text l) e ∙ append-nil h.done)) h.grew

pub wrote_prefix : {X : Type 0} (text : X → List ℕ) (all left rest : List X) (x : X) (w w1 w2 : Option (List ℕ)) → left ≡ x ∷ rest → WroteSome text all left w w1 → AppendsPrefix w1 w2 (text x) → AppendsPrefix w w2 (flat_map text all)
wrote_prefix text all left rest x w w1 w2 e h (prefix, (more, is), grew) =
    subst (AppendsPrefix w w2) (sym (h.is ∙ ap (λ l. h.done ++ flat_map text l) e))
    (prefix_behind w w1 w2 h.done (text x ++ flat_map text rest) h.grew
    (prefix, (more ++ flat_map text rest, ap (λ l. l ++ flat_map text rest) is ∙ append_assoc prefix more (flat_map text rest)), grew))

-- a write that failed after others that did not
pub cause_behind : {T E : Type 0} (before now after : ℕ) (r : Result T E) → now ≡ before → HasCause now after r → HasCause before after r
cause_behind before now after r is cause = subst (λ n. HasCause n after r) is cause

-- all of a longer text
pub between_all : (start w : Option (List ℕ)) (some text : List ℕ) → IsPrefix some text → Appends start w text → AppendsBetween start w some text
between_all start w some text prefix whole = record { prefix = text; within = prefix_same text; no_less = prefix; grew = whole }

-- a text written behind one that was written whole
pub writes_behind : {T E : Type 0} (w w1 w2 : Option (List ℕ)) (f f1 f2 : ℕ) (r : Result T E) (text more : List ℕ) → Appends w w1 text → f1 ≡ f → Writes w1 w2 f1 f2 r more
    → Writes w w2 f f2 r (text ++ more)
writes_behind w w1 w2 f f1 f2 (Ok x) text more first same h = record {
  bytes = Appends-trans w w1 w2 text more first h.bytes;
  cause = cause_behind f f1 f2 (Ok x) same h.cause;
}
writes_behind w w1 w2 f f1 f2 (Err x) text more first same h = record {
  bytes = prefix_behind w w1 w2 text more first h.bytes;
  cause = cause_behind f f1 f2 (Err x) same h.cause;
}

-- a part of a text is a part of a longer one
pub prefix_part : (w w1 : Option (List ℕ)) (text more : List ℕ) → AppendsPrefix w w1 text → AppendsPrefix w w1 (text ++ more)
prefix_part w w1 text more (prefix, (rest, is), grew) =
    (prefix, (rest ++ more, ap (λ l. l ++ more) is ∙ append_assoc prefix rest more), grew)
