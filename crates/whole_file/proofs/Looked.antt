-- The form that the first bytes of a source tell.
use Rattle.std.proofs.Common.{◌≡◌, ◌≤◌, ℕ, List, Option, None, Some, sym, ap, ◌∙◌, length, take, arith}
use Rattle.std.proofs.lemmas.List.{take_at}
use Rattle.std.specs.Io.KnownBytes.{Consumes}
use Rattle.std.specs.Prelude.{IfSome}
use Rattle.whole_file.specs.Kinds.{kind_of}
use Rattle.whole_file.specs.Kinds.{form_of}
use Rattle.whole_file.specs.declared.kinds.Kind.{Kind}

-- a source with these bytes is read under this form
abbrev Tells : Option Kind → Option (List ℕ) → Kind → Type 0
Tells named source kind = IfSome source (λ bytes. kind ≡ form_of named (kind_of bytes))

-- as much was looked at as ever is
pub full : (named : Option Kind) (source left : Option (List ℕ)) (prefix : List ℕ) (kind told : Kind) → Consumes source left prefix
    → length prefix ≡ 65536 → ((n : ℕ) (bytes : List ℕ) → 65536 ≤ n → kind_of (take n bytes) ≡ kind_of bytes)
    → kind ≡ form_of named told → told ≡ kind_of prefix → Tells named source kind
full named None left prefix kind told takes many law is tells = tt
full named (Some bytes) None prefix kind told takes many law is tells = absurd takes
full named (Some bytes) (Some rest) prefix kind told takes many law is tells =
    is ∙ ap (form_of named) (tells ∙ ap kind_of (sym (ap (take 65536) takes ∙ take_at prefix rest 65536 many)) ∙ law 65536 bytes (omega arith))
