-- Prefixes of what is written and reported.
use Rattle.std.proofs.Common.{ℕ, List, [], ◌++◌, refl, sym, ap, ◌∙◌, append_assoc, append-nil}
use Rattle.std.specs.Prelude.{Option}
use Rattle.std.specs.Io.KnownBytes.{Appends}
use Rattle.std.proofs.KnownBytes.{Appends-nil, Appends-trans}
use Rattle.nav_io.specs.Prefix.{AppendsPrefix, IsPrefix}
use Rattle.one_run.specs.Runs.{AppendsBetween}

-- ---- of lists

pub prefix_same : (xs : List ℕ) → IsPrefix xs xs
prefix_same xs = ([], sym (append-nil xs))

pub prefix_nil : (xs : List ℕ) → IsPrefix [] xs
prefix_nil xs = (xs, refl)

pub prefix_trans : (xs ys zs : List ℕ) → IsPrefix xs ys → IsPrefix ys zs → IsPrefix xs zs
prefix_trans xs ys zs (a, e) (b, f) = (a ++ b, f ∙ ap (λ (l : List ℕ). l ++ b) e ∙ append_assoc xs a b)

pub prefix_more : (xs ys : List ℕ) → IsPrefix xs (xs ++ ys)
prefix_more xs ys = (ys, refl)

-- after the same list
pub prefix_after : (xs ys zs : List ℕ) → IsPrefix ys zs → IsPrefix (xs ++ ys) (xs ++ zs)
prefix_after xs ys zs (a, e) = (a, ap (λ (l : List ℕ). xs ++ l) e ∙ sym (append_assoc xs ys a))

-- ---- of what grew

-- a prefix after what was written
pub prefix_behind : (w w1 w2 : Option (List ℕ)) (some more : List ℕ) → Appends w w1 some → AppendsPrefix w1 w2 more → AppendsPrefix w w2 (some ++ more)
prefix_behind w w1 w2 some more whole (prefix, within, grew) =
    (some ++ prefix, prefix_after some prefix more within, Appends-trans w w1 w2 some prefix whole grew)

-- all that was to be written is a prefix of it
pub whole_prefix : (w w1 : Option (List ℕ)) (text : List ℕ) → Appends w w1 text → AppendsPrefix w w1 text
whole_prefix w w1 text whole = (text, prefix_same text, whole)

-- a prefix of a text is one of each text that has this text as a prefix
pub prefix_within : (w w1 : Option (List ℕ)) (text longer : List ℕ) → IsPrefix text longer → AppendsPrefix w w1 text → AppendsPrefix w w1 longer
prefix_within w w1 text longer behind (prefix, within, grew) = (prefix, prefix_trans prefix text longer within behind, grew)

pub prefix_longer : (w w1 : Option (List ℕ)) (text more : List ℕ) → AppendsPrefix w w1 text → AppendsPrefix w w1 (text ++ more)
prefix_longer w w1 text more grew = prefix_within w w1 text (text ++ more) (prefix_more text more) grew

-- the empty text is a prefix of each text
pub no_prefix : (w : Option (List ℕ)) (text : List ℕ) → AppendsPrefix w w text
no_prefix w text = ([], prefix_nil text, Appends-nil w)

-- what grew by a text between two others grew by a prefix of the second
pub prefix_of : (w w1 : Option (List ℕ)) (least text : List ℕ) → AppendsBetween w w1 least text → AppendsPrefix w w1 text
prefix_of w w1 least text b = (b.prefix, b.within, b.grew)

-- a prefix, where no more is promised
pub between : (w w1 : Option (List ℕ)) (text : List ℕ) → AppendsPrefix w w1 text → AppendsBetween w w1 [] text
between w w1 text (prefix, within, grew) = record {
  prefix = prefix;
  within = within;
  no_less = prefix_nil prefix;
  grew = grew;
}

-- a whole text
pub between_whole : (w w1 : Option (List ℕ)) (text : List ℕ) → Appends w w1 text → AppendsBetween w w1 text text
between_whole w w1 text whole = record {
  prefix = text;
  within = prefix_same text;
  no_less = prefix_same text;
  grew = whole;
}

-- a text and a prefix of another one
pub between_behind : (w w1 w2 : Option (List ℕ)) (some more : List ℕ) → Appends w w1 some → AppendsPrefix w1 w2 more → AppendsBetween w w2 some (some ++ more)
between_behind w w1 w2 some more whole (prefix, within, grew) = record {
  prefix = some ++ prefix;
  within = prefix_after some prefix more within;
  no_less = prefix_more some prefix;
  grew = Appends-trans w w1 w2 some prefix whole grew;
}

-- what grew by a text between two others grew by one between a prefix of the first and any text that the second begins
pub between_within : (w w1 : Option (List ℕ)) (least some more whole : List ℕ) → IsPrefix least some → IsPrefix more whole → AppendsBetween w w1 some more → AppendsBetween w w1 least whole
between_within w w1 least some more whole low high grew = record {
  prefix = grew.prefix;
  within = prefix_trans grew.prefix more whole grew.within high;
  no_less = prefix_trans least some grew.prefix low grew.no_less;
  grew = grew.grew;
}
