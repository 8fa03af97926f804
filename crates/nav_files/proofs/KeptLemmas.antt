-- Items that are kept while records are read, and written at the end.
use Rattle.std.proofs.Common.{◌≡◌, ◌⊎◌, inl, inr, ◌↔◌, ℕ, List, [], ◌∷◌, ◌++◌, Contains, refl, sym, ap, subst, ◌∙◌, arith, append_assoc, append-nil, ◌+◌, ◌<◌, get_or, drop, length, add-one, drop-cons}
use Rattle.std.specs.Prelude.{Option, Result, Ok, Err, MatchResult}
use Rattle.std.specs.List.{flat_map}
use Rattle.std.specs.Io.KnownBytes.{Appends}
use Rattle.std.proofs.KnownBytes.{Appends-nil, Appends-trans}
use Rattle.std.proofs.lemmas.Grind.{flat_map-append}
use Rattle.std.proofs.lemmas.List.Elements.{Contains-append_left, Contains-push, Contains-push_cases}
use Rattle.nav_io.specs.Causes.{HasCause}
use Rattle.nav_io.specs.Prefix.{AppendsPrefix}
use Rattle.nav_io.specs.Writes.{Writes}
use Rattle.nav_eph.specs.Satellite.{Satellite}
use Rattle.nav_eph.specs.declared.items.NavItem.{NavItem}
use Rattle.nav_lists.specs.declared.range.CoverRange.{CoverRange}
use Rattle.nav_lists.specs.Covering.{AreCovering, AreCovers, AreRanges, CoversSecond, IsIn}
use Rattle.rinex_read.specs.declared.judged.ItemRead.{ItemRead}
use Rattle.rinex_read.specs.declared.judged.ItemRead.TheVariants.{Item, Refused, PassedOver}
use Rattle.one_run.specs.Runs.{AppendsBetween}
use Rattle.one_run.proofs.Surface.{between_behind, prefix_behind}
use Rattle.nav_files.specs.declared.counts.RinexCounts.{RinexCounts}
use Rattle.nav_files.specs.Files.{counts_of_reads}
use Rattle.nav_files.specs.Mirrors.{AreCounted}
use Rattle.rinex_read.specs.Files.{items_of}
use Rattle.nav_files.specs.Archives.{item_of}
use Rattle.nav_files.specs.Kept.{WroteSome}

-- ---- written one after another

pub wrote_none : {X : Type 0} (text : X → List ℕ) (all : List X) (w : Option (List ℕ)) → WroteSome text all all w w
wrote_none text all w = record { done = []; grew = Appends-nil w; is = refl }

pub wrote_more : {X : Type 0} (text : X → List ℕ) (all left rest : List X) (x : X) (w w1 w2 : Option (List ℕ)) → left ≡ x ∷ rest → WroteSome text all left w w1 → Appends w1 w2 (text x) → WroteSome text all rest w w2
wrote_more text all left rest x w w1 w2 e h more = record {
  done = h.done ++ text x;
  grew = Appends-trans w w1 w2 h.done (text x) h.grew more;
  is = h.is ∙ ap (λ l. h.done ++ flat_map text l) e ∙ sym (append_assoc h.done (text x) (flat_map text rest));
}

pub wrote_all : {X : Type 0} (text : X → List ℕ) (all left : List X) (w w1 : Option (List ℕ)) → left ≡ [] → WroteSome text all left w w1 → Appends w w1 (flat_map text all)
wrote_all text all left w w1 e h = subst (Appends w w1) (sym (h.is ∙ ap (λ l. h.done ++ flat_map text l) e ∙ append-nil h.done)) h.grew

pub wrote_prefix : {X : Type 0} (text : X → List ℕ) (all left rest : List X) (x : X) (w w1 w2 : Option (List ℕ)) → left ≡ x ∷ rest → WroteSome text all left w w1 → AppendsPrefix w1 w2 (text x) → AppendsPrefix w w2 (flat_map text all)
wrote_prefix text all left rest x w w1 w2 e h (prefix, (more, is), grew) =
    subst (AppendsPrefix w w2) (sym (h.is ∙ ap (λ l. h.done ++ flat_map text l) e))
    (prefix_behind w w1 w2 h.done (text x ++ flat_map text rest) h.grew
    (prefix, (more ++ flat_map text rest, ap (λ l. l ++ flat_map text rest) is ∙ append_assoc prefix more (flat_map text rest)), grew))

-- the next of a slice
pub next_of : {X : Type 0} (xs : List X) (i : ℕ) (x : X) → i < length xs → x ≡ get_or xs i x → drop i xs ≡ x ∷ drop (i + 1) xs
next_of xs i x h e = drop-cons xs i x h ∙ (λ j. sym e j ∷ drop (sym (add-one i) j) xs)

-- several at once
pub wrote_few : {X : Type 0} (text : X → List ℕ) (all left few rest : List X) (w w1 w2 : Option (List ℕ)) → left ≡ few ++ rest → WroteSome text all left w w1 → Appends w1 w2 (flat_map text few) → WroteSome text all rest w w2
wrote_few text all left few rest w w1 w2 e h more = record {
  done = h.done ++ flat_map text few;
  grew = Appends-trans w w1 w2 h.done (flat_map text few) h.grew more;
  is = h.is ∙ ap (λ l. h.done ++ flat_map text l) e ∙ ap (λ l. h.done ++ l) (flat_map-append text few rest) ∙ sym (append_assoc h.done (flat_map text few) (flat_map text rest));
}

pub wrote_few_prefix : {X : Type 0} (text : X → List ℕ) (all left few rest : List X) (w w1 w2 : Option (List ℕ)) → left ≡ few ++ rest → WroteSome text all left w w1 → AppendsPrefix w1 w2 (flat_map text few) → AppendsPrefix w w2 (flat_map text all)
wrote_few_prefix text all left few rest w w1 w2 e h (prefix, (more, is), grew) =
    subst (AppendsPrefix w w2) (sym (h.is ∙ ap (λ l. h.done ++ flat_map text l) e ∙ ap (λ l. h.done ++ l) (flat_map-append text few rest)))
    (prefix_behind w w1 w2 h.done (flat_map text few ++ flat_map text rest) h.grew
    (prefix, (more ++ flat_map text rest, ap (λ l. l ++ flat_map text rest) is ∙ append_assoc prefix more (flat_map text rest)), grew))

-- a write that failed after others that did not
pub cause_behind : {T E : Type 0} (before now after : ℕ) (r : Result T E) → now ≡ before → HasCause now after r → HasCause before after r
cause_behind before now after r is cause = subst (λ n. HasCause n after r) is cause

-- ---- the ranges with an item more

pub cover_kept : (item : NavItem) (old new : List CoverRange) → AreRanges new → ((sat : Satellite) (m : ℕ) → IsIn new sat m ↔ (IsIn old sat m ⊎ CoversSecond item sat m))
    → (items : List NavItem) → AreCovers (AreCovering (Contains items)) old → AreCovers (AreCovering (Contains (items ++ item ∷ []))) new
cover_kept item old new form both items h = record {
  form = form;
  covers = covers;
  every = every;
}
  where
    covers : (sat : Satellite) (m : ℕ) → IsIn new sat m → AreCovering (Contains (items ++ item ∷ [])) sat m
    covers sat m i = elim ((both sat m).0 i) [
      | inl k ↦ let c = h.covers sat m k in (c.0, Contains-append_left items (item ∷ []) c.0 c.1, c.2)
      | inr k ↦ (item, Contains-push items item, k)
    ]

    every : (sat : Satellite) (m : ℕ) → AreCovering (Contains (items ++ item ∷ [])) sat m → IsIn new sat m
    every sat m k = elim (Contains-push_cases items item k.0 k.1) [
      | inl c ↦ (both sat m).1 (inl (h.every sat m (k.0, c, k.2)))
      | inr e ↦ (both sat m).1 (inr (subst (λ z. CoversSecond z sat m) (sym e) k.2))
    ]

-- ---- the items with a record more

pub items_more : (reads : List ItemRead) (read : ItemRead) → items_of (reads ++ read ∷ []) ≡ items_of reads ++ item_of read
items_more [] (Item line item) = refl
items_more [] (Refused line reason) = refl
items_more [] (PassedOver line) = refl
items_more (Item line item ∷ rs) read = ap (λ (l : List NavItem). item ∷ l) (items_more rs read)
items_more (Refused line reason ∷ rs) read = items_more rs read
items_more (PassedOver line ∷ rs) read = items_more rs read

-- nothing was counted
pub nothing_counted : (c : RinexCounts) → c ≡ counts_of_reads [] → AreCounted c
nothing_counted c nothing = rw nothing (omega arith)

-- ---- the end

pub finish_as : {E : Type 0} (prefix text whole : List ℕ) (start w w1 : Option (List ℕ)) (f f1 : ℕ) (r : Result (Unit {0}) E) → text ≡ whole
    → Appends start w prefix → Writes w w1 f f1 r text → MatchResult r (λ _. Appends start w1 (prefix ++ whole)) (λ _. AppendsBetween start w1 prefix (prefix ++ whole))
finish_as prefix text whole start w w1 f f1 (Ok x) is so_far writes = Appends-trans start w w1 prefix whole so_far (subst (Appends w w1) is writes.bytes)
finish_as prefix text whole start w w1 f f1 (Err x) is so_far writes = between_behind start w w1 prefix whole so_far (subst (AppendsPrefix w w1) is writes.bytes)
