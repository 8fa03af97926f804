-- Events after events: what was taken, reported and counted of them.
use Rattle.std.proofs.Common.{◌≡◌, ℕ, ◌+◌, List, [], ◌++◌, map, sum, refl, sym, ap, subst, ◌∙◌, arith, append_assoc}
use Rattle.std.specs.Prelude.{Option, Result}
use Rattle.std.specs.List.{sum_by}
use Rattle.std.specs.Io.KnownBytes.{Appends}
use Rattle.std.proofs.KnownBytes.{Appends-nil, Appends-trans}
use Rattle.std.proofs.lemmas.Grind.{flat_map-append}
use Rattle.std.proofs.lemmas.List.Sums.{sum-map, sum_by-append}
use Rattle.nav_io.specs.Prefix.{AppendsPrefix}
use Rattle.nav_eph.specs.declared.part.Part.{Part}
use Rattle.slot_assembly.specs.Standing.{Standing, Carries, adding}
use Rattle.slot_assembly.proofs.Surface.{adding_none, adding_more}
use Rattle.capture_log.specs.Log.{Noted, parts_in, parts_of_event}
use Rattle.capture_log.specs.declared.event.Event.{Event}
use Rattle.captures.specs.declared.counts.EventCounts.{EventCounts}
use Rattle.one_run.specs.declared.fault.BridgeFault.{BridgeFault}
use Rattle.captures.specs.Reports.{count_in, is_malformed, is_late, is_refused_event, is_unused}
use Rattle.captures.specs.Notes.{Notes, Takes, line_report, tallied}

-- ---- logs after logs

pub parts_in-append : (xs ys : List Noted) → parts_in (xs ++ ys) ≡ parts_in xs ++ parts_in ys
parts_in-append xs ys = flat_map-append (λ n. parts_of_event n.event) xs ys

pub line_report-append : (xs ys : List Noted) → line_report (xs ++ ys) ≡ line_report xs ++ line_report ys
line_report-append xs ys = flat_map-append _ xs ys

pub count_in-append : (kind : Event → ℕ) (xs ys : List Noted) → count_in kind (xs ++ ys) ≡ count_in kind xs + count_in kind ys
count_in-append kind xs ys =
    let f = λ (n : Noted). kind n.event in
    sum-map f (xs ++ ys) ∙ sum_by-append f xs ys ∙ sym (ap (λ m. m + sum (map f ys)) (sum-map f xs) ∙ ap (λ m. sum_by f xs + m) (sum-map f ys))

tally_is : (t : EventCounts) (malformed late refused unused : ℕ) → malformed ≡ t.malformed → late ≡ t.late → refused ≡ t.refused → unused ≡ t.unused
    → t ≡ record { malformed = malformed; late = late; refused = refused; unused = unused }
tally_is t malformed late refused unused a b c d = rw (a, b, c, d) refl

pub tallied-none : (t : EventCounts) → t ≡ tallied t []
tallied-none t = tally_is t _ _ _ _ (omega arith) (omega arith) (omega arith) (omega arith)

pub tallied-append : (t : EventCounts) (xs ys : List Noted) → tallied (tallied t xs) ys ≡ tallied t (xs ++ ys)
tallied-append t xs ys =
    tally_is (tallied (tallied t xs) ys) _ _ _ _
    (omega (arith, count_in-append is_malformed xs ys)) (omega (arith, count_in-append is_late xs ys))
    (omega (arith, count_in-append is_refused_event xs ys)) (omega (arith, count_in-append is_unused xs ys))

-- ---- notes

pub notes_none : (now : Standing → Type 0) (w : Option (List ℕ)) (t : EventCounts) → Notes now now w w t t []
notes_none now w t = record {
  parts = adding_none now;
  text = Appends-nil w;
  counts = tallied-none t;
}

pub notes_more : (a b c : Standing → Type 0) (u v w : Option (List ℕ)) (r s t : EventCounts) (xs ys : List Noted)
    → Notes a b u v r s xs → Notes b c v w s t ys → Notes a c u w r t (xs ++ ys)
notes_more a b c u v w r s t xs ys first second = record {
  parts = subst (λ (ps : List Part). Carries a c (adding ps)) (sym (parts_in-append xs ys)) (adding_more a b c (parts_in xs) (parts_in ys) first.parts second.parts);
  text = subst (λ (l : List ℕ). Appends u w l) (sym (line_report-append xs ys)) (Appends-trans u v w (line_report xs) (line_report ys) first.text second.text);
  counts = second.counts ∙ ap (λ (x : EventCounts). tallied x ys) first.counts ∙ tallied-append r xs ys;
}

-- a report that broke off: it continues what was reported, and is a prefix of what would have been
pub prefix_more : (u v w : Option (List ℕ)) (xs ys : List Noted) → Appends u v (line_report xs) → AppendsPrefix v w (line_report ys) → AppendsPrefix u w (line_report (xs ++ ys))
prefix_more u v w xs ys out (prefix, whole, more) = (
  line_report xs ++ prefix,
  (
    whole.0,
    line_report-append xs ys ∙ ap (λ (l : List ℕ). line_report xs ++ l) whole.1 ∙ sym (append_assoc (line_report xs) prefix whole.0),
  ),
  Appends-trans u v w (line_report xs) prefix out more,
)

pub prefix_longer : (u w : Option (List ℕ)) (xs ys : List Noted) → AppendsPrefix u w (line_report xs) → AppendsPrefix u w (line_report (xs ++ ys))
prefix_longer u w xs ys (prefix, whole, out) = (
  prefix,
  (
    whole.0 ++ line_report ys,
    line_report-append xs ys ∙ ap (λ (l : List ℕ). l ++ line_report ys) whole.1 ∙ append_assoc prefix whole.0 (line_report ys),
  ),
  out,
)

-- nothing was reported
pub prefix_none : (w : Option (List ℕ)) (xs : List Noted) → AppendsPrefix w w (line_report xs)
prefix_none w xs = ([], (line_report xs, refl), Appends-nil w)

-- the same log in other words
pub takes_of : {T : Type 0} (old new : Standing → Type 0) (v w : Option (List ℕ)) (s t : EventCounts) (xs ys : List Noted) (result : Result T BridgeFault) → xs ≡ ys
    → Takes old new v w s t xs result → Takes old new v w s t ys result
takes_of old new v w s t xs ys result e h = rw (sym e) h
