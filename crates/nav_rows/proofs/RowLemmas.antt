-- The columns of a message are fields of the record.
use Rattle.std.proofs.Common.{◌≡◌, ℕ, zero, suc, ◌+◌, ◌^◌, ◌<◌, ◌&&◌, Bool, true, false, List, []}
use Rattle.std.proofs.Common.{◌∷◌, ◌++◌, length, sum, map, take, drop, refl, sym, ap, ◌∙◌, subst}
use Rattle.std.proofs.Common.{length-drop, ap₂, if◌then◌else◌, arith, ℤ, pos, negsuc, neg_ℤ, ◌-ℤ◌, ◌≤ℤ◌, int_le, inl}
use Rattle.std.proofs.Common.{inr, ◌⊎◌, Option, Some, None}
use Rattle.std.specs.Prelude.{nat_le, nat_lt, int_lt}
use Rattle.std.proofs.lemmas.Int.{ints}
use Rattle.std.proofs.lemmas.Bool.{ltb-true}
use Rattle.std.proofs.lemmas.Bool.Decides.{nat_tests}
use Rattle.std.proofs.lemmas.List.{length-take-le, take-append-drop}
use Rattle.std.proofs.lemmas.List.Sums.{sum_by-cons}
use Rattle.nav_tables.specs.declared.field.Field.{Field as TableField}
use Rattle.nav_tables.specs.Messages.{AreInRange}
use Rattle.nav_tables.specs.declared.link.Part.{Part}
use Rattle.nav_tables.specs.declared.link.Link.{Link}
use Rattle.nav_tables.specs.declared.link.Link.TheVariants.{Field, Opposite, Raised, Parts, Given}
use Rattle.nav_tables.specs.declared.link.Link.TheVariants.{Fixed}
use Rattle.nav_tables.specs.Links.{nth, parts_from, joined, width_of, are_parts, is_link, are_links}
use Rattle.nav_tables.specs.Links.{column_of, columns_of, ranges_fit, range_fits, AreFit}
use Rattle.nav_tables.proofs.Surface.{both, le_z_true, range_length}
use Rattle.nav_tables.proofs.Surface.{joined-lt, inside_at, fit_parts, fit_all, links_append}
use Rattle.scaled_decimal.specs.declared.scales.Scale.{Scale}
use Rattle.rinex_write.specs.declared.columns.Rule.{Rule}
use Rattle.rinex_write.specs.declared.columns.Rule.TheVariants.{Plain, OrZero, OrLeast, OrUnknown}
use Rattle.rinex_write.specs.declared.columns.Rule.TheVariants.{Ura, Sisa, Fit, Sent, Unread}
use Rattle.rinex_write.specs.declared.columns.Column.{Column}
use Rattle.rinex_write.specs.Columns.{IsField, AreFields, are_good, is_below_unknown}
use Rattle.rinex_write.specs.Columns.{is_good_range, is_good_rule, is_good_scale, is_unknown}
use Rattle.rinex_write.specs.Columns.{joined_rows, not_known}
use Rattle.rinex_write.specs.RowTexts.{split_rows}
use Rattle.rinex_write.specs.Mirrors.{IsSmall, IsKept, AreKept, AreReady}
use Rattle.rinex_write.proofs.Surface.{kept_ready}
use Rattle.nav_rows.specs.declared.kind.Clock.{Clock}
use Rattle.nav_rows.specs.declared.kind.Kind.{Kind}
use Rattle.nav_rows.specs.declared.times.RowTimes.{RowTimes}
use Rattle.nav_rows.specs.Kinds.{Range, given_range, range_of, gives_sisa, covers, all_covered}
use Rattle.nav_rows.specs.Kinds.{has_sisa, head_links, IsKind}
use Rattle.nav_rows.specs.Times.{IsSatellite, HasTimes, IsGiven}
use Rattle.nav_rows.specs.Rows.{record_kind, given_of, has_spare_sisa, SisaInside}
use Rattle.nav_rows.specs.Encoding.{known}
use Rattle.nav_rows.proofs.NumberLemmas.{satellite_is, times_are}

abbrev IsIn : Range → ℤ → Type 0
IsIn r z = (r.low ≤ℤ z) × (z ≤ℤ r.high)

-- the numbers that no field has alone
abbrev AreGiven : Clock → List ℤ → Type 0
AreGiven clock given = (place : ℕ) → IsIn (given_range clock place) (nth given place)

in_range : (clock : Clock) (fs : List TableField) (parts : List Part) (l : Link)
    (zs given : List ℤ) → is_link (length fs) parts l ≡ true
    → range_fits fs parts l ≡ true → AreInRange fs zs → AreGiven clock given
    → IsIn (range_of clock fs parts l) (column_of parts l zs given)
in_range clock fs parts (Field f) zs given e r h g = inside_at fs zs f h (ltb-true f (length fs) e)
in_range clock fs parts (Opposite f) zs given e r h g =
    let i = inside_at fs zs f h (ltb-true f (length fs) e) in
    (omega (arith, ints, i.1), omega (arith, ints, i.0))
in_range clock fs parts (Raised f plus) zs given e r h g =
    let a = both (nat_lt f (length fs) && int_le (pos 0 -ℤ pos 1000000) plus)
    (int_le plus (pos 1000000)) e in
    let b = both (nat_lt f (length fs)) (int_le (pos 0 -ℤ pos 1000000) plus) a.0 in
    let i = inside_at fs zs f h (ltb-true f (length fs) b.0) in
    (omega (arith, ints, i.0), omega (arith, ints, i.1))
in_range clock fs parts (Parts first count) zs given e r h g =
    let ps = parts_from parts first count in
    let a = both (nat_le (first + count) (length parts)) (are_parts (length fs) ps) e in
    let less : joined ps zs < 2 ^ width_of ps
    = joined-lt (length fs) ps zs a.1 (fit_parts fs ps zs a.1 r h) in
    (omega (arith, ints), omega (arith, ints, less))
in_range clock fs parts (Given place) zs given e r h g = g place
in_range clock fs parts (Fixed n) zs given e r h g = (omega (arith, ints), omega (arith, ints))

-- ---- SISA indices

-- not one of 126 to 254
abbrev IsNoSpare : ℤ → Type 0
IsNoSpare z = (z ≤ℤ pos 125) ⊎ (pos 255 ≤ℤ z)

no_spare_by : (z : ℤ) (a b : Bool) → int_le (pos 126) z ≡ a → int_le z (pos 254) ≡ b
    → (a && b) ≡ false → IsNoSpare z
no_spare_by z false b e f h = inl (let less : z ≤ℤ pos 125 = grind (arith, nat_tests, ints) in less)
no_spare_by z true false e f h
    = inr (let more : pos 255 ≤ℤ z = grind (arith, nat_tests, ints) in more)
no_spare_by z true true e f h = absurd cc

no_spare : (sisa : Option ℕ) (parts : List Part) (l : Link) (zs given : List ℤ)
    → has_spare_sisa sisa zs ≡ false → gives_sisa sisa l ≡ true
    → IsNoSpare (column_of parts l zs given)
no_spare None parts l zs given e h = absurd cc
no_spare (Some f) parts (Field g) zs given e h =
    let same : f ≡ g = grind (arith, nat_tests) in
    subst (λ k. IsNoSpare (nth zs k)) same (no_spare_by (nth zs f) _ _ refl refl e)
no_spare (Some f) parts (Opposite g) zs given e h = absurd cc
no_spare (Some f) parts (Raised g plus) zs given e h = absurd cc
no_spare (Some f) parts (Parts first count) zs given e h = absurd cc
no_spare (Some f) parts (Given place) zs given e h = absurd cc
no_spare (Some f) parts (Fixed n) zs given e h = absurd cc

sisa_is : (z : ℤ) → IsNoSpare z → pos 0 ≤ℤ z → z ≤ℤ pos 255 → IsField Sisa z
sisa_is z (inl h) from to = inl (from, h)
sisa_is z (inr h) from to = inr (omega (arith, ints, h, to))

-- ---- columns

between : (low high : ℤ) (r : Range) (z : ℤ) → (int_le low r.low && int_le r.high high) ≡ true
    → IsIn r z → (low ≤ℤ z) × (z ≤ℤ high)
between low high r z e h =
    let a = both (int_le low r.low) (int_le r.high high) e in
    let x = le_z_true low r.low a.0 in
    let y = le_z_true r.high high a.1 in
    (omega (arith, ints, x, h.0), omega (arith, ints, y, h.1))

is_field : (sisa : Bool) (rule : Rule) (r : Range) (z : ℤ) → covers sisa rule r ≡ true
    → (sisa ≡ true → IsNoSpare z) → IsIn r z → IsField rule z
is_field sisa (Plain low high) r z e s h = between low high r z e h
is_field sisa (OrZero low high) r z e s h = between low high r z e h
is_field sisa (OrLeast low high) r z e s h = between low high r z e h
is_field sisa (OrUnknown low high) r z e s h = inl (between low high r z e h)
is_field sisa Ura r z e s h = between (pos 0) (pos 15) r z e h
is_field sisa Sisa r z e s h =
    let a = both (sisa && int_le (pos 0) r.low) (int_le r.high (pos 255)) e in
    let b = both sisa (int_le (pos 0) r.low) a.0 in
    let x = le_z_true (pos 0) r.low b.1 in
    let y = le_z_true r.high (pos 255) a.1 in
    sisa_is z (s b.0) (omega (arith, ints, x, h.0)) (omega (arith, ints, y, h.1))
is_field sisa Fit r z e s h = between (pos 0) (pos 1) r z e h
is_field sisa Sent r z e s h = let b
    = between (pos 999900000) (pos 999900000) r z e h in inr (omega (arith, ints, b.0, b.1))
is_field sisa (Unread n) r z e s h = let b = between n n r z e h in omega (arith, ints, b.0, b.1)

fields_all : (clock : Clock) (sisa : Option ℕ) (fs : List TableField) (parts : List Part)
    (ls : List Link) (cs : List Column) (zs given : List ℤ)
    → are_links (length fs) parts ls ≡ true → ranges_fit fs parts ls ≡ true
    → all_covered clock sisa fs parts ls cs ≡ true → AreInRange fs zs
    → AreGiven clock given → has_spare_sisa sisa zs ≡ false
    → AreFields cs (columns_of parts ls zs given)
unfolding columns_of
fields_all clock sisa fs parts [] [] zs given e r v h g s = tt
fields_all clock sisa fs parts [] (c ∷ cs) zs given e r v h g s = let no : false ≡ true
    = v in absurd cc
fields_all clock sisa fs parts (l ∷ ls) [] zs given e r v h g s = let no : false ≡ true
    = v in absurd cc
fields_all clock sisa fs parts (l ∷ ls) (c ∷ cs) zs given e r v h g s =
    let a = both (is_link (length fs) parts l) (are_links (length fs) parts ls) e in
    let b = both (range_fits fs parts l) (ranges_fit fs parts ls) r in
    let d = both (covers (gives_sisa sisa l) c.rule (range_of clock fs parts l))
    (all_covered clock sisa fs parts ls cs) v in (
      is_field (gives_sisa sisa l) c.rule (range_of clock fs parts l)
          (column_of parts l zs given) d.0 (no_spare sisa parts l zs given s)
          (in_range clock fs parts l zs given a.0 b.0 h g),
      fields_all clock sisa fs parts ls cs zs given a.1 b.1 d.1 h g s,
    )

-- the columns of a message are known
is_known : (s : Scale) (sisa : Bool) (rule : Rule) (r : Range) (z : ℤ) → is_good_rule s rule ≡ true
    → covers sisa rule r ≡ true → IsIn r z → is_unknown rule z ≡ false
is_known s sisa (OrUnknown low high) r z g e h =
    let a = both (is_good_range low high) (is_below_unknown s high) g in
    let b = both _ (int_lt high not_known) a.1 in
    below z high (between low high r z e h).1 b.1
  where
    below : (y top : ℤ) → y ≤ℤ top → int_lt top not_known ≡ true → int_le not_known y ≡ false
    below y top le lt = grind (arith, ints)
is_known s sisa (Plain low high) r z g e h = refl
is_known s sisa (OrZero low high) r z g e h = refl
is_known s sisa (OrLeast low high) r z g e h = refl
is_known s sisa Ura r z g e h = refl
is_known s sisa Sisa r z g e h = refl
is_known s sisa Fit r z g e h = refl
is_known s sisa Sent r z g e h = refl
is_known s sisa (Unread n) r z g e h = refl

known_all : (clock : Clock) (sisa : Option ℕ) (fs : List TableField) (parts : List Part)
    (ls : List Link) (cs : List Column) (zs given : List ℤ)
    → are_links (length fs) parts ls ≡ true → ranges_fit fs parts ls ≡ true
    → all_covered clock sisa fs parts ls cs ≡ true → are_good cs ≡ true → AreInRange fs zs
    → AreGiven clock given → known cs (columns_of parts ls zs given) ≡ columns_of parts ls zs given
unfolding columns_of known
known_all clock sisa fs parts [] [] zs given e r v q h g = refl
known_all clock sisa fs parts [] (c ∷ cs) zs given e r v q h g = let no : false ≡ true
    = v in absurd cc
known_all clock sisa fs parts (l ∷ ls) [] zs given e r v q h g = let no : false ≡ true
    = v in absurd cc
known_all clock sisa fs parts (l ∷ ls) (c ∷ cs) zs given e r v q h g =
    let w = both (is_good_scale c.scale && is_good_rule c.scale c.rule) (are_good cs) q in
    let x = both (is_good_scale c.scale) (is_good_rule c.scale c.rule) w.0 in
    let a = both (is_link (length fs) parts l) (are_links (length fs) parts ls) e in
    let b = both (range_fits fs parts l) (ranges_fit fs parts ls) r in
    let d = both (covers (gives_sisa sisa l) c.rule (range_of clock fs parts l))
    (all_covered clock sisa fs parts ls cs) v in
    let z = column_of parts l zs given in
    let first = is_known c.scale (gives_sisa sisa l) c.rule (range_of clock fs parts l) z x.1 d.0
    (in_range clock fs parts l zs given a.0 b.0 h g) in
    let rest = known_all clock sisa fs parts ls cs zs given a.1 b.1 d.1 w.1 h g in
    ap₂ (λ y ys. y ∷ ys) (ap (λ u. if u then pos 0 else z) first) rest

given_are : (clock : Clock) (t : RowTimes) → IsGiven clock t → AreGiven clock (given_of t)
given_are clock t g zero = (omega (arith, ints, g.from), omega (arith, ints, g.to))
given_are clock t g (suc zero) = (omega (arith, ints), omega (arith, ints, g.sent))
given_are clock t g (suc (suc zero)) = (omega (arith, ints), omega (arith, ints))
given_are clock t g (suc (suc (suc zero))) = (omega (arith, ints), omega (arith, ints))
given_are clock t g (suc (suc (suc (suc n)))) = (omega (arith, ints), omega (arith, ints))

-- ---- fields can be written

small : (z : ℤ) → neg_ℤ (pos 302400) ≤ℤ z → z ≤ℤ pos 999900000 → IsSmall z
small (pos n) a b = omega (arith, ints)
small (negsuc n) a b = omega (arith, ints)

kept : (rule : Rule) (z : ℤ) → IsField rule z → IsKept IsSmall rule z
kept (Plain low high) z h = h
kept (OrZero low high) z h = h
kept (OrLeast low high) z h = h
kept (OrUnknown low high) z h = h
kept Ura z h = h
kept Sisa z h = h
kept Fit z h = h
kept Sent z (inl h) = small z (omega (arith, ints, h.0)) (omega (arith, ints, h.1))
kept Sent z (inr h) = small z (omega (arith, ints, h)) (omega (arith, ints, h))
kept (Unread n) z h = h

all_kept : (cs : List Column) (zs : List ℤ) → AreFields cs zs → AreKept IsSmall cs zs
all_kept [] [] h = tt
all_kept [] (z ∷ zs) h = h
all_kept (c ∷ cs) [] h = h
all_kept (c ∷ cs) (z ∷ zs) h = (kept c.rule z h.0, all_kept cs zs h.1)

pub ready : (k : Kind) (zs : List ℤ) → IsKind k → AreFields k.layout.columns.now zs
    → AreReady k.layout.columns.now zs
ready k zs is h = kept_ready k.layout.columns.now zs is.lines.good
    (all_kept k.layout.columns.now zs h)

-- ---- rows of columns

split_joined : (ns : List ℕ) (cs : List Column) → sum ns ≡ length cs
    → joined_rows (split_rows ns cs) ≡ cs
split_joined [] [] e = refl
split_joined [] (c ∷ cs) e = absurd (omega arith)
split_joined (n ∷ ns) cs e =
    let whole : n + sum ns ≡ length cs = sym (sum_by-cons (λ x. x) n ns) ∙ e in
    ap (λ xs. take n cs ++ xs)
    (split_joined ns (drop n cs) (omega (arith, whole, length-drop n cs)))
    ∙ take-append-drop n cs

split_lengths : (ns : List ℕ) (cs : List Column) → sum ns ≡ length cs
    → map length (split_rows ns cs) ≡ ns
split_lengths [] cs e = refl
split_lengths (n ∷ ns) cs e =
    let whole : n + sum ns ≡ length cs = sym (sum_by-cons (λ x. x) n ns) ∙ e in
    ap (λ m. m ∷ map length (split_rows ns (drop n cs)))
    (length-take-le n cs (omega (arith, whole)))
    ∙ ap (λ ms. n ∷ ms) (split_lengths ns (drop n cs) (omega (arith, whole, length-drop n cs)))

-- the rows of a kind have its columns
pub record AreRows (k : Kind) : Type 0 where
  pub columns : k.layout.columns.now ≡ joined_rows (record_kind k).rows
  pub rows : k.layout.rows.now ≡ map length (record_kind k).rows

pub rows_are : (k : Kind) → IsKind k → AreRows k
rows_are k is = record {
  columns = sym (split_joined k.layout.rows.now k.layout.columns.now is.layout.count);
  rows = sym (split_lengths k.layout.rows.now k.layout.columns.now is.layout.count);
}

-- ---- what is known of the numbers of a message

pub sisa_inside : (sisa : Option ℕ) (n : ℕ) (zs : List ℤ) → has_sisa sisa n ≡ true → length zs ≡ n
    → SisaInside sisa zs
sisa_inside None n zs e h = tt
sisa_inside (Some f) n zs e h = omega (arith, h, ltb-true f n e)

pub record AreGood (k : Kind) (zs : List ℤ) : Type 0 where
  pub satellite : IsSatellite zs
  pub times : HasTimes k.clock zs
  pub sisa : SisaInside k.sisa zs
  pub links : are_links (length zs) k.parts.now k.links.now ≡ true
  pub fit : AreFit k.parts.now k.links.now zs
  pub fields : (t : RowTimes) → IsGiven k.clock t → has_spare_sisa k.sisa zs ≡ false
      → AreFields k.layout.columns.now (columns_of k.parts.now k.links.now zs (given_of t))
  pub are_known : (t : RowTimes) → IsGiven k.clock t
      → known k.layout.columns.now (columns_of k.parts.now k.links.now zs (given_of t))
      ≡ columns_of k.parts.now k.links.now zs (given_of t)

-- the links of the columns, and those of satellite and times
pub front : (k : Kind) → IsKind k
    → are_links (length k.table.fields.now) k.parts.now k.links.now ≡ true
front k is =
    (links_append (length k.table.fields.now) k.parts.now k.links.now
    (head_links k.clock) is.links).0

pub behind : (k : Kind) → IsKind k
    → are_links (length k.table.fields.now) k.parts.now (head_links k.clock) ≡ true
behind k is =
    (links_append (length k.table.fields.now) k.parts.now k.links.now
    (head_links k.clock) is.links).1

pub good : (k : Kind) (zs : List ℤ) → IsKind k → AreInRange k.table.fields.now zs → AreGood k zs
good k zs is h =
    let fs = k.table.fields.now in
    let count = range_length fs zs h in
    record {
      satellite = satellite_is fs zs is.satellite h;
      times = times_are k.clock fs zs is.times h;
      sisa = sisa_inside k.sisa (length fs) zs is.sisa count;
      links = subst (λ n. are_links n k.parts.now k.links.now ≡ true) (sym count) (front k is);
      fit = fit_all fs k.parts.now k.links.now zs (front k is) is.fit h;
      fields = λ t g s. fields_all k.clock k.sisa fs k.parts.now k.links.now k.layout.columns.now
          zs (given_of t) (front k is) is.fit is.covered h (given_are k.clock t g) s;
      are_known = λ t g. known_all k.clock k.sisa fs k.parts.now k.links.now k.layout.columns.now
          zs (given_of t) (front k is) is.fit is.covered is.lines.good h (given_are k.clock t g);
    }
