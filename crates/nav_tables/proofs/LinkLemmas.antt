-- Columns and numbers give each other.
use Rattle.std.proofs.Common.{◌≡◌, ◌≢◌, ℕ, zero, suc, ◌+◌, ◌-◌, ◌*◌, ◌/◌, ◌%◌, ◌^◌, ◌<◌, ◌≤◌, ◌&&◌}
use Rattle.std.proofs.Common.{◌||◌, not, Bool, true, false, List, [], ◌∷◌, length, take, drop, ◌++◌}
use Rattle.std.proofs.Common.{get_or, set, refl, sym, ap, ◌∙◌, subst, arith, ℤ, pos, negsuc, neg_ℤ}
use Rattle.std.proofs.Common.{◌+ℤ◌, ◌-ℤ◌, ◌≤ℤ◌, ◌<ℤ◌, int_le, int_lt, unsigned_abs}
use Rattle.std.specs.Prelude.{nat_eq, nat_le, nat_lt}
use Rattle.std.proofs.Math.Nat.{mod-eq_of_lt, mod-one, mul_assoc, add-mul, pow-le-pow_right}
use Rattle.std.proofs.lemmas.Nat.{div-mul-add, mod-pow-add, mod_low, mul-add-lt, pow-add}
use Rattle.std.proofs.lemmas.Int.{ints}
use Rattle.std.proofs.lemmas.Bool.{leb-true, ltb-true}
use Rattle.std.proofs.lemmas.Bool.Decides.{nat_tests}
use Rattle.std.proofs.lemmas.List.{take_all, get_or-set_same, get_or-set_other, length-set}
use Rattle.std.proofs.lemmas.List.{ext_get_or}
use Rattle.nav_tables.specs.declared.field.Field.{Field as TableField}
use Rattle.nav_tables.specs.Fields.{IsInRange}
use Rattle.nav_tables.specs.Messages.{AreInRange}
use Rattle.nav_tables.proofs.NavTablesSurface.{both}
use Rattle.nav_tables.specs.declared.link.Part.{Part}
use Rattle.nav_tables.specs.declared.link.Link.{Link}
use Rattle.nav_tables.specs.declared.link.Link.TheVariants.{Field, Opposite, Raised, Parts, Given}
use Rattle.nav_tables.specs.declared.link.Link.TheVariants.{Fixed}
use Rattle.nav_tables.specs.Links.{nth, parts_from, joined, column_of, columns_of, split, filled_by}
use Rattle.nav_tables.specs.Links.{filled, width_of, are_parts, is_part, says, say, is_link}
use Rattle.nav_tables.specs.Links.{are_links, PartsFit, IsFit, AreFit, parts_once, parts_apart}
use Rattle.nav_tables.specs.Links.{is_apart, are_apart, IsStated, AreStated, field_at, is_middling}
use Rattle.nav_tables.specs.Links.{ranges_fit_parts, range_fits, ranges_fit}

nat_eq_is : (a b : ℕ) → nat_eq a b ≡ true → a ≡ b
nat_eq_is a b e = grind (arith, nat_tests)

-- both or neither of two answers
neither : (a b : Bool) → (a || b) ≡ false → (a ≡ false) × (b ≡ false)
neither true b e = absurd (let h : true ≡ false = e in cc)
neither false b e = (refl, e)

pub record IsGood (n : ℕ) (p : Part) (ps : List Part) : Type 0 where
  pub field : p.field < n
  pub most : p.width + p.low ≤ 32
  pub low : p.low ≡ width_of ps
  pub rest : are_parts n ps ≡ true

pub good : (n : ℕ) (p : Part) (ps : List Part) → are_parts n (p ∷ ps) ≡ true → IsGood n p ps
good n p ps e =
    let a = both (nat_lt p.field n && nat_le (p.width + p.low) 32 && nat_eq p.low (width_of ps))
    (are_parts n ps) e in
    let b = both (nat_lt p.field n && nat_le (p.width + p.low) 32)
    (nat_eq p.low (width_of ps)) a.0 in
    let c = both (nat_lt p.field n) (nat_le (p.width + p.low) 32) b.0 in
    record {
      field = ltb-true p.field n c.0;
      most = leb-true _ _ c.1;
      low = nat_eq_is _ _ b.1;
      rest = a.1;
    }

-- numbers that fit their parts have no more bits than these together
pub joined-lt : (nf : ℕ) (ps : List Part) (zs : List ℤ) → are_parts nf ps ≡ true → PartsFit ps zs
    → joined ps zs < 2 ^ width_of ps
unfolding joined
joined-lt nf [] zs e fit = omega arith
joined-lt nf (p ∷ ps) zs e fit =
    let g = good nf p ps e in
    let rest : joined ps zs < 2 ^ p.low
    = subst (λ n. joined ps zs < 2 ^ n) (sym g.low) (joined-lt nf ps zs g.rest fit.2) in
    let whole = mul-add-lt (unsigned_abs (nth zs p.field)) (2 ^ p.low) (joined ps zs)
    (2 ^ p.width) fit.1 rest in
    let power = pow-add 2 p.width p.low in
    subst (λ n. unsigned_abs (nth zs p.field) * 2 ^ p.low + joined ps zs < 2 ^ (p.width + n)) g.low
    (omega (arith, whole, power))

-- the bits of a part of a number that has more bits before and after it
pub part_bits : (high b rest w l : ℕ) → b < 2 ^ w → rest < 2 ^ l
    → ((high * 2 ^ (w + l) + (b * 2 ^ l + rest)) / 2 ^ l) % 2 ^ w ≡ b
part_bits h b rest w l few less =
    let e : h * 2 ^ (w + l) ≡ h * 2 ^ w * 2 ^ l = ap (λ m. h * m) (pow-add 2 w l)
    ∙ sym (mul_assoc h (2 ^ w) (2 ^ l)) in
    let f : (h * 2 ^ w + b) * 2 ^ l ≡ h * 2 ^ w * 2 ^ l + b * 2 ^ l
    = add-mul (h * 2 ^ w) b (2 ^ l) in
    let whole : h * 2 ^ (w + l) + (b * 2 ^ l + rest) ≡ (h * 2 ^ w + b) * 2 ^ l + rest
    = omega (arith, e, f) in
    ap (λ m. (m / 2 ^ l) % 2 ^ w) whole
    ∙ ap (λ m. m % 2 ^ w) (div-mul-add (h * 2 ^ w + b) (2 ^ l) rest less) ∙ mod_low h w b few

pos_again : (z : ℤ) → pos 0 ≤ℤ z → pos (unsigned_abs z) ≡ z
pos_again (pos n) h = refl
pos_again (negsuc n) h = absurd (omega (arith, ints))

-- ---- numbers come back

-- the numbers are right where no later column says them
pub record AreRight (nf : ℕ) (numbers before : List ℤ) (later : ℕ → Bool) : Type 0 where
  pub count : length before ≡ length numbers
  pub few : length before ≡ nf
  pub each : (k : ℕ) → later k ≡ false → nth before k ≡ nth numbers k

-- a right number is written
right_by : (zs before : List ℤ) (f : ℕ) (z : ℤ) (later : ℕ → Bool) (b : Bool) (k : ℕ)
    → f < length before → z ≡ nth zs f
    → nat_eq k f ≡ b → (b ≡ false → nth before k ≡ nth zs k) → nth (set before f z) k ≡ nth zs k
right_by zs before f z later true k few is e other =
    let same : k ≡ f = nat_eq_is k f e in
    ap (λ j. nth (set before f z) j) same ∙ get_or-set_same before f z (pos 0) few ∙ is
    ∙ ap (nth zs) (sym same)
right_by zs before f z later false k few is e other =
    get_or-set_other before f k z (pos 0)
    (λ same. let h : nat_eq k f ≡ true = grind (arith, nat_tests) in (cc)) ∙ other refl

right_field : (nf : ℕ) (zs before : List ℤ) (f : ℕ) (z : ℤ) (later : ℕ → Bool) → f < nf
    → z ≡ nth zs f
    → AreRight nf zs before (λ k. nat_eq k f || later k) → AreRight nf zs (set before f z) later
right_field nf zs before f z later few is r = record {
  count = length-set before f z ∙ r.count;
  few = length-set before f z ∙ r.few;
  each = λ k h. right_by zs before f z later (nat_eq k f) k (omega (arith, r.few, few)) is refl
      (λ no. r.each k (rw (no, h) refl));
}

-- the numbers of parts are written
right_parts : (nf : ℕ) (ps : List Part) (zs before : List ℤ) (high : ℕ) (later : ℕ → Bool)
    → are_parts nf ps ≡ true → PartsFit ps zs
    → AreRight nf zs before (λ k. is_part k ps || later k)
    → AreRight nf zs (split ps (high * 2 ^ width_of ps + joined ps zs) before) later
unfolding split joined
right_parts nf [] zs before high later e fit r = r
right_parts nf (p ∷ ps) zs before high later e fit r =
    let g = good nf p ps e in
    let b = unsigned_abs (nth zs p.field) in
    let rest : joined ps zs < 2 ^ p.low
    = subst (λ n. joined ps zs < 2 ^ n) (sym g.low) (joined-lt nf ps zs g.rest fit.2) in
    let n : ℕ = high * 2 ^ (p.width + width_of ps) + (b * 2 ^ p.low + joined ps zs) in
    let same : n ≡ high * 2 ^ (p.width + p.low) + (b * 2 ^ p.low + joined ps zs)
    = ap (λ l. high * 2 ^ (p.width + l) + (b * 2 ^ p.low + joined ps zs)) (sym g.low) in
    let bits : n / 2 ^ p.low % 2 ^ p.width ≡ b = ap (λ m. m / 2 ^ p.low % 2 ^ p.width) same
    ∙ part_bits high b (joined ps zs) p.width p.low fit.1 rest in
    let z : ℤ = pos (n / 2 ^ p.low % 2 ^ p.width) in
    let is : z ≡ nth zs p.field = ap pos bits ∙ pos_again (nth zs p.field) fit.0 in
    let here : AreRight nf zs (set before p.field z) (λ k. is_part k ps || later k)
    = right_field nf zs before p.field z (λ k. is_part k ps || later k) g.field is
    (record {
      count = r.count;
      few = r.few;
      each = λ k h. r.each k (first_of (nat_eq k p.field) (is_part k ps) (later k) h);
    }) in
    let e1 : high * 2 ^ (p.width + p.low) ≡ high * 2 ^ p.width * 2 ^ p.low
    = ap (λ m. high * m) (pow-add 2 p.width p.low)
    ∙ sym (mul_assoc high (2 ^ p.width) (2 ^ p.low)) in
    let e2 : (high * 2 ^ p.width + b) * 2 ^ p.low ≡ high * 2 ^ p.width * 2 ^ p.low + b * 2 ^ p.low
    = add-mul (high * 2 ^ p.width) b (2 ^ p.low) in
    let e3 : n ≡ (high * 2 ^ p.width + b) * 2 ^ p.low + joined ps zs
    = omega (arith, same, e1, e2) in
    let e4 : n ≡ (high * 2 ^ p.width + b) * 2 ^ width_of ps + joined ps zs = e3
    ∙ ap (λ l. (high * 2 ^ p.width + b) * 2 ^ l + joined ps zs) g.low in
    subst (λ m. AreRight nf zs (split ps m (set before p.field z)) later) (sym e4)
    (right_parts nf ps zs (set before p.field z) (high * 2 ^ p.width + b) later g.rest fit.2 here)
  where
    first_of : (a b c : Bool) → (a || (b || c)) ≡ false → ((a || b) || c) ≡ false
    first_of true b c e = e
    first_of false b c e = e

right_link : (nf : ℕ) (parts : List Part) (l : Link) (zs given before : List ℤ) (later : ℕ → Bool)
    → is_link nf parts l ≡ true → IsFit parts l zs
    → AreRight nf zs before (λ k. says parts l k || later k)
    → AreRight nf zs (filled_by parts l (column_of parts l zs given) before) later
right_link nf parts (Field f) zs given before later e fit r
    = right_field nf zs before f _ later (ltb-true f nf e) refl r
right_link nf parts (Opposite f) zs given before later e fit r
    = right_field nf zs before f _ later (ltb-true f nf e) (omega (arith, ints)) r
right_link nf parts (Raised f plus) zs given before later e fit r =
    let a = both (nat_lt f nf && int_le (pos 0 -ℤ pos 1000000) plus)
    (int_le plus (pos 1000000)) e in
    let b = both (nat_lt f nf) (int_le (pos 0 -ℤ pos 1000000) plus) a.0 in
    right_field nf zs before f _ later (ltb-true f nf b.0) (omega (arith, ints)) r
right_link nf parts (Parts first count) zs given before later e fit r =
    let a = both (nat_le (first + count) (length parts))
    (are_parts nf (parts_from parts first count)) e in
    let ps = parts_from parts first count in
    let zero : 0 * 2 ^ width_of ps + joined ps zs ≡ joined ps zs = omega arith in
    subst (λ n. AreRight nf zs (split ps n before) later) zero
    (right_parts nf ps zs before 0 later a.1 fit r)
right_link nf parts (Given place) zs given before later e fit r = r
right_link nf parts (Fixed n) zs given before later e fit r = r

pub right_all : (nf : ℕ) (parts : List Part) (ls : List Link) (zs given before : List ℤ)
    → are_links nf parts ls ≡ true → AreFit parts ls zs
    → AreRight nf zs before (say parts ls)
    → filled parts ls (columns_of parts ls zs given) before ≡ zs
unfolding filled columns_of
right_all nf parts [] zs given before e fit r
    = ext_get_or (pos 0) before zs r.count (λ k h. r.each k refl)
right_all nf parts (l ∷ ls) zs given before e fit r =
    let a = both (is_link nf parts l) (are_links nf parts ls) e in
    right_all nf parts ls zs given
    (filled_by parts l (column_of parts l zs given) before) a.1 fit.1
    (right_link nf parts l zs given before (say parts ls) a.0 fit.0 r)

-- ---- the steps of the code

tail_is : {A : Type 0} (xs : List A) → take (suc (length xs) - 1) xs ≡ xs
tail_is xs = take_all (suc (length xs) - 1) xs (omega arith)

pub joined_first : (ps : List Part) (zs : List ℤ) (d : Part) → 1 ≤ length ps
    → joined ps zs ≡ unsigned_abs (nth zs (get_or ps 0 d).field) * 2 ^ (get_or ps 0 d).low + joined
    (take (length ps - 1) (drop 1 ps)) zs
unfolding joined
joined_first [] zs d h = absurd (omega arith)
joined_first (p ∷ ps) zs d h
    = ap (λ qs. unsigned_abs (nth zs p.field) * 2 ^ p.low + joined qs zs) (sym (tail_is ps))

pub split_first : (ps : List Part) (n : ℕ) (zs : List ℤ) (d : Part) → 1 ≤ length ps
    → split ps n zs ≡ split (take (length ps - 1) (drop 1 ps)) n
    (set zs (get_or ps 0 d).field
    (pos (n / 2 ^ (get_or ps 0 d).low % 2 ^ (get_or ps 0 d).width)))
unfolding split
split_first [] n zs d h = absurd (omega arith)
split_first (p ∷ ps) n zs d h
    = ap (λ qs. split qs n (set zs p.field (pos (n / 2 ^ p.low % 2 ^ p.width)))) (sym (tail_is ps))

pub width_few : (nf : ℕ) (ps : List Part) → are_parts nf ps ≡ true → width_of ps ≤ 32
width_few nf [] e = omega arith
width_few nf (p ∷ ps) e = let g = good nf p ps e in omega (arith, g.most, g.low)

pub joined_small : (nf : ℕ) (ps : List Part) (zs : List ℤ) → are_parts nf ps ≡ true
    → PartsFit ps zs → joined ps zs < 2 ^ 32
joined_small nf ps zs e fit =
    let power : 2 ^ width_of ps ≤ 2 ^ 32 = pow-le-pow_right (omega arith) (width_few nf ps e) in
    let less = joined-lt nf ps zs e fit in
    omega arith

-- ---- columns come back

unsaid : (k f : ℕ) → nat_eq k f ≡ false → k ≢ f
unsaid k f e same = let h : nat_eq k f ≡ true = grind (arith, nat_tests) in cc

kept_parts : (ps : List Part) (n : ℕ) (zs : List ℤ) (k : ℕ) → is_part k ps ≡ false
    → nth (split ps n zs) k ≡ nth zs k
unfolding split
kept_parts [] n zs k e = refl
kept_parts (p ∷ ps) n zs k e =
    let a = neither (nat_eq k p.field) (is_part k ps) e in
    kept_parts ps n (set zs p.field (pos (n / 2 ^ p.low % 2 ^ p.width))) k a.1
    ∙ get_or-set_other zs p.field k _ (pos 0) (unsaid k p.field a.0)

split_length : (ps : List Part) (n : ℕ) (zs : List ℤ) → length (split ps n zs) ≡ length zs
unfolding split
split_length [] n zs = refl
split_length (p ∷ ps) n zs = split_length ps n (set zs p.field (pos (n / 2 ^ p.low % 2 ^ p.width)))
    ∙ length-set zs p.field _

kept_link : (parts : List Part) (l : Link) (z : ℤ) (zs : List ℤ) (k : ℕ) → says parts l k ≡ false
    → nth (filled_by parts l z zs) k ≡ nth zs k
kept_link parts (Field f) z zs k e = get_or-set_other zs f k _ (pos 0) (unsaid k f e)
kept_link parts (Opposite f) z zs k e = get_or-set_other zs f k _ (pos 0) (unsaid k f e)
kept_link parts (Raised f plus) z zs k e = get_or-set_other zs f k _ (pos 0) (unsaid k f e)
kept_link parts (Parts first count) z zs k e
    = kept_parts (parts_from parts first count) (unsigned_abs z) zs k e
kept_link parts (Given place) z zs k e = refl
kept_link parts (Fixed n) z zs k e = refl

link_length : (parts : List Part) (l : Link) (z : ℤ) (zs : List ℤ)
    → length (filled_by parts l z zs) ≡ length zs
link_length parts (Field f) z zs = length-set zs f _
link_length parts (Opposite f) z zs = length-set zs f _
link_length parts (Raised f plus) z zs = length-set zs f _
link_length parts (Parts first count) z zs
    = split_length (parts_from parts first count) (unsigned_abs z) zs
link_length parts (Given place) z zs = refl
link_length parts (Fixed n) z zs = refl

kept_all : (parts : List Part) (ls : List Link) (cs zs : List ℤ) (k : ℕ) → say parts ls k ≡ false
    → nth (filled parts ls cs zs) k ≡ nth zs k
unfolding filled
kept_all parts [] cs zs k e = refl
kept_all parts (l ∷ ls) [] zs k e = refl
kept_all parts (l ∷ ls) (c ∷ cs) zs k e =
    let a = neither (says parts l k) (say parts ls k) e in
    kept_all parts ls cs (filled_by parts l c zs) k a.1 ∙ kept_link parts l c zs k a.0

plain : (b : Bool) → not b ≡ true → b ≡ false
plain true e = absurd cc
plain false e = refl

-- the numbers of parts that are apart are those of the bits
joined_split : (nf : ℕ) (ps : List Part) (n : ℕ) (zs : List ℤ) → are_parts nf ps ≡ true
    → parts_once ps ≡ true → length zs ≡ nf
    → joined ps (split ps n zs) ≡ n % 2 ^ width_of ps
unfolding split joined
joined_split nf [] n zs e once count = sym (mod-one n)
joined_split nf (p ∷ ps) n zs e once count =
    let g = good nf p ps e in
    let a = both (not (is_part p.field ps)) (parts_once ps) once in
    let v = n / 2 ^ p.low % 2 ^ p.width in
    let zs' = set zs p.field (pos v) in
    let here : nth (split ps n zs') p.field ≡ pos v = kept_parts ps n zs' p.field (plain _ a.0)
    ∙ get_or-set_same zs p.field (pos v) (pos 0) (omega (arith, g.field, count)) in
    let there : joined ps (split ps n zs') ≡ n % 2 ^ p.low
    = joined_split nf ps n zs' g.rest a.1 (length-set zs p.field (pos v) ∙ count)
    ∙ ap (λ l. n % 2 ^ l) (sym g.low) in
    ap (λ y. unsigned_abs y * 2 ^ p.low + joined ps (split ps n zs')) here
    ∙ ap (λ m. v * 2 ^ p.low + m) there
    ∙ sym (mod-pow-add n p.width p.low) ∙ ap (λ l. n % 2 ^ (p.width + l)) g.low

-- the column of a link, of numbers in which none of its fields is changed any more
joined_kept : (parts : List Part) (ls : List Link) (cs : List ℤ) (ps : List Part) (zs : List ℤ)
    → parts_apart parts ls ps ≡ true
    → joined ps (filled parts ls cs zs) ≡ joined ps zs
unfolding joined
joined_kept parts ls cs [] zs e = refl
joined_kept parts ls cs (p ∷ ps) zs e =
    let a = both (not (say parts ls p.field)) (parts_apart parts ls ps) e in
    ap (λ y. unsigned_abs y * 2 ^ p.low + joined ps (filled parts ls cs zs))
    (kept_all parts ls cs zs p.field (plain _ a.0))
    ∙ ap (λ m. unsigned_abs (nth zs p.field) * 2 ^ p.low + m) (joined_kept parts ls cs ps zs a.1)

back_field : (nf : ℕ) (parts : List Part) (ls : List Link) (cs zs : List ℤ) (f : ℕ) (z : ℤ)
    → nat_lt f nf ≡ true → not (say parts ls f) ≡ true → length zs ≡ nf
    → nth (filled parts ls cs (set zs f z)) f ≡ z
back_field nf parts ls cs zs f z good apart count =
    let few = ltb-true f nf good in
    kept_all parts ls cs (set zs f z) f (plain _ apart)
    ∙ get_or-set_same zs f z (pos 0) (omega (arith, few, count))

neg_twice : (z : ℤ) → neg_ℤ (neg_ℤ z) ≡ z
neg_twice z = omega (arith, ints)

back_link : (nf : ℕ) (parts : List Part) (l : Link) (ls : List Link) (z : ℤ) (cs given zs : List ℤ)
    → is_link nf parts l ≡ true → is_apart parts l ls ≡ true
    → IsStated parts l given z → length zs ≡ nf
    → column_of parts l (filled parts ls cs (filled_by parts l z zs)) given ≡ z
back_link nf parts (Field f) ls z cs given zs e apart said count
    = back_field nf parts ls cs zs f z e apart count
back_link nf parts (Opposite f) ls z cs given zs e apart said count
    = ap neg_ℤ (back_field nf parts ls cs zs f (neg_ℤ z) e apart count) ∙ neg_twice z
back_link nf parts (Raised f plus) ls z cs given zs e apart said count =
    let a = both (nat_lt f nf && int_le (pos 0 -ℤ pos 1000000) plus)
    (int_le plus (pos 1000000)) e in
    let b = both (nat_lt f nf) (int_le (pos 0 -ℤ pos 1000000) plus) a.0 in
    let again : (z -ℤ plus) +ℤ plus ≡ z = omega (arith, ints) in
    ap (λ y. y +ℤ plus) (back_field nf parts ls cs zs f (z -ℤ plus) b.0 apart count) ∙ again
back_link nf parts (Parts first count) ls z cs given zs e apart said few =
    let ps = parts_from parts first count in
    let a = both (nat_le (first + count) (length parts)) (are_parts nf ps) e in
    let b = both (parts_once ps) (parts_apart parts ls ps) apart in
    ap pos (joined_kept parts ls cs ps (split ps (unsigned_abs z) zs) b.1
    ∙ joined_split nf ps (unsigned_abs z) zs a.1 b.0 few ∙ mod-eq_of_lt said.1)
    ∙ pos_again z said.0
back_link nf parts (Given place) ls z cs given zs e apart said count = sym said
back_link nf parts (Fixed n) ls z cs given zs e apart said count = sym said

pub back_all : (nf : ℕ) (parts : List Part) (ls : List Link) (cs given zs : List ℤ)
    → are_links nf parts ls ≡ true → are_apart parts ls ≡ true
    → AreStated parts ls given cs → length zs ≡ nf
    → columns_of parts ls (filled parts ls cs zs) given ≡ cs
unfolding filled columns_of
back_all nf parts [] [] given zs e apart said count = refl
back_all nf parts [] (c ∷ cs) given zs e apart said count = absurd said
back_all nf parts (l ∷ ls) [] given zs e apart said count = absurd said
back_all nf parts (l ∷ ls) (c ∷ cs) given zs e apart said count =
    let a = both (is_link nf parts l) (are_links nf parts ls) e in
    let b = both (is_apart parts l ls) (are_apart parts ls) apart in
    let here = back_link nf parts l ls c cs given zs a.0 b.0 said.0 count in
    let there = back_all nf parts ls cs given (filled_by parts l c zs) a.1 b.1 said.1
    (link_length parts l c zs ∙ count) in
    ap (λ z. z ∷ columns_of parts ls (filled parts ls cs (filled_by parts l c zs)) given) here
    ∙ ap (λ r. c ∷ r) there

-- ---- ranges

pub inside_at : (fs : List TableField) (zs : List ℤ) (k : ℕ) → AreInRange fs zs → k < length fs
    → IsInRange (field_at fs k) (nth zs k)
inside_at [] zs k h few = absurd (omega arith)
inside_at (f ∷ fs) [] k h few = absurd h
inside_at (f ∷ fs) (z ∷ zs) zero h few = h.0
inside_at (f ∷ fs) (z ∷ zs) (suc k) h few = inside_at fs zs k h.1 (omega arith)

middling : (f : TableField) (z : ℤ) → is_middling f ≡ true → IsInRange f z → unsigned_abs z < 2 ^ 33
middling f z e h =
    let low : neg_ℤ (pos 8589934591) ≤ℤ f.low = grind (arith, nat_tests, ints) in
    let high : f.high ≤ℤ pos 8589934591 = grind (arith, nat_tests, ints) in
    middling_by z (omega (arith, ints, h.0)) (omega (arith, ints, h.1))
  where
    middling_by : (z : ℤ) → neg_ℤ (pos 8589934591) ≤ℤ z → z ≤ℤ pos 8589934591
        → unsigned_abs z < 2 ^ 33
    middling_by (pos n) a b = omega (arith, ints)
    middling_by (negsuc n) a b = omega (arith, ints)

few_by : (z : ℤ) (m : ℕ) → pos 0 ≤ℤ z → z <ℤ pos m → unsigned_abs z < m
few_by (pos n) m a b = omega (arith, ints)
few_by (negsuc n) m a b = absurd (omega (arith, ints))

pub fit_parts : (fs : List TableField) (ps : List Part) (zs : List ℤ)
    → are_parts (length fs) ps ≡ true → ranges_fit_parts fs ps ≡ true → AreInRange fs zs
    → PartsFit ps zs
fit_parts fs [] zs e r h = tt
fit_parts fs (p ∷ ps) zs e r h =
    let g = good (length fs) p ps e in
    let f = field_at fs p.field in
    let a = both (int_le (pos 0) f.low && int_lt f.high (pos (2 ^ p.width)))
    (ranges_fit_parts fs ps) r in
    let b = both (int_le (pos 0) f.low) (int_lt f.high (pos (2 ^ p.width))) a.0 in
    let i = inside_at fs zs p.field h g.field in
    let low : pos 0 ≤ℤ f.low = grind (arith, nat_tests, ints, b.0) in
    let high : f.high <ℤ pos (2 ^ p.width) = grind (arith, nat_tests, ints, b.1) in
    let from : pos 0 ≤ℤ nth zs p.field = omega (arith, ints, low, i.0) in
    let to : nth zs p.field <ℤ pos (2 ^ p.width) = omega (arith, ints, high, i.1) in
    (from, few_by (nth zs p.field) (2 ^ p.width) from to, fit_parts fs ps zs g.rest a.1 h)

fit_link : (fs : List TableField) (parts : List Part) (l : Link) (zs : List ℤ)
    → is_link (length fs) parts l ≡ true → range_fits fs parts l ≡ true → AreInRange fs zs
    → IsFit parts l zs
fit_link fs parts (Field f) zs e r h = tt
fit_link fs parts (Opposite f) zs e r h
    = middling (field_at fs f) (nth zs f) r (inside_at fs zs f h (ltb-true f (length fs) e))
fit_link fs parts (Raised f plus) zs e r h =
    let a = both (nat_lt f (length fs) && int_le (pos 0 -ℤ pos 1000000) plus)
    (int_le plus (pos 1000000)) e in
    let b = both (nat_lt f (length fs)) (int_le (pos 0 -ℤ pos 1000000) plus) a.0 in
    middling (field_at fs f) (nth zs f) r (inside_at fs zs f h (ltb-true f (length fs) b.0))
fit_link fs parts (Parts first count) zs e r h =
    let a = both (nat_le (first + count) (length parts))
    (are_parts (length fs) (parts_from parts first count)) e in
    fit_parts fs (parts_from parts first count) zs a.1 r h
fit_link fs parts (Given place) zs e r h = tt
fit_link fs parts (Fixed n) zs e r h = tt

pub fit_all : (fs : List TableField) (parts : List Part) (ls : List Link) (zs : List ℤ)
    → are_links (length fs) parts ls ≡ true → ranges_fit fs parts ls ≡ true → AreInRange fs zs
    → AreFit parts ls zs
fit_all fs parts [] zs e r h = tt
fit_all fs parts (l ∷ ls) zs e r h =
    let a = both (is_link (length fs) parts l) (are_links (length fs) parts ls) e in
    let b = both (range_fits fs parts l) (ranges_fit fs parts ls) r in
    (fit_link fs parts l zs a.0 b.0 h, fit_all fs parts ls zs a.1 b.1 h)

-- ---- links behind others

pub columns_append : (parts : List Part) (ls ms : List Link) (zs given : List ℤ)
    → columns_of parts (ls ++ ms) zs given ≡ columns_of parts ls zs given
    ++ columns_of parts ms zs given
unfolding columns_of
columns_append parts [] ms zs given = refl
columns_append parts (l ∷ ls) ms zs given =
    ap (λ cs. column_of parts l zs given ∷ cs) (columns_append parts ls ms zs given)

pub columns_length : (parts : List Part) (ls : List Link) (zs given : List ℤ)
    → length (columns_of parts ls zs given) ≡ length ls
unfolding columns_of
columns_length parts [] zs given = refl
columns_length parts (l ∷ ls) zs given = ap suc (columns_length parts ls zs given)

-- column k
pub column_at : (parts : List Part) (ls : List Link) (k : ℕ) (zs given : List ℤ) (d : Link)
    → k < length ls → nth (columns_of parts ls zs given) k ≡ column_of parts
    (get_or ls k d) zs given
unfolding columns_of
column_at parts [] k zs given d few = absurd (omega arith)
column_at parts (l ∷ ls) zero zs given d few = refl
column_at parts (l ∷ ls) (suc k) zs given d few = column_at parts ls k zs given d (omega arith)

pub filled_append : (parts : List Part) (ls ms : List Link) (cs ds zs : List ℤ)
    → length cs ≡ length ls
    → filled parts (ls ++ ms) (cs ++ ds) zs ≡ filled parts ms ds (filled parts ls cs zs)
unfolding filled
filled_append parts [] ms [] ds zs e = refl
filled_append parts [] ms (c ∷ cs) ds zs e = absurd (omega arith)
filled_append parts (l ∷ ls) ms [] ds zs e = absurd (omega arith)
filled_append parts (l ∷ ls) ms (c ∷ cs) ds zs e =
    filled_append parts ls ms cs ds (filled_by parts l c zs) (omega arith)

pub filled_length : (parts : List Part) (ls : List Link) (cs zs : List ℤ)
    → length (filled parts ls cs zs) ≡ length zs
unfolding filled
filled_length parts [] cs zs = refl
filled_length parts (l ∷ ls) [] zs = refl
filled_length parts (l ∷ ls) (c ∷ cs) zs =
    filled_length parts ls cs (filled_by parts l c zs) ∙ link_length parts l c zs

pub links_append : (n : ℕ) (parts : List Part) (ls ms : List Link)
    → are_links n parts (ls ++ ms) ≡ true
    → (are_links n parts ls ≡ true) × (are_links n parts ms ≡ true)
links_append n parts [] ms e = (refl, e)
links_append n parts (l ∷ ls) ms e =
    let a = both (is_link n parts l) (are_links n parts (ls ++ ms)) e in
    let b = links_append n parts ls ms a.1 in
    (rw (a.0, b.0) refl, b.1)

pub fit_append : (parts : List Part) (ls ms : List Link) (zs : List ℤ) → AreFit parts ls zs
    → AreFit parts ms zs → AreFit parts (ls ++ ms) zs
fit_append parts [] ms zs a b = b
fit_append parts (l ∷ ls) ms zs a b = (a.0, fit_append parts ls ms zs a.1 b)

pub said_append : (parts : List Part) (ls ms : List Link) (given cs ds : List ℤ)
    → AreStated parts ls given cs → AreStated parts ms given ds
    → AreStated parts (ls ++ ms) given (cs ++ ds)
said_append parts [] ms given [] ds a b = b
said_append parts [] ms given (c ∷ cs) ds a b = absurd a
said_append parts (l ∷ ls) ms given [] ds a b = absurd a
said_append parts (l ∷ ls) ms given (c ∷ cs) ds a b
    = (a.0, said_append parts ls ms given cs ds a.1 b)
