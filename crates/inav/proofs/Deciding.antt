-- The tests on page parts, and the words of a page part as a function of a list.
use Rattle.std.proofs.Common.{◌≡◌, ℕ, ◌+◌, ◌<◌, ◌==◌, ◌&&◌, ◌||◌, ◌⊎◌, ◌↔◌, nat_lt, Bool, true, false, cond, if◌then◌else◌, List, [], ◌∷◌, inl, inr, refl, sym, ap, subst, ◌∙◌, ⊎_elim, arith}
use Rattle.std.proofs.lemmas.Bool.{and_parts, eqb-true, eq-eqb}
use Rattle.std.specs.Prelude.{Contains}
use Rattle.nav_eph.specs.Satellite.{Satellite}
use Rattle.nav_eph.specs.declared.sat.System.{System}
use Rattle.nav_eph.specs.declared.sat.System.TheVariants.{Gps, Gal}
use Rattle.inav.specs.declared.half.HalfKind.{HalfKind}
use Rattle.inav.specs.declared.half.HalfKind.TheVariants.{Even, Odd}
use Rattle.nav_eph.specs.declared.signal.Signal.{Signal}
use Rattle.nav_eph.specs.declared.signal.Signal.TheVariants.{E1b, E5b}
use Rattle.inav.specs.Pages.{kind_of, has_right_crc}
use Rattle.inav.specs.Received.{StampedHalf, MakeWord, ArePartners, AreWordsWith, IsAbove, IsAscending, same_system, same_signal, same_sender, same_half, has_half, is_even, makes_word, are_partners, put_half, partners_of, words_of}
use Rattle.inav.proofs.Membership.{In, contains_from_In, In-from_contains}
use Rattle.inav.proofs.PageNumbers.{right_to, right_from}
use Rattle.inav.proofs.InavPageSurface.{not_both}

both : (a b : Bool) → a ≡ true → b ≡ true → (a && b) ≡ true
both a b e f = rw (e, f) refl

either : (a b : Bool) → (a || b) ≡ true → (a ≡ true) ⊎ (b ≡ true)
either true b h = inl refl
either false b h = inr h

first : (a b : Bool) → a ≡ true → (a || b) ≡ true
first a b e = rw e refl

second : (a b : Bool) → b ≡ true → (a || b) ≡ true
second true b e = refl
second false b e = e

-- ---- equality of page parts

system_to : (a b : System) → same_system a b ≡ true → a ≡ b
system_to Gps Gps h = refl
system_to Gps Gal h = cc h
system_to Gal Gps h = cc h
system_to Gal Gal h = refl

system_self : (a : System) → same_system a a ≡ true
system_self Gps = refl
system_self Gal = refl

signal_to : (a b : Signal) → same_signal a b ≡ true → a ≡ b
signal_to E1b E1b h = refl
signal_to E1b E5b h = cc h
signal_to E5b E1b h = cc h
signal_to E5b E5b h = refl

signal_self : (a : Signal) → same_signal a a ≡ true
signal_self E1b = refl
signal_self E5b = refl

sender_to : (a b : StampedHalf) → same_sender a b ≡ true → (a.sat ≡ b.sat) × (a.signal ≡ b.signal)
sender_to a b h =
    let p = and_parts (same_system a.sat.system b.sat.system) (a.sat.number == b.sat.number && same_signal a.signal b.signal) h in
    let q = and_parts (a.sat.number == b.sat.number) (same_signal a.signal b.signal) p.1 in
    let system = system_to a.sat.system b.sat.system p.0 in
    let number = eqb-true a.sat.number b.sat.number q.0 in
    (λ i. record { system = system i; number = number i }, signal_to a.signal b.signal q.1)

sender_from : (a b : StampedHalf) → a.sat ≡ b.sat → a.signal ≡ b.signal → same_sender a b ≡ true
sender_from a b sat signal =
    let P : Satellite → Type 0 = λ s. same_system a.sat.system s.system ≡ true in
    let Q : Signal → Type 0 = λ s. same_signal a.signal s ≡ true in
    both (same_system a.sat.system b.sat.system) (a.sat.number == b.sat.number && same_signal a.signal b.signal)
    (subst P sat (system_self a.sat.system))
    (both (a.sat.number == b.sat.number) (same_signal a.signal b.signal)
    (eq-eqb a.sat.number b.sat.number (ap (λ (s : Satellite). s.number) sat))
    (subst Q signal (signal_self a.signal)))

pub half_to : (a b : StampedHalf) → same_half a b ≡ true → a ≡ b
unfolding same_half
half_to a b h =
    let p = and_parts (a.stamp == b.stamp) (a.half == b.half && same_sender a b) h in
    let q = and_parts (a.half == b.half) (same_sender a b) p.1 in
    let stamp = eqb-true a.stamp b.stamp p.0 in
    let half = eqb-true a.half b.half q.0 in
    let sender = sender_to a b q.1 in
    λ i. record { stamp = stamp i; sat = sender.0 i; signal = sender.1 i; half = half i }

pub half_from : (a b : StampedHalf) → a ≡ b → same_half a b ≡ true
unfolding same_half
half_from a b e =
    both (a.stamp == b.stamp) (a.half == b.half && same_sender a b)
    (eq-eqb a.stamp b.stamp (ap (λ (s : StampedHalf). s.stamp) e))
    (both (a.half == b.half) (same_sender a b)
    (eq-eqb a.half b.half (ap (λ (s : StampedHalf). s.half) e))
    (sender_from a b (ap (λ (s : StampedHalf). s.sat) e) (ap (λ (s : StampedHalf). s.signal) e)))

-- ---- among those of a list

has_to : (xs : List StampedHalf) (half : StampedHalf) → has_half xs half ≡ true → In xs half
unfolding has_half
has_to [] half h = cc h
has_to (x ∷ xs) half h =
    ⊎_elim
    (λ (here : same_half x half ≡ true). inl (half_to x half here))
    (λ (later : has_half xs half ≡ true). inr (has_to xs half later))
    (either (same_half x half) (has_half xs half) h)

has_from : (xs : List StampedHalf) (half : StampedHalf) → In xs half → has_half xs half ≡ true
unfolding has_half
has_from [] half h = absurd h
has_from (x ∷ xs) half h =
    ⊎_elim
    (λ (here : x ≡ half). first (same_half x half) (has_half xs half) (half_from x half here))
    (λ (later : In xs half). second (same_half x half) (has_half xs half) (has_from xs half later))
    h

pub has_half_decides : (xs : List StampedHalf) (half : StampedHalf) → (has_half xs half ≡ true) ↔ Contains xs half
has_half_decides xs half =
    (λ h. contains_from_In xs half (has_to xs half h), λ h. has_from xs half (In-from_contains xs half h))

-- ---- a word

even_kind : (kind : HalfKind) → is_even kind ≡ true → kind ≡ Even
even_kind Even h = refl
even_kind Odd h = cc h

odd_kind : (kind : HalfKind) → (if is_even kind then false else true) ≡ true → kind ≡ Odd
odd_kind Even h = cc h
odd_kind Odd h = refl

pub word_to : (even odd : StampedHalf) → makes_word even odd ≡ true → MakeWord even odd
unfolding makes_word
word_to even odd h =
    let kinds = is_even (kind_of even.half) && (if is_even (kind_of odd.half) then false else true) in
    let rest = same_sender odd even && has_right_crc even.half odd.half in
    let p = and_parts kinds (odd.stamp == even.stamp + 1 && rest) h in
    let k = and_parts (is_even (kind_of even.half)) (if is_even (kind_of odd.half) then false else true) p.0 in
    let q = and_parts (odd.stamp == even.stamp + 1) rest p.1 in
    let r = and_parts (same_sender odd even) (has_right_crc even.half odd.half) q.1 in
    let sender = sender_to odd even r.0 in
    record {
      is_even = even_kind (kind_of even.half) k.0;
      is_odd = odd_kind (kind_of odd.half) k.1;
      stamp = eqb-true odd.stamp (even.stamp + 1) q.0;
      sat = sender.0;
      signal = sender.1;
      crc = right_to even.half odd.half r.1;
    }

pub word_from : (even odd : StampedHalf) → MakeWord even odd → makes_word even odd ≡ true
unfolding makes_word
word_from even odd m =
    let first_kind : is_even (kind_of even.half) ≡ true = ap is_even m.is_even in
    let second_kind : (if is_even (kind_of odd.half) then false else true) ≡ true =
    ap (λ (k : HalfKind). if is_even k then false else true) m.is_odd in
    let rest = same_sender odd even && has_right_crc even.half odd.half in
    both (is_even (kind_of even.half) && (if is_even (kind_of odd.half) then false else true))
    (odd.stamp == even.stamp + 1 && rest)
    (both (is_even (kind_of even.half)) (if is_even (kind_of odd.half) then false else true) first_kind second_kind)
    (both (odd.stamp == even.stamp + 1) rest (eq-eqb odd.stamp (even.stamp + 1) m.stamp)
    (both (same_sender odd even) (has_right_crc even.half odd.half) (sender_from odd even m.sat m.signal)
    (right_from even.half odd.half m.crc)))

pub makes_word_decides : (even odd : StampedHalf) → (makes_word even odd ≡ true) ↔ MakeWord even odd
makes_word_decides even odd = (word_to even odd, word_from even odd)

pub partners_to : (one other : StampedHalf) → are_partners one other ≡ true → ArePartners one other
unfolding are_partners
partners_to one other h =
    ⊎_elim
    (λ (e : makes_word one other ≡ true). inl (word_to one other e))
    (λ (e : makes_word other one ≡ true). inr (word_to other one e))
    (either (makes_word one other) (makes_word other one) h)

pub partners_from : (one other : StampedHalf) → ArePartners one other → are_partners one other ≡ true
unfolding are_partners
partners_from one other h =
    ⊎_elim
    (λ (m : MakeWord one other). first (makes_word one other) (makes_word other one) (word_from one other m))
    (λ (m : MakeWord other one). second (makes_word one other) (makes_word other one) (word_from other one m))
    h

pub are_partners_decides : (one other : StampedHalf) → (are_partners one other ≡ true) ↔ ArePartners one other
are_partners_decides one other = (partners_to one other, partners_from one other)

-- ---- inserting a page part into an ascending list

put_from : (half : StampedHalf) (xs : List StampedHalf) (x : StampedHalf) → In (put_half half xs) x → (half ≡ x) ⊎ In xs x
unfolding put_half
put_from half [] x h = h
put_from half (y ∷ ys) x h = by (nat_lt half.half y.half) (nat_lt y.half half.half) (λ later. put_from half ys x later) h
  where
    by : (a b : Bool) → (In (put_half half ys) x → (half ≡ x) ⊎ In ys x)
        → In (cond a (half ∷ y ∷ ys) (cond b (y ∷ put_half half ys) (y ∷ ys))) x → (half ≡ x) ⊎ In (y ∷ ys) x
    by true b rest there = there
    by false true rest there =
        ⊎_elim
        (λ (here : y ≡ x). inr (inl here))
        (λ (later : In (put_half half ys) x).
        ⊎_elim (λ (is : half ≡ x). inl is) (λ (was : In ys x). inr (inr was)) (rest later))
        there
    by false false rest there = inr there

put_keeps : (half : StampedHalf) (xs : List StampedHalf) (x : StampedHalf) → In xs x → In (put_half half xs) x
unfolding put_half
put_keeps half [] x h = absurd h
put_keeps half (y ∷ ys) x h = by (nat_lt half.half y.half) (nat_lt y.half half.half) (λ later. put_keeps half ys x later)
  where
    by : (a b : Bool) → (In ys x → In (put_half half ys) x)
        → In (cond a (half ∷ y ∷ ys) (cond b (y ∷ put_half half ys) (y ∷ ys))) x
    by true b rest = inr h
    by false true rest = ⊎_elim (λ (here : y ≡ x). inl here) (λ (later : In ys x). inr (rest later)) h
    by false false rest = h

-- it is inserted where no other part has its bits
put_stands : (half : StampedHalf) (xs : List StampedHalf) → ((x : StampedHalf) → In xs x → x.half ≡ half.half → x ≡ half)
    → In (put_half half xs) half
unfolding put_half
put_stands half [] one = inl refl
put_stands half (y ∷ ys) one =
    by (nat_lt half.half y.half) (nat_lt y.half half.half) refl refl (put_stands half ys (λ x h. one x (inr h)))
  where
    by : (a b : Bool) → nat_lt half.half y.half ≡ a → nat_lt y.half half.half ≡ b → In (put_half half ys) half
        → In (cond a (half ∷ y ∷ ys) (cond b (y ∷ put_half half ys) (y ∷ ys))) half
    by true b ea eb rest = inl refl
    by false true ea eb rest = inr rest
    by false false ea eb rest = inl (one y (inl refl) (grind (arith)))

put_above : (bits : ℕ) (half : StampedHalf) (xs : List StampedHalf) → bits < half.half → IsAbove bits xs → IsAbove bits (put_half half xs)
unfolding put_half
put_above bits half [] low h = (low, tt)
put_above bits half (y ∷ ys) low h = by (nat_lt half.half y.half) (nat_lt y.half half.half) (put_above bits half ys low h.1)
  where
    by : (a b : Bool) → IsAbove bits (put_half half ys) → IsAbove bits (cond a (half ∷ y ∷ ys) (cond b (y ∷ put_half half ys) (y ∷ ys)))
    by true b rest = (low, h)
    by false true rest = (h.0, rest)
    by false false rest = h

above_less : (low high : ℕ) (xs : List StampedHalf) → low < high → IsAbove high xs → IsAbove low xs
above_less low high [] less h = tt
above_less low high (x ∷ xs) less h = (let above = h.0 in omega arith, above_less low high xs less h.1)

put_ascends : (half : StampedHalf) (xs : List StampedHalf) → IsAscending xs → IsAscending (put_half half xs)
unfolding put_half
put_ascends half [] h = (tt, tt)
put_ascends half (y ∷ ys) h = by (nat_lt half.half y.half) (nat_lt y.half half.half) refl refl (put_ascends half ys h.1)
  where
    by : (a b : Bool) → nat_lt half.half y.half ≡ a → nat_lt y.half half.half ≡ b → IsAscending (put_half half ys)
        → IsAscending (cond a (half ∷ y ∷ ys) (cond b (y ∷ put_half half ys) (y ∷ ys)))
    by true b ea eb rest =
        let low : half.half < y.half = grind (arith) in
        ((low, above_less half.half y.half ys low h.0), h)
    by false true ea eb rest = (put_above y.half half ys (grind (arith)) h.0, rest)
    by false false ea eb rest = h

-- ---- partners

-- partners with the same bits are equal
one_partner : (taken a b : StampedHalf) → ArePartners taken a → ArePartners taken b → a.half ≡ b.half → a ≡ b
one_partner taken a b (inl m) (inl n) e =
    let stamp : a.stamp ≡ b.stamp = m.stamp ∙ sym n.stamp in
    let sat : a.sat ≡ b.sat = m.sat ∙ sym n.sat in
    let signal : a.signal ≡ b.signal = m.signal ∙ sym n.signal in
    λ i. record { stamp = stamp i; sat = sat i; signal = signal i; half = e i }
one_partner taken a b (inr m) (inr n) e =
    let first_stamp : taken.stamp ≡ a.stamp + 1 = m.stamp in
    let second_stamp : taken.stamp ≡ b.stamp + 1 = n.stamp in
    let stamp : a.stamp ≡ b.stamp = omega arith in
    let sat : a.sat ≡ b.sat = sym m.sat ∙ n.sat in
    let signal : a.signal ≡ b.signal = sym m.signal ∙ n.signal in
    λ i. record { stamp = stamp i; sat = sat i; signal = signal i; half = e i }
one_partner taken a b (inl m) (inr n) e = absurd (not_both (kind_of taken.half) m.is_even n.is_odd)
one_partner taken a b (inr m) (inl n) e = absurd (not_both (kind_of taken.half) n.is_even m.is_odd)

partner_from : (xs : List StampedHalf) (taken x : StampedHalf) → In (partners_of xs taken) x → In xs x × ArePartners taken x
unfolding partners_of
partner_from [] taken x h = absurd h
partner_from (y ∷ ys) taken x h = by (are_partners taken y) refl (λ there. partner_from ys taken x there) h
  where
    by : (b : Bool) → are_partners taken y ≡ b → (In (partners_of ys taken) x → In ys x × ArePartners taken x) → In (cond b (put_half y (partners_of ys taken)) (partners_of ys taken)) x
        → In (y ∷ ys) x × ArePartners taken x
    by true e before there =
        let P : StampedHalf → Type 0 = ArePartners taken in
        ⊎_elim
        (λ (is : y ≡ x). (inl is, subst P is (partners_to taken y e)))
        (λ (later : In (partners_of ys taken) x). let rest = before later in (inr rest.0, rest.1))
        (put_from y (partners_of ys taken) x there)
    by false e before there = let rest = before there in (inr rest.0, rest.1)

partner_in : (xs : List StampedHalf) (taken x : StampedHalf) → In xs x → ArePartners taken x → In (partners_of xs taken) x
unfolding partners_of
partner_in [] taken x h p = absurd h
partner_in (y ∷ ys) taken x h p = by (are_partners taken y) refl (λ later. partner_in ys taken x later p)
  where
    by : (b : Bool) → are_partners taken y ≡ b → (In ys x → In (partners_of ys taken) x) → In (cond b (put_half y (partners_of ys taken)) (partners_of ys taken)) x
    by true e rest =
        let one : (z : StampedHalf) → In (partners_of ys taken) z → z.half ≡ y.half → z ≡ y =
        λ z there same. one_partner taken z y (partner_from ys taken z there).1 (partners_to taken y e) same in
        let P : StampedHalf → Type 0 = λ z. In (put_half y (partners_of ys taken)) z in
        ⊎_elim
        (λ (here : y ≡ x). subst P here (put_stands y (partners_of ys taken) one))
        (λ (later : In ys x). put_keeps y (partners_of ys taken) x (rest later))
        h
    by false e rest =
        ⊎_elim
        (λ (here : y ≡ x).
        let Q : StampedHalf → Type 0 = ArePartners taken in
        let is = partners_from taken y (subst Q (sym here) p) in
        absurd (cc (is, e)))
        (λ (later : In ys x). rest later)
        h

partners_ascend : (xs : List StampedHalf) (taken : StampedHalf) → IsAscending (partners_of xs taken)
unfolding partners_of
partners_ascend [] taken = tt
partners_ascend (y ∷ ys) taken = by (are_partners taken y) (partners_ascend ys taken)
  where
    by : (b : Bool) → IsAscending (partners_of ys taken) → IsAscending (cond b (put_half y (partners_of ys taken)) (partners_of ys taken))
    by true rest = put_ascends y (partners_of ys taken) rest
    by false rest = rest

-- the words of the function are those of the page part with the parts of the list
pub words_are : (xs : List StampedHalf) (taken : StampedHalf) → AreWordsWith (Contains xs) taken (words_of xs taken)
unfolding words_of
words_are xs taken = record {
  partners = partners_of xs taken;
  each = λ other. (
    λ h. let is = partner_from xs taken other (In-from_contains (partners_of xs taken) other h) in (contains_from_In xs other is.0, is.1),
    λ h. contains_from_In (partners_of xs taken) other (partner_in xs taken other (In-from_contains xs other h.0) h.1),
  );
  ascending = partners_ascend xs taken;
  words_are = refl;
}
