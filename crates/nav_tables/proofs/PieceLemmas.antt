-- The pieces of a number make it up.
use Rattle.std.proofs.Common.{◌≡◌, ℕ, zero, suc, ◌+◌, ◌*◌, ◌/◌, ◌%◌, ◌^◌, ◌<◌, ◌≤◌, ◌&&◌, Bool, true, false, List, [], ◌∷◌, ◌++◌, length, drop, get_or, set, replicate, refl, sym, ap, ◌∙◌, subst, zero-add, add-one, drop-cons, arith}
use Rattle.std.specs.Prelude.{nat_eq, nat_le, nat_lt}
use Rattle.std.proofs.Math.Nat.{add-mul, mod-eq_of_lt, mod-one, mul_assoc, pow-le-pow_right, zero-mul}
use Rattle.std.proofs.lemmas.Nat.{div-mul-add, mod_below, mod_low, mod-pow-add, mul-add-lt, pow-add, pow_pos}
use Rattle.std.proofs.lemmas.Bool.{leb-true, ltb-true}
use Rattle.std.proofs.lemmas.Bool.Decides.{nat_tests}
use Rattle.std.proofs.lemmas.List.{get_or-set_same, get_or-set_other}
use Rattle.std.proofs.Math.Seq.{append_snoc}
use Rattle.std.proofs.lemmas.List.{append-nil, drop_all, length-set}
use Rattle.nav_bits.specs.Bits.{number_at}
use Rattle.nav_bits.specs.Fields.{AreFields, Stand, total_width}
use Rattle.nav_bits.specs.Laws.{number_at-lt}
use Rattle.nav_tables.specs.declared.piece.Piece.{Piece}
use Rattle.nav_tables.specs.Pieces.{are_pieces, bits_of, fields_of, number_in, part_of, width_of}

both : (a b : Bool) → (a && b) ≡ true → (a ≡ true) × (b ≡ true)
both true true e = (refl, refl)
both true false e = (refl, e)
both false b e = (e, (cc))

pub nat_eq_is : (a b : ℕ) → nat_eq a b ≡ true → a ≡ b
nat_eq_is a b e = grind (arith, nat_tests)

pub record IsGood (p : Piece) (ps : List Piece) : Type 0 where
  pub number : p.number < 40
  pub most : p.width + p.low ≤ 32
  pub low : p.low ≡ bits_of p.number ps
  pub rest : are_pieces ps ≡ true

pub good : (p : Piece) (ps : List Piece) → are_pieces (p ∷ ps) ≡ true → IsGood p ps
good p ps e =
    let a = both (nat_lt p.number 40 && nat_le (p.width + p.low) 32 && nat_eq p.low (bits_of p.number ps)) (are_pieces ps) e in
    let b = both (nat_lt p.number 40 && nat_le (p.width + p.low) 32) (nat_eq p.low (bits_of p.number ps)) a.0 in
    let c = both (nat_lt p.number 40) (nat_le (p.width + p.low) 32) b.0 in
    record { number = ltb-true p.number 40 c.0; most = leb-true _ _ c.1; low = nat_eq_is _ _ b.1; rest = a.1 }

-- a number in pieces has no more bits than they
fits_by : (k : ℕ) (p : Piece) (ps : List Piece) (bits rest : ℕ) (b : Bool) → nat_eq p.number k ≡ b → p.low ≡ bits_of p.number ps
    → bits < 2 ^ p.width → rest < 2 ^ bits_of k ps → part_of k p bits + rest < 2 ^ bits_of k (p ∷ ps)
fits_by k p ps bits rest true e low few less =
    let same : p.low ≡ bits_of k ps = low ∙ ap (λ j. bits_of j ps) (nat_eq_is p.number k e) in
    let below : rest < 2 ^ p.low = subst (λ n. rest < 2 ^ n) (sym same) less in
    rw (e, ← same) (omega (arith, pow-add 2 p.width p.low, mul-add-lt bits (2 ^ p.low) rest (2 ^ p.width) few below))
fits_by k p ps bits rest false e low few less =
    let a : 0 + rest ≡ rest = zero-add rest in
    let b : 0 + bits_of k ps ≡ bits_of k ps = zero-add (bits_of k ps) in
    rw (e, a, b) less

pub number_in-lt : (bytes : List ℕ) (at k : ℕ) (ps : List Piece) → are_pieces ps ≡ true → number_in bytes at k ps < 2 ^ bits_of k ps
number_in-lt bytes at k [] e = omega arith
number_in-lt bytes at k (p ∷ ps) e =
    let g = good p ps e in
    fits_by k p ps (number_at bytes at p.width) (number_in bytes (at + p.width) k ps) (nat_eq p.number k) refl g.low
    (number_at-lt bytes at p.width) (number_in-lt bytes (at + p.width) k ps g.rest)

-- the pieces of number n stand: they make up its low bits
joined_by : (k : ℕ) (p : Piece) (ps : List Piece) (n m bits rest : ℕ) (b : Bool) → nat_eq p.number k ≡ b → p.low ≡ bits_of p.number ps
    → bits ≡ (m / 2 ^ p.low) % 2 ^ p.width → (p.number ≡ k → m ≡ n) → rest ≡ n % 2 ^ bits_of k ps → part_of k p bits + rest ≡ n % 2 ^ bits_of k (p ∷ ps)
joined_by k p ps n m bits rest true e low is at_k r =
    let j = nat_eq_is p.number k e in
    let same : p.low ≡ bits_of k ps = low ∙ ap (λ j. bits_of j ps) j in
    let here : bits ≡ (n / 2 ^ p.low) % 2 ^ p.width = is ∙ ap (λ x. (x / 2 ^ p.low) % 2 ^ p.width) (at_k j) in
    let there : rest ≡ n % 2 ^ p.low = r ∙ ap (λ i. n % 2 ^ i) (sym same) in
    rw (e, ← same, here, there) (sym (mod-pow-add n p.width p.low))
joined_by k p ps n m bits rest false e low is at_k r =
    let a : 0 + rest ≡ rest = zero-add rest in
    let b : 0 + bits_of k ps ≡ bits_of k ps = zero-add (bits_of k ps) in
    rw (e, a, b) r

pub joined : (bytes : List ℕ) (at k : ℕ) (ps : List Piece) (ns : List ℕ) → are_pieces ps ≡ true → Stand bytes 0 at (fields_of ps ns)
    → number_in bytes at k ps ≡ get_or ns k 0 % 2 ^ bits_of k ps
joined bytes at k [] ns e stand = sym (mod-one _)
joined bytes at k (p ∷ ps) ns e stand =
    let g = good p ps e in
    let here : number_at bytes at p.width ≡ (get_or ns p.number 0 / 2 ^ p.low) % 2 ^ p.width =
    ap (λ i. number_at bytes i p.width) (sym (zero-add at)) ∙ stand.0 in
    joined_by k p ps (get_or ns k 0) (get_or ns p.number 0) _ _ (nat_eq p.number k) refl g.low here
    (λ j. ap (λ i. get_or ns i 0) j) (joined bytes (at + p.width) k ps ns g.rest stand.1)

pub split_joined : (bytes : List ℕ) (k : ℕ) (ps : List Piece) (ns : List ℕ) → are_pieces ps ≡ true → get_or ns k 0 < 2 ^ bits_of k ps
    → Stand bytes 0 0 (fields_of ps ns) → number_in bytes 0 k ps ≡ get_or ns k 0
split_joined bytes k ps ns e few stand = joined bytes 0 k ps ns e stand ∙ mod-eq_of_lt few

-- ---- reading

-- what a list of pieces has past its end
abbrev pub no_piece : Piece
no_piece = record { number = 0; width = 0; low = 0 }

pub next_piece : (ps : List Piece) (i : ℕ) → i < length ps → drop i ps ≡ get_or ps i no_piece ∷ drop (i + 1) ps
next_piece ps i h = rw (add-one, drop-cons ps i no_piece) refl

-- the parts before rest are added up
pub record AreAdded (bytes : List ℕ) (at : ℕ) (pieces rest : List Piece) (numbers : List ℕ) : Type 0 where
  pub each : (k : ℕ) → k < 40 → get_or numbers k 0 + number_in bytes at k rest ≡ number_in bytes 0 k pieces
  pub count : length numbers ≡ 40
  pub good : are_pieces rest ≡ true
  pub room : at + width_of rest ≡ width_of pieces

added_by : (k : ℕ) (p : Piece) (ns : List ℕ) (bits rest : ℕ) (b : Bool) → nat_eq p.number k ≡ b → p.number < length ns
    → get_or (set ns p.number (get_or ns p.number 0 + bits * 2 ^ p.low)) k 0 + rest ≡ get_or ns k 0 + (part_of k p bits + rest)
added_by k p ns bits rest true e h =
    let j : p.number ≡ k = nat_eq_is p.number k e in
    let P : ℕ → Type 0 = λ k'. get_or (set ns p.number (get_or ns p.number 0 + bits * 2 ^ p.low)) k' 0 ≡ get_or ns k' 0 + bits * 2 ^ p.low in
    let here : get_or (set ns p.number (get_or ns p.number 0 + bits * 2 ^ p.low)) k 0 ≡ get_or ns k 0 + bits * 2 ^ p.low =
    subst P j (get_or-set_same ns p.number (get_or ns p.number 0 + bits * 2 ^ p.low) 0 h) in
    rw (e, here) (omega arith)
added_by k p ns bits rest false e h =
    let other : get_or (set ns p.number (get_or ns p.number 0 + bits * 2 ^ p.low)) k 0 ≡ get_or ns k 0 =
    get_or-set_other ns p.number k (get_or ns p.number 0 + bits * 2 ^ p.low) 0 (λ same. let h : nat_eq p.number k ≡ true = grind (arith, nat_tests) in (cc)) in
    rw (e, other) (omega arith)

pub add_more : (bytes : List ℕ) (at : ℕ) (pieces rest : List Piece) (p : Piece) (ns : List ℕ) → AreAdded bytes at pieces (p ∷ rest) ns
    → AreAdded bytes (at + p.width) pieces rest (set ns p.number (get_or ns p.number 0 + number_at bytes at p.width * 2 ^ p.low))
add_more bytes at pieces rest p ns a =
    let g = good p rest a.good in
    record {
      each = λ k h. added_by k p ns (number_at bytes at p.width) (number_in bytes (at + p.width) k rest) (nat_eq p.number k) refl (omega (arith, g.number, a.count)) ∙ a.each k h;
      count = simp length-set a.count;
      good = g.rest;
      room = omega (arith, a.room);
    }

pub add_next : (bytes : List ℕ) (at i : ℕ) (pieces : List Piece) (ns : List ℕ) → i < length pieces → AreAdded bytes at pieces (drop i pieces) ns
    → AreAdded bytes at pieces (get_or pieces i no_piece ∷ drop (i + 1) pieces) ns
add_next bytes at i pieces ns h a = subst (λ ps. AreAdded bytes at pieces ps ns) (next_piece pieces i h) a

-- the next piece lies within the message, and its part is added without overflow
pub record IsNext (bytes : List ℕ) (at : ℕ) (pieces : List Piece) (p : Piece) (ns : List ℕ) : Type 0 where
  pub number : p.number < 40
  pub most : p.width + p.low ≤ 32
  pub room : at + p.width ≤ width_of pieces
  pub small : number_at bytes at p.width * 2 ^ p.low < 2 ^ 32
  pub sum : get_or ns p.number 0 + number_at bytes at p.width * 2 ^ p.low < 2 ^ 64

whole_small : (bytes : List ℕ) (at k : ℕ) (ps : List Piece) → are_pieces ps ≡ true → bits_of k ps ≤ 32 → number_in bytes at k ps < 2 ^ 32
whole_small bytes at k ps e few =
    let a = number_in-lt bytes at k ps e in
    let b : 2 ^ bits_of k ps ≤ 2 ^ 32 = pow-le-pow_right (omega arith) few in
    omega arith

pub bits_few : (k : ℕ) (ps : List Piece) → are_pieces ps ≡ true → bits_of k ps ≤ 32
bits_few k [] e = omega arith
bits_few k (p ∷ ps) e =
    let g = good p ps e in
    bits_few_by k p ps (nat_eq p.number k) refl g.most g.low (bits_few k ps g.rest)
  where
    bits_few_by : (k : ℕ) (p : Piece) (ps : List Piece) (b : Bool) → nat_eq p.number k ≡ b → p.width + p.low ≤ 32 → p.low ≡ bits_of p.number ps
        → bits_of k ps ≤ 32 → bits_of k (p ∷ ps) ≤ 32
    bits_few_by k p ps true e most low few =
        let same : p.low ≡ bits_of k ps = low ∙ ap (λ j. bits_of j ps) (nat_eq_is p.number k e) in
        rw e (omega arith)
    bits_few_by k p ps false e most low few = rw e (omega arith)

pub next_is : (bytes : List ℕ) (at : ℕ) (pieces rest : List Piece) (p : Piece) (ns : List ℕ) → are_pieces pieces ≡ true
    → AreAdded bytes at pieces (p ∷ rest) ns → IsNext bytes at pieces p ns
next_is bytes at pieces rest p ns e a =
    let g = good p rest a.good in
    let k = p.number in
    let whole = whole_small bytes 0 k pieces e (bits_few k pieces e) in
    let yes : nat_eq k k ≡ true = grind (arith, nat_tests) in
    let part : part_of k p (number_at bytes at p.width) ≡ number_at bytes at p.width * 2 ^ p.low = rw yes refl in
    let each = a.each k g.number in
    record {
      number = g.number;
      most = g.most;
      room = omega (arith, a.room);
      small = omega (arith, each, whole, part);
      sum = omega (arith, each, whole, part);
    }

zero_at : (n k : ℕ) → get_or {A = ℕ} (replicate n 0) k 0 ≡ 0
zero_at zero k = refl
zero_at (suc n) zero = refl
zero_at (suc n) (suc k) = zero_at n k

pub add_none : (bytes : List ℕ) (pieces : List Piece) → are_pieces pieces ≡ true → AreAdded bytes 0 pieces pieces (replicate 40 0)
add_none bytes pieces e = record {
  each = λ k h. omega (arith, zero_at 40 k);
  count = refl;
  good = e;
  room = omega arith;
}

pub add_all : (bytes : List ℕ) (at i : ℕ) (pieces : List Piece) (ns : List ℕ) → length pieces ≤ i → AreAdded bytes at pieces (drop i pieces) ns
    → (k : ℕ) → k < 40 → get_or ns k 0 ≡ number_in bytes 0 k pieces
add_all bytes at i pieces ns h a k few =
    let e : number_in bytes at k (drop i pieces) ≡ 0 = ap (number_in bytes at k) (drop_all i pieces h) in
    omega (arith, e, a.each k few)

-- ---- writing

-- the fields of the pieces before rest are listed
pub record AreListed (pieces rest : List Piece) (numbers : List ℕ) (fields : List (ℕ × ℕ)) : Type 0 where
  pub told : fields ++ fields_of rest numbers ≡ fields_of pieces numbers
  pub good : are_pieces rest ≡ true

pub list_more : (pieces rest : List Piece) (p : Piece) (ns : List ℕ) (fields : List (ℕ × ℕ)) → AreListed pieces (p ∷ rest) ns fields
    → AreListed pieces rest ns (fields ++ (p.width, (get_or ns p.number 0 / 2 ^ p.low) % 2 ^ p.width) ∷ [])
list_more pieces rest p ns fields a = record {
  told = append_snoc fields (p.width, (get_or ns p.number 0 / 2 ^ p.low) % 2 ^ p.width) (fields_of rest ns) ∙ a.told;
  good = (good p rest a.good).rest;
}

pub list_next : (i : ℕ) (pieces : List Piece) (ns : List ℕ) (fields : List (ℕ × ℕ)) → i < length pieces → AreListed pieces (drop i pieces) ns fields
    → AreListed pieces (get_or pieces i no_piece ∷ drop (i + 1) pieces) ns fields
list_next i pieces ns fields h a = subst (λ ps. AreListed pieces ps ns fields) (next_piece pieces i h) a

pub list_all : (i : ℕ) (pieces : List Piece) (ns : List ℕ) (fields : List (ℕ × ℕ)) → length pieces ≤ i → AreListed pieces (drop i pieces) ns fields
    → fields ≡ fields_of pieces ns
list_all i pieces ns fields h a =
    let told : fields ++ fields_of [] ns ≡ fields_of pieces ns = subst (λ ps. fields ++ fields_of ps ns ≡ fields_of pieces ns) (drop_all i pieces h) a.told in
    sym (append-nil fields) ∙ told

pub fields_fit : (ps : List Piece) (ns : List ℕ) → are_pieces ps ≡ true → AreFields (fields_of ps ns)
fields_fit [] ns e = tt
fields_fit (p ∷ ps) ns e =
    let g = good p ps e in
    (omega (arith, g.most), mod_below _ (2 ^ p.width) (pow_pos p.width), fields_fit ps ns g.rest)

pub fields_width : (ps : List Piece) (ns : List ℕ) → total_width (fields_of ps ns) ≡ width_of ps
fields_width [] ns = refl
fields_width (p ∷ ps) ns = ap (λ n. p.width + n) (fields_width ps ns)

-- ---- what was read stands

-- the number has these low bits, below some others
pub record Ends (n w low : ℕ) : Type 0 where
  pub high : ℕ
  pub is : n ≡ high * 2 ^ w + low

middle : (n h w l b rest : ℕ) → b < 2 ^ w → rest < 2 ^ l → n ≡ h * 2 ^ (w + l) + (b * 2 ^ l + rest)
    → ((n / 2 ^ l) % 2 ^ w ≡ b) × (n ≡ (h * 2 ^ w + b) * 2 ^ l + rest)
middle n h w l b rest few less is =
    let e : h * 2 ^ (w + l) ≡ h * 2 ^ w * 2 ^ l = ap (λ m. h * m) (pow-add 2 w l) ∙ sym (mul_assoc h (2 ^ w) (2 ^ l)) in
    let f : (h * 2 ^ w + b) * 2 ^ l ≡ h * 2 ^ w * 2 ^ l + b * 2 ^ l = add-mul (h * 2 ^ w) b (2 ^ l) in
    let whole : n ≡ (h * 2 ^ w + b) * 2 ^ l + rest = omega (arith, e, f, is) in
    let above : n / 2 ^ l ≡ h * 2 ^ w + b = ap (λ m. m / 2 ^ l) whole ∙ div-mul-add (h * 2 ^ w + b) (2 ^ l) rest less in
    (ap (λ m. m % 2 ^ w) above ∙ mod_low h w b few, whole)

-- the piece's bits are those in the middle of its number, and what is left of any number ends in the later pieces
ends_by : (k : ℕ) (p : Piece) (ps : List Piece) (n bits rest : ℕ) (b : Bool) → nat_eq p.number k ≡ b → p.low ≡ bits_of p.number ps
    → bits < 2 ^ p.width → rest < 2 ^ bits_of k ps → Ends n (bits_of k (p ∷ ps)) (part_of k p bits + rest) → Ends n (bits_of k ps) rest
ends_by k p ps n bits rest true e low few less ends =
    let same : p.low ≡ bits_of k ps = low ∙ ap (λ j. bits_of j ps) (nat_eq_is p.number k e) in
    let is : n ≡ ends.high * 2 ^ (p.width + p.low) + (bits * 2 ^ p.low + rest) =
    ends.is ∙ rw (e, ← same) refl in
    let below : rest < 2 ^ p.low = subst (λ m. rest < 2 ^ m) (sym same) less in
    let both = middle n ends.high p.width p.low bits rest few below is in
    record { high = ends.high * 2 ^ p.width + bits; is = both.1 ∙ ap (λ m. (ends.high * 2 ^ p.width + bits) * 2 ^ m + rest) same }
ends_by k p ps n bits rest false e low few less ends =
    let a : 0 + rest ≡ rest = zero-add rest in
    let b : 0 + bits_of k ps ≡ bits_of k ps = zero-add (bits_of k ps) in
    record { high = ends.high; is = ends.is ∙ rw (e, a, b) refl }

here_by : (p : Piece) (ps : List Piece) (n bits rest : ℕ) → p.low ≡ bits_of p.number ps → bits < 2 ^ p.width → rest < 2 ^ bits_of p.number ps
    → Ends n (bits_of p.number (p ∷ ps)) (part_of p.number p bits + rest) → bits ≡ (n / 2 ^ p.low) % 2 ^ p.width
here_by p ps n bits rest low few less ends =
    let yes : nat_eq p.number p.number ≡ true = grind (arith, nat_tests) in
    let is : n ≡ ends.high * 2 ^ (p.width + p.low) + (bits * 2 ^ p.low + rest) = ends.is ∙ rw (yes, ← low) refl in
    let below : rest < 2 ^ p.low = subst (λ m. rest < 2 ^ m) (sym low) less in
    sym (middle n ends.high p.width p.low bits rest few below is).0

read_stand : (bytes : List ℕ) (at : ℕ) (ps : List Piece) (ns : List ℕ) → are_pieces ps ≡ true
    → ((k : ℕ) → k < 40 → Ends (get_or ns k 0) (bits_of k ps) (number_in bytes at k ps)) → Stand bytes 0 at (fields_of ps ns)
read_stand bytes at [] ns e ends = tt
read_stand bytes at (p ∷ ps) ns e ends =
    let g = good p ps e in
    let bits = number_at bytes at p.width in
    let here : bits ≡ (get_or ns p.number 0 / 2 ^ p.low) % 2 ^ p.width =
    here_by p ps (get_or ns p.number 0) bits (number_in bytes (at + p.width) p.number ps) g.low (number_at-lt bytes at p.width)
    (number_in-lt bytes (at + p.width) p.number ps g.rest) (ends p.number g.number) in (
      ap (λ i. number_at bytes i p.width) (zero-add at) ∙ here,
      read_stand bytes (at + p.width) ps ns g.rest (λ k h.
          ends_by k p ps (get_or ns k 0) bits (number_in bytes (at + p.width) k ps) (nat_eq p.number k) refl g.low (number_at-lt bytes at p.width)
          (number_in-lt bytes (at + p.width) k ps g.rest) (ends k h)),
    )

-- what was read is what would be written
pub read_pieces_stand : (bytes : List ℕ) (ps : List Piece) (ns : List ℕ) → are_pieces ps ≡ true
    → ((k : ℕ) → k < 40 → get_or ns k 0 ≡ number_in bytes 0 k ps) → Stand bytes 0 0 (fields_of ps ns)
read_pieces_stand bytes ps ns e are =
    read_stand bytes 0 ps ns e (λ k h. record { high = 0; is = are k h ∙ sym (let z : 0 * 2 ^ bits_of k ps ≡ 0 = zero-mul (2 ^ bits_of k ps) in rw z (zero-add (number_in bytes 0 k ps))) })
