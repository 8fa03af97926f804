-- Words at their bit offsets: writing a word leaves the others unchanged.
use Rattle.std.proofs.Common.{◌≡◌, ℕ, zero, suc, ◌+◌, ◌-◌, ◌*◌, ◌/◌, ◌%◌, ◌^◌, ◌<◌, ◌≤◌, List, refl, sym, ap, ◌∙◌, arith, below_more}
use Rattle.std.specs.Int.{bit_at}
use Rattle.std.proofs.lemmas.Nat.Bits.{bit_at-lt, same_from_bits_below}
use Rattle.nav_bits.specs.Bits.{bit, number_at, Puts, SameOutside}
use Rattle.nav_bits.specs.Laws.{number_at-append, number_at-before, number_at-lt, number_at-same}
use Rattle.lnav_subframe.specs.Parity.{d30_star, sent, source, IsGood, IsSource, IsSolved}
use Rattle.lnav_subframe.specs.Words.{AreGood, AreSource, IsWord, last_before, word_of}
use Rattle.lnav_subframe.proofs.WordBits.{data_bit}

pub last_more : (bits : List ℕ) (k : ℕ) → last_before bits (k + 1) ≡ word_of bits k % 4
unfolding last_before
last_more bits k = let e : k + 1 ≡ suc k = omega arith in rw e refl

-- one more good word
pub goods_more : (bits : List ℕ) (k : ℕ) → AreGood bits k → IsGood (word_of bits k) (last_before bits k) → AreGood bits (k + 1)
goods_more bits k before here = below_more (λ j. IsGood (word_of bits j) (last_before bits j)) k before here

-- the source bits of one more word
pub sources_more : (bits old new : List ℕ) (k value : ℕ) → AreSource bits old k → Puts old new (30 * k) 24 value
    → IsSource (word_of bits k) (last_before bits k) value → AreSource bits new (k + 1)
sources_more bits old new k value before puts here =
    below_more (λ j. IsSource (word_of bits j) (last_before bits j) (number_at new (30 * j) 24)) k
    (λ j h. let e : number_at new (30 * j) 24 ≡ number_at old (30 * j) 24 = number_at-before old new (30 * k) (30 * k + 24) puts.others (30 * j) 24 (omega arith) in rw e (before j h))
    (rw puts.number here)

-- the bits from an offset on are those of the subframe
pub record StayFrom (bits source : List ℕ) (at : ℕ) : Type 0 where
  pub same : (i : ℕ) → at ≤ i → bit source i ≡ bit bits i

pub stay_more : (bits old new : List ℕ) (k value : ℕ) → StayFrom bits old (30 * k) → Puts old new (30 * k) 24 value → StayFrom bits new (30 * (k + 1))
stay_more bits old new k value h puts = record { same = λ i low. puts.others.after i (omega arith) ∙ h.same i (omega arith) }

-- nothing is written where the value stands
pub puts_nothing : (old : List ℕ) (at value : ℕ) → number_at old at 24 ≡ value → Puts old old at 24 value
puts_nothing old at value e = record { number = e; others = record { before = λ i h. refl; after = λ i h. refl } }

-- where D30* is 0 the source bits are the first 24 bits of the word
upright_bits : (word last value : ℕ) → IsSource word last value → last % 2 ≡ 0 → word / 64 < 2 ^ 24 → word / 64 ≡ value
upright_bits word last value is even fits =
    same_from_bits_below 24 (word / 64) value fits is.fits (λ i h.
    let n = 24 - i in
    let place : 24 - n ≡ i = omega arith in
    let star : d30_star last ≡ 0 = omega arith in
    let plain : source word last n ≡ sent word n = ap (λ d. (sent word n + d) % 2) star ∙ omega (arith, bit_at-lt word (30 - n)) in
    ap (bit_at (word / 64)) (sym place) ∙ data_bit word n (omega arith) ∙ sym plain ∙ sym (is.each n (omega arith) (omega arith)) ∙ ap (bit_at value) place)

pub stands_already : (bits old : List ℕ) (k value : ℕ) → StayFrom bits old (30 * k) → IsSource (word_of bits k) (last_before bits k) value → last_before bits k % 2 ≡ 0 → number_at old (30 * k) 24 ≡ value
stands_already bits old k value h is even =
    let same : number_at old (30 * k) 24 ≡ number_at bits (30 * k) 24 = number_at-same old bits (30 * k) 24 (record { same = λ i low high. h.same i low }) in
    let split : word_of bits k ≡ number_at bits (30 * k) 24 * 2 ^ 6 + number_at bits (30 * k + 24) 6 = number_at-append bits (30 * k) 24 6 in
    let high : number_at bits (30 * k) 24 ≡ word_of bits k / 64 = omega (arith, split, number_at-lt bits (30 * k + 24) 6) in
    same ∙ high ∙ upright_bits (word_of bits k) (last_before bits k) value is even (omega (arith, high, number_at-lt bits (30 * k) 24))

-- the first n words are those of the data bits
abbrev pub WordsBelow : List ℕ → List ℕ → ℕ → Type 0
WordsBelow source bits n = (k : ℕ) → k < n → IsWord k (word_of bits k) (last_before bits k) (number_at source (30 * k) 24)

-- the last two bits before a word depend only on the words before it
pub last_same : (old new : List ℕ) (at end : ℕ) → SameOutside old new at end → (j : ℕ) → 30 * j ≤ at → last_before new j ≡ last_before old j
unfolding last_before
last_same old new at end same zero h = refl
last_same old new at end same (suc j) h = ap (λ w. w % 4) (number_at-before old new at end same (30 * j) 30 (omega arith))

-- one more word of the data bits
pub words_more : (source old new : List ℕ) (k word : ℕ) → WordsBelow source old k → Puts old new (30 * k) 30 word
    → IsWord k word (last_before old k) (number_at source (30 * k) 24) → WordsBelow source new (k + 1)
words_more source old new k word before puts here =
    below_more (λ j. IsWord j (word_of new j) (last_before new j) (number_at source (30 * j) 24)) k
    (λ j h. let e : word_of new j ≡ word_of old j = number_at-before old new (30 * k) (30 * k + 30) puts.others (30 * j) 30 (omega arith) in
    let e' : last_before new j ≡ last_before old j = last_same old new (30 * k) (30 * k + 30) puts.others j (omega arith) in
    rw (e, e') (before j h))
    (let e' : last_before new k ≡ last_before old k = last_same old new (30 * k) (30 * k + 30) puts.others k (omega arith) in rw (puts.number, e') here)

-- a word by its bit offset
pub second_word : (k word last bits : ℕ) → k ≡ 1 → IsSolved word last (bits / 4) → IsWord k word last bits
second_word k word last bits e is = record {
  second = λ same. is;
  tenth = λ other. absurd (omega arith);
  good = λ no other. absurd (no e);
  source = λ no other. absurd (no e);
}

pub tenth_word : (k word last bits : ℕ) → k ≡ 9 → IsSolved word last (bits / 4) → IsWord k word last bits
tenth_word k word last bits e is = record {
  second = λ other. absurd (omega arith);
  tenth = λ same. is;
  good = λ other no. absurd (no e);
  source = λ other no. absurd (no e);
}

pub plain_word : (k word last bits : ℕ) → (k ≡ 1 → ⊥) → (k ≡ 9 → ⊥) → IsGood word last → IsSource word last bits → IsWord k word last bits
plain_word k word last bits no2 no10 good source = record {
  second = λ e. absurd (no2 e);
  tenth = λ e. absurd (no10 e);
  good = λ a b. good;
  source = λ a b. source;
}
