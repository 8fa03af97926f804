-- The function of the reading agrees with the relation.
use Rattle.std.proofs.Common.{◌≡◌, ℕ, zero, suc, ◌+◌, ◌-◌, ◌*◌, ◌<◌, ◌≤◌, List, Bool, true, false, ◌||◌, if◌then◌else◌, nat_eq, Option, None, Some, Result, Ok, Err, inl, inr, refl, sym, ap, ◌∙◌, subst, arith}
use Rattle.std.proofs.lemmas.Bool.{cases_lt, cond_both, eqb-true, true≢false}
use Rattle.nav_bits.specs.Bits.{number_at}
use Rattle.nav_bits.specs.Fields.{StandFrom, table_width}
use Rattle.nav_bits.specs.Packed.{AllFit}
use Rattle.nav_bits.proofs.Surface.{fields_stand}
use Rattle.nav_eph.specs.Satellite.{Satellite}
use Rattle.nav_eph.specs.declared.part.Part.{Part}
use Rattle.nav_eph.specs.declared.part.Body.{Body}
use Rattle.lnav_subframe.specs.ParityFunctions.{is_good, source_of}
use Rattle.lnav_subframe.specs.Parity.{IsGood, IsSource}
use Rattle.lnav_subframe.proofs.ParityFunctions.{good-decides, source-is}
use Rattle.lnav_subframe.specs.declared.fault.LnavFault.{LnavFault}
use Rattle.lnav_subframe.specs.declared.fault.LnavFault.TheVariants.{Preamble, Parity}
use Rattle.lnav_subframe.specs.Reading.{StandsFor, by_words, content, heard, subframe_of}
use Rattle.lnav_subframe.specs.Words.{AreGood, AreSource, HasPreamble, IsFirstBad, IsSubframe, bad_word_from, data_bits_of, data_fields, has_preamble, last_before, upright, word_of}
use Rattle.lnav_subframe.specs.declared.out.SubframeOut.{SubframeOut}
use Rattle.lnav_subframe.specs.Writing.{AllReadAs, HasTime, IsWritable, IsWritten, read_again}
use Rattle.lnav_subframe.proofs.Agree.{good_word, preamble_sent, two_agree}
use Rattle.lnav_subframe.proofs.Again.{as_written, content_same, good_before, preamble_held, same_word, stays}

-- ---- the preamble

pub preamble_true : (bits : List ℕ) → has_preamble bits ≡ true → HasPreamble bits
unfolding has_preamble
preamble_true bits e = one (nat_eq (number_at bits 0 8) 139) refl e
  where
    one : (b : Bool) → nat_eq (number_at bits 0 8) 139 ≡ b → (b || nat_eq (number_at bits 0 8) 116) ≡ true → HasPreamble bits
    one true is e = inl (eqb-true _ _ is)
    one false is e = inr (eqb-true _ _ e)

pub preamble_false : (bits : List ℕ) → has_preamble bits ≡ false → HasPreamble bits → ⊥
unfolding has_preamble
preamble_false bits e (inl is) = true≢false (sym (rw is refl) ∙ e)
preamble_false bits e (inr is) = true≢false (sym (rw is refl) ∙ e)

-- ---- the words

-- the n words from the index k on are good
abbrev pub Goods : List ℕ → ℕ → ℕ → Type 0
Goods bits k n = (j : ℕ) → k ≤ j → j < k + n → IsGood (word_of bits j) (last_before bits j)

-- word, counted from 1, is the first of the n words from the index k on that is not good
pub record IsBad (bits : List ℕ) (k n word : ℕ) : Type 0 where
  pub low : suc k ≤ word
  pub high : word ≤ k + n
  pub before : (j : ℕ) → k ≤ j → suc j < word → IsGood (word_of bits j) (last_before bits j)
  pub bad : IsGood (word_of bits (word - 1)) (last_before bits (word - 1)) → ⊥

abbrev pub Judged : List ℕ → ℕ → ℕ → Option ℕ → Type 0
Judged bits k n None = Goods bits k n
Judged bits k n (Some word) = IsBad bits k n word

one_more : (bits : List ℕ) (k n : ℕ) (r : Option ℕ) → IsGood (word_of bits k) (last_before bits k) → Judged bits (suc k) n r → Judged bits k (suc n) r
one_more bits k n None good rest = λ j low high. elim (cases_lt k j) [
  | inl less ↦ rest j (omega arith) (omega arith)
  | inr same ↦ let e : k ≡ j = omega arith in subst (λ i. IsGood (word_of bits i) (last_before bits i)) e good
]
one_more bits k n (Some word) good rest = record {
  low = omega (arith, rest.low);
  high = omega (arith, rest.high);
  before = λ j low high. elim (cases_lt k j) [
    | inl less ↦ rest.before j (omega arith) high
    | inr same ↦ let e : k ≡ j = omega arith in subst (λ i. IsGood (word_of bits i) (last_before bits i)) e good
  ];
  bad = rest.bad;
}

pub judged : (bits : List ℕ) (k n : ℕ) → Judged bits k n (bad_word_from bits k n)
unfolding bad_word_from
judged bits k zero = λ j low high. absurd (omega arith)
judged bits k (suc n) =
    cond_both (is_good (word_of bits k) (last_before bits k)) (bad_word_from bits (suc k) n) (Some (suc k)) (Judged bits k (suc n))
    (λ good. one_more bits k n (bad_word_from bits (suc k) n) ((good-decides (word_of bits k) (last_before bits k)).0 good) (judged bits (suc k) n))
    (λ bad. record {
      low = omega arith;
      high = omega arith;
      before = λ j low high. absurd (omega arith);
      bad = λ good. let e : suc k - 1 ≡ k = omega arith in
          let here : IsGood (word_of bits k) (last_before bits k) = subst (λ i. IsGood (word_of bits i) (last_before bits i)) e good in
          true≢false (sym ((good-decides (word_of bits k) (last_before bits k)).1 here) ∙ bad);
    })

pub first_bad : (bits : List ℕ) (word : ℕ) → IsBad bits 0 10 word → IsFirstBad bits word
first_bad bits word is = record {
  low = is.low;
  high = is.high;
  before = λ k h. is.before k (omega arith) (omega arith);
  bad = is.bad;
}

-- ---- the data bits

data_stand : (bits bytes : List ℕ) (k n : ℕ) → StandFrom bytes 0 (30 * k) (data_fields bits k n) → (j : ℕ) → k ≤ j → j < k + n
    → number_at bytes (30 * j) 24 ≡ source_of (word_of bits j) (last_before bits j)
unfolding data_fields
data_stand bits bytes k zero stand j low high = absurd (omega arith)
data_stand bits bytes k (suc n) stand j low high =
    elim (cases_lt k j) [
      | inl less ↦
          let e : 30 * k + 24 + 6 ≡ 30 * suc k = omega arith in
          data_stand bits bytes (suc k) n (subst (λ p. StandFrom bytes 0 p (data_fields bits (suc k) n)) e stand.1) j (omega arith) (omega arith)
      | inr same ↦
          let e : k ≡ j = omega arith in
          let place : 0 + 30 * k ≡ 30 * k = omega arith in
          subst (λ i. number_at bytes (30 * i) 24 ≡ source_of (word_of bits i) (last_before bits i)) e
          (ap (λ p. number_at bytes p 24) (sym place) ∙ stand.0)
    ]

data_width : (bits : List ℕ) (k n : ℕ) → table_width (data_fields bits k n) ≡ 30 * n + 4
unfolding data_fields
data_width bits k zero = refl
data_width bits k (suc n) = omega (arith, data_width bits (suc k) n)

data_fit : (bits : List ℕ) (k n : ℕ) → AllFit (data_fields bits k n)
unfolding data_fields
data_fit bits k zero = tt
data_fit bits k (suc n) = ((source-is (word_of bits k) (last_before bits k)).fits, data_fit bits (suc k) n)

pub data_source : (bits : List ℕ) → AreSource bits (data_bits_of bits) 10
unfolding data_bits_of
data_source bits k low =
    let stand : StandFrom (data_bits_of bits) 0 0 (data_fields bits 0 10) = fields_stand 38 (data_fields bits 0 10) (data_fit bits 0 10) (data_width bits 0 10) in
    let is : number_at (data_bits_of bits) (30 * k) 24 ≡ source_of (word_of bits k) (last_before bits k) =
    data_stand bits (data_bits_of bits) 0 10 stand k (omega arith) (omega arith) in
    subst (IsSource (word_of bits k) (last_before bits k)) (sym is) (source-is (word_of bits k) (last_before bits k))

-- ---- the reading

whole : (bits : List ℕ) → HasPreamble bits → Goods (upright bits) 0 10 → IsSubframe bits (data_bits_of (upright bits))
whole bits begins good = record { preamble = begins; good = λ k h. good k (omega arith) h; data_bits = data_source (upright bits) }

preamble_from : (bits : List ℕ) → HasPreamble bits → has_preamble bits ≡ true
preamble_from bits begins = told (has_preamble bits) refl
  where
    told : (b : Bool) → has_preamble bits ≡ b → has_preamble bits ≡ true
    told true e = e
    told false e = absurd (preamble_false bits e begins)

no_preamble_from : (bits : List ℕ) → (HasPreamble bits → ⊥) → has_preamble bits ≡ false
no_preamble_from bits none = told (has_preamble bits) refl
  where
    told : (b : Bool) → has_preamble bits ≡ b → has_preamble bits ≡ false
    told true e = absurd (none (preamble_true bits e))
    told false e = e

no_bad : (bits : List ℕ) (w : Option ℕ) → AreGood bits 10 → Judged bits 0 10 w → w ≡ None
no_bad bits None good is = refl
no_bad bits (Some word) good is = absurd (good_before bits word good (first_bad bits word is))

one_bad : (bits : List ℕ) (word : ℕ) (w : Option ℕ) → IsFirstBad bits word → Judged bits 0 10 w → w ≡ Some word
one_bad bits word None bad is = absurd (bad.bad (is (word - 1) (omega arith) (omega (arith, bad.low, bad.high))))
one_bad bits word (Some v) bad is = ap Some (same_word bits v word (first_bad bits v is) bad)

-- by whether the bits begin with a preamble
abbrev by_preamble : List ℕ → Satellite → ℕ → Bool → Result Part LnavFault
by_preamble bits sat stamp begins = if begins then by_words (upright bits) sat stamp (bad_word_from (upright bits) 0 10) else Err Preamble

-- the function gives the content of the data bits of a subframe, and refuses other bits
pub of_subframe : (bits source : List ℕ) (sat : Satellite) (stamp : ℕ) → IsSubframe bits source → subframe_of bits sat stamp ≡ heard sat stamp (content source)
unfolding subframe_of
of_subframe bits source sat stamp is =
    let both = two_agree (upright bits) source (data_bits_of (upright bits)) is.data_bits (data_source (upright bits)) in
    ap (by_preamble bits sat stamp) (preamble_from bits is.preamble)
    ∙ ap (by_words (upright bits) sat stamp) (no_bad (upright bits) (bad_word_from (upright bits) 0 10) is.good (judged (upright bits) 0 10))
    ∙ ap (heard sat stamp) (content_same source (data_bits_of (upright bits)) both)

pub of_bad_word : (bits : List ℕ) (sat : Satellite) (stamp word : ℕ) → HasPreamble bits → IsFirstBad (upright bits) word → subframe_of bits sat stamp ≡ Err (Parity word)
unfolding subframe_of
of_bad_word bits sat stamp word begins bad =
    ap (by_preamble bits sat stamp) (preamble_from bits begins)
    ∙ ap (by_words (upright bits) sat stamp) (one_bad (upright bits) word (bad_word_from (upright bits) 0 10) bad (judged (upright bits) 0 10))

pub of_no_preamble : (bits : List ℕ) (sat : Satellite) (stamp : ℕ) → (HasPreamble bits → ⊥) → subframe_of bits sat stamp ≡ Err Preamble
unfolding subframe_of
of_no_preamble bits sat stamp none = ap (by_preamble bits sat stamp) (no_preamble_from bits none)

-- the bits encode the part that the function gives, and the function gives the part that they encode
abbrev given : Part → Result Part LnavFault
given p = Ok p

given_is : (p q : Part) → given p ≡ given q → p ≡ q
given_is p q e = cc

no_ok : {X E : Type 0} {x : E} {y : X} → Err x ≡ Ok y → ⊥
no_ok e = cc

received_is : (sat : Satellite) (stamp : ℕ) (r : Result Body LnavFault) (part : Part) → heard sat stamp r ≡ Ok part → (part.stamp ≡ stamp) × (part.sat ≡ sat) × (r ≡ Ok part.body)
received_is sat stamp (Ok body) part e = let f = given_is (record { stamp = stamp; sat = sat; body = body }) part e in (sym (ap (λ (p : Part). p.stamp) f), sym (ap (λ (p : Part). p.sat) f), ap (λ (p : Part). Ok p.body) f)
received_is sat stamp (Err fault) part e = absurd (no_ok e)

stands_by : (bits : List ℕ) (sat : Satellite) (stamp : ℕ) (w : Option ℕ) (part : Part) → HasPreamble bits → Judged (upright bits) 0 10 w
    → by_words (upright bits) sat stamp w ≡ Ok part → StandsFor bits sat stamp part
stands_by bits sat stamp None part begins good e =
    let h = received_is sat stamp (content (data_bits_of (upright bits))) part e in (h.0, h.1, (data_bits_of (upright bits), whole bits begins good, h.2))
stands_by bits sat stamp (Some word) part begins bad e = absurd (no_ok e)

pub stands : (bits : List ℕ) (sat : Satellite) (stamp : ℕ) (part : Part) → subframe_of bits sat stamp ≡ Ok part → StandsFor bits sat stamp part
unfolding subframe_of
stands bits sat stamp part e = told (has_preamble bits) refl e
  where
    told : (b : Bool) → has_preamble bits ≡ b → by_preamble bits sat stamp b ≡ Ok part → StandsFor bits sat stamp part
    told true is f = stands_by bits sat stamp (bad_word_from (upright bits) 0 10) part (preamble_true bits is) (judged (upright bits) 0 10) f
    told false is f = absurd (no_ok f)

pub stands_back : (bits : List ℕ) (sat : Satellite) (stamp : ℕ) (part : Part) → StandsFor bits sat stamp part → subframe_of bits sat stamp ≡ Ok part
stands_back bits sat stamp part h =
    let s = sym h.0 in
    let t = sym h.1 in
    of_subframe bits h.2.0 sat stamp h.2.1 ∙ ap (heard sat stamp) h.2.2 ∙ (λ i. Ok (record { stamp = s i; sat = t i; body = part.body }))

-- a written subframe is read with the same content
pub read_as_written : (body : SubframeOut) (tow_count : ℕ) (bits : List ℕ) → tow_count < 100800 → IsWritable body → HasTime body → IsWritten body tow_count bits
    → AllReadAs bits (read_again body tow_count)
read_as_written body tow_count bits low ok time written sat stamp =
    let begins : number_at bits 0 8 ≡ 139 = preamble_sent bits written.0 written.2 ∙ preamble_held body tow_count written.0 written.1 in
    let up : upright bits ≡ bits = stays bits begins in
    let good : AreGood bits 10 = λ k h. good_word k (word_of bits k) (last_before bits k) _ (written.2.words k h) in
    let right : AreGood (upright bits) 10 = subst (λ (u : List ℕ). AreGood u 10) (sym up) good in
    let is : IsSubframe bits (data_bits_of (upright bits)) = whole bits (inl begins) (λ k l h. right k h) in
    of_subframe bits (data_bits_of (upright bits)) sat stamp is
    ∙ ap (heard sat stamp) (as_written body tow_count bits written.0 (data_bits_of (upright bits)) low ok time written.1 written.2 up is)
