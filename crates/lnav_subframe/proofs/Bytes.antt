-- A written subframe is `subframe_bytes` of its content.
use Rattle.std.proofs.Common.{◌≡◌, ℕ, zero, suc, ◌+◌, ◌-◌, ◌*◌, ◌/◌, ◌%◌, ◌^◌, ◌<◌, ◌≤◌, ◌||◌, nat_eq, List, Bool, true, false, ℤ, lit<, refl, sym, ap, ◌∙◌, subst, arith}
use Rattle.std.specs.Prelude.{if◌then◌else◌}
use Rattle.std.proofs.lemmas.Bool.{eqb-true, eqb-false, cond_both}
use Rattle.std.proofs.lemmas.Nat.{div-mul-add, mod-mul-add, mod_below}
use Rattle.nav_bits.specs.Bits.{number_at}
use Rattle.nav_bits.specs.Fields.{StandFrom, table_width}
use Rattle.nav_bits.specs.Laws.{number_at-lt}
use Rattle.nav_bits.specs.Packed.{AllFit, AreBytes, ZerosFrom, pack}
use Rattle.nav_bits.specs.Signed.{IsSigned, signed_of, unsigned_of}
use Rattle.nav_bits.proofs.Surface.{number_at-of_whole, number_packed, only_packed, signed_of-same, signed_of-unsigned, unsigned_of-lt}
use Rattle.lnav_subframe.specs.Parity.{IsGood, IsSource, IsSolved}
use Rattle.lnav_subframe.specs.ParityFunctions.{made_of, solved_of}
use Rattle.lnav_subframe.proofs.Equations.{one_word}
use Rattle.lnav_subframe.proofs.Choice.{one_solved}
use Rattle.lnav_subframe.proofs.ParityFunctions.{made-good, made-source, made-lt, solved-is, solved-lt}
use Rattle.lnav_subframe.specs.declared.out.SubframeOut.{SubframeOut}
use Rattle.lnav_subframe.specs.declared.out.SubframeOut.TheVariants.{Clock, OrbitA, OrbitB, Ion, Other}
use Rattle.lnav_subframe.specs.Bytes.{HasBits, data_of, data_table, subframe_bytes, word_fields, word_number}
use Rattle.lnav_subframe.specs.Subframes.{head_at, subframe1_at, subframe2_at, subframe3_at, page18_at}
use Rattle.lnav_subframe.specs.Words.{IsWord, last_before, word_of}
use Rattle.lnav_subframe.specs.Writing.{Holds, IsWritten, subframe1_of, subframe2_of, subframe3_of, page18_of}

-- ---- the data bits

two_parts : (h l k n : ℕ) → l < k → h * k + l ≡ n → (h ≡ n / k) × (l ≡ n % k)
two_parts h l k n low e = (sym (div-mul-add h k l low) ∙ ap (λ m. m / k) e, sym (mod-mul-add h k l low) ∙ ap (λ m. m % k) e)

two_signed : (h l : ℕ) (z : ℤ) → IsSigned 32 z → h < 256 → l < 16777216 → signed_of 32 (h * 16777216 + l) ≡ z
    → (h ≡ unsigned_of 32 z / 16777216) × (l ≡ unsigned_of 32 z % 16777216)
two_signed h l z fits high low e =
    let some : 1 ≤ 32 = omega arith in
    let all : h * 16777216 + l < 2 ^ 32 = omega arith in
    let is : h * 16777216 + l ≡ unsigned_of 32 z =
    signed_of-same 32 (h * 16777216 + l) (unsigned_of 32 z) some all (unsigned_of-lt 32 z some fits) (e ∙ sym (signed_of-unsigned 32 z some fits)) in
    two_parts h l 16777216 (unsigned_of 32 z) low is

high_signed-lt : (z : ℤ) → IsSigned 32 z → unsigned_of 32 z / 16777216 < 256
high_signed-lt z fits = let some : 1 ≤ 32 = omega arith in let all : unsigned_of 32 z < 4294967296 = unsigned_of-lt 32 z some fits in omega (arith, all)

data_stand : (body : SubframeOut) (tow_count : ℕ) (a : List ℕ) → HasBits body → Holds body tow_count a
    → StandFrom a 0 0 (data_table body tow_count) × ZerosFrom a 0 0 (data_table body tow_count)
data_stand (Clock clock side wn) tow_count a has x =
    let f : subframe1_at a 0 ≡ subframe1_of clock side wn tow_count = x.0 in
    let two_iodc = two_parts (number_at a 82 2) (number_at a 210 8) 256 clock.iodc (number_at-lt a 210 8) (ap (λ r. r.iodc) f) in (
      (x.1.0, (ap (λ r. r.tow_count) f, (x.1.3, (ap (λ r. r.wn) f, (ap (λ r. r.l2_code) f, (ap (λ r. r.ura) f, (ap (λ r. r.health) f, (two_iodc.0, (ap (λ r. r.l2p) f, (ap (λ r. r.tgd) f, (two_iodc.1, (ap (λ r. r.toc) f, (ap (λ r. r.af2) f, (ap (λ r. r.af1) f, (ap (λ r. r.af0) f, tt))))))))))))))),
      (x.1.1, (x.1.2, (x.1.4, (x.1.5, (x.1.6, (x.1.7, (x.1.8, (x.1.9, (x.1.10, (x.1.11, tt)))))))))),
    )
data_stand (OrbitA orbit fit) tow_count a has x =
    let f : subframe2_at a 0 ≡ subframe2_of orbit fit tow_count = x.0 in
    let two_m0 = two_signed (number_at a 106 8) (number_at a 120 24) orbit.m0 has.0.m0 (number_at-lt a 106 8) (number_at-lt a 120 24) (ap (λ r. r.m0) f) in
    let two_e = two_parts (number_at a 166 8) (number_at a 180 24) 16777216 orbit.e (number_at-lt a 180 24) (ap (λ r. r.e) f) in
    let two_root_a = two_parts (number_at a 226 8) (number_at a 240 24) 16777216 orbit.root_a (number_at-lt a 240 24) (ap (λ r. r.root_a) f) in (
      (x.1.0, (ap (λ r. r.tow_count) f, (x.1.3, (ap (λ r. r.iode) f, (ap (λ r. r.crs) f, (ap (λ r. r.delta_n) f, (two_m0.0, (two_m0.1, (ap (λ r. r.cuc) f, (two_e.0, (two_e.1, (ap (λ r. r.cus) f, (two_root_a.0, (two_root_a.1, (ap (λ r. r.toe) f, (ap (λ r. r.fit) f, tt)))))))))))))))),
      (x.1.1, (x.1.2, (x.1.4, (x.1.5, (x.1.6, (x.1.7, (x.1.8, (x.1.9, (x.1.10, (x.1.11, (x.1.12, tt))))))))))),
    )
data_stand (OrbitB orbit) tow_count a has x =
    let f : subframe3_at a 0 ≡ subframe3_of orbit tow_count = x.0 in
    let two_omega0 = two_signed (number_at a 76 8) (number_at a 90 24) orbit.omega0 has.omega0 (number_at-lt a 76 8) (number_at-lt a 90 24) (ap (λ r. r.omega0) f) in
    let two_i0 = two_signed (number_at a 136 8) (number_at a 150 24) orbit.i0 has.i0 (number_at-lt a 136 8) (number_at-lt a 150 24) (ap (λ r. r.i0) f) in
    let two_omega = two_signed (number_at a 196 8) (number_at a 210 24) orbit.omega has.omega (number_at-lt a 196 8) (number_at-lt a 210 24) (ap (λ r. r.omega) f) in (
      (x.1.0, (ap (λ r. r.tow_count) f, (x.1.3, (ap (λ r. r.cic) f, (two_omega0.0, (two_omega0.1, (ap (λ r. r.cis) f, (two_i0.0, (two_i0.1, (ap (λ r. r.crc) f, (two_omega.0, (two_omega.1, (ap (λ r. r.omega_dot) f, (ap (λ r. r.iode) f, (ap (λ r. r.idot) f, tt))))))))))))))),
      (x.1.1, (x.1.2, (x.1.4, (x.1.5, (x.1.6, (x.1.7, (x.1.8, (x.1.9, (x.1.10, (x.1.11, (x.1.12, tt))))))))))),
    )
data_stand (Ion ion) tow_count a has x =
    let f : page18_at a 0 ≡ page18_of ion tow_count = x.0 in (
      (x.1.0, (ap (λ r. r.tow_count) f, (x.1.3, (x.1.5, (x.1.6, (ap (λ r. r.alpha0) f, (ap (λ r. r.alpha1) f, (ap (λ r. r.alpha2) f, (ap (λ r. r.alpha3) f, (ap (λ r. r.beta0) f, (ap (λ r. r.beta1) f, (ap (λ r. r.beta2) f, (ap (λ r. r.beta3) f, tt))))))))))))),
      (x.1.1, (x.1.2, (x.1.4, (x.1.7, (x.1.8, (x.1.9, (x.1.10, (x.1.11, tt)))))))),
    )
data_stand (Other number page) tow_count a has x =
    let f : head_at a 0 ≡ record { tow_count = tow_count; number = number; page = page } = x.0 in (
      (x.1.0, (ap (λ r. r.tow_count) f, (ap (λ r. r.number) f, (x.1.4, (ap (λ r. r.page) f, tt))))),
      (x.1.1, (x.1.2, (x.1.3, (x.1.5, (x.1.6, (x.1.7, (x.1.8, tt))))))),
    )

pub data_fits : (body : SubframeOut) (tow_count : ℕ) → HasBits body → tow_count < 100800 → AllFit (data_table body tow_count)
data_fits (Clock clock side wn) tow_count has low = (lit< tt, (omega (arith, low), (lit< tt, (has.2, (has.1.l2_code, (has.1.ura, (has.1.health, (omega (arith, has.0.iodc), (has.1.l2p, (omega arith, has.0.tgd, (mod_below clock.iodc 256 (lit< tt), (omega (arith, has.0.toc), (omega arith, has.0.af2, (omega arith, has.0.af1, (omega arith, has.0.af0, tt)))))))))))))))
data_fits (OrbitA orbit fit) tow_count has low = (lit< tt, (omega (arith, low), (lit< tt, (has.0.iode, (omega arith, has.0.crs, (omega arith, has.0.delta_n, (high_signed-lt orbit.m0 has.0.m0, (mod_below (unsigned_of 32 orbit.m0) 16777216 (lit< tt), (omega arith, has.0.cuc, (omega (arith, has.0.e), (mod_below orbit.e 16777216 (lit< tt), (omega arith, has.0.cus, (omega (arith, has.0.root_a), (mod_below orbit.root_a 16777216 (lit< tt), (omega (arith, has.0.toe), (has.1, tt))))))))))))))))
data_fits (OrbitB orbit) tow_count has low = (lit< tt, (omega (arith, low), (lit< tt, (omega arith, has.cic, (high_signed-lt orbit.omega0 has.omega0, (mod_below (unsigned_of 32 orbit.omega0) 16777216 (lit< tt), (omega arith, has.cis, (high_signed-lt orbit.i0 has.i0, (mod_below (unsigned_of 32 orbit.i0) 16777216 (lit< tt), (omega arith, has.crc, (high_signed-lt orbit.omega has.omega, (mod_below (unsigned_of 32 orbit.omega) 16777216 (lit< tt), (omega arith, has.omega_dot, (has.iode, (omega arith, has.idot, tt)))))))))))))))
data_fits (Ion ion) tow_count has low = (lit< tt, (omega (arith, low), (lit< tt, (lit< tt, (lit< tt, (omega arith, has.alpha0, (omega arith, has.alpha1, (omega arith, has.alpha2, (omega arith, has.alpha3, (omega arith, has.beta0, (omega arith, has.beta1, (omega arith, has.beta2, (omega arith, has.beta3, tt)))))))))))))
data_fits (Other number page) tow_count has low = (lit< tt, (omega (arith, low), (has.0, (lit< tt, (has.1, tt)))))

pub data_width : (body : SubframeOut) (tow_count : ℕ) → table_width (data_table body tow_count) ≡ 300
data_width (Clock clock side wn) tow_count = refl
data_width (OrbitA orbit fit) tow_count = refl
data_width (OrbitB orbit) tow_count = refl
data_width (Ion ion) tow_count = refl
data_width (Other number page) tow_count = refl

-- the data bits of each word
data_is : (body : SubframeOut) (tow_count : ℕ) (a : List ℕ) → HasBits body → tow_count < 100800 → Holds body tow_count a
    → (k : ℕ) → k < 10 → number_at a (30 * k) 24 ≡ data_of body tow_count k
unfolding number_at
data_is body tow_count a has low holds k few =
    let table = data_table body tow_count in
    let both = data_stand body tow_count a has holds in
    let packed : number_at a 0 (0 + table_width table) ≡ pack 0 table = number_packed a 0 table (data_fits body tow_count has low) both.0 both.1 in
    let wide : 0 + table_width table ≡ 30 * k + 24 + (276 - 30 * k) = omega (arith, data_width body tow_count) in
    sym (number_at-of_whole a (30 * k) 24 (276 - 30 * k))
    ∙ ap (λ n. n / 2 ^ (276 - 30 * k) % 2 ^ 24) (ap (number_at a 0) (sym wide) ∙ packed)

-- ---- the words

solved_same : (word last bits : ℕ) → word < 2 ^ 30 → bits < 2 ^ 22 → IsSolved word last bits → word ≡ solved_of bits last
solved_same word last bits low fits is = one_solved word (solved_of bits last) last bits low (solved-lt bits last fits) is (solved-is bits last fits)

made_same : (word last bits : ℕ) → word < 2 ^ 30 → bits < 2 ^ 24 → IsGood word last → IsSource word last bits → word ≡ made_of bits last
made_same word last bits low fits good source =
    one_word word (made_of bits last) last bits low (made-lt bits last fits) source (made-source bits last fits) good (made-good bits last fits)

word_by : (k word last bits : ℕ) (second tenth : Bool) → nat_eq k 1 ≡ second → nat_eq k 9 ≡ tenth → word < 2 ^ 30 → bits < 2 ^ 24 → IsWord k word last bits
    → word ≡ (if second || tenth then solved_of (bits / 4) last else made_of bits last)
word_by k word last bits true tenth e e' low fits is = solved_same word last (bits / 4) low (omega arith) (is.second (eqb-true k 1 e))
word_by k word last bits false true e e' low fits is = solved_same word last (bits / 4) low (omega arith) (is.tenth (eqb-true k 9 e'))
word_by k word last bits false false e e' low fits is =
    made_same word last bits low fits (is.good (eqb-false k 1 e) (eqb-false k 9 e')) (is.source (eqb-false k 1 e) (eqb-false k 9 e'))

word_is : (k word last bits : ℕ) → word < 2 ^ 30 → bits < 2 ^ 24 → IsWord k word last bits → word ≡ word_number k bits last
word_is k word last bits low fits is = word_by k word last bits (nat_eq k 1) (nat_eq k 9) refl refl low fits is

number-lt : (k bits last : ℕ) → bits < 2 ^ 24 → word_number k bits last < 2 ^ 30
number-lt k bits last fits =
    cond_both (nat_eq k 1 || nat_eq k 9) (solved_of (bits / 4) last) (made_of bits last) (λ w. w < 2 ^ 30)
    (λ e. solved-lt (bits / 4) last (omega arith)) (λ e. made-lt bits last fits)

pub words_fit : (d : ℕ → ℕ) (last k n : ℕ) → ((j : ℕ) → d j < 2 ^ 24) → AllFit (word_fields d last k n)
unfolding word_fields
words_fit d last k zero low = tt
words_fit d last k (suc n) low = (number-lt k (d k) last (low k), words_fit d (word_number k (d k) last % 4) (suc k) n low)

pub words_width : (d : ℕ → ℕ) (last k n : ℕ) → table_width (word_fields d last k n) ≡ 30 * n + 4
unfolding word_fields
words_width d last k zero = refl
words_width d last k (suc n) = omega (arith, words_width d (word_number k (d k) last % 4) (suc k) n)

-- the words of the data bits are in the bits
words_stand : (bits : List ℕ) (d : ℕ → ℕ) (k n : ℕ) → k + n ≡ 10 → ((j : ℕ) → d j < 2 ^ 24)
    → ((j : ℕ) → j < 10 → IsWord j (word_of bits j) (last_before bits j) (d j)) → number_at bits 300 4 ≡ 0
    → StandFrom bits 0 (30 * k) (word_fields d (last_before bits k) k n) × ZerosFrom bits 0 (30 * k) (word_fields d (last_before bits k) k n)
unfolding word_fields last_before
words_stand bits d k zero end low words behind =
    let place : 300 ≡ 0 + 30 * k = omega arith in (tt, (ap (λ p. number_at bits p 4) (sym place) ∙ behind, tt))
words_stand bits d k (suc n) end low words behind =
    let is : word_of bits k ≡ word_number k (d k) (last_before bits k) =
    word_is k (word_of bits k) (last_before bits k) (d k) (number_at-lt bits (30 * k) 30) (low k) (words k (omega arith)) in
    let rest = words_stand bits d (suc k) n (omega arith) low words behind in
    let next : 30 * suc k ≡ 30 * k + 30 = omega arith in
    let last : word_of bits k % 4 ≡ word_number k (d k) (last_before bits k) % 4 = ap (λ w. w % 4) is in
    let place : 0 + 30 * k ≡ 30 * k = omega arith in (
      (
        ap (λ p. number_at bits p 30) place ∙ is,
        subst (λ l. StandFrom bits 0 (30 * k + 30) (word_fields d l (suc k) n)) last
            (subst (λ p. StandFrom bits 0 p (word_fields d (word_of bits k % 4) (suc k) n)) next rest.0),
      ),
      subst (λ l. ZerosFrom bits 0 (30 * k + 30) (word_fields d l (suc k) n)) last
          (subst (λ p. ZerosFrom bits 0 p (word_fields d (word_of bits k % 4) (suc k) n)) next rest.1),
    )

-- written bytes are those of the function
pub written_is : (body : SubframeOut) (tow_count : ℕ) (bits : List ℕ) → HasBits body → tow_count < 100800 → AreBytes 38 bits → IsWritten body tow_count bits
    → bits ≡ subframe_bytes body tow_count
unfolding subframe_bytes last_before
written_is body tow_count bits has low are written =
    let d = data_of body tow_count in
    let fits : (j : ℕ) → d j < 2 ^ 24 = λ j. mod_below (pack 0 (data_table body tow_count) / 2 ^ (276 - 30 * j)) 16777216 (lit< tt) in
    let words : (j : ℕ) → j < 10 → IsWord j (word_of bits j) (last_before bits j) (d j) = λ j few.
    subst (IsWord j (word_of bits j) (last_before bits j)) (data_is body tow_count written.0 has low written.1 j few) (written.2.words j few) in
    let stand = words_stand bits d 0 10 refl fits words written.2.behind in
    only_packed 38 (word_fields d 0 0 10) bits (words_fit d 0 0 10 fits) (words_width d 0 0 10) are stand.0 stand.1
