-- `subframe_bytes` is a written subframe, and it is read with the same content.
use Rattle.std.proofs.Common.{◌≡◌, ℕ, zero, suc, ◌+◌, ◌-◌, ◌*◌, ◌/◌, ◌%◌, ◌^◌, ◌<◌, ◌≤◌, ◌||◌, nat_eq, inl, inr, List, Bool, true, false, ℤ, lit<, refl, sym, ap, ◌∙◌, subst, arith}
use Rattle.std.specs.Prelude.{if◌then◌else◌}
use Rattle.std.specs.Int.{bytes_high_first}
use Rattle.std.proofs.lemmas.Bool.{cases_lt, eqb-true, eqb-false}
use Rattle.std.proofs.Math.Nat.{mod-eq_of_lt}
use Rattle.std.proofs.lemmas.Nat.{mod_below}
use Rattle.nav_bits.specs.Bits.{number_at}
use Rattle.nav_bits.specs.Fields.{StandFrom, table_width}
use Rattle.nav_bits.specs.Laws.{number_at-append, number_at-lt}
use Rattle.nav_bits.specs.Packed.{AreBytes, ZerosFrom, pack, packed}
use Rattle.nav_bits.specs.Signed.{IsSigned, signed_of, unsigned_of}
use Rattle.nav_bits.proofs.Surface.{are_bytes, fields_stand, number_at-bytes_of, number_at-of_whole, pack-lt, packed_number, signed_of-unsigned, zeros_stand}
use Rattle.lnav_subframe.specs.ParityFunctions.{made_of, solved_of}
use Rattle.lnav_subframe.proofs.ParityFunctions.{made-good, made-source, solved-is}
use Rattle.nav_eph.specs.Satellite.{Satellite}
use Rattle.lnav_subframe.specs.declared.out.SubframeOut.{SubframeOut}
use Rattle.lnav_subframe.specs.declared.out.SubframeOut.TheVariants.{Clock, OrbitA, OrbitB, Ion, Other}
use Rattle.lnav_subframe.specs.Bytes.{HasBits, data_of, data_table, subframe_bytes, word_fields, word_number}
use Rattle.lnav_subframe.specs.Reading.{heard, subframe_of}
use Rattle.lnav_subframe.specs.Words.{IsWord, last_before, word_of}
use Rattle.lnav_subframe.specs.Writing.{HasTime, Holds, IsWritable, IsWritten, read_again}
use Rattle.lnav_subframe.proofs.Bytes.{data_fits, data_width, words_fit, words_width}
use Rattle.lnav_subframe.proofs.Functions.{read_as_written}
use Rattle.lnav_subframe.proofs.Places.{plain_word, second_word, tenth_word}

-- ---- the data bits

-- a number in two ranges is one of its high and its low bits
whole_8 : (h l n : ℕ) → h ≡ n / 256 → l ≡ n % 256 → h * 256 + l ≡ n
whole_8 h l n high low = omega arith

whole_24 : (h l n : ℕ) → h ≡ n / 16777216 → l ≡ n % 16777216 → h * 16777216 + l ≡ n
whole_24 h l n high low = omega arith

signed_whole : (h l : ℕ) (z : ℤ) → IsSigned 32 z → h ≡ unsigned_of 32 z / 16777216 → l ≡ unsigned_of 32 z % 16777216
    → signed_of 32 (h * 16777216 + l) ≡ z
signed_whole h l z fits high low =
    ap (signed_of 32) (whole_24 h l (unsigned_of 32 z) high low) ∙ signed_of-unsigned 32 z (omega arith) fits

-- where the table of a subframe is in the bits, they hold its fields
holds : (body : SubframeOut) (tow_count : ℕ) (a : List ℕ) → HasBits body → StandFrom a 0 0 (data_table body tow_count)
    → ZerosFrom a 0 0 (data_table body tow_count) → Holds body tow_count a
holds (Clock clock side wn) tow_count a has (is_pre, (is_count, (is_num, (is_wn, (is_l2_code, (is_ura, (is_health, (is_iodc_h, (is_l2p, (is_tgd, (is_iodc_l, (is_toc, (is_af2, (is_af1, (is_af0, u))))))))))))))) (z0, (z1, (z2, (z3, (z4, (z5, (z6, (z7, (z8, (z9, u')))))))))) =
    let iodc2 : number_at a 82 2 * 256 + number_at a 210 8 ≡ clock.iodc = whole_8 (number_at a 82 2) (number_at a 210 8) clock.iodc is_iodc_h is_iodc_l in
    (simp (is_count, is_wn, is_l2_code, is_ura, is_health, is_l2p, is_tgd, iodc2, is_toc, is_af2, is_af1, is_af0), (is_pre, z0, z1, is_num, z2, z3, z4, z5, z6, z7, z8, z9))
holds (OrbitA orbit fit) tow_count a has (is_pre, (is_count, (is_num, (is_iode, (is_crs, (is_delta_n, (is_m0_h, (is_m0_l, (is_cuc, (is_e_h, (is_e_l, (is_cus, (is_root_a_h, (is_root_a_l, (is_toe, (is_fit, u)))))))))))))))) (z0, (z1, (z2, (z3, (z4, (z5, (z6, (z7, (z8, (z9, (z10, u'))))))))))) =
    let m02 : signed_of 32 (number_at a 106 8 * 16777216 + number_at a 120 24) ≡ orbit.m0 = signed_whole (number_at a 106 8) (number_at a 120 24) orbit.m0 has.0.m0 is_m0_h is_m0_l in
    let e2 : number_at a 166 8 * 16777216 + number_at a 180 24 ≡ orbit.e = whole_24 (number_at a 166 8) (number_at a 180 24) orbit.e is_e_h is_e_l in
    let root_a2 : number_at a 226 8 * 16777216 + number_at a 240 24 ≡ orbit.root_a = whole_24 (number_at a 226 8) (number_at a 240 24) orbit.root_a is_root_a_h is_root_a_l in
    (simp (is_count, is_iode, is_crs, is_delta_n, m02, is_cuc, e2, is_cus, root_a2, is_toe, is_fit), (is_pre, z0, z1, is_num, z2, z3, z4, z5, z6, z7, z8, z9, z10))
holds (OrbitB orbit) tow_count a has (is_pre, (is_count, (is_num, (is_cic, (is_omega0_h, (is_omega0_l, (is_cis, (is_i0_h, (is_i0_l, (is_crc, (is_omega_h, (is_omega_l, (is_omega_dot, (is_iode, (is_idot, u))))))))))))))) (z0, (z1, (z2, (z3, (z4, (z5, (z6, (z7, (z8, (z9, (z10, u'))))))))))) =
    let omega02 : signed_of 32 (number_at a 76 8 * 16777216 + number_at a 90 24) ≡ orbit.omega0 = signed_whole (number_at a 76 8) (number_at a 90 24) orbit.omega0 has.omega0 is_omega0_h is_omega0_l in
    let i02 : signed_of 32 (number_at a 136 8 * 16777216 + number_at a 150 24) ≡ orbit.i0 = signed_whole (number_at a 136 8) (number_at a 150 24) orbit.i0 has.i0 is_i0_h is_i0_l in
    let omega2 : signed_of 32 (number_at a 196 8 * 16777216 + number_at a 210 24) ≡ orbit.omega = signed_whole (number_at a 196 8) (number_at a 210 24) orbit.omega has.omega is_omega_h is_omega_l in
    (simp (is_count, is_cic, omega02, is_cis, i02, is_crc, omega2, is_omega_dot, is_iode, is_idot), (is_pre, z0, z1, is_num, z2, z3, z4, z5, z6, z7, z8, z9, z10))
holds (Ion ion) tow_count a has (is_pre, (is_count, (is_num, (is_id, (is_page, (is_alpha0, (is_alpha1, (is_alpha2, (is_alpha3, (is_beta0, (is_beta1, (is_beta2, (is_beta3, u))))))))))))) (z0, (z1, (z2, (z3, (z4, (z5, (z6, (z7, u')))))))) =
    (simp (is_count, is_alpha0, is_alpha1, is_alpha2, is_alpha3, is_beta0, is_beta1, is_beta2, is_beta3), (is_pre, z0, z1, is_num, z2, is_id, is_page, z3, z4, z5, z6, z7))
holds (Other number page) tow_count a has (is_pre, (is_count, (is_number, (is_id, (is_page, u))))) (z0, (z1, (z2, (z3, (z4, (z5, (z6, u'))))))) =
    (simp (is_count, is_number, is_page), (is_pre, z0, z1, z2, is_id, z3, z4, z5, z6))

-- the data bits of a subframe, followed by four 0 bits
abbrev data_bytes : SubframeOut → ℕ → List ℕ
data_bytes body tow_count = bytes_high_first 38 (pack 0 (data_table body tow_count) * 16)

data_number : (body : SubframeOut) (tow_count : ℕ) → HasBits body → tow_count < 100800
    → number_at (data_bytes body tow_count) 0 300 ≡ pack 0 (data_table body tow_count)
data_number body tow_count has low =
    let a = data_bytes body tow_count in
    let n = pack 0 (data_table body tow_count) in
    let fits : n < 2 ^ (0 + table_width (data_table body tow_count)) = pack-lt 0 0 (data_table body tow_count) (lit< tt) (data_fits body tow_count has low) in
    let below : n < 2 ^ 300 = subst (λ w. n < 2 ^ (0 + w)) (data_width body tow_count) fits in
    let all : number_at a 0 304 ≡ n * 16 = number_at-bytes_of 38 (n * 16) ∙ mod-eq_of_lt (omega (arith, below)) in
    omega (arith, all, number_at-append a 0 300 4, number_at-lt a 300 4)

data_word : (body : SubframeOut) (tow_count : ℕ) → HasBits body → tow_count < 100800 → (k : ℕ) → k < 10
    → number_at (data_bytes body tow_count) (30 * k) 24 ≡ data_of body tow_count k
data_word body tow_count has low k few =
    let a = data_bytes body tow_count in
    let wide : 300 ≡ 30 * k + 24 + (276 - 30 * k) = omega arith in
    sym (number_at-of_whole a (30 * k) 24 (276 - 30 * k))
    ∙ ap (λ n. n / 2 ^ (276 - 30 * k) % 2 ^ 24) (ap (number_at a 0) (sym wide) ∙ data_number body tow_count has low)

held : (body : SubframeOut) (tow_count : ℕ) → HasBits body → tow_count < 100800 → Holds body tow_count (data_bytes body tow_count)
held body tow_count has low =
    let a = data_bytes body tow_count in
    let wide : 0 + table_width (data_table body tow_count) ≡ 300 = ap (λ w. 0 + w) (data_width body tow_count) in
    let stand = packed_number a 0 0 (data_table body tow_count) (data_fits body tow_count has low)
    (ap (number_at a 0) wide ∙ data_number body tow_count has low) in
    holds body tow_count a has stand.1 stand.2

-- ---- the words

word_by : (k last bits : ℕ) (second tenth : Bool) → nat_eq k 1 ≡ second → nat_eq k 9 ≡ tenth → bits < 2 ^ 24
    → IsWord k (if second || tenth then solved_of (bits / 4) last else made_of bits last) last bits
word_by k last bits true tenth e e' fits = second_word k _ last bits (eqb-true k 1 e) (solved-is (bits / 4) last (omega arith))
word_by k last bits false true e e' fits = tenth_word k _ last bits (eqb-true k 9 e') (solved-is (bits / 4) last (omega arith))
word_by k last bits false false e e' fits =
    plain_word k _ last bits (eqb-false k 1 e) (eqb-false k 9 e') (made-good bits last fits) (made-source bits last fits)

word_stands : (k last bits : ℕ) → bits < 2 ^ 24 → IsWord k (word_number k bits last) last bits
word_stands k last bits fits = word_by k last bits (nat_eq k 1) (nat_eq k 9) refl refl fits

-- where the words are in the bits, each is that of its data bits and of the previous word
words_back : (bits : List ℕ) (d : ℕ → ℕ) (k n : ℕ) → StandFrom bits 0 (30 * k) (word_fields d (last_before bits k) k n)
    → (j : ℕ) → k ≤ j → j < k + n → word_of bits j ≡ word_number j (d j) (last_before bits j)
unfolding word_fields last_before
words_back bits d k zero stand j low high = absurd (omega arith)
words_back bits d k (suc n) stand j low high =
    let place : 0 + 30 * k ≡ 30 * k = omega arith in
    let here : word_of bits k ≡ word_number k (d k) (last_before bits k) = ap (λ p. number_at bits p 30) (sym place) ∙ stand.0 in
    elim (cases_lt k j) [
      | inl less ↦
          let next : 30 * k + 30 ≡ 30 * suc k = omega arith in
          let last : word_number k (d k) (last_before bits k) % 4 ≡ word_of bits k % 4 = ap (λ w. w % 4) (sym here) in
          words_back bits d (suc k) n
          (subst (λ l. StandFrom bits 0 (30 * suc k) (word_fields d l (suc k) n)) last
          (subst (λ p. StandFrom bits 0 p (word_fields d (word_number k (d k) (last_before bits k) % 4) (suc k) n)) next stand.1))
          j (omega arith) (omega arith)
      | inr same ↦ let e : k ≡ j = omega arith in subst (λ i. word_of bits i ≡ word_number i (d i) (last_before bits i)) e here
    ]

-- the bits after the last word
behind_words : (bits : List ℕ) (d : ℕ → ℕ) (last k n : ℕ) → k + n ≡ 10 → ZerosFrom bits 0 (30 * k) (word_fields d last k n) → number_at bits 300 4 ≡ 0
unfolding word_fields
behind_words bits d last k zero end zeros = let place : 300 ≡ 0 + 30 * k = omega arith in ap (λ p. number_at bits p 4) place ∙ zeros.0
behind_words bits d last k (suc n) end zeros =
    let next : 30 * k + 30 ≡ 30 * suc k = omega arith in
    behind_words bits d (word_number k (d k) last % 4) (suc k) n (omega arith)
    (subst (λ p. ZerosFrom bits 0 p (word_fields d (word_number k (d k) last % 4) (suc k) n)) next zeros)

-- ---- the subframe

pub is_written : (body : SubframeOut) (tow_count : ℕ) → HasBits body → tow_count < 100800 → IsWritten body tow_count (subframe_bytes body tow_count)
unfolding subframe_bytes last_before
is_written body tow_count has low =
    let d = data_of body tow_count in
    let bits = packed 38 (word_fields d 0 0 10) in
    let a = data_bytes body tow_count in
    let fits : (j : ℕ) → d j < 2 ^ 24 = λ j. mod_below (pack 0 (data_table body tow_count) / 2 ^ (276 - 30 * j)) 16777216 (lit< tt) in
    let stand : StandFrom bits 0 0 (word_fields d 0 0 10) = fields_stand 38 (word_fields d 0 0 10) (words_fit d 0 0 10 fits) (words_width d 0 0 10) in
    let zeros : ZerosFrom bits 0 0 (word_fields d 0 0 10) = zeros_stand 38 (word_fields d 0 0 10) (words_fit d 0 0 10 fits) (words_width d 0 0 10) in
    let words : (k : ℕ) → k < 10 → IsWord k (word_of bits k) (last_before bits k) (number_at a (30 * k) 24) = λ k few.
    let is : word_of bits k ≡ word_number k (d k) (last_before bits k) = words_back bits d 0 10 stand k (omega arith) (omega arith) in
    subst (λ w. IsWord k w (last_before bits k) (number_at a (30 * k) 24)) (sym is)
    (subst (IsWord k (word_number k (d k) (last_before bits k)) (last_before bits k)) (sym (data_word body tow_count has low k few))
    (word_stands k (last_before bits k) (d k) (fits k))) in
    (a, held body tow_count has low, record { words = words; behind = behind_words bits d 0 0 10 refl zeros })

pub are_subframe_bytes : (body : SubframeOut) (tow_count : ℕ) → AreBytes 38 (subframe_bytes body tow_count)
unfolding subframe_bytes
are_subframe_bytes body tow_count = are_bytes 38 _

has_time : (body : SubframeOut) → HasBits body → HasTime body
has_time (Clock clock side wn) has = has.0.toc
has_time (OrbitA orbit fit) has = has.0.toe
has_time (OrbitB orbit) has = tt
has_time (Ion ion) has = tt
has_time (Other number page) has = tt

pub bytes_read : (body : SubframeOut) (tow_count : ℕ) (sat : Satellite) (stamp : ℕ) → HasBits body → tow_count < 100800 → IsWritable body
    → subframe_of (subframe_bytes body tow_count) sat stamp ≡ heard sat stamp (read_again body tow_count)
bytes_read body tow_count sat stamp has low ok =
    read_as_written body tow_count (subframe_bytes body tow_count) low ok (has_time body has) (is_written body tow_count has low) sat stamp
