-- The messages are those of the field's definition.
use Rattle.std.proofs.Common.{◌≡◌, ℕ, ◌+◌, ◌-◌, ◌%◌, ◌<◌, ◌≤◌, ◌&&◌, nat_le, nat_eq, Bool}
use Rattle.std.proofs.Common.{true, false, cond, List, length, get_or, take, drop, refl, sym, ap}
use Rattle.std.proofs.Common.{◌∙◌, arith}
use Rattle.std.proofs.lemmas.Bool.{and_parts, and_from, leb-true, le-leb, eqb-true, eq-eqb}
use Rattle.std.proofs.lemmas.List.{take-take, drop-take, length-take-le, get_or-take}
use Rattle.framing.specs.Headings.{size_by}
use Rattle.framing.specs.Syncs.{begins_by, wanted_by}
use Rattle.framing.specs.SyncLaws.{whole_has_header, wanted_many, begins_many}
use Rattle.framing.specs.UbxForm.{announced, total, running, body_of, has_right_sums, ubx_sync, ubx}
use Rattle.framing.specs.UbxFormLaws.{ubx_is_sync}
use Rattle.framing.specs.UbxField.{AreBytes, BeginsMessage}

-- the bytes that the checksum covers, of the first n bytes
body_is : (bytes : List ℕ) (n : ℕ) → 8 ≤ n → n ≤ length bytes
    → body_of (take n bytes) ≡ take (n - 4) (drop 2 bytes)
body_is bytes n long inside =
    let count : length (take n bytes) ≡ n = length-take-le n bytes inside in
    let whole : 2 + (n - 2) ≡ n = omega arith in
    ap (λ k. take (k - 4) (drop 2 (take n bytes))) count
    ∙ ap (λ k. take (n - 4) (drop 2 (take k bytes))) (sym whole)
    ∙ ap (take (n - 4)) (drop-take 2 (n - 2) bytes)
    ∙ take-take (n - 4) (n - 2) (drop 2 bytes) (omega arith)

last_is : (bytes : List ℕ) (n k : ℕ) → 0 < k → k ≤ n → n ≤ length bytes
    → get_or (take n bytes) (length (take n bytes) - k) 0 ≡ get_or bytes (n - k) 0
last_is bytes n k some less inside =
    ap (λ m. get_or (take n bytes) (m - k) 0) (length-take-le n bytes inside)
    ∙ get_or-take n bytes (n - k) 0 (omega arith)

-- the checksum of the first n bytes
sums_are : (bytes : List ℕ) (n : ℕ) → 8 ≤ n → n ≤ length bytes
    → has_right_sums (take n bytes)
    ≡ (nat_eq (total (take (n - 4) (drop 2 bytes)) % 256) (get_or bytes (n - 2) 0)
    && nat_eq (running 0 (take (n - 4) (drop 2 bytes)) % 256) (get_or bytes (n - 1) 0))
unfolding has_right_sums
sums_are bytes n long inside =
    ap (λ xs. nat_eq (total xs % 256) (get_or (take n bytes) (length (take n bytes) - 2) 0)
    && nat_eq (running 0 xs % 256) (get_or (take n bytes) (length (take n bytes) - 1) 0))
    (body_is bytes n long inside)
    ∙ ap (λ a. nat_eq (total (take (n - 4) (drop 2 bytes)) % 256) a
    && nat_eq (running 0 (take (n - 4) (drop 2 bytes)) % 256)
    (get_or (take n bytes) (length (take n bytes) - 1) 0))
    (last_is bytes n 2 (omega arith) (omega arith) inside)
    ∙ ap (λ a. nat_eq (total (take (n - 4) (drop 2 bytes)) % 256) (get_or bytes (n - 2) 0)
    && nat_eq (running 0 (take (n - 4) (drop 2 bytes)) % 256) a)
    (last_is bytes n 1 (omega arith) (omega arith) inside)

forth_at : (bytes : List ℕ) (n : ℕ) → AreBytes bytes → 0 < n
    → (right : Bool) → (begins_by ubx_sync bytes && nat_le (wanted_by ubx_sync bytes) (length bytes)
    && has_right_sums (take (wanted_by ubx_sync bytes) bytes)) ≡ right
    → cond right (wanted_by ubx_sync bytes) 0 ≡ n → BeginsMessage bytes n
forth_at bytes n are some false e size = absurd (omega arith)
forth_at bytes n are some true e size =
    let p = and_parts (begins_by ubx_sync bytes && nat_le (wanted_by ubx_sync bytes) (length bytes))
    (has_right_sums (take (wanted_by ubx_sync bytes) bytes)) e in
    let q = and_parts (begins_by ubx_sync bytes)
    (nat_le (wanted_by ubx_sync bytes) (length bytes)) p.0 in
    let inside : wanted_by ubx_sync bytes ≤ length bytes = leb-true _ _ q.1 in
    let header : 6 ≤ length bytes = whole_has_header ubx_sync bytes ubx_is_sync inside in
    let told : wanted_by ubx_sync bytes ≡ announced bytes =
    wanted_many ubx_sync bytes (omega arith) header in
    let begins = sym (begins_many ubx_sync bytes (omega arith) header) ∙ q.0 in
    let first = and_parts (nat_eq (get_or bytes 0 0) 0xB5)
    (nat_eq (get_or bytes 1 0) 0x62 && true) begins in
    let second = and_parts (nat_eq (get_or bytes 1 0) 0x62) true first.1 in
    let long : 8 ≤ n = omega (arith, told, size) in
    let fits : n ≤ length bytes = omega (arith, size, inside) in
    let right : has_right_sums (take n bytes) ≡ true = rw size at p.1 in
    let sums = sym (sums_are bytes n long fits) ∙ right in
    let both = and_parts (nat_eq (total (take (n - 4) (drop 2 bytes)) % 256)
    (get_or bytes (n - 2) 0)) (nat_eq (running 0 (take (n - 4) (drop 2 bytes)) % 256)
    (get_or bytes (n - 1) 0)) sums in
    record {
      sync_1 = eqb-true _ _ first.0;
      sync_2 = eqb-true _ _ second.0;
      payload_length = omega (arith, told, size, are 4, are 5);
      whole = fits;
      ck_a = eqb-true _ _ both.0;
      ck_b = eqb-true _ _ both.1;
    }

-- bytes with a size begin a message
pub sized_begins : (bytes : List ℕ) (n : ℕ) → AreBytes bytes → 0 < n → size_by ubx bytes ≡ n
    → BeginsMessage bytes n
sized_begins bytes n are some size = forth_at bytes n are some _ refl size

-- bytes that begin a message have its size
pub begun_sized : (bytes : List ℕ) (n : ℕ) → AreBytes bytes → BeginsMessage bytes n
    → (0 < n) × (size_by ubx bytes ≡ n)
begun_sized bytes n are m =
    let long : 8 ≤ n = omega (arith, m.payload_length) in
    let header : 6 ≤ length bytes = omega (arith, m.whole) in
    let two : 2 ≤ length bytes = omega arith in
    let told : wanted_by ubx_sync bytes ≡ n =
    wanted_many ubx_sync bytes two header ∙ omega (arith, m.payload_length, are 4, are 5) in
    let begins : begins_by ubx_sync bytes ≡ true =
    begins_many ubx_sync bytes two header
    ∙ and_from (nat_eq (get_or bytes 0 0) 0xB5) _ (eq-eqb _ _ m.sync_1)
    (and_from (nat_eq (get_or bytes 1 0) 0x62) _ (eq-eqb _ _ m.sync_2) refl) in
    let inside : nat_le n (length bytes) ≡ true = le-leb _ _ m.whole in
    let right : has_right_sums (take n bytes) ≡ true =
    sums_are bytes n long m.whole ∙ and_from
    (nat_eq (total (take (n - 4) (drop 2 bytes)) % 256) (get_or bytes (n - 2) 0)) _
    (eq-eqb _ _ m.ck_a) (eq-eqb _ _ m.ck_b) in
    (omega arith, rw (told, begins, inside, right) refl)
