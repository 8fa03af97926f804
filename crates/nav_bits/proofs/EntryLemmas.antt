-- The entries of the tables, by tests that compute: each table against the one before it.
use Rattle.std.proofs.Common.{◌≡◌, ℕ, zero, suc, ◌+◌, ◌*◌, ◌^◌, ◌<◌, true, List, [], ◌∷◌, length, get_or, refl, sym, ap, ◌∙◌, arith, zero-add}
use Rattle.nav_bits.specs.Register.{stepped, shift}
use Rattle.nav_bits.specs.declared.tables.TheConstants.{MOVED_8, MOVED_16, MOVED_24, MOVED_32}
use Rattle.nav_bits.specs.declared.powers.TheConstants.{POWERS}
use Rattle.nav_bits.specs.declared.far_tables.TheConstants.{MOVED_FAR}
use Rattle.nav_bits.proofs.TableLemmas.{are_chain, are_entries, are_images, are_steps, chain_parts, entry_is, image_is, images_length, step_is}
use Rattle.nav_bits.proofs.RegisterLaws.{shift-add}

-- advanced by eight bits; and a byte at the head of the register, advanced by eight bits
unfoldable pub eight_on : ℕ → ℕ
eight_on r = shift 8 r

unfoldable pub moved : ℕ → ℕ
moved byte = shift 8 (byte * 2 ^ 16)

test_8 : are_entries moved 0 MOVED_8 ≡ true
unfolding moved shift stepped
test_8 = refl

test_16 : are_images eight_on MOVED_8 MOVED_16 ≡ true
unfolding eight_on shift stepped
test_16 = refl

test_24 : are_images eight_on MOVED_16 MOVED_24 ≡ true
unfolding eight_on shift stepped
test_24 = refl

test_32 : are_images eight_on MOVED_24 MOVED_32 ≡ true
unfolding eight_on shift stepped
test_32 = refl

pub moved_8_is : (byte : ℕ) → byte < 256 → get_or MOVED_8 byte 0 ≡ shift 8 (byte * 2 ^ 16)
unfolding moved
moved_8_is byte h = entry_is moved 0 MOVED_8 test_8 byte h ∙ ap moved (zero-add byte)

pub moved_16_is : (byte : ℕ) → byte < 256 → get_or MOVED_16 byte 0 ≡ shift 16 (byte * 2 ^ 16)
unfolding eight_on
moved_16_is byte h =
    image_is eight_on MOVED_8 MOVED_16 test_16 byte h ∙ ap (shift 8) (moved_8_is byte h) ∙ sym (shift-add 8 8 (byte * 2 ^ 16))

pub moved_24_is : (byte : ℕ) → byte < 256 → get_or MOVED_24 byte 0 ≡ shift 24 (byte * 2 ^ 16)
unfolding eight_on
moved_24_is byte h =
    image_is eight_on MOVED_16 MOVED_24 test_24 byte h ∙ ap (shift 8) (moved_16_is byte h) ∙ sym (shift-add 8 16 (byte * 2 ^ 16))

pub moved_32_is : (byte : ℕ) → byte < 256 → get_or MOVED_32 byte 0 ≡ shift 32 (byte * 2 ^ 16)
unfolding eight_on
moved_32_is byte h =
    image_is eight_on MOVED_24 MOVED_32 test_32 byte h ∙ ap (shift 8) (moved_24_is byte h) ∙ sym (shift-add 8 24 (byte * 2 ^ 16))

test_far : are_chain eight_on MOVED_32 MOVED_FAR ≡ true
unfolding eight_on shift stepped
test_far = refl

far_chain : (m x k : ℕ) (ts : List ℕ) (tables : List (List ℕ)) → are_chain eight_on ts tables ≡ true → k < length ts
    → get_or ts k 0 ≡ shift m x → (n : ℕ) → n < length tables → get_or (get_or tables n []) k 0 ≡ shift (m + 8 + 8 * n) x
unfolding eight_on
far_chain m x k ts [] right inside is n less = absurd (omega arith)
far_chain m x k ts (us ∷ rest) right inside is zero less =
    let place : 8 + m ≡ m + 8 + 8 * 0 = omega arith in
    image_is eight_on ts us (chain_parts eight_on ts us rest right).0 k inside ∙ ap (shift 8) is ∙ sym (shift-add 8 m x)
    ∙ ap (λ j. shift j x) place
far_chain m x k ts (us ∷ rest) right inside is (suc n) less =
    let parts = chain_parts eight_on ts us rest right in
    let next : get_or us k 0 ≡ shift (8 + m) x = image_is eight_on ts us parts.0 k inside ∙ ap (shift 8) is ∙ sym (shift-add 8 m x) in
    let within : k < length us = omega (arith, images_length eight_on ts us parts.0) in
    let place : 8 + m + 8 + 8 * n ≡ m + 8 + 8 * suc n = omega arith in
    far_chain (8 + m) x k us rest parts.1 within next n (omega arith) ∙ ap (λ j. shift j x) place

pub moved_far_is : (n byte : ℕ) → n < 12 → byte < 256 → get_or (get_or MOVED_FAR n []) byte 0 ≡ shift (40 + 8 * n) (byte * 2 ^ 16)
moved_far_is n byte less h = far_chain 32 (byte * 2 ^ 16) byte MOVED_32 MOVED_FAR test_far h (moved_32_is byte h) n less

test_powers : are_steps eight_on POWERS ≡ true
unfolding eight_on shift stepped
test_powers = refl

first_power : get_or POWERS 0 0 ≡ shift 0 1
unfolding shift
first_power = refl

pub power_is : (count : ℕ) → count < 1029 → get_or POWERS count 0 ≡ shift (8 * count) 1
unfolding eight_on
power_is zero h = first_power
power_is (suc count) h =
    let places : 8 * suc count ≡ 8 + 8 * count = omega arith in
    step_is eight_on POWERS test_powers count h ∙ ap (shift 8) (power_is count (omega arith)) ∙ sym (ap (λ n. shift n 1) places ∙ shift-add 8 (8 * count) 1)
