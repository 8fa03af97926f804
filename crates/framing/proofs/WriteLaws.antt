-- What is written for a payload is a whole frame.
use Rattle.std.proofs.Common.{◌≡◌, ℕ, ◌+◌, ◌-◌, ◌/◌, ◌%◌, ◌^◌, ◌<◌, ◌≤◌, nat_eq, nat_lt, Bool, true, false, List, ◌∷◌, ◌++◌, length, take, drop, refl, sym, ap, ◌∙◌, arith, length-append}
use Rattle.std.proofs.lemmas.Bool.{eq-eqb, lt-ltb}
use Rattle.std.proofs.lemmas.List.{take_at, drop_at, take_all}
use Rattle.byteorder.specs.Endian.{big_number}
use Rattle.nav_bits.specs.Register.{crc_from}
use Rattle.nav_bits.proofs.Surface.{crc_from-lt}
use Rattle.framing.specs.Frames.{frame_size, frames, frames_past, is_open, is_right}
use Rattle.framing.specs.State.{payload_of}
use Rattle.framing.specs.Writing.{three_bytes, body_of, frame_bytes}
use Rattle.framing.proofs.FormLaws.{size-append, size_of_open}
use Rattle.framing.proofs.FrameLaws.{frames_past-drop}
use Rattle.framing.proofs.FormCases.{announced_by, size_within}

-- three bytes read back
big_number-three_bytes : (n : ℕ) → n < 2 ^ 24 → big_number 3 (three_bytes n) ≡ n
big_number-three_bytes n h = omega arith

pub length-frame_bytes : (payload : List ℕ) → length (frame_bytes payload) ≡ length payload + 6
length-frame_bytes payload = omega (arith, length-append payload (three_bytes (crc_from 0 (body_of payload))))

-- a checksum after the bytes that it covers is right
right_behind : (body : List ℕ) → is_right (body ++ three_bytes (crc_from 0 body)) ≡ true
unfolding is_right
right_behind body =
    let crc = crc_from 0 body in
    let size : length (body ++ three_bytes (crc_from 0 body)) - 3 ≡ length body = omega (arith, length-append body (three_bytes (crc_from 0 body))) in
    let prefix : take (length body) (body ++ three_bytes (crc_from 0 body)) ≡ body = take_at body (three_bytes (crc_from 0 body)) (length body) refl in
    let last : drop (length body) (body ++ three_bytes (crc_from 0 body)) ≡ three_bytes (crc_from 0 body) = drop_at body (three_bytes (crc_from 0 body)) (length body) refl in
    let number : big_number 3 (three_bytes (crc_from 0 body)) ≡ crc_from 0 body = big_number-three_bytes (crc_from 0 body) (crc_from-lt 0 body (omega arith)) in
    ap (λ end. nat_eq (crc_from 0 (take end (body ++ three_bytes (crc_from 0 body)))) (big_number 3 (drop end (body ++ three_bytes (crc_from 0 body))))) size
    ∙ ap (λ xs. nat_eq (crc_from 0 xs) (big_number 3 (drop (length body) (body ++ three_bytes (crc_from 0 body))))) prefix
    ∙ ap (λ xs. nat_eq (crc_from 0 body) (big_number 3 xs)) last
    ∙ eq-eqb _ _ (sym number)

pub written_is_whole : (payload : List ℕ) → length payload ≤ 1023 → frame_size (frame_bytes payload) ≡ length payload + 6
written_is_whole payload h =
    let size = length-frame_bytes payload in
    let announces : announced_by (frame_bytes payload) ≡ length payload + 6 = omega arith in
    let all : take (length payload + 6) (frame_bytes payload) ≡ frame_bytes payload = take_all (length payload + 6) (frame_bytes payload) (omega arith) in
    size_within (frame_bytes payload) (omega arith) refl (omega arith) ∙ rw (announces, all, right_behind (body_of payload)) refl

pub payload_of-frame_bytes : (payload : List ℕ) → payload_of (frame_bytes payload) ≡ payload
payload_of-frame_bytes payload =
    let size : length (frame_bytes payload) - 6 ≡ length payload = omega (arith, length-frame_bytes payload) in
    ap (λ n. take n (drop 3 (frame_bytes payload))) size ∙ take_at payload (three_bytes (crc_from 0 (body_of payload))) (length payload) refl

-- ---- a whole frame and more bytes

pub whole_first : (x : ℕ) (xs more : List ℕ) → frame_size (x ∷ xs) ≡ length (x ∷ xs) → frames (x ∷ (xs ++ more)) ≡ (x ∷ xs) ∷ frames more
whole_first x xs more whole =
    let shut = not_open (is_open (x ∷ xs)) refl in
    let size : frame_size (x ∷ (xs ++ more)) ≡ length (x ∷ xs) = size-append x xs more shut ∙ whole in
    let some : nat_lt 0 (length (x ∷ xs)) ≡ true = lt-ltb 0 (length (x ∷ xs)) (omega arith) in
    let prefix : take (length (x ∷ xs)) (x ∷ (xs ++ more)) ≡ x ∷ xs = take_at (x ∷ xs) more (length (x ∷ xs)) refl in
    let count : length (x ∷ xs) - 1 ≡ length xs = omega arith in
    let rest : frames_past false (xs ++ more) (length xs) ≡ frames more =
    frames_past-drop false (xs ++ more) (length xs) ∙ ap frames (drop_at xs more (length xs) refl) in
    rw (size, some, prefix, count, rest) refl
  where
    not_open : (b : Bool) → is_open (x ∷ xs) ≡ b → is_open (x ∷ xs) ≡ false
    not_open true e = absurd (let none = size_of_open (x ∷ xs) e in omega (arith, whole, none))
    not_open false e = e

pub written_first : (payload more : List ℕ) → length payload ≤ 1023 → frames (frame_bytes payload ++ more) ≡ frame_bytes payload ∷ frames more
written_first payload more short =
    let behind = length payload / 256 ∷ length payload % 256 ∷ payload ++ three_bytes (crc_from 0 (body_of payload)) in
    whole_first 211 behind more (written_is_whole payload short ∙ sym (length-frame_bytes payload))
