-- In each format the messages have times of their own, or else time messages come between them.
use Rattle.std.specs.Prelude.{◌==◌, ◌&&◌, ◌%◌, ℕ, Bool, true, false, refl, if◌then◌else◌}
use Rattle.std.specs.Prelude.{nat_lt, nat_le, List, length, slice_index}
use Rattle.receiver_log.specs.Numbers.{two_at}
use Rattle.receiver_log.specs.Sbf.{block_content, pages_content, sbf_message, subframe_content}
use Rattle.receiver_log.specs.Systems.{SaysTimes}
use Rattle.receiver_log.specs.Ubx.{payload_of, payload_content, ubx_message, words_content}
use Rattle.receiver_log.specs.declared.content.LogMessage.{LogMessage}

says_if : (has_times b : Bool) (x y : LogMessage) → SaysTimes has_times x → SaysTimes has_times y
    → SaysTimes has_times (if b then x else y)
says_if has_times true x y p q = p
says_if has_times false x y p q = q

words_say_times : (payload : List ℕ) → SaysTimes false (words_content payload)
unfolding words_content
words_say_times payload =
    says_if false (nat_lt (length payload) 8) _ _ refl
    (says_if false (slice_index payload 0 == 0 && slice_index payload 2 == 0) _ _ refl
    (says_if false (slice_index payload 0 == 2 && nat_le (slice_index payload 2) 1) _ _ refl
    (says_if false (slice_index payload 0 == 2 && slice_index payload 2 == 5) _ _ refl tt)))

payload_says_times : (class number : ℕ) (payload : List ℕ)
    → SaysTimes false (payload_content class number payload)
unfolding payload_content
payload_says_times class number payload =
    says_if false (class == 1 && number == 0x20) _ _ refl
    (says_if false (class == 1 && number == 7) _ _ refl
    (says_if false (class == 2 && number == 0x15) _ _ refl
    (says_if false (class == 2 && number == 0x13) _ _ (words_say_times payload) tt)))

pub ubx_says_times : (message : List ℕ) → SaysTimes false (ubx_message message)
unfolding ubx_message
ubx_says_times message =
    says_if false (nat_lt (length message) 8) _ _ tt
    (payload_says_times (slice_index message 2) (slice_index message 3) (payload_of message))

subframe_says_times : (block : List ℕ) → SaysTimes true (subframe_content block)
unfolding subframe_content
subframe_says_times block = says_if true (nat_lt (length block) 60) _ _ refl refl

pages_say_times : (block : List ℕ) → SaysTimes true (pages_content block)
unfolding pages_content
pages_say_times block =
    says_if true (nat_lt (length block) 52) _ _ refl
    (says_if true (slice_index block 17 % 32 == 17) _ _ refl
    (says_if true (slice_index block 17 % 32 == 21) _ _ refl tt))

block_says_times : (number : ℕ) (block : List ℕ) → SaysTimes true (block_content number block)
unfolding block_content
block_says_times number block =
    says_if true (number == 4017) _ _ (subframe_says_times block)
    (says_if true (number == 4023) _ _ (pages_say_times block) tt)

pub sbf_says_times : (block : List ℕ) → SaysTimes true (sbf_message block)
unfolding sbf_message
sbf_says_times block =
    says_if true (nat_lt (length block) 8) _ _ tt (block_says_times (two_at block 4 % 8192) block)
