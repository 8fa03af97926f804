-- The entries of the table, by a test that computes.
use Rattle.std.proofs.Common.{◌≡◌, ℕ, ◌*◌, ◌^◌, ◌<◌, true, get_or, refl, ap, ◌∙◌, zero-add}
use Rattle.framing.specs.SbfRegister.{stepped, shift}
use Rattle.framing.specs.declared.sbf_register.TheConstants.{MOVED_8}
use Rattle.framing.proofs.SbfTableLemmas.{are_entries, entry_is}

-- a byte at the head of the register, advanced by eight bits
unfoldable pub moved : ℕ → ℕ
moved byte = shift 8 (byte * 2 ^ 8)

test_8 : are_entries moved 0 MOVED_8 ≡ true
unfolding moved shift stepped
test_8 = refl

pub moved_8_is : (byte : ℕ) → byte < 256 → get_or MOVED_8 byte 0 ≡ shift 8 (byte * 2 ^ 8)
unfolding moved
moved_8_is byte h = entry_is moved 0 MOVED_8 test_8 byte h ∙ ap moved (zero-add byte)
