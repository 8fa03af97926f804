-- The frame that is written for a payload (RTCM 10403.3, the transport layer).
use Rattle.std.specs.Prelude.{ℕ, ◌/◌, ◌%◌, List, [], ◌∷◌, ◌++◌, length}
use Rattle.framing.specs.Checksum.{checksum}

-- a number in three bytes, most significant first
abbrev pub three_bytes : ℕ → List ℕ
three_bytes n = n / 65536 ∷ n / 256 % 256 ∷ n % 256 ∷ []

-- the header, its reserved bits 0, and the payload
abbrev pub body_of : List ℕ → List ℕ
body_of payload = 211 ∷ length payload / 256 ∷ length payload % 256 ∷ payload

-- the frame of a payload
abbrev pub frame_bytes : List ℕ → List ℕ
frame_bytes payload = body_of payload ++ three_bytes (checksum (body_of payload))
