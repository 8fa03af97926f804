-- The line of a frame, and what a run makes of a stream of frames.
use Rattle.std.specs.Prelude.{ℕ, ◌^◌, ◌+◌, ◌*◌, ◌/◌, true, false, List, [], ◌∷◌, ◌++◌, length, Some, codes, decimal}
use Rattle.framing.specs.Frames.{frames}
use Rattle.framing.specs.State.{payload_of}
use Rattle.one_run.specs.Runs.{Meaning}
use Rattle.streams.specs.declared.frame_run.FrameCounts.{FrameCounts}
use Rattle.streams.specs.FrameRuns.{least_of, output_of, flushed_of}

-- the message number, the first twelve bits of the payload; a dash for a payload of fewer than two bytes
unfoldable pub number_text : List ℕ → List ℕ
number_text (first ∷ second ∷ more) = decimal (first * 16 + second / 16)
number_text few = codes "-"

-- the line of a frame: message number, space, length of the payload in bytes, LF
unfoldable pub line_of : List ℕ → List ℕ
line_of frame = number_text (payload_of frame) ++ codes " " ++ decimal (length (payload_of frame)) ++ codes "\n"

-- a run writes a line for each frame before it reads on, counts them, and reports nothing
abbrev pub frames_meaning : Meaning FrameCounts
frames_meaning = record {
  reads = true;
  reports = false;
  memory = false;
  limit = 2 ^ 32;
  counts = λ bytes. Some (record { frames = length (frames bytes) });
  whole = record { output = output_of line_of; report = λ bytes. [] };
  rejections = λ bytes. [];
  least = record { output = least_of line_of; report = λ bytes. [] };
  flushed = Some (record { output = flushed_of line_of; report = λ bytes. [] });
}
