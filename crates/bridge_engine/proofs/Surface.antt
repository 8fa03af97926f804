-- What proofs of other crates cite: the limit of each job.
use Rattle.std.proofs.Common.{◌≡◌, ◌^◌, refl}
use Rattle.bridge_engine.specs.Meanings.{meaning_of}
use Rattle.bridge_engine.specs.declared.job.Job.{Job}
use Rattle.bridge_engine.specs.declared.job.Job.TheVariants.{StreamToFrames, Capture, Stream, Rinex, Rinex3, SendRinex, SendRinex3, Merge, Cover, Seed}

-- each job's input is too long at 2^32 bytes
pub limit_of : (job : Job) → (meaning_of job).limit ≡ 2 ^ 32
limit_of StreamToFrames = refl
limit_of (Capture job) = refl
limit_of (Stream job) = refl
limit_of (Rinex to) = refl
limit_of (Rinex3 to) = refl
limit_of (SendRinex week) = refl
limit_of (SendRinex3 week) = refl
limit_of (Merge words) = refl
limit_of Cover = refl
limit_of (Seed job) = refl
