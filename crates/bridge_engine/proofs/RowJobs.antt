-- The job of a row of the table: two jobs have two rows.
use Rattle.std.proofs.Common.{◌≡◌, ◌<◌, ℕ, List, [], ◌∷◌, Bool, true, false, Option, Some, None, codes, refl, sym, ap, ◌∙◌}
use Rattle.std.proofs.Math.Bridge.{le_prop}
use Rattle.std.proofs.lemmas.Bool.{lt-ltb, ltb-true}
use Rattle.std.specs.Prelude.{if◌then◌else◌, ◌&&◌, nat_eq, nat_lt, option_map}
use Rattle.rinex_write.specs.declared.words.HeaderWords.{HeaderWords}
use Rattle.captures.specs.declared.target.CaptureTo.{CaptureTo}
use Rattle.captures.specs.declared.target.CaptureTo.TheVariants as captures
use Rattle.streams.specs.declared.stream_target.StreamTo.{StreamTo}
use Rattle.streams.specs.declared.stream_target.StreamTo.TheVariants as streams
use Rattle.nav_files.specs.declared.target.RinexTo.{RinexTo}
use Rattle.nav_files.specs.declared.target.RinexTo.TheVariants as files
use Rattle.captures.specs.declared.seed_target.SeedTo.{SeedTo}
use Rattle.captures.specs.declared.seed_target.SeedTo.TheVariants as seeds
use Rattle.bridge_engine.specs.declared.job.Job.{Job}
use Rattle.bridge_engine.specs.declared.job.Job.TheVariants.{StreamToFrames, Capture, Stream, Rinex, Rinex3, SendRinex, SendRinex3, Merge, Cover, Seed}
use Rattle.bridge_engine.specs.Job.{Row, Target, row_of, capture_target, stream_target, file_target, seed_word}

-- whether two words are the same
abbrev same : List ℕ → List ℕ → Bool
same [] [] = true
same [] (y ∷ ys) = false
same (x ∷ xs) [] = false
same (x ∷ xs) (y ∷ ys) = nat_eq x y && same xs ys

-- the words of a header that a target has
abbrev words_with : (leap : ℕ) → List ℕ → leap < 100 → HeaderWords
words_with leap date low = record { date = date; leap = leap; low = low }

below : (leap : ℕ) → nat_lt leap 100 ≡ true → leap < 100
below leap is = ltb-true leap 100 is

abbrev low_words : (leap : ℕ) → List ℕ → (low : Bool) → nat_lt leap 100 ≡ low → Option HeaderWords
low_words leap date false is = None
low_words leap date true is = Some (words_with leap date (below leap is))

abbrev words_of : Option ℕ → Option (List ℕ) → Option HeaderWords
words_of None date = None
words_of (Some leap) None = None
words_of (Some leap) (Some date) = low_words leap date (nat_lt leap 100) refl

words_are : (words : HeaderWords) → words_of (Some words.leap) (Some words.date) ≡ Some words
words_are words = by_low (nat_lt words.leap 100) refl where
  by_low : (low : Bool) → (is : nat_lt words.leap 100 ≡ low) → low_words words.leap words.date low is ≡ Some words
  by_low false is = absurd (let low : nat_lt words.leap 100 ≡ true = lt-ltb words.leap 100 words.low in let no : false ≡ true = sym is ∙ low in cc)
  by_low true is = ap (λ (low : words.leap < 100). Some (words_with words.leap words.date low)) (le_prop (below words.leap is) words.low)

-- what a target is, by its word and its header
abbrev capture_at : Target → Option CaptureTo
capture_at t =
    if same t.word (codes "rinex") then option_map captures.Rinex (words_of t.leap t.date) else
    if same t.word (codes "rinex3") then option_map captures.Rinex3 (words_of t.leap t.date) else
    if same t.word (codes "rtcm") then Some captures.Rtcm else
    if same t.word (codes "list") then Some captures.ToList else Some captures.Count

capture_is_at : (to : CaptureTo) → capture_at (capture_target to) ≡ Some to
capture_is_at (captures.Rinex words) = ap (option_map captures.Rinex) (words_are words)
capture_is_at (captures.Rinex3 words) = ap (option_map captures.Rinex3) (words_are words)
capture_is_at captures.Rtcm = refl
capture_is_at captures.ToList = refl
capture_is_at captures.Count = refl

abbrev stream_at : Target → Option StreamTo
stream_at t =
    if same t.word (codes "rinex") then option_map streams.Rinex (words_of t.leap t.date) else
    if same t.word (codes "rinex3") then option_map streams.Rinex3 (words_of t.leap t.date) else Some streams.Rtcm

stream_is_at : (to : StreamTo) → stream_at (stream_target to) ≡ Some to
stream_is_at (streams.Rinex words) = ap (option_map streams.Rinex) (words_are words)
stream_is_at (streams.Rinex3 words) = ap (option_map streams.Rinex3) (words_are words)
stream_is_at streams.Rtcm = refl

abbrev file_at : Target → Option RinexTo
file_at t =
    if same t.word (codes "rinex") then option_map files.Rinex (words_of t.leap t.date) else
    if same t.word (codes "rinex3") then option_map files.Rinex3 (words_of t.leap t.date) else
    if same t.word (codes "rtcm") then Some files.Rtcm else Some files.ToList

file_is_at : (to : RinexTo) → file_at (file_target to) ≡ Some to
file_is_at (files.Rinex words) = ap (option_map files.Rinex) (words_are words)
file_is_at (files.Rinex3 words) = ap (option_map files.Rinex3) (words_are words)
file_is_at files.Rtcm = refl
file_is_at files.ToList = refl

-- the job of a row, by the form it comes from, its target and its week
abbrev target_in : Row → Target
target_in r = record { word = r.to; leap = r.values.leap; date = r.values.date }

abbrev stream_job : Option ℕ → Target → Option Job
stream_job None t = Some StreamToFrames
stream_job (Some week) t = option_map (λ to. Stream (record { week = week; to = to })) (stream_at t)

-- of the jobs from a navigation file those that send it have a week
abbrev file_job : Option ℕ → Target → Option Job
file_job None t =
    if same t.word (codes "merged") then option_map Merge (words_of t.leap t.date) else
    if same t.word (codes "cover") then Some Cover else option_map Rinex (file_at t)
file_job (Some week) t = Some (SendRinex week)

abbrev file3_job : Option ℕ → Target → Option Job
file3_job None t = option_map Rinex3 (file_at t)
file3_job (Some week) t = Some (SendRinex3 week)

-- the target of a generated capture, and its job
abbrev seed_at : List ℕ → SeedTo
seed_at word = if same word (codes "capture") then seeds.Capture else seeds.Count

seed_is_at : (to : SeedTo) → seed_at (seed_word to) ≡ to
seed_is_at seeds.Capture = refl
seed_is_at seeds.Count = refl

abbrev seed_job : Option ℕ → Option ℕ → Option ℕ → SeedTo → Option Job
seed_job None sats week to = None
seed_job (Some seed) None week to = None
seed_job (Some seed) (Some sats) None to = None
seed_job (Some seed) (Some sats) (Some week) to = Some (Seed (record { seed = seed; sats = sats; week = week; to = to }))

abbrev job_at : Row → Option Job
job_at r =
    if same r.from (codes "stream") then stream_job r.values.week (target_in r) else
    if same r.from (codes "capture") then option_map (λ to. Capture (record { week = r.values.week; to = to })) (capture_at (target_in r)) else
    if same r.from (codes "seed") then seed_job r.values.seed r.values.sats r.values.week (seed_at r.to) else
    if same r.from (codes "rinex") then file_job r.values.week (target_in r) else
    file3_job r.values.week (target_in r)

job_is_at : (job : Job) → job_at (row_of job) ≡ Some job
job_is_at StreamToFrames = refl
job_is_at (Capture job) = ap (option_map (λ (to : CaptureTo). Capture (record { week = job.week; to = to }))) (capture_is_at job.to)
job_is_at (Stream job) = ap (option_map (λ (to : StreamTo). Stream (record { week = job.week; to = to }))) (stream_is_at job.to)
job_is_at (Rinex (files.Rinex words)) = ap (option_map Rinex) (file_is_at (files.Rinex words))
job_is_at (Rinex (files.Rinex3 words)) = ap (option_map Rinex) (file_is_at (files.Rinex3 words))
job_is_at (Rinex files.Rtcm) = refl
job_is_at (Rinex files.ToList) = refl
job_is_at (Rinex3 to) = ap (option_map Rinex3) (file_is_at to)
job_is_at (SendRinex week) = refl
job_is_at (SendRinex3 week) = refl
job_is_at (Merge words) = ap (option_map Merge) (words_are words)
job_is_at Cover = refl
job_is_at (Seed job) = ap (seed_job (Some job.seed) (Some job.sats) (Some job.week)) (seed_is_at job.to)

-- a row has one job
pub same_job : (a b : Job) → row_of a ≡ row_of b → a ≡ b
same_job a b rows =
    let e : Some a ≡ Some b = sym (job_is_at a) ∙ ap job_at rows ∙ job_is_at b in
    cc
