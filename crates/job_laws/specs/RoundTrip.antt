-- A navigation file that is written as a capture, and a capture received of it that is converted back: two runs.
use Rattle.std.specs.Prelude.{◌≡◌, ◌⊎◌, ℕ, List, [], Option, Some, IsOk}
use Rattle.std.specs.List.{flat_map}
use Rattle.nav_io.specs.Lines.{Line}
use Rattle.nav_eph.specs.declared.items.NavItem.{NavItem}
use Rattle.rinex_write.specs.Texts.{rinex_text}
use Rattle.rinex_write.specs.Texts3.{rinex3_text}
use Rattle.rinex_read.specs.Files.{file_reads, rinex_list}
use Rattle.rinex_read.specs.Form3.{rinex3, rinex3_list}
use Rattle.rinex_read.specs.Forms.{rinex4}
use Rattle.streams.specs.ItemTexts.{rtcm_item}
use Rattle.capture_log.specs.Received.{NoneLate, SameItems}
use Rattle.capture_log.specs.Log.{line_items_of}
use Rattle.captures.specs.Captures.{Capture, capture_of}
use Rattle.captures.specs.declared.target.CaptureTo.{CaptureTo}
use Rattle.captures.specs.declared.target.CaptureTo.TheVariants.{Rinex, Rinex3, Rtcm, ToList, Count}
use Rattle.bridge_engine.specs.Job.{IsJob}
use Rattle.bridge_engine.specs.declared.job.Job.TheVariants.{SendRinex, SendRinex3}
use Rattle.nav_laws.specs.SentCapture.{IsOfLines, IsStillReceived}
use Rattle.job_laws.specs.Written.{ConvertCapture, IsWritten}

-- the arguments name a navigation file to be written as a capture near the week r; the file is
-- accepted, and these are its items
abbrev pub Sends : List (List ℕ) → ℕ → List ℕ → List NavItem → Type 0
Sends words r file items =
    (IsJob words (SendRinex r) × IsOk (file_reads rinex4 file) × (items ≡ rinex_list file))
    ⊎ (IsJob words (SendRinex3 r) × IsOk (file_reads rinex3 file) × (items ≡ rinex3_list file))

-- Lines received of those sent: some of them, late or not, from which each part is still received; or all of them, in any order and
-- repeated or not, none late.
abbrev pub AreReceived : List Line → List Line → Type 0
AreReceived sent received =
    (IsOfLines received sent × IsStillReceived sent received)
    ⊎ (SameItems (line_items_of received) (line_items_of sent) × NoneLate 7200 (line_items_of received))

-- the text of items in this format
abbrev pub items_text : CaptureTo → List NavItem → List ℕ
items_text (Rinex header) items = rinex_text header items
items_text (Rinex3 header) items = rinex3_text header items
items_text Rtcm items = flat_map rtcm_item items
items_text ToList items = []
items_text Count items = []

-- the format is a text of items; a list and counts are of periods
abbrev pub IsOfItems : CaptureTo → Type 0
IsOfItems (Rinex header) = Unit {0}
IsOfItems (Rinex3 header) = Unit {0}
IsOfItems Rtcm = Unit {0}
IsOfItems ToList = ⊥
IsOfItems Count = ⊥

-- the format is a text of ephemerides alone
abbrev pub IsOfEphemerides : CaptureTo → Type 0
IsOfEphemerides (Rinex header) = ⊥
IsOfEphemerides (Rinex3 header) = Unit {0}
IsOfEphemerides Rtcm = Unit {0}
IsOfEphemerides ToList = ⊥
IsOfEphemerides Count = ⊥

-- One run writes a navigation file as the capture `sent`. Another converts the capture `received`,
-- of the same week and window, to this format, and writes `text`.
pub record AreTwoRuns (r : ℕ) (to : CaptureTo) (items : List NavItem) (sent received : Capture) (text : List ℕ) : Type 0 where
  pub words : List (List ℕ)
  pub file : List ℕ
  pub sends : Sends words r file items
  pub sent_bytes : List ℕ
  pub sent_is : IsWritten words file sent_bytes
  pub sent_read : capture_of (Some r) sent_bytes ≡ Some sent
  pub others : List (List ℕ)
  pub week : Option ℕ
  pub converts : ConvertCapture others to week
  pub received_bytes : List ℕ
  pub received_read : capture_of week received_bytes ≡ Some received
  pub same_week : received.week ≡ r
  pub same_window : received.window ≡ 7200
  pub text_is : IsWritten others received_bytes text
