-- What a subframe yields is not before the stamp of its line.
use Rattle.std.proofs.Common.{◌≡◌, ℕ, ◌≤◌, Result, Ok, Err, refl}
use Rattle.nav_eph.specs.declared.part.Part.{Part}
use Rattle.lnav_subframe.specs.declared.fault.LnavFault.{LnavFault}
use Rattle.lnav_subframe.specs.declared.fault.LnavFault.TheVariants as subframes
use Rattle.capture_log.specs.Events.{of_subframe}
use Rattle.captures.specs.Notes.{IfReceived}

pub subframe_from : (least : ℕ) (reading : Result Part LnavFault) → ((part : Part) → reading ≡ Ok part → least ≤ part.stamp)
    → IfReceived (of_subframe reading) (λ part. least ≤ part.stamp)
subframe_from least (Ok part) from = from part refl
subframe_from least (Err subframes.Preamble) from = tt
subframe_from least (Err (subframes.Parity word)) from = tt
subframe_from least (Err subframes.BadTow) from = tt
subframe_from least (Err (subframes.Unused number page)) from = tt
subframe_from least (Err subframes.BadTime) from = tt
