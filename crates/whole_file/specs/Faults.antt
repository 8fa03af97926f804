-- Why calls of the system failed.
use Rattle.std.specs.Prelude.{Option, None, Some, Result, Ok, Err}
use Rattle.std.specs.declared.io.ErrorKind.{ErrorKind}
use Rattle.std.specs.declared.io.ErrorKind.TheVariants as kinds
use Rattle.whole_file.specs.declared.faults.FileFault.{FileFault}
use Rattle.whole_file.specs.declared.faults.FileFault.TheVariants as faults

-- what an error of this kind says
abbrev pub fault_of : ErrorKind → FileFault
fault_of kinds.NotFound = faults.NotFound
fault_of kinds.AlreadyExists = faults.AlreadyThere
fault_of kinds.PermissionDenied = faults.NotAllowed
fault_of kinds.IsADirectory = faults.IsFolder
fault_of kinds.NotADirectory = faults.NoFolder
fault_of kinds.StorageFull = faults.DiskFull
fault_of kinds.QuotaExceeded = faults.QuotaFull
fault_of kinds.FileTooLarge = faults.TooLarge
fault_of kinds.InvalidFilename = faults.NameTooLong
fault_of kinds.ReadOnlyFilesystem = faults.ReadOnly
fault_of kinds.BrokenPipe = faults.ReaderGone
fault_of kinds.OutOfMemory = faults.NoMemory
fault_of kind = faults.Other

-- what an error states, if there was one of this kind
abbrev pub told : Option ErrorKind → Result (Unit {0}) FileFault
told None = Ok tt
told (Some kind) = Err (fault_of kind)
