use Rattle.std.proofs.Common.{◌≡◌, drop}
use Rattle.file_conversion.specs.Fits.{fits}
use Rattle.file_conversion.proofs.form.fits.Given as goal

-- what was passed is of the form's first bytes
abbrev pub invariant-loop-byte : goal.invariant-loop-byte
invariant-loop-byte l = fits l.form l.text ≡ fits l.left (drop l.byte-index l.text)
