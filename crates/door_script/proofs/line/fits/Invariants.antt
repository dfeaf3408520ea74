use Rattle.door_script.proofs.Fits.{Fitting}
use Rattle.door_script.proofs.line.fits.Given as goal

abbrev pub invariant-loop-byte : goal.invariant-loop-byte
invariant-loop-byte l = Fitting l.form l.line l.rest l.byte-index
