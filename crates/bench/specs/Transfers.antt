-- Which errors of a read or a write end the run. Assumes nothing: these are definitions.
use Rattle.std.specs.Prelude.{◌≡◌, ◌⊎◌}
use Rattle.std.specs.declared.io.ErrorKind.{ErrorKind}
use Rattle.std.specs.declared.io.ErrorKind.TheVariants.{Interrupted, WouldBlock}

-- the errors after which a call is tried again: a signal came first, or nothing can be moved now
abbrev pub IsPassing : ErrorKind → Type 0
IsPassing error = (error ≡ Interrupted) ⊎ (error ≡ WouldBlock)
