-- The numbers of errors.
use Rattle.std.specs.Prelude.{ℕ}
use Rattle.pb_decode.specs.declared.error.DecodeError.{DecodeError}
use Rattle.pb_decode.specs.declared.error.DecodeError.TheVariants.{Fault, Memory, Device, Finished}

abbrev pub number_of : DecodeError → ℕ
number_of (Fault byte path cause) = 40
number_of Memory = 41
number_of Device = 42
number_of Finished = 43
