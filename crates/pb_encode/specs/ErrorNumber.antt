-- The numbers of errors.
use Rattle.std.specs.Prelude.{ℕ}
use Rattle.pb_encode.specs.declared.error.EncodeError.{EncodeError}
use Rattle.pb_encode.specs.declared.error.EncodeError.TheVariants.{TooLarge, Memory, Device}

abbrev pub number_of : EncodeError → ℕ
number_of TooLarge = 31
number_of Memory = 32
number_of (Device written) = 33
