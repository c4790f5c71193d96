-- What is opened of the bytes in an Any, by what decoding them answers.
use Rattle.std.specs.Prelude.{◌≡◌, Option, Some, None, Result, Ok, Err}
use Rattle.std.specs.declared.alloc.AllocError.{AllocError}
use Rattle.pb_decode.specs.declared.error.DecodeError.{DecodeError}
use Rattle.pb_decode.specs.declared.error.DecodeError.TheVariants as decode

-- bytes with a fault are no message, and each other error is one of memory
abbrev pub Opens : {M : Type 0} → Result M DecodeError → Result (Option M) AllocError → Type 0
Opens (Ok m) r = r ≡ Ok (Some m)
Opens (Err (decode.Fault byte path cause)) r = r ≡ Ok None
Opens (Err decode.Memory) r = (e : AllocError) × (r ≡ Err e)
Opens (Err decode.Device) r = (e : AllocError) × (r ≡ Err e)
Opens (Err decode.Finished) r = (e : AllocError) × (r ≡ Err e)
