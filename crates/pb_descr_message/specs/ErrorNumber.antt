-- The numbers of errors.
use Rattle.std.specs.Prelude.{ℕ}
use Rattle.pb_descr_message.specs.CauseName.{number_of}
use Rattle.pb_descr_message.specs.declared.error.DescrError.{DescrError}
use Rattle.pb_descr_message.specs.declared.error.DescrError.TheVariants as descr
use Rattle.pb_descr_message.specs.declared.error.WriteSetError.{WriteSetError}
use Rattle.pb_descr_message.specs.declared.error.WriteSetError.TheVariants as write

abbrev pub descr_number : DescrError → ℕ
descr_number (descr.Fault byte path cause) = 51
descr_number (descr.Decl file cause) = number_of cause
descr_number descr.Memory = 59

abbrev pub write_number : WriteSetError → ℕ
write_number write.TooDeep = 27
write_number write.TooLarge = 31
write_number write.Memory = 32
