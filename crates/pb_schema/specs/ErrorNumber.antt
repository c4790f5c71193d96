-- The numbers of errors.
use Rattle.std.specs.Prelude.{ℕ}
use Rattle.pb_schema.specs.declared.error.PoolError.{PoolError}
use Rattle.pb_schema.specs.declared.error.PoolError.TheVariants.{BadParts, Memory}

abbrev pub number_of : PoolError → ℕ
number_of BadParts = 34
number_of Memory = 35
