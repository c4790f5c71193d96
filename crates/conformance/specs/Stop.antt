-- The exit statuses.
use Rattle.std.specs.Prelude.{ℕ}
use Rattle.conformance.specs.declared.stop.Stop.{Stop}
use Rattle.conformance.specs.declared.stop.Stop.TheVariants.{Usage, File, Set, Protocol, Cut, TooLarge, TooMany, Device, Memory}

abbrev pub status_of : Stop → ℕ
status_of Set = 1
status_of Protocol = 1
status_of Usage = 2
status_of File = 3
status_of Device = 3
status_of Memory = 3
status_of Cut = 4
status_of TooLarge = 5
status_of TooMany = 5
