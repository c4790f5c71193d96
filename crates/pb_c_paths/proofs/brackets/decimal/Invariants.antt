use Rattle.std.proofs.Common.{◌≡◌, drop}
use Rattle.pb_c_paths.specs.Brackets.{decimal_from}
use Rattle.pb_c_paths.proofs.brackets.decimal.Given as goal

-- the number of all digits is the number so far, continued by the digits that are left
abbrev pub invariant-loop-digit : goal.invariant-loop-digit
invariant-loop-digit l = decimal_from 0 l.digits ≡ decimal_from l.number (drop l.digit-index l.digits)
