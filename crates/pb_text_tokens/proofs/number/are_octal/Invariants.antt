use Rattle.std.proofs.Common.{◌≡◌, drop}
use Rattle.std.specs.List.{list_all}
use Rattle.pb_text_tokens.specs.Numbers.{is_octal_digit}
use Rattle.pb_text_tokens.proofs.number.are_octal.Given as goal

abbrev pub invariant-loop-byte : goal.invariant-loop-byte
invariant-loop-byte l = list_all is_octal_digit l.bytes ≡ list_all is_octal_digit (drop l.byte-index l.bytes)
