use Rattle.std.proofs.Common.{◌≡◌, drop}
use Rattle.std.specs.List.{list_all}
use Rattle.pb_text_tokens.specs.Numbers.{is_hexadecimal_digit}
use Rattle.pb_text_tokens.proofs.number.are_hexadecimal.Given as goal

abbrev pub invariant-loop-byte : goal.invariant-loop-byte
invariant-loop-byte l = list_all is_hexadecimal_digit l.bytes ≡ list_all is_hexadecimal_digit (drop l.byte-index l.bytes)
