use Rattle.std.proofs.Common.{◌≡◌, not, take}
use Rattle.std.specs.List.{filter}
use Rattle.pbtool_encodings.specs.Blanks.{is_blank}
use Rattle.pbtool_encodings.proofs.base64_text.without_blanks.Given as goal

abbrev pub invariant-loop-byte : goal.invariant-loop-byte
invariant-loop-byte l = l.others.items ≡ filter (λ c. not (is_blank c)) (take l.byte-index l.text)
