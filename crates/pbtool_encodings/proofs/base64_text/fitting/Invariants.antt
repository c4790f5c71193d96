use Rattle.std.proofs.Common.{◌≡◌, ◌+◌, drop}
use Rattle.std.specs.List.{prefix_len}
use Rattle.pbtool_encodings.specs.Base64Text.{fits}
use Rattle.pbtool_encodings.proofs.base64_text.fitting.Given as goal

abbrev pub invariant-loop-at : goal.invariant-loop-at
invariant-loop-at l = prefix_len fits l.text ≡ l.at + prefix_len fits (drop l.at l.text)
