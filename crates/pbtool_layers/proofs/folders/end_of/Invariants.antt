use Rattle.std.proofs.Common.{◌≡◌, ◌+◌, codes, drop, not}
use Rattle.std.specs.Prelude.{string_bytes}
use Rattle.std.specs.List.{prefix_len}
use Rattle.std.specs.Str.{bytes_eq}
use Rattle.pbtool_layers.proofs.folders.end_of.Given as goal

abbrev pub invariant-loop-at : goal.invariant-loop-at
invariant-loop-at l =
    prefix_len (λ w. not (bytes_eq (string_bytes w) (codes "--"))) l.words
    ≡ l.at + prefix_len (λ w. not (bytes_eq (string_bytes w) (codes "--"))) (drop l.at l.words)
