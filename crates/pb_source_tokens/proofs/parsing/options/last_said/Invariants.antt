use Rattle.std.proofs.Common.{◌≡◌, drop, None}
use Rattle.pb_source_tokens.specs.Said.{last_said}
use Rattle.pb_source_tokens.proofs.parsing.options.last_said.Given as goal

abbrev pub invariant-loop-said : goal.invariant-loop-said
invariant-loop-said l = last_said None l.options ≡ last_said l.last (drop l.said-index l.options)
