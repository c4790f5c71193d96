use Rattle.std.proofs.Common.{◌-◌, length, reverse, [], ◌∷◌}
use Rattle.pb_source_tokens.specs.declared.bracket.Bracket.TheVariants.{Curly}
use Rattle.pb_source_tokens.proofs.AggregateSteps.{HasOpened}
use Rattle.pb_source_tokens.proofs.parsing.aggregates.closed.Given as goal

abbrev pub invariant-loop-next : goal.invariant-loop-next
invariant-loop-next l = HasOpened l.symbols l.at (Curly ∷ []) l.here (reverse l.brackets.items)

abbrev pub decreases-loop-next : goal.decreases-loop-next
decreases-loop-next l = length l.symbols - l.here
