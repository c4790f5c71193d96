use Rattle.std.proofs.Common.{◌-◌, List, length, codes}
use Rattle.pb_source_tokens.specs.Readers.Forms.{mark_reader}
use Rattle.pb_source_tokens.proofs.UntilSteps.{HasRead}
use Rattle.pb_source.specs.Readers.Lines.{is_closing, method_statement_reader}
use Rattle.pb_source.proofs.parsing.services.method_body.Given as goal

abbrev pub invariant-loop-alloc : goal.invariant-loop-alloc
invariant-loop-alloc l = (front : List (Unit {0})) × HasRead is_closing (method_statement_reader l.grammar) (mark_reader (codes "}")) l.symbols l.at front l.here

abbrev pub decreases-loop-alloc : goal.decreases-loop-alloc
decreases-loop-alloc l = length l.symbols - l.here
