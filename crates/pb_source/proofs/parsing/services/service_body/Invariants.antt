use Rattle.std.proofs.Common.{◌≡◌, ◌-◌, List, Option, length, codes, map}
use Rattle.pb_declarations.specs.Decls.{DeclaredMethod}
use Rattle.pb_declarations.specs.View.{method_view}
use Rattle.pb_source_tokens.specs.Readers.Forms.{mark_reader}
use Rattle.pb_source_tokens.proofs.UntilSteps.{HasRead}
use Rattle.pb_source.specs.Meaning.{those_said}
use Rattle.pb_source.specs.Readers.Lines.{is_closing, service_statement_reader}
use Rattle.pb_source.proofs.parsing.services.service_body.Given as goal

abbrev pub invariant-loop-alloc : goal.invariant-loop-alloc
invariant-loop-alloc l = (front : List (Option DeclaredMethod)) × (map method_view l.methods.items ≡ those_said front) × HasRead is_closing (service_statement_reader l.grammar) (mark_reader (codes "}")) l.symbols l.at front l.here

abbrev pub decreases-loop-alloc : goal.decreases-loop-alloc
decreases-loop-alloc l = length l.symbols - l.here
