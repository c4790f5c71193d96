use Rattle.std.proofs.Common.{◌≡◌, ◌-◌, List, length, codes}
use Rattle.pb_declarations.specs.View.{enum_view}
use Rattle.pb_source_tokens.specs.Readers.Forms.{mark_reader}
use Rattle.pb_source_tokens.proofs.UntilSteps.{HasRead}
use Rattle.pb_source.specs.Meaning.{EnumStatement, enum_of}
use Rattle.pb_source.specs.Readers.Lines.{is_closing, enum_statement_reader}
use Rattle.pb_source.proofs.parsing.enums.enum_body.Given as goal

abbrev pub invariant-loop-alloc : goal.invariant-loop-alloc
invariant-loop-alloc l = (front : List EnumStatement) × (enum_view l.decl ≡ enum_of l.name front) × HasRead is_closing (enum_statement_reader l.grammar) (mark_reader (codes "}")) l.symbols l.at front l.here

abbrev pub decreases-loop-alloc : goal.decreases-loop-alloc
decreases-loop-alloc l = length l.symbols - l.here
