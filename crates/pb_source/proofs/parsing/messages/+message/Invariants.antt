use Rattle.std.proofs.Common.{◌≡◌, ◌+◌, ◌-◌, ◌*◌, List, Option, length, codes, map}
use Rattle.pb_declarations.specs.Decls.{DeclaredMessage}
use Rattle.pb_declarations.specs.View.{message_view}
use Rattle.pb_source_tokens.specs.Readers.Forms.{mark_reader}
use Rattle.pb_source_tokens.proofs.UntilSteps.{HasRead}
use Rattle.pb_source.specs.Meaning.{Member, MessageStatement, those_said}
use Rattle.pb_source.specs.PartsView.{HoldsSaid}
use Rattle.pb_source.specs.StatementView.{member_view}
use Rattle.pb_source.specs.Readers.Lines.{is_closing, nested_in, oneof_statement_reader, extension_reader, room_statement_reader}
use Rattle.pb_source.proofs.parsing.messages.+message.Given as goal

-- ---- what each call leaves to be read, by the levels left and then by what calls what

abbrev pub decreases-member : goal.decreases-member
decreases-member l = 16 * l.depth_left

abbrev pub decreases-labelled : goal.decreases-labelled
decreases-labelled l = 16 * l.depth_left + 1

abbrev pub decreases-oneof_statement : goal.decreases-oneof_statement
decreases-oneof_statement l = 16 * l.depth_left + 1

abbrev pub decreases-oneof_body : goal.decreases-oneof_body
decreases-oneof_body l = 16 * l.depth_left + 2

abbrev pub decreases-oneof : goal.decreases-oneof
decreases-oneof l = 16 * l.depth_left + 3

abbrev pub decreases-extension : goal.decreases-extension
decreases-extension l = 16 * l.depth_left + 2

abbrev pub decreases-extend_body : goal.decreases-extend_body
decreases-extend_body l = 16 * l.depth_left + 3

abbrev pub decreases-extend : goal.decreases-extend
decreases-extend l = 16 * l.depth_left + 4

abbrev pub decreases-nesting_statement : goal.decreases-nesting_statement
decreases-nesting_statement l = 16 * l.depth_left + 5

abbrev pub decreases-message_statement : goal.decreases-message_statement
decreases-message_statement l = 16 * l.depth_left + 6

abbrev pub decreases-message_body : goal.decreases-message_body
decreases-message_body l = 16 * l.depth_left + 7

abbrev pub decreases-message : goal.decreases-message
decreases-message l = 16 * l.depth_left + 8

-- ---- loops

abbrev pub invariant-oneof_body-loop-alloc : goal.invariant-oneof_body-loop-alloc
invariant-oneof_body-loop-alloc l =
    (front : List (Option Member)) × (map member_view l.members.items ≡ those_said front)
    × HasRead is_closing (λ n. oneof_statement_reader l.grammar n (nested_in l.grammar n l.depth_left)) (mark_reader (codes "}")) l.symbols l.at front l.here

abbrev pub decreases-oneof_body-loop-alloc : goal.decreases-oneof_body-loop-alloc
decreases-oneof_body-loop-alloc l = length l.symbols - l.here

abbrev pub invariant-extend_body-loop-alloc : goal.invariant-extend_body-loop-alloc
invariant-extend_body-loop-alloc l =
    (front : List (Option DeclaredMessage)) × (map message_view l.groups.items ≡ those_said front)
    × HasRead is_closing (λ n. extension_reader l.grammar n (nested_in l.grammar n l.depth_left)) (mark_reader (codes "}")) l.symbols l.at front l.here

abbrev pub decreases-extend_body-loop-alloc : goal.decreases-extend_body-loop-alloc
decreases-extend_body-loop-alloc l = length l.symbols - l.here

abbrev pub invariant-message_body-loop-grammar : goal.invariant-message_body-loop-grammar
invariant-message_body-loop-grammar l =
    (front : List MessageStatement) × HoldsSaid l.parts front × HasRead is_closing (λ n. room_statement_reader l.grammar n l.depth_left) (mark_reader (codes "}")) l.symbols l.at front l.here

abbrev pub decreases-message_body-loop-grammar : goal.decreases-message_body-loop-grammar
decreases-message_body-loop-grammar l = length l.symbols - l.here
