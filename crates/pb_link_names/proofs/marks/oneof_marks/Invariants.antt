use Rattle.std.proofs.Common.{◌≡◌, map, take}
use Rattle.std.specs.List.{list_any, enumerate_from}
use Rattle.pb_declarations.specs.View.{message_view}
use Rattle.pb_link_names.specs.Declarations.{a_oneof, head_of, is_synthetic}
use Rattle.pb_link_names.specs.Marks.{marks_of}
use Rattle.pb_link_names.proofs.marks.oneof_marks.Given as goal

abbrev pub invariant-loop-index : goal.invariant-loop-index
invariant-loop-index l = record {
  marked : l.marks.items ≡ map (λ e. marks_of (a_oneof (head_of (message_view l.message)) e.0 e.1)) (take l.index (enumerate_from 0 (head_of (message_view l.message)).oneofs));
  follows : l.follows_synthetic ≡ list_any (λ e. is_synthetic (head_of (message_view l.message)) e.0) (take l.index (enumerate_from 0 (head_of (message_view l.message)).oneofs));
}
