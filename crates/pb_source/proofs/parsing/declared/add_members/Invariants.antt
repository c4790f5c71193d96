use Rattle.std.proofs.Common.{◌≡◌, ◌++◌, map}
use Rattle.std.specs.Vec.Iter.{into_iter_items}
use Rattle.pb_declarations.specs.View.{field_view, message_view}
use Rattle.pb_source.specs.Meaning.{fields_in, groups_in, in_oneof}
use Rattle.pb_source.specs.StatementView.{member_view}
use Rattle.pb_source.proofs.parsing.declared.add_members.Given as goal

abbrev pub invariant-loop-member : goal.invariant-loop-member
invariant-loop-member l =
    (map field_view l.fields.items ++ map (in_oneof l.count) (fields_in (map member_view (into_iter_items l.member-iterator)))
    ≡ map field_view l.fn.fields.items ++ map (in_oneof l.count) (fields_in (map member_view l.fn.members.items)))
    × (map message_view l.messages.items ++ groups_in (map member_view (into_iter_items l.member-iterator))
    ≡ map message_view l.fn.messages.items ++ groups_in (map member_view l.fn.members.items))
