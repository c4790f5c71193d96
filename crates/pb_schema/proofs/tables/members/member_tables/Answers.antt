use Rattle.std.proofs.Common.{◌≡◌, ℕ, Vec, Global, List, map, length, subst, string_bytes, arith}
use Rattle.std.proofs.lemmas.List.{length-map}
use Rattle.pb_schema.specs.declared.types.Field.{Field}
use Rattle.pb_schema.specs.Types.{MessageView}
use Rattle.pb_schema.specs.View.{field_view, message_view}
use Rattle.pb_schema.specs.Tables.{IsMemberTable}
use Rattle.pb_schema.proofs.TableLemmas.{tables-more}
use Rattle.pb_schema.proofs.tables.members.member_tables.Goals as goal

pub loop-message-preserved : goal.loop-message-preserved
loop-message-preserved c =
    let t = c.message-item.result in
    let table = c.in_ok-table.table.items in
    let size : c.len.result ≡ length (map string_bytes t.oneofs.items) = omega (arith, length-map t.oneofs.items string_bytes, t.oneofs.ok.0, c.len.ensures) in
    let of_fields = subst (λ (l : List Field). IsMemberTable c.len.result (map field_view l) table) c.deref.ensures.value c.in_ok-table.ensures in
    let of_message = subst (λ (n : ℕ). IsMemberTable n (map field_view t.fields.items) table) size of_fields in
    rw c.in_ok-push.ensures.items (tables-more message_view (λ (m : MessageView) (v : Vec (Vec ℕ Global) Global). IsMemberTable (length m.oneofs) m.fields v.items) c.args.messages.now c.loop-message.message-index t c.loop-message.tables.items c.in_ok-table.table (omega arith) c.message-item.is c.loop-message.invariant of_message)
