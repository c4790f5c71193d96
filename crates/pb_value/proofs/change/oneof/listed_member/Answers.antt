use Rattle.std.proofs.Common.{arith, ℕ, ◌<◌, ◌≡◌, List, length, get_or, sym, ◌∙◌, subst, true}
use Rattle.pb_schema.specs.Types.{message_fields, field_numbered}
use Rattle.pb_value.specs.Oneof.{is_member_at}
use Rattle.pb_value.specs.View.{fields_view}
use Rattle.pb_value.proofs.FieldViews.{get_field-some}
use Rattle.pb_value.proofs.OneofLemmas.{NoneSet, NoneSet-more, NoneSet-all, member_found, member_missing, named_member, pool_differ}
use Rattle.pb_value.proofs.change.oneof.listed_member.Goals as goal

pub returns-then-contains_key : goal.returns-then-contains_key
returns-then-contains_key c =
    let all = message_fields c.args.pool.now c.args.message_type.0 in
    let entries = c.args.fields.now.entries in
    let ns = c.oneof_members-number-items.result.now in
    let found = c.oneof_members-number-items.ensures.found in
    let n = get_or ns c.loop-number.number-index 0 in
    let differ = pool_differ c.args.pool.now c.args.message_type.0 c.oneof_members-number-items.ensures.rules c.requires.within in
    let member = named_member all c.args.oneof c.loop-number.number-index differ (subst (λ (l : List ℕ). c.loop-number.number-index < length l) found (omega arith)) in
    member_found all c.args.oneof n (fields_view entries) c.requires.one_each (subst (λ (l : List ℕ). is_member_at c.args.oneof (field_numbered (get_or l c.loop-number.number-index 0) all) ≡ true) (sym found) member)
    (sym (get_field-some n entries) ∙ sym c.contains_key.ensures ∙ c.if-contains_key.true)

pub loop-number-preserved : goal.loop-number-preserved
loop-number-preserved c =
    let entries = c.args.fields.now.entries in
    let ns = c.oneof_members-number-items.result.now in
    let n = get_or ns c.loop-number.number-index 0 in
    NoneSet-more (fields_view entries) ns c.loop-number.number-index (omega arith) c.loop-number.invariant (sym (get_field-some n entries) ∙ sym c.contains_key.ensures ∙ c.if-contains_key.false)

pub returns : goal.returns
returns c =
    let all = message_fields c.args.pool.now c.args.message_type.0 in
    let fs = fields_view c.args.fields.now.entries in
    let ns = c.oneof_members-number-items.result.now in
    member_missing all c.args.oneof fs (subst (NoneSet fs) c.oneof_members-number-items.ensures.found (NoneSet-all fs ns c.loop-number.number-index (omega arith) c.loop-number.invariant))
