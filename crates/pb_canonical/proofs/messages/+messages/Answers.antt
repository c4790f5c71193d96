use Rattle.std.proofs.Common.{◌≡◌, ℕ, List, [], ◌++◌, ◌-◌, ◌∙◌, ap, sym, subst, refl, arith, inl, inr}
use Rattle.std.specs.Prelude.{true, false}
use Rattle.std.proofs.lemmas.Bool.{eqb-true}
use Rattle.pb_wire.specs.Spell.{shortest_records}
use Rattle.pb_schema.specs.declared.types.Kind.TheVariants as kind
use Rattle.pb_schema.specs.declared.types.Shape.TheVariants as shape
use Rattle.pb_schema.specs.PayloadView.{payload_view}
use Rattle.pb_schema.specs.View.{field_view}
use Rattle.pb_schema.specs.Types.{message_fields}
use Rattle.pb_schema.specs.Kinds.{wire_type_of, written}
use Rattle.pb_schema.specs.Rules.{HasKeyKind}
use Rattle.pb_wire.specs.Ranges.{IsNumber}
use Rattle.pb_value.specs.Canon.{canon_fields}
use Rattle.pb_canonical.specs.Parts.{tagged, ValueFirst, HeldFirst, PackedFirst, UnknownsFirst, MessageFirst, EachFirst}
use Rattle.pb_canonical.proofs.SplitLemmas.{nonempty}
use Rattle.pb_canonical.proofs.SameLemmas.{no_bytes}
use Rattle.pb_canonical.proofs.ScalarLemmas.{default_off}
use Rattle.pb_canonical.proofs.HeldLemmas.{value_as, value_from, value_shorter, entry_shorter, entries_follow, member_held, packed_held, list_held, message_value, group_value, whole_entry, each_more, each_none, entries_more, entries_none, implicit_held, explicit_held, map_held}
use Rattle.pb_canonical.proofs.FieldLemmas.{fields_more, field_shorter, fields_none, fields_within, whole_message, inner_message, group_message}
use Rattle.pb_canonical.proofs.ValueNext.{value_at, value_inner, value_group, value_scalar, not_message, some_next, some_type, each_case, front_payload, value_front, wire_known, some_entries, later_above, above_case, entry_at, entry_front, entry_parts, entry_value}
use Rattle.pb_canonical.proofs.FieldNext.{message_next, fields_tag, fields_ended, fields_go_on, fields_left, fields_none_left, inner_next, group_body_next, implicit_back, explicit_back, member_back, packed_back, list_back, map_back, list_ends, map_ends}
use Rattle.pb_canonical.proofs.messages.+messages.Goals as goal

-- MESSAGES

pub message_first-returns-clause-first : goal.message_first-returns-clause-first
message_first-returns-clause-first t c =
    let f = c.in_ok-rest.ensures.first in
    whole_message c.args.pool.now c.args.message_type.0 c.args.levels c.args.bytes.now c.in_ok-rest.rest.now c.in_ok-end.end.now f
    ((c.has_one_member_each.ensures f.fields f.within f.deep f.split f.one_each).0 c.if-not-has_one_member_each.false) c.in_ok-end.ensures.first

pub message_first-returns-in_err-rest-clause-complete : goal.message_first-returns-in_err-rest-clause-complete
message_first-returns-in_err-rest-clause-complete t c = λ s stop h.
    let next = message_next c.args.pool.now c.args.message_type.0 c.args.levels c.args.bytes.now s h in absurd (c.in_err-rest.ensures.complete next.mid (next.end stop) next.fields)

pub message_first-returns-then-not-has_one_member_each-clause-complete : goal.message_first-returns-then-not-has_one_member_each-clause-complete
message_first-returns-then-not-has_one_member_each-clause-complete t c = λ s stop h.
    let next = message_next c.args.pool.now c.args.message_type.0 c.args.levels c.args.bytes.now s h in
    let f = next.fields in
    let same = c.in_ok-rest.ensures.complete next.mid (next.end stop) f in
    let all = message_fields c.args.pool.now c.args.message_type.0 in
    let split = f.split ∙ ap (λ (l : List ℕ). shortest_records (canon_fields c.args.pool.now all f.fields) ++ l) (sym same) in
    let yes : c.has_one_member_each.result ≡ true = (c.has_one_member_each.ensures f.fields f.within f.deep split f.one_each).1 next.each in
    absurd (cc)

pub message_first-returns-in_err-end-clause-complete : goal.message_first-returns-in_err-end-clause-complete
message_first-returns-in_err-end-clause-complete t c = λ s stop h.
    let next = message_next c.args.pool.now c.args.message_type.0 c.args.levels c.args.bytes.now s h in
    let same = c.in_ok-rest.ensures.complete next.mid (next.end stop) next.fields in
    absurd (c.in_err-end.ensures.complete s stop (subst (λ (l : List ℕ). UnknownsFirst c.args.pool.now c.args.message_type.0 c.args.levels l s) (sym same) next.unknowns))

pub message_first-returns-clause-complete : goal.message_first-returns-clause-complete
message_first-returns-clause-complete t c = λ s stop h.
    let next = message_next c.args.pool.now c.args.message_type.0 c.args.levels c.args.bytes.now s h in
    let same = c.in_ok-rest.ensures.complete next.mid (next.end stop) next.fields in
    c.in_ok-end.ensures.complete s stop (subst (λ (l : List ℕ). UnknownsFirst c.args.pool.now c.args.message_type.0 c.args.levels l s) (sym same) next.unknowns)

pub message_first-has_one_member_each-requires-clause-shorter : goal.message_first-has_one_member_each-requires-clause-shorter
message_first-has_one_member_each-requires-clause-shorter t c =
    fields_within c.args.pool.now c.args.message_type.0 0 0 c.args.levels c.args.bytes.now c.in_ok-rest.rest.now c.in_ok-rest.ensures.first

-- FIELDS

pub fields_first-fields-init : goal.fields_first-fields-init
fields_first-fields-init t c = record { whole = λ end h. h; left = λ s end h. h }

pub fields_first-fields-smaller : goal.fields_first-fields-smaller
fields_first-fields-smaller t c =
    field_shorter c.args.pool.now (field_view c.in-Some.field.now) c.args.levels c.fields.rest.now _ c.in_ok-rest.rest.now c.in_ok-tag.ensures.tag c.in_ok-rest.ensures.first

pub fields_first-fields-preserved : goal.fields_first-fields-preserved
fields_first-fields-preserved t c = record {
  whole = λ end h.
      let met = c.in_ok-met.ensures.follows in
      let number = c.in-Some.ensures.number in
      c.fields.invariant.whole end
      (fields_more c.args.pool.now c.args.message_type.0 c.fields.met.next c.fields.met.oneofs c.in_ok-met.met.next c.in_ok-met.met.oneofs c.args.levels (field_view c.in-Some.field.now)
      c.in_ok-tag.tag.number c.fields.rest.now _ c.in_ok-rest.rest.now end c.in-Some.ensures.found (omega (arith, met.0, number.0)) (omega (arith, met.1, number.0)) c.in_ok-met.ensures.oneofs
      c.in_ok-tag.ensures.tag c.in_ok-rest.ensures.first h);
  left = λ s end h.
      let f = field_view c.in-Some.field.now in
      let met = c.in_ok-met.ensures.follows in
      let number = c.in-Some.ensures.number in
      let next = fields_go_on c.args.pool.now c.args.message_type.0 c.fields.met.next c.fields.met.oneofs c.args.levels c.in_ok-tag.tag.number c.in_ok-tag.tag.wire_type f c.fields.rest.now c.in_ok-tag.after.now s
      c.requires.pool (let low = c.in_ok-tag.ensures.number in omega (arith, low.1)) c.in_ok-tag.ensures.wire_type c.in_ok-tag.ensures.tag c.in-Some.ensures.found c.in-Some.ensures.of_type c.in-Some.ensures.is_counted end (c.fields.invariant.left s end h) in
      let same = c.in_ok-rest.ensures.complete next.mid next.further (subst (λ (l : List ℕ). HeldFirst c.args.pool.now f c.args.levels l next.mid) c.in_ok-tag.ensures.tag next.held) in
      fields_left c.args.pool.now c.args.message_type.0 c.fields.met.next c.fields.met.oneofs c.args.levels c.in_ok-tag.tag.number c.in_ok-met.met.next c.in_ok-met.met.oneofs f c.fields.rest.now s c.in_ok-rest.rest.now
      next (omega (arith, met.1, number.0)) c.in_ok-met.ensures.oneofs same;
}

pub fields_first-returns-in_err-tag-clause-complete : goal.fields_first-returns-in_err-tag-clause-complete
fields_first-returns-in_err-tag-clause-complete t c = λ s end h.
    let tag = fields_tag c.args.pool.now c.args.message_type.0 c.fields.met.next c.fields.met.oneofs c.args.levels c.fields.rest.now s c.requires.pool end (nonempty c.fields.rest.now (sym c.is_empty.ensures ∙ c.fields-test.true)) (c.fields.invariant.left s end h) in
    absurd (c.in_err-tag.ensures.complete tag.number tag.wire_type tag.rest tag.is_number tag.known tag.split)

pub fields_first-returns-in_default-clause-first : goal.fields_first-returns-in_default-clause-first
fields_first-returns-in_default-clause-first t c = c.fields.invariant.whole _ (fields_none c.args.pool.now c.args.message_type.0 _ _ c.args.levels _)

pub fields_first-returns-in_default-clause-complete : goal.fields_first-returns-in_default-clause-complete
fields_first-returns-in_default-clause-complete t c = λ s end h.
    fields_ended c.args.pool.now c.args.message_type.0 c.fields.met.next c.fields.met.oneofs c.args.levels c.in_ok-tag.tag.number c.in_ok-tag.tag.wire_type c.fields.rest.now c.in_ok-tag.after.now s c.requires.pool (let low = c.in_ok-tag.ensures.number in omega (arith, low.1))
    c.in_ok-tag.ensures.wire_type c.in_ok-tag.ensures.tag c.in_default.ensures.is_counted end (c.fields.invariant.left s end h)

pub fields_first-returns-in_err-met-clause-complete : goal.fields_first-returns-in_err-met-clause-complete
fields_first-returns-in_err-met-clause-complete t c = λ s end h.
    let number = c.in-Some.ensures.number in
    let next = fields_go_on c.args.pool.now c.args.message_type.0 c.fields.met.next c.fields.met.oneofs c.args.levels c.in_ok-tag.tag.number c.in_ok-tag.tag.wire_type (field_view c.in-Some.field.now) c.fields.rest.now c.in_ok-tag.after.now s
    c.requires.pool (let low = c.in_ok-tag.ensures.number in omega (arith, low.1)) c.in_ok-tag.ensures.wire_type c.in_ok-tag.ensures.tag c.in-Some.ensures.found c.in-Some.ensures.of_type c.in-Some.ensures.is_counted end (c.fields.invariant.left s end h) in
    elim c.in_err-met.ensures.refused [ inl low ↦ absurd (let rises = next.rises in omega (arith, low, rises, number.0)) | inr taken ↦ absurd (next.free taken) ]

pub fields_first-returns-in_err-rest-clause-complete : goal.fields_first-returns-in_err-rest-clause-complete
fields_first-returns-in_err-rest-clause-complete t c = λ s end h.
    let f = field_view c.in-Some.field.now in
    let next = fields_go_on c.args.pool.now c.args.message_type.0 c.fields.met.next c.fields.met.oneofs c.args.levels c.in_ok-tag.tag.number c.in_ok-tag.tag.wire_type f c.fields.rest.now c.in_ok-tag.after.now s
    c.requires.pool (let low = c.in_ok-tag.ensures.number in omega (arith, low.1)) c.in_ok-tag.ensures.wire_type c.in_ok-tag.ensures.tag c.in-Some.ensures.found c.in-Some.ensures.of_type c.in-Some.ensures.is_counted end (c.fields.invariant.left s end h) in
    absurd (c.in_err-rest.ensures.complete next.mid next.further (subst (λ (l : List ℕ). HeldFirst c.args.pool.now f c.args.levels l next.mid) c.in_ok-tag.ensures.tag next.held))

pub fields_first-returns-clause-first : goal.fields_first-returns-clause-first
fields_first-returns-clause-first t c = c.fields.invariant.whole _ (fields_none c.args.pool.now c.args.message_type.0 _ _ c.args.levels _)

pub fields_first-returns-clause-complete : goal.fields_first-returns-clause-complete
fields_first-returns-clause-complete t c = λ s end h.
    fields_none_left c.args.pool.now c.args.message_type.0 c.fields.met.next c.fields.met.oneofs c.args.levels c.fields.rest.now s (eqb-true _ _ (sym c.is_empty.ensures ∙ c.fields-test.false)) (c.fields.invariant.left s end h)

-- ONE FIELD

pub field_first-returns-in_ok-rest-in-Implicit-clause-first : goal.field_first-returns-in_ok-rest-in-Implicit-clause-first
field_first-returns-in_ok-rest-in-Implicit-clause-first t c =
    implicit_held c.args.pool.now (field_view c.args.field.now) c.args.levels _ c.in_ok-rest-in-Implicit.rest.now c.in-Implicit.is (rw c.requires.number c.in_ok-rest-in-Implicit.ensures.first)

pub field_first-returns-in_err-rest-in-Implicit-clause-complete : goal.field_first-returns-in_err-rest-in-Implicit-clause-complete
field_first-returns-in_err-rest-in-Implicit-clause-complete t c = λ s far h.
    let g = implicit_back c.args.pool.now (field_view c.args.field.now) c.args.tag.number c.args.tag.wire_type c.args.levels c.args.bytes.now s c.in-Implicit.is c.requires.rules.implicit c.requires.number (omega arith) (omega arith) h in
    absurd (c.in_err-rest-in-Implicit.ensures.complete g.payload s g.type g.is g.given g.split)

pub field_first-returns-in_ok-rest-in-Implicit-clause-complete : goal.field_first-returns-in_ok-rest-in-Implicit-clause-complete
field_first-returns-in_ok-rest-in-Implicit-clause-complete t c = λ s far h.
    let g = implicit_back c.args.pool.now (field_view c.args.field.now) c.args.tag.number c.args.tag.wire_type c.args.levels c.args.bytes.now s c.in-Implicit.is c.requires.rules.implicit c.requires.number (omega arith) (omega arith) h in
    c.in_ok-rest-in-Implicit.ensures.complete g.payload s g.type g.is g.given g.split

pub field_first-returns-in_ok-rest-in-Explicit-clause-first : goal.field_first-returns-in_ok-rest-in-Explicit-clause-first
field_first-returns-in_ok-rest-in-Explicit-clause-first t c =
    explicit_held c.args.pool.now (field_view c.args.field.now) c.args.levels _ c.in_ok-rest-in-Explicit.rest.now c.in-Explicit.is (rw c.requires.number c.in_ok-rest-in-Explicit.ensures.first)

pub field_first-returns-in_err-rest-in-Explicit-clause-complete : goal.field_first-returns-in_err-rest-in-Explicit-clause-complete
field_first-returns-in_err-rest-in-Explicit-clause-complete t c = λ s far h.
    let b = tagged c.args.tag.number c.args.tag.wire_type c.args.bytes.now in
    let f = field_view c.args.field.now in
    absurd (c.in_err-rest-in-Explicit.ensures.complete s (subst (λ (i : ℕ). ValueFirst c.args.pool.now f.kind i c.args.levels b s) c.requires.number (explicit_back c.args.pool.now f c.args.levels b s c.in-Explicit.is h)))

pub field_first-returns-in_ok-rest-in-Explicit-clause-complete : goal.field_first-returns-in_ok-rest-in-Explicit-clause-complete
field_first-returns-in_ok-rest-in-Explicit-clause-complete t c = λ s far h.
    let b = tagged c.args.tag.number c.args.tag.wire_type c.args.bytes.now in
    let f = field_view c.args.field.now in
    c.in_ok-rest-in-Explicit.ensures.complete s (subst (λ (i : ℕ). ValueFirst c.args.pool.now f.kind i c.args.levels b s) c.requires.number (explicit_back c.args.pool.now f c.args.levels b s c.in-Explicit.is h))

pub field_first-returns-in_ok-rest-in-OneofMember-clause-first : goal.field_first-returns-in_ok-rest-in-OneofMember-clause-first
field_first-returns-in_ok-rest-in-OneofMember-clause-first t c =
    member_held c.args.pool.now (field_view c.args.field.now) _ c.args.levels _ c.in_ok-rest-in-OneofMember.rest.now c.in-OneofMember.is (rw c.requires.number c.in_ok-rest-in-OneofMember.ensures.first)

pub field_first-returns-in_err-rest-in-OneofMember-clause-complete : goal.field_first-returns-in_err-rest-in-OneofMember-clause-complete
field_first-returns-in_err-rest-in-OneofMember-clause-complete t c = λ s far h.
    let b = tagged c.args.tag.number c.args.tag.wire_type c.args.bytes.now in
    let f = field_view c.args.field.now in
    absurd (c.in_err-rest-in-OneofMember.ensures.complete s (subst (λ (i : ℕ). ValueFirst c.args.pool.now f.kind i c.args.levels b s) c.requires.number (member_back c.args.pool.now f _ c.args.levels b s c.in-OneofMember.is h)))

pub field_first-returns-in_ok-rest-in-OneofMember-clause-complete : goal.field_first-returns-in_ok-rest-in-OneofMember-clause-complete
field_first-returns-in_ok-rest-in-OneofMember-clause-complete t c = λ s far h.
    let b = tagged c.args.tag.number c.args.tag.wire_type c.args.bytes.now in
    let f = field_view c.args.field.now in
    c.in_ok-rest-in-OneofMember.ensures.complete s (subst (λ (i : ℕ). ValueFirst c.args.pool.now f.kind i c.args.levels b s) c.requires.number (member_back c.args.pool.now f _ c.args.levels b s c.in-OneofMember.is h))

pub field_first-returns-in_ok-rest-in-List-true-clause-first : goal.field_first-returns-in_ok-rest-in-List-true-clause-first
field_first-returns-in_ok-rest-in-List-true-clause-first t c =
    packed_held c.args.pool.now (field_view c.args.field.now) c.args.levels _ c.in_ok-rest-in-List-true.rest.now (cc) (rw c.requires.number c.in_ok-rest-in-List-true.ensures.first)

pub field_first-returns-in_err-rest-in-List-true-clause-complete : goal.field_first-returns-in_err-rest-in-List-true-clause-complete
field_first-returns-in_err-rest-in-List-true-clause-complete t c = λ s far h.
    let b = tagged c.args.tag.number c.args.tag.wire_type c.args.bytes.now in
    let f = field_view c.args.field.now in
    absurd (c.in_err-rest-in-List-true.ensures.complete s (subst (λ (i : ℕ). PackedFirst c.args.pool.now f.kind i b s) c.requires.number (packed_back c.args.pool.now f c.args.levels b s (cc) c.requires.rules.packed h)))

pub field_first-returns-in_ok-rest-in-List-true-clause-complete : goal.field_first-returns-in_ok-rest-in-List-true-clause-complete
field_first-returns-in_ok-rest-in-List-true-clause-complete t c = λ s far h.
    let b = tagged c.args.tag.number c.args.tag.wire_type c.args.bytes.now in
    let f = field_view c.args.field.now in
    c.in_ok-rest-in-List-true.ensures.complete s (subst (λ (i : ℕ). PackedFirst c.args.pool.now f.kind i b s) c.requires.number (packed_back c.args.pool.now f c.args.levels b s (cc) c.requires.rules.packed h))

pub field_first-returns-in_ok-rest-in-List-false-clause-first : goal.field_first-returns-in_ok-rest-in-List-false-clause-first
field_first-returns-in_ok-rest-in-List-false-clause-first t c =
    list_held c.args.pool.now (field_view c.args.field.now) c.args.levels _ c.in_ok-rest-in-List-false.rest.now (cc) c.in_ok-rest-in-List-false.ensures.first

pub field_first-returns-in_err-rest-in-List-false-clause-complete : goal.field_first-returns-in_err-rest-in-List-false-clause-complete
field_first-returns-in_err-rest-in-List-false-clause-complete t c = λ s far h.
    let b = tagged c.args.tag.number c.args.tag.wire_type c.args.bytes.now in
    let f = field_view c.args.field.now in
    let is : f.shape ≡ shape.List false = cc in
    let some = list_back c.args.pool.now f c.args.levels b s is h in
    let type = some_type c.args.pool.now f c.args.tag.number c.args.tag.wire_type c.args.levels c.args.bytes.now s c.requires.number (omega arith) (omega arith) some in
    absurd (c.in_err-rest-in-List-false.ensures.complete s (list_ends c.args.pool.now f c.args.tag.number c.args.tag.wire_type s is c.requires.number type far) some)

pub field_first-returns-in_ok-rest-in-List-false-clause-complete : goal.field_first-returns-in_ok-rest-in-List-false-clause-complete
field_first-returns-in_ok-rest-in-List-false-clause-complete t c = λ s far h.
    let b = tagged c.args.tag.number c.args.tag.wire_type c.args.bytes.now in
    let f = field_view c.args.field.now in
    let is : f.shape ≡ shape.List false = cc in
    let some = list_back c.args.pool.now f c.args.levels b s is h in
    let type = some_type c.args.pool.now f c.args.tag.number c.args.tag.wire_type c.args.levels c.args.bytes.now s c.requires.number (omega arith) (omega arith) some in
    c.in_ok-rest-in-List-false.ensures.complete s (list_ends c.args.pool.now f c.args.tag.number c.args.tag.wire_type s is c.requires.number type far) some

pub field_first-returns-in_ok-rest-in-Map-clause-first : goal.field_first-returns-in_ok-rest-in-Map-clause-first
field_first-returns-in_ok-rest-in-Map-clause-first t c =
    map_held c.args.pool.now (field_view c.args.field.now) c.in-Map.key c.args.levels _ c.in_ok-rest-in-Map.rest.now c.in-Map.is c.in_ok-rest-in-Map.ensures.first

pub field_first-returns-in_err-rest-in-Map-clause-complete : goal.field_first-returns-in_err-rest-in-Map-clause-complete
field_first-returns-in_err-rest-in-Map-clause-complete t c = λ s far h.
    let b = tagged c.args.tag.number c.args.tag.wire_type c.args.bytes.now in
    let f = field_view c.args.field.now in
    let some = map_back c.args.pool.now f c.in-Map.key c.args.levels b s c.in-Map.is h in
    let at = entry_at c.args.pool.now f c.in-Map.key c.args.tag.number c.args.tag.wire_type c.args.levels b c.args.bytes.now s c.requires.number (omega arith) (omega arith) refl (some_entries c.args.pool.now f c.in-Map.key c.args.levels b s c.in-Map.is some) in
    absurd (c.in_err-rest-in-Map.ensures.complete s (map_ends c.args.pool.now f c.in-Map.key c.args.tag.number c.args.tag.wire_type s c.in-Map.is c.requires.number at.0 far) some)

pub field_first-returns-in_ok-rest-in-Map-clause-complete : goal.field_first-returns-in_ok-rest-in-Map-clause-complete
field_first-returns-in_ok-rest-in-Map-clause-complete t c = λ s far h.
    let b = tagged c.args.tag.number c.args.tag.wire_type c.args.bytes.now in
    let f = field_view c.args.field.now in
    let some = map_back c.args.pool.now f c.in-Map.key c.args.levels b s c.in-Map.is h in
    let at = entry_at c.args.pool.now f c.in-Map.key c.args.tag.number c.args.tag.wire_type c.args.levels b c.args.bytes.now s c.requires.number (omega arith) (omega arith) refl (some_entries c.args.pool.now f c.in-Map.key c.args.levels b s c.in-Map.is some) in
    c.in_ok-rest-in-Map.ensures.complete s (map_ends c.args.pool.now f c.in-Map.key c.args.tag.number c.args.tag.wire_type s c.in-Map.is c.requires.number at.0 far) some

-- VALUES

pub value_first-returns-in_ok-rest-in-Message-clause-first : goal.value_first-returns-in_ok-rest-in-Message-clause-first
value_first-returns-in_ok-rest-in-Message-clause-first t c =
    value_as c.args.pool.now c.args.kind (kind.Message c.in-Message.message_type) c.args.tag.number c.args.tag.wire_type c.args.levels c.args.bytes.now c.in_ok-rest-in-Message.rest.now c.in-Message.is
    (let h = c.wire_type.ensures in cc) (message_value c.args.pool.now c.in-Message.message_type c.args.tag.number c.args.levels c.args.bytes.now c.in_ok-rest-in-Message.rest.now c.in_ok-rest-in-Message.ensures.first)

pub value_first-returns-in_err-rest-in-Message-clause-complete : goal.value_first-returns-in_err-rest-in-Message-clause-complete
value_first-returns-in_err-rest-in-Message-clause-complete t c = λ s v.
    absurd
    (c.in_err-rest-in-Message.ensures.complete s
    (value_inner c.args.pool.now c.args.kind c.in-Message.message_type c.args.tag.number c.args.tag.wire_type c.args.levels c.args.bytes.now s c.in-Message.is (omega arith) (omega arith) v))

pub value_first-returns-in_ok-rest-in-Message-clause-complete : goal.value_first-returns-in_ok-rest-in-Message-clause-complete
value_first-returns-in_ok-rest-in-Message-clause-complete t c = λ s v.
    c.in_ok-rest-in-Message.ensures.complete s
    (value_inner c.args.pool.now c.args.kind c.in-Message.message_type c.args.tag.number c.args.tag.wire_type c.args.levels c.args.bytes.now s c.in-Message.is (omega arith) (omega arith) v)

pub value_first-returns-in_ok-rest-in-Group-clause-first : goal.value_first-returns-in_ok-rest-in-Group-clause-first
value_first-returns-in_ok-rest-in-Group-clause-first t c =
    value_as c.args.pool.now c.args.kind (kind.Group c.in-Group.message_type) c.args.tag.number c.args.tag.wire_type c.args.levels c.args.bytes.now c.in_ok-rest-in-Group.rest.now c.in-Group.is
    (let h = c.wire_type.ensures in cc) (group_value c.args.pool.now c.in-Group.message_type c.args.tag.number c.args.levels c.args.bytes.now c.in_ok-rest-in-Group.rest.now c.in_ok-rest-in-Group.ensures.first)

pub value_first-returns-in_err-rest-in-Group-clause-complete : goal.value_first-returns-in_err-rest-in-Group-clause-complete
value_first-returns-in_err-rest-in-Group-clause-complete t c = λ s v.
    absurd
    (c.in_err-rest-in-Group.ensures.complete s
    (value_group c.args.pool.now c.args.kind c.in-Group.message_type c.args.tag.number c.args.tag.wire_type c.args.levels c.args.bytes.now s c.in-Group.is (omega arith) (omega arith) v))

pub value_first-returns-in_ok-rest-in-Group-clause-complete : goal.value_first-returns-in_ok-rest-in-Group-clause-complete
value_first-returns-in_ok-rest-in-Group-clause-complete t c = λ s v.
    c.in_ok-rest-in-Group.ensures.complete s
    (value_group c.args.pool.now c.args.kind c.in-Group.message_type c.args.tag.number c.args.tag.wire_type c.args.levels c.args.bytes.now s c.in-Group.is (omega arith) (omega arith) v)

pub value_first-returns-in_err-rest-in_default-clause-complete : goal.value_first-returns-in_err-rest-in_default-clause-complete
value_first-returns-in_err-rest-in_default-clause-complete t c = λ s v.
    let none = not_message c.args.kind c.in_default.not-Message c.in_default.not-Group in
    let next = value_scalar c.args.pool.now c.args.kind c.args.tag.number c.args.tag.wire_type c.args.levels c.args.bytes.now s none (omega arith) (omega arith) v in
    absurd (c.in_err-rest-in_default.ensures.complete next.payload s next.is next.split)

pub value_first-returns-in_ok-rest-in_default-clause-complete : goal.value_first-returns-in_ok-rest-in_default-clause-complete
value_first-returns-in_ok-rest-in_default-clause-complete t c = λ s v.
    let none = not_message c.args.kind c.in_default.not-Message c.in_default.not-Group in
    let next = value_scalar c.args.pool.now c.args.kind c.args.tag.number c.args.tag.wire_type c.args.levels c.args.bytes.now s none (omega arith) (omega arith) v in
    c.in_ok-rest-in_default.ensures.complete next.payload s next.is next.split

pub value_first-returns-then-tag-wire_type-clause-complete : goal.value_first-returns-then-tag-wire_type-clause-complete
value_first-returns-then-tag-wire_type-clause-complete t c = λ s v.
    let at = value_at c.args.pool.now c.args.kind c.args.tag.number c.args.tag.wire_type c.args.levels c.args.bytes.now s (omega arith) (omega arith) v in
    absurd (c.if-tag-wire_type.true (sym at.0 ∙ sym c.wire_type.ensures))

pub inner_first-returns-then-is_empty-clause-first : goal.inner_first-returns-then-is_empty-clause-first
inner_first-returns-then-is_empty-clause-first t c =
    inner_message c.args.pool.now c.args.message_type.0 c.args.levels (c.args.levels - 1) c.args.bytes.now c.in_ok-payload.payload.now c.in_ok-end.end.now c.in_ok-payload.rest.now
    (omega (arith, c.if-levels-eq0.false)) c.in_ok-payload.ensures.split c.in_ok-end.ensures.first (eqb-true _ _ (sym c.is_empty.ensures ∙ c.if-is_empty.true))

pub inner_first-returns-then-levels-eq0-clause-complete : goal.inner_first-returns-then-levels-eq0-clause-complete
inner_first-returns-then-levels-eq0-clause-complete t c = λ s h.
    let next = inner_next c.args.pool.now c.args.message_type.0 c.args.levels c.args.bytes.now s h in absurd (let some = next.some in omega (arith, some, c.if-levels-eq0.true))

pub inner_first-returns-in_err-payload-clause-complete : goal.inner_first-returns-in_err-payload-clause-complete
inner_first-returns-in_err-payload-clause-complete t c = λ s h.
    let next = inner_next c.args.pool.now c.args.message_type.0 c.args.levels c.args.bytes.now s h in absurd (c.in_err-payload.ensures.complete next.inside s next.split)

pub inner_first-returns-in_err-end-clause-complete : goal.inner_first-returns-in_err-end-clause-complete
inner_first-returns-in_err-end-clause-complete t c = λ s h.
    let next = inner_next c.args.pool.now c.args.message_type.0 c.args.levels c.args.bytes.now s h in
    let same = c.in_ok-payload.ensures.complete next.inside s next.split in
    let inside = next.message (c.args.levels - 1) (let some = next.some in omega (arith, some)) in
    absurd (c.in_err-end.ensures.complete [] (inl refl) (subst (λ (l : List ℕ). MessageFirst c.args.pool.now c.args.message_type.0 (c.args.levels - 1) l []) (sym same.0) inside))

pub inner_first-returns-then-is_empty-clause-complete : goal.inner_first-returns-then-is_empty-clause-complete
inner_first-returns-then-is_empty-clause-complete t c = λ s h.
    let next = inner_next c.args.pool.now c.args.message_type.0 c.args.levels c.args.bytes.now s h in (c.in_ok-payload.ensures.complete next.inside s next.split).1

pub inner_first-returns-else-is_empty-clause-complete : goal.inner_first-returns-else-is_empty-clause-complete
inner_first-returns-else-is_empty-clause-complete t c = λ s h.
    let next = inner_next c.args.pool.now c.args.message_type.0 c.args.levels c.args.bytes.now s h in
    let same = c.in_ok-payload.ensures.complete next.inside s next.split in
    let inside = next.message (c.args.levels - 1) (let some = next.some in omega (arith, some)) in
    let none = c.in_ok-end.ensures.complete [] (inl refl) (subst (λ (l : List ℕ). MessageFirst c.args.pool.now c.args.message_type.0 (c.args.levels - 1) l []) (sym same.0) inside) in
    let some = nonempty c.in_ok-end.end.now (sym c.is_empty.ensures ∙ c.if-is_empty.false) in
    absurd (no_bytes c.in_ok-end.end.now none some)

pub group_first-returns-clause-first : goal.group_first-returns-clause-first
group_first-returns-clause-first t c =
    group_message c.args.pool.now c.args.message_type.0 c.args.number c.args.levels (c.args.levels - 1) c.args.bytes.now c.in_ok-end.end.now c.in_ok-rest.rest.now
    (omega (arith, c.if-levels-eq0.false)) c.in_ok-end.ensures.first c.in_ok-rest.ensures.split

pub group_first-returns-then-levels-eq0-clause-complete : goal.group_first-returns-then-levels-eq0-clause-complete
group_first-returns-then-levels-eq0-clause-complete t c = λ s h.
    let next = group_body_next c.args.pool.now c.args.message_type.0 c.args.number c.args.levels c.args.bytes.now s h in absurd (let some = next.some in omega (arith, some, c.if-levels-eq0.true))

pub group_first-returns-in_err-end-clause-complete : goal.group_first-returns-in_err-end-clause-complete
group_first-returns-in_err-end-clause-complete t c = λ s h.
    let next = group_body_next c.args.pool.now c.args.message_type.0 c.args.number c.args.levels c.args.bytes.now s h in
    absurd (c.in_err-end.ensures.complete (tagged c.args.number 4 s) (inr (c.args.number, s, c.requires.number, refl)) (next.message (c.args.levels - 1) (let some = next.some in omega (arith, some))))

pub group_first-returns-in_err-rest-clause-complete : goal.group_first-returns-in_err-rest-clause-complete
group_first-returns-in_err-rest-clause-complete t c = λ s h.
    let next = group_body_next c.args.pool.now c.args.message_type.0 c.args.number c.args.levels c.args.bytes.now s h in
    let same = c.in_ok-end.ensures.complete (tagged c.args.number 4 s) (inr (c.args.number, s, c.requires.number, refl)) (next.message (c.args.levels - 1) (let some = next.some in omega (arith, some))) in
    absurd (c.in_err-rest.ensures.complete s c.requires.number same)

pub group_first-returns-clause-complete : goal.group_first-returns-clause-complete
group_first-returns-clause-complete t c = λ s h.
    let next = group_body_next c.args.pool.now c.args.message_type.0 c.args.number c.args.levels c.args.bytes.now s h in
    let same = c.in_ok-end.ensures.complete (tagged c.args.number 4 s) (inr (c.args.number, s, c.requires.number, refl)) (next.message (c.args.levels - 1) (let some = next.some in omega (arith, some))) in
    c.in_ok-rest.ensures.complete s c.requires.number same

-- LISTS

pub list_first-values-init : goal.list_first-values-init
list_first-values-init t c =
    let f = field_view c.args.field.now in
    let b = tagged c.args.tag.number c.args.tag.wire_type c.args.bytes.now in
    record {
      whole = λ end h. each_more c.args.pool.now f c.args.tag.number c.args.levels _ c.in_ok-rest.rest.now end c.requires.number c.in_ok-rest.ensures.first h;
      left = λ s far h.
          let next = some_next c.args.pool.now f c.args.levels b s h in
          let first = subst (λ (i : ℕ). ValueFirst c.args.pool.now f.kind i c.args.levels b next.mid) c.requires.number next.first in
          subst (λ (l : List ℕ). EachFirst c.args.pool.now f c.args.levels l s) (sym (c.in_ok-rest.ensures.complete next.mid first)) next.later;
      type = (value_at c.args.pool.now f.kind c.args.tag.number c.args.tag.wire_type c.args.levels c.args.bytes.now c.in_ok-rest.rest.now (omega arith) (omega arith) c.in_ok-rest.ensures.first).0;
    }

pub list_first-returns-in_err-rest-clause-complete : goal.list_first-returns-in_err-rest-clause-complete
list_first-returns-in_err-rest-clause-complete t c = λ s far h.
    let f = field_view c.args.field.now in
    let b = tagged c.args.tag.number c.args.tag.wire_type c.args.bytes.now in
    let next = some_next c.args.pool.now f c.args.levels b s h in
    absurd (c.in_err-rest.ensures.complete next.mid (subst (λ (i : ℕ). ValueFirst c.args.pool.now f.kind i c.args.levels b next.mid) c.requires.number next.first))

pub list_first-returns-in_default-clause-first : goal.list_first-returns-in_default-clause-first
list_first-returns-in_default-clause-first t c = c.values.invariant.whole _ (each_none c.args.pool.now (field_view c.args.field.now) c.args.levels _)

pub list_first-values-smaller : goal.list_first-values-smaller
list_first-values-smaller t c =
    value_shorter c.args.pool.now c.args.field.now.kind c.args.tag.number c.args.levels c.values.rest.now _ c.in_ok-end.end.now c.in-Some.ensures.split c.in_ok-end.ensures.first

pub list_first-returns-in_default-clause-complete : goal.list_first-returns-in_default-clause-complete
list_first-returns-in_default-clause-complete t c = λ s far h.
    let f = field_view c.args.field.now in
    elim (each_case c.args.pool.now f c.args.levels c.values.rest.now s (c.values.invariant.left s far h)) [
      | inl e ↦ e
      | inr next ↦
          let first = subst (λ (i : ℕ). ValueFirst c.args.pool.now f.kind i c.args.levels c.values.rest.now next.mid) c.requires.number next.first in
          let front = front_payload c.args.pool.now f.kind c.args.tag.number c.args.tag.wire_type c.args.levels c.values.rest.now next.mid c.requires.pool (omega arith) (omega arith) c.values.invariant.type first in
          absurd (c.in_default.ensures.complete front.next.payload front.after next.mid (subst IsNumber c.requires.number c.requires.rules.number) front.split front.next.at front.next.declared)
    ]

pub list_first-returns-in_err-end-clause-complete : goal.list_first-returns-in_err-end-clause-complete
list_first-returns-in_err-end-clause-complete t c = λ s far h.
    let f = field_view c.args.field.now in
    elim (each_case c.args.pool.now f c.args.levels c.values.rest.now s (c.values.invariant.left s far h)) [
      | inl e ↦
          let u = far c.in-Some.after.now (sym e ∙ c.in-Some.ensures.split) in
          absurd (default_off (sym u.undeclared ∙ c.in-Some.ensures.declared u.payload u.rest u.at))
      | inr next ↦
          let first = subst (λ (i : ℕ). ValueFirst c.args.pool.now f.kind i c.args.levels c.values.rest.now next.mid) c.requires.number next.first in
          absurd (c.in_err-end.ensures.complete next.mid (subst (λ (l : List ℕ). ValueFirst c.args.pool.now f.kind c.args.tag.number c.args.levels l next.mid) c.in-Some.ensures.split first))
    ]

pub list_first-values-preserved : goal.list_first-values-preserved
list_first-values-preserved t c =
    let f = field_view c.args.field.now in
    record {
      whole = λ end h.
          c.values.invariant.whole end
          (each_more c.args.pool.now f c.args.tag.number c.args.levels c.values.rest.now c.in_ok-end.end.now end c.requires.number
          (value_from c.args.pool.now c.args.field.now.kind c.args.tag.number c.args.levels c.values.rest.now _ c.in_ok-end.end.now c.in-Some.ensures.split c.in_ok-end.ensures.first) h).each;
      left = λ s far h.
          elim (each_case c.args.pool.now f c.args.levels c.values.rest.now s (c.values.invariant.left s far h)) [
            | inl e ↦
                let u = far c.in-Some.after.now (sym e ∙ c.in-Some.ensures.split) in
                absurd (default_off (sym u.undeclared ∙ c.in-Some.ensures.declared u.payload u.rest u.at))
            | inr next ↦
                let first = subst (λ (i : ℕ). ValueFirst c.args.pool.now f.kind i c.args.levels c.values.rest.now next.mid) c.requires.number next.first in
                let same = c.in_ok-end.ensures.complete next.mid (subst (λ (l : List ℕ). ValueFirst c.args.pool.now f.kind c.args.tag.number c.args.levels l next.mid) c.in-Some.ensures.split first) in
                subst (λ (l : List ℕ). EachFirst c.args.pool.now f c.args.levels l s) (sym same) next.later
          ];
      type = c.values.invariant.type;
    }

-- MAPS

pub map_first-returns-then-tag-ne2-clause-complete : goal.map_first-returns-then-tag-ne2-clause-complete
map_first-returns-then-tag-ne2-clause-complete t c = λ s far h.
    let f = field_view c.args.field.now in
    let b = tagged c.args.tag.number c.args.tag.wire_type c.args.bytes.now in
    let next = some_entries c.args.pool.now f c.args.key c.args.levels b s c.requires.key h in
    let at = entry_at c.args.pool.now f c.args.key c.args.tag.number c.args.tag.wire_type c.args.levels b c.args.bytes.now s c.requires.number (omega arith) (omega arith) refl next in
    absurd (c.if-tag-ne2.true at.0)

pub map_first-returns-in_err-first-clause-complete : goal.map_first-returns-in_err-first-clause-complete
map_first-returns-in_err-first-clause-complete t c = λ s far h.
    let f = field_view c.args.field.now in
    let b = tagged c.args.tag.number c.args.tag.wire_type c.args.bytes.now in
    let next = some_entries c.args.pool.now f c.args.key c.args.levels b s c.requires.key h in
    let at = entry_at c.args.pool.now f c.args.key c.args.tag.number c.args.tag.wire_type c.args.levels b c.args.bytes.now s c.requires.number (omega arith) (omega arith) refl next in
    absurd (c.in_err-first.ensures.complete (written c.args.key next.name) next.mid at.1)

pub map_first-entries-init : goal.map_first-entries-init
map_first-entries-init t c =
    let f = field_view c.args.field.now in
    let b = tagged c.args.tag.number c.args.tag.wire_type c.args.bytes.now in
    record {
      whole = λ end h.
          entries_more c.args.pool.now f c.args.key c.args.tag.number c.args.levels _ c.args.bytes.now c.in_ok-first.after_first.now end (payload_view c.in_ok-first.first)
          c.requires.number c.requires.key (ap (λ w. tagged c.args.tag.number w c.args.bytes.now) c.if-tag-ne2.false) c.in_ok-first.ensures.first h;
      left = λ s far h.
          let next = some_entries c.args.pool.now f c.args.key c.args.levels b s c.requires.key h in
          let at = entry_at c.args.pool.now f c.args.key c.args.tag.number c.args.tag.wire_type c.args.levels b c.args.bytes.now s c.requires.number (omega arith) (omega arith) refl next in
          let same = c.in_ok-first.ensures.complete (written c.args.key next.name) next.mid at.1 in
          later_above c.args.pool.now f c.args.key c.args.levels b s next (payload_view c.in_ok-first.first) c.in_ok-first.after_first.now same.0 same.1;
    }

pub map_first-returns-in_default-clause-first : goal.map_first-returns-in_default-clause-first
map_first-returns-in_default-clause-first t c = c.entries.invariant.whole _ (entries_none c.args.pool.now (field_view c.args.field.now) c.args.levels _ _)

pub map_first-returns-in_default-clause-complete : goal.map_first-returns-in_default-clause-complete
map_first-returns-in_default-clause-complete t c = λ s far h.
    let f = field_view c.args.field.now in
    elim (above_case c.args.pool.now f c.args.key c.args.levels (payload_view c.entries.last) c.entries.rest.now s c.requires.key (c.entries.invariant.left s far h)) [
      | inl e ↦ e
      | inr a ↦
          let front = entry_front c.args.pool.now f c.args.key c.args.tag.number c.args.levels c.entries.rest.now s c.requires.number a.next in
          absurd
          (c.in_default.ensures.complete front.0 (subst IsNumber c.requires.number c.requires.rules.number) (omega (arith, c.if-tag-ne2.false))
          (subst (λ w. c.entries.rest.now ≡ tagged c.args.tag.number w front.0) (sym c.if-tag-ne2.false) front.1))
    ]

pub map_first-entries-smaller : goal.map_first-entries-smaller
map_first-entries-smaller t c =
    entry_shorter c.args.pool.now c.args.key c.args.field.now.kind c.args.tag.number c.args.levels c.entries.rest.now c.in-Some.after.now c.in_ok-found.end.now (payload_view c.in_ok-found.found)
    (subst (λ w. c.entries.rest.now ≡ tagged c.args.tag.number w c.in-Some.after.now) c.if-tag-ne2.false c.in-Some.ensures.split) c.in_ok-found.ensures.first

pub map_first-returns-in_err-found-clause-complete : goal.map_first-returns-in_err-found-clause-complete
map_first-returns-in_err-found-clause-complete t c = λ s far h.
    let f = field_view c.args.field.now in
    elim (above_case c.args.pool.now f c.args.key c.args.levels (payload_view c.entries.last) c.entries.rest.now s c.requires.key (c.entries.invariant.left s far h)) [
      | inl e ↦ let u = far c.in-Some.after.now (sym e ∙ c.in-Some.ensures.split) in absurd (default_off (sym u.undeclared))
      | inr a ↦
          let at = entry_at c.args.pool.now f c.args.key c.args.tag.number c.args.tag.wire_type c.args.levels c.entries.rest.now c.in-Some.after.now s c.requires.number (omega arith) (omega arith) c.in-Some.ensures.split a.next in
          absurd (c.in_err-found.ensures.complete (written c.args.key a.next.name) a.next.mid at.1)
    ]

pub map_first-returns-then-not-is_below-clause-complete : goal.map_first-returns-then-not-is_below-clause-complete
map_first-returns-then-not-is_below-clause-complete t c = λ s far h.
    let f = field_view c.args.field.now in
    elim (above_case c.args.pool.now f c.args.key c.args.levels (payload_view c.entries.last) c.entries.rest.now s c.requires.key (c.entries.invariant.left s far h)) [
      | inl e ↦ let u = far c.in-Some.after.now (sym e ∙ c.in-Some.ensures.split) in absurd (default_off (sym u.undeclared))
      | inr a ↦
          let at = entry_at c.args.pool.now f c.args.key c.args.tag.number c.args.tag.wire_type c.args.levels c.entries.rest.now c.in-Some.after.now s c.requires.number (omega arith) (omega arith) c.in-Some.ensures.split a.next in
          let same = c.in_ok-found.ensures.complete (written c.args.key a.next.name) a.next.mid at.1 in
          absurd
          (c.is_below.ensures.other c.if-not-is_below.true (subst HasKeyKind c.requires.key c.requires.rules.key) a.name a.next.name a.named a.next.named a.written (sym same.0) a.less)
    ]

pub map_first-entries-preserved : goal.map_first-entries-preserved
map_first-entries-preserved t c =
    let f = field_view c.args.field.now in
    record {
      whole = λ end h.
          c.entries.invariant.whole end
          (entries_follow c.args.pool.now f c.args.key c.args.tag.number c.args.levels c.entries.rest.now c.in-Some.after.now c.in_ok-found.end.now end
          (payload_view c.entries.last) (payload_view c.in_ok-found.found) c.requires.number c.requires.key
          (subst (λ w. c.entries.rest.now ≡ tagged c.args.tag.number w c.in-Some.after.now) c.if-tag-ne2.false c.in-Some.ensures.split) (c.is_below.ensures.below c.if-not-is_below.false) c.in_ok-found.ensures.first h);
      left = λ s far h.
          elim (above_case c.args.pool.now f c.args.key c.args.levels (payload_view c.entries.last) c.entries.rest.now s c.requires.key (c.entries.invariant.left s far h)) [
            | inl e ↦ let u = far c.in-Some.after.now (sym e ∙ c.in-Some.ensures.split) in absurd (default_off (sym u.undeclared))
            | inr a ↦
                let at = entry_at c.args.pool.now f c.args.key c.args.tag.number c.args.tag.wire_type c.args.levels c.entries.rest.now c.in-Some.after.now s c.requires.number (omega arith) (omega arith) c.in-Some.ensures.split a.next in
                let same = c.in_ok-found.ensures.complete (written c.args.key a.next.name) a.next.mid at.1 in
                later_above c.args.pool.now f c.args.key c.args.levels c.entries.rest.now s a.next (payload_view c.in_ok-found.found) c.in_ok-found.end.now same.0 same.1
          ];
    }

-- ENTRIES

pub entry_first-returns-then-is_empty-clause-first : goal.entry_first-returns-then-is_empty-clause-first
entry_first-returns-then-is_empty-clause-first t c =
    let w = c.in_ok-tag.tag.wire_type in
    whole_entry c.args.pool.now c.args.key c.args.value c.args.levels c.args.bytes.now c.in_ok-payload.payload.now c.in_ok-found.after.now c.in_ok-tag.after_tag.now c.in_ok-end.end.now
    c.in_ok-payload.rest.now (payload_view c.in_ok-found.found) w (omega (arith, c.if-levels-eq0.false)) c.in_ok-payload.ensures.split c.in_ok-found.ensures.key c.in_ok-found.ensures.split
    (subst (λ n. c.in_ok-found.after.now ≡ tagged n w c.in_ok-tag.after_tag.now) c.if-tag-ne2.false c.in_ok-tag.ensures.tag)
    (subst (λ n. ValueFirst c.args.pool.now c.args.value n c.args.levels (tagged n w c.in_ok-tag.after_tag.now) c.in_ok-end.end.now) c.if-tag-ne2.false c.in_ok-end.ensures.first)
    (eqb-true _ _ (sym c.is_empty.ensures ∙ c.if-is_empty.true))

pub entry_first-returns-then-levels-eq0-clause-complete : goal.entry_first-returns-then-levels-eq0-clause-complete
entry_first-returns-then-levels-eq0-clause-complete t c = λ p s h.
    let parts = entry_parts c.args.pool.now c.args.key c.args.value c.args.levels c.args.bytes.now p s c.requires.key c.requires.open_kind h in
    absurd (let some = parts.some in omega (arith, some, c.if-levels-eq0.true))

pub entry_first-returns-in_err-payload-clause-complete : goal.entry_first-returns-in_err-payload-clause-complete
entry_first-returns-in_err-payload-clause-complete t c = λ p s h.
    let parts = entry_parts c.args.pool.now c.args.key c.args.value c.args.levels c.args.bytes.now p s c.requires.key c.requires.open_kind h in
    absurd (c.in_err-payload.ensures.complete parts.inside s parts.split)

pub entry_first-returns-in_err-found-clause-complete : goal.entry_first-returns-in_err-found-clause-complete
entry_first-returns-in_err-found-clause-complete t c = λ p s h.
    let parts = entry_parts c.args.pool.now c.args.key c.args.value c.args.levels c.args.bytes.now p s c.requires.key c.requires.open_kind h in
    let same = c.in_ok-payload.ensures.complete parts.inside s parts.split in
    absurd (c.in_err-found.ensures.complete p parts.after parts.is_key (same.0 ∙ parts.first))

pub entry_first-returns-in_err-tag-clause-complete : goal.entry_first-returns-in_err-tag-clause-complete
entry_first-returns-in_err-tag-clause-complete t c = λ p s h.
    let parts = entry_parts c.args.pool.now c.args.key c.args.value c.args.levels c.args.bytes.now p s c.requires.key c.requires.open_kind h in
    let same = c.in_ok-payload.ensures.complete parts.inside s parts.split in
    let found = c.in_ok-found.ensures.complete p parts.after parts.is_key (same.0 ∙ parts.first) in
    let front = value_front c.args.pool.now c.args.value 2 c.args.levels parts.after [] parts.second in
    absurd (c.in_err-tag.ensures.complete 2 (wire_type_of c.args.value) _ (omega arith, omega arith) (wire_known c.args.value).0 (found.1 ∙ front))

pub entry_first-returns-then-tag-ne2-clause-complete : goal.entry_first-returns-then-tag-ne2-clause-complete
entry_first-returns-then-tag-ne2-clause-complete t c = λ p s h.
    let parts = entry_parts c.args.pool.now c.args.key c.args.value c.args.levels c.args.bytes.now p s c.requires.key c.requires.open_kind h in
    let same = c.in_ok-payload.ensures.complete parts.inside s parts.split in
    let found = c.in_ok-found.ensures.complete p parts.after parts.is_key (same.0 ∙ parts.first) in
    let front = value_front c.args.pool.now c.args.value 2 c.args.levels parts.after [] parts.second in
    absurd (c.if-tag-ne2.true (c.in_ok-tag.ensures.complete 2 (wire_type_of c.args.value) _ (omega arith, omega arith) (wire_known c.args.value).0 (found.1 ∙ front)).0.0)

pub entry_first-returns-in_err-end-clause-complete : goal.entry_first-returns-in_err-end-clause-complete
entry_first-returns-in_err-end-clause-complete t c = λ p s h.
    let parts = entry_parts c.args.pool.now c.args.key c.args.value c.args.levels c.args.bytes.now p s c.requires.key c.requires.open_kind h in
    let same = c.in_ok-payload.ensures.complete parts.inside s parts.split in
    let found = c.in_ok-found.ensures.complete p parts.after parts.is_key (same.0 ∙ parts.first) in
    absurd
    (c.in_err-end.ensures.complete []
    (entry_value c.args.pool.now c.args.value c.args.levels c.in_ok-tag.tag.number c.in_ok-tag.tag.wire_type parts.after c.in_ok-tag.after_tag.now c.if-tag-ne2.false (sym found.1 ∙ c.in_ok-tag.ensures.tag) parts.second))

pub entry_first-returns-then-is_empty-clause-complete : goal.entry_first-returns-then-is_empty-clause-complete
entry_first-returns-then-is_empty-clause-complete t c = λ p s h.
    let parts = entry_parts c.args.pool.now c.args.key c.args.value c.args.levels c.args.bytes.now p s c.requires.key c.requires.open_kind h in
    let same = c.in_ok-payload.ensures.complete parts.inside s parts.split in
    let found = c.in_ok-found.ensures.complete p parts.after parts.is_key (same.0 ∙ parts.first) in
    (found.0, same.1)

pub entry_first-returns-else-is_empty-clause-complete : goal.entry_first-returns-else-is_empty-clause-complete
entry_first-returns-else-is_empty-clause-complete t c = λ p s h.
    let parts = entry_parts c.args.pool.now c.args.key c.args.value c.args.levels c.args.bytes.now p s c.requires.key c.requires.open_kind h in
    let same = c.in_ok-payload.ensures.complete parts.inside s parts.split in
    let found = c.in_ok-found.ensures.complete p parts.after parts.is_key (same.0 ∙ parts.first) in
    let none = c.in_ok-end.ensures.complete []
    (entry_value c.args.pool.now c.args.value c.args.levels c.in_ok-tag.tag.number c.in_ok-tag.tag.wire_type parts.after c.in_ok-tag.after_tag.now c.if-tag-ne2.false (sym found.1 ∙ c.in_ok-tag.ensures.tag) parts.second) in
    absurd (no_bytes c.in_ok-end.end.now none (nonempty c.in_ok-end.end.now (sym c.is_empty.ensures ∙ c.if-is_empty.false)))
