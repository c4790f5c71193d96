use Rattle.std.proofs.Common.{List, ℕ, refl, sym, subst, ◌∙◌, arith}
use Rattle.std.proofs.lemmas.Bool.{eqb-true}
use Rattle.pb_schema.specs.Types.{message_fields}
use Rattle.pb_value.specs.WellFormed.{oneof_at}
use Rattle.pb_canonical.proofs.SplitLemmas.{nonempty}
use Rattle.pb_canonical.proofs.OneofLemmas.{RecordsLeft, all_left_first, record_next, records_tag, records_ended}
use Rattle.pb_canonical.proofs.UnknownLemmas.{raw_shorter}
use Rattle.pb_canonical.proofs.oneofs.has_one_record_each.Goals as goal

pub records-init : goal.records-init
records-init c = λ rs h e. all_left_first (oneof_at (message_fields c.args.pool.now c.args.message_type.0)) c.args.first c.args.levels rs c.args.bytes.now h e

pub records-smaller : goal.records-smaller
records-smaller c =
    raw_shorter c.in-Some.tag.number c.in-Some.tag.wire_type c.args.levels c.records.rest.now c.in-Some.after.now c.in-Some-raw_first.end.now c.in-Some.ensures.tag
    c.in-Some-raw_first.ensures.first

pub records-preserved : goal.records-preserved
records-preserved c = λ rs h e.
    let of = oneof_at (message_fields c.args.pool.now c.args.message_type.0) in
    let next = record_next of c.args.first c.records.marks c.args.levels c.in-Some.tag.number c.in-Some.tag.wire_type rs c.records.rest.now c.in-Some.after.now (let number = c.in-Some.ensures.number in omega (arith, number.1))
    c.in-Some.ensures.wire_type (nonempty c.records.rest.now (sym c.is_empty.ensures ∙ c.records-test.true)) c.in-Some.ensures.tag (c.records.invariant rs h e) in
    subst (λ (b : List ℕ). RecordsLeft of c.args.first c.in-Some-with_number.new c.args.levels rs b) (sym (c.in-Some-raw_first.ensures.complete next.mid next.raw))
    (next.step c.in-Some-with_number.new c.in-Some-with_number.ensures.marked)

pub returns : goal.returns
returns c = λ rs h e. (
  λ yes.
      records_ended (oneof_at (message_fields c.args.pool.now c.args.message_type.0)) c.args.first c.records.marks c.args.levels rs c.records.rest.now
      (eqb-true _ _ (sym c.is_empty.ensures ∙ c.records-test.false)) (c.records.invariant rs h e),
  λ each. refl,
)

pub returns-in_default : goal.returns-in_default
returns-in_default c = λ rs h e. (
  λ q. absurd (cc),
  λ each.
      let of = oneof_at (message_fields c.args.pool.now c.args.message_type.0) in
      let tag = records_tag of c.args.first c.records.marks c.args.levels rs c.records.rest.now (nonempty c.records.rest.now (sym c.is_empty.ensures ∙ c.records-test.true)) (c.records.invariant rs h e) in
      absurd (c.in_default.ensures.complete tag.number tag.wire_type tag.rest tag.is_number tag.known tag.split),
)

pub returns-in_default-raw_first : goal.returns-in_default-raw_first
returns-in_default-raw_first c = λ rs h e. (
  λ q. absurd (cc),
  λ each.
      let of = oneof_at (message_fields c.args.pool.now c.args.message_type.0) in
      let next = record_next of c.args.first c.records.marks c.args.levels c.in-Some.tag.number c.in-Some.tag.wire_type rs c.records.rest.now c.in-Some.after.now (let number = c.in-Some.ensures.number in omega (arith, number.1))
      c.in-Some.ensures.wire_type (nonempty c.records.rest.now (sym c.is_empty.ensures ∙ c.records-test.true)) c.in-Some.ensures.tag (c.records.invariant rs h e) in
      absurd (c.in_default-raw_first.ensures.complete next.mid next.raw),
)

pub returns-in_default-with_number : goal.returns-in_default-with_number
returns-in_default-with_number c = λ rs h e. (
  λ q. absurd (cc),
  λ each.
      let of = oneof_at (message_fields c.args.pool.now c.args.message_type.0) in
      let next = record_next of c.args.first c.records.marks c.args.levels c.in-Some.tag.number c.in-Some.tag.wire_type rs c.records.rest.now c.in-Some.after.now (let number = c.in-Some.ensures.number in omega (arith, number.1))
      c.in-Some.ensures.wire_type (nonempty c.records.rest.now (sym c.is_empty.ensures ∙ c.records-test.true)) c.in-Some.ensures.tag (c.records.invariant rs h e) in
      absurd (next.free each c.in_default-with_number.ensures.refused),
)
