use Rattle.std.proofs.Common.{◌≡◌, ◌∙◌, ap, sym, refl, length}
use Rattle.std.specs.Prelude.{true, option_and_then}
use Rattle.pb_wire.specs.RecordIter.{seen}
use Rattle.pb_schema.specs.View.{field_view}
use Rattle.pb_value.proofs.Numbers.{number_is}
use Rattle.pb_find.specs.Found.{counts_for, kept}
use Rattle.pb_find.specs.Loops.{payload_of}
use Rattle.pb_find.specs.Walk.{record_at}
use Rattle.pb_find.specs.View.{found_view}
use Rattle.pb_find.proofs.TargetLemmas.{scalar_counts, scalar_before, rival_counts, rival_ends, other_stays, no_fellow_stays, not_nothing}
use Rattle.pb_find.proofs.WalkLemmas.{only_record, payload_read, after_one, plain_counts}
use Rattle.pb_find.proofs.level.Level.other_found.Goals.{in_default-fellow-via-in-Some-fellow+else-counts-2, in_default-fellow-via-in_default-fellow}
use Rattle.pb_find.proofs.level.Level.other_found.Goals as goal

pub only_payload-payload-requires : goal.only_payload-payload-requires
only_payload-payload-requires c = (only_record c.args.self.now c.args.tag c.in_ok-end.end c.requires.after c.in_ok-end.ensures).0

pub counts-requires-clause-wire_type : goal.counts-requires-clause-wire_type
counts-requires-clause-wire_type c =
    sym (payload_read c.args.self.now c.args.tag c.in_ok-end.end (payload_of (seen c.only_payload-payload.result)) c.requires.after c.in_ok-end.ensures c.only_payload-payload.ensures).value.type

pub returns-then-not-is_empty : goal.returns-then-not-is_empty
returns-then-not-is_empty c =
    let p = payload_of (seen c.only_payload-payload.result) in
    let read = payload_read c.args.self.now c.args.tag c.in_ok-end.end p c.requires.after c.in_ok-end.ensures c.only_payload-payload.ensures in
    let own = c.in-Some.own in
    let e : counts_for c.args.self.now.pool.now (field_view own.field.now) (record_at c.args.tag.number p) ≡ true = sym c.counts.ensures ∙ c.if-counts.true in
    let plain = plain_counts c.args.self.now own c.args.tag.number (found_view c.args.before) p c.in-Some.is c.requires.after.can c.args.tag refl c.requires.plain (sym read.value.type) e in (
      p,
      read,
      scalar_before c.args.self.now.pool.now c.args.self.now.message_type.0 c.args.tag.number own.rest.now (field_view own.field.now) (found_view c.args.before) p plain.0
          (not_nothing (length own.rest.now) (sym c.is_empty.ensures ∙ c.if-not-is_empty.true)) e
          ∙ after_one c.args.self.now own c.args.tag.number (found_view c.args.before) p c.in-Some.is c.requires.after.can,
    )

pub scalar_of-scalar-requires : goal.scalar_of-scalar-requires
scalar_of-scalar-requires c =
    let p = payload_of (seen c.only_payload-payload.result) in
    let read = payload_read c.args.self.now c.args.tag c.in_ok-end.end p c.requires.after c.in_ok-end.ensures c.only_payload-payload.ensures in
    let own = c.in-Some.own in
    let e : counts_for c.args.self.now.pool.now (field_view own.field.now) (record_at c.args.tag.number p) ≡ true = sym c.counts.ensures ∙ c.if-counts.true in
    (plain_counts c.args.self.now own c.args.tag.number (found_view c.args.before) p c.in-Some.is c.requires.after.can c.args.tag refl c.requires.plain (sym read.value.type) e).1
    (number_is (length own.rest.now) 0 (sym c.is_empty.ensures ∙ c.if-not-is_empty.false))

pub returns-then-counts : goal.returns-then-counts
returns-then-counts c =
    let p = payload_of (seen c.only_payload-payload.result) in
    let read = payload_read c.args.self.now c.args.tag c.in_ok-end.end p c.requires.after c.in_ok-end.ensures c.only_payload-payload.ensures in
    let own = c.in-Some.own in
    let e : counts_for c.args.self.now.pool.now (field_view own.field.now) (record_at c.args.tag.number p) ≡ true = sym c.counts.ensures ∙ c.if-counts.true in
    let plain = plain_counts c.args.self.now own c.args.tag.number (found_view c.args.before) p c.in-Some.is c.requires.after.can c.args.tag refl c.requires.plain (sym read.value.type) e in (
      p,
      read,
      c.kept.ensures ∙ ap (option_and_then (kept own.field.now.shape)) c.scalar_of-scalar.ensures
          ∙ scalar_counts c.args.self.now.pool.now c.args.self.now.message_type.0 c.args.tag.number own.rest.now (field_view own.field.now) (found_view c.args.before) p plain.0
          (number_is (length own.rest.now) 0 (sym c.is_empty.ensures ∙ c.if-not-is_empty.false)) e
          ∙ after_one c.args.self.now own c.args.tag.number (found_view c.args.before) p c.in-Some.is c.requires.after.can,
    )

pub counts-requires-in-Some-fellow-clause-wire_type : goal.counts-requires-in-Some-fellow-clause-wire_type
counts-requires-in-Some-fellow-clause-wire_type c =
    sym (payload_read c.args.self.now c.args.tag c.in_ok-end.end (payload_of (seen c.only_payload-payload.result)) c.requires.after c.in_ok-end.ensures c.only_payload-payload.ensures).value.type

pub returns-in-Some-fellow : goal.returns-in-Some-fellow
returns-in-Some-fellow c =
    let p = payload_of (seen c.only_payload-payload.result) in
    let own = c.in-Some.own in
    let found = c.in-Some-fellow.ensures in (
      p,
      payload_read c.args.self.now c.args.tag c.in_ok-end.end p c.requires.after c.in_ok-end.ensures c.only_payload-payload.ensures,
      rival_ends c.args.self.now.pool.now c.args.self.now.message_type.0 c.args.tag.number own.rest.now (field_view own.field.now) (found_view c.args.before) p
          (sym c.counts.ensures ∙ c.if-counts.false)
          (sym (rival_counts c.args.self.now.pool.now c.args.self.now.message_type.0 c.args.tag.number (field_view own.field.now) (field_view c.in-Some-fellow.other.now) p c.requires.after.can.rules found.0 found.1)
          ∙ sym c.if-counts-2.ensures)
          ∙ after_one c.args.self.now own c.args.tag.number (found_view c.args.before) p c.in-Some.is c.requires.after.can,
    )

pub returns-in_default-fellow : goal.returns-in_default-fellow
returns-in_default-fellow c =
    let p = payload_of (seen c.only_payload-payload.result) in
    let own = c.in-Some.own in (
      p,
      payload_read c.args.self.now c.args.tag c.in_ok-end.end p c.requires.after c.in_ok-end.ensures c.only_payload-payload.ensures,
      (elim c.in_default-fellow.branch [
        | in_default-fellow-via-in-Some-fellow+else-counts-2 w ↦
            other_stays c.args.self.now.pool.now c.args.self.now.message_type.0 c.args.tag.number own.rest.now (field_view own.field.now) (found_view c.args.before) p
            (sym c.counts.ensures ∙ c.if-counts.false)
            (sym (rival_counts c.args.self.now.pool.now c.args.self.now.message_type.0 c.args.tag.number (field_view own.field.now) (field_view w.in-Some-fellow.other.now) p c.requires.after.can.rules w.in-Some-fellow.ensures.0 w.in-Some-fellow.ensures.1)
            ∙ sym w.if-counts-2.ensures)
        | in_default-fellow-via-in_default-fellow w ↦
            no_fellow_stays c.args.self.now.pool.now c.args.self.now.message_type.0 c.args.tag.number own.rest.now (field_view own.field.now) (found_view c.args.before) p
            (sym c.counts.ensures ∙ c.if-counts.false) w.in_default-fellow.ensures
      ])
          ∙ after_one c.args.self.now own c.args.tag.number (found_view c.args.before) p c.in-Some.is c.requires.after.can,
    )
