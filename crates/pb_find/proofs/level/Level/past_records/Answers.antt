use Rattle.std.proofs.Common.{[], ◌∷◌, ◌++◌, ◌∙◌, sym, None, arith}
use Rattle.pb_wire.specs.Record.{Record}
use Rattle.pb_schema.specs.Context.{a_message, schema_of}
use Rattle.pb_value.proofs.ListLemmas.{all_append}
use Rattle.pb_validate.specs.Here.{here}
use Rattle.pb_validate.proofs.JudgeLemmas.{front_none, front_push}
use Rattle.pb_find.specs.Walk.{record_at, IsStranger}
use Rattle.pb_find.proofs.WalkLemmas.{at_none, where_none}
use Rattle.pb_find.proofs.level.Level.past_records.Goals as goal

pub records-init : goal.records-init
records-init c = (
  [],
  record {
    rises = omega arith;
    within = c.requires.at_in_bounds;
    front = front_none (schema_of c.args.self.now.pool.now) (a_message c.args.self.now.message_type.0) c.args.self.now.levels (here c.args.self.now.bytes.now c.args.at None);
  },
  tt,
)

pub returns-in_err-end : goal.returns-in_err-end
returns-in_err-end c = at_none c.from_residual.result _ _ c.from_residual.ensures (record {
  before = c.records.invariant.0;
  at = here c.args.self.now.bytes.now c.records.here None;
  number = c.in-Ok.tag.number;
  type = c.in-Ok.tag.wire_type;
  start = here c.args.self.now.bytes.now c.in-Ok.tag.end None;
  front = c.records.invariant.1.front;
  tag = c.in-Ok.ensures.ok;
  no_end = λ end. let stray = c.in-Ok.ensures.ends end in absurd (cc);
  none = c.in_err-end.ensures;
})

pub records-preserved : goal.records-preserved
records-preserved c =
    let moved = c.in-Ok.ensures.within in
    let ended = c.in_ok-end.ensures.1 in (
      c.records.invariant.0 ++ record_at c.in-Ok.tag.number c.in_ok-end.ensures.0 ∷ [],
      record {
        rises = let h = c.records.invariant.1.rises in let e = ended.rises in omega (arith, h, moved, e);
        within = ended.within;
        front = front_push c.records.invariant.0 c.in_ok-end.ensures.0 c.records.invariant.1.front c.in-Ok.ensures.ok ended.value;
      },
      all_append (λ (r : Record). IsStranger c.args.self.now.pool.now c.args.self.now.message_type.0 c.args.field c.args.shape r.number) c.records.invariant.0
          (record_at c.in-Ok.tag.number c.in_ok-end.ensures.0 ∷ []) c.records.invariant.2
          ((c.if-tag-field.false, where_none c.fellow.result _ _ (sym c.is_some.ensures ∙ c.if-is_some.false) c.fellow.ensures), tt),
    )
