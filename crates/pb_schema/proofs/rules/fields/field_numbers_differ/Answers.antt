use Rattle.std.proofs.Common.{arith}
use Rattle.pb_schema.proofs.NumberLemmas.{number_again, number_new}
use Rattle.pb_schema.proofs.rules.fields.field_numbers_differ.Goals as goal

pub returns-then-not-is_new : goal.returns-then-not-is_new
returns-then-not-is_new c =
    number_again c.args.fields.now c.loop-field.field-index c.field-item.result c.loop-field.numbers.keys c.in_ok-is_new.is_new (omega arith) c.field-item.is c.loop-field.invariant.0 c.in_ok-is_new.ensures.added c.if-not-is_new.true

pub loop-field-preserved : goal.loop-field-preserved
loop-field-preserved c =
    number_new c.args.fields.now c.loop-field.field-index c.field-item.result c.loop-field.numbers.keys c.insert.new.self.keys c.in_ok-is_new.is_new (omega arith) c.field-item.is c.loop-field.invariant.0 c.loop-field.invariant.1 c.in_ok-is_new.ensures.added c.if-not-is_new.false c.in_ok-is_new.ensures.keys
