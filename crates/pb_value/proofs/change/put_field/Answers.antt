use Rattle.pb_value.specs.declared.body.Body.{out-Body}
use Rattle.pb_value.proofs.Views.{body_view-roll, body_view-out}
use Rattle.pb_value.proofs.FieldViews.{fields_view-insert_entry}
use Rattle.pb_value.proofs.OrderLemmas.{RisesFrom-sorted}
use Rattle.pb_value.proofs.change.put_field.Goals as goal

pub returns-clause-ok : goal.returns-clause-ok
returns-clause-ok c = rw (body_view-roll, body_view-out, c.in_ok-insert.ensures.entries, fields_view-insert_entry)

pub returns-clause-rises : goal.returns-clause-rises
returns-clause-rises c = rw body_view-out (RisesFrom-sorted (out-Body c.args.message.now).fields.entries c.in_ok-insert.ensures.was_ordered)

pub returns-in_err-insert-clause-rises : goal.returns-in_err-insert-clause-rises
returns-in_err-insert-clause-rises c = rw body_view-out (RisesFrom-sorted (out-Body c.args.message.now).fields.entries c.in_err-insert.ensures.was_ordered)
