use Rattle.std.proofs.Common.{Some, sym, ap, ◌∙◌, rules}
use Rattle.pb_schema.specs.Types.{message_fields}
use Rattle.pb_value.specs.Data.{Fields, one, fields_of}
use Rattle.pb_value.specs.Change.{gives_way}
use Rattle.pb_value.specs.View.{body_view, value_view}
use Rattle.pb_value.proofs.Views.{body_view-out}
use Rattle.pb_value.proofs.ChangeLemmas.{stored_done}
use Rattle.pb_value.proofs.change.set.store_one.Goals as goal

pub returns-in-Some-clause-ok : goal.returns-in-Some-clause-ok
returns-in-Some-clause-ok c =
    stored_done (message_fields c.args.pool.now c.args.message_type.0) c.args.shape c.args.number (one (value_view c.args.value)) (body_view c.args.message.now)
    (body_view c.put_one.new.message) (body_view c.clear_field-in-Some.new.message) (Some c.in-Some.other) (search rules) c.in_ok-put_one.ensures.ok
    c.clear_field-in-Some.ensures
    (sym c.in-Some.is ∙ c.gives_way-other.ensures
    ∙ ap (λ (fs : Fields). gives_way (message_fields c.args.pool.now c.args.message_type.0) c.args.shape c.args.number fs) (sym (ap fields_of (body_view-out c.args.message.now))))
    c.in_ok-put_one.ensures.rises
