use Rattle.std.proofs.Common.{◌∙◌}
use Rattle.pb_schema.specs.View.{field_view}
use Rattle.pb_value.specs.View.{content_view}
use Rattle.pb_value_tests.proofs.ChoiceLemmas.{makes_choice, is_chosen, is_alone}
use Rattle.pb_value_tests.proofs.choice.choose.Goals as goal

pub returns-clause-chosen : goal.returns-clause-chosen
returns-clause-chosen c =
    c.which_oneof.ensures ∙ is_chosen _ _ _ _ _ _ (makes_choice c.args.message.now c.set.new.self c.pool.result.now c.message_type-kind.result.0 c.args.number c.in-OneofMember.oneof (content_view c.args.content)
    (field_view c.in-Some.field.now) c.in-Some.ensures.found c.pool.ensures c.message_type-kind.ensures.named c.in-OneofMember.is c.in_ok-set.ensures.judged
    c.in_ok-set.ensures.ok c.body.ensures.well_formed)

pub returns-clause-alone : goal.returns-clause-alone
returns-clause-alone c =
    is_alone _ _ _ _ _ _ (makes_choice c.args.message.now c.set.new.self c.pool.result.now c.message_type-kind.result.0 c.args.number c.in-OneofMember.oneof (content_view c.args.content)
    (field_view c.in-Some.field.now) c.in-Some.ensures.found c.pool.ensures c.message_type-kind.ensures.named c.in-OneofMember.is c.in_ok-set.ensures.judged
    c.in_ok-set.ensures.ok c.body.ensures.well_formed)
