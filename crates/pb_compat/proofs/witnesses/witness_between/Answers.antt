use Rattle.std.proofs.Common.{◌∙◌, sym, ap, option_map, Option, Bor}
use Rattle.pb_schema.specs.declared.types.Field.{Field}
use Rattle.pb_schema.specs.View.{field_view}
use Rattle.pb_value.specs.View.{content_view}
use Rattle.pb_value.proofs.Options.{at_some}
use Rattle.pb_compat.specs.Witness.{IsLost, IsSettable, of_one, of_two}
use Rattle.pb_compat.proofs.witnesses.witness_between.Goals as goal

pub returns-in-Some-clause-built : goal.returns-in-Some-clause-built
returns-in-Some-clause-built c =
    let old = c.args.old.now in
    let new = c.args.new.now in
    of_one (content_view c.in-Some.content)
    (at_some c.in_ok-content.field-0 (λ x. IsLost old new (field_view c.args.from.now) (field_view c.args.to.now) (content_view x)) c.in-Some.content c.in_ok-content.ensures.lost c.in-Some.is)
    c.in_ok-body_of.ensures

pub body_of_two-requires-clause-other : goal.body_of_two-requires-clause-other
body_of_two-requires-clause-other c = at_some c.partner.result (λ f. IsSettable c.args.old.now (field_view f.now)) c.in-Some-partner.other c.partner.ensures.settable c.in-Some-partner.is

pub returns-in_ok-body_of_two-in-Some-partner-clause-built : goal.returns-in_ok-body_of_two-in-Some-partner-clause-built
returns-in_ok-body_of_two-in-Some-partner-clause-built c =
    of_two (field_view c.in-Some-partner.other.now) (sym c.partner.ensures.found ∙ ap (λ (o : Option (Bor Field)). option_map (λ f. field_view f.now) o) c.in-Some-partner.is)
    c.in_ok-body_of_two-in-Some-partner.ensures
