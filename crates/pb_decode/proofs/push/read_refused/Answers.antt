-- Read onto nothing.
use Rattle.pb_value.specs.Derives.{Text}
use Rattle.pb_value.specs.Dynamic.{Dynamic}
use Rattle.pb_value.specs.View.{body_view}
use Rattle.pb_decode_whole.proofs.Top.{nothing_good}
use Rattle.pb_decode.specs.Onto.{IsTextOnto}
use Rattle.pb_decode.proofs.Outcomes.{ok_weaker}
use Rattle.pb_decode.proofs.OntoText.{text_onto_none}
use Rattle.pb_decode.proofs.push.read_refused.Goals as goal

pub read_onto-requires-clause-well_formed : goal.read_onto-requires-clause-well_formed
read_onto-requires-clause-well_formed c = nothing_good c.args.pool.now c.args.message_type.0 (body_view c.empty_body-none.result) c.empty_body-none.ensures

pub returns-clause-value : goal.returns-clause-value
returns-clause-value c =
    ok_weaker c.read_onto.result (λ (m : Dynamic). IsTextOnto c.args.pool.now c.args.message_type.0 c.args.limits (body_view c.empty_body-none.result) c.args.bytes.now m.body) (λ (m : Dynamic). Text c.args.pool.now c.args.message_type.0 c.args.limits c.args.bytes.now m.body)
    (λ m t. text_onto_none c.requires.rules (body_view c.empty_body-none.result) m.body c.empty_body-none.ensures t) c.read_onto.ensures.value
