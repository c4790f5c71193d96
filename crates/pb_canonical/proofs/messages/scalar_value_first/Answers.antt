use Rattle.std.proofs.Common.{◌∙◌}
use Rattle.pb_schema.specs.PayloadView.{payload_view}
use Rattle.pb_canonical.proofs.HeldLemmas.{scalar_value}
use Rattle.pb_canonical.proofs.messages.scalar_value_first.Goals as goal

pub returns-clause-first : goal.returns-clause-first
returns-clause-first c =
    scalar_value c.args.pool.now c.args.kind c.args.tag.number c.args.tag.wire_type 0 (payload_view c.in_ok-_payload._payload) c.args.bytes.now c.in_ok-_payload.rest.now
    (c.in_ok-_payload.ensures.of_type ∙ c.requires) c.in_ok-_payload.ensures.plain c.in_ok-_payload.ensures.value c.in_ok-_payload.ensures.payload

pub returns-in_err-_payload-clause-complete : goal.returns-in_err-_payload-clause-complete
returns-in_err-_payload-clause-complete c = λ p s x e. absurd (c.in_err-_payload.ensures.complete p s x e)

pub returns-clause-complete : goal.returns-clause-complete
returns-clause-complete c = λ p s x e. (c.in_ok-_payload.ensures.complete p s x e).1
