-- The payload is after its length.
use Rattle.std.proofs.Common.{refl}
use Rattle.pb_decode_parts.proofs.AfterLemmas.{after_length}
use Rattle.pb_decode_parts.proofs.tokens.step.begin_payload.Goals as goal

pub returns-clause-after : goal.returns-clause-after
returns-clause-after c = λ pool m depth levels base p0 u t parents scope now bytes begun l. after_length c.args.number c.args.target c.args.size begun refl bytes l
