use Rattle.pb_value.specs.Data.{no_fields}
use Rattle.pb_compat.proofs.BodyLemmas.{put_view}
use Rattle.pb_compat.proofs.witnesses.body_of.Goals as goal

pub returns : goal.returns
returns c = put_view c.empty_body-body.result c.insert.new.self c.args.number c.args.content no_fields c.in_ok-insert.ensures.entries c.empty_body-body.ensures
