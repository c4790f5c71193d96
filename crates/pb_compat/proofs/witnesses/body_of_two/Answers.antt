use Rattle.pb_value.specs.Data.{field, no_fields}
use Rattle.pb_value.specs.View.{content_view}
use Rattle.pb_compat.proofs.BodyLemmas.{put_view}
use Rattle.pb_compat.proofs.witnesses.body_of_two.Goals as goal

pub returns : goal.returns
returns c = record {
  first = content_view c.in_ok-content.content;
  second = content_view c.in_ok-second.second;
  holds_first = c.in_ok-content.ensures;
  holds_second = c.in_ok-second.ensures;
  same = put_view c.in_ok-body.body c.insert.new.self c.args.other.now.number c.in_ok-second.second (field c.args.from.now.number (content_view c.in_ok-content.content) no_fields) c.in_ok-insert.ensures.entries c.in_ok-body.ensures;
}
