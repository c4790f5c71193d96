use Rattle.std.proofs.Common.{ap}
use Rattle.pb_decode_parts.specs.Open.PartView.{part_view}
use Rattle.pb_decode.proofs.reader.start.body_of.Goals as goal

pub returns-in-Message-clause-message : goal.returns-in-Message-clause-message
returns-in-Message-clause-message c = (c.in-Message.field-0.0, ap part_view c.in-Message.is)
