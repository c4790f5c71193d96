use Rattle.pb_wire.proofs.UnknownLemmas.{records_of-push}
use Rattle.pb_value.proofs.Views.{body_view-roll, body_view-out}
use Rattle.pb_decode_parts.proofs.values.put.put_unknown.Goals as goal

pub returns-in_ok-push-in-Message : goal.returns-in_ok-push-in-Message
returns-in_ok-push-in-Message c = rw (c.in-Message.is, body_view-roll, body_view-out, c.in_ok-push-in-Message.ensures.items, records_of-push)

pub returns-in_ok-push-in-Group : goal.returns-in_ok-push-in-Group
returns-in_ok-push-in-Group c = rw (c.in-Group.is, c.in_ok-push-in-Group.ensures.items, records_of-push)
