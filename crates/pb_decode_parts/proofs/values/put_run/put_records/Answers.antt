-- They are after the others.
use Rattle.pb_value.proofs.Views.{body_view-roll, body_view-out}
use Rattle.pb_value.proofs.MergeInPlace.{records_of-append}
use Rattle.pb_decode_parts.proofs.values.put_run.put_records.Goals as goal

pub returns-in_ok-append-in-Message : goal.returns-in_ok-append-in-Message
returns-in_ok-append-in-Message c = rw (c.in-Message.is, body_view-roll, body_view-out, c.in_ok-append-in-Message.ensures, records_of-append)

pub returns-in-Entry : goal.returns-in-Entry
returns-in-Entry c = rw c.in-Entry.is

pub returns-in_ok-append-in-Group : goal.returns-in_ok-append-in-Group
returns-in_ok-append-in-Group c = rw (c.in-Group.is, c.in_ok-append-in-Group.ensures, records_of-append)
