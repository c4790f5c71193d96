use Rattle.std.proofs.Common.{append_assoc}
use Rattle.pb_listing.proofs.records.push_start.Goals as goal

pub returns-clause-after : goal.returns-clause-after
returns-clause-after c =
    rw (c.push-2.ensures.after, c.push_decimal.ensures.after, c.push.ensures.after, c.push_indent.ensures.after, c.from.ensures) (simp append_assoc)
