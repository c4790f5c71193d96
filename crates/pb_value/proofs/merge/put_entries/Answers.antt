use Rattle.pb_value.proofs.PartViews.{puts_one}
use Rattle.std.proofs.Common.{◌∙◌}
use Rattle.pb_value.proofs.merge.put_entries.Goals as goal

pub loop-key-preserved : goal.loop-key-preserved
loop-key-preserved c =
    let keys = c.loop-key.invariant.keys in
    let more = puts_one keys.0 c.in-Some.key c.in-Some.value c.loop-key.key-iterator c.next.new.self c.loop-key.entries.entries c.insert.new.self.entries c.in-Some.ensures.steps
    c.in_ok-insert.ensures.entries keys.1 keys.2 in
    record { keys = (keys.0, more.keys.0, more.keys.1); put = more.put ∙ c.loop-key.invariant.put }
