use Rattle.pbtool_command.proofs.all_frames.take_frame.Goals as goal

pub returns-in-Some-clause-next : goal.returns-in-Some-clause-next
returns-in-Some-clause-next g c =
    let next = rw c.in-Some.is at (c.in_ok-held.ensures.next (g.I.Input.left c.args.input.now.input)) in rw c.in_ok-held.ensures.unread next
