use Rattle.pb_wire.proofs.VarintLemmas.{shortest-last}
use Rattle.pb_output.proofs.Varints.{shortest_two, shortest_three}
use Rattle.pb_output.proofs.buffer.OutputBuffer.push_varint.Goals as goal

pub returns-then-number-lt128-clause-after : goal.returns-then-number-lt128-clause-after
returns-then-number-lt128-clause-after c = rw (shortest-last c.args.number c.if-number-lt128.true) c.push.ensures.after

pub returns-then-number-lt16384-clause-after : goal.returns-then-number-lt16384-clause-after
returns-then-number-lt16384-clause-after c =
    rw (shortest_two c.args.number c.if-number-lt128.false c.if-number-lt16384.true) c.push-then-number-lt16384.ensures.after

pub returns-then-number-lt2097152-clause-after : goal.returns-then-number-lt2097152-clause-after
returns-then-number-lt2097152-clause-after c =
    rw (shortest_three c.args.number c.if-number-lt16384.false c.if-number-lt2097152.true) c.push-then-number-lt2097152.ensures.after
